-- The two closures of a pair of callbacks.
use Rattle.sentry_envelope.specs.declared.filter.EnvelopeFilterCallbacks.{EnvelopeFilterCallbacks}

-- the closure that is asked
abbrev pub asking : {F P : Type 0} → EnvelopeFilterCallbacks F P → F
asking callbacks = callbacks.filter

-- the closure that is given the items that go
abbrev pub handing : {F P : Type 0} → EnvelopeFilterCallbacks F P → P
handing callbacks = callbacks.on_filtered
