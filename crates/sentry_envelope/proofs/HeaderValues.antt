-- Headers that can be written.
use Rattle.std.proofs.Common.{◌≡◌, Result, Ok, Err, false, refl}
use Rattle.std.specs.Prelude.{OnOk}
use Rattle.serde_json.specs.Written.{has_float}
use Rattle.sentry_json.proofs.Sound.{sound_without_float}
use Rattle.sentry_tables.proofs.Laws.{has_laws}
use Rattle.sentry_tables.specs.Cell.{Cell}
use Rattle.sentry_tables.specs.Laws.{HasLaws}
use Rattle.sentry_tables.specs.Written.{tree}
use Rattle.sentry_envelope.specs.EnvelopeView.{IsStoredAndPlain, no_fields}
use Rattle.sentry_envelope.specs.HeaderFields.{header_fields, header_kind}
use Rattle.sentry_envelope.proofs.EnvelopeFill.{IsWrittenAsNormal}
use Rattle.sentry_envelope.proofs.SentryProfile.{header_lawful}

pub header_laws : HasLaws header_kind
header_laws = has_laws header_kind header_lawful

-- the tree of a header that is stored and plain holds no floats
pub header_whole : (h : Cell) → IsStoredAndPlain header_kind h → has_float (tree header_kind h) ≡ false
header_whole h both = sound_without_float (tree header_kind h) (header_laws.written h both.0 both.1)

-- what holds of a whole tree holds of a header that is stored and plain
pub where_stored_and_plain : {E : Type 0} (r : Result (Unit {0}) E) (P Q R : Type 0) → (R → P) → OnOk r (P → Q) → OnOk r (R → Q)
where_stored_and_plain (Ok u) P Q R f h = λ x. h (f x)
where_stored_and_plain (Err e) P Q R f h = tt

-- a header without fields is written as its normal form is
pub no_fields_rewritten : IsWrittenAsNormal header_kind no_fields
unfolding header_fields
no_fields_rewritten = (((tt, (tt, (tt, (tt, (tt, tt))))), refl), ((tt, (tt, (tt, (tt, (tt, tt))))), (tt, refl)), refl)
