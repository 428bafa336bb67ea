-- That what is refused is accepted at no moment.
use Rattle.std.proofs.Common.{◌↔◌, ℕ, List, Option, Some, None, refl}
use Rattle.std.specs.Prelude.{IfSome, IsNone}
use Rattle.sentry_tables.specs.Cell.{Cell}
use Rattle.sentry_framing.specs.declared.error.EnvelopeError.{EnvelopeError}
use Rattle.sentry_envelope.specs.SentryProfile.{profile}
use Rattle.sentry_envelope.proofs.EnvelopeAnswers.{spelled_or_at_fault}
use Rattle.sentry_envelope.proofs.SentryProfile.{profile_lawful}
use Rattle.sentry_mending.specs.Alone.{Fails, Reads}
use Rattle.sentry_mending.specs.declared.explaining.Explanation.{Explanation}
use Rattle.sentry_show.specs.Verdicts.{IsAccepted}

refused : (bytes : List ℕ) (error : EnvelopeError) → Fails profile bytes error → IsAccepted bytes → ⊥
unfolding Reads profile
refused bytes error fails accepted = spelled_or_at_fault profile profile_lawful bytes accepted.0 accepted.1.0 error accepted.1.1 fails

pub exactly : (bytes : List ℕ) (now : Cell) (o : Option Explanation) → (IsNone o → Reads profile now bytes) → IfSome o (λ x. Fails profile bytes x.error) → IsNone o ↔ IsAccepted bytes
exactly bytes now None reads fails = (λ none. (now, reads none), λ accepted. refl)
exactly bytes now (Some x) reads fails = (λ none. absurd (cc), λ accepted. absurd (refused bytes x.error fails accepted))
