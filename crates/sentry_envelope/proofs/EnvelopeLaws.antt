-- Each law of envelopes holds of each lawful profile.
use Rattle.sentry_envelope.specs.Profile.{Profile, ProfileLaws}
use Rattle.sentry_envelope.specs.EnvelopeLaws.{EnvelopeLaws}
use Rattle.sentry_envelope.proofs.EnvelopeAnswers.{one_answer}
use Rattle.sentry_envelope.proofs.EnvelopeBack.{back}
use Rattle.sentry_envelope.proofs.EnvelopeNormal.{stable}
use Rattle.sentry_envelope.proofs.EnvelopeForms.{normal_sized, one_form, rewritten, spelled_one_form, twice}
use Rattle.sentry_envelope.proofs.EnvelopeSized.{short}

pub envelope_laws : (P : Profile) → ProfileLaws P → EnvelopeLaws P
envelope_laws P laws = record {
  one_answer = one_answer P laws;
  back = back P laws;
  stable = stable P laws;
  one_form = one_form P laws;
  rewritten = rewritten P laws;
  twice = twice P laws;
  short = short P;
  normal_sized = normal_sized P laws;
  spelled_one_form = spelled_one_form P laws;
}
