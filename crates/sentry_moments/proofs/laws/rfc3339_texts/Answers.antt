use Rattle.sentry_moments.proofs.AsciiTexts.{rfc3339_text-utf8}
use Rattle.sentry_moments.proofs.Rfc3339ReadBack.{reads_back}
use Rattle.sentry_moments.proofs.Rfc3339Texts.{one_moment, is_decided}
use Rattle.sentry_moments.proofs.laws.rfc3339_texts.Goals as goal

pub returns : goal.returns
returns c = record { read_back = reads_back; are_texts = rfc3339_text-utf8; one = one_moment; decided = is_decided }
