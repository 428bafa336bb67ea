use Rattle.std.proofs.Common.{arith}
use Rattle.sentry_moments.proofs.AsciiTexts.{decimal_text-utf8}
use Rattle.sentry_moments.proofs.DecimalReadBack.{decimal_reads_back}
use Rattle.sentry_moments.proofs.DecimalTexts.{one_worth, is_decided}
use Rattle.sentry_moments.proofs.laws.decimal_texts.Goals as goal

pub returns : goal.returns
returns c = record {
  read_back = λ secs nanos h. decimal_reads_back secs nanos (omega arith) h.1;
  are_texts = decimal_text-utf8;
  one = one_worth;
  decided = is_decided;
}
