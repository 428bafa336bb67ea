use Rattle.std.proofs.Common.{arith}
use Rattle.sentry_text.proofs.NumberTexts.{number_of_iff, written_number}
use Rattle.sentry_text.proofs.laws.numbers.Goals as goal

pub returns-clause-texts : goal.returns-clause-texts
returns-clause-texts c = number_of_iff 10

pub returns-clause-read_back : goal.returns-clause-read_back
returns-clause-read_back c = λ n small. written_number 10 n (omega arith) (omega arith) (omega arith) small
