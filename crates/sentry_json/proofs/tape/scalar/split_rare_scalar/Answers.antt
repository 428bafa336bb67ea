use Rattle.sentry_json.proofs.WordsAndTexts.{null_spelled, true_spelled, false_spelled}
use Rattle.sentry_json.proofs.tape.scalar.split_rare_scalar.Goals as goal

pub returns-in_ok-after_word-in-110-clause-spelled : goal.returns-in_ok-after_word-in-110-clause-spelled
returns-in_ok-after_word-in-110-clause-spelled c = null_spelled c.args.text.text.now _ c.in_ok-after_word-in-110.ensures

pub returns-in_ok-after_word-in-116-clause-spelled : goal.returns-in_ok-after_word-in-116-clause-spelled
returns-in_ok-after_word-in-116-clause-spelled c = true_spelled c.args.text.text.now _ c.in_ok-after_word-in-116.ensures

pub returns-in_ok-after_word-in-102-clause-spelled : goal.returns-in_ok-after_word-in-102-clause-spelled
returns-in_ok-after_word-in-102-clause-spelled c = false_spelled c.args.text.text.now _ c.in_ok-after_word-in-102.ensures
