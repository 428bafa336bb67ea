use Rattle.std.proofs.Common.{rules}
use Rattle.serde_json.specs.View.{number_view}
use Rattle.sentry_tables.proofs.Tokens.{natural_number_wrote, whole_number_wrote, float_wrote}
use Rattle.sentry_tables.proofs.any.write_number.Goals as goal

pub returns-in-Some : goal.returns-in-Some
returns-in-Some c = natural_number_wrote (number_view c.args.number.now) _ _ _ _ (search rules) c.u64.ensures

pub returns-in-Some-as_i64 : goal.returns-in-Some-as_i64
returns-in-Some-as_i64 c = whole_number_wrote (number_view c.args.number.now) _ _ _ _ (search rules) (search rules) c.i64.ensures

pub returns-in-Some-as_f64 : goal.returns-in-Some-as_f64
returns-in-Some-as_f64 c = float_wrote (number_view c.args.number.now) _ _ _ (search rules) (search rules)
