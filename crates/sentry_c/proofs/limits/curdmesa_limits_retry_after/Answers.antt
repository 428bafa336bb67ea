use Rattle.std.proofs.Common.{rules}
use Rattle.sentry_c.proofs.limits.curdmesa_limits_retry_after.Goals as goal

pub returns : goal.returns
returns c = record {
  held = λ ok. c.hold_row.ensures.held (search rules);
  not_utf8 = λ is. c.hold_row.ensures.not_utf8 (search rules);
  utf8 = λ is. c.hold_row.ensures.utf8 (search rules);
  moment = search rules;
  argument = search rules;
  long = search rules;
  unchanged = search rules;
  answers = search rules;
}
