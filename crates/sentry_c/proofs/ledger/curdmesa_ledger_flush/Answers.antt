use Rattle.std.proofs.Common.{rules}
use Rattle.sentry_c.proofs.ledger.curdmesa_ledger_flush.Goals as goal

pub returns : goal.returns
returns c = record {
  reports = search rules;
  empties = search rules;
  no_room = search rules;
  nothing = search rules;
  something = search rules;
  moment = search rules;
  is_moment = search rules;
  argument = search rules;
  long = search rules;
  memory = search rules;
  unchanged = search rules;
  out_unchanged = search rules;
  no_text = search rules;
  answers = search rules;
}
