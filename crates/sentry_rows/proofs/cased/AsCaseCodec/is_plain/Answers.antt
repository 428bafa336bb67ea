use Rattle.sentry_rows.proofs.CasesGiven.{case_plain, case_stored}
use Rattle.sentry_rows.proofs.cased.AsCaseCodec.is_plain.Goals as goal

pub returns-clause-plain : goal.returns-clause-plain
returns-clause-plain g c = case_plain _ g.T.Cased.cases _ c.give.ensures

pub returns-clause-stored : goal.returns-clause-stored
returns-clause-stored g c = case_stored _ g.T.Cased.cases _ c.give.ensures
