use Rattle.std.proofs.Common.{rules}
use Rattle.sentry_rows.proofs.CaseMaps.{is_usual}
use Rattle.sentry_rows.proofs.case_map.AsCaseMapDefaultedCodecMapString.is_usual.Goals as goal

pub returns : goal.returns
returns g c = is_usual g.T.Cased.cases g.T.CasedByKey.fallback_word g.T.Cased.choice_of c.args.value.now.entries c.is_empty.result (search rules)
