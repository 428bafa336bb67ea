use Rattle.std.proofs.Common.{OnOk, ◌∙◌, subst}
use Rattle.sentry_tables.specs.Writes.{WritesTree}
use Rattle.sentry_writing.proofs.OfTables.{kept_text}
use Rattle.sentry_rows.proofs.form.AsKeptCodec.write.Goals as goal

pub returns : goal.returns
returns g c = subst (λ t. OnOk c.write_rows.result (WritesTree t c.args.out.now c.write_rows.new.out)) (kept_text g.T.Table.lines c.args.value.now g.met.T.Table.ordered _ _ _ _ c.none.ensures (c.new.ensures ∙ c.others.ensures)) c.write_rows.ensures
