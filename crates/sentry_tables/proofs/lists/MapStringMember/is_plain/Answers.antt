use Rattle.sentry_tables.proofs.Collections.{ordered_texts}
use Rattle.sentry_tables.proofs.lists.MapStringMember.is_plain.Goals as goal

pub returns-clause-stored : goal.returns-clause-stored
returns-clause-stored g c = λ h.
    let l = c.loop-key in
    let left = c.in-None.ensures.steps.0 in
    (ordered_texts g.T.Member.cell_of c.args.self.now.entries c.iter-key-items.ensures.ordered (l.invariant.texts (rw left tt)), l.invariant.stored (rw left tt))
