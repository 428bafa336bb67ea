use Rattle.std.proofs.Common.{refl}
use Rattle.sentry_tables.proofs.SoundTrees.{sound_members_are_stored}
use Rattle.sentry_tables.proofs.Soundness.{members_sound}
use Rattle.sentry_writing.proofs.kept.others_are_plain.Goals as goal

pub returns-clause-stored : goal.returns-clause-stored
returns-clause-stored c = λ e.
    let all = c.args.others.now.entries in
    sound_members_are_stored _ (members_sound all _ refl c.iter-key-items.ensures.ordered (c.loop-key.invariant.sound (rw c.in-None.ensures.steps.0 tt)))
