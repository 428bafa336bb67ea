use Rattle.std.proofs.Common.{◌∙◌, refl}
use Rattle.sentry_envelope.specs.SentryProfile.{profile}
use Rattle.sentry_moments.specs.Moments.{moment_cell}
use Rattle.sentry_mending.proofs.Left.{left_mended}
use Rattle.sentry_mending.proofs.mending.leave_item.Goals as goal

pub returns : goal.returns
returns g c =
    let told = c.in_ok-fault.ensures in
    left_mended profile (moment_cell c.args.now) c.args.rules c.args.bytes.now c.args.stands.now _ c.in_ok-fault.fault c.args.error.now c.args.spot.now.start c.args.spot.now.end c.requires.refused c.requires.fails refl (told.0 ∙ c.same.ensures) told.1 told.2 told.3 (c.in_ok-frame.ensures.leaves c.in_ok-fault.fault told.2 told.3) (c.in_ok-frame.ensures.honest c.args.bytes.now) c.new.ensures.items c.new-2.ensures.items
