use Rattle.std.proofs.Common.{◌≡◌, ℕ, List, [], ◌∷◌, ◌++◌, Option, Some, IfSome, sym, subst}
use Rattle.std.specs.List.{All}
use Rattle.std.proofs.lemmas.List.Elements.{All-push}
use Rattle.sentry_tables.specs.Cell.{Cell}
use Rattle.sentry_framing.specs.declared.error.EnvelopeError.{EnvelopeError}
use Rattle.sentry_envelope.specs.Profile.{Profile}
use Rattle.sentry_envelope.specs.SentryProfile.{profile}
use Rattle.sentry_moments.specs.Moments.{moment_cell}
use Rattle.sentry_mending.specs.MendedItems.{IsMended}
use Rattle.sentry_mending.specs.declared.mending.MendRules.{MendRules}
use Rattle.sentry_mending.specs.declared.mending.MendedItem.{MendedItem}
use Rattle.sentry_mending.proofs.mending.push_mended.Goals as goal

mended_pushed : (P : Profile) (now : Cell) (rules : MendRules) (bytes : List ℕ) (stands : Option EnvelopeError) (before after : List MendedItem) (m : MendedItem) (o : Option MendedItem) → All (IsMended P now rules bytes stands) before → IfSome o (IsMended P now rules bytes stands) → o ≡ Some m → after ≡ before ++ m ∷ [] → All (IsMended P now rules bytes stands) after
mended_pushed P now rules bytes stands before after m o all made is pushed =
    let one : IsMended P now rules bytes stands m = subst (λ (x : Option MendedItem). IfSome x (IsMended P now rules bytes stands)) is made in
    subst (All (IsMended P now rules bytes stands)) (sym pushed) (All-push (IsMended P now rules bytes stands) before m all one)

pub returns : goal.returns
returns g c =
    mended_pushed profile (moment_cell c.args.now) c.args.rules c.args.bytes.now c.args.stands.now c.args.items.now.items c.push.new.self.items c.in-Some.mended c.in_ok-mended.field-0 c.requires.mended c.in_ok-mended.ensures c.in-Some.is c.in_ok-push.ensures.items
