use Rattle.std.proofs.Common.{ap, rules}
use Rattle.sentry_items.proofs.Texts.{own_behind}
use Rattle.sentry_items.proofs.text.Text.take.Goals as goal

pub returns : goal.returns
returns c =
    own_behind c.args.self.now.parts.items c.push.new.self.items _ c.args.self.now.end.items c.args.bytes.now.items c.replace-own.new.dest.items
    c.in_ok-push.ensures.items (ap (λ v. v.items) c.replace-own.ensures.value) (search rules) (search rules)
