use Rattle.std.proofs.Common.{rules, ap}
use Rattle.sentry_items.proofs.Texts.{lent_behind}
use Rattle.sentry_items.proofs.text.Text.lend.Goals as goal

pub returns : goal.returns
returns c =
    lent_behind c.args.self.now.parts.items c.push.new.self.items (record { own = c.replace-own.result; lent = c.args.bytes }) c.args.self.now.end.items c.replace-own.new.dest.items
    c.in_ok-push.ensures.items (ap (λ v. v.items) c.replace-own.ensures.value) (search rules)
