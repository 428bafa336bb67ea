use Rattle.std.proofs.Common.{None, Some, lit<, sym}
use Rattle.std.proofs.lemmas.Str.Pattern.{split_once_first}
use Rattle.sentry_keys.proofs.AuthItems.{no_pair, a_pair}
use Rattle.sentry_keys.proofs.auth.item_pair.Goals as goal

pub returns-in_err-key : goal.returns-in_err-key
returns-in_err-key c =
    let none = split_once_first 61 c.args.item.now None c.in_err-key.ensures.cases (lit< tt) in
    rw c.from_residual.ensures (sym (no_pair c.args.item.now none))

pub returns : goal.returns
returns c =
    let cut = split_once_first 61 c.args.item.now (Some (c.in_ok-key.key, c.in_ok-key.rest)) c.in_ok-key.ensures.cases (lit< tt) in
    let pair = a_pair c.args.item.now c.in_ok-key.key.now c.in_ok-key.rest.now c.before-2.result.now cut.0 cut.1 cut.2 c.before-2.ensures in
    rw (c.trim.ensures.trim, c.trim-2.ensures.trim) (sym pair)
