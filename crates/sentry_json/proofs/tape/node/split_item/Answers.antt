use Rattle.std.proofs.Common.{◌∙◌, ◌∷◌, ap, refl, length, min}
use Rattle.std.proofs.lemmas.List.{nil_from_length}
use Rattle.sentry_json.specs.Tokens.{items_of, members_of}
use Rattle.sentry_json.proofs.TokenLists.{first_split, item_split, member_split, items_end, members_end_one}
use Rattle.sentry_json.proofs.tape.node.split_item.Goals as goal

pub returns-in_err-first : goal.returns-in_err-first
returns-in_err-first c =
    let none = nil_from_length c.args.tokens.now c.in_err-first.ensures.cases in
    rw c.from_residual.ensures (record {
      item = ap items_of none ∙ items_end;
      member = λ k before. ap (λ ts. members_of (k ∷ ts) before) none ∙ members_end_one k before;
      lengths = tt;
    })

pub returns : goal.returns
returns c =
    let first = c.in_ok-first in
    let ts = first.behind.now in
    let all = c.args.tokens.now in
    let t = first.first.now in
    let parts = first_split ts all _ t c.min-width.result first.ensures.cases.0 (c.min-width.ensures ∙ ap (λ w. min w (length ts)) c.width.ensures) refl in
    record {
      item = item_split ts all _ _ t first.ensures.cases.0 parts.0 parts.1;
      member = λ k s before. member_split ts all _ _ k t s before first.ensures.cases.0 parts.0 parts.1;
      lengths = (parts.2, parts.3);
    }
