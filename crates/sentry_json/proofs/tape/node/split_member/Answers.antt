use Rattle.std.proofs.Common.{◌∙◌, ap, sym, arith}
use Rattle.std.proofs.lemmas.List.{nil_from_length}
use Rattle.sentry_json.specs.Tokens.{members_of}
use Rattle.sentry_json.proofs.TokenLists.{members_end, members_end_none}
use Rattle.sentry_json.proofs.tape.node.split_member.Goals as goal

pub returns-in_err-first : goal.returns-in_err-first
returns-in_err-first c =
    rw c.from_residual.ensures (λ before. ap (λ ts. members_of ts before) (nil_from_length c.args.tokens.now c.in_err-first.ensures.cases) ∙ members_end before)

pub returns-in_err-key : goal.returns-in_err-key
returns-in_err-key c =
    let first = c.in_ok-first in
    rw c.from_residual-in_err-key.ensures (λ before. ap (λ ts. members_of ts before) first.ensures.cases.0 ∙ members_end_none first.first.now first.behind.now before (sym c.in_err-key.ensures.text))

pub returns-in_err-node : goal.returns-in_err-node
returns-in_err-node c =
    let first = c.in_ok-first in
    rw c.from_residual-in_err-node.ensures (λ before. ap (λ ts. members_of ts before) first.ensures.cases.0 ∙ c.in_err-node.ensures.member first.first.now before)

pub returns : goal.returns
returns c =
    let first = c.in_ok-first in
    let node = c.in_ok-node in (
      λ before. ap (λ ts. members_of ts before) first.ensures.cases.0 ∙ node.ensures.member first.first.now c.in_ok-key.key.now before (sym c.in_ok-key.ensures.text),
      omega (arith, node.ensures.lengths.1, first.ensures.cases.1),
    )
