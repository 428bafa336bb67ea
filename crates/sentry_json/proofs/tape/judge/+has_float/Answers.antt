use Rattle.std.proofs.Common.{refl, sym, ap, ◌∙◌, arith, drop}
use Rattle.std.proofs.lemmas.Option.{IfSome_then}
use Rattle.serde_json.specs.Data.{no_members, put}
use Rattle.serde_json.specs.Written.{has_float, members_have_float}
use Rattle.sentry_json.specs.TapeView.{node_data}
use Rattle.sentry_json.specs.Tokens.{members_of}
use Rattle.sentry_json.specs.declared.tape.token.Token.TheVariants as token
use Rattle.sentry_json.proofs.Replaced.{float_stays}
use Rattle.sentry_json.proofs.TokenLists.{first_value, integer_no_float, put_no_float}
use Rattle.sentry_json.proofs.tape.judge.+has_float.Goals as goal

pub has_float-returns-in-Float : goal.has_float-returns-in-Float
has_float-returns-in-Float t c = sym (ap has_float (first_value c.args.node.tokens.now c.in-Some.first.now (token.Float c.in-Float.field-0) c.in-Some.ensures.value c.in-Float.is))

pub has_float-returns-in-Array : goal.has_float-returns-in-Array
has_float-returns-in-Array t c =
    IfSome_then c.items_have_float.result c.items_have_float.ensures (λ found is. is ∙ sym (ap has_float (first_value c.args.node.tokens.now c.in-Some.first.now (token.Array c.in-Array.field-0) c.in-Some.ensures.value c.in-Array.is)))

pub has_float-returns-in-Object : goal.has_float-returns-in-Object
has_float-returns-in-Object t c =
    IfSome_then c.members_have_float.result c.members_have_float.ensures (λ found is. is ∙ sym (ap has_float (first_value c.args.node.tokens.now c.in-Some.first.now (token.Object c.in-Object.field-0) c.in-Some.ensures.value c.in-Object.is)))

pub has_float-returns-in-Null : goal.has_float-returns-in-Null
has_float-returns-in-Null t c = sym (ap has_float (first_value c.args.node.tokens.now c.in-Some.first.now token.Null c.in-Some.ensures.value c.in-Null.is))

pub has_float-returns-in-Bool : goal.has_float-returns-in-Bool
has_float-returns-in-Bool t c = sym (ap has_float (first_value c.args.node.tokens.now c.in-Some.first.now (token.Bool c.in-Bool.field-0) c.in-Some.ensures.value c.in-Bool.is))

pub has_float-returns-in-Whole : goal.has_float-returns-in-Whole
has_float-returns-in-Whole t c = sym (ap has_float (first_value c.args.node.tokens.now c.in-Some.first.now (token.Whole c.in-Whole.field-0) c.in-Some.ensures.value c.in-Whole.is))

pub has_float-returns-in-Negative : goal.has_float-returns-in-Negative
has_float-returns-in-Negative t c =
    sym (ap has_float (first_value c.args.node.tokens.now c.in-Some.first.now (token.Negative c.in-Negative.field-0) c.in-Some.ensures.value c.in-Negative.is) ∙ integer_no_float _)

pub has_float-returns-in-Text : goal.has_float-returns-in-Text
has_float-returns-in-Text t c = sym (ap has_float (first_value c.args.node.tokens.now c.in-Some.first.now (token.Text c.in-Text.field-0) c.in-Some.ensures.value c.in-Text.is))

pub members_have_float-loop-key-init : goal.members_have_float-loop-key-init
members_have_float-loop-key-init t c =
    let first = c.in_ok-inside.ensures.cases in
    (no_members, ap (λ ts. members_of (drop 1 ts) no_members) first.0, refl, omega (arith, first.1))

pub members_have_float-returns-then-not-replaced : goal.members_have_float-returns-then-not-replaced
members_have_float-returns-then-not-replaced t c =
    let l = c.loop-key in
    let before = l.invariant.0 in
    let next = c.in-Some in
    let float = sym c.in_ok-has_float.ensures ∙ c.if-branch.true in
    sym (ap members_have_float (l.invariant.1 ∙ next.ensures.0 before) ∙ float_stays next.key.now (node_data next.member) before next.after.now (c.in_ok-replaced.ensures.absent c.if-not-replaced.true) float)

pub members_have_float-loop-key-preserved : goal.members_have_float-loop-key-preserved
members_have_float-loop-key-preserved t c =
    let l = c.loop-key in
    let before = l.invariant.0 in
    let next = c.in-Some in
    let d = node_data next.member in
    let none = sym c.in_ok-has_float.ensures ∙ c.if-branch.false in
    (put next.key.now d before, l.invariant.1 ∙ next.ensures.0 before, put_no_float next.key.now d before none l.invariant.2, omega (arith, l.invariant.3, next.ensures.1))
