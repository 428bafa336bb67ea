use Rattle.std.proofs.Common.{◌≡◌, ◌∙◌, sym, ap, inl}
use Rattle.sentry_moments.specs.DecimalScan.{is_minus}
use Rattle.sentry_moments.proofs.DecimalTexts.{split_of, without_digit, without_exponent, below_zero, so_many, in_limit, past_limit}
use Rattle.sentry_moments.proofs.decimal.read.Goals as goal

pub returns-then-whole-fraction-eq0 : goal.returns-then-whole-fraction-eq0
returns-then-whole-fraction-eq0 c =
    let s = split_of c.args.text.now _ _ _ _ c.as_bytes-bytes.ensures.value c.split.ensures.whole c.split.ensures.fraction c.split.ensures.rest in
    without_digit _ _ _ _ s c.if-whole-fraction-eq0.true

pub returns-in_default : goal.returns-in_default
returns-in_default c =
    let s = split_of c.args.text.now _ _ _ _ c.as_bytes-bytes.ensures.value c.split.ensures.whole c.split.ensures.fraction c.split.ensures.rest in
    without_exponent _ _ _ _ s (sym c.exponent.ensures.value ∙ c.in_default.is)

pub returns-then-is_below_zero : goal.returns-then-is_below_zero
returns-then-is_below_zero c =
    let s = split_of c.args.text.now _ _ _ _ c.as_bytes-bytes.ensures.value c.split.ensures.whole c.split.ensures.fraction c.split.ensures.rest in
    let minus : c.is_minus.result ≡ is_minus c.args.text.now = c.is_minus.ensures ∙ ap is_minus c.as_bytes-bytes.ensures.value in
    inl (below_zero _ _ _ _ c.is_minus.result c.in-Some.down c.in-Some.exponent s c.if-whole-fraction-eq0.false (sym c.exponent.ensures.value ∙ c.in-Some.is) minus (sym c.is_below_zero.ensures ∙ c.if-is_below_zero.true))

pub returns-then-value-limit : goal.returns-then-value-limit
returns-then-value-limit c =
    let s = split_of c.args.text.now _ _ _ _ c.as_bytes-bytes.ensures.value c.split.ensures.whole c.split.ensures.fraction c.split.ensures.rest in
    let minus : c.is_minus.result ≡ is_minus c.args.text.now = c.is_minus.ensures ∙ ap is_minus c.as_bytes-bytes.ensures.value in
    let d = so_many _ _ _ _ c.is_minus.result c.in-Some.down c.in-Some.exponent s c.if-whole-fraction-eq0.false (sym c.exponent.ensures.value ∙ c.in-Some.is) minus (sym c.is_below_zero.ensures ∙ c.if-is_below_zero.false) in
    in_limit _ _ c.billionths-value.result c.args.limit _ d c.billionths-value.ensures c.requires c.if-value-limit.true

pub returns-else-value-limit : goal.returns-else-value-limit
returns-else-value-limit c =
    let s = split_of c.args.text.now _ _ _ _ c.as_bytes-bytes.ensures.value c.split.ensures.whole c.split.ensures.fraction c.split.ensures.rest in
    let minus : c.is_minus.result ≡ is_minus c.args.text.now = c.is_minus.ensures ∙ ap is_minus c.as_bytes-bytes.ensures.value in
    let d = so_many _ _ _ _ c.is_minus.result c.in-Some.down c.in-Some.exponent s c.if-whole-fraction-eq0.false (sym c.exponent.ensures.value ∙ c.in-Some.is) minus (sym c.is_below_zero.ensures ∙ c.if-is_below_zero.false) in
    past_limit _ _ c.billionths-value.result c.args.limit _ d c.billionths-value.ensures c.if-value-limit.false
