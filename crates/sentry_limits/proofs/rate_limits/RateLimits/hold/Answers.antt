use Rattle.std.proofs.Common.{[], ◌∷◌, None, refl, sym, ap, ◌∙◌}
use Rattle.sentry_limits.specs.RateLimits.{listed}
use Rattle.sentry_limits.proofs.Held.{all_names, blank_names, first_told, held_one, listed_names, second_is, tested}
use Rattle.sentry_limits.proofs.rate_limits.RateLimits.hold.Goals as goal

pub returns-then-is_empty : goal.returns-then-is_empty
returns-then-is_empty c =
    let told = first_told c.args.limit.now c.before_colon.result.now c.trim.result.now c.retry_after.result c.before_colon.ensures c.trim.ensures.trim c.retry_after.ensures.value in
    let blank = tested _ _ _ _ c.trim-2.ensures.trim c.is_empty.ensures c.if-is_empty.true in
    held_one _ _ _ _ _ _ [] told c.end_after-end.ensures (sym (blank_names c.args.limit.now blank)) (λ name. refl)

pub returns-then-is_empty-2 : goal.returns-then-is_empty-2
returns-then-is_empty-2 c =
    let told = first_told c.args.limit.now c.before_colon.result.now c.trim.result.now c.retry_after.result c.before_colon.ensures c.trim.ensures.trim c.retry_after.ensures.value in
    let some = tested _ _ _ _ c.trim-2.ensures.trim c.is_empty.ensures c.if-is_empty.false in
    let words = second_is c.args.limit.now c.after_colon.result.now c.before_colon-2.result.now c.trim-words.result.now c.after_colon.ensures c.before_colon-2.ensures c.trim-words.ensures.trim in
    let empty = tested _ _ _ _ words c.is_empty-2.ensures c.if-is_empty-2.true in
    held_one _ _ _ _ _ _ (None ∷ []) told c.end_after-end.ensures (sym (all_names c.args.limit.now some empty)) c.raise.ensures

pub returns-else-is_empty-2 : goal.returns-else-is_empty-2
returns-else-is_empty-2 c =
    let told = first_told c.args.limit.now c.before_colon.result.now c.trim.result.now c.retry_after.result c.before_colon.ensures c.trim.ensures.trim c.retry_after.ensures.value in
    let some = tested _ _ _ _ c.trim-2.ensures.trim c.is_empty.ensures c.if-is_empty.false in
    let words = second_is c.args.limit.now c.after_colon.result.now c.before_colon-2.result.now c.trim-words.result.now c.after_colon.ensures c.before_colon-2.ensures c.trim-words.ensures.trim in
    let listing = tested _ _ _ _ words c.is_empty-2.ensures c.if-is_empty-2.false in
    held_one _ _ _ _ _ _ _ told c.end_after-end.ensures (ap listed words ∙ sym (listed_names c.args.limit.now some listing)) c.raise_listed.ensures
