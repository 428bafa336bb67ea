use Rattle.std.proofs.Common.{◌≡◌, [], refl, ℕ, arith}
use Rattle.std.proofs.lemmas.Result.{err_from_is_err_and}
use Rattle.sentry_limits.specs.Measured.{kind_of}
use Rattle.sentry_limits.proofs.Counting.{counted_all, counted_first, counted_next, counted_none, few_bytes, few_items, refused_first, refused_next, zeros}
use Rattle.sentry_limits.proofs.sizes.measure.Goals as goal

pub returns-in_err-reader-clause-refused : goal.returns-in_err-reader-clause-refused
returns-in_err-reader-clause-refused c =
    let p = err_from_is_err_and c.from_residual.result c.from_residual.ensures.1 in
    rw (p.1, p.2) (λ other. refused_first _ _ other c.in_err-reader.ensures.err)

pub loop-next-init : goal.loop-next-init
loop-next-init c =
    counted_first _ _ _ _ c.in_ok-reader.ensures.parts c.in_ok-reader.ensures.object (counted_none _ (λ (k : ℕ). zeros 12 k) (λ (k : ℕ). zeros 12 k) refl)

pub add-requires-clause-items_room : goal.add-requires-clause-items_room
add-requires-clause-items_room c = omega (arith, few_items (kind_of c.in_ok-item.item) _ _ _ c.loop-next.invariant)

pub add-requires-clause-bytes_room : goal.add-requires-clause-bytes_room
add-requires-clause-bytes_room c = omega (arith, few_bytes (kind_of c.in_ok-item.item) _ _ _ c.loop-next.invariant)

pub loop-next-preserved : goal.loop-next-preserved
loop-next-preserved c =
    let first = rw c.in_ok-item.was at c.in-Some.ensures.frame in
    let named = rw c.in_ok-item.was at c.in-Some.ensures.header in
    counted_next _ _ _ _ _ _ c.loop-next.invariant first named c.add.ensures

pub returns-in_err-item-clause-refused : goal.returns-in_err-item-clause-refused
returns-in_err-item-clause-refused c =
    let p = err_from_is_err_and c.from_residual-in_err-item.result c.from_residual-in_err-item.ensures.1 in
    let fault = rw c.in_err-item.was at c.in-Some.ensures.fault in
    rw (p.1, p.2) (λ other. refused_next _ _ _ _ c.loop-next.invariant (λ (nil : c.loop-next.reader.rest ≡ []). let some = c.in-Some.ensures.none.1 nil in cc) (fault other))

pub returns-clause-measured : goal.returns-clause-measured
returns-clause-measured c = counted_all _ _ _ c.loop-next.invariant (c.in_default.ensures.none.0 refl)

pub loop-next-preserved-in_ok-item : goal.loop-next-preserved-in_ok-item
loop-next-preserved-in_ok-item c =
    let first = rw c.in_ok-item.was at c.in-Some.ensures.frame in
    let named = rw c.in_ok-item.was at c.in-Some.ensures.header in
    counted_next _ _ _ _ _ _ c.loop-next.invariant first named c.add.ensures
