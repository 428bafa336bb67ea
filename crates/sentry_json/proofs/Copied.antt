-- A text that is copied part by part.
use Rattle.std.proofs.Common.{◌≡◌, ◌+◌, ◌-◌, ◌≤◌, ℕ, List, ◌++◌, length, take, drop, sym, ap, ◌∙◌, arith, take-add, take-take, take-append-drop, take_all, length-take-le, length-drop}
use Rattle.std.specs.Simd.Lanes.{chunk, put_chunk}
use Rattle.std.proofs.lemmas.Simd.{take_more_put_chunk, length-put_chunk}

-- n bytes more are copied
pub more_copied : (at n end : ℕ) (to text : List ℕ) → end ≡ at + n → end ≤ length text → length to ≡ length text → take at to ≡ take at text → take end (put_chunk at to (chunk at n text)) ≡ take end text
more_copied at n end to text is within same before =
    let part = take n (drop at text) in
    let size : length part ≡ n = length-take-le n (drop at text) (omega (arith, is, length-drop at text)) in
    let appended = take_more_put_chunk at to part end (omega (arith, is, size)) (omega (arith, same)) in
    appended ∙ ap (λ l. l ++ part) before ∙ sym (take-add at n text) ∙ ap (λ k. take k text) (sym is)

-- a part at the front and one at the end, which may lie over it, fill a slice
pub both_put : (at : ℕ) (to first last : List ℕ) → at ≤ length first → length first ≤ length to → at + length last ≡ length to → put_chunk at (put_chunk 0 to first) last ≡ take at first ++ last
both_put at to first last covered within whole =
    let begun = put_chunk 0 to first in
    let stored = put_chunk at begun last in
    let size = length-put_chunk 0 to first in
    let front = sym (take-take at (length first) begun covered) ∙ ap (take at) (take_more_put_chunk 0 to first (length first) (omega arith) within) in
    let end = length to in
    sym (take_all end stored (omega (arith, length-put_chunk at begun last, size))) ∙ take_more_put_chunk at begun last end (omega (arith, whole)) (omega (arith, size)) ∙ ap (λ l. l ++ last) front

-- the first n bytes and the last n are all
pub ends_copied : (n : ℕ) (to text : List ℕ) → length to ≡ length text → n ≤ length text → length text ≤ n + n → put_chunk (length text - n) (put_chunk 0 to (chunk 0 n text)) (chunk (length text - n) n text) ≡ text
ends_copied n to text same long covered =
    let at = length text - n in
    let left : length (drop at text) ≡ n = omega (arith, length-drop at text, long) in
    let all = take_all n (drop at text) (omega (arith, left)) in
    let first = length-take-le n text long in
    let put = both_put at to (take n text) (take n (drop at text)) (omega (arith, first, long, covered)) (omega (arith, first, long, same)) (omega (arith, ap length all, left, same, long)) in
    put ∙ (λ i. take-take at n text (omega (arith, long, covered)) i ++ all i) ∙ take-append-drop at text
