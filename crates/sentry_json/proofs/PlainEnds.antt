-- Both ends of a text as one vector.
use Rattle.std.proofs.Common.{◌≡◌, ◌+◌, ◌-◌, ◌≤◌, ℕ, List, ◌++◌, length, take, drop, get_or, sym, ap, ◌∙◌, inl, inr, arith, zero-le, take_all, length-take-le, length-drop, get_or-take, get_or-drop}
use Rattle.std.specs.Simd.Lanes.{chunk, put_chunk}
use Rattle.std.proofs.lemmas.Bool.{cases_lt}
use Rattle.std.proofs.lemmas.List.{get_or_append_left, get_or-append_right}
use Rattle.json.specs.Run.{is_plain}
use Rattle.json.specs.Written.{PlainBetween}
use Rattle.sentry_json.proofs.Copied.{both_put}

pub ends_stored : (n : ℕ) (room text : List ℕ) → length room ≡ n + n → n ≤ length text → put_chunk n (put_chunk 0 room (chunk 0 n text)) (chunk (length text - n) n text) ≡ take n text ++ drop (length text - n) text
ends_stored n room text size long =
    let at = length text - n in
    let first = take n text in
    let left : length (drop at text) ≡ n = omega (arith, length-drop at text, long) in
    let all = take_all n (drop at text) (omega (arith, left)) in
    let first_size = length-take-le n text long in
    let put = both_put n room first (take n (drop at text)) (omega (arith, first_size)) (omega (arith, first_size, size)) (omega (arith, ap length all, left, size)) in
    put ∙ (λ i. take_all n first (omega (arith, first_size)) i ++ all i)

pub plain_by_ends : (n : ℕ) (text : List ℕ) → n ≤ length text → length text ≤ n + n → PlainBetween (take n text ++ drop (length text - n) text) 0 (n + n) → PlainBetween text 0 (length text)
plain_by_ends n text long covered plain k _ below =
    let at = length text - n in
    let size = length-take-le n text long in
    elim (cases_lt k n) [
      | inl early ↦
          let same : get_or (take n text ++ drop at text) k 0 ≡ get_or text k 0 = get_or_append_left (take n text) (drop at text) 0 k (omega (arith, early, size)) ∙ get_or-take n text k 0 early in
          ap is_plain (sym same) ∙ plain k zero-le (omega (arith, early))
      | inr late ↦
          let j = k - at in
          let there : at + j ≡ k = omega (arith, late, covered) in
          let back : n + j - n ≡ j = omega arith in
          let same : get_or (take n text ++ drop at text) (n + j) 0 ≡ get_or text k 0 =
          get_or-append_right (take n text) (drop at text) n (n + j) 0 size (omega arith)
          ∙ ap (λ i. get_or (drop at text) i 0) back ∙ get_or-drop at text j 0 ∙ ap (λ i. get_or text i 0) there in
          ap is_plain (sym same) ∙ plain (n + j) zero-le (omega (arith, late, below, covered, long))
    ]
