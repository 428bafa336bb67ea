-- What is read is regular: whole numbers fit 64 bits, and each object has its keys in order.
use Rattle.std.proofs.Common.{◌≡◌, ℕ, zero, suc, ◌^◌, ◌<◌, ◌≤◌, ◌==◌, ◌&&◌, nat_lt, nat_le, List, Bool, true, false, Some, option_and_then, IfSome, Ordering, Less, Equal, Greater, nat_cmp, refl, ap, ◌∙◌, subst, arith, ltb-true, slice_index, drop}
use Rattle.std.proofs.lemmas.Bool.{and_parts, leb-true}
use Rattle.std.proofs.lemmas.Cmp.{nat_list_cmp_total}
use Rattle.std.specs.Prelude.{⊤}
use Rattle.std.specs.Ordering.{ordering_reverse, match_ordering}
use Rattle.std.specs.Cmp.Lexicographic.{slice_cmp}
use Rattle.std.specs.Float.{binary64, float_is_finite}
use Rattle.fast_float.specs.Text.{Parts, digits_of, nearest, with_sign, scan, minus}
use Rattle.json.specs.Json as json
use Rattle.json.specs.Token.{Token}
use Rattle.json.specs.Lex.{tokens}
use Rattle.serde_json.specs.Data.{negative, Data, number, array, object, item, Members, no_members, member, put}
use Rattle.serde_json.specs.Read.{is_integer, float_of, number_from, number_of, of_json, of_items, of_members, max_depth, read}
use Rattle.sentry_json.proofs.Options.{IfSome_map, IfSome_and_then, IfSome_cond, IfSome_any}
use Rattle.sentry_json.specs.Sound.{AllAfter, IsOrdered, IsRanged, IsRegular, AreRegular, MembersAreRegular}

-- ---- numbers

float_ranged : (sign : Bool) (p : Parts) → IfSome (float_of sign p) IsRanged
float_ranged sign p = IfSome_cond IsRanged (float_is_finite (nearest binary64 sign p)) _ _ (λ _. tt) (λ _. tt)

signed_ranged : (n : ℕ) → 0 < n → n ≤ 2 ^ 63 → IsRanged (negative (with_sign true n))
signed_ranged zero some h = absurd (omega arith)
signed_ranged (suc n) some h = omega arith

from_ranged : (sign : Bool) (p : Parts) → IfSome (number_from sign p) IsRanged
from_ranged false p = IfSome_cond IsRanged (is_integer p && nat_lt (digits_of p) (2 ^ 64)) _ _ (λ e. ltb-true _ _ (and_parts (is_integer p) _ e).1) (λ _. float_ranged false p)
from_ranged true p =
    IfSome_cond IsRanged (is_integer p && nat_lt 0 (digits_of p) && nat_le (digits_of p) (2 ^ 63)) _ _
    (λ e. let q = and_parts (is_integer p && nat_lt 0 (digits_of p)) _ e in signed_ranged (digits_of p) (ltb-true _ _ (and_parts (is_integer p) _ q.0).1) (leb-true _ _ q.1)) (λ _. float_ranged true p)

pub number_ranged : (s : List ℕ) → IfSome (number_of s) IsRanged
unfolding number_of
number_ranged s = IfSome_cond IsRanged (slice_index s 0 == minus) (number_from true (scan (drop 1 s))) (number_from false (scan s)) (λ _. from_ranged true (scan (drop 1 s))) (λ _. from_ranged false (scan s))

-- ---- a put keeps members regular

put_regular_at : (o : Ordering) (k l : List ℕ) (d e : Data) (ms : Members) → IsRegular d → MembersAreRegular (member l e ms) → MembersAreRegular (put k d ms)
    → MembersAreRegular (match_ordering o (member k d (member l e ms)) (member l d ms) (member l e (put k d ms)))
put_regular_at Less k l d e ms s h more = (s, h)
put_regular_at Equal k l d e ms s h more = (s, h.1)
put_regular_at Greater k l d e ms s h more = (h.0, more)

pub put_regular : (k : List ℕ) (d : Data) (ms : Members) → IsRegular d → MembersAreRegular ms → MembersAreRegular (put k d ms)
put_regular k d no_members s h = (s, tt)
put_regular k d (member l e ms) s h = put_regular_at (slice_cmp nat_cmp k l) k l d e ms s h (put_regular k d ms s h.1)

put_after_at : (o : Ordering) (j k l : List ℕ) (d e : Data) (ms : Members) → slice_cmp nat_cmp j k ≡ Less → AllAfter j (member l e ms) → AllAfter j (put k d ms)
    → AllAfter j (match_ordering o (member k d (member l e ms)) (member l d ms) (member l e (put k d ms)))
put_after_at Less j k l d e ms above h more = (above, h)
put_after_at Equal j k l d e ms above h more = h
put_after_at Greater j k l d e ms above h more = (h.0, more)

put_after : (j k : List ℕ) (d : Data) (ms : Members) → slice_cmp nat_cmp j k ≡ Less → AllAfter j ms → AllAfter j (put k d ms)
put_after j k d no_members above h = (above, tt)
put_after j k d (member l e ms) above h = put_after_at (slice_cmp nat_cmp k l) j k l d e ms above h (put_after j k d ms above h.1)

pub all_above : (k l : List ℕ) (ms : Members) → slice_cmp nat_cmp k l ≡ Less → AllAfter l ms → AllAfter k ms
all_above k l no_members e h = tt
all_above k l (member j d ms) e h = (nat_list_cmp_total.trans k l j e h.0, all_above k l ms e h.1)

put_ordered_at : (o : Ordering) (k l : List ℕ) (d e : Data) (ms : Members) → slice_cmp nat_cmp k l ≡ o → IsOrdered (member l e ms) → IsOrdered (put k d ms)
    → IsOrdered (match_ordering o (member k d (member l e ms)) (member l d ms) (member l e (put k d ms)))
put_ordered_at Less k l d e ms is h more = ((is, all_above k l ms is h.0), h)
put_ordered_at Equal k l d e ms is h more = h
put_ordered_at Greater k l d e ms is h more =
    let above : slice_cmp nat_cmp l k ≡ Less = nat_list_cmp_total.antisymm l k ∙ ap ordering_reverse is in
    (put_after l k d ms above h.0, more)

pub put_ordered : (k : List ℕ) (d : Data) (ms : Members) → IsOrdered ms → IsOrdered (put k d ms)
put_ordered k d no_members h = (tt, tt)
put_ordered k d (member l e ms) h = put_ordered_at _ k l d e ms refl h (put_ordered k d ms h.1)

-- ---- trees

abbrev IsGood : Members → Type 0
IsGood ms = IsOrdered ms × MembersAreRegular ms

mutual
  regular_json : (j : json.Json) → IfSome (of_json j) IsRegular
  regular_json json.null = tt
  regular_json (json.boolean b) = tt
  regular_json (json.number s) = IfSome_map IsRanged IsRegular number (λ n h. h) (number_of s) (number_ranged s)
  regular_json (json.string s) = tt
  regular_json (json.array js) = IfSome_map AreRegular IsRegular array (λ ds h. h) (of_items js) (regular_items js)
  regular_json (json.object ms) = IfSome_map IsGood IsRegular object (λ ds h. h) (of_members ms no_members) (regular_members ms no_members (tt, tt))

  regular_items : (js : json.Items) → IfSome (of_items js) AreRegular
  regular_items json.no_items = tt
  regular_items (json.item j js) = IfSome_and_then IsRegular AreRegular _ (λ d h. IfSome_map AreRegular AreRegular (item d) (λ ds k. (h, k)) (of_items js) (regular_items js)) (of_json j) (regular_json j)

  regular_members : (ms : json.Members) (found : Members) → IsGood found → IfSome (of_members ms found) IsGood
  regular_members json.no_members found good = good
  regular_members (json.member k j ms) found good =
      IfSome_and_then IsRegular IsGood _ (λ d h. regular_members ms (put k d found) (put_ordered k d found good.0, put_regular k d found h good.1)) (of_json j) (regular_json j)

pub read_regular : (text : List ℕ) (d : Data) → read text ≡ Some d → IsRegular d
read_regular text d e =
    let parsed = option_and_then (λ (p : json.Json × List Token). json.if_last p.0 p.1) (json.value max_depth (tokens text)) in
    subst (λ o. IfSome o IsRegular) e (IfSome_and_then (λ _. ⊤) IsRegular of_json (λ j _. regular_json j) parsed (IfSome_any parsed))
