-- Members that are put one after the other.
use Rattle.std.proofs.Common.{◌≡◌, ℕ, List, Ordering, Less, Equal, Greater, nat_cmp, refl, sym, ap, ◌∙◌}
use Rattle.std.proofs.lemmas.Cmp.{nat_list_cmp_total, tied_itself}
use Rattle.std.proofs.lemmas.Map.Text.{is_eq-slice_cmp}
use Rattle.std.proofs.lemmas.Slice.Eq.{bytes_eq-Decides}
use Rattle.std.specs.Ordering.{is_eq, ordering_reverse}
use Rattle.std.specs.Cmp.Lexicographic.{slice_cmp}
use Rattle.serde_json.specs.Data.{Data, Members, no_members, member, put}

greater : (k l : List ℕ) → slice_cmp nat_cmp k l ≡ Less → slice_cmp nat_cmp l k ≡ Greater
greater k l h = nat_list_cmp_total.antisymm l k ∙ ap ordering_reverse h

pub less : (k l : List ℕ) → slice_cmp nat_cmp k l ≡ Greater → slice_cmp nat_cmp l k ≡ Less
less k l h = nat_list_cmp_total.antisymm l k ∙ ap ordering_reverse h

put_over_at : (o : Ordering) (k l : List ℕ) (d e f : Data) (ms : Members) → slice_cmp nat_cmp k l ≡ o → put k d (put k e ms) ≡ put k d ms → put k d (put k e (member l f ms)) ≡ put k d (member l f ms)
put_over_at Less k l d e f ms is later = rw (is, tied_itself nat_list_cmp_total k) refl
put_over_at Equal k l d e f ms is later = rw (is, is) refl
put_over_at Greater k l d e f ms is later = rw (is, is) (ap (member l f) later)

pub put_over : (k : List ℕ) (d e : Data) (ms : Members) → put k d (put k e ms) ≡ put k d ms
put_over k d e no_members = rw (tied_itself nat_list_cmp_total k) refl
put_over k d e (member l f ms) = put_over_at _ k l d e f ms refl (put_over k d e ms)

-- k goes before t and before l
put_first_at : (o : Ordering) (k t l : List ℕ) (d e f : Data) (ms : Members) → slice_cmp nat_cmp k t ≡ Less → slice_cmp nat_cmp k l ≡ Less → slice_cmp nat_cmp t l ≡ o → put k d (put t e (member l f ms)) ≡ put t e (put k d (member l f ms))
put_first_at Less k t l d e f ms kt kl tl = let tk = greater k t kt in simp (tl, kl, kt, tk)
put_first_at Equal k t l d e f ms kt kl tl = let tk = greater k t kt in simp (tl, kl, kt, tk)
put_first_at Greater k t l d e f ms kt kl tl = let tk = greater k t kt in simp (tl, kl, kt, tk)

put_commutes_at : (o : Ordering) (k t l : List ℕ) (d e f : Data) (ms : Members) → slice_cmp nat_cmp k t ≡ Less → slice_cmp nat_cmp k l ≡ o → put k d (put t e ms) ≡ put t e (put k d ms) → put k d (put t e (member l f ms)) ≡ put t e (put k d (member l f ms))
put_commutes_at Less k t l d e f ms kt kl later = put_first_at _ k t l d e f ms kt kl refl
put_commutes_at Equal k t l d e f ms kt kl later =
    let tl : slice_cmp nat_cmp t l ≡ Greater = greater l t (sym (nat_list_cmp_total.congr k l t kl) ∙ kt) in
    simp (tl, kl)
put_commutes_at Greater k t l d e f ms kt kl later =
    let tl : slice_cmp nat_cmp t l ≡ Greater = greater l t (nat_list_cmp_total.trans l k t (less k l kl) kt) in
    simp (tl, kl) (ap (member l f) later)

pub put_commutes : (k t : List ℕ) (d e : Data) (ms : Members) → slice_cmp nat_cmp k t ≡ Less → put k d (put t e ms) ≡ put t e (put k d ms)
put_commutes k t d e no_members kt = rw (kt, greater k t kt) refl
put_commutes k t d e (member l f ms) kt = put_commutes_at _ k t l d e f ms kt refl (put_commutes k t d e ms kt)

-- members of different keys, in either order
apart_at : (o : Ordering) (k t : List ℕ) (d e : Data) (ms : Members) → slice_cmp nat_cmp k t ≡ o → (k ≡ t → ⊥) → put k d (put t e ms) ≡ put t e (put k d ms)
apart_at Less k t d e ms is apart = put_commutes k t d e ms is
apart_at Equal k t d e ms is apart = absurd (apart ((bytes_eq-Decides k t).0 (sym (is_eq-slice_cmp k t) ∙ ap is_eq is)))
apart_at Greater k t d e ms is apart = sym (put_commutes t k e d ms (less k t is))

pub put_apart : (k t : List ℕ) (d e : Data) (ms : Members) → (k ≡ t → ⊥) → put k d (put t e ms) ≡ put t e (put k d ms)
put_apart k t d e ms = apart_at _ k t d e ms refl
