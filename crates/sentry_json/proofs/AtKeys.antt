-- An object of which the members of some keys alone are kept, and one member is found.
use Rattle.std.proofs.Common.{◌≡◌, ℕ, List, ◌∷◌, ◌++◌, length, Some, Bool, true, false, true≢false, if◌then◌else◌, bytes_eq, [], refl, sym, ap, ◌∙◌, append-nil}
use Rattle.std.proofs.lemmas.Slice.Eq.{bytes_eq-Decides}
use Rattle.serde_json.specs.Data.{Data, Members, no_members, put}
use Rattle.serde_json.specs.Find.{get_member}
use Rattle.serde_json.proofs.Views.{get_member-put, get_member-put_other}
use Rattle.sentry_json.specs.Keys.{is_among, among}
use Rattle.sentry_json.specs.Sound.{IsOrdered}
use Rattle.sentry_json.specs.Tokens.{kept, width, text_of, value_of, members_of}
use Rattle.sentry_json.specs.declared.tape.token.Token.{Token}
use Rattle.sentry_json.proofs.Beside.{put_passes, put_fails}
use Rattle.sentry_json.proofs.Flat.{AreMembers, one_more}
use Rattle.sentry_json.proofs.TokenLists.{members_end}

-- one more member
pub kept_one : (ks : List (List ℕ)) (done : List Token) (ms : Members) (k first : Token) (inside : List Token) (key : List ℕ) → text_of k ≡ Some key → width first ≡ length inside → IsOrdered ms → AreMembers done (among ks ms)
    → AreMembers (done ++ kept (is_among key ks) (k ∷ first ∷ inside)) (among ks (put key (value_of first inside) ms))
kept_one ks done ms k first inside key named closed ordered are = at (is_among key ks) refl
  where
    at : (b : Bool) → is_among key ks ≡ b → AreMembers (done ++ kept b (k ∷ first ∷ inside)) (among ks (put key (value_of first inside) ms))
    at true is = rw (put_passes (λ l. is_among l ks) key (value_of first inside) ms ordered is) (one_more done (among ks ms) k first inside key named closed are)
    at false is = rw (put_fails (λ l. is_among l ks) key (value_of first inside) ms is, append-nil done) are

-- and then the end of the object
pub all_kept : (ks : List (List ℕ)) (done : List Token) (ms : Members) (k first : Token) (inside : List Token) (key : List ℕ) → text_of k ≡ Some key → width first ≡ length inside → IsOrdered ms → AreMembers done (among ks ms)
    → members_of (done ++ kept (is_among key ks) (k ∷ first ∷ inside)) no_members ≡ among ks (put key (value_of first inside) ms)
all_kept ks done ms k first inside key named closed ordered are =
    ap (λ ts. members_of ts no_members) (sym (append-nil (done ++ kept (is_among key ks) (k ∷ first ∷ inside)))) ∙ kept_one ks done ms k first inside key named closed ordered are [] ∙ members_end (among ks (put key (value_of first inside) ms))

-- ---- the member of one key

pub found_one : (apart key : List ℕ) (d : Data) (ms : Members) → get_member apart (put key d ms) ≡ (if bytes_eq key apart then Some d else get_member apart ms)
found_one apart key d ms = at (bytes_eq key apart) refl
  where
    at : (b : Bool) → bytes_eq key apart ≡ b → get_member apart (put key d ms) ≡ (if b then Some d else get_member apart ms)
    at true is = rw ((bytes_eq-Decides key apart).0 is) (get_member-put apart d ms)
    at false is = get_member-put_other apart key d ms (λ same. true≢false (sym ((bytes_eq-Decides key apart).1 (sym same)) ∙ is))
