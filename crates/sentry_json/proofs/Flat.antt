-- Lines that are an object, read member by member.
use Rattle.std.proofs.Common.{◌≡◌, ℕ, List, [], ◌∷◌, ◌++◌, length, Some, IsUtf8, true, false, refl, sym, ap, subst, ◌∙◌, append_assoc, append-nil, ap₂, ◌<◌, take_at}
use Rattle.std.proofs.lemmas.List.{drop_at}
use Rattle.serde_json.specs.Data.{object, Members, no_members, put}
use Rattle.sentry_json.specs.Line.{tree_of}
use Rattle.sentry_json.specs.Scalars.{scalar_data, token_of}
use Rattle.sentry_json.specs.Spelled.{Spells, SpellsString, IsSpaced}
use Rattle.sentry_json.specs.Tokens.{width, text_of, value_of, value_at, members_of}
use Rattle.sentry_json.specs.declared.tape.flat.Scalar.{Scalar}
use Rattle.sentry_json.specs.declared.tape.flat.Scalar.TheVariants as scalar
use Rattle.sentry_json.specs.declared.tape.token.Token.{Token}
use Rattle.sentry_json.specs.declared.tape.token.Token.TheVariants as token
use Rattle.sentry_json.proofs.Lexemes.{parsed}
use Rattle.sentry_json.proofs.SoFar.{Before, begins, next_key, next_value, ends, skipped, string_before, value_before}
use Rattle.sentry_json.proofs.TokenLists.{members_next, members_end, value_object}

-- a scalar has no tokens inside
pub scalar_value : (s : Scalar) → value_of (token_of s) [] ≡ scalar_data s
unfolding value_at
scalar_value (scalar.Text s) = refl
scalar_value (scalar.Whole n) = refl

-- the tokens so far are these members
abbrev pub AreMembers : List Token → Members → Type 0
AreMembers done ms = (ts : List Token) → members_of (done ++ ts) no_members ≡ members_of ts ms

pub one_more : (done : List Token) (ms : Members) (k first : Token) (inside : List Token) (key : List ℕ) → text_of k ≡ Some key → width first ≡ length inside → AreMembers done ms
    → AreMembers (done ++ k ∷ (first ∷ inside)) (put key (value_of first inside) ms)
one_more done ms k first inside key named closed are ts =
    ap (λ us. members_of us no_members) (append_assoc done (k ∷ first ∷ inside) ts) ∙ are (k ∷ first ∷ (inside ++ ts)) ∙ members_next k first (inside ++ ts) key ms named
    ∙ ap₂ (λ us vs. members_of vs (put key (value_of first us) ms)) (take_at inside ts (width first) (sym closed)) (drop_at inside ts (width first) (sym closed))

-- what was read behind the brace: these tokens, which are these members
pub record ReadSoFar (brace left : List ℕ) (ms : Members) (most : ℕ) : Type 0 where
  pub done : List Token
  pub before : Before false true true brace left done most
  pub are : AreMembers done ms

-- a key, its colon and a value
module _ (brace left behind colon_at colon value rest : List ℕ) (ms : Members) (most : ℕ) (k : Token) (key : List ℕ) (first : Token) (inside : List Token)
    (so : ReadSoFar brace left ms most) (name : SpellsString left behind k) (named : text_of k ≡ Some key)
    (at_colon : IsSpaced behind colon_at) (is_colon : colon_at ≡ 58 ∷ colon) (at_value : IsSpaced colon value) (spelled : Spells false value rest first inside most) where
  due : Before false true false brace value (so.done ++ k ∷ []) most
  due = skipped false true false brace colon value (so.done ++ k ∷ []) most at_value (next_key false true true brace left colon_at colon so.done k most refl so.before (string_before left behind colon_at k name at_colon) is_colon)

  are_more : AreMembers ((so.done ++ k ∷ []) ++ (first ∷ inside)) (put key (value_of first inside) ms)
  are_more = rw (append_assoc so.done (k ∷ []) (first ∷ inside)) (one_more so.done ms k first inside key named spelled.closed so.are)

  -- and then a comma
  pub comma_next : (comma_at comma next : List ℕ) → IsSpaced rest comma_at → comma_at ≡ 44 ∷ comma → IsSpaced comma next → ReadSoFar brace next (put key (value_of first inside) ms) most
  comma_next comma_at comma next at_comma is_comma at_next =
      record {
        done = (so.done ++ k ∷ []) ++ (first ∷ inside);
        before = skipped false true true brace comma next ((so.done ++ k ∷ []) ++ (first ∷ inside)) most at_next
            (next_value true false brace value comma_at comma (so.done ++ k ∷ []) first inside most refl due (value_before value rest comma_at first inside most spelled at_comma) is_comma);
        are = are_more;
      }

  -- or the end of the object
  pub object_ends : (close end : List ℕ) (deep : ℕ) → IsSpaced rest close → close ≡ 125 ∷ end → most < deep
      → (all : List Token) × Spells false (123 ∷ brace) end (token.Object (length all)) all deep × (members_of all no_members ≡ put key (value_of first inside) ms)
  object_ends close end deep at_close closes room =
      let all = (so.done ++ k ∷ []) ++ (first ∷ inside) in (
        all,
        ends true false brace value close end (so.done ++ k ∷ []) first inside most deep refl due (value_before value rest close first inside most spelled at_close) closes room,
        ap (λ ts. members_of ts no_members) (sym (append-nil all)) ∙ are_more [] ∙ members_end (put key (value_of first inside) ms),
      )

-- a line that is such an object
pub object_line : (line text inside rest : List ℕ) (all : List Token) → text ≡ line → IsUtf8 line → text ≡ 123 ∷ inside → rest ≡ [] → Spells false (123 ∷ inside) rest (token.Object (length all)) all 127
    → tree_of line ≡ Some (object (members_of all no_members))
object_line line text inside rest all same utf8 opens none whole =
    let opened = subst (λ t. Spells false t rest (token.Object (length all)) all 127) (sym opens) whole in
    parsed line text rest (token.Object (length all) ∷ all) (token.Object (length all)) all same utf8 none refl opened ∙ ap Some (value_object (length all) all)

-- nothing was read yet
pub begun : (brace left : List ℕ) (most : ℕ) → IsSpaced brace left → ReadSoFar brace left no_members most
begun brace left most space = record { done = []; before = skipped false true true brace brace left [] most space (begins false true brace most); are = λ ts. refl }
