-- What becomes of ends as limits are held one after another.
use Rattle.std.proofs.Common.{◌≡◌, ℕ, ◌==◌, ◌||◌, max, Bool, true, false, cond, List, [], ◌∷◌, length, Option, Some, None, option_map, refl, sym, ap, ◌∙◌, subst, arith}
use Rattle.std.specs.List.{AllZip, after_first, before_first, cons_option, filter_map}
use Rattle.std.specs.Str.{trim}
use Rattle.std.proofs.lemmas.Iterator.{YieldsList}
use Rattle.sentry_moments.specs.declared.moment.Moment.{Moment}
use Rattle.sentry_reports.specs.Categories.{category_of}
use Rattle.sentry_reports.specs.declared.category.Category.{Category}
use Rattle.sentry_limits.specs.RetryAfter.{IsRetryAfter, end_after}
use Rattle.sentry_limits.specs.RateLimits.{AreHeld, colon, IsLimit, Limit, end_of, first_part, is_named, latest, listed, name_of, names_of, names_of_list, place, raised, second_part}
use Rattle.sentry_limits.specs.declared.rate_limits.RateLimits.{RateLimits}

-- ---- names

raised_twice : (a b : Bool) (end held : ℕ) → cond b (max (cond (a || false) (max held end) held) end) (cond (a || false) (max held end) held) ≡ cond (a || b) (max held end) held
raised_twice true true end held = omega arith
raised_twice true false end held = refl
raised_twice false true end held = refl
raised_twice false false end held = refl

-- a name, and then the others
raised_more : (name n : Option Category) (names : List (Option Category)) (end held : ℕ) → raised name names end (raised name (n ∷ []) end held) ≡ raised name (n ∷ names) end held
raised_more name n names end held = raised_twice (place n == place name) (is_named name names) end held

pub known_word : (name : Option Category) (category : Category) (words more : List (List ℕ)) (word : List ℕ) (end held next : ℕ) → words ≡ word ∷ more → Some category ≡ category_of (trim word)
    → next ≡ raised name (Some category ∷ []) end held → raised name (filter_map name_of more) end next ≡ raised name (filter_map name_of words) end held
known_word name category words more word end held next is known step =
    ap (raised name (filter_map name_of more) end) step
    ∙ raised_more name (Some category) (filter_map name_of more) end held
    ∙ ap (λ (o : Option Category). raised name (cons_option (option_map Some o) (filter_map name_of more)) end held) known
    ∙ ap (λ ws. raised name (filter_map name_of ws) end held) (sym is)

pub unknown_word : (name : Option Category) (words more : List (List ℕ)) (word : List ℕ) (end held : ℕ) → words ≡ word ∷ more → None ≡ category_of (trim word)
    → raised name (filter_map name_of more) end held ≡ raised name (filter_map name_of words) end held
unknown_word name words more word end held is unknown =
    ap (λ (o : Option Category). raised name (cons_option (option_map Some o) (filter_map name_of more)) end held) unknown
    ∙ ap (λ ws. raised name (filter_map name_of ws) end held) (sym is)

-- ---- one limit

-- whether a part is empty, from the test of a text that is the same
pub tested : (part due : List ℕ) (b c : Bool) → part ≡ due → b ≡ (length part == 0) → b ≡ c → (length due == 0) ≡ c
tested part due b c is told e = ap (λ (t : List ℕ). length t == 0) (sym is) ∙ sym told ∙ e

pub first_told : (text front part : List ℕ) (n : ℕ) → front ≡ before_first (λ b. b == colon) text → part ≡ trim front → IsRetryAfter part n → IsRetryAfter (first_part text) n
first_told text front part n a b h = subst (λ (t : List ℕ). IsRetryAfter t n) (b ∙ ap trim a) h

pub second_is : (text rest front words : List ℕ) → rest ≡ after_first (λ b. b == colon) text → front ≡ before_first (λ b. b == colon) rest → words ≡ trim front → words ≡ second_part text
second_is text rest front words a b c = c ∙ ap trim (b ∙ ap (before_first (λ b. b == colon)) a)

pub blank_names : (text : List ℕ) → (length (trim text) == 0) ≡ true → names_of text ≡ []
blank_names text e = ap (λ b. cond b [] (names_of_list (second_part text))) e

pub all_names : (text : List ℕ) → (length (trim text) == 0) ≡ false → (length (second_part text) == 0) ≡ true → names_of text ≡ None ∷ []
all_names text e f = ap (λ b. cond b [] (names_of_list (second_part text))) e ∙ ap (λ b. cond b (None ∷ []) (listed (second_part text))) f

pub listed_names : (text : List ℕ) → (length (trim text) == 0) ≡ false → (length (second_part text) == 0) ≡ false → names_of text ≡ listed (second_part text)
listed_names text e f = ap (λ b. cond b [] (names_of_list (second_part text))) e ∙ ap (λ b. cond b (None ∷ []) (listed (second_part text))) f

pub held_one : (text : List ℕ) (now : Moment) (old new : RateLimits) (seconds end : ℕ) (names : List (Option Category)) → IsRetryAfter (first_part text) seconds → end ≡ end_after now seconds → names ≡ names_of text
    → ((name : Option Category) → end_of new name ≡ raised name names end (end_of old name)) → AreHeld (text ∷ []) now old new
held_one text now old new seconds end names told is named ends = record {
  limits = record { seconds = seconds; names = names } ∷ [];
  stated = (record { seconds = told; names = named }, tt);
  ends = λ name. ends name ∙ ap (λ e. raised name names e (end_of old name)) is;
}

-- ---- limit after limit

pub held_none : (now : Moment) (limits : RateLimits) → AreHeld [] now limits limits
held_none now limits = record { limits = []; stated = tt; ends = λ name. refl }

held_by : (text : List ℕ) (texts : List (List ℕ)) (now : Moment) (old middle new : RateLimits) (limits : List Limit) → AllZip IsLimit (text ∷ []) limits
    → ((name : Option Category) → end_of middle name ≡ latest now name limits (end_of old name)) → AreHeld texts now middle new → AreHeld (text ∷ texts) now old new
held_by text texts now old middle new [] stated ends rest = absurd stated
held_by text texts now old middle new (limit ∷ []) stated ends rest = record {
  limits = limit ∷ rest.limits;
  stated = (stated.0, rest.stated);
  ends = λ name. rest.ends name ∙ ap (latest now name rest.limits) (ends name);
}
held_by text texts now old middle new (limit ∷ other ∷ limits) stated ends rest = absurd stated.1

pub held_more : (texts more : List (List ℕ)) (text : List ℕ) (now : Moment) (old middle new : RateLimits) → texts ≡ text ∷ more → AreHeld (text ∷ []) now old middle → AreHeld more now middle new → AreHeld texts now old new
held_more texts more text now old middle new is first rest =
    subst (λ (ts : List (List ℕ)). AreHeld ts now old new) (sym is) (held_by text more now old middle new first.limits first.stated first.ends rest)

-- ---- what is left of a list of texts

pub next_text : {S A B : Type 0} (steps : S → Option A → S → Type 0) (v : A → B) (s t : S) (x : A) (ys : List B) → YieldsList steps v s ys → steps s (Some x) t → (zs : List B) × (ys ≡ v x ∷ zs) × YieldsList steps v t zs
next_text steps v s t x [] h step = absurd (h.runs x t step)
next_text steps v s t x (y ∷ ys) h step = let next = h.runs.1 x t step in (ys, ap (λ z. z ∷ ys) (sym next.0), record { runs = next.1 })

pub no_text : {S A B : Type 0} (steps : S → Option A → S → Type 0) (v : A → B) (s t : S) (ys : List B) → YieldsList steps v s ys → steps s None t → ys ≡ []
no_text steps v s t [] h step = refl
no_text steps v s t (y ∷ ys) h step = absurd (h.runs.0 t step)
