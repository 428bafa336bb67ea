-- Members in tokens that a later one replaces, and floats in what is left.
use Rattle.std.proofs.Common.{◌≡◌, ℕ, List, [], Ordering, Less, Equal, Greater, nat_cmp, true, Some, Option, sym, ap, ◌∙◌}
use Rattle.std.proofs.lemmas.Bool.{or_left, or_right}
use Rattle.std.proofs.lemmas.Option.{none-some, same_Some}
use Rattle.std.specs.Cmp.Lexicographic.{slice_cmp}
use Rattle.std.specs.Ordering.{match_ordering}
use Rattle.serde_json.specs.Data.{Data, Members, no_members, member, put}
use Rattle.serde_json.specs.Find.{get_member}
use Rattle.serde_json.specs.Written.{has_float, members_have_float}
use Rattle.serde_json.proofs.Views.{get_member-put, get_member-put_other}
use Rattle.sentry_json.specs.Tokens.{members_of}
use Rattle.sentry_json.specs.declared.tape.token.Token.{Token}
use Rattle.sentry_json.proofs.Puts.{put_over, put_apart}

-- the tokens begin with this member, and `rest` follows
abbrev pub Begins : List Token → List ℕ → Data → List Token → Type 0
Begins ts k d rest = (before : Members) → members_of ts before ≡ members_of rest (put k d before)

-- a member of this key before them counts for nothing
abbrev pub Replaces : List ℕ → List Token → Type 0
Replaces k ts = (d : Data) (before : Members) → members_of ts (put k d before) ≡ members_of ts before

-- it stays
abbrev pub Keeps : List ℕ → List Token → Type 0
Keeps k ts = (before : Members) → get_member k (members_of ts before) ≡ get_member k before

pub replaced_here : (k l : List ℕ) (e : Data) (ts rest : List Token) → Begins ts l e rest → k ≡ l → Replaces k ts
replaced_here k l e ts rest begins same d before =
    rw same (begins (put l d before) ∙ ap (members_of rest) (put_over l e d before) ∙ sym (begins before))

pub replaced_later : (k l : List ℕ) (e : Data) (ts rest : List Token) → Begins ts l e rest → (k ≡ l → ⊥) → Replaces k rest → Replaces k ts
replaced_later k l e ts rest begins apart later d before =
    begins (put k d before) ∙ ap (members_of rest) (sym (put_apart k l d e before apart)) ∙ later d (put l e before) ∙ sym (begins before)

pub kept_on : (k l : List ℕ) (e : Data) (ts rest : List Token) → Begins ts l e rest → (k ≡ l → ⊥) → Keeps k rest → Keeps k ts
kept_on k l e ts rest begins apart later before =
    ap (get_member k) (begins before) ∙ later (put l e before) ∙ get_member-put_other k l e before apart

-- ---- floats

found_at : (o : Ordering) (e d : Data) (ms : Members) (found : Option Data) → (found ≡ Some d → members_have_float ms ≡ true) → match_ordering o found (Some e) found ≡ Some d → has_float d ≡ true → members_have_float (member [] e ms) ≡ true
found_at Less e d ms found more is float = or_right (has_float e) _ (more is)
found_at Equal e d ms found more is float = or_left _ _ (ap has_float (same_Some e d is) ∙ float)
found_at Greater e d ms found more is float = or_right (has_float e) _ (more is)

-- a member with a float is one of the members
pub found_float : (k : List ℕ) (d : Data) (ms : Members) → get_member k ms ≡ Some d → has_float d ≡ true → members_have_float ms ≡ true
found_float k d no_members is float = absurd (none-some d is)
found_float k d (member l e ms) is float = found_at (slice_cmp nat_cmp k l) e d ms (get_member k ms) (λ there. found_float k d ms there float) is float

-- one that stays has its float
pub float_stays : (k : List ℕ) (d : Data) (before : Members) (rest : List Token) → Keeps k rest → has_float d ≡ true → members_have_float (members_of rest (put k d before)) ≡ true
float_stays k d before rest kept float = found_float k d (members_of rest (put k d before)) (kept (put k d before) ∙ get_member-put k d before) float
