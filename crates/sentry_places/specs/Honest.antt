-- Notes that say what they put.
use Rattle.std.specs.Prelude.{◌≡◌, ◌⊎◌, ℕ, ◌==◌, ◌||◌, if◌then◌else◌, List, [], ◌∷◌, ◌++◌, slice_range, ⊤}
use Rattle.sentry_places.specs.declared.note.Note.{Note}
use Rattle.sentry_places.specs.declared.note.Repair.{Repair}
use Rattle.sentry_places.specs.declared.note.Repair.TheVariants as repair

-- what stands for a byte of JSON in a string of JSON; white space between tokens becomes a space
abbrev pub quoted_byte : ℕ → List ℕ
quoted_byte b = if b == 34 || b == 92 then 92 ∷ b ∷ [] else (if b == 9 || b == 10 || b == 13 then 32 ∷ [] else b ∷ [])

abbrev pub quoted_bytes : List ℕ → List ℕ
quoted_bytes [] = []
quoted_bytes (b ∷ bs) = quoted_byte b ++ quoted_bytes bs

-- JSON as a string of the same characters
abbrev pub quoted : List ℕ → List ℕ
quoted json = 34 ∷ (quoted_bytes json ++ 34 ∷ [])

-- what stands behind the last dot of a path, which `key` begins
abbrev pub key_from : List ℕ → List ℕ → List ℕ
key_from key [] = key
key_from key (b ∷ bs) = if b == 46 then key_from [] bs else key_from (key ++ b ∷ []) bs

-- the last key of a path
abbrev pub last_key : List ℕ → List ℕ
last_key path = key_from [] path

-- `[]`
abbrev pub empty_list : List ℕ
empty_list = 91 ∷ 93 ∷ []

-- `"key":[]`
abbrev pub empty_member : List ℕ → List ℕ
empty_member key = 34 ∷ (key ++ (34 ∷ 58 ∷ empty_list))

-- `[]` for a value; or a member of the path's last key, behind a comma if another stands before it
abbrev pub IsEmptyList : List ℕ → List ℕ → Type 0
IsEmptyList path instead = (instead ≡ empty_list) ⊎ ((instead ≡ empty_member (last_key path)) ⊎ (instead ≡ 44 ∷ empty_member (last_key path)))

-- `"string"`
abbrev pub string_word : List ℕ
string_word = 34 ∷ 115 ∷ 116 ∷ 114 ∷ 105 ∷ 110 ∷ 103 ∷ 34 ∷ []

-- What the bytes that stood at a path became. Of `length` and a header's id these bytes say nothing:
-- whoever puts one says which.
abbrev pub Became : (List ℕ → List ℕ → Type 0) → Repair → List ℕ → List ℕ → List ℕ → Type 0
Became is_time repair.AsMoment path stood instead = is_time stood instead
Became is_time repair.AsText path stood instead = instead ≡ quoted stood
Became is_time repair.AsStringType path stood instead = instead ≡ string_word
Became is_time repair.AsEmptyList path stood instead = IsEmptyList path instead
Became is_time repair.TakenOut path stood instead = instead ≡ []
Became is_time repair.HeaderId path stood instead = ⊤
Became is_time repair.Length path stood instead = ⊤
Became is_time repair.Left path stood instead = instead ≡ []

-- the note puts what its repair says in the place of its bytes
abbrev pub IsHonest : (List ℕ → List ℕ → Type 0) → List ℕ → Note → Type 0
IsHonest is_time bytes n = Became is_time n.repair n.place.path.items (slice_range bytes n.start n.end) n.instead.items
