-- What a list of tokens means: each token is a value, and what is inside an array or an object
-- comes behind it.
use Rattle.std.specs.Prelude.{◌≡◌, ℕ, zero, suc, ℤ, pos, negsuc, List, [], ◌∷◌, length, take, drop, Option, Some, None, Bool, true, if◌then◌else◌, ⊤}
use Rattle.serde_json.specs.Data.{Num, unsigned, negative, float, Data, null, boolean, number, string, array, object, Items, no_items, item, Members, no_members, put}
use Rattle.sentry_json.specs.declared.tape.token.Token.{Token}
use Rattle.sentry_json.specs.declared.tape.token.Token.TheVariants as token

-- how many of the tokens behind it are inside it
abbrev pub width : Token → ℕ
width token.Null = 0
width (token.Bool b) = 0
width (token.Whole n) = 0
width (token.Negative z) = 0
width (token.Float f) = 0
width (token.Text s) = 0
width (token.Array n) = n
width (token.Object n) = n

-- the text of a string or a key
abbrev pub text_of : Token → Option (List ℕ)
text_of token.Null = None
text_of (token.Bool b) = None
text_of (token.Whole n) = None
text_of (token.Negative z) = None
text_of (token.Float f) = None
text_of (token.Text s) = Some s.now
text_of (token.Array n) = None
text_of (token.Object n) = None

-- the token is no float, unless floats are taken
abbrev pub IsTaken : Bool → Token → Type 0
IsTaken floats token.Null = ⊤
IsTaken floats (token.Bool b) = ⊤
IsTaken floats (token.Whole n) = ⊤
IsTaken floats (token.Negative z) = ⊤
IsTaken floats (token.Float f) = floats ≡ true
IsTaken floats (token.Text s) = ⊤
IsTaken floats (token.Array n) = ⊤
IsTaken floats (token.Object n) = ⊤

abbrev pub AreTaken : Bool → List Token → Type 0
AreTaken floats [] = ⊤
AreTaken floats (t ∷ ts) = IsTaken floats t × AreTaken floats ts

-- these tokens, if they are kept
abbrev pub kept : Bool → List Token → List Token
kept keeps ts = if keeps then ts else []

-- the number that an integer is
abbrev pub integer : ℤ → Num
integer (pos n) = unsigned n
integer (negsuc n) = negative (negsuc n)

-- the value of a token, where it is told what is inside an array and an object
abbrev pub value_with : (List Token → Items) → (List Token → Members) → Token → List Token → Data
value_with items members token.Null ts = null
value_with items members (token.Bool b) ts = boolean b
value_with items members (token.Whole n) ts = number (unsigned n)
value_with items members (token.Negative z) ts = number (integer z)
value_with items members (token.Float f) ts = number (float f.value)
value_with items members (token.Text s) ts = string s.now
value_with items members (token.Array n) ts = array (items ts)
value_with items members (token.Object n) ts = object (members ts)

abbrev pub Meaning : Type 0
Meaning = Token → List Token → Data

-- The values one after the other, by what a token with the tokens inside it means. The number
-- bounds the turns: the count of the tokens is always enough.
unfoldable pub items_by : Meaning → ℕ → List Token → Items
items_by value zero ts = no_items
items_by value (suc n) [] = no_items
items_by value (suc n) (t ∷ ts) = item (value t (take (width t) ts)) (items_by value n (drop (width t) ts))

-- the member at this key goes in, and then the others
abbrev pub member_step : Option (List ℕ) → Data → (Members → Members) → Members → Members
member_step None d more before = before
member_step (Some k) d more before = more (put k d before)

-- The members one after the other, put among those before.
unfoldable pub members_by : Meaning → ℕ → List Token → Members → Members
members_by value zero ts before = before
members_by value (suc n) [] before = before
members_by value (suc n) (k ∷ []) before = before
members_by value (suc n) (k ∷ t ∷ ts) before = member_step (text_of k) (value t (take (width t) ts)) (members_by value n (drop (width t) ts)) before

-- the value of a token and of those inside it, nested no deeper than the number
unfoldable pub value_at : ℕ → Meaning
value_at zero = value_with (λ ts. no_items) (λ ts. no_members)
value_at (suc depth) = value_with (λ ts. items_by (value_at depth) (length ts) ts) (λ ts. members_by (value_at depth) (length ts) ts no_members)

-- ---- the count of the tokens bounds the depth

-- the value of a token with those inside it
abbrev pub value_of : Meaning
value_of t ts = value_at (length ts) t ts

-- the values that stand in the tokens, one after the other
abbrev pub items_of : List Token → Items
items_of ts = items_by (value_at (length ts)) (length ts) ts

-- the members that stand in the tokens, put among those before
abbrev pub members_of : List Token → Members → Members
members_of ts before = members_by (value_at (length ts)) (length ts) ts before

-- the value that the tokens are
abbrev pub tokens_value : List Token → Data
tokens_value [] = null
tokens_value (t ∷ ts) = value_of t ts
