-- JSON objects of texts.
use Rattle.std.specs.Prelude.{List, [], ◌∷◌, ◌++◌, codes}
use Rattle.json.specs.Token.{Token, begin_object, end_object, key, string}
use Rattle.sentry_making.specs.declared.texts.TextMember.{TextMember}

-- the members, each a key and a string
abbrev pub member_tokens : List TextMember → List Token
member_tokens [] = []
member_tokens (m ∷ ms) = key m.key.now ∷ string m.value.now ∷ member_tokens ms

-- an object of the members, and of another object at the key `tags`
abbrev pub event_tokens : List TextMember → List TextMember → List Token
event_tokens members tags = begin_object ∷ (member_tokens members ++ (key (codes "tags") ∷ begin_object ∷ (member_tokens tags ++ (end_object ∷ end_object ∷ []))))
