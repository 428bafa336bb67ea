-- What each status means, in English.
use Rattle.std.specs.Prelude.{◌≡◌, ℤ, pos, ℕ, List, [], ◌∷◌, Option, Some, None, codes, if◌then◌else◌}
use Rattle.std.specs.Option.{option_or}
use Rattle.std.specs.Ordering.{int_eq}

-- a status and its text
pub record StatusText : Type 0 where
  pub status : ℤ
  pub text : List ℕ

-- the texts of the library's own statuses
abbrev pub own_texts : List StatusText
own_texts =
    record { status = pos 0; text = codes "success" }
    ∷ record { status = pos 1; text = codes "the text is longer than the room for it" }
    ∷ record { status = pos 2; text = codes "no such moment" }
    ∷ record { status = pos 3; text = codes "the text isn't UTF-8" }
    ∷ record { status = pos 4; text = codes "the text can't be parsed" }
    ∷ record { status = pos 5; text = codes "invalid argument" }
    ∷ record { status = pos 6; text = codes "nothing left" }
    ∷ record { status = pos 7; text = codes "the ledger is full" }
    ∷ record { status = pos 17; text = codes "out of memory" }
    ∷ []

-- the texts of errors that the Rust crate has, as that crate prints them
abbrev pub crate_texts : List StatusText
crate_texts =
    record { status = pos 10; text = codes "unexpected end of file" }
    ∷ record { status = pos 11; text = codes "missing envelope header" }
    ∷ record { status = pos 12; text = codes "missing item header" }
    ∷ record { status = pos 13; text = codes "missing newline after header or payload" }
    ∷ record { status = pos 14; text = codes "invalid envelope header" }
    ∷ record { status = pos 15; text = codes "invalid item header" }
    ∷ record { status = pos 16; text = codes "invalid item payload" }
    ∷ record { status = pos 20; text = codes "no valid url provided" }
    ∷ record { status = pos 21; text = codes "no valid scheme" }
    ∷ record { status = pos 22; text = codes "username is empty" }
    ∷ record { status = pos 23; text = codes "empty path" }
    ∷ record { status = pos 24; text = codes "invalid project id" }
    ∷ record { status = pos 30; text = codes "non sentry auth" }
    ∷ record { status = pos 31; text = codes "invalid value for version" }
    ∷ record { status = pos 32; text = codes "missing public key in auth header" }
    ∷ []

-- the text of a status in a table
unfoldable pub text_in : List StatusText → ℤ → Option (List ℕ)
text_in [] status = None
text_in (row ∷ rows) status = if int_eq status row.status then Some row.text else text_in rows status

-- the text of a status; none for a number that no status has
abbrev pub status_text : ℤ → Option (List ℕ)
status_text status = option_or (text_in own_texts status) (text_in crate_texts status)

-- the text is that of the status
abbrev pub IsStatusText : ℤ → List ℕ → Type 0
IsStatusText status text = status_text status ≡ Some text
