-- Counts and sizes of the items of an envelope, by their types.
use Rattle.std.specs.Prelude.{◌≡◌, ℕ, ◌==◌, max, Bool, true, List, [], ◌∷◌, length, map, Option, Some, None, count_by, sum_by, slice_index, if◌then◌else◌}
use Rattle.sentry_framing.specs.Framing.{IsFramed, IsLineAndBody}
use Rattle.sentry_framing.specs.ItemWords.{kind_of_word, kind_place}
use Rattle.sentry_framing.specs.declared.kind.ItemKind.{ItemKind}
use Rattle.sentry_forward.specs.AnyHeader.{any_reading, is_object_line}
use Rattle.sentry_forward.specs.View.{AreNamed, any_frame, word_of}
use Rattle.sentry_forward.specs.declared.frames.AnyFrame.{AnyFrame}
use Rattle.sentry_limits.specs.declared.sizes.Measured.{Measured}

-- the place of a type's numbers; unknown types, which `None` stands for, come last
abbrev pub place : Option ItemKind → ℕ
place (Some kind) = kind_place kind
place None = 11

abbrev pub kind_of : AnyFrame → Option ItemKind
kind_of item = kind_of_word (word_of item)

-- the item is of this type
abbrev pub is_of : Option ItemKind → AnyFrame → Bool
is_of kind item = place (kind_of item) == place kind

abbrev pub payload_len : AnyFrame → ℕ
payload_len item = length item.payload.now

-- how many items of the type there are
abbrev pub items_of : Option ItemKind → List AnyFrame → ℕ
items_of kind items = count_by (is_of kind) items

-- the bytes of their payloads
abbrev pub bytes_of : Option ItemKind → List AnyFrame → ℕ
bytes_of kind items = sum_by (λ item. if is_of kind item then payload_len item else 0) items

-- the bytes of the longest payload
abbrev pub longest_of : List AnyFrame → ℕ
longest_of [] = 0
longest_of (item ∷ items) = max (payload_len item) (longest_of items)

-- the numbers of a type
abbrev pub items_at : Measured → Option ItemKind → ℕ
items_at measured kind = slice_index measured.items (place kind)

abbrev pub bytes_at : Measured → Option ItemKind → ℕ
bytes_at measured kind = slice_index measured.bytes (place kind)

-- the numbers are those of these items
pub record AreCounted (items : List AnyFrame) (measured : Measured) : Type 0 where
  pub items_are : (kind : Option ItemKind) → items_at measured kind ≡ items_of kind items
  pub bytes_are : (kind : Option ItemKind) → bytes_at measured kind ≡ bytes_of kind items
  pub longest_is : measured.longest ≡ longest_of items

-- the envelope in these bytes has these items, each by its name, and the numbers are theirs
pub record IsMeasured (bytes : List ℕ) (measured : Measured) : Type 0 where
  pub line : List ℕ
  pub body : List ℕ
  pub items : List AnyFrame
  pub header : IsLineAndBody bytes line body
  pub object : is_object_line line ≡ true
  pub named : AreNamed items
  pub framed : IsFramed any_reading body (map any_frame items)
  pub counted : AreCounted items measured
