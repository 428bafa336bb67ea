-- The text of an item whose payload is JSON, other than a container: its header states the
-- payload's length.
use Rattle.std.specs.Prelude.{◌≡◌, ℕ, List, [], ◌++◌, false, ⊤}
use Rattle.serde_json.specs.Written.{compact_text, has_float}
use Rattle.sentry_tables.specs.Written.{tree}
use Rattle.sentry_framing.specs.Framing.{with_line}
use Rattle.sentry_framing.specs.ItemWords.{kind_word}
use Rattle.sentry_items.specs.Attached.{short_header}
use Rattle.sentry_items.specs.HeaderText.{header_text}
use Rattle.sentry_items.specs.View.{ItemView, raw, value, payload_kind}

-- a header that states the payload's length, and the payload, each ended by NL
abbrev pub value_text : List ℕ → List ℕ → List ℕ
value_text word payload = with_line (header_text (short_header word payload)) (with_line payload [])

-- the text of an item that holds a value comes behind other bytes, if no number in its tree is held
-- as a float; for `Raw` nothing comes
abbrev pub AppendsValue : ItemView → List ℕ → List ℕ → Type 0
AppendsValue (value k c) old new = has_float (tree (payload_kind k) c) ≡ false → new ≡ old ++ value_text (kind_word k) (compact_text (tree (payload_kind k) c))
AppendsValue raw old new = new ≡ old
AppendsValue _ old new = ⊤
