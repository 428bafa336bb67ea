-- The JSON text of an item's payload.
use Rattle.std.specs.Prelude.{◌≡◌, ℕ, List, ◌++◌, false}
use Rattle.serde_json.specs.Written.{compact_text, has_float}
use Rattle.sentry_tables.specs.Written.{tree}
use Rattle.sentry_items.specs.View.{ItemView, value, payload_kind}

-- The text of a JSON payload comes behind other bytes, if no number in its tree is held as a float;
-- of another payload nothing comes.
abbrev pub AppendsPayload : ItemView → List ℕ → List ℕ → Type 0
AppendsPayload (value k c) old new = has_float (tree (payload_kind k) c) ≡ false → new ≡ old ++ compact_text (tree (payload_kind k) c)
AppendsPayload _ old new = new ≡ old
