-- What texts show as UUIDs.
use Rattle.std.proofs.Common.{◌≡◌, ℕ, List, Some, option_map, Ok, Err, ap}
use Rattle.std.proofs.NetLemmas.Options.{map_some}
use Rattle.serde_json.specs.Data.{Data}
use Rattle.serde_json.specs.Find.{as_str}
use Rattle.uuid.specs.Text.{parsed}
use Rattle.sentry_tables.specs.Cell.{Cell, octets}
use Rattle.sentry_identifiers.specs.Uuids.{uuid_spelling, uuid_kind}
use Rattle.sentry_tables.specs.Reading.{Shown, Refused}
use Rattle.sentry_tables.specs.declared.error.TreeError.TheVariants.{Misfit}
use Rattle.sentry_tables.proofs.Spellings.{text_read}

module _ (to_text : Cell → List ℕ) where
  pub uuid_shown : (text b : List ℕ) (d : Data) → as_str d ≡ Some text → parsed text ≡ Some b → Shown (uuid_kind to_text) d (octets b)
  uuid_shown text b d is reads = text_read (uuid_spelling to_text) octets text d (Ok b) is (ap (option_map octets) reads)

  pub not_uuid : (text : List ℕ) (d : Data) → as_str d ≡ Some text → ((b : List ℕ) → parsed text ≡ Some b → ⊥) → Refused (uuid_kind to_text) d
  not_uuid text d is none = text_read (uuid_spelling to_text) octets text d (Err Misfit) is (λ c e. map_some octets (parsed text) c e (λ b same _. none b same))
