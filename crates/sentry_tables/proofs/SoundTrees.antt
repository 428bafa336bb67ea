-- Sound trees are what a tree of the program is.
use Rattle.serde_json.specs.Data.{Data, object, Members}
use Rattle.sentry_json.specs.Sound.{IsSound, IsRegular, HasTexts}
use Rattle.sentry_json.proofs.Sound.{sound_regular, sound_texts}
use Rattle.sentry_tables.specs.Cell.{any}
use Rattle.sentry_tables.specs.Meets.{IsStored}
use Rattle.sentry_tables.specs.Kinds.{any_kind}

pub sound_is_stored : (d : Data) → IsSound d → IsStored any_kind (any d)
sound_is_stored d h = (sound_regular d h, sound_texts d h)

pub sound_members_are_stored : (ms : Members) → IsSound (object ms) → IsRegular (object ms) × HasTexts (object ms)
sound_members_are_stored ms h = (sound_regular (object ms) h, sound_texts (object ms) h)
