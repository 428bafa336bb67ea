-- The words of item types.
use Rattle.std.proofs.Common.{◌≡◌, Some, refl}
use Rattle.sentry_framing.specs.ItemHeader.{place_of}
use Rattle.sentry_framing.specs.ItemWords.{item_words, kind_of_word, kind_place, kind_word}
use Rattle.sentry_framing.specs.declared.kind.ItemKind.{ItemKind}
use Rattle.sentry_framing.specs.declared.kind.ItemKind.TheVariants as kind

pub word_in_place : (k : ItemKind) → place_of (kind_word k) item_words ≡ Some (kind_place k)
word_in_place kind.Event = refl
word_in_place _ = refl

pub word_of_kind : (k : ItemKind) → kind_of_word (kind_word k) ≡ Some k
word_of_kind kind.Event = refl
word_of_kind _ = refl
