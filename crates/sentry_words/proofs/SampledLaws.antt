-- Truth values as texts read back.
use Rattle.std.proofs.Common.{◌≡◌, codes, Bool, true, false, Some, refl, IsUtf8}
use Rattle.sentry_tables.specs.Laws.{HasLaws}
use Rattle.sentry_tables.proofs.Sound.{ascii_text}
use Rattle.sentry_tables.specs.Spelling.{SpellingLaws, IsWord}
use Rattle.sentry_tables.proofs.Spellings.{enumeration_laws, spelled_has_laws}
use Rattle.sentry_words.specs.Sampled.{sampled_word, sampled_of, sampled_spelling, sampled_kind, sampled_cell}

pub sampled_stored : (truth : Bool) → IsWord sampled_word (sampled_cell truth)
sampled_stored truth = (truth, refl)

pub sampled_back : (truth : Bool) → sampled_of (sampled_word truth) ≡ Some truth
sampled_back true = refl
sampled_back false = refl

utf8 : (truth : Bool) → IsUtf8 (sampled_word truth)
utf8 true = ascii_text (codes "true") refl
utf8 false = ascii_text (codes "false") refl

pub sampled_laws : SpellingLaws sampled_spelling
sampled_laws = enumeration_laws sampled_of sampled_word sampled_back utf8

pub sampled_has_laws : HasLaws sampled_kind
sampled_has_laws = spelled_has_laws sampled_spelling sampled_laws
