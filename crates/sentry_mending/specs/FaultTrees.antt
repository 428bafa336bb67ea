-- The JSON object of a fault.
use Rattle.std.specs.Prelude.{ℕ, List, Option, Some, None, if◌then◌else◌, codes}
use Rattle.std.specs.Str.{is_utf8}
use Rattle.serde_json.specs.Data.{Data, null, number, string, object, unsigned, Members, no_members, member}
use Rattle.sentry_tables.specs.Written.{put_all}
use Rattle.sentry_places.specs.Words.{expected_word, found_word, wanted_word}
use Rattle.sentry_places.specs.declared.note.Place.{Place as Places}
use Rattle.sentry_places.specs.declared.syntax.Break.{Break}
use Rattle.sentry_mending.specs.declared.fault.Cause.{Cause}
use Rattle.sentry_mending.specs.declared.fault.Cause.TheVariants.{Whole, Syntax, Place}
use Rattle.sentry_mending.specs.declared.fault.Fault.{Fault}

-- the text of these bytes; `?` if they aren't UTF-8
unfoldable pub shown_text : List ℕ → List ℕ
shown_text bytes = if is_utf8 bytes then bytes else codes "?"

-- the index of the item; null for the header line
abbrev pub index_tree : Option ℕ → Data
index_tree None = null
index_tree (Some item) = number (unsigned item)

-- of a value that doesn't fit: its path and bytes, what reads there, what stands there, and which
-- number or boolean
abbrev pub place_members : Places → Members
place_members p =
    member (codes "path") (string (shown_text p.path.items)) (
    member (codes "from") (number (unsigned p.start)) (
    member (codes "to") (number (unsigned p.end)) (
    member (codes "wanted") (string (wanted_word p.wanted)) (
    member (codes "found") (string (found_word p.found)) (
    member (codes "value") (string (shown_text p.value.items)) no_members)))))

-- of broken JSON: where it breaks, and what is expected there
abbrev pub break_members : Break → Members
break_members b =
    member (codes "at") (number (unsigned b.at)) (
    member (codes "expected") (string (expected_word b.expected)) no_members)

abbrev pub cause_members : Cause → Members
cause_members Whole = no_members
cause_members (Syntax b) = break_members b
cause_members (Place p) = place_members p

-- the members of a fault whose error has this message
abbrev pub fault_members : List ℕ → Fault → Members
fault_members message f =
    member (codes "error") (string message) (
    member (codes "item") (index_tree f.item) (
    member (codes "type") (string (shown_text f.word.items)) (
    member (codes "start") (number (unsigned f.start)) (
    member (codes "end") (number (unsigned f.end)) (cause_members f.cause)))))

abbrev pub fault_tree : List ℕ → Fault → Data
fault_tree message f = object (put_all (fault_members message f) no_members)
