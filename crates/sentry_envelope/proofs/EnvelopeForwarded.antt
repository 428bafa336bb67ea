-- Envelopes that are accepted, framed by item headers of any type.
use Rattle.std.proofs.Common.{◌≡◌, ◌-◌, ℕ, Bool, true, false, List, [], ◌∷◌, length, take, Option, Some, option_and_then, is_some, refl, sym, ◌∙◌, ap, subst}
use Rattle.std.proofs.lemmas.Option.{same_Some}
use Rattle.serde_json.specs.Data.{Data}
use Rattle.serde_json.specs.Find.{as_object}
use Rattle.sentry_tables.specs.Cell.{Cell}
use Rattle.sentry_tables.specs.Kind.{Kind}
use Rattle.sentry_tables.specs.Laws.{TextShows}
use Rattle.sentry_tables.specs.Shows.{Shows, is_object}
use Rattle.sentry_framing.specs.Framing.{Frame, IsFirstFrame}
use Rattle.sentry_framing.specs.ItemHeader.{read_header, stated_length}
use Rattle.sentry_framing.specs.ItemWords.{item_words}
use Rattle.sentry_framing.proofs.EnvelopeLine.{same_line}
use Rattle.sentry_framing.proofs.StatedLengths.{states}
use Rattle.sentry_forward.specs.AnyHeader.{any_reading, is_object_line}
use Rattle.sentry_forward.specs.Forward.{ArePieces, Piece, kept}
use Rattle.sentry_forward.proofs.Left.{cut_front, left_line, left_pieces, same_pieces}
use Rattle.sentry_forward.proofs.Readings.{known_reading, known_typed, reads as any_reads, tree_is, weaker_frame}
use Rattle.sentry_envelope.specs.Profile.{Profile, words}
use Rattle.sentry_envelope.specs.Envelope.{Item, item, raw, ItemShows, ItemsStand, reads}
use Rattle.sentry_envelope.specs.ForwardLaws.{ForwardedAreSpelled, KeptAreSpelled, PiecesShow, SpelledAreFramed}
use Rattle.sentry_envelope.specs.SentryProfile.{profile}

-- a kind of which each tree is an object
abbrev ShowsObjects : Kind → Type 0
ShowsObjects K = (now : Cell) (d : Data) (c : Cell) → Shows K now d c → is_object d ≡ true

object_line : (line : List ℕ) (K : Kind) (now c : Cell) → ShowsObjects K → TextShows K now line c → is_object_line line ≡ true
unfolding is_object_line
object_line line K now c objects (d, tree, shows) = ap (λ o. is_some (option_and_then as_object o)) (tree_is line d tree) ∙ objects now d c shows

module _ (P : Profile) (same : words P.types ≡ item_words) (objects : ShowsObjects P.header) where
  any_from : (header : List ℕ) (stated : Option ℕ) → reads P header ≡ Some stated → any_reading header ≡ Some stated
  any_from header stated e = known_reading header stated (ap (λ ws. stated_length ws header) (sym same) ∙ e)

  -- the header of a frame that shows an item states the length that it states of any type
  stated_too : (now : Cell) (f : Frame) (i : Item) (stated : Option ℕ) → ItemShows P now f i → any_reading f.header ≡ Some stated → reads P f.header ≡ Some stated
  stated_too now f raw stated shows e = absurd shows
  stated_too now f (item n c) stated (h, read, kind, shown) e =
      let known = known_typed f.header h (ap (λ ws. read_header ws f.header) (sym same) ∙ read) in
      let length : stated ≡ h.length = same_Some stated known.0.length (sym e ∙ any_reads f.header known.0 known.1) ∙ known.2 in
      states (words P.types) f.header h read ∙ ap Some (sym length)

  narrower : (now : Cell) (body : List ℕ) (f : Frame) (i : Item) (rest : List ℕ) → ItemShows P now f i → IsFirstFrame any_reading body f rest → IsFirstFrame (reads P) body f rest
  narrower now body f i rest shows h =
      record { after = h.after; opens = h.opens; stated = h.stated; accepted = stated_too now f i h.stated shows h.accepted; size = h.size; follows = h.follows }

  pieces_of : (now : Cell) (body : List ℕ) (is : List Item) → ItemsStand P now body is [] → (pieces : List Piece) × ArePieces any_reading body pieces × PiecesShow P now pieces is
  pieces_of now body [] h = ([], h, tt)
  pieces_of now body (i ∷ is) (f, next, first, shows, more) =
      let any = weaker_frame (reads P) any_reading any_from body f next first in
      let (pieces, framed, shown) = pieces_of now next is more in
      (record { frame = f; bytes = take (length body - length next) body } ∷ pieces, (next, any, cut_front any_reading body next f any, framed), (shows, shown))

  items_of : (now : Cell) (body : List ℕ) (pieces : List Piece) (is : List Item) → ArePieces any_reading body pieces → PiecesShow P now pieces is → ItemsStand P now body is []
  items_of now body [] [] h shown = h
  items_of now body [] (i ∷ is) h shown = absurd shown
  items_of now body (p ∷ ps) [] h shown = absurd shown
  items_of now body (p ∷ ps) (i ∷ is) (next, first, parts, more) (shows, others) =
      (p.frame, next, narrower now body p.frame i next shows first, shows, items_of now next ps is more others)

  shown_kept : (now : Cell) (pieces : List Piece) (is : List Item) (answers : List Bool) → PiecesShow P now pieces is → PiecesShow P now (kept pieces answers) (kept is answers)
  shown_kept now [] [] answers h = tt
  shown_kept now [] (i ∷ is) answers h = absurd h
  shown_kept now (p ∷ ps) [] answers h = absurd h
  shown_kept now (p ∷ ps) (i ∷ is) [] h = tt
  shown_kept now (p ∷ ps) (i ∷ is) (true ∷ answers) (shows, others) = (shows, shown_kept now ps is answers others)
  shown_kept now (p ∷ ps) (i ∷ is) (false ∷ answers) (shows, others) = shown_kept now ps is answers others

  pub spelled_framed : SpelledAreFramed P
  spelled_framed bytes now e h =
      let (pieces, framed, shown) = pieces_of now h.body e.items h.items in
      record { line = h.line; body = h.body; pieces = pieces; header = h.parts; object = object_line h.line P.header now h.shown objects h.line_shows; framed = framed; shown = shown }

  pub forwarded_spelled : ForwardedAreSpelled P
  forwarded_spelled bytes line pieces answers text now shown items h line_shows shows = record {
    line = line;
    body = _;
    shown = shown;
    parts = left_line any_reading bytes line pieces answers text h;
    line_shows = line_shows;
    header = refl;
    items = items_of now _ (kept pieces answers) items (left_pieces any_reading bytes line pieces answers text h) shows;
  }

  pub kept_spelled : KeptAreSpelled P
  kept_spelled bytes now e line pieces answers text h leaves =
      let (lines, bodies) = same_line bytes h.line h.body line leaves.body h.parts leaves.header in
      let (own, framed, shown) = pieces_of now h.body e.items h.items in
      let pieces_same : own ≡ pieces = same_pieces any_reading leaves.body own pieces (subst (λ b. ArePieces any_reading b own) bodies framed) leaves.framed in
      let shows = subst (λ (ps : List Piece). PiecesShow P now ps e.items) pieces_same shown in
      let line_shows = subst (λ l. TextShows P.header now l h.shown) lines h.line_shows in
      (h.shown, line_shows, forwarded_spelled bytes line pieces answers text now h.shown (kept e.items answers) leaves line_shows (shown_kept now pieces e.items answers shows))

-- ---- of Sentry's envelopes

profile_words : words profile.types ≡ item_words
unfolding profile
profile_words = refl

profile_objects : ShowsObjects profile.header
unfolding profile
profile_objects now d c shows = shows.0

pub profile_framed : SpelledAreFramed profile
profile_framed = spelled_framed profile profile_words profile_objects

pub profile_forwarded : ForwardedAreSpelled profile
profile_forwarded = forwarded_spelled profile profile_words profile_objects

pub profile_kept : KeptAreSpelled profile
profile_kept = kept_spelled profile profile_words profile_objects
