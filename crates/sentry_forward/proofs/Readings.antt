-- What item headers of known types say, of any type they say too.
use Rattle.std.proofs.Common.{◌≡◌, ℕ, List, [], ◌∷◌, length, Option, Some, None, option_map, option_and_then, inl, inr, refl, ◌∙◌, ap}
use Rattle.std.specs.Prelude.{codes}
use Rattle.std.specs.Str.{is_utf8}
use Rattle.std.proofs.lemmas.Bool.{cases_Bool}
use Rattle.std.proofs.lemmas.Option.{same_Some}
use Rattle.serde_json.specs.Data.{Data}
use Rattle.serde_json.specs.Find.{get, as_str}
use Rattle.serde_json.specs.Read.{read}
use Rattle.serde_json.specs.Written.{has_float}
use Rattle.sentry_json.specs.Line.{tree_of, unless_float}
use Rattle.sentry_framing.specs.ItemHeader.{◌>>=◌, Header, header_of, optional, place_of, read_header, stated_length, whole_number}
use Rattle.sentry_framing.specs.ItemWords.{item_words}
use Rattle.sentry_framing.specs.Framing.{AreFrames, Frame, IsFirstFrame, Reading}
use Rattle.sentry_forward.specs.AnyHeader.{Typed, any_header, any_reading, json_of, typed_of}

-- ---- readings

pub reads : (header : List ℕ) (t : Typed) → any_header header ≡ Some t → any_reading header ≡ Some t.length
unfolding any_reading
reads header t e = ap (option_map (λ (u : Typed). u.length)) e

pub reads_none : (header : List ℕ) → any_header header ≡ None → any_reading header ≡ None
unfolding any_reading
reads_none header e = ap (option_map (λ (u : Typed). u.length)) e

-- ---- trees without floats are trees

whole_read : (o : Option Data) (d : Data) → option_and_then unless_float o ≡ Some d → o ≡ Some d
whole_read None d e = absurd (cc)
whole_read (Some x) d e = elim (cases_Bool (has_float x)) [
  | inl holds ↦ let f = rw holds at e in absurd (cc)
  | inr fails ↦ rw fails at e
]

pub tree_is : (line : List ℕ) (d : Data) → tree_of line ≡ Some d → json_of line ≡ Some d
unfolding tree_of json_of
tree_is line d e = elim (cases_Bool (is_utf8 line)) [
  | inl holds ↦ rw holds (whole_read (read line) d (rw holds at e))
  | inr fails ↦ let f = rw fails at e in absurd (cc)
]

-- ---- fields

split : {A B : Type 0} (o : Option A) (f : A → Option B) (y : B) → option_and_then f o ≡ Some y → (x : A) × (o ≡ Some x) × (f x ≡ Some y)
split None f y e = absurd (cc)
split (Some x) f y e = (x, refl, e)

abbrev Says : Header → Option Typed → Type 0
Says h o = (t : Typed) × (o ≡ Some t) × (t.length ≡ h.length) × (place_of t.word item_words ≡ Some h.kind)

pub typed : (d : Data) (w : List ℕ) (n : Option ℕ) → option_and_then as_str (get (codes "type") d) ≡ Some w → optional whole_number (get (codes "length") d) ≡ Some n → typed_of d ≡ Some (record { word = w; length = n })
unfolding typed_of
typed d w n is fits = rw (is, fits) refl

typed_from : (d : Data) (h : Header) → header_of item_words d ≡ Some h → Says h (typed_of d)
unfolding header_of typed_of
typed_from d h e =
    let (word, w, e1) = split (get (codes "type") d >>= as_str) _ h e in
    let (k, p, e2) = split (place_of word item_words) _ h e1 in
    let (n, l, e3) = split (optional whole_number (get (codes "length") d)) _ h e2 in
    let (a, q, e4) = split (optional as_str (get (codes "content_type") d)) _ h e3 in
    let (b, r, e5) = split (optional as_str (get (codes "filename") d)) _ h e4 in
    let (c, s, e6) = split (optional as_str (get (codes "attachment_type") d)) _ h e5 in
    let all : record { kind = k; length = n; content_type = a; filename = b; attachment_type = c } ≡ h = same_Some _ h e6 in
    (record { word = word; length = n }, typed d word n w l, ap (λ (x : Header). x.length) all, p ∙ ap (λ (x : Header). Some x.kind) all)

pub known_typed : (header : List ℕ) (h : Header) → read_header item_words header ≡ Some h → Says h (any_header header)
unfolding read_header any_header
known_typed header h e =
    let (d, tree, of) = split (tree_of header) (header_of item_words) h e in
    let (t, is, length, place) = typed_from d h of in
    (t, ap (λ o. option_and_then typed_of o) (tree_is header d tree) ∙ is, length, place)

-- ---- frames

pub known_reading : (header : List ℕ) (stated : Option ℕ) → stated_length item_words header ≡ Some stated → any_reading header ≡ Some stated
unfolding stated_length
known_reading header stated e = of (read_header item_words header) refl e
  where
    of : (o : Option Header) → read_header item_words header ≡ o → option_map (λ (h : Header). h.length) o ≡ Some stated → any_reading header ≡ Some stated
    of None r f = absurd (cc)
    of (Some h) r f =
        let (t, is, size, place) = known_typed header h r in
        reads header t is ∙ ap Some (size ∙ same_Some h.length stated f)

pub weaker_frame : (few many : Reading) → ((header : List ℕ) (stated : Option ℕ) → few header ≡ Some stated → many header ≡ Some stated) → (body : List ℕ) (f : Frame) (rest : List ℕ) → IsFirstFrame few body f rest → IsFirstFrame many body f rest
weaker_frame few many w body f rest h = record { after = h.after; opens = h.opens; stated = h.stated; accepted = w f.header h.stated h.accepted; size = h.size; follows = h.follows }

weaker_frames : (few many : Reading) → ((header : List ℕ) (stated : Option ℕ) → few header ≡ Some stated → many header ≡ Some stated) → (body : List ℕ) (fs : List Frame) (rest : List ℕ) → AreFrames few body fs rest → AreFrames many body fs rest
weaker_frames few many w body [] rest h = h
weaker_frames few many w body (f ∷ fs) rest (next, h, more) = (next, weaker_frame few many w body f next h, weaker_frames few many w next fs rest more)

pub known_frames : (body : List ℕ) (fs : List Frame) (rest : List ℕ) → AreFrames (stated_length item_words) body fs rest → AreFrames any_reading body fs rest
known_frames body fs rest h = weaker_frames (stated_length item_words) any_reading known_reading body fs rest h
