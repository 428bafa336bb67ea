-- Rows with their texts, as texts grow.
use Rattle.std.proofs.Common.{arith, ◌≡◌, ◌∙◌, ◌≤◌, ◌<◌, ◌+◌, ◌-◌, ◌^◌, min, ℕ, zero, suc, List, [], ◌∷◌, ◌++◌, length, take, drop, ap, sym, subst, refl, append-nil, append_assoc, length-append, inl, inr, Bool, Option, Some, None, ℤ, pos, to_z, of_z, w32}
use Rattle.std.proofs.lemmas.List.{length-take, take_all, take-append-le, take_min}
use Rattle.std.specs.List.{All, AllZip}
use Rattle.std.proofs.lemmas.List.Elements.{All-nil}
use Rattle.sentry_tables.specs.Cell.{Cell, moment}
use Rattle.sentry_moments.specs.Moments.{moment_cell}
use Rattle.sentry_moments.specs.declared.moment.Moment.{Moment}
use Rattle.sentry_framing.specs.declared.error.EnvelopeError.{EnvelopeError}
use Rattle.sentry_framing.specs.declared.error.EnvelopeError.TheVariants as refusals
use Rattle.sentry_places.specs.declared.note.Note.{Note}
use Rattle.sentry_places.specs.declared.note.Place.{Place}
use Rattle.sentry_envelope.specs.EnvelopeView.{text_of}
use Rattle.sentry_envelope.specs.SentryProfile.{profile}
use Rattle.sentry_mending.specs.Alone.{Fails, Reads}
use Rattle.sentry_mending.specs.Told.{IsTold}
use Rattle.sentry_mending.specs.declared.fault.Cause.{Cause}
use Rattle.sentry_mending.specs.declared.fault.Cause.TheVariants as causes
use Rattle.sentry_mending.specs.declared.fault.Fault.{Fault}
use Rattle.sentry_mending.specs.declared.mending.MendRules.{MendRules}
use Rattle.sentry_mending.specs.declared.mending.Mended.{Mended}
use Rattle.sentry_mending.specs.declared.mending.MendedItem.{MendedItem}
use Rattle.sentry_c.specs.Explaining.{IsAnswer, IsExplainedBy, IsFaultText, IsSomeFaultText, TellsCause, TellsFault}
use Rattle.sentry_c.specs.Mending.{AddsNotes, AreNoted, IsMendedAs, IsMendedOf, IsMendedText, IsSomeMendedText, NoteOn, TellsNote, error_of, fault_status, mended_status, noted, notes_of}
use Rattle.sentry_c.specs.Misfits.{HasText, IsGrown, TellsPlace}
use Rattle.sentry_c.specs.Statuses.{refusal_status}
use Rattle.sentry_c.specs.Texts.{IsAt}
use Rattle.sentry_c.specs.declared.explaining.CurdmesaFault.{CurdmesaFault}
use Rattle.sentry_c.specs.declared.explaining.FaultRows.{FaultRows}
use Rattle.sentry_c.specs.declared.mending.CurdmesaNote.{CurdmesaNote}
use Rattle.sentry_c.specs.declared.mending.Notes.{Notes}
use Rattle.sentry_c.specs.declared.mending.Text.{Text}
use Rattle.sentry_c.specs.declared.misfit.CurdmesaMisfit.{CurdmesaMisfit}
use Rattle.sentry_c.specs.declared.texts.CurdmesaPlace.{CurdmesaPlace}

-- ---- texts that grow

pub grown_not : (a : List ℕ) → IsGrown a a
grown_not a = ([], sym (append-nil a))

pub grown_by : (a b c : List ℕ) → b ≡ a ++ c → IsGrown a b
grown_by a b c is = (c, is)

pub grown_on : (a b c : List ℕ) → IsGrown a b → IsGrown b c → IsGrown a c
grown_on a b c (x, p) (y, q) = (x ++ y, q ∙ (ap (λ t. t ++ y) p ∙ append_assoc a x y))

pub stands_on : (old new : List ℕ) (place : CurdmesaPlace) (part : List ℕ) → IsGrown old new → IsAt old place part → IsAt new place part
stands_on old new place part (more, is) at = record {
  before = at.before;
  after = at.after ++ more;
  split = is ∙ (ap (λ t. t ++ more) at.split ∙ (append_assoc at.before (part ++ at.after) more ∙ ap (λ t. at.before ++ t) (append_assoc part at.after more)));
  offset_is = at.offset_is;
  count_is = at.count_is;
}

pub has_text_on : (old new : List ℕ) (place : CurdmesaPlace) → IsGrown old new → HasText old place → HasText new place
has_text_on old new place grown (part, at) = (part, stands_on old new place part grown at)

pub place_on : (old new : List ℕ) (misfit : CurdmesaMisfit) (place : Place) → IsGrown old new → TellsPlace old misfit place → TellsPlace new misfit place
place_on old new misfit place grown told = record {
  start = told.start;
  end = told.end;
  path = stands_on old new misfit.path _ grown told.path;
  wanted = has_text_on old new misfit.wanted grown told.wanted;
  found = has_text_on old new misfit.found grown told.found;
  value = stands_on old new misfit.value _ grown told.value;
}

pub cause_on : (old new : List ℕ) (number : ℕ) (misfit : CurdmesaMisfit) (cause : Cause) → IsGrown old new → TellsCause old number misfit cause → TellsCause new number misfit cause
cause_on old new number misfit causes.Whole grown told = told
cause_on old new number misfit (causes.Syntax broken) grown told = (told.0, told.1, has_text_on old new misfit.wanted grown told.2)
cause_on old new number misfit (causes.Place place) grown told = (told.0, place_on old new misfit place grown told.1)

pub fault_on : (old new : List ℕ) (row : CurdmesaFault) (fault : Fault) → IsGrown old new → TellsFault old row fault → TellsFault new row fault
fault_on old new row fault grown told = record {
  item = told.item;
  start = told.start;
  end = told.end;
  error = told.error;
  cause = cause_on old new row.cause row.misfit fault.cause grown told.cause;
  word = stands_on old new row.word _ grown told.word;
  message = has_text_on old new row.message grown told.message;
}

pub note_on : (old new : List ℕ) (row : CurdmesaNote) (on : NoteOn) → IsGrown old new → TellsNote old row on → TellsNote new row on
note_on old new row on grown told = record {
  item = told.item;
  error = told.error;
  word = stands_on old new row.word _ grown told.word;
  start = told.start;
  end = told.end;
  repair = told.repair;
  place = place_on old new row.misfit _ grown told.place;
  instead = stands_on old new row.instead _ grown told.instead;
  message = has_text_on old new row.message grown told.message;
}

-- ---- rows

pub zip_on : {A B : Type 0} (R S : A → B → Type 0) (xs : List A) (ys : List B) → ((x : A) (y : B) → R x y → S x y) → AllZip R xs ys → AllZip S xs ys
zip_on R S [] [] on all = all
zip_on R S [] (y ∷ ys) on all = absurd all
zip_on R S (x ∷ xs) [] on all = absurd all
zip_on R S (x ∷ xs) (y ∷ ys) on all = (on x y all.0, zip_on R S xs ys on all.1)

pub zip_push : {A B : Type 0} (R : A → B → Type 0) (xs : List A) (ys : List B) (x : A) (y : B) → AllZip R xs ys → R x y → AllZip R (xs ++ x ∷ []) (ys ++ y ∷ [])
zip_push R [] [] x y all one = (one, all)
zip_push R [] (z ∷ ys) x y all one = absurd all
zip_push R (w ∷ xs) [] x y all one = absurd all
zip_push R (w ∷ xs) (z ∷ ys) x y all one = (all.0, zip_push R xs ys x y all.1 one)

pub zip_length : {A B : Type 0} (R : A → B → Type 0) (xs : List A) (ys : List B) → AllZip R xs ys → length xs ≡ length ys
zip_length R [] [] all = refl
zip_length R [] (y ∷ ys) all = absurd all
zip_length R (x ∷ xs) [] all = absurd all
zip_length R (x ∷ xs) (y ∷ ys) all = ap suc (zip_length R xs ys all.1)

pub zip_none : {A B : Type 0} (R : A → B → Type 0) (xs : List A) → xs ≡ [] → AllZip R xs []
zip_none R [] is = tt
zip_none R (x ∷ xs) is = cc

pub none_shown : {A B : Type 0} (R : A → B → Type 0) (most : ℕ) (xs : List A) → xs ≡ [] → AllZip R xs (take most [])
none_shown R zero xs is = zip_none R xs is
none_shown R (suc most) xs is = zip_none R xs is

-- ---- faults

-- a status fits the number that a row has of it
pub status_kept : (error : EnvelopeError) (status : ℤ) → status ≡ refusal_status error → to_z w32 (of_z w32 status) ≡ refusal_status error
status_kept refusals.UnexpectedEof status is = rw is refl
status_kept refusals.MissingHeader status is = rw is refl
status_kept refusals.MissingItemHeader status is = rw is refl
status_kept refusals.MissingNewline status is = rw is refl
status_kept refusals.InvalidHeader status is = rw is refl
status_kept refusals.InvalidItemHeader status is = rw is refl
status_kept refusals.InvalidItemPayload status is = rw is refl
status_kept refusals.OutOfMemory status is = rw is refl

option_kept : (fault : Option Fault) (status : ℤ) → status ≡ fault_status fault → to_z w32 (of_z w32 status) ≡ fault_status fault
option_kept None status is = rw is refl
option_kept (Some fault) status is = status_kept fault.error status is

pub mended_kept : (error : Option EnvelopeError) (status : ℤ) → status ≡ mended_status error → to_z w32 (of_z w32 status) ≡ mended_status error
mended_kept None status is = rw is refl
mended_kept (Some error) status is = status_kept error status is

pub error_kept : (item : MendedItem) (status : ℤ) → status ≡ error_of item → to_z w32 (of_z w32 status) ≡ error_of item
error_kept item status is = option_kept item.fault status is

-- faults of which the first have rows
abbrev pub AreRows : List ℕ → List CurdmesaFault → List Fault → List Fault → Type 0
AreRows texts rows faults left = (done : List Fault) × (faults ≡ done ++ left) × AllZip (TellsFault texts) rows done

pub next_row : (old new : List ℕ) (rows more : List CurdmesaFault) (faults left rest : List Fault) (fault : Fault) (row : CurdmesaFault) → left ≡ fault ∷ rest → IsGrown old new → TellsFault new row fault → more ≡ rows ++ row ∷ []
    → AreRows old rows faults left → AreRows new more faults rest
next_row old new rows more faults left rest fault row is grown told pushed (done, parts, all) = (
  done ++ fault ∷ [],
  parts ∙ (ap (λ l. done ++ l) is ∙ sym (append_assoc done (fault ∷ []) rest)),
  rw pushed (zip_push (TellsFault new) rows done row fault (zip_on (TellsFault old) (TellsFault new) rows done (λ r f. fault_on old new r f grown) all) told),
)

pub all_rows : (texts : List ℕ) (rows : List CurdmesaFault) (faults left : List Fault) → length left ≡ 0 → AreRows texts rows faults left → AllZip (TellsFault texts) rows faults
all_rows texts rows faults [] ends (done, parts, all) = subst (AllZip (TellsFault texts) rows) (sym (parts ∙ append-nil done)) all
all_rows texts rows faults (f ∷ left) ends (done, parts, all) = absurd (omega (arith, ends))

-- ---- notes

-- a note whose row was appended
pub noted_row : (front : List ℕ) (most : ℕ) (before : List NoteOn) (on : NoteOn) (row : CurdmesaNote) (old new : Notes) → length old.rows.items < most → new.count ≡ min (old.count + 1) (2 ^ 64 - 1)
    → IsGrown old.texts.items new.texts.items → TellsNote new.texts.items row on → new.rows.items ≡ old.rows.items ++ row ∷ [] → AreNoted front most before old → AreNoted front most (before ++ on ∷ []) new
noted_row front most before on row old new room more grown told pushed noted =
    let rows = zip_length (TellsNote old.texts.items) old.rows.items (take most before) noted.rows in
    let taken = length-take most before in
    let long = length-append before (on ∷ []) in
    let short : length before < most = omega (arith, rows, taken, room) in
    let same : take most before ≡ before = take_all most before (omega (arith, short)) in
    let all : take most (before ++ on ∷ []) ≡ before ++ on ∷ [] = take_all most (before ++ on ∷ []) (omega (arith, short, long)) in
    let first : AllZip (TellsNote new.texts.items) old.rows.items before =
    subst (AllZip (TellsNote new.texts.items) old.rows.items) same
    (zip_on (TellsNote old.texts.items) (TellsNote new.texts.items) old.rows.items (take most before) (λ r n. note_on old.texts.items new.texts.items r n grown) noted.rows) in
    record {
      grown = grown_on front old.texts.items new.texts.items noted.grown grown;
      count_is = omega (arith, more, noted.count_is, long);
      rows = rw (pushed, all) (zip_push (TellsNote new.texts.items) old.rows.items before row on first told);
    }

-- a note without a row, since there are as many as asked for
pub noted_over : (front : List ℕ) (most : ℕ) (before : List NoteOn) (on : NoteOn) (old new : Notes) → most ≤ length old.rows.items → new.count ≡ min (old.count + 1) (2 ^ 64 - 1)
    → new.texts.items ≡ old.texts.items → new.rows.items ≡ old.rows.items → AreNoted front most before old → AreNoted front most (before ++ on ∷ []) new
noted_over front most before on old new full more texts rows noted =
    let counted = zip_length (TellsNote old.texts.items) old.rows.items (take most before) noted.rows in
    let taken = length-take most before in
    let long = length-append before (on ∷ []) in
    let same : take most (before ++ on ∷ []) ≡ take most before = take-append-le most before (on ∷ []) (omega (arith, counted, taken, full)) in
    record {
      grown = rw texts noted.grown;
      count_is = omega (arith, more, noted.count_is, long);
      rows = rw (texts, rows, same) noted.rows;
    }

pub adds_none : (most : ℕ) (notes : Notes) → AddsNotes most notes notes []
adds_none most notes = λ front before noted. subst (λ all. AreNoted front most all notes) (sym (append-nil before)) noted

pub adds_append : (most : ℕ) (a b c : Notes) (xs ys : List NoteOn) → AddsNotes most a b xs → AddsNotes most b c ys → AddsNotes most a c (xs ++ ys)
adds_append most a b c xs ys first second = λ front before noted.
    subst (λ all. AreNoted front most all c) (append_assoc before xs ys) (second front (before ++ xs) (first front before noted))

pub no_notes_left : (most : ℕ) (item : MendedItem) (notes : Notes) (left : List Note) → length left ≡ 0 → AddsNotes most notes notes (notes_of item left)
no_notes_left most item notes [] ends = adds_none most notes
no_notes_left most item notes (n ∷ left) ends = absurd (omega (arith, ends))

pub note_left : (most : ℕ) (item : MendedItem) (a b c : Notes) (left rest : List Note) (note : Note) → left ≡ note ∷ rest → AddsNotes most a b ((item, note) ∷ []) → AddsNotes most b c (notes_of item rest) → AddsNotes most a c (notes_of item left)
note_left most item a b c left rest note is first more = rw is (adds_append most a b c ((item, note) ∷ []) (notes_of item rest) first more)

pub no_items_left : (most : ℕ) (notes : Notes) (left : List MendedItem) → length left ≡ 0 → AddsNotes most notes notes (noted left)
no_items_left most notes [] ends = adds_none most notes
no_items_left most notes (m ∷ left) ends = absurd (omega (arith, ends))

pub item_left : (most : ℕ) (a b c d e : Notes) (left rest : List MendedItem) (item : MendedItem) → left ≡ item ∷ rest → AddsNotes most a b (notes_of item item.frame.items) → AddsNotes most b c (notes_of item item.id.items)
    → AddsNotes most c d (notes_of item item.payload.items) → AddsNotes most d e (noted rest) → AddsNotes most a e (noted left)
item_left most a b c d e left rest item is frame id payload more =
    rw is (adds_append most a b e (notes_of item item.frame.items) (notes_of item item.id.items ++ (notes_of item item.payload.items ++ noted rest)) frame
    (adds_append most b c e (notes_of item item.id.items) (notes_of item item.payload.items ++ noted rest) id (adds_append most c d e (notes_of item item.payload.items) (noted rest) payload more)))

-- ---- what calls give

pub none_explained : (bytes : List ℕ) (now : Cell) (most : ℕ) (x : FaultRows) → Reads profile now bytes → x.error ≡ pos 0 → x.count ≡ 0 → x.rows.items ≡ [] → IsExplainedBy bytes now most x
none_explained bytes now most x reads error count rows = record {
  faults = [];
  told = All-nil (IsTold profile bytes);
  answer = inl (error, reads, refl);
  count_is = count;
  rows = none_shown (TellsFault x.texts.items) most x.rows.items rows;
  fit = omega (arith, ap length rows);
}

pub some_explained : (bytes : List ℕ) (now : Cell) (most : ℕ) (x : FaultRows) (shown : ℕ) (faults : List Fault) (error : EnvelopeError) → All (IsTold profile bytes) faults → Fails profile bytes error → x.error ≡ refusal_status error → x.count ≡ length faults
    → shown ≡ min (length faults) most → AllZip (TellsFault x.texts.items) x.rows.items (take shown faults) → IsExplainedBy bytes now most x
some_explained bytes now most x shown faults error told fails status count least rows =
    let long = zip_length (TellsFault x.texts.items) x.rows.items (take shown faults) rows in
    let taken = length-take shown faults in
    let other : shown ≡ min most (length faults) = omega (arith, least) in
    let same : take shown faults ≡ take most faults = ap (λ (k : ℕ). take k faults) other ∙ take_min most faults in
    record {
      faults = faults;
      told = told;
      answer = inr (error, status, fails);
      count_is = count;
      rows = subst (AllZip (TellsFault x.texts.items) x.rows.items) same rows;
      fit = omega (arith, long, taken, least);
    }

pub fault_text : (bytes : List ℕ) (now : Cell) (old new : List CurdmesaFault) (x : FaultRows) → IsExplainedBy bytes now (length old) x → new ≡ x.rows.items ++ drop (length x.rows.items) old → IsFaultText bytes now x.error x.count old new x.texts.items
fault_text bytes now old new x shown put = record {
  faults = shown.faults;
  told = shown.told;
  answer = shown.answer;
  count_is = shown.count_is;
  rows = record { rows = x.rows.items; each = shown.rows; put = put };
}

none_noted : (front : List ℕ) (most : ℕ) (notes : Notes) → notes.texts.items ≡ front → notes.count ≡ 0 → notes.rows.items ≡ [] → AreNoted front most [] notes
none_noted front most notes texts count rows = record {
  grown = rw texts (grown_not front);
  count_is = omega (arith, count);
  rows = none_shown (TellsNote notes.texts.items) most notes.rows.items rows;
}

pub mended_as : (bytes : List ℕ) (now : Cell) (rules : MendRules) (most : ℕ) (mended : Mended) (before : Notes) (x : Text) → IsMendedOf bytes now rules mended → before.texts.items ≡ text_of mended.envelope → before.count ≡ 0 → before.rows.items ≡ []
    → AddsNotes most before x.notes (noted mended.items.items) → x.len ≡ length (text_of mended.envelope) → x.error ≡ mended_status mended.error → IsMendedAs bytes now rules most x
mended_as bytes now rules most mended before x is texts count rows adds len error =
    let notes : AreNoted (text_of mended.envelope) most (noted mended.items.items) x.notes = adds (text_of mended.envelope) [] (none_noted (text_of mended.envelope) most before texts count rows) in
    let long = zip_length (TellsNote x.notes.texts.items) x.notes.rows.items (take most (noted mended.items.items)) notes.rows in
    let taken = length-take most (noted mended.items.items) in
    record { mended = mended; is = is; error_is = error; len_is = len; notes = notes; fit = omega (arith, long, taken) }

pub mended_text : (bytes : List ℕ) (now : Cell) (rules : MendRules) (header_event_id : Bool) (old new : List CurdmesaNote) (x : Text) → rules.max_tested ≡ 32 → rules.header_event_id ≡ header_event_id → IsMendedAs bytes now rules (length old) x → new ≡ x.notes.rows.items ++ drop (length x.notes.rows.items) old
    → IsMendedText bytes now header_event_id x.len x.error x.notes.count old new x.notes.texts.items
mended_text bytes now rules header_event_id old new x tested_is id_is made put = record {
  rules = rules;
  tested_is = tested_is;
  id_is = id_is;
  mended = made.mended;
  is = made.is;
  error_is = made.error_is;
  len_is = made.len_is;
  front = made.notes.grown;
  count_is = made.notes.count_is;
  rows = record { rows = x.notes.rows.items; each = made.notes.rows; put = put };
}

pub some_fault_text : (bytes : List ℕ) (now : Cell) (old : List CurdmesaFault) (x : FaultRows) → IsExplainedBy bytes now (length old) x → IsSomeFaultText bytes now x.error x.count old x.texts.items
some_fault_text bytes now old x shown = (x.rows.items ++ drop (length x.rows.items) old, fault_text bytes now old _ x shown refl)

-- ---- what exports give, at a moment of these seconds and nanoseconds

answer_kept : (bytes : List ℕ) (now : Cell) (error : ℤ) (faults : List Fault) → IsAnswer bytes now error faults → to_z w32 (of_z w32 error) ≡ error
answer_kept bytes now error faults (inl (is, reads, none)) = rw is refl
answer_kept bytes now error faults (inr (x, is, fails)) = status_kept x error is ∙ sym is

pub some_faults_at : (bytes : List ℕ) (m : Moment) (secs nanos : ℕ) (old : List CurdmesaFault) (x : FaultRows) (texts : List ℕ) → m.secs ≡ secs → m.nanos ≡ nanos → texts ≡ x.texts.items → IsExplainedBy bytes (moment_cell m) (length old) x
    → IsSomeFaultText bytes (moment secs nanos) (to_z w32 (of_z w32 x.error)) x.count old texts
some_faults_at bytes m secs nanos old x texts s n is shown =
    let now : IsExplainedBy bytes (moment secs nanos) (length old) x =
    subst (λ (k : ℕ). IsExplainedBy bytes (moment secs k) (length old) x) n (subst (λ (k : ℕ). IsExplainedBy bytes (moment k m.nanos) (length old) x) s shown)
    in
    subst (λ (e : ℤ). IsSomeFaultText bytes (moment secs nanos) e x.count old texts) (sym (answer_kept bytes (moment secs nanos) x.error now.faults now.answer))
    (subst (λ (t : List ℕ). IsSomeFaultText bytes (moment secs nanos) x.error x.count old t) (sym is) (some_fault_text bytes (moment secs nanos) old x now))

mended_at_moment : (bytes : List ℕ) (m : Moment) (secs nanos : ℕ) (rules : MendRules) (most : ℕ) (x : Text) → m.secs ≡ secs → m.nanos ≡ nanos → IsMendedAs bytes (moment_cell m) rules most x → IsMendedAs bytes (moment secs nanos) rules most x
mended_at_moment bytes m secs nanos rules most x s n made = subst (λ (k : ℕ). IsMendedAs bytes (moment secs k) rules most x) n (subst (λ (k : ℕ). IsMendedAs bytes (moment k m.nanos) rules most x) s made)

text_kept : (bytes : List ℕ) (now : Cell) (rules : MendRules) (most : ℕ) (x : Text) → IsMendedAs bytes now rules most x → to_z w32 (of_z w32 x.error) ≡ x.error
text_kept bytes now rules most x made = mended_kept made.mended.error x.error made.error_is ∙ sym made.error_is

pub mended_at : (bytes : List ℕ) (m : Moment) (secs nanos : ℕ) (rules : MendRules) (header_event_id : Bool) (old new : List CurdmesaNote) (x : Text) (texts : List ℕ) → m.secs ≡ secs → m.nanos ≡ nanos → rules.max_tested ≡ 32 → rules.header_event_id ≡ header_event_id → texts ≡ x.notes.texts.items
    → new ≡ x.notes.rows.items ++ drop (length x.notes.rows.items) old → IsMendedAs bytes (moment_cell m) rules (length old) x → IsMendedText bytes (moment secs nanos) header_event_id x.len (to_z w32 (of_z w32 x.error)) x.notes.count old new texts
mended_at bytes m secs nanos rules header_event_id old new x texts s n tested_is id_is is put made =
    let now = mended_at_moment bytes m secs nanos rules (length old) x s n made in
    subst (λ (e : ℤ). IsMendedText bytes (moment secs nanos) header_event_id x.len e x.notes.count old new texts) (sym (text_kept bytes (moment secs nanos) rules (length old) x now))
    (subst (λ (t : List ℕ). IsMendedText bytes (moment secs nanos) header_event_id x.len x.error x.notes.count old new t) (sym is) (mended_text bytes (moment secs nanos) rules header_event_id old new x tested_is id_is now put))

pub some_mended_at : (bytes : List ℕ) (m : Moment) (secs nanos : ℕ) (rules : MendRules) (header_event_id : Bool) (old : List CurdmesaNote) (x : Text) (texts : List ℕ) → m.secs ≡ secs → m.nanos ≡ nanos → rules.max_tested ≡ 32 → rules.header_event_id ≡ header_event_id → texts ≡ x.notes.texts.items
    → IsMendedAs bytes (moment_cell m) rules (length old) x → IsSomeMendedText bytes (moment secs nanos) header_event_id x.len (to_z w32 (of_z w32 x.error)) x.notes.count old texts
some_mended_at bytes m secs nanos rules header_event_id old x texts s n tested_is id_is is made =
    (x.notes.rows.items ++ drop (length x.notes.rows.items) old, mended_at bytes m secs nanos rules header_event_id old _ x texts s n tested_is id_is is refl made)
