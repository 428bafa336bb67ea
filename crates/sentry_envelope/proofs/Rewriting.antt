-- Items that are written while they are read, and the text of a whole envelope.
use Rattle.std.proofs.Common.{◌≡◌, ◌≢◌, ℕ, List, [], ◌∷◌, ◌++◌, Option, Some, None, Result, Ok, Err, false, true, length, codes, inl, inr, refl, sym, ap, ap₂, ◌∙◌, subst, append_assoc, append-nil, arith}
use Rattle.std.specs.Prelude.{◌⊎◌, IfErr, OnOk, is_some}
use Rattle.json.specs.Print.{print}
use Rattle.json.specs.Token.{Token}
use Rattle.json.specs.Written.{Written, Writes}
use Rattle.serde_json.specs.Data.{array, Members, no_members, object}
use Rattle.serde_json.specs.Written.{compact_text, has_float}
use Rattle.sentry_json.proofs.Sound.{sound_without_float}
use Rattle.sentry_json.specs.Line.{newline}
use Rattle.sentry_tables.specs.Cell.{Cell, absent, octets, sequence, fields, Cells, no_cells, cell}
use Rattle.sentry_tables.specs.Kind.{Kind}
use Rattle.sentry_tables.specs.Lawful.{IsLawful}
use Rattle.sentry_tables.specs.Continued.{no_members_wrote}
use Rattle.sentry_tables.specs.Passed.{ListPassed, PassesText, PassesTextAt, TextPassedAt}
use Rattle.sentry_tables.specs.Reading.{Only, TextShown, TextShownAt, TextRefused, TextRefusedAt}
use Rattle.sentry_tables.specs.Writes.{written, WritesTree}
use Rattle.sentry_tables.specs.Written.{tree, items_tree}
use Rattle.sentry_tables.specs.declared.error.TreeError.{TreeError}
use Rattle.sentry_tables.specs.declared.error.TreeError.TheVariants.{Misfit, Memory}
use Rattle.sentry_tables.proofs.Laws.{has_laws}
use Rattle.sentry_tables.proofs.Passing.{text_passed_at}
use Rattle.sentry_tables.proofs.Tokens.{array_wrote, members_wrote, object_wrote, text_written}
use Rattle.sentry_framing.specs.Framing.{Frame, IsFault, IsFirstFrame, IsLineAndBody, with_line}
use Rattle.sentry_framing.specs.HeaderView.{header_view}
use Rattle.sentry_framing.specs.ItemHeader.{Header, read_header, stated_length}
use Rattle.sentry_framing.specs.ItemWords.{item_words, kind_place, kind_word}
use Rattle.sentry_framing.specs.declared.error.EnvelopeError.{EnvelopeError}
use Rattle.sentry_framing.specs.declared.error.EnvelopeError.TheVariants.{InvalidItemPayload, OutOfMemory}
use Rattle.sentry_framing.specs.declared.header.ItemHeader.{ItemHeader}
use Rattle.sentry_framing.specs.declared.kind.ItemKind.{ItemKind}
use Rattle.sentry_framing.specs.declared.kind.ItemKind.TheVariants as kinds
use Rattle.sentry_items.specs.Attached.{attachment_header, short_header}
use Rattle.sentry_items.specs.Containers.{container_kind, counting_header, items_cell, log_content_type, metric_content_type}
use Rattle.sentry_items.specs.HeaderText.{header_text}
use Rattle.sentry_items.specs.View.{payload_kind}
use Rattle.sentry_items.proofs.Containers.{container_lawful}
use Rattle.sentry_items.proofs.Items.{payload_lawful}
use Rattle.sentry_moments.specs.Moments.{moment_cell}
use Rattle.sentry_moments.specs.declared.moment.Moment.{Moment}
use Rattle.sentry_records.specs.Logs.{log_kind}
use Rattle.sentry_records.specs.Metrics.{metric_kind}
use Rattle.sentry_records.proofs.TableLaws.{log_lawful, metric_lawful}
use Rattle.uuid.specs.declared.Uuid.{Uuid}
use Rattle.sentry_envelope.specs.declared.headers.EnvelopeHeaders.{EnvelopeHeaders}
use Rattle.sentry_envelope.specs.Envelope.{Content, IsEnvelopePlain, IsEnvelopeStored, Item, item, attached, opaque, value, ContentShows, ItemsStand, Spells, attached_by, envelope_text, first_id, frame_of_item, frame_text, given_as, given_by, header_by, items_text, or_else, payload_by}
use Rattle.sentry_envelope.specs.EnvelopeFault.{BodyIsAtFault, FrameIsRefused}
use Rattle.sentry_envelope.specs.EnvelopeView.{IsStoredAndPlain}
use Rattle.sentry_envelope.specs.HeaderFields.{header_fields, header_kind, headers_cell, fill_id, given_id, id_cell}
use Rattle.sentry_envelope.specs.ItemAdded.{IsJson, IsNotAdded, IsOfKind, alone}
use Rattle.sentry_envelope.specs.NormalText.{AreItemsWritten, IsFilled, IsItemWritten, IsListFramed, IsListWritten, IsNormalText, IsValuePassed, PassesValue}
use Rattle.sentry_envelope.specs.Profile.{Profile, ItemType, json_form}
use Rattle.sentry_envelope.specs.SentryProfile.{form_of, gives_of, item_types, profile}
use Rattle.sentry_envelope.proofs.EnvelopeReading.{items_snoc, body_fault, framing_is_first, payload_is_first}
use Rattle.sentry_envelope.proofs.EnvelopeTypes.{IsAt, shows_at, frame_is, given_is}
use Rattle.sentry_envelope.proofs.ItemReads.{value_refused}
use Rattle.sentry_envelope.proofs.Sent.{count_listed, ended, frame_then, then_ok}
use Rattle.sentry_envelope.proofs.SentryProfile.{profile_lawful, type_at}
use Rattle.sentry_envelope.proofs.WholeReads.{spelled_rewritten, spelled_stored}

-- ---- ids

-- where none is given, the id stays
pub same_filled : (id : Option Uuid) → IsFilled id absent id
same_filled None = refl
same_filled (Some u) = refl

or_absent : (c : Cell) → or_else c absent ≡ c
or_absent absent = refl
or_absent _ = refl

or_or : (a b c : Cell) → or_else (or_else a b) c ≡ or_else a (or_else b c)
or_or absent b c = refl
or_or _ b c = refl

pub first_of_more : (ts : List ItemType) (is : List Item) (i : Item) → first_id ts (is ++ i ∷ []) ≡ or_else (first_id ts is) (given_by ts i)
first_of_more ts [] i = or_absent (given_by ts i)
first_of_more ts (j ∷ is) i = ap (or_else (given_by ts j)) (first_of_more ts is i) ∙ sym (or_or (given_by ts j) (first_id ts is) (given_by ts i))

-- ---- payloads

pub passes_value : (now : Cell) (K : Kind) (line : List ℕ) (r : Result (Unit {0}) TreeError) (id : Option Uuid) (old new : Written) → PassesTextAt now K line r old new → PassesValue (λ c. absent) now K line r id id old new
unfolding TextPassedAt IsValuePassed
passes_value now K line (Ok u) id old new x = (x.0, x.1, x.2, same_filled id)
passes_value now K line (Err e) id old new x = x

pub passes_timeless : (now : Cell) (K : Kind) (line : List ℕ) (r : Result (Unit {0}) TreeError) (id : Option Uuid) (old new : Written) → PassesText K line r old new → PassesValue (λ c. absent) now K line r id id old new
passes_timeless now K line r id old new x = passes_value now K line r id old new (text_passed_at now K line r old new x)

-- beside an id that is there, what is given fills nothing
pub passes_main : (gives : Cell → Cell) (now : Cell) (K : Kind) (line : List ℕ) (r : Result (Unit {0}) TreeError) (id : Option Uuid) (old new : Written) → is_some id ≡ true → PassesTextAt now K line r old new
    → PassesValue gives now K line r id id old new
unfolding TextPassedAt IsValuePassed
passes_main gives now K line (Ok u) (Some i) old new there x = (x.0, x.1, x.2, refl)
passes_main gives now K line (Ok u) None old new there x = absurd cc
passes_main gives now K line (Err e) id old new there x = x

pub main_passed : (gives : Cell → Cell) (now : Cell) (K : Kind) (line : List ℕ) (c : Cell) (id : Option Uuid) (u : Uuid) (old new : Written) → is_some id ≡ false → TextShownAt now K line c → WritesTree (written K c) old new → octets u ≡ gives c
    → IsValuePassed gives now K line id (Some u) old new
unfolding IsValuePassed
main_passed gives now K line c None u old new none shown wrote is = (c, shown, wrote, is)
main_passed gives now K line c (Some i) u old new none shown wrote is = absurd cc

pub none_passed : (gives : Cell → Cell) (now : Cell) (K : Kind) (line : List ℕ) (id after : Option Uuid) (old new : Written) → is_some id ≡ false → IsValuePassed gives now K line None after old new → IsValuePassed gives now K line id after old new
none_passed gives now K line None after old new none x = x
none_passed gives now K line (Some i) after old new none x = absurd cc

-- no number in the tree of a value that a line shows is held as a float
module _ (now : Moment) (K : Kind) (laws : IsLawful K) (line : List ℕ) where
  pub shown_whole : (c : Cell) → TextShownAt (moment_cell now) K line c → has_float (tree K c) ≡ false
  unfolding TextShownAt
  shown_whole c shown =
      let own = (has_laws K laws).text_rewritten line c (moment_cell now) (omega (arith, now.secs_in_range), now.nanos_in_range) shown in
      sound_without_float (tree K c) ((has_laws K laws).written c own.0 own.1)

  -- the text of a value that was written into an empty buffer
  abbrev IsBuilt : (Cell → Cell) → Option Uuid → Option Uuid → List ℕ → Type 0
  IsBuilt gives before after text = (c : Cell) × TextShownAt (moment_cell now) K line c × (text ≡ compact_text (tree K c)) × IsFilled before (gives c) after

  value_built : (gives : Cell → Cell) (before after : Option Uuid) (a b : Written) (text : List ℕ) → IsValuePassed gives (moment_cell now) K line before after a b → a.before ≡ [] → a.tokens ≡ [] → text ≡ b.before ++ print b.tokens
      → IsBuilt gives before after text
  unfolding IsValuePassed written
  value_built gives before after a b text (c, shown, wrote, filled) empty none is =
      (c, shown, text_written (tree K c) a b text none wrote is (shown_whole c shown) ∙ ap (λ s. s ++ compact_text (tree K c)) empty, filled)

-- ---- one item

module _ (n : ℕ) (t : ItemType) (at : IsAt item_types n t) (frame : Frame) (h : Header) (read : read_header item_words frame.header ≡ Some h) (is : h.kind ≡ n) where
  -- a content that the payload shows was written with its header
  frame_written : (now : Cell) (c : Content) (before after : Option Uuid) (old new : List ℕ) → ContentShows t.form now h frame.payload c → IsFilled before (given_as t.gives c) after
      → new ≡ old ++ with_line (compact_text (object (header_by t.word t.form c))) (with_line (payload_by t.form c) []) → IsItemWritten now frame before after old new
  unfolding IsItemWritten profile
  frame_written now c before after old new shown filled sent = (
    item n c,
    (h, read, is, subst (λ X. X) (sym (shows_at at now h frame.payload c)) shown),
    sent ∙ ap (λ f. old ++ frame_text f []) (sym (frame_is at c)),
    filled ∙ ap (or_else (given_id before)) (sym (given_is at c)),
  )

module _ (frame : Frame) (h : ItemHeader) (read : read_header item_words frame.header ≡ Some (header_view h)) (now : Cell) (id : Option Uuid) (old new : List ℕ) where
  pub attachment_written : h.kind ≡ kinds.Attachment → new ≡ old ++ with_line (header_text (attachment_header (codes "attachment") (attached_by (header_view h) frame.payload))) (with_line frame.payload [])
      → IsItemWritten now frame id id old new
  unfolding header_text
  attachment_written is sent = frame_written _ _ (type_at kinds.Attachment) frame (header_view h) read (ap kind_place is) now (attached (attached_by (header_view h) frame.payload)) id id old new refl (same_filled id) sent

  pub recording_written : h.kind ≡ kinds.ReplayRecording → new ≡ old ++ with_line (header_text (short_header (codes "replay_recording") frame.payload)) (with_line frame.payload []) → IsItemWritten now frame id id old new
  unfolding header_text
  recording_written is sent = frame_written _ _ (type_at kinds.ReplayRecording) frame (header_view h) read (ap kind_place is) now (opaque frame.payload) id id old new refl (same_filled id) sent

-- ---- containers

module _ (frame : Frame) (h : ItemHeader) (read : read_header item_words frame.header ≡ Some (header_view h)) (now : Moment) (id : Option Uuid) (old new : List ℕ) where
  shown_now : (K : Kind) (c : Cell) → TextShown K frame.payload c → TextShownAt (moment_cell now) K frame.payload c
  unfolding TextShown TextShownAt
  shown_now K c shown = shown (moment_cell now)

  pub logs_written : {E : Type 0} (r : Result (Unit {0}) E) → h.kind ≡ kinds.Logs → OnOk r (IsListFramed log_kind frame.payload log_content_type (codes "log") old new) → OnOk r (IsItemWritten (moment_cell now) frame id id old new)
  unfolding IsListFramed TextShownAt header_text
  logs_written (Ok u) is (c, shown, sent) =
      let here = shown_now (container_kind log_kind) c shown in
      frame_written _ _ (type_at kinds.Logs) frame (header_view h) read (ap kind_place is) (moment_cell now) (value c) id id old new here (same_filled id)
      (sent (shown_whole now (container_kind log_kind) (container_lawful log_kind log_lawful) frame.payload c here))
  logs_written (Err e) is none = tt

  pub metrics_written : {E : Type 0} (r : Result (Unit {0}) E) → h.kind ≡ kinds.Metrics → OnOk r (IsListFramed metric_kind frame.payload metric_content_type (codes "trace_metric") old new) → OnOk r (IsItemWritten (moment_cell now) frame id id old new)
  unfolding IsListFramed TextShownAt header_text
  metrics_written (Ok u) is (c, shown, sent) =
      let here = shown_now (container_kind metric_kind) c shown in
      frame_written _ _ (type_at kinds.Metrics) frame (header_view h) read (ap kind_place is) (moment_cell now) (value c) id id old new here (same_filled id)
      (sent (shown_whole now (container_kind metric_kind) (container_lawful metric_kind metric_lawful) frame.payload c here))
  metrics_written (Err e) is none = tt

-- the text of a list that was written into an empty buffer between the tokens of its object
pub list_alone : {E F G H I : Type 0} (K : Kind) (line : List ℕ) (n : ℕ) (a b c d e f g : Written) (text : List ℕ) → a.before ≡ [] → a.tokens ≡ [] → Writes {E = E} (Ok tt) a b Token.begin_object → Writes {E = F} (Ok tt) b c (Token.key (codes "items"))
    → Writes {E = G} (Ok tt) c d Token.begin_array → ListPassed K (codes "items") line n d e → Writes {E = H} (Ok tt) e f Token.end_array → Writes {E = I} (Ok tt) f g Token.end_object → text ≡ g.before ++ print g.tokens → IsListWritten K line n text
unfolding ListPassed IsListWritten written
list_alone K line n a b c d e f g text empty none begun keyed opened (cs, many, shown, wrote) closed over is =
    let whole : Cell = fields (cell (sequence cs) no_cells) no_members in
    let listed = array_wrote (items_tree (tree K) cs) (Ok tt) c d e f opened wrote closed in
    let members = members_wrote (codes "items") (codes "items") (array (items_tree (tree K) cs)) no_members b c f f refl keyed listed (no_members_wrote f) in
    (whole, shown, many, λ plain. text_written (tree (container_kind K) whole) a g text none (object_wrote _ (Ok tt) a b f g begun members over) is plain ∙ ap (λ s. s ++ compact_text (tree (container_kind K) whole)) empty)

-- the same of values that were made of the line
pub list_made : {A : Type 0} (K : Kind) (cell_of : A → Cell) (line : List ℕ) (xs : List A) (n : ℕ) (old text : List ℕ) → TextShown (container_kind K) line (items_cell cell_of xs) → old ≡ [] → length xs ≡ n
    → (has_float (written (container_kind K) (items_cell cell_of xs)) ≡ false → text ≡ old ++ compact_text (written (container_kind K) (items_cell cell_of xs))) → IsListWritten K line n text
unfolding IsListWritten written
list_made K cell_of line xs n old text shown empty many wrote =
    (items_cell cell_of xs, shown, count_listed cell_of xs ∙ many, λ plain. wrote plain ∙ ap (λ s. s ++ compact_text (tree (container_kind K) (items_cell cell_of xs))) empty)

-- a header that counts the values, and the list
pub list_framed : {E : Type 0} (r : Result (Unit {0}) E) (K : Kind) (line content_type word : List ℕ) (n : ℕ) (old before new text : List ℕ) → IsListWritten K line n text → before ≡ old ++ header_text (counting_header word content_type n)
    → OnOk r (new ≡ before ++ with_line [] (with_line text [])) → OnOk r (IsListFramed K line content_type word old new)
unfolding IsListWritten IsListFramed
list_framed r K line content_type word n old before new text (c, shown, many, built) headed sent =
    then_ok r _ _ (λ e. (c, shown, λ plain. e ∙ ap₂ (λ m s. old ++ with_line (header_text (counting_header word content_type m)) (with_line s [])) (sym many) (built plain)))
    (ended r old before new (header_text (counting_header word content_type n)) text headed sent)

-- ---- values

-- payloads of the type are one JSON text of its kind
json_alone : (k : ItemKind) → k ≢ kinds.Attachment → k ≢ kinds.ReplayRecording → k ≢ kinds.Logs → k ≢ kinds.Metrics → form_of k ≡ json_form (payload_kind k)
json_alone kinds.Attachment a b c d = absurd (a refl)
json_alone kinds.ReplayRecording a b c d = absurd (b refl)
json_alone kinds.Logs a b c d = absurd (c refl)
json_alone kinds.Metrics a b c d = absurd (d refl)
json_alone kinds.Event a b c d = refl
json_alone _ a b c d = refl

pub is_json : (k : ItemKind) → k ≢ kinds.Attachment → k ≢ kinds.ReplayRecording → k ≢ kinds.Logs → k ≢ kinds.Metrics → IsJson (form_of k) (payload_kind k)
is_json k a b c d = subst (λ f. IsJson f (payload_kind k)) (sym (json_alone k a b c d)) alone

pub value_written : {E : Type 0} (r : Result (Unit {0}) E) (frame : Frame) (k : ItemKind) → k ≢ kinds.Attachment → k ≢ kinds.ReplayRecording → k ≢ kinds.Logs → k ≢ kinds.Metrics → IsOfKind frame k
    → (now : Moment) (id after : Option Uuid) (a b : Written) (old before new text : List ℕ) → IsValuePassed (gives_of k) (moment_cell now) (payload_kind k) frame.payload id after a b → a.before ≡ [] → a.tokens ≡ [] → text ≡ b.before ++ print b.tokens
    → before ≡ old ++ header_text (short_header (kind_word k) text) → OnOk r (new ≡ before ++ with_line [] (with_line text [])) → OnOk r (IsItemWritten (moment_cell now) frame id after old new)
unfolding IsOfKind TextShownAt header_text
value_written r frame k no_attachment no_recording no_logs no_metrics (h, read, is) now id after a b old before new text passed empty none made headed sent =
    let (c, shown, built, filled) = value_built now (payload_kind k) (payload_lawful k) frame.payload (gives_of k) id after a b text passed empty none made in
    let own : ItemType = record { word = kind_word k; form = json_form (payload_kind k); gives = gives_of k } in
    let at : IsAt item_types (kind_place k) own = subst (λ f. IsAt item_types (kind_place k) (record { word = kind_word k; form = f; gives = gives_of k })) (json_alone k no_attachment no_recording no_logs no_metrics) (type_at k) in
    then_ok r _ _ (λ e. frame_written (kind_place k) own at frame h read is (moment_cell now) (value c) id after old new shown filled
    (e ∙ ap (λ s. old ++ with_line (compact_text (object (short_header (kind_word k) s))) (with_line s [])) built))
    (ended r old before new (header_text (short_header (kind_word k) text)) text headed sent)

-- ---- refusals

-- where the payload is refused, so is the frame
pub value_not_written : (frame : Frame) (k : ItemKind) → k ≢ kinds.Attachment → k ≢ kinds.ReplayRecording → k ≢ kinds.Logs → k ≢ kinds.Metrics → IsOfKind frame k → (now : Cell) (e : TreeError) (x : EnvelopeError) → Only e (TextRefusedAt now (payload_kind k) frame.payload)
    → (e ≡ Misfit → x ≡ InvalidItemPayload) → (e ≡ Memory → x ≡ OutOfMemory) → IsNotAdded frame x
value_not_written frame k no_attachment no_recording no_logs no_metrics kind now Misfit x refused misfit memory =
    inr (misfit refl, value_refused frame k (payload_kind k) kind (is_json k no_attachment no_recording no_logs no_metrics) now refused)
value_not_written frame k no_attachment no_recording no_logs no_metrics kind now Memory x refused misfit memory = inl (memory refl)

pub list_not_written : (K : Kind) (line : List ℕ) (e : TreeError) (x : EnvelopeError) → Only e (TextRefused K line) → (e ≡ Misfit → x ≡ InvalidItemPayload) → (e ≡ Memory → x ≡ OutOfMemory)
    → (x ≡ OutOfMemory) ⊎ ((x ≡ InvalidItemPayload) × TextRefused K line)
list_not_written K line Misfit x refused misfit memory = inr (misfit refl, refused)
list_not_written K line Memory x refused misfit memory = inl (memory refl)

pub container_not_written : (frame : Frame) (k : ItemKind) (K : Kind) → IsOfKind frame k → IsJson (form_of k) K → (r : Result (Unit {0}) EnvelopeError) → IfErr r (λ x. (x ≡ OutOfMemory) ⊎ ((x ≡ InvalidItemPayload) × TextRefused K frame.payload)) → IfErr r (IsNotAdded frame)
unfolding TextRefused TextRefusedAt
container_not_written frame k K kind fits (Ok u) none = tt
container_not_written frame k K kind fits (Err x) (inl is) = inl is
container_not_written frame k K kind fits (Err x) (inr (is, refused)) = inr (is, value_refused frame k K kind fits absent (refused absent))

-- ---- items

-- what is written, one item more
pub items_more : (P : Profile) (is : List Item) (i : Item) → items_text P (is ++ i ∷ []) ≡ items_text P is ++ frame_text (frame_of_item P i) []
items_more P [] i = refl
items_more P (j ∷ is) i =
    let f = frame_of_item P j in
    ap (frame_text f) (items_more P is i) ∙ sym (frame_then f (items_text P is ++ frame_text (frame_of_item P i) [])) ∙ sym (append_assoc (frame_text f []) (items_text P is) (frame_text (frame_of_item P i) []))
    ∙ ap (λ s. s ++ frame_text (frame_of_item P i) []) (frame_then f (items_text P is))

pub none_written : (now : Cell) (body : List ℕ) (id : Option Uuid) (text : List ℕ) → AreItemsWritten now body body id id text text
unfolding AreItemsWritten
none_written now body id text = ([], refl, sym (append-nil text), same_filled id)

module _ (now : Cell) (body rest : List ℕ) (before id : Option Uuid) (old new : List ℕ) (so_far : AreItemsWritten now body rest before id old new) where
  pub more_written : (frame : Frame) (next : List ℕ) (after : Option Uuid) (newer : List ℕ) → IsFirstFrame (stated_length item_words) rest frame next → IsItemWritten now frame id after new newer → AreItemsWritten now body next before after old newer
  unfolding profile AreItemsWritten IsItemWritten
  more_written frame next after newer first (i, shows, sent, filled) =
      let (is, stand, text, found) = so_far in (
        is ++ i ∷ [],
        items_snoc profile now is body rest next frame i stand first shows,
        sent ∙ ap (λ s. s ++ frame_text (frame_of_item profile i) []) text ∙ append_assoc old (items_text profile is) (frame_text (frame_of_item profile i) []) ∙ ap (λ s. old ++ s) (sym (items_more profile is i)),
        filled ∙ ap (λ c. or_else c (given_by item_types i)) found ∙ or_or (given_id before) (first_id item_types is) (given_by item_types i) ∙ ap (or_else (given_id before)) (sym (first_of_more item_types is i)),
      )

  pub frame_fault : (x : EnvelopeError) → rest ≢ [] → IsFault (stated_length item_words) rest x → BodyIsAtFault profile body x
  unfolding profile AreItemsWritten
  frame_fault x remains fault = body_fault profile profile_lawful now body so_far.0 rest x so_far.1 remains (framing_is_first profile rest x fault)

  pub payload_fault : (frame : Frame) (next : List ℕ) → rest ≢ [] → IsFirstFrame (stated_length item_words) rest frame next → FrameIsRefused profile frame → BodyIsAtFault profile body InvalidItemPayload
  unfolding profile AreItemsWritten
  payload_fault frame next remains first refused = body_fault profile profile_lawful now body so_far.0 rest InvalidItemPayload so_far.1 remains (payload_is_first profile rest frame next first refused)

-- ---- an envelope

module _ (bytes line body : List ℕ) (parts : IsLineAndBody bytes line body) (now : Moment) (c : Cell) (shown : TextShown header_kind line c) where
  -- the header line, filled by the first id that items give, and the items
  normal_written : (h : Cell) (is : List Item) (front text : List ℕ) → ItemsStand profile (moment_cell now) body is [] → h ≡ fill_id (first_id item_types is) c
      → (IsStoredAndPlain header_kind h → front ≡ with_line (compact_text (tree header_kind h)) []) → text ≡ front ++ items_text profile is → IsNormalText bytes (moment_cell now) text
  unfolding profile TextShown IsEnvelopeStored IsEnvelopePlain envelope_text
  normal_written h is front text stand filled line_is text_is =
      let spells : Spells profile bytes (moment_cell now) (record { header = h; items = is }) = record { line = line; body = body; shown = c; parts = parts; line_shows = shown (moment_cell now); header = filled; items = stand } in
      let own = spelled_stored bytes now (record { header = h; items = is }) spells in
      let here = text_is ∙ ap (λ s. s ++ items_text profile is) (line_is (own.0.0, own.1.0)) ∙ append_assoc (compact_text (tree header_kind h)) (newline ∷ []) (items_text profile is) in
      record { envelope = record { header = h; items = is }; spells = spells; text_is = here; normal = here ∙ spelled_rewritten bytes now (record { header = h; items = is }) spells }

  -- the header line was put before the items
  pub filled_normal : (h : Cell) (after : Option Uuid) (front items text : List ℕ) → AreItemsWritten (moment_cell now) body [] None after [] items → h ≡ fill_id (given_id after) c
      → (IsStoredAndPlain header_kind h → front ≡ with_line (compact_text (tree header_kind h)) []) → text ≡ front ++ items → IsNormalText bytes (moment_cell now) text
  unfolding AreItemsWritten
  filled_normal h after front items text (is, stand, items_are, found) filled line_is text_is =
      normal_written h is front text stand (filled ∙ ap (λ id. fill_id id c) found) line_is (text_is ∙ ap (λ s. front ++ s) items_are)

-- an id that is there stays
stays : (dsn : Cell) (id : Option Uuid) (cs : Cells) (other : Members) (u : Uuid) (c : Cell) → id ≡ Some u → fields (cell dsn (cell (id_cell id) cs)) other ≡ fill_id c (fields (cell dsn (cell (id_cell id) cs)) other)
stays dsn None cs other u c is = absurd cc
stays dsn (Some v) cs other u (octets b) is = refl
stays dsn (Some v) cs other u _ is = refl

id_stays : (h : EnvelopeHeaders) (u : Uuid) (c : Cell) → h.event_id ≡ Some u → headers_cell h ≡ fill_id c (headers_cell h)
unfolding header_fields
id_stays h u c is = stays _ h.event_id _ _ u c is

-- the header line was written before the items
pub given_normal : (bytes line body : List ℕ) → IsLineAndBody bytes line body → (now : Moment) (h : EnvelopeHeaders) → TextShown header_kind line (headers_cell h) → (u : Uuid) → h.event_id ≡ Some u → (before after : Option Uuid) (front text : List ℕ)
    → AreItemsWritten (moment_cell now) body [] before after front text → (IsStoredAndPlain header_kind (headers_cell h) → front ≡ with_line (compact_text (tree header_kind (headers_cell h))) []) → IsNormalText bytes (moment_cell now) text
unfolding AreItemsWritten
given_normal bytes line body parts now h shown u there before after front text (is, stand, text_is, found) line_is =
    normal_written bytes line body parts now (headers_cell h) shown (headers_cell h) is front text stand (id_stays h u (first_id item_types is) there) line_is text_is
