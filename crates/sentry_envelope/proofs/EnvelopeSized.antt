-- The text of an envelope has at least as many bytes as each number that its items' headers state.
use Rattle.std.proofs.Common.{◌<◌, ◌≤◌, ◌^◌, ◌+◌, ℕ, List, [], true, false, ◌∷◌, ◌++◌, length, length-append, Some, codes, sym, subst, arith}
use Rattle.json.specs.Print.{quoted}
use Rattle.serde_json.specs.Data.{Data, array, object, no_members, member}
use Rattle.serde_json.specs.Written.{compact_text, items_text as array_text}
use Rattle.sentry_json.specs.Line.{newline}
use Rattle.sentry_tables.specs.Passed.{count}
use Rattle.sentry_tables.specs.Cell.{Cell, sequence, fields, Cells, no_cells, cell}
use Rattle.sentry_tables.specs.Kind.{Kind}
use Rattle.sentry_tables.specs.Written.{tree, items_tree}
use Rattle.sentry_tables.specs.Meets.{IsStored}
use Rattle.sentry_framing.specs.Framing.{Frame}
use Rattle.sentry_envelope.specs.Profile.{Form, attachment_form, opaque_form, json_form, container_form, Profile}
use Rattle.sentry_items.specs.Containers.{container_kind}
use Rattle.sentry_envelope.specs.Envelope.{Content, value, Item, item, raw, item_count, payload_by, frame_by, frame_text, items_text, envelope_text, stored_content, ContentMeets, ItemsMeet, IsEnvelopeStored, stated_by, ItemsAreSized, IsEnvelopeSized}
use Rattle.sentry_envelope.specs.EnvelopeLaws.{ShortTextsAreSized}
use Rattle.sentry_envelope.proofs.EnvelopeTypes.{type_met, meets_at, frame_is, stated_is}

-- ---- containers

-- after an item each further one has its comma
later_items : (f : Cell → Data) (cs : Cells) → count cs < length (array_text true (items_tree f cs))
later_items f no_cells = omega arith
later_items f (cell c cs) = let rest = later_items f cs in omega (arith, rest, length-append (compact_text (f c)) (array_text true (items_tree f cs)))

first_items : (f : Cell → Data) (cs : Cells) → count cs ≤ length (array_text false (items_tree f cs))
first_items f no_cells = omega arith
first_items f (cell c cs) = let rest = later_items f cs in omega (arith, rest, length-append (compact_text (f c)) (array_text true (items_tree f cs)))

enclosed : (n : ℕ) (key items : List ℕ) → n ≤ length items → n ≤ length (123 ∷ (key ++ 58 ∷ 91 ∷ (items ++ 125 ∷ [])))
enclosed n key items h = omega (arith, h, length-append key (58 ∷ 91 ∷ (items ++ 125 ∷ [])), length-append items (125 ∷ []))

items_within : (K : Kind) (cs : Cells) → count cs ≤ length (compact_text (object (member (codes "items") (array (items_tree (tree K) cs)) no_members)))
items_within K cs = enclosed (count cs) (quoted (codes "items")) (array_text false (items_tree (tree K) cs)) (first_items (tree K) cs)

container_within : (K : Kind) (c : Cell) → IsStored (container_kind K) c → item_count c ≤ length (compact_text (tree (container_kind K) c))
container_within K (fields (cell (sequence cs) no_cells) other) s = subst (λ ms. count cs ≤ length (compact_text (tree (container_kind K) (fields (cell (sequence cs) no_cells) ms)))) (sym s.1) (items_within K cs)
container_within K (fields (cell (sequence cs) (cell c more)) other) s = absurd s.0.1
container_within K (fields (cell _ cs) other) s = absurd s.0.0
container_within K (fields no_cells other) s = absurd s.0
container_within K _ s = absurd s

-- ---- items

stated_within : (f : Form) (c : Content) → ContentMeets stored_content f c → stated_by f c ≤ length (payload_by f c)
stated_within attachment_form c s = omega arith
stated_within opaque_form c s = omega arith
stated_within (json_form K) c s = omega arith
stated_within (container_form content_type K) (value c) s = container_within K c s
stated_within (container_form content_type K) _ s = absurd s

frame_longer : (frame : Frame) (next : List ℕ) → length frame.payload + length next ≤ length (frame_text (Some frame) next)
frame_longer frame next = omega (arith, length-append frame.header (newline ∷ (frame.payload ++ newline ∷ next)), length-append frame.payload (newline ∷ next))

module _ (P : Profile) where
  items_sized : (items : List Item) → ItemsMeet stored_content P.types items → length (items_text P items) < 2 ^ 64 → ItemsAreSized P.types items
  items_sized [] s short = tt
  items_sized (item n c ∷ items) s short =
      let (t, at) = type_met stored_content P.types n c s.0 in
      let within = stated_within t.form c (subst (λ X. X) (meets_at at stored_content c) s.0) in
      let longer = frame_longer (frame_by t c) (items_text P items) in
      let text : length (frame_text (Some (frame_by t c)) (items_text P items)) < 2 ^ 64 = subst (λ o. length (frame_text o (items_text P items)) < 2 ^ 64) (frame_is at c) short in
      let here : stated_by t.form c < 2 ^ 64 = omega (arith, within, longer, text) in
      let others : length (items_text P items) < 2 ^ 64 = omega (arith, longer, text) in
      (subst (λ m. m < 2 ^ 64) (sym (stated_is at c)) here, items_sized items s.1 others)
  items_sized (raw ∷ items) s short = items_sized items s short

  pub short : ShortTextsAreSized P
  unfolding envelope_text IsEnvelopeStored IsEnvelopeSized
  short e s h = items_sized e.items s.1 (omega (arith, h, length-append (compact_text (tree P.header e.header)) (newline ∷ items_text P e.items)))
