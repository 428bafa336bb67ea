-- A header line that has an event id and no other field.
use Rattle.std.proofs.Common.{◌≡◌, ℕ, List, [], ◌∷◌, length, map, Option, Some, None, option_map, slice_index_or, get_or, true, false, true≢false, codes, refl, sym, ap, subst, ◌∙◌, arith}
use Rattle.std.specs.Prelude.{is_some}
use Rattle.serde_json.specs.Data.{Data, null, boolean, number, string, array, object}
use Rattle.serde_json.specs.Find.{get}
use Rattle.sentry_json.specs.Line.{tree_of}
use Rattle.sentry_json.specs.Scalars.{scalar_data}
use Rattle.sentry_json.specs.declared.tape.flat.Scalar.{Scalar}
use Rattle.sentry_json.specs.declared.tape.flat.Scalar.TheVariants as scalar
use Rattle.sentry_tables.specs.Cell.{Cell, absent, present, octets}
use Rattle.sentry_tables.specs.Reading.{Shown, TextShown}
use Rattle.sentry_tables.specs.Shows.{Shows, ShowsOption, is_object, unless_null}
use Rattle.sentry_identifiers.specs.Uuids.{hyphenated_kind}
use Rattle.sentry_keys.specs.DsnTree.{dsn_kind}
use Rattle.sentry_moments.specs.MomentForms.{rfc3339_kind}
use Rattle.sentry_parts.specs.ClientSdk.{sdk_kind}
use Rattle.sentry_records.specs.Sampling.{sampling_kind}
use Rattle.sentry_envelope.specs.EnvelopeView.{no_fields}
use Rattle.sentry_envelope.specs.HeaderFields.{header_fields, header_kind, put_id}
use Rattle.uuid.specs.declared.Uuid.{Uuid}

-- what stands in five places, one by one
at_places : (xs : List (Option Scalar)) (a b c d e : Option Data) (u v w x y : Option Scalar) → map (option_map scalar_data) xs ≡ a ∷ b ∷ c ∷ d ∷ e ∷ []
    → (option_map scalar_data (slice_index_or xs 0 u) ≡ a) × (option_map scalar_data (slice_index_or xs 1 v) ≡ b) × (option_map scalar_data (slice_index_or xs 2 w) ≡ c)
    × (option_map scalar_data (slice_index_or xs 3 x) ≡ d) × (option_map scalar_data (slice_index_or xs 4 y) ≡ e)
at_places [] a b c d e u v w x y h = absurd (omega (arith, ap length h))
at_places (p ∷ []) a b c d e u v w x y h = absurd (omega (arith, ap length h))
at_places (p ∷ q ∷ []) a b c d e u v w x y h = absurd (omega (arith, ap length h))
at_places (p ∷ q ∷ r ∷ []) a b c d e u v w x y h = absurd (omega (arith, ap length h))
at_places (p ∷ q ∷ r ∷ s ∷ []) a b c d e u v w x y h = absurd (omega (arith, ap length h))
at_places (p ∷ q ∷ r ∷ s ∷ t ∷ []) a b c d e u v w x y h =
    (ap (λ l. get_or l 0 None) h, ap (λ l. get_or l 1 None) h, ap (λ l. get_or l 2 None) h, ap (λ l. get_or l 3 None) h, ap (λ l. get_or l 4 None) h)
at_places (p ∷ q ∷ r ∷ s ∷ t ∷ z ∷ zs) a b c d e u v w x y h = absurd (omega (arith, ap length h))

-- where no scalar stands, the tree has nothing
nothing_at : (p : Option Scalar) (g : Option Data) → is_some p ≡ false → option_map scalar_data p ≡ g → g ≡ None
nothing_at None g e h = sym h
nothing_at (Some s) g e h = absurd (true≢false e)

-- what has a member is an object
has_member : (k : List ℕ) (d x : Data) → get k d ≡ Some x → is_object d ≡ true
has_member k null x h = absurd (cc)
has_member k (boolean b) x h = absurd (cc)
has_member k (number n) x h = absurd (cc)
has_member k (string s) x h = absurd (cc)
has_member k (array ds) x h = absurd (cc)
has_member k (object ms) x h = refl

-- a scalar is not null
id_row : (s : Scalar) (now c : Cell) → Shows hyphenated_kind now (scalar_data s) c → ShowsOption (Shows hyphenated_kind now) (unless_null (Some (scalar_data s))) (present c)
id_row (scalar.Text t) now c h = h
id_row (scalar.Whole n) now c h = h

pub id_shown : (line : List ℕ) (d : Data) (xs : List (Option Scalar)) (s : Scalar) (id : Uuid) (u v w x y : Option Scalar) → tree_of line ≡ Some d
    → map (option_map scalar_data) xs ≡ get (codes "event_id") d ∷ get (codes "dsn") d ∷ get (codes "sdk") d ∷ get (codes "sent_at") d ∷ get (codes "trace") d ∷ []
    → slice_index_or xs 0 u ≡ Some s → is_some (slice_index_or xs 1 v) ≡ false → is_some (slice_index_or xs 2 w) ≡ false → is_some (slice_index_or xs 3 x) ≡ false → is_some (slice_index_or xs 4 y) ≡ false
    → Shown hyphenated_kind (scalar_data s) (octets id) → TextShown header_kind line (put_id (Some id) no_fields)
unfolding TextShown Shown header_fields
id_shown line d xs s id u v w x y tree places first dsn sdk sent_at trace shown =
    let at = at_places xs _ _ _ _ _ u v w x y places in
    let own : get (codes "event_id") d ≡ Some (scalar_data s) = sym at.0 ∙ ap (option_map scalar_data) first in
    let no_dsn = nothing_at (slice_index_or xs 1 v) _ dsn at.1 in
    let no_sdk = nothing_at (slice_index_or xs 2 w) _ sdk at.2 in
    let no_sent_at = nothing_at (slice_index_or xs 3 x) _ sent_at at.3 in
    let no_trace = nothing_at (slice_index_or xs 4 y) _ trace at.4 in
    λ now.
    let dsn_row = subst (λ g. ShowsOption (Shows dsn_kind now) (unless_null g) absent) (sym no_dsn) refl in
    let own_row = subst (λ g. ShowsOption (Shows hyphenated_kind now) (unless_null g) (present (octets id))) (sym own) (id_row s now (octets id) (shown now)) in
    let sdk_row = subst (λ g. ShowsOption (Shows sdk_kind now) (unless_null g) absent) (sym no_sdk) refl in
    let sent_at_row = subst (λ g. ShowsOption (Shows rfc3339_kind now) g absent) (sym no_sent_at) refl in
    let trace_row = subst (λ g. ShowsOption (Shows sampling_kind now) (unless_null g) absent) (sym no_trace) refl in
    (d, tree, (has_member (codes "event_id") d (scalar_data s) own, ((dsn_row, (own_row, (sdk_row, (sent_at_row, (trace_row, tt))))), refl)))
