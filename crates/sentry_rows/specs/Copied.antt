-- What a copier has copied.
use Rattle.std.specs.Prelude.{◌≡◌, List, [], ◌∷◌, None}
use Rattle.serde_json.specs.Data.{Members}
use Rattle.sentry_tables.specs.Cell.{Cell}
use Rattle.sentry_tables.specs.Fields.{Field}
use Rattle.sentry_tables.specs.Kind.{Rule, must, may, may_null, may_strict, default, always, draw, at_once, Kind}
use Rattle.sentry_tables.specs.Made.{row_made}
use Rattle.sentry_rows.specs.declared.copier.Copier.{Copier}

-- a rule by which a row has the same normal form: of those that have a value, and of those that may
-- have none
abbrev pub copied_by : Rule → Rule
copied_by must = must
copied_by may = may
copied_by may_null = may
copied_by may_strict = may_strict
copied_by (default D) = must
copied_by (always D) = must
copied_by (draw Drawn) = must
copied_by at_once = must

-- while nothing fails the row is the same, or its normal form
unfoldable pub CopiesField : Rule → Kind → Cell → Cell → Copier → Copier → Type 0
CopiesField r K c d a b = (b.way ≡ a.way) × (b.failed ≡ None → (a.failed ≡ None) × (d ≡ row_made a.way r K c))

-- each row of the table was copied, from one state of the copier to the next
abbrev pub CopiesFields : {A : Type 0} → List (Field A) → A → A → Copier → Copier → Type 0
CopiesFields [] v w a z = a ≡ z
CopiesFields (f ∷ fs) v w a z = (b : Copier) × CopiesField (copied_by f.rule) f.kind (f.part v) (f.part w) a b × CopiesFields fs v w b z

-- while nothing fails these are the same members
unfoldable pub CopiesOthers : Members → Members → Copier → Copier → Type 0
CopiesOthers ms ns a b = (b.way ≡ a.way) × (b.failed ≡ None → (a.failed ≡ None) × (ns ≡ ms))

-- each row of the table was copied, and then the members of other keys
abbrev pub CopiesKept : {A : Type 0} → List (Field A) → A → A → Members → Members → Copier → Copier → Type 0
CopiesKept fs v w ms ns a z = (b : Copier) × CopiesFields fs v w a b × CopiesOthers ms ns b z
