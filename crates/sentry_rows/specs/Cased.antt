-- Values that are one of several cases: what takes, makes and reads them.
use Rattle.std.specs.Prelude.{◌≡◌, ℕ, zero, suc, List, [], ◌∷◌, Some, Result, Ok, Err}
use Rattle.serde_json.specs.Data.{Data, Members}
use Rattle.sentry_tables.specs.Cell.{Cell, Cells}
use Rattle.sentry_tables.specs.Kind.{Kind, table, tagged, Rows, Other, kept, Cases, no_cases, case, words, tag}
use Rattle.sentry_tables.specs.Shows.{AreFields, IsChoice, CaseShows, TaggedShows, word_at}
use Rattle.sentry_tables.specs.Made.{made}
use Rattle.sentry_tables.specs.Reading.{Shown, Refused, ShownAt, RefusedAt, Only}
use Rattle.sentry_tables.specs.declared.way.Way.{Way}
use Rattle.sentry_tables.specs.declared.error.TreeError.{TreeError}

-- members that no row names are kept, but for the tag
abbrev pub but_tag : Other
but_tag = kept (tag ∷ [])

-- the table of the case of this number; past the last, what shows nothing
abbrev pub case_kind : Cases → ℕ → Kind
case_kind no_cases n = tagged no_cases
case_kind (case w rows o cases) zero = table rows o
case_kind (case w rows o cases) (suc n) = case_kind cases n

-- ---- taken

-- the case of this number was taken, with its word and rows, what becomes of other members, and
-- what they hold
abbrev pub CaseTaken : (List ℕ → Rows → Other → Cells → Members → Type 0) → Cases → ℕ → Cell → Type 0
CaseTaken Takes no_cases n c = ⊥
CaseTaken Takes (case w rows o cases) zero c = AreFields (Takes w rows o) c
CaseTaken Takes (case w rows o cases) (suc n) c = CaseTaken Takes cases n c

-- the value's case was
abbrev pub TakesCase : (List ℕ → Rows → Other → Cells → Members → Type 0) → Cases → Cell → Type 0
TakesCase Takes cases c = IsChoice (CaseTaken Takes cases) c

-- ---- made

-- the case of this number holds the same, or its normal form
abbrev pub CaseMade : Way → Cases → ℕ → Cell → Cell → Type 0
CaseMade way no_cases n c d = ⊥
CaseMade way (case w rows o cases) zero c d = d ≡ made way (table rows o) c
CaseMade way (case w rows o cases) (suc n) c d = CaseMade way cases n c d

-- d is of the case of c, and holds that
abbrev pub MakesCase : Way → Cases → Cell → Cell → Type 0
MakesCase way cases c d = IsChoice (λ n x. IsChoice (λ m y. (m ≡ n) × CaseMade way cases n x y) d) c

-- ---- read

-- the table of the case of this number shows what the value holds
unfoldable pub CaseShown : Cases → ℕ → Data → Cell → Type 0
CaseShown cases n d c = IsChoice (λ m x. (m ≡ n) × Shown (case_kind cases n) d x) c

unfoldable pub CaseRefused : Cases → ℕ → Data → Type 0
CaseRefused cases n d = Refused (case_kind cases n) d

abbrev pub ReadsCase : {A : Type 0} → Cases → (A → Cell) → ℕ → Data → Result A TreeError → Type 0
ReadsCase cases f n d (Ok v) = CaseShown cases n d (f v)
ReadsCase cases f n d (Err e) = Only e (CaseRefused cases n d)

unfoldable pub CaseShownAt : Cell → Cases → ℕ → Data → Cell → Type 0
CaseShownAt now cases n d c = IsChoice (λ m x. (m ≡ n) × ShownAt now (case_kind cases n) d x) c

unfoldable pub CaseRefusedAt : Cell → Cases → ℕ → Data → Type 0
CaseRefusedAt now cases n d = RefusedAt now (case_kind cases n) d

abbrev pub ReadsCaseAt : {A : Type 0} → Cell → Cases → (A → Cell) → ℕ → Data → Result A TreeError → Type 0
ReadsCaseAt now cases f n d (Ok v) = CaseShownAt now cases n d (f v)
ReadsCaseAt now cases f n d (Err e) = Only e (CaseRefusedAt now cases n d)

-- ---- a member of a map

-- the member at the key shows the value: by its tag, or where it has none by the key's word
abbrev pub ShowsEntry : Cases → List ℕ → Cell → List ℕ → Data → Cell → Type 0
ShowsEntry cases fallback now key = TaggedShows (CaseShows cases now) (Some (word_at key (words cases) fallback))

unfoldable pub EntryShownAt : Cell → Cases → List ℕ → List ℕ → Data → Cell → Type 0
EntryShownAt now cases fallback key d c = ShowsEntry cases fallback now key d c

unfoldable pub EntryRefusedAt : Cell → Cases → List ℕ → List ℕ → Data → Type 0
EntryRefusedAt now cases fallback key d = (c : Cell) → ShowsEntry cases fallback now key d c → ⊥

abbrev pub ReadsEntryAt : {A : Type 0} → Cell → Cases → List ℕ → (A → Cell) → List ℕ → Data → Result A TreeError → Type 0
ReadsEntryAt now cases fallback f key d (Ok v) = EntryShownAt now cases fallback key d (f v)
ReadsEntryAt now cases fallback f key d (Err e) = Only e (EntryRefusedAt now cases fallback key d)
