-- A ledger in one row of sums.
use Rattle.std.specs.Prelude.{◌≡◌, ◌≢◌, ◌⊎◌, ℕ, ℤ, Bool, true, false, List, length, replicate}
use Rattle.sentry_framing.specs.Framing.{IsLineAndBody}
use Rattle.sentry_envelope.specs.Envelope.{envelope_text}
use Rattle.sentry_envelope.specs.EnvelopeView.{empty, item_view, with_item}
use Rattle.sentry_envelope.specs.SentryProfile.{profile}
use Rattle.sentry_items.specs.declared.item.EnvelopeItem.TheVariants as items
use Rattle.sentry_ledger.specs.Held.{HoldsNothing, Quantities, held_in, items_held}
use Rattle.sentry_moments.specs.Rfc3339.{IsMomentTime}
use Rattle.sentry_reports.specs.Categories.{category_index, reason_index}
use Rattle.sentry_reports.specs.declared.category.Category.{Category}
use Rattle.sentry_reports.specs.declared.reason.Reason.{Reason}
use Rattle.sentry_reports.specs.declared.report.Report.{Report}
use Rattle.sentry_reports.specs.declared.kept_sums.TheConstants.{PAIRS}
use Rattle.sentry_c.specs.Output.{IsTooLong, Puts}
use Rattle.sentry_c.specs.declared.status.TheConstants.{INVALID_ARGUMENT, NOTHING_LEFT, NO_MOMENT, NO_ROOM, OK, OUT_OF_MEMORY}

-- the numbers of a pair: its category and its reason by their places in order
pub record IsPair (category_number reason_number : ℕ) (category : Category) (reason : Reason) : Type 0 where
  pub category_is : category_number ≡ category_index category
  pub reason_is : reason_number ≡ reason_index reason

-- the numbers are those of a pair
abbrev pub HasPair : ℕ → ℕ → Type 0
HasPair category_number reason_number = (category : Category) × (reason : Reason) × IsPair category_number reason_number category reason

-- The text is that of an envelope with no header fields, whose one item is the report of what is
-- held, at the moment of these seconds and nanoseconds.
pub record IsReportText (held : Quantities) (secs nanos : ℕ) (text : List ℕ) : Type 0 where
  pub given : Report
  pub secs_are : given.timestamp.secs ≡ secs
  pub nanos_are : given.timestamp.nanos ≡ nanos
  pub items_are : given.items ≡ items_held held
  pub text_is : text ≡ envelope_text profile (with_item empty (item_view (items.ClientReport given)))

-- The item is what stands behind the header line of that envelope.
pub record IsReportItem (held : Quantities) (secs nanos : ℕ) (item : List ℕ) : Type 0 where
  pub text : List ℕ
  pub line : List ℕ
  pub reports : IsReportText held secs nanos text
  pub split : IsLineAndBody text line item

-- ---- flushing

-- what a call that moves all losses of a ledger into a report does, by its status
pub record Flushes (Reports : Quantities → ℕ → ℕ → List ℕ → Type 0) (secs nanos : ℕ) (ledger emptied out written : List ℕ) (told : ℕ) (status : ℤ) : Type 0 where
  pub reports : status ≡ OK → Puts (Reports (held_in ledger) secs nanos) out written told
  pub empties : status ≡ OK → emptied ≡ replicate PAIRS 0
  pub no_room : status ≡ NO_ROOM → IsTooLong (Reports (held_in ledger) secs nanos) out told
  pub nothing : status ≡ NOTHING_LEFT → HoldsNothing (held_in ledger)
  pub something : (status ≡ OK) ⊎ (status ≡ NO_ROOM) → HoldsNothing (held_in ledger) → ⊥
  pub moment : status ≡ NO_MOMENT → IsMomentTime secs nanos → ⊥
  pub is_moment : status ≢ NO_MOMENT → status ≢ INVALID_ARGUMENT → IsMomentTime secs nanos
  pub argument : status ≡ INVALID_ARGUMENT → length ledger ≢ PAIRS
  pub long : status ≢ INVALID_ARGUMENT → length ledger ≡ PAIRS
  pub memory : status ≡ OUT_OF_MEMORY → HoldsNothing (held_in ledger) → ⊥
  pub unchanged : status ≢ OK → emptied ≡ ledger
  pub out_unchanged : status ≢ OK → written ≡ out
  pub no_text : status ≢ OK → status ≢ NO_ROOM → told ≡ 0
  pub answers : (status ≡ OK) ⊎ ((status ≡ NO_ROOM) ⊎ ((status ≡ NOTHING_LEFT) ⊎ ((status ≡ NO_MOMENT) ⊎ ((status ≡ INVALID_ARGUMENT) ⊎ (status ≡ OUT_OF_MEMORY)))))

-- ---- parts of a run

-- the text of an envelope, or what stands behind its header line
abbrev pub IsReportIn : Bool → List ℕ → List ℕ → Type 0
IsReportIn false text report = report ≡ text
IsReportIn true text report = (line : List ℕ) × IsLineAndBody text line report

abbrev pub IsReport : Bool → Quantities → ℕ → ℕ → List ℕ → Type 0
IsReport false = IsReportText
IsReport true = IsReportItem
