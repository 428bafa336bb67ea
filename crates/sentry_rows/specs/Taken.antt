-- What was made of a case.
use Rattle.std.specs.Prelude.{◌≡◌, ◌↔◌, ℕ, List, Bool, IsTrue, OnOk, IfOk, Result, false}
use Rattle.std.specs.declared.alloc.AllocError.{AllocError}
use Rattle.json.specs.Written.{Written}
use Rattle.serde_json.specs.Data.{Members}
use Rattle.serde_json.specs.View.{view}
use Rattle.serde_json.specs.Written.{members_have_float}
use Rattle.serde_json.specs.declared.value.Value.{Value}
use Rattle.sentry_tables.specs.Cell.{Cells}
use Rattle.sentry_tables.specs.Kind.{Rows, Other, keys}
use Rattle.sentry_tables.specs.Meets.{RowsMeet, StandsApart, IsKept, plain_demand, stored_demand}
use Rattle.sentry_tables.specs.Writes.{WritesTree}
use Rattle.sentry_writing.specs.Given.{case_written}

-- its written tree
abbrev pub IsCaseTree : Result Value AllocError → List ℕ → Rows → Other → Cells → Members → Type 0
IsCaseTree made w rows o cs ms = IfOk made (λ t. view t ≡ case_written w rows cs ms)

-- the text of that tree
abbrev pub WritesCase : Written → Written → Result (Unit {0}) AllocError → List ℕ → Rows → Other → Cells → Members → Type 0
WritesCase old new wrote w rows o cs ms = OnOk wrote (WritesTree (case_written w rows cs ms) old new)

-- whether it is plain, and then it is stored
abbrev pub TestsCase : Bool → List ℕ → Rows → Other → Cells → Members → Type 0
TestsCase plain w rows o cs ms =
    (IsTrue plain ↔ (RowsMeet plain_demand rows cs × (StandsApart o (keys rows) ms × (members_have_float ms ≡ false)))) × (IsTrue plain → RowsMeet stored_demand rows cs × IsKept o ms)
