-- From the case that was given to the value.
use Rattle.std.specs.declared.alloc.Global.{Global}
use Rattle.std.proofs.Common.{◌≡◌, ◌↔◌, ℕ, zero, suc, Bool, ap, ◌∙◌, Result, IfOk, OnOk, IsTrue}
use Rattle.std.specs.declared.alloc.AllocError.{AllocError}
use Rattle.json.specs.Written.{Written}
use Rattle.serde_json.specs.Data.{Data, Members}
use Rattle.serde_json.specs.View.{view}
use Rattle.serde_json.specs.declared.value.Value.{Value}
use Rattle.sentry_tables.specs.Cell.{Cell, choice, fields, no_cells}
use Rattle.sentry_tables.specs.Kind.{table, tagged, no_rows, Cases, no_cases, case}
use Rattle.sentry_tables.specs.Meets.{IsPlain, IsStored, CaseMeets, plain_demand, stored_demand}
use Rattle.sentry_tables.specs.Norm.{case_norm}
use Rattle.sentry_tables.specs.Made.{made}
use Rattle.sentry_tables.specs.Writes.{written, WritesTree}
use Rattle.sentry_tables.specs.declared.way.Way.{Way}
use Rattle.sentry_tables.specs.declared.way.Way.TheVariants.{Same, Normal}
use Rattle.sentry_writing.specs.Given.{case_written}
use Rattle.sentry_rows.specs.Cased.{but_tag, CaseTaken, TakesCase, CaseMade, MakesCase}
use Rattle.sentry_rows.specs.Taken.{IsCaseTree, WritesCase, TestsCase}

-- whatever holds of the written tree of the case that was taken holds of the value's
module _ (P : Data → Type 0) where
  taken : (cases : Cases) (n : ℕ) (c : Cell) → CaseTaken (λ w rows o cs ms. P (case_written w rows cs ms)) cases n c → P (written (tagged cases) (choice n c))
  unfolding written case_written
  taken no_cases n c h = absurd h
  taken (case w rows o cases) zero (fields cs ms) h = h
  taken (case w rows o cases) zero _ h = absurd h
  taken (case w rows o cases) (suc n) c h = taken cases n c h

  pub case_taken : (cases : Cases) (c : Cell) → TakesCase (λ w rows o cs ms. P (case_written w rows cs ms)) cases c → P (written (tagged cases) c)
  case_taken cases (choice n c) h = taken cases n c h
  case_taken cases _ h = absurd h

pub tree_is : (made : Result Value AllocError) (cases : Cases) (c : Cell) → TakesCase (IsCaseTree made) cases c → IfOk made (λ t. view t ≡ written (tagged cases) c)
tree_is made cases c h = case_taken (λ d. IfOk made (λ t. view t ≡ d)) cases c h

pub text_wrote : (Held : Type 0) (old new : Written) (wrote : Result (Unit {0}) AllocError) (cases : Cases) (c : Cell) → TakesCase (λ w rows o cs ms. Held × WritesCase old new wrote w rows o cs ms) cases c → Held × OnOk wrote (WritesTree (written (tagged cases) c) old new)
text_wrote Held old new wrote cases c h = case_taken (λ d. Held × OnOk wrote (WritesTree d old new)) cases c h

-- ---- plain

plain_at : (plain : Bool) (cases : Cases) (n : ℕ) (c : Cell) → CaseTaken (TestsCase plain) cases n c → IsTrue plain ↔ CaseMeets plain_demand cases n c
plain_at plain no_cases n c h = absurd h
plain_at plain (case w rows o cases) zero (fields cs ms) h = h.0
plain_at plain (case w rows o cases) zero _ h = absurd h
plain_at plain (case w rows o cases) (suc n) c h = plain_at plain cases n c h

pub case_plain : (plain : Bool) (cases : Cases) (c : Cell) → TakesCase (TestsCase plain) cases c → IsTrue plain ↔ IsPlain (tagged cases) c
case_plain plain cases (choice n c) h = plain_at plain cases n c h
case_plain plain cases _ h = absurd h

stored_at : (plain : Bool) (cases : Cases) (n : ℕ) (c : Cell) → CaseTaken (TestsCase plain) cases n c → IsTrue plain → CaseMeets stored_demand cases n c
stored_at plain no_cases n c h = absurd h
stored_at plain (case w rows o cases) zero (fields cs ms) h = h.1
stored_at plain (case w rows o cases) zero _ h = absurd h
stored_at plain (case w rows o cases) (suc n) c h = stored_at plain cases n c h

pub case_stored : (plain : Bool) (cases : Cases) (c : Cell) → TakesCase (TestsCase plain) cases c → IsTrue plain → IsStored (tagged cases) c
case_stored plain cases (choice n c) h = stored_at plain cases n c h
case_stored plain cases _ h = absurd h

-- ---- made anew

same_at : (cases : Cases) (n : ℕ) (c d : Cell) → CaseMade Same cases n c d → d ≡ c
unfolding made
same_at no_cases n c d h = absurd h
same_at (case w rows o cases) zero c d h = h
same_at (case w rows o cases) (suc n) c d h = same_at cases n c d h

normal_at : {alloc : Global} (cases : Cases) (n : ℕ) (c d : Cell) → CaseMade (Normal alloc) cases n c d → d ≡ case_norm cases n c
unfolding made
normal_at no_cases n c d h = absurd h
normal_at (case w rows o cases) zero c d h = h
normal_at (case w rows o cases) (suc n) c d h = normal_at cases n c d h

made_at : (way : Way) (cases : Cases) (n m : ℕ) (c d : Cell) → m ≡ n → CaseMade way cases n c d → choice m d ≡ made way (tagged cases) (choice n c)
unfolding made
made_at Same cases n m c d is h = ap (λ k. choice k d) is ∙ ap (choice n) (same_at cases n c d h)
made_at (Normal alloc) cases n m c d is h = ap (λ k. choice k d) is ∙ ap (choice n) (normal_at cases n c d h)

pub case_made : (way : Way) (cases : Cases) (c d : Cell) → MakesCase way cases c d → d ≡ made way (tagged cases) c
case_made way cases (choice n c) (choice m d) h = made_at way cases n m c d h.0 h.1
case_made way cases (choice n c) _ h = absurd h
case_made way cases _ d h = absurd h

pub members_made : (way : Way) (ms ns : Members) → ns ≡ ms → fields no_cells ns ≡ made way (table no_rows but_tag) (fields no_cells ms)
unfolding made
members_made Same ms ns is = ap (fields no_cells) is
members_made (Normal alloc) ms ns is = ap (fields no_cells) is
