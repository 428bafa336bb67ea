-- Readers of rows.
use Rattle.std.proofs.Common.{◌≡◌, ℕ, List, Some, None, Result, Ok, Err, refl, sym, ap, true, false, true≢false}
use Rattle.std.specs.Prelude.{is_some}
use Rattle.std.proofs.lemmas.Option.{same_Some}
use Rattle.serde_json.specs.Data.{Data, null, object, Members}
use Rattle.serde_json.specs.Find.{get, as_null, as_object}
use Rattle.sentry_tables.specs.Cell.{Cell, absent, present}
use Rattle.sentry_tables.specs.Kind.{must, may, may_strict, default, draw, at_once, Kind}
use Rattle.sentry_tables.specs.Shows.{Shows, unless_null_at, IsPresent}
use Rattle.sentry_tables.specs.Reading.{Shown, Refused, RowShown, RowRefused, Reads, ReadsRow, ShownAt, RefusedAt, RowShownAt, RowRefusedAt, ReadsAt, ReadsRowAt, Only}
use Rattle.sentry_tables.specs.declared.error.TreeError.{TreeError}
use Rattle.sentry_tables.specs.declared.error.TreeError.TheVariants.{Misfit, Memory}

pub is_null : (e : Data) → is_some (as_null e) ≡ true → unless_null_at e ≡ None
is_null null h = refl
is_null _ h = absurd (true≢false (sym h))

pub not_null : (e : Data) → is_some (as_null e) ≡ false → unless_null_at e ≡ Some e
not_null null h = absurd (true≢false h)
not_null _ h = refl

present_refused : (P : Cell → Type 0) (c : Cell) → ((x : Cell) → P x → ⊥) → IsPresent P c → ⊥
present_refused P (present x) f h = f x h
present_refused P _ f h = h

-- ---- the object that the rows are of

pub object_there : (d : Data) (ms : Members) → Some ms ≡ as_object d → object ms ≡ d
object_there (object all) ms e = ap object (same_Some ms all e)
object_there _ ms e = absurd cc

pub no_object : (d : Data) → None ≡ as_object d → is_some (as_object d) ≡ false
no_object d e = ap is_some (sym e)

-- ---- at every moment

pub must_missing : (key : List ℕ) (K : Kind) (d : Data) → get key d ≡ None → RowRefused key must K d
unfolding RowRefused
must_missing key K d is = λ now c s. rw is at s

pub must_read : {A : Type 0} (key : List ℕ) (K : Kind) (f : A → Cell) (d e : Data) (r : Result A TreeError) → get key d ≡ Some e → Reads K f e r → ReadsRow key must K f d r
unfolding RowShown Shown RowRefused Refused
must_read key K f d e (Ok v) is h = λ now. rw is (h now)
must_read key K f d e (Err Misfit) is refused = λ now c s. refused now c (rw is at s)
must_read key K f d e (Err Memory) is h = tt

pub may_absent : (key : List ℕ) (K : Kind) (d : Data) → get key d ≡ None → RowShown key may K d absent
unfolding RowShown Shown
may_absent key K d is = λ now. rw is refl

pub may_is_null : (key : List ℕ) (K : Kind) (d e : Data) → get key d ≡ Some e → is_some (as_null e) ≡ true → RowShown key may K d absent
unfolding RowShown Shown
may_is_null key K d e is empty = λ now. rw (is, is_null e empty) refl

pub may_shown : (key : List ℕ) (K : Kind) (d e : Data) (c : Cell) → get key d ≡ Some e → is_some (as_null e) ≡ false → Shown K e c → RowShown key may K d (present c)
unfolding RowShown Shown
may_shown key K d e c is some h = λ now. rw (is, not_null e some) (h now)

pub may_fails : (key : List ℕ) (K : Kind) (d e : Data) (x : TreeError) → get key d ≡ Some e → is_some (as_null e) ≡ false → Only x (Refused K e) → Only x (RowRefused key may K d)
unfolding RowShown Shown RowRefused Refused
may_fails key K d e Misfit is some refused = λ now c s. present_refused (Shows K now e) c (refused now) (rw (not_null e some) at (rw is at s))
may_fails key K d e Memory is some refused = tt

pub may_strict_absent : (key : List ℕ) (K : Kind) (d : Data) → get key d ≡ None → RowShown key may_strict K d absent
unfolding RowShown Shown
may_strict_absent key K d is = λ now. rw is refl

pub may_strict_shown : (key : List ℕ) (K : Kind) (d e : Data) (c : Cell) → get key d ≡ Some e → Shown K e c → RowShown key may_strict K d (present c)
unfolding RowShown Shown
may_strict_shown key K d e c is h = λ now. rw is (h now)

pub may_strict_fails : (key : List ℕ) (K : Kind) (d e : Data) (x : TreeError) → get key d ≡ Some e → Only x (Refused K e) → Only x (RowRefused key may_strict K d)
unfolding RowShown Shown RowRefused Refused
may_strict_fails key K d e Misfit is refused = λ now c s. present_refused (Shows K now e) c (refused now) (rw is at s)
may_strict_fails key K d e Memory is refused = tt

pub default_absent : (key : List ℕ) (K : Kind) (d : Data) (c : Cell) → get key d ≡ None → RowShown key (default c) K d c
unfolding RowShown Shown
default_absent key K d c is = λ now. rw is refl

pub default_read : {A : Type 0} (key : List ℕ) (K : Kind) (D : Cell) (f : A → Cell) (d e : Data) (r : Result A TreeError) → get key d ≡ Some e → Reads K f e r → ReadsRow key (default D) K f d r
unfolding RowShown Shown RowRefused Refused
default_read key K D f d e (Ok v) is h = λ now. rw is (h now)
default_read key K D f d e (Err Misfit) is refused = λ now c s. refused now c (rw is at s)
default_read key K D f d e (Err Memory) is h = tt

pub draw_absent : (key : List ℕ) (K : Kind) (D : Cell → Type 0) (d : Data) (c : Cell) → get key d ≡ None → D c → RowShown key (draw D) K d c
unfolding RowShown Shown
draw_absent key K D d c is h = λ now. rw is h

pub draw_read : {A : Type 0} (key : List ℕ) (K : Kind) (D : Cell → Type 0) (f : A → Cell) (d e : Data) (r : Result A TreeError) → get key d ≡ Some e → Reads K f e r → ReadsRow key (draw D) K f d r
unfolding RowShown Shown RowRefused Refused
draw_read key K D f d e (Ok v) is h = λ now. rw is (h now)
draw_read key K D f d e (Err Misfit) is refused = λ now c s. refused now c (rw is at s)
draw_read key K D f d e (Err Memory) is h = tt

-- ---- at a moment

pub must_missing_at : (now : Cell) (key : List ℕ) (K : Kind) (d : Data) → get key d ≡ None → RowRefusedAt now key must K d
unfolding RowRefusedAt
must_missing_at now key K d is = λ c s. rw is at s

pub must_read_at : (now : Cell) {A : Type 0} (key : List ℕ) (K : Kind) (f : A → Cell) (d e : Data) (r : Result A TreeError) → get key d ≡ Some e → ReadsAt now K f e r → ReadsRowAt now key must K f d r
unfolding RowShownAt ShownAt RowRefusedAt RefusedAt
must_read_at now key K f d e (Ok v) is h = rw is h
must_read_at now key K f d e (Err Misfit) is refused = λ c s. refused c (rw is at s)
must_read_at now key K f d e (Err Memory) is h = tt

pub default_absent_at : (now : Cell) (key : List ℕ) (K : Kind) (d : Data) (c : Cell) → get key d ≡ None → RowShownAt now key (default c) K d c
unfolding RowShownAt ShownAt
default_absent_at now key K d c is = rw is refl

pub default_read_at : (now : Cell) {A : Type 0} (key : List ℕ) (K : Kind) (D : Cell) (f : A → Cell) (d e : Data) (r : Result A TreeError) → get key d ≡ Some e → ReadsAt now K f e r → ReadsRowAt now key (default D) K f d r
unfolding RowShownAt ShownAt RowRefusedAt RefusedAt
default_read_at now key K D f d e (Ok v) is h = rw is h
default_read_at now key K D f d e (Err Misfit) is refused = λ c s. refused c (rw is at s)
default_read_at now key K D f d e (Err Memory) is h = tt

pub at_once_absent_at : (now : Cell) (key : List ℕ) (K : Kind) (d : Data) → get key d ≡ None → RowShownAt now key at_once K d now
unfolding RowShownAt ShownAt
at_once_absent_at now key K d is = rw is refl

-- what is read at every moment is read now
pub at_once_read_now : {A : Type 0} (now : Cell) (key : List ℕ) (K : Kind) (f : A → Cell) (d e : Data) (r : Result A TreeError) → get key d ≡ Some e → Reads K f e r → ReadsRowAt now key at_once K f d r
unfolding RowShownAt Shown RowRefusedAt Refused
at_once_read_now now key K f d e (Ok v) is h = rw is (h now)
at_once_read_now now key K f d e (Err Misfit) is refused = λ c s. refused now c (rw is at s)
at_once_read_now now key K f d e (Err Memory) is h = tt
