-- What trees show as moments.
use Rattle.std.proofs.Common.{◌≡◌, ◌≤◌, ℕ, List, Option, Some, None, Result, Ok, Err, IsSomeAnd, sym, ap, subst, arith}
use Rattle.std.proofs.lemmas.Option.{same_Some}
use Rattle.serde_json.specs.Data.{Data, number, string, unsigned, negative, float}
use Rattle.serde_json.specs.Find.{as_str}
use Rattle.sentry_tables.specs.Basic.{u64_of}
use Rattle.sentry_tables.specs.Cell.{Cell, moment}
use Rattle.sentry_tables.specs.Lawful.{last_second}
use Rattle.sentry_tables.specs.Reading.{Shown, Refused, Reads}
use Rattle.sentry_tables.specs.Spelling.{Texted}
use Rattle.sentry_tables.specs.declared.error.TreeError.{TreeError}
use Rattle.sentry_tables.specs.declared.error.TreeError.TheVariants.{Misfit, Memory}
use Rattle.sentry_moments.specs.MomentForms.{NamesMoment, rfc3339_kind, ShowsSeconds, seconds_kind}
use Rattle.sentry_moments.specs.Moments.{moment_cell}
use Rattle.sentry_moments.specs.Rfc3339.{IsRfc3339}
use Rattle.sentry_moments.specs.declared.moment.Moment.{Moment}

-- ---- RFC 3339 texts

texted : (o : Option (List ℕ)) (text : List ℕ) (c : Cell) → o ≡ Some text → NamesMoment text c → Texted NamesMoment o c
texted o text c is h = subst (λ p. Texted NamesMoment p c) (sym is) h

untexted : (o : Option (List ℕ)) (text : List ℕ) (c : Cell) → o ≡ Some text → Texted NamesMoment o c → NamesMoment text c
untexted o text c is h = subst (λ p. Texted NamesMoment p c) is h

pub named_shown : (text : List ℕ) (d : Data) (m : Moment) → as_str d ≡ Some text → IsRfc3339 text m.secs m.nanos → Shown rfc3339_kind d (moment_cell m)
unfolding Shown
named_shown text d m is h now = texted (as_str d) text (moment_cell m) is h

never : (text : List ℕ) (c : Cell) → ((secs nanos : ℕ) → IsRfc3339 text secs nanos → ⊥) → NamesMoment text c → ⊥
never text (moment secs nanos) none h = none secs nanos h
never text _ none h = h

nothing : (P : Moment → Type 0) (o : Option Moment) → o ≡ None → IsSomeAnd o P → ⊥
nothing P None e h = h
nothing P (Some m) e h = cc

-- a reader that finds each moment that the text names found none
pub not_named : (text : List ℕ) (d : Data) (o : Option Moment) → as_str d ≡ Some text → o ≡ None
    → ((secs nanos : ℕ) → IsRfc3339 text secs nanos → IsSomeAnd o (λ m. (m.secs ≡ secs) × (m.nanos ≡ nanos))) → Refused rfc3339_kind d
unfolding Refused
not_named text d o is none only now c h = never text c (λ secs nanos k. nothing _ o none (only secs nanos k)) (untexted (as_str d) text c is h)

-- ---- whole seconds

counted : (n : ℕ) (d : Data) → u64_of d ≡ Some n → n ≤ last_second → ShowsSeconds d (moment n 0)
counted n (number (unsigned m)) e h =
    let same = same_Some m n e in (ap (λ k. moment k 0) (sym same), omega arith)
counted n (number (negative z)) e h = absurd cc
counted n (number (float x)) e h = absurd cc
counted n _ e h = absurd cc

pub seconds_shown : (n : ℕ) (d : Data) (m : Moment) → u64_of d ≡ Some n → n ≤ last_second → m.secs ≡ n → m.nanos ≡ 0 → Shown seconds_kind d (moment_cell m)
unfolding Shown
seconds_shown n d m is h secs nanos now = rw (secs, nanos) (counted n d is h)

uncounted : (n : ℕ) (d : Data) (c : Cell) → u64_of d ≡ Some n → (n ≤ last_second → ⊥) → ShowsSeconds d c → ⊥
uncounted n (number (unsigned m)) c e large h =
    let same = same_Some m n e in large (omega (arith, h.1))
uncounted n (number (negative z)) c e large h = absurd cc
uncounted n (number (float x)) c e large h = absurd cc
uncounted n _ c e large h = absurd cc

pub past_the_range : (n : ℕ) (d : Data) → u64_of d ≡ Some n → (n ≤ last_second → ⊥) → Refused seconds_kind d
unfolding Refused
past_the_range n d is large now c h = uncounted n d c is large h

-- what is no whole number shows what its text names
as_text : (d : Data) (c : Cell) → u64_of d ≡ None → Texted NamesMoment (as_str d) c → ShowsSeconds d c
as_text (string text) c none h = h
as_text _ c none h = absurd h

of_text : (d : Data) (c : Cell) → u64_of d ≡ None → ShowsSeconds d c → Texted NamesMoment (as_str d) c
of_text (number (unsigned n)) c none h = absurd cc
of_text (string text) c none h = h
of_text _ c none h = absurd h

pub without_number : {A : Type 0} (f : A → Cell) (d : Data) (r : Result A TreeError) → u64_of d ≡ None → Reads rfc3339_kind f d r → Reads seconds_kind f d r
unfolding Shown Refused
without_number f d (Ok v) none h = λ now. as_text d (f v) none (h now)
without_number f d (Err Misfit) none h = λ now c k. h now c (of_text d c none k)
without_number f d (Err Memory) none h = tt
