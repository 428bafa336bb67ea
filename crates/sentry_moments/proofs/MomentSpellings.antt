-- Both forms of moments are lawful.
use Rattle.std.proofs.Common.{◌≡◌, ◌⊎◌, ◌==◌, ℕ, List, Bool, true, false, cond, inl, inr, refl, sym, ap, ◌∙◌, subst, arith, IsUtf8}
use Rattle.std.proofs.lemmas.Bool.{false≢true, eqb-true, cases_lt}
use Rattle.serde_json.specs.Data.{Data, number, string, unsigned}
use Rattle.sentry_json.specs.Sound.{IsSound}
use Rattle.sentry_tables.specs.Cell.{Cell, moment}
use Rattle.sentry_tables.specs.Kind.{at_once}
use Rattle.sentry_tables.specs.Lawful.{IsMoment, last_second, ScalarLaws, RefusesNull, RuleLaws}
use Rattle.sentry_tables.specs.Written.{is_null}
use Rattle.sentry_tables.specs.Spelling.{SpellingLaws, spelled}
use Rattle.sentry_tables.proofs.Spellings.{spelled_laws, spelled_refuses_null}
use Rattle.sentry_moments.specs.MomentForms.{NamesMoment, moment_text, rfc3339_spelling, rfc3339_kind, ShowsSeconds, seconds_tree, seconds_scalar, seconds_kind}
use Rattle.sentry_moments.specs.MomentTexts.{rfc3339_text}
use Rattle.sentry_moments.specs.Rfc3339.{IsMomentTime, IsRfc3339}
use Rattle.sentry_moments.proofs.AsciiTexts.{rfc3339_text-utf8}
use Rattle.sentry_moments.proofs.Rfc3339ReadBack.{reads_back}
use Rattle.sentry_moments.proofs.Rfc3339Texts.{one_moment, is_decided}

-- what is stored is a moment in range
in_range : (P : Cell → Type 0) → ((secs nanos : ℕ) → IsMomentTime secs nanos → P (moment secs nanos)) → (c : Cell) → IsMoment c → P c
in_range P f (moment secs nanos) h = f secs nanos h
in_range P f _ h = absurd h

-- and so is what a text names
named : (P : Cell → Type 0) → (text : List ℕ) (c : Cell) → ((secs nanos : ℕ) → IsRfc3339 text secs nanos → P (moment secs nanos)) → NamesMoment text c → P c
named P text (moment secs nanos) f h = f secs nanos h
named P text _ f h = absurd h

same_moment : (a b m n : ℕ) → a ≡ b → m ≡ n → moment a m ≡ moment b n
same_moment a b m n e f = cc

-- ---- RFC 3339 texts

names_one : (text : List ℕ) (c x : Cell) → NamesMoment text c → NamesMoment text x → c ≡ x
names_one text c x h k =
    named (λ y. y ≡ x) text c (λ secs nanos own. named (λ y. moment secs nanos ≡ y) text x (λ s n other. let one = one_moment text secs nanos s n own other in same_moment secs s nanos n one.0 one.1) k) h

named_stored : (text : List ℕ) (c : Cell) → NamesMoment text c → IsMoment c
named_stored text c = named IsMoment text c (λ secs nanos h. h.in_range)

named_or_none : (text : List ℕ) → ((secs : ℕ) × (nanos : ℕ) × IsRfc3339 text secs nanos) ⊎ ((secs nanos : ℕ) → IsRfc3339 text secs nanos → ⊥) → ((c : Cell) × NamesMoment text c) ⊎ ((c : Cell) → NamesMoment text c → ⊥)
named_or_none text (inl (secs, nanos, h)) = inl (moment secs nanos, h)
named_or_none text (inr none) = inr (λ c. named (λ x. ⊥) text c none)

names_decided : (text : List ℕ) → ((c : Cell) × NamesMoment text c) ⊎ ((c : Cell) → NamesMoment text c → ⊥)
names_decided text = named_or_none text (is_decided text)

pub rfc3339_laws : SpellingLaws rfc3339_spelling
rfc3339_laws = record {
  back = λ c p q. in_range (λ x. NamesMoment (moment_text x) x) reads_back c p;
  one = names_one;
  again = λ c p. refl;
  stored_norm = λ c p. p;
  readable_norm = λ c p q. tt;
  utf8 = λ c p. in_range (λ x. IsUtf8 (moment_text x)) (λ secs nanos h. rfc3339_text-utf8 secs nanos) c p;
  spelled_stored = λ text c utf8 h. named_stored text c h;
  spelled_readable = λ text c utf8 h. tt;
  spelled_written = λ text c utf8 h. refl;
  decide = names_decided;
}

pub rfc3339_scalar_laws : ScalarLaws (spelled rfc3339_spelling)
rfc3339_scalar_laws = spelled_laws rfc3339_spelling rfc3339_laws

pub rfc3339_refuses_null : RefusesNull rfc3339_kind
rfc3339_refuses_null = spelled_refuses_null rfc3339_spelling

pub rfc3339_at_once : RuleLaws at_once rfc3339_kind
rfc3339_at_once = (rfc3339_refuses_null, λ c h. (h, tt, tt, refl))

-- ---- whole seconds

-- the tree of so many seconds and nanoseconds, where the flag says that these are 0
abbrev tree_by : Bool → ℕ → ℕ → Data
tree_by whole secs nanos = cond whole (number (unsigned secs)) (string (rfc3339_text secs nanos))

shows_back : (secs nanos : ℕ) (b : Bool) → (nanos == 0) ≡ b → IsMomentTime secs nanos → ShowsSeconds (tree_by b secs nanos) (moment secs nanos)
shows_back secs nanos true e h = (ap (moment secs) (eqb-true nanos 0 e), h.0)
shows_back secs nanos false e h = reads_back secs nanos h

shows_one : (d : Data) (c x : Cell) → ShowsSeconds d c → ShowsSeconds d x → c ≡ x
shows_one (number (unsigned n)) c x h k = h.0 ∙ sym k.0
shows_one (string text) c x h k = names_one text c x h k
shows_one _ c x h k = absurd h

tree_sound : (secs nanos : ℕ) (b : Bool) → IsMomentTime secs nanos → IsSound (tree_by b secs nanos)
tree_sound secs nanos true h = omega (arith, h.0)
tree_sound secs nanos false h = rfc3339_text-utf8 secs nanos

tree_not_null : (secs nanos : ℕ) (b : Bool) → is_null (tree_by b secs nanos) ≡ false
tree_not_null secs nanos true = refl
tree_not_null secs nanos false = refl

seconds_stored : (d : Data) (c : Cell) → ShowsSeconds d c → IsMoment c
seconds_stored (number (unsigned n)) c h = subst IsMoment (sym h.0) (h.1, omega arith)
seconds_stored (string text) c h = named_stored text c h
seconds_stored _ c h = absurd h

seconds_decided : (d : Data) → ((c : Cell) × ShowsSeconds d c) ⊎ ((c : Cell) → ShowsSeconds d c → ⊥)
seconds_decided (number (unsigned n)) =
    elim (cases_lt last_second n) [
      | inl lt ↦ inr (λ c h. omega (arith, h.1))
      | inr le ↦ inl (moment n 0, (refl, le))
    ]
seconds_decided (string text) = names_decided text
seconds_decided _ = inr (λ c h. h)

pub seconds_laws : ScalarLaws seconds_scalar
seconds_laws = record {
  back = λ c p q. in_range (λ x. ShowsSeconds (seconds_tree x) x) (λ secs nanos h. shows_back secs nanos (nanos == 0) refl h) c p.0;
  single = shows_one;
  again = λ c p. refl;
  stored_norm = λ c p. p.0;
  plain_norm = λ c p. tt;
  readable_norm = λ c p q. tt;
  depth_norm = λ c p. omega arith;
  null_tree = λ c p. in_range (λ x. is_null (seconds_tree x) ≡ false) (λ secs nanos h. tree_not_null secs nanos (nanos == 0)) c p;
  null_norm = λ c p. refl;
  sound = λ c p. in_range (λ x. IsSound (seconds_tree x)) (λ secs nanos h. tree_sound secs nanos (nanos == 0) h) c p.0;
  shown_stored = λ d c sound h. seconds_stored d c h;
  shown_plain = λ d c sound h. tt;
  shown_readable = λ d c sound h. tt;
  shown_null = λ d c h e. absurd (false≢true e);
  shown_tree = λ d c sound h. refl;
  decide = seconds_decided;
}

pub seconds_refuses_null : RefusesNull seconds_kind
seconds_refuses_null now c h = h

pub seconds_at_once : RuleLaws at_once seconds_kind
seconds_at_once = (seconds_refuses_null, λ c h. (h, tt, tt, refl))
