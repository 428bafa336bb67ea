-- The moment that a text names, and that it names no other.
use Rattle.std.proofs.Common.{◌≡◌, ℕ, zero, suc, ◌+◌, ◌*◌, ◌^◌, ◌<◌, ◌≤◌, ◌⊎◌, inl, inr, Bool, true, false, cond, eqb, List, [], ◌∷◌, ◌++◌, length, take, drop, replicate, Option, Some, None, refl, sym, ap, subst, ◌∙◌, append_assoc, length-append, arith, ℤ, pos, negsuc, ◌+ℤ◌, ◌-ℤ◌, ◌*ℤ◌}
use Rattle.std.specs.Char.{is_ascii_digit}
use Rattle.std.specs.List.{prefix_len}
use Rattle.std.specs.Str.Parse.{AllDigits}
use Rattle.std.proofs.lemmas.Bool.{eqb-true, eqb-false, ne_eqb, cases_lt}
use Rattle.std.proofs.lemmas.Int.Digits.{digits_value-lt}
use Rattle.std.proofs.lemmas.Option.{some_pair_parts}
use Rattle.std.proofs.lemmas.List.{length-take, take-append-drop, take_at, drop_at}
use Rattle.jiff_core.specs.Calendar.{days_from_civil}
use Rattle.jiff_core.proofs.SignedLemmas.{signed_arith}
use Rattle.sentry_json.proofs.Integers.{power_below}
use Rattle.sentry_tables.specs.Lawful.{last_second}
use Rattle.sentry_moments.specs.Digits.{front_digits, after_digits}
use Rattle.sentry_moments.specs.Rfc3339.{IsFraction, Absent, Present, nanoseconds, IsZone, Upper, Lower, Ahead, Behind, IsRfc3339, date_text, clock_text}
use Rattle.sentry_moments.specs.Rfc3339Parts.{IsDateAndTime, IsMomentText, fraction}
use Rattle.sentry_moments.proofs.Fronts.{front_digits_are, front_and_rest, front_again, after_again as digits_after}
use Rattle.sentry_moments.proofs.Shifts.{all_digits_append, all_digits_take}
use Rattle.sentry_moments.proofs.DateAndTimes.{date_and_time_size, one_date_and_time, date_and_time_or_not}
use Rattle.sentry_moments.proofs.Zones.{one_zone, zone_or_not}

-- ---- the fraction

zeros_are_digits : (k : ℕ) → AllDigits 10 (replicate k 48)
zeros_are_digits zero = tt
zeros_are_digits (suc k) = (omega arith, zeros_are_digits k)

places_are_digits : (front places : List ℕ) → IsFraction front places → AllDigits 10 places
places_are_digits front places Absent = tt
places_are_digits front places (Present d ds h) = h

pub nanoseconds_below : (ds : List ℕ) → AllDigits 10 ds → nanoseconds ds < 10 ^ 9
nanoseconds_below ds h =
    let nine = take 9 (ds ++ replicate 9 48) in
    let below = digits_value-lt 10 nine (all_digits_take 9 (ds ++ replicate 9 48) (all_digits_append ds (replicate 9 48) h (zeros_are_digits 9))) in
    omega (arith, below, power_below (length nine) 9 (omega (arith, length-take 9 (ds ++ replicate 9 48))))

nanoseconds_small : (front places : List ℕ) → IsFraction front places → nanoseconds places < 10 ^ 9
nanoseconds_small front places h = nanoseconds_below places (places_are_digits front places h)

-- the fraction at the front of a text
record TakesFraction (text : List ℕ) (n : ℕ) (rest : List ℕ) : Type 0 where
  front : List ℕ
  places : List ℕ
  whole : text ≡ front ++ rest
  is_fraction : IsFraction front places
  number : n ≡ nanoseconds places

present : (ds : List ℕ) → ¬ (length ds ≡ 0) → AllDigits 10 ds → IsFraction (46 ∷ ds) ds
present [] some h = absurd (some refl)
present (d ∷ ds) some h = Present d ds h

absent : (text : List ℕ) (n : ℕ) (rest : List ℕ) → ◌≡◌ {A = Option (ℕ × List ℕ)} (Some (0, text)) (Some (n, rest)) → TakesFraction text n rest
absent text n rest e =
    let parts = some_pair_parts _ _ _ _ e in
    record { front = []; places = []; whole = parts.1; is_fraction = Absent; number = sym parts.0 }

fraction_takes : (text : List ℕ) (n : ℕ) (rest : List ℕ) → fraction text ≡ Some (n, rest) → TakesFraction text n rest
unfolding fraction
fraction_takes [] n rest e = absent [] n rest e
fraction_takes (c ∷ cs) n rest e = go (eqb c 46) (eqb (length (front_digits cs)) 0) refl refl e
  where
    go : (point none : Bool) → eqb c 46 ≡ point → eqb (length (front_digits cs)) 0 ≡ none → cond {A = Option (ℕ × List ℕ)} point (cond none None (Some (nanoseconds (front_digits cs), after_digits cs))) (Some (0, c ∷ cs)) ≡ Some (n, rest) → TakesFraction (c ∷ cs) n rest
    go true true is none e = absurd cc
    go true false is some e =
        let ds = front_digits cs in
        let parts = some_pair_parts _ _ _ _ e in
        record {
          front = 46 ∷ ds;
          places = ds;
          whole = ap (λ (b : ℕ). b ∷ cs) (eqb-true c 46 is) ∙ ap (λ (t : List ℕ). 46 ∷ t) (front_and_rest cs ∙ ap (λ (t : List ℕ). ds ++ t) parts.1);
          is_fraction = present ds (eqb-false (length ds) 0 some) (front_digits_are cs);
          number = sym parts.0;
        }
    go false none other any e = absent (c ∷ cs) n rest e

fraction_again : (front places rest : List ℕ) → IsFraction front places → prefix_len is_ascii_digit rest ≡ 0 → fraction rest ≡ Some (0, rest) → fraction (front ++ rest) ≡ Some (nanoseconds places, rest)
unfolding fraction
fraction_again front places rest Absent none skips = skips
fraction_again front places rest (Present d ds h) none skips =
    rw (front_again (d ∷ ds) rest h none, digits_after (d ∷ ds) rest h none, ne_eqb (length (d ∷ ds)) 0 (λ zero. omega (arith, zero))) refl

-- a zone begins with no digit and no point
zone_begins : (text : List ℕ) (n : ℤ) → IsZone text n → (prefix_len is_ascii_digit text ≡ 0) × (fraction text ≡ Some (0, text))
unfolding fraction
zone_begins text n Upper = (refl, refl)
zone_begins text n Lower = (refl, refl)
zone_begins text n (Ahead h m a b) = (refl, refl)
zone_begins text n (Behind h m a b) = (refl, refl)

-- ---- the whole text

-- where the parts of a text stand
pub placed : (text : List ℕ) (secs : ℤ) (nanos : ℕ) → (r : IsMomentText text secs nanos) → (19 ≤ length text) × IsDateAndTime (take 19 text) r.day r.second × (fraction (drop 19 text) ≡ Some (nanos, r.zone_text))
placed text secs nanos r =
    let rest = r.fraction_text ++ r.zone_text in
    let long = date_and_time_size r.front r.day r.second r.is_date_and_time in
    let whole = r.whole ∙ append_assoc r.front r.fraction_text r.zone_text in
    let front : take 19 text ≡ r.front = ap (take 19) whole ∙ take_at r.front rest 19 long in
    let after : drop 19 text ≡ rest = ap (drop 19) whole ∙ drop_at r.front rest 19 long in
    let begins = zone_begins r.zone_text r.offset r.is_zone in (
      omega (arith, ap length whole, length-append r.front rest, long),
      subst (λ (l : List ℕ). IsDateAndTime l r.day r.second) (sym front) r.is_date_and_time,
      rw (after, r.nanoseconds_is) (fraction_again r.fraction_text r.fraction r.zone_text r.is_fraction begins.0 begins.1),
    )

pub named : (text zone_text : List ℕ) (day : ℤ) (second nanos : ℕ) (offset : ℤ) → IsDateAndTime (take 19 text) day second → fraction (drop 19 text) ≡ Some (nanos, zone_text) → IsZone zone_text offset → IsMomentText text (day *ℤ pos 86_400 +ℤ pos second -ℤ offset) nanos
named text zone_text day second nanos offset date e zone =
    let part = fraction_takes (drop 19 text) nanos zone_text e in
    record {
      front = take 19 text;
      fraction = part.places;
      fraction_text = part.front;
      zone_text = zone_text;
      day = day;
      second = second;
      offset = offset;
      whole = sym (take-append-drop 19 text) ∙ ap (λ (l : List ℕ). take 19 text ++ l) part.whole ∙ sym (append_assoc (take 19 text) part.front zone_text);
      is_date_and_time = date;
      is_fraction = part.is_fraction;
      is_zone = zone;
      seconds = refl;
      nanoseconds_is = part.number;
    }

pub same_moment : (text : List ℕ) (s t : ℤ) (m n : ℕ) → IsMomentText text s m → IsMomentText text t n → (s ≡ t) × (m ≡ n)
same_moment text s t m n a b =
    let first = placed text s m a in
    let other = placed text t n b in
    let date = one_date_and_time (take 19 text) a.day b.day a.second b.second first.1 other.1 in
    let parts = some_pair_parts _ _ _ _ (sym first.2 ∙ other.2) in
    let zone = one_zone a.zone_text a.offset b.offset a.is_zone (subst (λ (l : List ℕ). IsZone l b.offset) (sym parts.1) b.is_zone) in
    (a.seconds ∙ rw (date.0, date.1, zone) (sym b.seconds), parts.0)

-- ---- from 1970 to the end of the year 9999

pub as_rfc3339 : (text : List ℕ) (secs nanos : ℕ) → IsMomentText text (pos secs) nanos → secs ≤ last_second → IsRfc3339 text secs nanos
as_rfc3339 text secs nanos r bound =
    let d = r.is_date_and_time in
    record {
      civil = d.civil;
      separator = d.separator;
      fraction = r.fraction;
      fraction_text = r.fraction_text;
      zone_text = r.zone_text;
      offset = r.offset;
      whole = r.whole ∙ ap (λ (l : List ℕ). l ++ r.fraction_text ++ r.zone_text) d.whole;
      is_civil = d.is_civil;
      is_separator = d.is_separator;
      is_fraction = r.is_fraction;
      is_zone = r.is_zone;
      seconds = r.seconds ∙ rw (d.day_is, d.second_is) refl;
      nanoseconds_is = r.nanoseconds_is;
      in_range = (bound, rw r.nanoseconds_is (nanoseconds_small r.fraction_text r.fraction r.is_fraction));
    }

pub as_moment : (text : List ℕ) (secs nanos : ℕ) → IsRfc3339 text secs nanos → IsMomentText text (pos secs) nanos
as_moment text secs nanos r = record {
  front = date_text r.civil ++ r.separator ∷ clock_text r.civil;
  fraction = r.fraction;
  fraction_text = r.fraction_text;
  zone_text = r.zone_text;
  day = days_from_civil (pos r.civil.year) r.civil.month r.civil.day;
  second = r.civil.hour * 3_600 + r.civil.minute * 60 + r.civil.second;
  offset = r.offset;
  whole = r.whole;
  is_date_and_time = record { civil = r.civil; separator = r.separator; whole = refl; is_civil = r.is_civil; is_separator = r.is_separator; day_is = refl; second_is = refl };
  is_fraction = r.is_fraction;
  is_zone = r.is_zone;
  seconds = r.seconds;
  nanoseconds_is = r.nanoseconds_is;
}

-- ---- one moment, or none

pub one_moment : (text : List ℕ) (secs nanos s n : ℕ) → IsRfc3339 text secs nanos → IsRfc3339 text s n → (secs ≡ s) × (nanos ≡ n)
one_moment text secs nanos s n a b =
    let same = same_moment text (pos secs) (pos s) nanos n (as_moment text secs nanos a) (as_moment text s n b) in
    (omega (arith, signed_arith, same.0), same.1)

-- the text names a moment, or it names none
abbrev pub IsDecided : List ℕ → Type 0
IsDecided text = ((secs : ℕ) × (nanos : ℕ) × IsRfc3339 text secs nanos) ⊎ ((secs nanos : ℕ) → IsRfc3339 text secs nanos → ⊥)

decided : (text : List ℕ) (s : ℤ) (n : ℕ) → IsMomentText text s n → IsDecided text
decided text (pos s) n r =
    elim (cases_lt last_second s) [
      | inl late ↦ inr (λ secs nanos h. omega (arith, signed_arith, (same_moment text (pos secs) (pos s) nanos n (as_moment text secs nanos h) r).0, late, h.in_range.0))
      | inr bound ↦ inl (s, n, as_rfc3339 text s n r bound)
    ]
decided text (negsuc s) n r =
    inr (λ secs nanos h. let same = (same_moment text (pos secs) (negsuc s) nanos n (as_moment text secs nanos h) r).0 in cc)

pub is_decided : (text : List ℕ) → IsDecided text
is_decided text = elim (date_and_time_or_not (take 19 text)) [
  | inl date ↦ go date.0 date.1 date.2 (fraction (drop 19 text)) refl
  | inr not ↦ inr (λ secs nanos h.
      let r = as_moment text secs nanos h in
      not r.day r.second (placed text (pos secs) nanos r).1)
]
  where
    go : (day : ℤ) (second : ℕ) → IsDateAndTime (take 19 text) day second → (o : Option (ℕ × List ℕ)) → fraction (drop 19 text) ≡ o → IsDecided text
    go day second date None e = inr (λ secs nanos h. absurd (let some = (placed text (pos secs) nanos (as_moment text secs nanos h)).2 in cc))
    go day second date (Some (n, rest)) e = elim (zone_or_not rest) [
      | inl zone ↦ decided text (day *ℤ pos 86_400 +ℤ pos second -ℤ zone.0) n (named text rest day second n zone.0 date e zone.1)
      | inr not ↦ inr (λ secs nanos h.
          let r = as_moment text secs nanos h in
          let same = (some_pair_parts _ _ _ _ (sym (placed text (pos secs) nanos r).2 ∙ e)).1 in
          not r.offset (subst (λ (l : List ℕ). IsZone l r.offset) same r.is_zone))
    ]
