-- A sample of every rule and kind: the premises of the laws can be met.
use Rattle.std.proofs.Common.{◌≡◌, ◌<◌, ◌≤◌, ◌^◌, ◌&&◌, ℕ, pos, negsuc, List, [], ◌∷◌, Bool, true, false, cond, nat_lt, codes, bytes_eq, Option, Some, None, option_and_then, refl, sym, subst, arith, lt-ltb, IsUtf8}
use Rattle.std.proofs.lemmas.Option.{same_Some}
use Rattle.std.proofs.lemmas.Bool.{and_parts, ltb-true}
use Rattle.serde_json.specs.Data.{unsigned, Data, null, number, string, array, Items, no_items, item, no_members, member, depth}
use Rattle.serde_json.specs.Find.{as_array, as_str}
use Rattle.serde_json.specs.Written.{compact_text}
use Rattle.sentry_json.specs.Sound.{IsSound}
use Rattle.sentry_tables.specs.Cell.{Cell, absent, present, text, truth, whole, any, moment, sequence, mapping, fields, choice, no_cells, cell, no_entries, entry}
use Rattle.sentry_tables.specs.Kind.{Scalar, must, may, may_null, may_strict, default, always, draw, at_once, ignored, kept, Kind, scalar, list, map, values, table, tagged, tagged_map, Rows, no_rows, row, Cases, no_cases, case, keys}
use Rattle.sentry_tables.specs.Basic.{read_by, text_scalar, truth_scalar, unsigned_scalar, signed_scalar, u64_of, IsTruth, pair_scalar, any_scalar}
use Rattle.sentry_tables.specs.Fields.{Field, field, rows_of, table_of, fields_by}
use Rattle.sentry_tables.specs.Norm.{norm}
use Rattle.sentry_tables.specs.Written.{is_null, tree, in_order}
use Rattle.sentry_tables.specs.Meets.{IsPlain, IsReadable, IsStored}
use Rattle.sentry_tables.specs.Lawful.{ScalarLaws, RefusesNull, IsNormal, IsMoment, IsLawful, CasesLawful}
use Rattle.sentry_tables.specs.Laws.{TextShows, HasLaws}
use Rattle.sentry_tables.proofs.Basic.{lawful_reader, reader_refuses_null, text_laws, truth_laws, truth_refuses_null, unsigned_laws, signed_laws, signed_refuses_null, pair_laws, any_laws}
use Rattle.sentry_tables.proofs.Nulls.{list_refuses_null}
use Rattle.sentry_tables.proofs.Sound.{ascii_text}
use Rattle.sentry_tables.proofs.Laws.{has_laws}

-- ---- a moment: an array of its seconds and nanoseconds

abbrev moment_at : ℕ → ℕ → Option Cell
moment_at secs nanos = cond (nat_lt secs 253_402_300_800 && nat_lt nanos (10 ^ 9)) (Some (moment secs nanos)) None

abbrev moment_of : Items → Option Cell
moment_of no_items = None
moment_of (item a no_items) = None
moment_of (item a (item b no_items)) = option_and_then (λ secs. option_and_then (moment_at secs) (u64_of b)) (u64_of a)
moment_of (item a (item b (item c ds))) = None

abbrev reads_moment : Data → Option Cell
reads_moment d = option_and_then moment_of (as_array d)

abbrev moment_tree : Cell → Data
moment_tree (moment secs nanos) = array (item (number (unsigned secs)) (item (number (unsigned nanos)) no_items))
moment_tree _ = null

abbrev moment_scalar : Scalar
moment_scalar = read_by reads_moment moment_tree IsMoment

moment_holds : (P : Cell → Type 0) → ((secs nanos : ℕ) → secs < 253_402_300_800 → nanos < 10 ^ 9 → P (moment secs nanos)) → (c : Cell) → IsMoment c → P c
moment_holds P f (moment secs nanos) h = f secs nanos (omega (arith, h.0)) h.1
moment_holds P f _ h = absurd h

moment_back : (secs nanos : ℕ) → secs < 253_402_300_800 → nanos < 10 ^ 9 → reads_moment (moment_tree (moment secs nanos)) ≡ Some (moment secs nanos)
moment_back secs nanos p q = rw (lt-ltb secs 253_402_300_800 p, lt-ltb nanos (10 ^ 9) q) refl

moment_from : (b : Bool) (secs nanos : ℕ) (c : Cell) → (nat_lt secs 253_402_300_800 && nat_lt nanos (10 ^ 9)) ≡ b → cond b (Some (moment secs nanos)) None ≡ Some c → IsMoment c
moment_from true secs nanos c is e = let p = and_parts _ _ is in subst IsMoment (same_Some (moment secs nanos) c e) (omega (arith, ltb-true secs _ p.0), ltb-true nanos _ p.1)
moment_from false secs nanos c is e = absurd (cc)

moment_parts : (a b : Option ℕ) (c : Cell) → option_and_then (λ secs. option_and_then (moment_at secs) b) a ≡ Some c → IsMoment c
moment_parts None b c e = absurd (cc)
moment_parts (Some secs) None c e = absurd (cc)
moment_parts (Some secs) (Some nanos) c e = moment_from (nat_lt secs 253_402_300_800 && nat_lt nanos (10 ^ 9)) secs nanos c refl e

moment_items : (ds : Items) (c : Cell) → moment_of ds ≡ Some c → IsMoment c
moment_items no_items c e = absurd (cc)
moment_items (item a no_items) c e = absurd (cc)
moment_items (item a (item b no_items)) c e = moment_parts (u64_of a) (u64_of b) c e
moment_items (item a (item b (item x ds))) c e = absurd (cc)

moment_shown : (d : Data) (c : Cell) → IsSound d → reads_moment d ≡ Some c → IsMoment c
moment_shown (array ds) c s e = moment_items ds c e
moment_shown _ c s e = absurd (cc)

moment_laws : ScalarLaws moment_scalar
moment_laws =
    lawful_reader reads_moment moment_tree IsMoment (record {
      back = moment_holds (λ c. reads_moment (moment_tree c) ≡ Some c) moment_back;
      sound = moment_holds (λ c. IsSound (moment_tree c)) (λ secs nanos p q. (omega arith, (omega arith, tt)));
      not_null = moment_holds (λ c. is_null (moment_tree c) ≡ false) (λ secs nanos p q. refl);
      shown = moment_shown;
    })

moment_refuses_null : RefusesNull (scalar moment_scalar)
moment_refuses_null = reader_refuses_null reads_moment moment_tree IsMoment refl

-- ---- a word: `on` and `yes` are true, `off` is false

abbrev switch_of : List ℕ → Option Cell
switch_of s = cond (bytes_eq s (codes "on")) (Some (truth true)) (cond (bytes_eq s (codes "yes")) (Some (truth true)) (cond (bytes_eq s (codes "off")) (Some (truth false)) None))

abbrev switch_text : Cell → List ℕ
switch_text (truth true) = codes "on"
switch_text (truth false) = codes "off"
switch_text _ = []

abbrev switch_in : Data → Option Cell
switch_in d = option_and_then switch_of (as_str d)

abbrev switch_tree : Cell → Data
switch_tree c = string (switch_text c)

abbrev switch_scalar : Scalar
switch_scalar = read_by switch_in switch_tree IsTruth

picked : (a b c : Bool) (x : Cell) → cond a (Some (truth true)) (cond b (Some (truth true)) (cond c (Some (truth false)) None)) ≡ Some x → IsTruth x
picked true b c x e = subst IsTruth (same_Some (truth true) x e) tt
picked false true c x e = subst IsTruth (same_Some (truth true) x e) tt
picked false false true x e = subst IsTruth (same_Some (truth false) x e) tt
picked false false false x e = absurd (cc)

switch_shown : (d : Data) (c : Cell) → switch_in d ≡ Some c → IsTruth c
switch_shown (string s) c e = picked (bytes_eq s (codes "on")) (bytes_eq s (codes "yes")) (bytes_eq s (codes "off")) c e
switch_shown _ c e = absurd (cc)

switch_reads : (c : Cell) → IsTruth c → switch_in (switch_tree c) ≡ Some c
switch_reads (truth true) h = refl
switch_reads (truth false) h = refl
switch_reads _ h = absurd h

switch_utf8 : (c : Cell) → IsTruth c → IsUtf8 (switch_text c)
switch_utf8 (truth true) h = ascii_text (codes "on") refl
switch_utf8 (truth false) h = ascii_text (codes "off") refl
switch_utf8 _ h = absurd h

switch_laws : ScalarLaws switch_scalar
switch_laws =
    lawful_reader switch_in switch_tree IsTruth (record {
      back = switch_reads;
      sound = switch_utf8;
      not_null = λ c p. refl;
      shown = λ d c s e. switch_shown d c e;
    })

-- ---- a table from its lines

record Place : Type 0 where
  line : ℕ
  column : Option ℕ

abbrev column_cell : Option ℕ → Cell
column_cell None = absent
column_cell (Some n) = present (whole (pos n))

abbrev place_fields : List (Field Place)
place_fields =
    field (codes "column") may (scalar (unsigned_scalar (2 ^ 32))) (λ p. column_cell p.column)
    ∷ field (codes "line") must (scalar (unsigned_scalar (2 ^ 32))) (λ p. whole (pos p.line))
    ∷ []

abbrev place_kind : Kind
place_kind = table_of place_fields

abbrev place_cell : Place → Cell
place_cell p = fields_by place_fields p

place_lawful : IsLawful place_kind
place_lawful = ((refl, tt, unsigned_laws (2 ^ 32) (omega arith), (refl, tt, unsigned_laws (2 ^ 32) (omega arith), tt, refl), refl))

place_in_order : in_order (keys (rows_of place_fields)) ≡ true
place_in_order = refl

-- ---- a table of every rule, of every kind

abbrev sample_cases : Cases
sample_cases =
    case (codes "browser") (row (codes "name") must (scalar text_scalar) no_rows) ignored
    (case (codes "other") no_rows (kept (codes "type" ∷ [])) no_cases)

sample_cases_lawful : CasesLawful sample_cases
sample_cases_lawful = (refl, refl, tt, (refl, tt, text_laws, tt, refl), (refl, refl, refl, tt, tt, refl), refl)

abbrev pub Coin : Cell → Type 0
Coin c = (b : Bool) × (c ≡ truth b)

abbrev sample_rows : Rows
sample_rows =
    row (codes "amount") (default (whole (pos 0))) (scalar (signed_scalar (2 ^ 63)))
    (row (codes "coin") (draw Coin) (scalar truth_scalar)
    (row (codes "contexts") may (tagged_map sample_cases (codes "other"))
    (row (codes "extra") may_null (scalar any_scalar)
    (row (codes "flag") (always (truth true)) (scalar switch_scalar)
    (row (codes "labels") may_null (map (scalar text_scalar))
    (row (codes "pairs") may_strict (list (scalar pair_scalar))
    (row (codes "part") must (tagged sample_cases)
    (row (codes "places") may (values place_kind)
    (row (codes "time") at_once (scalar moment_scalar) no_rows)))))))))

abbrev sample_kind : Kind
sample_kind = table sample_rows (kept (codes "secret" ∷ []))

sample_in_order : in_order (keys sample_rows) ≡ true
sample_in_order = refl

pub coin_normal : (c : Cell) → Coin c → IsNormal (scalar truth_scalar) c
coin_normal c h = subst (IsNormal (scalar truth_scalar)) (sym h.1) (tt, tt, tt, refl)

sample_lawful : IsLawful sample_kind
sample_lawful = (
  refl,
  (signed_refuses_null (2 ^ 63), (omega arith, tt, tt, refl)),
  signed_laws (2 ^ 63) (omega arith),
  (
    refl,
    (truth_refuses_null, coin_normal, (truth true, (true, refl))),
    truth_laws,
    (
      refl,
      tt,
      sample_cases_lawful,
      (
        refl,
        tt,
        any_laws,
        (
          refl,
          (reader_refuses_null switch_in switch_tree IsTruth refl, (tt, tt, tt, refl)),
          switch_laws,
          (
            refl,
            tt,
            text_laws,
            (
              refl,
              list_refuses_null (scalar pair_scalar),
              pair_laws,
              (
                refl,
                tt,
                sample_cases_lawful,
                (
                  refl,
                  tt,
                  place_lawful,
                  (refl, (moment_refuses_null, λ c h. (h, tt, tt, refl)), moment_laws, tt, refl),
                  refl,
                ),
                refl,
              ),
              refl,
            ),
            refl,
          ),
          refl,
        ),
        refl,
      ),
      refl,
    ),
    refl,
  ),
  refl,
)

sample_laws : HasLaws sample_kind
sample_laws = has_laws sample_kind sample_lawful

-- ---- a value of it

abbrev browser : Cell
browser = choice 0 (fields (cell (text (codes "a")) no_cells) no_members)

abbrev other : Cell
other = choice 1 (fields no_cells (member (codes "x") null no_members))

abbrev contexts : Cell
contexts = mapping (entry (codes "browser") browser (entry (codes "else") other no_entries))

abbrev places : Cell
places = sequence (cell (place_cell (record { line = 1; column = None })) no_cells)

abbrev sample : Cell
sample =
    fields (cell (whole (negsuc 4)) (cell (truth false) (cell (present contexts) (cell (present (any null)) (cell (truth false)
    (cell absent (cell (present (sequence no_cells)) (cell browser (cell (present places) (cell (moment 0 5) no_cells))))))))))
    (member (codes "note") (number (unsigned 3)) no_members)

browser_stored : IsStored (tagged sample_cases) browser
browser_stored = ((ascii_text (codes "a") refl, tt), refl)

other_stored : IsStored (tagged sample_cases) other
other_stored = (tt, (((tt, tt), (tt, tt)), (ascii_text (codes "x") refl, tt, tt)))

contexts_stored : IsStored (tagged_map sample_cases (codes "other")) contexts
contexts_stored = ((ascii_text (codes "browser") refl, (refl, tt), (ascii_text (codes "else") refl, tt, tt)), (browser_stored, (other_stored, tt)))

places_stored : IsStored (values place_kind) places
places_stored = (((tt, (omega arith, tt)), refl), tt)

sample_stored : IsStored sample_kind sample
sample_stored = (
  (omega arith, (tt, (contexts_stored, ((tt, tt), (tt, (tt, (tt, (browser_stored, (places_stored, ((omega arith, omega arith), tt)))))))))),
  (((tt, tt), (omega arith, tt)), (ascii_text (codes "note") refl, tt, tt)),
)

browser_plain : IsPlain (tagged sample_cases) browser
browser_plain = ((tt, tt), (tt, refl))

contexts_plain : IsPlain (tagged_map sample_cases (codes "other")) contexts
contexts_plain = (tt, (browser_plain, ((tt, ((refl, tt), refl)), tt)))

places_plain : IsPlain (values place_kind) places
places_plain = (((tt, (tt, tt)), (tt, refl)), tt)

sample_plain : IsPlain sample_kind sample
sample_plain = ((tt, (tt, (contexts_plain, (refl, (tt, (tt, (tt, (browser_plain, (places_plain, (tt, tt)))))))))), ((refl, tt), refl))

contexts_readable : IsReadable (tagged_map sample_cases (codes "other")) contexts
contexts_readable = (tt, (((tt, tt), tt), ((tt, tt), tt)))

places_readable : IsReadable (values place_kind) places
places_readable = (((tt, (tt, tt)), tt), tt)

sample_readable : IsReadable sample_kind sample
sample_readable = ((tt, (tt, (contexts_readable, (tt, (tt, (tt, (tt, (((tt, tt), tt), (places_readable, (tt, tt)))))))))), tt)

sample_shallow : depth (tree sample_kind sample) ≤ 127
sample_shallow = omega arith

-- its text shows its normal form, at any moment
sample_text : (now : Cell) → TextShows sample_kind now (compact_text (tree sample_kind sample)) (norm sample_kind sample)
sample_text now = (sample_laws.text_back sample now sample_stored sample_plain sample_readable sample_shallow).0
