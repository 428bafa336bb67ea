-- What a sound tree shows is stored, plain and readable.
use Rattle.std.proofs.Common.{◌≡◌, ℕ, zero, suc, List, [], ◌∷◌, ◌++◌, Bool, true, false, cond, Option, Some, None, option_and_then, refl, sym, ap₂, subst, Ordering, Less, Equal, Greater, nat_cmp, IsUtf8}
use Rattle.std.proofs.lemmas.Bool.{false≢true}
use Rattle.std.specs.Prelude.{⊤}
use Rattle.serde_json.specs.Data.{Data, null, boolean, number, string, array, object, Items, no_items, item, Members, no_members, member}
use Rattle.serde_json.specs.Find.{get_member, as_array, as_object}
use Rattle.sentry_tables.specs.Cell.{Cell, present, sequence, mapping, fields, choice, Cells, no_cells, cell, Entries, no_entries, entry}
use Rattle.sentry_tables.specs.Kind.{Scalar, Rule, must, may, may_null, may_strict, default, always, draw, at_once, Other, ignored, kept, Kind, scalar, list, map, values, table, tagged, tagged_map, Rows, no_rows, row, Cases, no_cases, case, keys, words, others}
use Rattle.sentry_tables.specs.Shows.{is_object, members_in, ObjectShows, IsPresent, IsSequence, IsMapping, AreFields, IsChoice, ItemsShow, MembersShow, ArrayShows, ShowsOption, RowShows, OrElse, word_at, tag_word, Shows, RowsShow, CaseShows, values_key, values_in, unless_null}
use Rattle.sentry_tables.specs.Meets.{AllCells, AllEntries, IsKept, IsOptional, RowMeets, Demand, proper_demand, readable_demand, entry_keys, Meets, RowsMeet, CaseMeets, AreOrderedTexts, AllLater, IsProper, IsReadable}
use Rattle.sentry_tables.specs.Lawful.{ScalarLaws, IsNormal, IsMoment, RuleLaws, IsLawful, RowsLawful, CasesLawful}
use Rattle.std.specs.Ordering.{match_ordering}
use Rattle.std.specs.Cmp.Lexicographic.{slice_cmp}
use Rattle.sentry_json.specs.Sound.{IsSound, AreSound, MembersAreSound, IsOrdered, AllAfter}
use Rattle.sentry_json.specs.Keys.{is_among, beside}
use Rattle.sentry_json.proofs.Beside.{all_after}
use Rattle.sentry_json.proofs.Sound.{sound_regular, sound_texts, sound_without_float}
use Rattle.sentry_tables.proofs.Proper.{proper}
use Rattle.sentry_tables.proofs.Members.{StandsApart-others, MayStand}

-- ---- parts of a sound tree are sound

abbrev pub SoundIf : Option Data → Type 0
SoundIf None = ⊤
SoundIf (Some d) = IsSound d

abbrev pub ItemsSoundIf : Option Items → Type 0
ItemsSoundIf None = ⊤
ItemsSoundIf (Some ds) = AreSound ds

chosen_sound : (o : Ordering) (a b : Option Data) → SoundIf a → SoundIf b → SoundIf (match_ordering o a b a)
chosen_sound Less a b h k = h
chosen_sound Equal a b h k = k
chosen_sound Greater a b h k = h

pub found_sound : (k : List ℕ) (ms : Members) → MembersAreSound ms → SoundIf (get_member k ms)
found_sound k no_members h = tt
found_sound k (member l d ms) h = chosen_sound (slice_cmp nat_cmp k l) (get_member k ms) (Some d) (found_sound k ms h.2) h.1

pub array_sound : (d : Data) → IsSound d → ItemsSoundIf (as_array d)
array_sound null h = tt
array_sound (boolean b) h = tt
array_sound (number n) h = tt
array_sound (string s) h = tt
array_sound (array ds) h = h
array_sound (object ms) h = tt

array_sound_if : (o : Option Data) → SoundIf o → ItemsSoundIf (option_and_then as_array o)
array_sound_if None h = tt
array_sound_if (Some d) h = array_sound d h

pub values_sound : (d : Data) → IsSound d → ItemsSoundIf (values_in d)
values_sound null h = tt
values_sound (boolean b) h = tt
values_sound (number n) h = tt
values_sound (string s) h = tt
values_sound (array ds) h = h
values_sound (object ms) h = array_sound_if (get_member values_key ms) (found_sound values_key ms h.1)

pub not_null_sound : (o : Option Data) → SoundIf o → SoundIf (unless_null o)
not_null_sound None h = tt
not_null_sound (Some null) h = tt
not_null_sound (Some (boolean b)) h = h
not_null_sound (Some (number n)) h = h
not_null_sound (Some (string s)) h = h
not_null_sound (Some (array ds)) h = h
not_null_sound (Some (object ms)) h = h

-- ---- one level of an object

pub object_holds : (P : Data → Type 0) (d : Data) (X : Type 0) → ((ms : Members) → d ≡ object ms → P (object ms) → X) → is_object d ≡ true → P d → X
object_holds P null X f e h = absurd (false≢true e)
object_holds P (boolean b) X f e h = absurd (false≢true e)
object_holds P (number n) X f e h = absurd (false≢true e)
object_holds P (string s) X f e h = absurd (false≢true e)
object_holds P (array ds) X f e h = absurd (false≢true e)
object_holds P (object ms) X f e h = f ms refl h

abbrev pub MembersSoundIf : Option Members → Type 0
MembersSoundIf None = ⊤
MembersSoundIf (Some ms) = IsOrdered ms × MembersAreSound ms

pub object_sound : (d : Data) → IsSound d → MembersSoundIf (as_object d)
object_sound null h = tt
object_sound (boolean b) h = tt
object_sound (number n) h = tt
object_sound (string s) h = tt
object_sound (array ds) h = tt
object_sound (object ms) h = h

abbrev pub member_keys : Members → List (List ℕ)
member_keys no_members = []
member_keys (member k d ms) = k ∷ member_keys ms

-- ---- what each part that is shown meets

module _ (P : Data → Cell → Type 0) (Q : Cell → Type 0) (point : (d : Data) (c : Cell) → IsSound d → P d c → Q c) where
  items_meet : (ds : Items) (cs : Cells) → AreSound ds → ItemsShow P ds cs → AllCells Q cs
  items_meet no_items no_cells s h = tt
  items_meet no_items (cell c cs) s h = absurd h
  items_meet (item d ds) no_cells s h = absurd h
  items_meet (item d ds) (cell c cs) s h = (point d c s.0 h.0, items_meet ds cs s.1 h.1)

  sequence_meets : (ds : Items) (c : Cell) → AreSound ds → IsSequence (ItemsShow P ds) c → IsSequence (AllCells Q) c
  sequence_meets ds (sequence cs) s h = items_meet ds cs s h
  sequence_meets ds _ s h = absurd h

  array_meets : (o : Option Items) (c : Cell) → ItemsSoundIf o → ArrayShows P o c → IsSequence (AllCells Q) c
  array_meets None c s h = absurd h
  array_meets (Some ds) c s h = sequence_meets ds c s h

  present_meets : (d : Data) (c : Cell) → IsSound d → IsPresent (P d) c → IsOptional Q c
  present_meets d (present c) s h = point d c s h
  present_meets d _ s h = absurd h

  option_meets : (o : Option Data) (c : Cell) → SoundIf o → ShowsOption P o c → IsOptional Q c
  option_meets None c s h = subst (IsOptional Q) (sym h) tt
  option_meets (Some d) c s h = present_meets d c s h

  else_meets : (Else : Cell → Type 0) → ((c : Cell) → Else c → Q c) → (o : Option Data) (c : Cell) → SoundIf o → OrElse Else P o c → Q c
  else_meets Else other None c s h = other c h
  else_meets Else other (Some d) c s h = point d c s h

module _ (P : List ℕ → Data → Cell → Type 0) (Q : Cell → Type 0) (point : (k : List ℕ) (d : Data) (c : Cell) → IsSound d → P k d c → Q c) where
  members_meet : (ms : Members) (es : Entries) → MembersAreSound ms → MembersShow P ms es → AllEntries Q es
  members_meet no_members no_entries s h = tt
  members_meet no_members (entry l c es) s h = absurd h
  members_meet (member k d ms) no_entries s h = absurd h
  members_meet (member k d ms) (entry l c es) s h = (point k d c s.1 h.1, members_meet ms es s.2 h.2)

  keys_shown : (ms : Members) (es : Entries) → MembersShow P ms es → member_keys ms ≡ entry_keys es
  keys_shown no_members no_entries h = refl
  keys_shown no_members (entry l c es) h = absurd h
  keys_shown (member k d ms) no_entries h = absurd h
  keys_shown (member k d ms) (entry l c es) h = ap₂ (λ (x : List ℕ) (xs : List (List ℕ)). x ∷ xs) h.0 (keys_shown ms es h.2)

  mapping_meets : (A : List (List ℕ) → Type 0) (ms : Members) (c : Cell) → A (member_keys ms) → MembersAreSound ms → IsMapping (MembersShow P ms) c → IsMapping (λ es. A (entry_keys es) × AllEntries Q es) c
  mapping_meets A ms (mapping es) a s h = (subst A (keys_shown ms es h) a, members_meet ms es s h)
  mapping_meets A ms _ a s h = absurd h

  object_meets : (A : List (List ℕ) → Type 0) → ((ms : Members) → IsOrdered ms → MembersAreSound ms → A (member_keys ms)) → (o : Option Members) (c : Cell) → MembersSoundIf o → ObjectShows P o c
      → IsMapping (λ es. A (entry_keys es) × AllEntries Q es) c
  object_meets A keys None c s h = absurd h
  object_meets A keys (Some ms) c s h = mapping_meets A ms c (keys ms s.0 s.1) s.1 h

pub fields_meet : (P Q : Cells → Members → Type 0) → ((cs : Cells) (other : Members) → P cs other → Q cs other) → (c : Cell) → AreFields P c → AreFields Q c
fields_meet P Q f (fields cs other) h = f cs other h
fields_meet P Q f _ h = absurd h

choice_meets : (P Q : ℕ → Cell → Type 0) → ((n : ℕ) (c : Cell) → P n c → Q n c) → (c : Cell) → IsChoice P c → IsChoice Q c
choice_meets P Q f (choice n c) h = f n c h
choice_meets P Q f _ h = absurd h

abbrev Missing : Rule → Cell → Cell → Type 0
Missing must now c = ⊥
Missing may now c = ⊥
Missing may_null now c = ⊥
Missing may_strict now c = ⊥
Missing (default D) now c = c ≡ D
Missing (always D) now c = c ≡ D
Missing (draw Drawn) now c = Drawn c
Missing at_once now c = c ≡ now

-- ---- what is left out of sound members leaves sound members

sound_if : (b : Bool) (k : List ℕ) (d : Data) (ms : Members) → IsUtf8 k → IsSound d → MembersAreSound ms → MembersAreSound (cond b ms (member k d ms))
sound_if true k d ms u s h = h
sound_if false k d ms u s h = (u, s, h)

rest_sound : (ks : List (List ℕ)) (ms : Members) → MembersAreSound ms → MembersAreSound (beside ks ms)
rest_sound ks no_members h = tt
rest_sound ks (member k d ms) h = sound_if (is_among k ks) k d (beside ks ms) h.0 h.1 (rest_sound ks ms h.2)

ordered_if : (b : Bool) (k : List ℕ) (d : Data) (ms : Members) → AllAfter k ms → IsOrdered ms → IsOrdered (cond b ms (member k d ms))
ordered_if true k d ms a h = h
ordered_if false k d ms a h = (a, h)

rest_ordered : (ks : List (List ℕ)) (ms : Members) → IsOrdered ms → IsOrdered (beside ks ms)
rest_ordered ks no_members h = tt
rest_ordered ks (member k d ms) h = ordered_if (is_among k ks) k d (beside ks ms) (all_after ks k ms h.0) (rest_ordered ks ms h.1)

later_keys : (k : List ℕ) (ms : Members) → AllAfter k ms → AllLater k (member_keys ms)
later_keys k no_members h = tt
later_keys k (member l d ms) h = (h.0, later_keys k ms h.1)

ordered_keys : (ms : Members) → IsOrdered ms → MembersAreSound ms → AreOrderedTexts (member_keys ms)
ordered_keys no_members h s = tt
ordered_keys (member k d ms) h s = (s.0, later_keys k ms h.0, ordered_keys ms h.1 s.2)

-- what is kept beside the rows of a sound tree may stand there
others_kept : (o : Other) (ks : List (List ℕ)) (ms : Members) → IsSound (object ms) → IsSound (object (others o ks ms))
others_kept ignored ks ms h = (tt, tt)
others_kept (kept reserved) ks ms h = (rest_ordered (reserved ++ ks) ms h.0, rest_sound (reserved ++ ks) ms h.1)

others_fit : (o : Other) (ks : List (List ℕ)) (ms : Members) → IsSound (object (others o ks ms)) → IsKept o (others o ks ms)
others_fit ignored ks ms h = refl
others_fit (kept reserved) ks ms h = (sound_regular (object (beside (reserved ++ ks) ms)) h, sound_texts (object (beside (reserved ++ ks) ms)) h)

others_stand : (o : Other) (ks : List (List ℕ)) (ms : Members) → IsSound (object ms) → MayStand o ks (others o ks ms)
others_stand o ks ms h = let good = others_kept o ks ms h in (others_fit o ks ms good, StandsApart-others o ks ms, sound_without_float (object (others o ks ms)) good)

-- ---- what is shown

-- what a demand asks, so that all that is shown meets it
record IsMetByShown (G : Demand) : Type 1 where
  -- of each scalar that is lawful
  scalar : (s : Scalar) → ScalarLaws s → (d : Data) (c : Cell) → IsSound d → s.shows d c → G.scalar s c
  -- of keys in order, of members that may stand beside rows, of normal values
  keys : (ks : List (List ℕ)) → AreOrderedTexts ks → G.keys ks
  other : (o : Other) (ks : List (List ℕ)) (ms : Members) → MayStand o ks ms → G.other o ks ms
  normal : (K : Kind) (c : Cell) → IsNormal K c → Meets G K c

module _ (G : Demand) (own : IsMetByShown G) (now : Cell) (real : IsMoment now) where
  -- what stands for what is missing
  missing_meets : (r : Rule) (K : Kind) → RuleLaws r K → (c : Cell) → Missing r now c → Meets G K c
  missing_meets must K laws c h = absurd h
  missing_meets may K laws c h = absurd h
  missing_meets may_null K laws c h = absurd h
  missing_meets may_strict K laws c h = absurd h
  missing_meets (default D) K laws c h = subst (Meets G K) (sym h) (own.normal K D laws.1)
  missing_meets (always D) K laws c h = subst (Meets G K) (sym h) (own.normal K D laws.1)
  missing_meets (draw Drawn) K laws c h = own.normal K c (laws.1 c h)
  missing_meets at_once K laws c h = subst (Meets G K) (sym h) (own.normal K now (laws.1 now real))

  row_meets : (r : Rule) (K : Kind) → RuleLaws r K → ((d : Data) (c : Cell) → IsSound d → Shows K now d c → Meets G K c) → (o : Option Data) (c : Cell) → SoundIf o → RowShows r (Shows K now) now o c → RowMeets r (Meets G K) c
  row_meets must K laws point o c s h = else_meets (Shows K now) (Meets G K) point (λ x. ⊥) (λ x e. absurd e) o c s h
  row_meets may K laws point o c s h = option_meets (Shows K now) (Meets G K) point _ c (not_null_sound o s) h
  row_meets may_null K laws point o c s h = option_meets (Shows K now) (Meets G K) point _ c (not_null_sound o s) h
  row_meets may_strict K laws point o c s h = option_meets (Shows K now) (Meets G K) point o c s h
  row_meets (default D) K laws point o c s h = else_meets (Shows K now) (Meets G K) point (λ x. x ≡ D) (missing_meets (default D) K laws) o c s h
  row_meets (always D) K laws point o c s h = else_meets (Shows K now) (Meets G K) point (λ x. x ≡ D) (missing_meets (always D) K laws) o c s h
  row_meets (draw Drawn) K laws point o c s h = else_meets (Shows K now) (Meets G K) point Drawn (missing_meets (draw Drawn) K laws) o c s h
  row_meets at_once K laws point o c s h = else_meets (Shows K now) (Meets G K) point (λ x. x ≡ now) (missing_meets at_once K laws) o c s h

  keys_meet : (ms : Members) → IsOrdered ms → MembersAreSound ms → G.keys (member_keys ms)
  keys_meet ms order sound = own.keys (member_keys ms) (ordered_keys ms order sound)

  others_meet : (o : Other) (ks : List (List ℕ)) (ms other : Members) → IsSound (object ms) → other ≡ others o ks ms → G.other o ks other
  others_meet o ks ms other sound is = subst (G.other o ks) (sym is) (own.other o ks (others o ks ms) (others_stand o ks ms sound))

  mutual
    shown_meets : (K : Kind) → IsLawful K → (d : Data) (c : Cell) → IsSound d → Shows K now d c → Meets G K c
    shown_meets (scalar s) laws d c sound h = own.scalar s laws d c sound h
    shown_meets (list K) laws d c sound h = array_meets (Shows K now) (Meets G K) (shown_meets K laws) (as_array d) c (array_sound d sound) h
    shown_meets (map K) laws d c sound h = object_meets (λ k. Shows K now) (Meets G K) (λ k. shown_meets K laws) G.keys keys_meet (as_object d) c (object_sound d sound) h
    shown_meets (values K) laws d c sound h = array_meets (Shows K now) (Meets G K) (shown_meets K laws) (values_in d) c (values_sound d sound) h
    shown_meets (table rows o) laws d c sound h =
        object_holds (λ e. AreFields (λ cs other. RowsShow rows now e cs × (other ≡ others o (keys rows) (members_in e))) c) d (Meets G (table rows o) c)
        (λ ms is shown. let good = subst IsSound is sound in fields_meet _ _ (λ cs other both. (rows_meet rows laws ms cs good.1 both.0, others_meet o (keys rows) ms other good both.1)) c shown) h.0 h.1
    shown_meets (tagged cases) laws d c sound h =
        object_holds (λ e. IsChoice (CaseShows cases now (tag_word None e) e) c) d (Meets G (tagged cases) c)
        (λ ms is shown. choice_meets _ _ (λ n x. case_meets cases laws (tag_word None (object ms)) ms n x (subst IsSound is sound)) c shown) h.0 h.1
    shown_meets (tagged_map cases fallback) laws d c sound h =
        object_meets (λ k e x. (is_object e ≡ true) × IsChoice (CaseShows cases now (tag_word (Some (word_at k (words cases) fallback)) e) e) x) (IsChoice (CaseMeets G cases))
        (λ k e x whole one. object_holds (λ f. IsChoice (CaseShows cases now (tag_word (Some (word_at k (words cases) fallback)) f) f) x) e (IsChoice (CaseMeets G cases) x)
        (λ ms same each. choice_meets _ _ (λ n y. case_meets cases laws (tag_word (Some (word_at k (words cases) fallback)) (object ms)) ms n y (subst IsSound same whole)) x each) one.0 one.1)
        G.keys keys_meet (as_object d) c (object_sound d sound) h

    rows_meet : (rows : Rows) → RowsLawful rows → (ms : Members) (cs : Cells) → MembersAreSound ms → RowsShow rows now (object ms) cs → RowsMeet G rows cs
    rows_meet no_rows laws ms no_cells sound h = tt
    rows_meet no_rows laws ms (cell c cs) sound h = absurd h
    rows_meet (row k r K rows) laws ms no_cells sound h = absurd h
    rows_meet (row k r K rows) laws ms (cell c cs) sound h = (row_meets r K laws.1 (shown_meets K laws.2) (get_member k ms) c (found_sound k ms sound) h.0, rows_meet rows laws.3 ms cs sound h.1)

    case_meets : (cases : Cases) → CasesLawful cases → (word : Option (List ℕ)) (ms : Members) (n : ℕ) (c : Cell) → IsSound (object ms) → CaseShows cases now word (object ms) n c → CaseMeets G cases n c
    case_meets no_cases laws word ms n c sound h = absurd h
    case_meets (case w rows o cases) laws word ms zero c sound h =
        fields_meet _ _ (λ cs other both. (rows_meet rows laws.3 ms cs sound.1 both.0, others_meet o (keys rows) ms other sound both.1)) c h.1
    case_meets (case w rows o cases) laws word ms (suc n) c sound h = case_meets cases laws.4 word ms n c sound h

-- ---- stored and plain, and readable

proper_is_met : IsMetByShown proper_demand
proper_is_met = record {
  scalar = λ s laws d c sound h. (laws.shown_stored d c sound h, laws.shown_plain d c sound h);
  keys = λ ks h. h;
  other = λ o ks ms h. h;
  normal = λ K c h. proper K c h.0 h.1;
}

readable_is_met : IsMetByShown readable_demand
readable_is_met = record { scalar = λ s laws. laws.shown_readable; keys = λ ks h. tt; other = λ o ks ms h. tt; normal = λ K c h. h.2 }

module _ (now : Cell) (real : IsMoment now) where
  pub row_met : (r : Rule) (K : Kind) → RuleLaws r K → ((d : Data) (c : Cell) → IsSound d → Shows K now d c → IsProper K c) → (o : Option Data) (c : Cell) → SoundIf o → RowShows r (Shows K now) now o c
      → RowMeets r (IsProper K) c
  row_met = row_meets proper_demand proper_is_met now real

  pub shown_proper : (K : Kind) → IsLawful K → (d : Data) (c : Cell) → IsSound d → Shows K now d c → IsProper K c
  shown_proper = shown_meets proper_demand proper_is_met now real

  pub shown_readable : (K : Kind) → IsLawful K → (d : Data) (c : Cell) → IsSound d → Shows K now d c → IsReadable K c
  shown_readable = shown_meets readable_demand readable_is_met now real
