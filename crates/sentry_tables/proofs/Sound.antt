-- The written tree of a stored and plain value is sound, so its text is read as that tree.
use Rattle.std.proofs.Common.{◌≡◌, ℕ, zero, suc, List, [], ◌∷◌, Bool, true, false, cond, ◌&&◌, nat_lt, Option, Some, None, Ordering, Less, Equal, Greater, nat_cmp, IsUtf8, refl, sym, ap, ◌∙◌, subst}
use Rattle.std.specs.Prelude.{⊤}
use Rattle.std.specs.Ordering.{match_ordering}
use Rattle.std.specs.Cmp.Lexicographic.{slice_cmp}
use Rattle.json.proofs.Printed.Utf8.{are_ascii, IsUtf8-are_ascii}
use Rattle.serde_json.specs.Data.{Data, string, object, Members, no_members, member, put}
use Rattle.sentry_json.specs.Sound.{IsSound, AreSound, MembersAreSound, IsOrdered, AllAfter}
use Rattle.sentry_tables.specs.Cell.{Cell, absent, present, sequence, mapping, fields, choice, Cells, no_cells, cell, Entries, no_entries, entry}
use Rattle.sentry_tables.specs.Kind.{Rule, must, may, may_null, may_strict, default, always, draw, at_once, Other, ignored, kept, Kind, scalar, list, map, values, table, tagged, tagged_map, Rows, no_rows, row, Cases, no_cases, case, keys, tag}
use Rattle.sentry_tables.specs.Shows.{IsSequence, IsMapping, IsChoice, values_key}
use Rattle.sentry_tables.specs.Norm.{cells_of, entries_of, which, chosen, norm}
use Rattle.sentry_tables.specs.Written.{items_tree, members_tree, row_tree, put_given, tree, rows_tree, case_tree}
use Rattle.sentry_tables.specs.Meets.{AllCells, AllEntries, RowMeets, proper_demand, entry_keys, RowsMeet, CaseMeets, IsProper, AreOrderedTexts, AllLater}
use Rattle.sentry_tables.specs.Lawful.{is_ascii, IsLawful, RowsLawful, CasesLawful}
use Rattle.sentry_json.proofs.Regular.{put_ordered}
use Rattle.sentry_json.proofs.Sound.{regular_sound}
use Rattle.sentry_tables.proofs.Members.{MayStand}

-- ---- a put keeps members sound

same_ascii : (s : List ℕ) → is_ascii s ≡ are_ascii s
same_ascii [] = refl
same_ascii (x ∷ xs) = ap (λ b. nat_lt x 128 && b) (same_ascii xs)

pub ascii_text : (s : List ℕ) → is_ascii s ≡ true → IsUtf8 s
ascii_text s e = IsUtf8-are_ascii s (sym (same_ascii s) ∙ e)

put_sound_at : (o : Ordering) (k l : List ℕ) (d e : Data) (ms : Members) → IsUtf8 k → IsSound d → MembersAreSound (member l e ms) → MembersAreSound (put k d ms)
    → MembersAreSound (match_ordering o (member k d (member l e ms)) (member l d ms) (member l e (put k d ms)))
put_sound_at Less k l d e ms u s h more = (u, s, h)
put_sound_at Equal k l d e ms u s h more = (h.0, s, h.2)
put_sound_at Greater k l d e ms u s h more = (h.0, h.1, more)

put_sound : (k : List ℕ) (d : Data) (ms : Members) → IsUtf8 k → IsSound d → MembersAreSound ms → MembersAreSound (put k d ms)
put_sound k d no_members u s h = (u, s, tt)
put_sound k d (member l e ms) u s h = put_sound_at (slice_cmp nat_cmp k l) k l d e ms u s h (put_sound k d ms u s h.2)

-- ---- one level

module _ (f : Cell → Data) (Q : Cell → Type 0) (point : (c : Cell) → Q c → IsSound (f c)) where
  items_sound : (cs : Cells) → AllCells Q cs → AreSound (items_tree f cs)
  items_sound no_cells q = tt
  items_sound (cell c cs) q = (point c q.0, items_sound cs q.1)

  sequence_sound : (c : Cell) → IsSequence (AllCells Q) c → AreSound (items_tree f (cells_of c))
  sequence_sound (sequence cs) q = items_sound cs q
  sequence_sound _ q = absurd q

  members_after : (k : List ℕ) (es : Entries) → AllLater k (entry_keys es) → AllAfter k (members_tree f es)
  members_after k no_entries h = tt
  members_after k (entry l c es) h = (h.0, members_after k es h.1)

  members_ordered : (es : Entries) → AreOrderedTexts (entry_keys es) → IsOrdered (members_tree f es)
  members_ordered no_entries h = tt
  members_ordered (entry k c es) h = (members_after k es h.1, members_ordered es h.2)

  members_sound : (es : Entries) → AreOrderedTexts (entry_keys es) → AllEntries Q es → MembersAreSound (members_tree f es)
  members_sound no_entries h q = tt
  members_sound (entry k c es) h q = (h.0, point c q.0, members_sound es h.2 q.1)

  mapping_sound : (c : Cell) → IsMapping (λ es. AreOrderedTexts (entry_keys es) × AllEntries Q es) c → IsSound (object (members_tree f (entries_of c)))
  mapping_sound (mapping es) h = (members_ordered es h.0, members_sound es h.0 h.1)
  mapping_sound _ h = absurd h

  abbrev GivenSound : Option Data → Type 0
  GivenSound None = ⊤
  GivenSound (Some d) = IsSound d

  default_sound : (b : Bool) (c : Cell) → Q c → GivenSound (cond b None (Some (f c)))
  default_sound true c q = tt
  default_sound false c q = point c q

  row_sound : (r : Rule) (g : Cell → Cell) (c : Cell) → RowMeets r Q c → GivenSound (row_tree r f g c)
  row_sound must g c q = point c q
  row_sound may g absent q = tt
  row_sound may g (present c) q = point c q
  row_sound may g _ q = absurd q
  row_sound may_null g absent q = tt
  row_sound may_null g (present c) q = point c q
  row_sound may_null g _ q = absurd q
  row_sound may_strict g absent q = tt
  row_sound may_strict g (present c) q = point c q
  row_sound may_strict g _ q = absurd q
  row_sound (default D) g c q = default_sound _ c q
  row_sound (always D) g c q = point c q
  row_sound (draw Drawn) g c q = point c q
  row_sound at_once g c q = point c q

  given_sound : (k : List ℕ) (o : Option Data) (ms : Members) → IsUtf8 k → GivenSound o → IsOrdered ms × MembersAreSound ms → IsOrdered (put_given k o ms) × MembersAreSound (put_given k o ms)
  given_sound k None ms u s h = h
  given_sound k (Some d) ms u s h = (put_ordered k d ms h.0, put_sound k d ms u s h.1)

choice_sound : (cases : Cases) → ((n : ℕ) (c : Cell) → CaseMeets proper_demand cases n c → IsSound (object (case_tree cases n c))) → (x : Cell) → IsChoice (CaseMeets proper_demand cases) x
    → IsSound (object (case_tree cases (which x) (chosen x)))
choice_sound cases point (choice n c) h = point n c h
choice_sound cases point _ h = absurd h

values_utf8 : IsUtf8 values_key
values_utf8 = ascii_text values_key refl

tag_utf8 : IsUtf8 tag
tag_utf8 = ascii_text tag refl

stands_sound : (o : Other) (ks : List (List ℕ)) (ms : Members) → MayStand o ks ms → IsSound (object ms)
stands_sound ignored ks ms h = subst (λ x. IsSound (object x)) (sym h.0) (tt, tt)
stands_sound (kept reserved) ks ms h = regular_sound (object ms) h.0.0 h.2 h.0.1

mutual
  pub sound_tree : (K : Kind) → IsLawful K → (c : Cell) → IsProper K c → IsSound (tree K c)
  sound_tree (scalar s) laws c h = laws.sound c h
  sound_tree (list K) laws c h = sequence_sound (tree K) (IsProper K) (sound_tree K laws) c h
  sound_tree (map K) laws c h = mapping_sound (tree K) (IsProper K) (sound_tree K laws) c h
  sound_tree (values K) laws c h = ((tt, tt), (values_utf8, sequence_sound (tree K) (IsProper K) (sound_tree K laws) c h, tt))
  sound_tree (table rows o) laws (fields cs other) h = rows_sound rows laws cs other h.0 (stands_sound o (keys rows) other h.1)
  sound_tree (table rows o) laws _ h = absurd h
  sound_tree (tagged cases) laws c h = choice_sound cases (case_sound cases laws) c h
  sound_tree (tagged_map cases fallback) laws c h =
      mapping_sound (λ x. object (case_tree cases (which x) (chosen x))) (IsChoice (CaseMeets proper_demand cases)) (choice_sound cases (case_sound cases laws)) c h

  rows_sound : (rows : Rows) → RowsLawful rows → (cs : Cells) (ms : Members) → RowsMeet proper_demand rows cs → IsOrdered ms × MembersAreSound ms → IsOrdered (rows_tree rows cs ms) × MembersAreSound (rows_tree rows cs ms)
  rows_sound no_rows laws cs ms h good = good
  rows_sound (row k r K rows) laws no_cells ms h good = good
  rows_sound (row k r K rows) laws (cell c cs) ms h good =
      let o = row_tree r (tree K) (norm K) c in
      rows_sound rows laws.3 cs (put_given k o ms) h.1
      (given_sound (tree K) (IsProper K) (sound_tree K laws.2) k o ms (ascii_text k laws.4) (row_sound (tree K) (IsProper K) (sound_tree K laws.2) r (norm K) c h.0) good)

  case_sound : (cases : Cases) → CasesLawful cases → (n : ℕ) (c : Cell) → CaseMeets proper_demand cases n c → IsSound (object (case_tree cases n c))
  case_sound no_cases laws n c h = absurd h
  case_sound (case w rows o cases) laws zero (fields cs other) h =
      let good = stands_sound o (keys rows) other h.1 in
      rows_sound rows laws.3 cs (put tag (string w) other) h.0 (put_ordered tag (string w) other good.0, put_sound tag (string w) other tag_utf8 (ascii_text w laws.5) good.1)
  case_sound (case w rows o cases) laws zero _ h = absurd h
  case_sound (case w rows o cases) laws (suc n) c h = case_sound cases laws.4 n c h
