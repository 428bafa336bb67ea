-- Values that were written while they were read.
use Rattle.std.proofs.Common.{◌≡◌, ◌+◌, ℕ, zero, suc, arith, subst, ◌∙◌, None, List, [], ◌∷◌, Some, Ok, Err, Result, refl, ap, sym, nat_cmp, Ordering, Less, Equal, Greater}
use Rattle.std.specs.Borrow.{Bor}
use Rattle.std.specs.Cmp.Lexicographic.{slice_cmp}
use Rattle.std.specs.BTreeMap.{insert_entry}
use Rattle.std.specs.Ordering.{match_ordering}
use Rattle.json.specs.Token.{Token}
use Rattle.json.specs.Written.{Written, Writes}
use Rattle.serde_json.specs.Data.{Data, array, object, Items, no_items, item, Members, no_members, member, put}
use Rattle.serde_json.specs.Find.{as_array, as_object, as_str}
use Rattle.sentry_tables.specs.Cell.{Cell, text, sequence, mapping, Cells, no_cells, cell, Entries, no_entries, entry}
use Rattle.sentry_tables.specs.Kind.{Kind, list, map}
use Rattle.sentry_tables.specs.Kinds.{text_kind}
use Rattle.sentry_tables.specs.Shows.{Shows, ItemsShow, MembersShow, OrElse}
use Rattle.std.proofs.lemmas.Option.{none-some, same_Some}
use Rattle.sentry_json.specs.Line.{tree_of}
use Rattle.sentry_json.specs.Lists.{VisitsAll, VisitsLine, list_at}
use Rattle.sentry_json.specs.Nodes.{items_data}
use Rattle.sentry_tables.proofs.Listed.{one_member}
use Rattle.sentry_tables.specs.Written.{items_tree}
use Rattle.sentry_tables.specs.Passed.{count, ListPassed, Passes, PassesAt, PassesText, PassesTextAt, TextPassed, TextPassedAt, Passed, PassedAt, ItemsPassed, ItemsRefused, ItemsPassedAt, ItemsRefusedAt, MembersPassed, MembersRefused, members_held}
use Rattle.sentry_tables.specs.Reading.{Only, Shown, Refused, ShownAt, RefusedAt, TextShown, TextRefused, TextShownAt, TextRefusedAt}
use Rattle.sentry_tables.specs.Writes.{written, WritesTree, WritesItems}
use Rattle.sentry_tables.specs.Continued.{no_members_wrote}
use Rattle.sentry_tables.specs.declared.error.TreeError.{TreeError}
use Rattle.sentry_tables.specs.declared.error.TreeError.TheVariants.{Misfit, Memory}
use Rattle.sentry_tables.proofs.ListsShown.{mapping_refused, sequence_refused}
use Rattle.sentry_tables.proofs.ScalarsShown.{text_shown}
use Rattle.sentry_tables.proofs.Tokens.{no_items_wrote, items_wrote, members_wrote, array_wrote, object_wrote, text_wrote}

-- ---- a value

pub value_passed : (K : Kind) (d : Data) (c : Cell) (old new : Written) → Shown K d c → WritesTree (written K c) old new → Passed K d old new
unfolding Passed
value_passed K d c old new shown wrote = (c, shown, wrote)

pub value_passed_at : (now : Cell) (K : Kind) (d : Data) (c : Cell) (old new : Written) → ShownAt now K d c → WritesTree (written K c) old new → PassedAt now K d old new
unfolding PassedAt
value_passed_at now K d c old new shown wrote = (c, shown, wrote)

pub text_passed : {E : Type 0} (s : List ℕ) (d : Data) (old new : Written) → as_str d ≡ Some s → Writes {E = E} (Ok tt) old new (Token.string s) → Passed text_kind d old new
text_passed s d old new is wrote = value_passed text_kind d (text s) old new (text_shown s d is) (text_wrote s (Ok tt) old new wrote)

-- ---- refusals

-- a misfit that comes only with P comes only with what follows of P
pub only_through : (x : TreeError) (P Q : Type 0) → (P → Q) → Only x P → Only x Q
only_through Misfit P Q f p = f p
only_through Memory P Q f p = tt

-- ---- items

pub no_items_passed : (K : Kind) (a : Written) → ItemsPassed K no_items a a
unfolding ItemsPassed
no_items_passed K a = (no_cells, λ now. tt, no_items_wrote a)

pub items_passed : (K : Kind) (d : Data) (ds : Items) (a b c : Written) → Passed K d a b → ItemsPassed K ds b c → ItemsPassed K (item d ds) a c
unfolding Passed ItemsPassed Shown
items_passed K d ds a b c x y = (cell x.0 y.0, λ now. (x.1 now, y.1 now), items_wrote _ _ a b c x.2 y.2)

pub item_refused : (K : Kind) (d : Data) (ds : Items) → Refused K d → ItemsRefused K (item d ds)
unfolding Refused ItemsRefused
item_refused K d ds refused now no_cells h = h
item_refused K d ds refused now (cell c cs) h = refused now c h.0

pub items_refused : (K : Kind) (d : Data) (ds : Items) → ItemsRefused K ds → ItemsRefused K (item d ds)
unfolding ItemsRefused
items_refused K d ds refused now no_cells h = h
items_refused K d ds refused now (cell c cs) h = refused now cs h.1

-- the same at a moment

pub no_items_passed_at : (now : Cell) (K : Kind) (a : Written) → ItemsPassedAt now K no_items a a
unfolding ItemsPassedAt
no_items_passed_at now K a = (no_cells, tt, no_items_wrote a)

pub items_passed_at : (now : Cell) (K : Kind) (d : Data) (ds : Items) (a b c : Written) → PassedAt now K d a b → ItemsPassedAt now K ds b c → ItemsPassedAt now K (item d ds) a c
unfolding PassedAt ItemsPassedAt ShownAt
items_passed_at now K d ds a b c x y = (cell x.0 y.0, (x.1, y.1), items_wrote _ _ a b c x.2 y.2)

pub item_refused_at : (now : Cell) (K : Kind) (d : Data) (ds : Items) → RefusedAt now K d → ItemsRefusedAt now K (item d ds)
unfolding RefusedAt ItemsRefusedAt
item_refused_at now K d ds refused no_cells h = h
item_refused_at now K d ds refused (cell c cs) h = refused c h.0

pub items_refused_at : (now : Cell) (K : Kind) (d : Data) (ds : Items) → ItemsRefusedAt now K ds → ItemsRefusedAt now K (item d ds)
unfolding ItemsRefusedAt
items_refused_at now K d ds refused no_cells h = h
items_refused_at now K d ds refused (cell c cs) h = refused cs h.1

-- a list at every moment

pub list_passed : {E F : Type 0} (K : Kind) (d : Data) (ds : Items) (a b c e : Written) → as_array d ≡ Some ds → Writes {E = E} (Ok tt) a b Token.begin_array → ItemsPassed K ds b c → Writes {E = F} (Ok tt) c e Token.end_array → Passed (list K) d a e
unfolding Passed ItemsPassed Shown written
list_passed K d ds a b c e is begun passed ended = (sequence passed.0, λ now. rw is (passed.1 now), array_wrote _ (Ok tt) a b c e begun passed.2 ended)

pub list_refused : (K : Kind) (d : Data) (ds : Items) (x : TreeError) → as_array d ≡ Some ds → Only x (ItemsRefused K ds) → Only x (Refused (list K) d)
unfolding Refused ItemsRefused
list_refused K d ds Misfit is refused = λ now c h. sequence_refused _ c (λ cs. refused now cs) (rw is at h)
list_refused K d ds Memory is refused = tt

-- ---- members

pub no_members_passed : (K : Kind) (a : Written) → MembersPassed K no_members a a
unfolding MembersPassed
no_members_passed K a = (no_entries, λ now. tt, no_members_wrote a)

pub members_passed : {E : Type 0} (K : Kind) (k : List ℕ) (d : Data) (ms : Members) (a b c e : Written) → Writes {E = E} (Ok tt) a b (Token.key k) → Passed K d b c → MembersPassed K ms c e → MembersPassed K (member k d ms) a e
unfolding Passed MembersPassed Shown
members_passed K k d ms a b c e keyed x y = (entry k x.0 y.0, λ now. (refl, x.1 now, y.1 now), members_wrote k k _ _ a b c e refl keyed x.2 y.2)

pub member_refused : (K : Kind) (k : List ℕ) (d : Data) (ms : Members) → Refused K d → MembersRefused K (member k d ms)
unfolding Refused MembersRefused
member_refused K k d ms refused now no_entries h = h
member_refused K k d ms refused now (entry l c es) h = refused now c h.1

pub members_refused : (K : Kind) (k : List ℕ) (d : Data) (ms : Members) → MembersRefused K ms → MembersRefused K (member k d ms)
unfolding MembersRefused
members_refused K k d ms refused now no_entries h = h
members_refused K k d ms refused now (entry l c es) h = refused now es h.2

pub map_passed : {E F : Type 0} (K : Kind) (d : Data) (ms : Members) (a b c e : Written) → as_object d ≡ Some ms → Writes {E = E} (Ok tt) a b Token.begin_object → MembersPassed K ms b c → Writes {E = F} (Ok tt) c e Token.end_object → Passed (map K) d a e
unfolding Passed MembersPassed Shown written
map_passed K d ms a b c e is begun passed ended = (mapping passed.0, λ now. rw is (passed.1 now), object_wrote _ (Ok tt) a b c e begun passed.2 ended)

pub map_refused : (K : Kind) (d : Data) (ms : Members) (x : TreeError) → as_object d ≡ Some ms → Only x (MembersRefused K ms) → Only x (Refused (map K) d)
unfolding Refused MembersRefused
map_refused K d ms Misfit is refused = λ now c h. mapping_refused _ c (λ es. refused now es) (rw is at h)
map_refused K d ms Memory is refused = tt

-- ---- nodes by key

abbrev text_cmp : Bor (List ℕ) → Bor (List ℕ) → Ordering
text_cmp k l = slice_cmp nat_cmp k.now l.now

module _ {N : Type 0} (w : N → Data) where
  pub held_put : (es : List (Bor (List ℕ) × Bor N)) (k : Bor (List ℕ)) (n : Bor N) → members_held w (insert_entry text_cmp es k n) ≡ put k.now (w n.now) (members_held w es)
  held_put [] k n = refl
  held_put (e ∷ es) k n = at (text_cmp k e.0) (held_put es k n)
    where
      at : (o : Ordering) → members_held w (insert_entry text_cmp es k n) ≡ put k.now (w n.now) (members_held w es)
          → members_held w (match_ordering o ((k, n) ∷ e ∷ es) ((e.0, n) ∷ es) (e ∷ insert_entry text_cmp es k n))
          ≡ match_ordering o (member k.now (w n.now) (member e.0.now (w e.1.now) (members_held w es))) (member e.0.now (w n.now) (members_held w es)) (member e.0.now (w e.1.now) (put k.now (w n.now) (members_held w es)))
      at Less more = refl
      at Equal more = refl
      at Greater more = ap (member e.0.now (w e.1.now)) more

-- ---- lines

pub line_passed : (K : Kind) (line : List ℕ) (d : Data) (r : Result (Unit {0}) TreeError) (old new : Written) → tree_of line ≡ Some d → Passes K d r old new → PassesText K line r old new
unfolding Passed TextPassed TextShown TextRefused Shown Refused
line_passed K line d (Ok u) old new is x = (x.0, (λ now. (d, is, x.1 now)), x.2)
line_passed K line d (Err Misfit) old new is refused = λ now c s. refused now c (subst (λ e. Shows K now e c) (same_Some s.0 d (sym s.1 ∙ is)) s.2)
line_passed K line d (Err Memory) old new is refused = tt

pub line_unread : (K : Kind) (line : List ℕ) (e : TreeError) → Only e (tree_of line ≡ None) → Only e (TextRefused K line)
unfolding TextRefused
line_unread K line Misfit none = λ now c s. absurd (none-some s.0 (sym none ∙ s.1))
line_unread K line Memory none = tt

-- the same at a moment

pub line_passed_at : (now : Cell) (K : Kind) (line : List ℕ) (d : Data) (r : Result (Unit {0}) TreeError) (old new : Written) → tree_of line ≡ Some d → PassesAt now K d r old new → PassesTextAt now K line r old new
unfolding PassedAt TextPassedAt TextShownAt TextRefusedAt ShownAt RefusedAt
line_passed_at now K line d (Ok u) old new is x = (x.0, (d, is, x.1), x.2)
line_passed_at now K line d (Err Misfit) old new is refused = λ c s. refused c (subst (λ e. Shows K now e c) (same_Some s.0 d (sym s.1 ∙ is)) s.2)
line_passed_at now K line d (Err Memory) old new is refused = tt

pub line_unread_at : (now : Cell) (K : Kind) (line : List ℕ) (e : TreeError) → Only e (tree_of line ≡ None) → Only e (TextRefusedAt now K line)
unfolding TextRefusedAt
line_unread_at now K line Misfit none = λ c s. absurd (none-some s.0 (sym none ∙ s.1))
line_unread_at now K line Memory none = tt

pub text_passed_at : (now : Cell) (K : Kind) (line : List ℕ) (r : Result (Unit {0}) TreeError) (old new : Written) → PassesText K line r old new → PassesTextAt now K line r old new
unfolding TextPassed TextPassedAt TextShown TextShownAt TextRefused TextRefusedAt
text_passed_at now K line (Ok u) old new x = (x.0, x.1 now, x.2)
text_passed_at now K line (Err Misfit) old new refused = λ c s. refused now c s
text_passed_at now K line (Err Memory) old new refused = tt

-- values that were written one by one, each of which its item shows
visited : {S M : Type 0} (counted : S → ℕ) (name : S → M) (at : S → Written) (K : Kind) (first : S) (items : List Data) (last : S)
    → VisitsAll (λ before d after. (counted after ≡ counted before + 1) × (name after ≡ name before) × Passed K d (at before) (at after)) first items last
    → (cs : Cells) × (counted last ≡ counted first + count cs) × (name last ≡ name first) × ((now : Cell) → ItemsShow (Shows K now) (items_data (λ d. d) items) cs) × WritesItems (items_tree (written K) cs) (at first) (at last)
unfolding Passed Shown
visited counted name at K first [] last is = (no_cells, omega (arith, ap counted is), ap name (sym is), (λ now. tt), subst (λ s. WritesItems (items_tree (written K) no_cells) (at first) (at s)) is (no_items_wrote (at first)))
visited counted name at K first (d ∷ ds) last (next, (one, named, passed), more) =
    let rest = visited counted name at K next ds last more in
    (cell passed.0 rest.0, omega (arith, one, rest.1), rest.2 ∙ named, (λ now. (passed.1 now, rest.3 now)), items_wrote (written K passed.0) (items_tree (written K) rest.0) (at first) (at next) (at last) passed.2 rest.4)

pub list_line_passed : {S M : Type 0} (counted : S → ℕ) (name : S → M) (at : S → Written) (K : Kind) (key line : List ℕ) (first last : S) → counted first ≡ zero
    → VisitsLine (λ before d after. (counted after ≡ counted before + 1) × (name after ≡ name before) × Passed K d (at before) (at after)) key line first last → (name last ≡ name first) × ListPassed K key line (counted last) (at first) (at last)
unfolding ListPassed TextShown
list_line_passed counted name at K key line first last none (items, is, taken) =
    let all = visited counted name at K first items last taken in (
      all.2,
      (
        all.0,
        omega (arith, all.1, none),
        (λ now. (list_at key items, is, (refl, ((subst (λ found. OrElse (λ x. ⊥) (Shows (list K) now) found (sequence all.0)) (sym (one_member key (array (items_data (λ d. d) items)))) (all.3 now), tt), refl)))),
        all.4,
      ),
    )
