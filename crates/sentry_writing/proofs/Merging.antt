-- Members handed on in their place among those that a table gives.
use Rattle.std.proofs.Common.{Option, Some, None, Bor, ◌≡◌, ℕ, List, true, Ordering, Less, Equal, Greater, nat_cmp, refl, sym, ap, subst, ◌∙◌}
use Rattle.std.proofs.lemmas.Cmp.{nat_list_cmp_total}
use Rattle.std.proofs.lemmas.Map.Text.{is_eq-slice_cmp}
use Rattle.std.proofs.lemmas.Slice.Eq.{bytes_eq-Decides}
use Rattle.std.specs.Ordering.{is_eq, ordering_reverse}
use Rattle.std.specs.Cmp.Lexicographic.{slice_cmp}
use Rattle.serde_json.specs.Data.{Data, Members, no_members, member, put}
use Rattle.serde_json.specs.View.{view}
use Rattle.serde_json.specs.declared.value.Value.{Value}
use Rattle.sentry_json.proofs.Puts.{less, put_over, put_commutes}
use Rattle.sentry_json.proofs.Regular.{all_above, put_ordered}
use Rattle.sentry_json.specs.Sound.{AllAfter, IsOrdered}
use Rattle.sentry_tables.specs.Cell.{Cells}
use Rattle.sentry_tables.specs.Kind.{Rows, keys}
use Rattle.sentry_tables.specs.Written.{put_all, rows_given, in_order}
use Rattle.sentry_tables.proofs.Given.{put_all_later, put_all_ordered, rows_given_ordered}
use Rattle.sentry_tables.specs.Cells.{tree_cell}
use Rattle.sentry_tables.specs.Kinds.{any_kind}
use Rattle.sentry_tables.specs.Writes.{written}
use Rattle.sentry_writing.specs.Given.{both}
use Rattle.sentry_writing.specs.Sinks.{tag_left}
use Rattle.sentry_writing.specs.Merged.{Merges, ClearsWay}

abbrev pub AllBelow : List ℕ → Members → Type 0
AllBelow k no_members = Unit {0}
AllBelow k (member l d ms) = (slice_cmp nat_cmp l k ≡ Less) × AllBelow k ms

put_past : (k : List ℕ) (d : Data) (es rest : Members) → AllBelow k es → put k d (both es rest) ≡ both es (put k d rest)
put_past k d no_members rest h = refl
put_past k d (member l e es) rest h =
    let above : slice_cmp nat_cmp k l ≡ Greater = nat_list_cmp_total.antisymm k l ∙ ap ordering_reverse h.0 in
    rw above (ap (member l e) (put_past k d es rest h.1))

put_all_past : (k : List ℕ) (es ns rest : Members) → AllBelow k es → AllAfter k ns → put_all ns (both es rest) ≡ both es (put_all ns rest)
put_all_past k no_members ns rest h after = refl
put_all_past k (member l e es) ns rest h after =
    put_all_later l e ns (both es rest) (all_above l k ns h.0 after) ∙ ap (member l e) (put_all_past k es ns rest h.1 after)

-- what is below the key was handed on, and the key goes before what is left
pub way_cleared : (HandedOn : Members → Type 0) (k : List ℕ) (es before rest after : Members) → HandedOn es → AllBelow k es → before ≡ both es rest → ((d : Data) → put k d rest ≡ member k d after) → ClearsWay HandedOn k before after
unfolding ClearsWay
way_cleared HandedOn k es before rest after h below split first = (
  es,
  h,
  λ d ns follow.
      ap (λ t. put_all ns (put k d t)) split ∙ ap (put_all ns) (put_past k d es rest below ∙ ap (both es) (first d)) ∙ put_all_past k es ns (member k d after) below follow
      ∙ ap (both es) (put_all_later k d ns after follow),
)

pub goes_before : (k l : List ℕ) (d e : Data) (ms : Members) → slice_cmp nat_cmp l k ≡ Greater → put k d (member l e ms) ≡ member k d (member l e ms)
goes_before k l d e ms h = let less : slice_cmp nat_cmp k l ≡ Less = nat_list_cmp_total.antisymm k l ∙ ap ordering_reverse h in rw less refl

pub goes_over : (k l : List ℕ) (d e : Data) (ms : Members) → slice_cmp nat_cmp l k ≡ Equal → put k d (member l e ms) ≡ member k d ms
goes_over k l d e ms h =
    let tied : slice_cmp nat_cmp k l ≡ Equal = nat_list_cmp_total.antisymm k l ∙ ap ordering_reverse h in
    let same : k ≡ l = (bytes_eq-Decides k l).0 (sym (is_eq-slice_cmp k l) ∙ ap is_eq tied) in
    rw tied (ap (λ n. member n d ms) (sym same))

pub both_more : (es : Members) (k : List ℕ) (d : Data) (ms : Members) → both es (member k d ms) ≡ both (both es (member k d no_members)) ms
both_more no_members k d ms = refl
both_more (member l e es) k d ms = ap (member l e) (both_more es k d ms)

pub below_more : (k : List ℕ) (es : Members) (l : List ℕ) (d : Data) → AllBelow k es → slice_cmp nat_cmp l k ≡ Less → AllBelow k (both es (member l d no_members))
below_more k no_members l d h below = (below, tt)
below_more k (member n e es) l d h below = (h.0, below_more k es l d h.1 below)

pub value_member : (P : Members → Type 0) (name k : List ℕ) (v : Value) → name ≡ k → P (member name (written any_kind (tree_cell v)) no_members) → P (member k (view v) no_members)
unfolding written
value_member P name k v is h = subst (λ n. P (member n (view v) no_members)) is h

-- and then the member of the key was
module _ {S : Type 0} (Adds : S → S → Members → Type 0) (joined : (a b c : S) (ms ns : Members) → Adds a b ms → Adds b c ns → Adds a c (both ms ns)) where
  pub member_merged : (a b c : S) (k : List ℕ) (d : Data) (before after : Members) → ClearsWay (Adds a b) k before after → Adds b c (member k d no_members) → Merges (Adds a c) before after (member k d no_members)
  unfolding ClearsWay Merges
  member_merged a b c k d before after p h = (both p.0 (member k d no_members), joined a b c p.0 (member k d no_members) p.1 h, λ ns order. p.2 d ns order.0 ∙ both_more p.0 k d (put_all ns after))

both-none : (ms : Members) → both ms no_members ≡ ms
both-none no_members = refl
both-none (member k d ms) = ap (member k d) (both-none ms)

-- members in order, and then what is left of the others
module _ {S : Type 0} (Adds : S → S → Members → Type 0) (joined : (a b c : S) (ms ns : Members) → Adds a b ms → Adds b c ns → Adds a c (both ms ns)) where
  pub all_merged : (a b c : S) (ms before after : Members) → IsOrdered ms → Merges (Adds a b) before after ms → Adds b c after → Adds a c (put_all ms before)
  unfolding Merges
  all_merged a b c ms before after order p h =
      let whole = both-none ms in
      let e = ap (λ t. put_all t before) (sym whole) ∙ p.2 no_members (subst IsOrdered (sym whole) order) in
      subst (Adds a c) (sym e) (joined a b c p.0 after p.1 h)

  pub rows_merged : (a b c : S) (rows : Rows) (cs : Cells) (before after : Members) → in_order (keys rows) ≡ true → Merges (Adds a b) before after (rows_given rows cs) → Adds b c after → Adds a c (put_all (rows_given rows cs) before)
  rows_merged a b c rows cs before after order = all_merged a b c (rows_given rows cs) before after (rows_given_ordered rows cs order)

-- ---- a member put among others before the rest, or among the rest first

put_all_keeps_order : (ms others : Members) → IsOrdered others → IsOrdered (put_all ms others)
put_all_keeps_order no_members others h = h
put_all_keeps_order (member k d ms) others h = put_all_keeps_order ms (put k d others) (put_ordered k d others h)

tag_ordered : (word : Option (Bor (List ℕ))) → IsOrdered (tag_left word)
tag_ordered None = tt
tag_ordered (Some word) = (tt, tt)

pub rows_and_tag_ordered : (rows : Rows) (cs : Cells) (word : Option (Bor (List ℕ))) → IsOrdered (put_all (rows_given rows cs) (tag_left word))
rows_and_tag_ordered rows cs word = put_all_keeps_order (rows_given rows cs) (tag_left word) (tag_ordered word)

alone : (k : List ℕ) (d : Data) (ms : Members) → AllAfter k ms → IsOrdered ms → put_all ms (member k d no_members) ≡ member k d ms
alone k d ms after order = put_all_later k d ms no_members after ∙ ap (member k d) (put_all_ordered ms order)

put_among_at : (o : Ordering) (t k : List ℕ) (d e : Data) (ms others : Members) → slice_cmp nat_cmp k t ≡ o → AllAfter k ms → IsOrdered ms
    → ((rest : Members) → put_all (put_all ms (member t e no_members)) rest ≡ put_all ms (put t e rest)) → put_all (put_all ms (put k d (member t e no_members))) others ≡ put_all ms (put k d (put t e others))
put_among_at Less t k d e ms others is after order later =
    let first : put k d (member t e no_members) ≡ member k d (member t e no_members) = rw is refl in
    ap (λ x. put_all (put_all ms x) others) first ∙ ap (λ x. put_all x others) (put_all_later k d ms (member t e no_members) after) ∙ later (put k d others) ∙ ap (put_all ms) (sym (put_commutes k t d e others is))
put_among_at Equal t k d e ms others is after order later =
    let tied : slice_cmp nat_cmp t k ≡ Equal = nat_list_cmp_total.antisymm t k ∙ ap ordering_reverse is in
    let same : k ≡ t = (bytes_eq-Decides k t).0 (sym (is_eq-slice_cmp k t) ∙ ap is_eq is) in
    ap (λ x. put_all (put_all ms x) others) (goes_over k t d e no_members tied) ∙ ap (λ x. put_all x others) (alone k d ms after order) ∙ ap (put_all ms) (sym (put_over k d e others) ∙ ap (λ x. put k d (put x e others)) same)
put_among_at Greater t k d e ms others is after order later =
    let last : put k d (member t e no_members) ≡ member t e (member k d no_members) = rw is refl in
    ap (λ x. put_all (put_all ms x) others) last ∙ ap (λ x. put_all x others) (put_all_later t e ms (member k d no_members) (all_above t k ms (less k t is) after) ∙ ap (member t e) (alone k d ms after order))

pub put_among : (t : List ℕ) (e : Data) (ms others : Members) → IsOrdered ms → put_all (put_all ms (member t e no_members)) others ≡ put_all ms (put t e others)
put_among t e no_members others h = refl
put_among t e (member k d ms) others h = put_among_at _ t k d e ms others refl h.0 h.1 (λ rest. put_among t e ms rest h.1)
