-- Members that are put among others while a sink takes them in order.
use Rattle.std.proofs.Common.{◌≡◌, ℕ, List, refl, sym, ap, subst, ◌∙◌}
use Rattle.serde_json.specs.Data.{Data, Members, no_members, member}
use Rattle.sentry_json.specs.Sound.{AllAfter, IsOrdered}
use Rattle.sentry_tables.specs.Written.{put_all}
use Rattle.sentry_writing.specs.Given.{both}

-- Whatever is given later in order, what is put among the members that were left is what was handed
-- on, and then what is put among those that are left now.
unfoldable pub Merges : (Members → Type 0) → Members → Members → Members → Type 0
Merges HandedOn before after ms =
    (es : Members) × HandedOn es × ((ns : Members) → IsOrdered (both ms ns) → put_all (both ms ns) before ≡ both es (put_all ns after))

-- What is left that goes before the key was handed on: the member of that key, and those of later
-- keys, are then put among the rest.
unfoldable pub ClearsWay : (Members → Type 0) → List ℕ → Members → Members → Type 0
ClearsWay HandedOn key before after =
    (es : Members) × HandedOn es × ((d : Data) (ns : Members) → AllAfter key ns → put_all (member key d ns) before ≡ both es (member key d (put_all ns after)))

-- ---- the laws of a sink

both_assoc : (a b c : Members) → both (both a b) c ≡ both a (both b c)
both_assoc no_members b c = refl
both_assoc (member k d a) b c = ap (member k d) (both_assoc a b c)

later_in_order : (ms ns : Members) → IsOrdered (both ms ns) → IsOrdered ns
later_in_order no_members ns h = h
later_in_order (member k d ms) ns h = later_in_order ms ns h.1

module _ {S : Type 0} (Adds : S → S → Members → Type 0) (nothing : (s : S) → Adds s s no_members) (joined : (a b c : S) (ms ns : Members) → Adds a b ms → Adds b c ns → Adds a c (both ms ns)) where
  pub merges_nothing : (s : S) (left : Members) → Merges (Adds s s) left left no_members
  unfolding Merges
  merges_nothing s left = (no_members, nothing s, λ ns h. refl)

  pub merges_joined : (a b c : S) (x y z ms ns : Members) → Merges (Adds a b) x y ms → Merges (Adds b c) y z ns → Merges (Adds a c) x z (both ms ns)
  unfolding Merges
  merges_joined a b c x y z ms ns p q = (
    both p.0 q.0,
    joined a b c p.0 q.0 p.1 q.1,
    λ ls h.
        let e = both_assoc ms ns ls in
        let o : IsOrdered (both ms (both ns ls)) = subst IsOrdered e h in
        ap (λ t. put_all t x) e ∙ p.2 (both ns ls) o ∙ ap (both p.0) (q.2 ls (later_in_order ms (both ns ls) o)) ∙ sym (both_assoc p.0 q.0 (put_all ls z)),
  )
