use Rattle.std.proofs.Common.{rules, refl, ◌≡◌, ◌++◌, ◌∷◌, [], length, if◌then◌else◌, ap, sym, subst, ◌∙◌, arith, true, false, string_cmp, string_bytes}
use Rattle.std.specs.BTreeMap.{insert_entry}
use Rattle.serde_json.specs.Data.{unsigned, number, array, object, no_members, put, string}
use Rattle.serde_json.specs.View.{view, items_view, members_view}
use Rattle.serde_json.proofs.Views.{members_view-insert_entry}
use Rattle.sentry_json.specs.Tokens.{value_of}
use Rattle.sentry_json.specs.declared.tape.token.Token.TheVariants as token
use Rattle.sentry_json.proofs.Flat.{ReadSoFar, begun, comma_next, object_ends}
use Rattle.sentry_json.proofs.Gathered.{more_items}
use Rattle.sentry_json.proofs.Lists.{all_mean, means_next}
use Rattle.sentry_json.proofs.SoFar.{begins, empty, ends, next_value, skipped, value_before}
use Rattle.sentry_json.proofs.TokenLists.{items_end, members_end, value_array, value_is, value_object}
use Rattle.sentry_json.proofs.WordsAndTexts.{begun_spelled, string_tree, text_token}
use Rattle.sentry_json.proofs.tape.tree.+split_tree.Goals as goal

pub split_items-returns-in-Some-clause-spelled : goal.split_items-returns-in-Some-clause-spelled
split_items-returns-in-Some-clause-spelled t c =
    let none : c.new-items.result.items ≡ [] = c.new-items.ensures.items in (
      token.Array 0,
      [],
      empty false c.args.inside.text.now c.in-Some.rest.text.now c.args.depth c.in-Some.ensures.follows (omega (arith, c.in_ok-depth.ensures)),
      value_array 0 [] ∙ ap array (items_end ∙ ap items_view (sym none)),
    )

pub split_items-loop-items-init : goal.split_items-loop-items-init
split_items-loop-items-init t c =
    let inside = c.args.inside.text.now in
    let space = c.skip_space-left.ensures in
    let none : c.new-items.result.items ≡ [] = c.new-items.ensures.items in
    ([], [], skipped false false false inside inside c.skip_space-left.result.text.now [] c.in_ok-depth.depth space.spaced (begins false false inside c.in_ok-depth.depth), λ ts. refl, ap items_view (sym none), space.within)

pub split_items-returns-then-not-comma-clause-spelled : goal.split_items-returns-then-not-comma-clause-spelled
split_items-returns-then-not-comma-clause-spelled t c =
    let i = c.loop-items.invariant in
    let v = c.in_ok-item.ensures.spelled in
    let end = c.in_ok-comma.ensures.follows in
    let inside = c.args.inside.text.now in
    let left = c.loop-items.left.text.now in
    let next = c.in_ok-comma.next.text.now in
    let depth = c.in_ok-depth.depth in
    let close : end.0 ≡ 93 ∷ next = end.2 ∙ ap (λ is. (if is then 44 else 93) ∷ next) c.if-not-comma.true in
    let all = i.0 ++ (v.0 ∷ v.1) in
    let items = i.1 ++ value_of v.0 v.1 ∷ [] in
    let pushed : c.push.new.self.items ≡ c.loop-items.items.items ++ c.in_ok-item.item ∷ [] = search rules in (
      token.Array (length all),
      all,
      ends false false inside left end.0 next i.0 v.0 v.1 depth c.args.depth refl i.2 (value_before left c.in_ok-item.rest.text.now end.0 v.0 v.1 depth v.2 end.1) close (omega (arith, c.in_ok-depth.ensures)),
      value_array (length all) all ∙ ap array (all_mean all items (means_next i.0 i.1 v.0 v.1 v.2.closed i.3) ∙ more_items (λ d. d) i.1 (value_of v.0 v.1) c.loop-items.items.items c.in_ok-item.item i.4 v.3 ∙ ap items_view (sym pushed)),
    )

pub split_items-loop-items-preserved : goal.split_items-loop-items-preserved
split_items-loop-items-preserved t c =
    let i = c.loop-items.invariant in
    let v = c.in_ok-item.ensures.spelled in
    let comma = c.in_ok-comma.ensures.follows in
    let inside = c.args.inside.text.now in
    let left = c.loop-items.left.text.now in
    let next = c.in_ok-comma.next.text.now in
    let space = c.skip_space-left-in-loop-items in
    let depth = c.in_ok-depth.depth in
    let is_comma : comma.0 ≡ 44 ∷ next = comma.2 ∙ ap (λ is. (if is then 44 else 93) ∷ next) c.if-not-comma.false in
    let done = i.0 ++ (v.0 ∷ v.1) in
    let pushed : c.push.new.self.items ≡ c.loop-items.items.items ++ c.in_ok-item.item ∷ [] = search rules in (
      done,
      i.1 ++ value_of v.0 v.1 ∷ [],
      skipped false false false inside next space.result.text.now done depth space.ensures.spaced (next_value false false inside left comma.0 next i.0 v.0 v.1 depth refl i.2 (value_before left c.in_ok-item.rest.text.now comma.0 v.0 v.1 depth v.2 comma.1) is_comma),
      means_next i.0 i.1 v.0 v.1 v.2.closed i.3,
      more_items (λ d. d) i.1 (value_of v.0 v.1) c.loop-items.items.items c.in_ok-item.item i.4 v.3 ∙ ap items_view (sym pushed),
      omega (arith, i.5, c.in_ok-item.ensures.shorter, c.in_ok-comma.ensures.shorter, space.ensures.within),
    )

pub split_members-returns-in-Some-clause-spelled : goal.split_members-returns-in-Some-clause-spelled
split_members-returns-in-Some-clause-spelled t c =
    let none : c.new-members.result.entries ≡ [] = c.new-members.ensures.empty in (
      token.Object 0,
      [],
      empty true c.args.inside.text.now c.in-Some.rest.text.now c.args.depth c.in-Some.ensures.follows (omega (arith, c.in_ok-depth.ensures)),
      value_object 0 [] ∙ ap object (members_end no_members ∙ ap members_view (sym none)),
    )

pub split_members-loop-members-init : goal.split_members-loop-members-init
split_members-loop-members-init t c =
    let inside = c.args.inside.text.now in
    let space = c.skip_space-left in
    let none : c.new-members.result.entries ≡ [] = c.new-members.ensures.empty in
    (subst (λ es. ReadSoFar inside space.result.text.now (members_view es) c.in_ok-depth.depth) (sym none) (begun inside space.result.text.now c.in_ok-depth.depth space.ensures.spaced), space.ensures.within)

pub split_members-returns-then-not-comma-clause-spelled : goal.split_members-returns-then-not-comma-clause-spelled
split_members-returns-then-not-comma-clause-spelled t c =
    let l = c.loop-members in
    let key = c.in_ok-key in
    let name = string_bytes key.key in
    let colon = c.in_ok-after_spaced in
    let v = c.in_ok-member.ensures.spelled in
    let close = c.in_ok-comma.ensures.follows in
    let next = c.in_ok-comma.next.text.now in
    let before = members_view l.members.entries in
    let is_close : close.0 ≡ 125 ∷ next = close.2 ∙ ap (λ is. (if is then 44 else 125) ∷ next) c.if-not-comma.true in
    let inserted : c.insert.new.self.entries ≡ insert_entry string_cmp l.members.entries key.key c.in_ok-member.member = search rules in
    let made : members_view c.insert.new.self.entries ≡ put name (value_of v.0 v.1) before =
    ap members_view inserted ∙ members_view-insert_entry l.members.entries key.key c.in_ok-member.member ∙ ap (λ d. put name d before) (sym v.3) in
    let whole = object_ends c.args.inside.text.now l.left.text.now key.behind.text.now colon.ensures.follows.0 colon.field-0.text.now c.skip_space-value.result.text.now c.in_ok-member.rest.text.now before c.in_ok-depth.depth (text_token name) name v.0 v.1
    l.invariant.0 (begun_spelled l.left.text.now key.behind.text.now name key.ensures.spelled) refl colon.ensures.follows.1 colon.ensures.follows.2 c.skip_space-value.ensures.spaced v.2
    close.0 next c.args.depth close.1 is_close (omega (arith, c.in_ok-depth.ensures)) in
    (token.Object (length whole.0), whole.0, whole.1, value_object (length whole.0) whole.0 ∙ ap object (whole.2 ∙ sym made))

pub split_members-loop-members-preserved : goal.split_members-loop-members-preserved
split_members-loop-members-preserved t c =
    let l = c.loop-members in
    let key = c.in_ok-key in
    let name = string_bytes key.key in
    let colon = c.in_ok-after_spaced in
    let v = c.in_ok-member.ensures.spelled in
    let comma = c.in_ok-comma.ensures.follows in
    let next = c.in_ok-comma.next.text.now in
    let space = c.skip_space-left-in-loop-members in
    let before = members_view l.members.entries in
    let is_comma : comma.0 ≡ 44 ∷ next = comma.2 ∙ ap (λ is. (if is then 44 else 125) ∷ next) c.if-not-comma.false in
    let inserted : c.insert.new.self.entries ≡ insert_entry string_cmp l.members.entries key.key c.in_ok-member.member = search rules in
    let made : members_view c.insert.new.self.entries ≡ put name (value_of v.0 v.1) before =
    ap members_view inserted ∙ members_view-insert_entry l.members.entries key.key c.in_ok-member.member ∙ ap (λ d. put name d before) (sym v.3) in (
      rw made (comma_next c.args.inside.text.now l.left.text.now key.behind.text.now colon.ensures.follows.0 colon.field-0.text.now c.skip_space-value.result.text.now c.in_ok-member.rest.text.now before c.in_ok-depth.depth (text_token name) name v.0 v.1
          l.invariant.0 (begun_spelled l.left.text.now key.behind.text.now name key.ensures.spelled) refl colon.ensures.follows.1 colon.ensures.follows.2 c.skip_space-value.ensures.spaced v.2
          comma.0 next space.result.text.now comma.1 is_comma space.ensures.spaced),
      omega (arith, l.invariant.1, key.ensures.shorter, colon.ensures.shorter, c.skip_space-value.ensures.within, c.in_ok-member.ensures.shorter, c.in_ok-comma.ensures.shorter, space.ensures.within),
    )

pub split_tree-returns-in-Some-clause-spelled : goal.split_tree-returns-in-Some-clause-spelled
split_tree-returns-in-Some-clause-spelled t c =
    let plain = c.in-Some in
    let q = plain.ensures.quoted in
    let same : view c.in-Ok.value ≡ string plain.string.now = search rules in
    string_tree c.args.text.text.now q.0 plain.rest.text.now plain.string.now (view c.in-Ok.value) c.args.depth q.1 q.2 same

pub split_tree-returns-in-Some-split_whole-clause-spelled : goal.split_tree-returns-in-Some-split_whole-clause-spelled
split_tree-returns-in-Some-split_whole-clause-spelled t c =
    let n = c.in-Some-split_whole in
    let s = n.ensures.spelled in
    let same : view c.from.result ≡ number (unsigned n.number) = search rules in
    (token.Whole n.number, [], record { json = s.json; lexed = s.lexed; meant = s.meant; closed = s.closed; shallow = omega (arith, s.shallow); taken = s.taken }, value_is (token.Whole n.number) [] ∙ sym same)
