use Rattle.std.proofs.Common.{◌≡◌, Less, Equal, Greater, nat_cmp, string_bytes, refl, sym, ap, ◌∙◌, rules}
use Rattle.std.specs.Cmp.Lexicographic.{slice_cmp}
use Rattle.serde_json.specs.Data.{no_members, member}
use Rattle.serde_json.specs.View.{view, members_view}
use Rattle.sentry_writing.specs.Given.{both}
use Rattle.sentry_writing.specs.Sinks.{others_left}
use Rattle.sentry_writing.proofs.Merging.{way_cleared, goes_before, goes_over, both_more, below_more, value_member}
use Rattle.sentry_writing.proofs.beside.KeptOthers.hand_before.Goals as goal

pub loop-self-init : goal.loop-self-init
loop-self-init g c = record { handed_on = no_members; adds = g.met.S.Sink.nothing c.args.sink.now; below = tt; split = refl }

pub loop-self-preserved : goal.loop-self-preserved
loop-self-preserved g c =
    let l = c.loop-self in
    let k = string_bytes c.in-Some.name.now in
    let d = view c.in-Some.value.now in
    let head : others_left l.self.next l.self.rest ≡ member k d (members_view l.self.rest) = ap (λ n. others_left n l.self.rest) c.in-Some.is in
    let next : others_left c.next-self.result c.next-self.new.self ≡ members_view l.self.rest = search rules in
    let below : slice_cmp nat_cmp k c.args.key.now ≡ Less = search rules in
    record {
      handed_on = both l.invariant.handed_on (member k d no_members);
      adds = g.met.S.Sink.joined _ _ _ _ _ l.invariant.adds (value_member (g.S.Sink.Adds l.sink c.member.new.self) _ k c.in-Some.value.now c.as_str-in-Less.ensures.value c.member.ensures.0);
      below = below_more c.args.key.now l.invariant.handed_on k d l.invariant.below below;
      split = l.invariant.split ∙ ap (both l.invariant.handed_on) (head ∙ ap (member k d) (sym next)) ∙ both_more l.invariant.handed_on k d (others_left c.next-self.result c.next-self.new.self);
    }

pub returns-in-Equal : goal.returns-in-Equal
returns-in-Equal g c =
    let l = c.loop-self in
    let k = string_bytes c.in-Some.name.now in
    let head : others_left l.self.next l.self.rest ≡ member k (view c.in-Some.value.now) (members_view l.self.rest) = ap (λ n. others_left n l.self.rest) c.in-Some.is in
    let next : others_left c.next-self-in-Equal.result c.next-self-in-Equal.new.self ≡ members_view l.self.rest = search rules in
    let tied : slice_cmp nat_cmp k c.args.key.now ≡ Equal = search rules in
    way_cleared (g.S.Sink.Adds c.args.sink.now l.sink) c.args.key.now l.invariant.handed_on _ _ _ l.invariant.adds l.invariant.below l.invariant.split (λ d. rw (head, next) (goes_over c.args.key.now k d _ _ tied))

pub returns-in-Greater : goal.returns-in-Greater
returns-in-Greater g c =
    let l = c.loop-self in
    let k = string_bytes c.in-Some.name.now in
    let head : others_left l.self.next l.self.rest ≡ member k (view c.in-Some.value.now) (members_view l.self.rest) = ap (λ n. others_left n l.self.rest) c.in-Some.is in
    let above : slice_cmp nat_cmp k c.args.key.now ≡ Greater = search rules in
    way_cleared (g.S.Sink.Adds c.args.sink.now l.sink) c.args.key.now l.invariant.handed_on _ _ _ l.invariant.adds l.invariant.below l.invariant.split (λ d. rw head (goes_before c.args.key.now k d _ _ above))

pub returns : goal.returns
returns g c =
    let l = c.loop-self in
    let none : others_left l.self.next l.self.rest ≡ no_members = ap (λ n. others_left n l.self.rest) c.in_default.is in
    way_cleared (g.S.Sink.Adds c.args.sink.now l.sink) c.args.key.now l.invariant.handed_on _ _ _ l.invariant.adds l.invariant.below l.invariant.split (λ d. rw none refl)
