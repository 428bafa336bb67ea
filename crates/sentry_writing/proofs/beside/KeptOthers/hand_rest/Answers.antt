use Rattle.std.proofs.Common.{◌≡◌, ◌∷◌, string_bytes, ap, rules}
use Rattle.serde_json.specs.Data.{member}
use Rattle.serde_json.specs.View.{view, members_view}
use Rattle.serde_json.proofs.Views.{Entry}
use Rattle.sentry_writing.specs.Sinks.{others_left}
use Rattle.sentry_writing.proofs.Merging.{value_member}
use Rattle.sentry_writing.proofs.beside.KeptOthers.hand_rest.Goals as goal

pub loop-name-init : goal.loop-name-init
loop-name-init g c end rest =
    let k = string_bytes c.in-Some.name.now in
    let head : others_left c.args.self.next c.args.self.rest ≡ member k (view c.in-Some.value.now) (members_view c.args.self.rest) = ap (λ n. others_left n c.args.self.rest) c.in-Some.is in
    let same : c.into_iter-name-iterator.result ≡ c.args.self.rest = search rules in
    rw (head, ← same) (g.met.S.Sink.joined _ _ _ _ _ (value_member (g.S.Sink.Adds c.args.sink.now c.member.new.self) _ k c.in-Some.value.now c.as_str.ensures.value c.member.ensures.0) rest)

pub loop-name-preserved : goal.loop-name-preserved
loop-name-preserved g c end rest =
    let l = c.loop-name in
    let e : Entry = (c.in-Some-2.name.now, c.in-Some-2.value.now) in
    let here : l.name-iterator ≡ e ∷ c.next.new.self = c.in-Some-2.ensures.steps in
    l.invariant end (rw here (g.met.S.Sink.joined _ _ _ _ _ (value_member (g.S.Sink.Adds l.sink c.member-in-loop-name.new.self) _ (string_bytes e.0) e.1 c.as_str-in-loop-name.ensures.value c.member-in-loop-name.ensures.0) rest))
