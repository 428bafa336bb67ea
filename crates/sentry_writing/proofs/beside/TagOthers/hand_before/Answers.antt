use Rattle.std.proofs.Common.{◌≡◌, Less, Equal, Greater, nat_cmp, refl, ap, rules}
use Rattle.std.specs.Cmp.Lexicographic.{slice_cmp}
use Rattle.serde_json.specs.Data.{no_members, member, string}
use Rattle.sentry_tables.specs.Kind.{tag}
use Rattle.sentry_writing.specs.Sinks.{tag_left}
use Rattle.sentry_writing.proofs.Merging.{way_cleared, goes_before, goes_over}
use Rattle.sentry_writing.proofs.beside.TagOthers.hand_before.Goals as goal

pub returns-in-Less : goal.returns-in-Less
returns-in-Less g c =
    let below : slice_cmp nat_cmp tag c.args.key.now ≡ Less = search rules in
    way_cleared (g.S.Sink.Adds c.args.sink.now c.word.new.self) c.args.key.now (member tag (string c.in-Some.word.now) no_members) _ no_members no_members c.word.ensures.0 (below, tt) (ap tag_left c.in-Some.is) (λ d. refl)

pub returns-in-Equal : goal.returns-in-Equal
returns-in-Equal g c =
    let tied : slice_cmp nat_cmp tag c.args.key.now ≡ Equal = search rules in
    way_cleared (g.S.Sink.Adds c.args.sink.now c.args.sink.now) c.args.key.now no_members _ (member tag (string c.in-Some.word.now) no_members) no_members (g.met.S.Sink.nothing c.args.sink.now) tt (ap tag_left c.in-Some.is) (λ d. goes_over c.args.key.now tag d _ no_members tied)

pub returns-in-Greater : goal.returns-in-Greater
returns-in-Greater g c =
    let above : slice_cmp nat_cmp tag c.args.key.now ≡ Greater = search rules in
    let left = tag_left c.args.self.now.word in
    way_cleared (g.S.Sink.Adds c.args.sink.now c.args.sink.now) c.args.key.now no_members left left left (g.met.S.Sink.nothing c.args.sink.now) tt refl (λ d. rw (ap tag_left c.in-Some.is) (goes_before c.args.key.now tag d _ no_members above))

pub returns-in_default : goal.returns-in_default
returns-in_default g c =
    let left = tag_left c.args.self.now.word in
    way_cleared (g.S.Sink.Adds c.args.sink.now c.args.sink.now) c.args.key.now no_members left left left (g.met.S.Sink.nothing c.args.sink.now) tt refl (λ d. rw (ap tag_left c.in_default.is) refl)
