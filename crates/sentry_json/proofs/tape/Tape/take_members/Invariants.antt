use Rattle.std.proofs.Common.{◌≡◌, ◌∷◌, List, length, map, option_map}
use Rattle.serde_json.specs.Data.{Members, object}
use Rattle.serde_json.specs.Find.{get_member}
use Rattle.serde_json.specs.View.{members_view}
use Rattle.sentry_json.specs.Keys.{among}
use Rattle.sentry_json.specs.Sound.{IsOrdered}
use Rattle.sentry_json.specs.declared.tape.token.Token.{Token}
use Rattle.sentry_json.specs.declared.tape.token.Token.TheVariants as token
use Rattle.sentry_json.proofs.Flat.{AreMembers, ReadSoFar}
use Rattle.sentry_json.proofs.tape.Tape.take_members.Given as goal

-- `ms` are the members so far, `done` are the tokens of those that are kept, and `found` is the
-- object at `apart`
abbrev pub invariant-loop-found : goal.invariant-loop-found
invariant-loop-found l =
    (ms : Members) × ReadSoFar l.fn.inside.text.now l.left.text.now ms 126 × IsOrdered ms × (done : List Token) × (l.self.tokens.items ≡ token.Object 0 ∷ done) × AreMembers done (among (map (λ k. k.now) l.keys) ms) × (option_map (λ m. object (members_view m.entries)) l.found ≡ get_member l.apart ms)

abbrev pub decreases-loop-found : goal.decreases-loop-found
decreases-loop-found l = length l.left.text.now
