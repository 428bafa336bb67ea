use Rattle.std.proofs.Common.{◌≡◌, ◌+◌, ◌*◌, ◌<◌, false, length, drop}
use Rattle.serde_json.specs.Data.{Members, no_members}
use Rattle.serde_json.specs.Written.{items_have_float, members_have_float}
use Rattle.sentry_json.specs.Tokens.{items_of, members_of}
use Rattle.sentry_json.proofs.tape.judge.+has_float.Given as goal

abbrev pub decreases-has_float : goal.decreases-has_float
decreases-has_float l = 2 * length l.node.tokens.now + 1

abbrev pub decreases-items_have_float : goal.decreases-items_have_float
decreases-items_have_float l = 2 * length l.node.tokens.now

abbrev pub decreases-members_have_float : goal.decreases-members_have_float
decreases-members_have_float l = 2 * length l.node.tokens.now

-- the items so far have none
abbrev pub invariant-items_have_float-loop-item : goal.invariant-items_have_float-loop-item
invariant-items_have_float-loop-item l = (items_have_float (items_of (drop 1 l.node.tokens.now)) ≡ items_have_float (items_of l.rest)) × (length l.rest < length l.node.tokens.now)

abbrev pub decreases-items_have_float-loop-item : goal.decreases-items_have_float-loop-item
decreases-items_have_float-loop-item l = length l.rest

-- `before` are the members so far, but for those that are replaced
abbrev pub invariant-members_have_float-loop-key : goal.invariant-members_have_float-loop-key
invariant-members_have_float-loop-key l = (before : Members) × (members_of (drop 1 l.node.tokens.now) no_members ≡ members_of l.rest before) × (members_have_float before ≡ false) × (length l.rest < length l.node.tokens.now)

abbrev pub decreases-members_have_float-loop-key : goal.decreases-members_have_float-loop-key
decreases-members_have_float-loop-key l = length l.rest
