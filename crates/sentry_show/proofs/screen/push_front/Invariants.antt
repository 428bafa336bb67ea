use Rattle.std.proofs.Common.{◌≡◌, ◌-◌, ◌≤◌, string_bytes}
use Rattle.sentry_show.specs.Screen.{PushesLine}
use Rattle.sentry_show.proofs.screen.push_front.Given as goal

-- what is pushed takes what is no longer left
abbrev pub invariant-loop-c : goal.invariant-loop-c
invariant-loop-c l =
    (goal.iterator-loop-c).can_next l.c-iterator × (goal.iterator-loop-c).is_finite l.c-iterator
    × (l.left ≤ l.room) × PushesLine l.room (l.room - l.left) (string_bytes l.fn.out) (string_bytes l.out)
