use Rattle.std.proofs.Common.{◌≡◌, ◌≤◌, ◌++◌, Bool, List, drop, length, vec_len, vec_capacity}
use Rattle.std.specs.Fn.{CalledAt}
use Rattle.sentry_forward.specs.Forward.{Asked}
use Rattle.sentry_forward.proofs.forwarding.ask_each.Given as goal

-- whatever the rest is answered, all is answered so
abbrev pub invariant-loop-frame : goal.invariant-loop-frame
invariant-loop-frame g l = record {
  callable : goal.F-IsAlwaysCallable g l.filter;
  count : vec_len l.answers ≡ l.frame-index;
  room : length l.fn.frames ≤ vec_capacity l.answers;
  goes_on : (others : List Bool) (last : g.row.F.Denot) → Asked (CalledAt g.F.FnMut) l.filter (drop l.frame-index l.fn.frames) others last
      → Asked (CalledAt g.F.FnMut) l.fn.filter l.fn.frames (l.answers.items ++ others) last;
}
