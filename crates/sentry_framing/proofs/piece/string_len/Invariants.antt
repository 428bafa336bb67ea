use Rattle.std.proofs.Common.{◌≡◌, ◌-◌, ◌++◌, List, ℕ, length}
use Rattle.sentry_json.specs.Balanced.{IsStringEnd}
use Rattle.sentry_framing.proofs.Pieces.{Begun, Ends}
use Rattle.sentry_framing.proofs.piece.string_len.Given as goal

abbrev pub invariant-loop-i : goal.invariant-loop-i
invariant-loop-i l = record {
  begun : Begun l.bytes l.i;
  ends : (t rest : List ℕ) → IsStringEnd t → l.bytes ≡ t ++ rest → Ends l.bytes l.i rest;
}

abbrev pub decreases-loop-i : goal.decreases-loop-i
decreases-loop-i l = length l.bytes - l.i
