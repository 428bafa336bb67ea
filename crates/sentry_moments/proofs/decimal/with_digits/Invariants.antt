use Rattle.std.proofs.Common.{◌≡◌, ◌+◌, ◌*◌, ◌^◌, ◌≤◌, min, take}
use Rattle.std.specs.Str.Parse.{digits_value}
use Rattle.sentry_moments.proofs.decimal.with_digits.Given as goal

-- the value with the digits so far after it
abbrev pub invariant-loop-digit : goal.invariant-loop-digit
invariant-loop-digit l =
    (l.sum ≡ min (l.value * 10 ^ l.digit-index + digits_value 10 (take l.digit-index l.digits)) 1_000_000_000_000_000_000_000_000_000_000)
    × (l.sum ≤ 1_000_000_000_000_000_000_000_000_000_000)
