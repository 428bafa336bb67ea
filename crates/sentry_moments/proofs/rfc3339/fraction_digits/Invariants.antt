use Rattle.std.proofs.Common.{◌≡◌, ◌+◌, ◌^◌, ◌<◌, ◌≤◌, length, take, drop}
use Rattle.std.specs.Char.{is_ascii_digit}
use Rattle.std.specs.List.{prefix_len}
use Rattle.std.specs.Str.Parse.{AllDigits}
use Rattle.sentry_moments.specs.Rfc3339.{nanoseconds}
use Rattle.sentry_moments.proofs.rfc3339.fraction_digits.Given as goal

-- digits so far, and what they write
abbrev pub invariant-loop-place : goal.invariant-loop-place
invariant-loop-place l = record {
  within : l.place ≤ length l.text;
  digits : AllDigits 10 (take l.place l.text);
  run : prefix_len is_ascii_digit l.text ≡ l.place + prefix_len is_ascii_digit (drop l.place l.text);
  value : l.nanos ≡ nanoseconds (take l.place l.text);
  bound : l.nanos < 10 ^ 9;
}
