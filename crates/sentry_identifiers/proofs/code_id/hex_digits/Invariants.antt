use Rattle.std.proofs.Common.{◌≡◌, string_bytes, take}
use Rattle.sentry_identifiers.specs.CodeDigits.{code_digits}
use Rattle.sentry_identifiers.proofs.code_id.hex_digits.Given as goal

-- the digits of what is read
abbrev pub invariant-loop-byte : goal.invariant-loop-byte
invariant-loop-byte l = string_bytes l.digits ≡ code_digits (take l.byte-index l.byte-items)
