-- A ledger as bytes, as a spool keeps it.
use Rattle.std.specs.Prelude.{◌≡◌, ◌<◌, ◌^◌, ◌++◌, ℕ, List, codes, length}
use Rattle.std.specs.Int.{w64, to_le_bytes}
use Rattle.std.specs.List.{All, flat_map}

-- a number of 64 bits in eight bytes, the lowest first
abbrev pub eight_bytes : ℕ → List ℕ
eight_bytes number = to_le_bytes w64 number

-- the form and its version
abbrev pub mark : List ℕ
mark = codes "curdmesa ledger 1\n"

-- the mark, and each sum in eight bytes
abbrev pub ledger_bytes : List ℕ → List ℕ
ledger_bytes sums = mark ++ flat_map eight_bytes sums

-- The bytes are those of so many sums of 64 bits.
pub record AreLedgerBytes (count : ℕ) (bytes sums : List ℕ) : Type 0 where
  pub long : length sums ≡ count
  pub fit : All (λ sum. sum < 2 ^ 64) sums
  pub bytes_are : bytes ≡ ledger_bytes sums
