-- A ledger as bytes.
use Rattle.std.proofs.Common.{arith, ◌≡◌, ◌≢◌, ◌∙◌, ◌+◌, ◌*◌, ◌^◌, ◌<◌, ℕ, true, false, List, [], ◌∷◌, ◌++◌, Option, Bor, ap, ap₂, drop, get_or, length, nat_eq, refl, set, suc, sym, take}
use Rattle.std.proofs.lemmas.List.{drop-take, flat_map_more, length-append, take-append-drop, take-take, take_more_set}
use Rattle.std.proofs.lemmas.List.Elements.{All-cons, All-head, All-nil, All-tail}
use Rattle.std.proofs.lemmas.Slice.Eq.{strip_prefix_is}
use Rattle.std.proofs.lemmas.Nat.{from_le_bytes-to_le_bytes_8}
use Rattle.std.specs.Cmp.{unsigned_Decides}
use Rattle.std.specs.Cmp.Lexicographic.{pointwise}
use Rattle.std.specs.Int.{w64, from_le_bytes}
use Rattle.std.specs.List.{All, flat_map}
use Rattle.std.specs.Prelude.{MatchOption}
use Rattle.sentry_c.specs.LedgerBytes.{AreLedgerBytes, eight_bytes, mark}

pub length_bytes : (sums : List ℕ) → length (flat_map eight_bytes sums) ≡ 8 * length sums
length_bytes [] = refl
length_bytes (sum ∷ sums) = omega (arith, length-append (eight_bytes sum) (flat_map eight_bytes sums), length_bytes sums)

-- one sum more is read
pub read_step : (bytes sums : List ℕ) (i sum : ℕ) → i < length sums → eight_bytes sum ≡ take 8 (drop (8 * i) bytes) → take (8 * i) bytes ≡ flat_map eight_bytes (take i sums)
    → take (8 * (i + 1)) bytes ≡ flat_map eight_bytes (take (i + 1) (set sums i sum))
read_step bytes sums i sum within is before =
    let next : 8 * (i + 1) ≡ 8 * i + 8 = omega arith in
    ap (λ (n : ℕ). take n bytes) next
    ∙ (sym (take-append-drop (8 * i) (take (8 * i + 8) bytes))
    ∙ (ap₂ ◌++◌ (take-take (8 * i) (8 * i + 8) bytes (omega arith) ∙ before) (drop-take (8 * i) 8 bytes ∙ sym is)
    ∙ (flat_map_more eight_bytes [] (take i sums) sum
    ∙ ap (flat_map eight_bytes) (sym (take_more_set sums i sum within)))))

-- numbers of 64 bits are told by their bytes
same_number : (a b : ℕ) → a < 2 ^ 64 → b < 2 ^ 64 → eight_bytes a ≡ eight_bytes b → a ≡ b
same_number a b small small' same =
    sym (from_le_bytes-to_le_bytes_8 a small) ∙ (ap (from_le_bytes w64) same ∙ from_le_bytes-to_le_bytes_8 b small')

-- a number of 64 bits
abbrev Fits64 : ℕ → Type 0
Fits64 sum = sum < 2 ^ 64

same_sums : (xs ys : List ℕ) → length xs ≡ length ys → All Fits64 xs → All Fits64 ys → flat_map eight_bytes xs ≡ flat_map eight_bytes ys → xs ≡ ys
same_sums [] [] long fit fit' same = refl
same_sums [] (y ∷ ys) long fit fit' same = absurd (omega (arith, long))
same_sums (x ∷ xs) [] long fit fit' same = absurd (omega (arith, long))
same_sums (x ∷ xs) (y ∷ ys) long fit fit' same =
    ap₂ ◌∷◌ (same_number x y (All-head Fits64 x xs fit) (All-head Fits64 y ys fit') (ap (take 8) same))
    (same_sums xs ys (omega (arith, long)) (All-tail Fits64 x xs fit) (All-tail Fits64 y ys fit') (ap (drop 8) same))

all_fit : (xs : List ℕ) → ((i : ℕ) → get_or xs i 0 < 2 ^ 64) → All Fits64 xs
all_fit [] fit = All-nil Fits64
all_fit (x ∷ xs) fit = All-cons Fits64 x xs (fit 0) (all_fit xs (λ i. fit (suc i)))

-- what is and isn't left behind the mark
pub behind_mark : (bytes : List ℕ) (rest : Option (Bor (List ℕ))) → MatchOption rest (pointwise nat_eq (take (length mark) bytes) mark ≡ false) (λ x. (pointwise nat_eq (take (length mark) bytes) mark ≡ true) × (x.now ≡ drop (length mark) bytes) × (length x.now + length mark ≡ length bytes))
    → MatchOption rest ((more : List ℕ) → bytes ≢ mark ++ more) (λ x. bytes ≡ mark ++ x.now)
behind_mark bytes rest = strip_prefix_is unsigned_Decides bytes mark rest

-- what is read is a ledger
pub reads_ledger : (count : ℕ) (bytes rest sums : List ℕ) → length sums ≡ count → ((i : ℕ) → get_or sums i 0 < 2 ^ 64) → bytes ≡ mark ++ rest → rest ≡ flat_map eight_bytes sums → AreLedgerBytes count bytes sums
reads_ledger count bytes rest sums long fit behind is = record { long = long; fit = all_fit sums fit; bytes_are = behind ∙ ap (λ (xs : List ℕ). mark ++ xs) is }

-- bytes are those of one ledger
pub one_ledger : (count : ℕ) (bytes xs ys : List ℕ) → AreLedgerBytes count bytes xs → AreLedgerBytes count bytes ys → xs ≡ ys
one_ledger count bytes xs ys first second =
    same_sums xs ys (first.long ∙ sym second.long) first.fit second.fit (ap (drop 18) (sym first.bytes_are ∙ second.bytes_are))

-- what stands behind the mark is as long as the sums
pub sums_are_long : (count : ℕ) (bytes sums rest : List ℕ) → AreLedgerBytes count bytes sums → bytes ≡ mark ++ rest → length rest ≡ 8 * count
sums_are_long count bytes sums rest are is =
    ap length (ap (drop 18) (sym is ∙ are.bytes_are)) ∙ (length_bytes sums ∙ ap (λ (n : ℕ). 8 * n) are.long)
