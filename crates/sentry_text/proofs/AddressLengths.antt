-- The texts of addresses are short.
use Rattle.std.proofs.Common.{◌≡◌, ◌+◌, ◌*◌, ◌/◌, ◌%◌, ◌<◌, ◌≤◌, ◌^◌, ℕ, Bool, true, false, cond, List, [], ◌∷◌, ◌++◌, length, take, drop, codes, get_or, arith, length-append, length-take, length-drop}
use Rattle.std.specs.Prelude.{bytes_eq, decimal, flat_map, nat_lt}
use Rattle.std.specs.declared.net.ip_addr.IpAddr.{IpAddr}
use Rattle.std.specs.declared.net.ip_addr.IpAddr.TheVariants as Ip
use Rattle.std.specs.Net.Addr.{octets_of}
use Rattle.std.specs.Net.Text.{leading_zero_digits, hex, groups_text, longest_zero_run, compressed_text, hex_groups_text, ipv4_text, ipv6_text, ip_text}
use Rattle.std.specs.Char.{digit_char}
use Rattle.std.proofs.NetLemmas.Texts.{AllSegments, AllSegments-drop}
use Rattle.std.proofs.lemmas.Fmt.{length-decimal-le}
use Rattle.sentry_tables.specs.Spelling.{FitsRoom}
use Rattle.sentry_text.specs.Address.{address_text}
use Rattle.sentry_text.specs.Ip.{IsStoredIp, IsStoredIpAddress, ip_address_text}
use Rattle.sentry_text.specs.declared.ip.IpAddress.{IpAddress}
use Rattle.sentry_text.specs.declared.ip.IpAddress.TheVariants.{Auto, Exact}
use Rattle.sentry_text.proofs.IpTrees.{bytes_small}
use Rattle.sentry_text.proofs.Bounds.{Small}
use Rattle.sentry_text.proofs.Lengths.{hex_size}

-- ---- numbers in base 16

pub address_fits : (n : ℕ) → n < 2 ^ 64 → FitsRoom (address_text n)
address_fits n small = omega (arith, hex_size 16 n (omega arith) (omega arith))

-- ---- IPv4

byte_text : (n : ℕ) → n < 256 → length (decimal n) ≤ 3
byte_text n small = length-decimal-le 3 n (omega arith) (omega arith) (omega arith)

dotted_size : (a b c d : List ℕ) → length (a ++ codes "." ++ b ++ codes "." ++ c ++ codes "." ++ d) ≡ length a + length b + length c + length d + 3
dotted_size a b c d = simp length-append (omega arith)

ipv4_size : (o : List ℕ) → Small 256 o → length (ipv4_text o) ≤ 15
ipv4_size o small =
    omega (
      arith,
      dotted_size (decimal (get_or o 0 0)) (decimal (get_or o 1 0)) (decimal (get_or o 2 0)) (decimal (get_or o 3 0)),
      byte_text (get_or o 0 0) (small 0),
      byte_text (get_or o 1 0) (small 1),
      byte_text (get_or o 2 0) (small 2),
      byte_text (get_or o 3 0) (small 3),
    )

-- ---- IPv6

-- a segment has four digits at most
group_size : (n : ℕ) → length (hex n) ≤ 4
unfolding hex
group_size n = omega (arith, length-drop (leading_zero_digits n) (digit_char (n / 0x1000) ∷ digit_char (n / 0x100 % 16) ∷ digit_char (n / 0x10 % 16) ∷ digit_char (n % 16) ∷ []))

rest_size : (xs : List ℕ) → length (flat_map (λ t. codes ":" ++ hex t) xs) ≤ 5 * length xs
rest_size [] = omega arith
rest_size (x ∷ xs) = let rest = rest_size xs in let first = group_size x in simp length-append (omega arith)

groups_size : (xs : List ℕ) → length (groups_text xs) ≤ 5 * length xs
groups_size [] = omega arith
groups_size (x ∷ xs) = omega (arith, length-append (hex x) (flat_map (λ t. codes ":" ++ hex t) xs), group_size x, rest_size xs)

-- what stands before a run and after it is no more than all
parts_size : (start run : ℕ) (xs : List ℕ) → length (take start xs) + length (drop (start + run) xs) ≤ length xs
parts_size start run xs = omega (arith, length-take start xs, length-drop (start + run) xs)

-- a choice of two short texts is short
either_size : (b : Bool) (n : ℕ) (s t : List ℕ) → length s ≤ n → length t ≤ n → length (cond b s t) ≤ n
either_size true n s t h k = h
either_size false n s t h k = k

compressed_size : (xs : List ℕ) (run : ℕ × ℕ) → length (compressed_text xs run) ≤ 5 * length xs + 2
compressed_size xs run =
    let front = groups_size (take run.0 xs) in
    let back = groups_size (drop (run.0 + run.1) xs) in
    let parts = parts_size run.0 run.1 xs in
    let around : length (groups_text (take run.0 xs) ++ codes "::" ++ groups_text (drop (run.0 + run.1) xs)) ≤ 5 * length xs + 2 = simp length-append (omega arith) in
    let whole : length (groups_text xs) ≤ 5 * length xs + 2 = omega (arith, groups_size xs) in
    either_size (nat_lt 1 run.1) (5 * length xs + 2) (groups_text (take run.0 xs) ++ codes "::" ++ groups_text (drop (run.0 + run.1) xs)) (groups_text xs) around whole

ipv6_size : (xs : List ℕ) → length xs ≡ 8 → AllSegments xs → length (ipv6_text xs) ≤ 42
unfolding ipv6_text hex_groups_text
ipv6_size xs size small =
    let last = ipv4_size (octets_of (drop 6 xs)) (bytes_small (drop 6 xs) (AllSegments-drop 6 xs small)) in
    let mapped : length (codes "::ffff:" ++ ipv4_text (octets_of (drop 6 xs))) ≤ 42 = omega (arith, last) in
    let groups : length (compressed_text xs (longest_zero_run xs)) ≤ 42 = omega (arith, compressed_size xs (longest_zero_run xs), size) in
    either_size (bytes_eq (take 6 xs) (0 ∷ 0 ∷ 0 ∷ 0 ∷ 0 ∷ 0xffff ∷ [])) 42 (codes "::ffff:" ++ ipv4_text (octets_of (drop 6 xs))) (compressed_text xs (longest_zero_run xs)) mapped groups

pub ip_fits : (ip : IpAddr) → IsStoredIp ip → FitsRoom (ip_text ip)
ip_fits (Ip.V4 a) h = omega (arith, ipv4_size a.octets h.1)
ip_fits (Ip.V6 a) h = omega (arith, ipv6_size a.segments h.0 h.1)

pub ip_address_fits : (a : IpAddress) → IsStoredIpAddress a → FitsRoom (ip_address_text a)
ip_address_fits Auto h = omega arith
ip_address_fits (Exact ip) h = ip_fits ip h
