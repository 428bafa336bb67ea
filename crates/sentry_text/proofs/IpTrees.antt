-- The spellings of IP addresses are lawful.
use Rattle.std.proofs.Common.{◌≡◌, ◌⊎◌, ◌==◌, ◌+◌, ◌*◌, ◌/◌, ◌%◌, ◌<◌, ◌^◌, ℕ, zero, suc, List, [], ◌∷◌, length, false, get_or, drop, Some, option_map, inl, inr, refl, ap, ◌∙◌, arith, IsUtf8, eq-eqb, ne_eqb}
use Rattle.std.specs.declared.net.ip_addr.IpAddr.{IpAddr}
use Rattle.std.specs.declared.net.ip_addr.IpAddr.TheVariants as Ip
use Rattle.std.specs.Net.Addr.{segments_of, octets_of}
use Rattle.std.specs.Net.Grammar.{IsIpText}
use Rattle.std.specs.Net.Text.{ipv4_text, ipv6_text, hex_groups_text, ip_text}
use Rattle.std.proofs.lemmas.Bool.{cond_both, cond-true, cond-false}
use Rattle.std.proofs.lemmas.List.Elements.{All-from_get_or}
use Rattle.std.proofs.lemmas.Str.{IsUtf8-append}
use Rattle.std.proofs.NetLemmas.Alphabet.{IsDigitOrDot, IsHexOrColon, All-ipv4_text, All-hex_groups_text}
use Rattle.std.proofs.NetLemmas.Texts.{AllSegments, AllSegments-drop}
use Rattle.sentry_tables.specs.Cell.{Cell, absent, octets, choice}
use Rattle.sentry_tables.specs.Lawful.{IsLawful, IsNormal, RefusesNull}
use Rattle.sentry_tables.specs.Spelling.{SpellingLaws}
use Rattle.sentry_tables.proofs.Spellings.{read_as_laws, spelled_laws, spelled_refuses_null}
use Rattle.sentry_text.specs.declared.ip.IpAddress.{IpAddress}
use Rattle.sentry_text.specs.declared.ip.IpAddress.TheVariants.{Auto, Exact}
use Rattle.sentry_text.specs.Ip.{auto_text, IsIpAddress, ip_of, ip_address_of, ip_address_text, IsStoredIp, IsStoredIpAddress}
use Rattle.sentry_text.specs.IpTree.{ip_cell, IsIpCell, ip_cell_text, ip_spelling, ip_kind, ip_address_cell, IsIpAddressCell, ip_address_cell_text, ip_address_spelling, ip_address_kind}
use Rattle.sentry_text.proofs.Ips.{ip_of_iff, ip_address_of_iff, written_ip, written_ip_address}
use Rattle.sentry_text.proofs.IpRanges.{stored_ip, stored_ip_address}
use Rattle.sentry_text.proofs.ValueTexts.{ValueLaws, value_laws, value_refused}
use Rattle.sentry_text.proofs.Bounds.{Small, small_nil, small_cons, small_within, small_utf8}

-- ---- segments and their bytes

bytes_size : (xs : List ℕ) → length (octets_of xs) ≡ 2 * length xs
bytes_size [] = refl
bytes_size (s ∷ xs) = let rest = bytes_size xs in omega arith

pub bytes_small : (xs : List ℕ) → Small (2 ^ 16) xs → Small 256 (octets_of xs)
bytes_small [] small = small_nil 256 (omega arith)
bytes_small (s ∷ xs) small =
    let first = small 0 in
    let rest = bytes_small xs (λ k. small (suc k)) in
    small_cons 256 (s / 256) ((s % 256) ∷ octets_of xs) (omega (arith, first)) (small_cons 256 (s % 256) (octets_of xs) (omega arith) rest)

segments_back : (xs : List ℕ) → segments_of (octets_of xs) ≡ xs
segments_back [] = refl
segments_back (s ∷ xs) =
    let whole : s / 256 * 256 + s % 256 ≡ s = omega arith in
    let rest = segments_back xs in
    cc

-- n pairs of bytes
abbrev Pairs : ℕ → List ℕ → Type 0
Pairs n bytes = (length bytes ≡ 2 * n) × Small 256 bytes

pairs_back : (n : ℕ) (bytes : List ℕ) → Pairs n bytes → (octets_of (segments_of bytes) ≡ bytes) × (length (segments_of bytes) ≡ n) × Small (2 ^ 16) (segments_of bytes)
pairs_back n [] h = (refl, omega (arith, h.0), small_nil (2 ^ 16) (omega arith))
pairs_back n (a ∷ []) h = absurd (omega (arith, h.0))
pairs_back zero (a ∷ b ∷ bytes) h = absurd (omega (arith, h.0))
pairs_back (suc n) (a ∷ b ∷ bytes) h =
    let first = h.1 0 in
    let second = h.1 1 in
    let high : (a * 256 + b) / 256 ≡ a = omega arith in
    let low : (a * 256 + b) % 256 ≡ b = omega arith in
    let (back, size, small) = pairs_back n bytes (omega (arith, h.0), λ k. h.1 (suc (suc k))) in
    (cc, omega (arith, size), small_cons (2 ^ 16) (a * 256 + b) (segments_of bytes) (omega (arith, first, second)) small)

-- ---- addresses

stored_v4 : (bytes : List ℕ) → length bytes ≡ 4 → Small 256 bytes → IsIpCell (octets bytes)
stored_v4 bytes size small = (inl size, All-from_get_or (λ b. b < 256) bytes 0 (λ k within. small k))

pub stored_cell : (ip : IpAddr) → IsStoredIp ip → IsIpCell (ip_cell ip)
stored_cell (Ip.V4 a) h = stored_v4 a.octets h.0 h.1
stored_cell (Ip.V6 a) h =
    let size = bytes_size a.segments in
    (inr (omega (arith, size, h.0)), All-from_get_or (λ b. b < 256) (octets_of a.segments) 0 (λ k within. bytes_small a.segments h.1 k))

of_bytes : (bytes : List ℕ) → (length bytes ≡ 4) ⊎ (length bytes ≡ 16) → Small 256 bytes → (ip : IpAddr) × IsStoredIp ip × (ip_cell ip ≡ octets bytes)
of_bytes bytes (inl four) small = (Ip.V4 (record { octets = bytes }), (four, small), refl)
of_bytes bytes (inr sixteen) small =
    let (back, size, segments) = pairs_back 8 bytes (sixteen, small) in
    (Ip.V6 (record { segments = segments_of bytes }), (size, segments), ap octets back)

of_ip_cell : (c : Cell) → IsIpCell c → (ip : IpAddr) × IsStoredIp ip × (ip_cell ip ≡ c)
of_ip_cell (octets bytes) h = of_bytes bytes h.0 (small_within 256 bytes (omega arith) (λ k within. h.1 k 0 within))
of_ip_cell _ h = absurd h

pub ip_written : (ip : IpAddr) → IsStoredIp ip → ip_cell_text (ip_cell ip) ≡ ip_text ip
ip_written (Ip.V4 a) h = cond-true (length a.octets == 4) (ipv4_text a.octets) _ (eq-eqb (length a.octets) 4 h.0)
ip_written (Ip.V6 a) h =
    let size = bytes_size a.segments in
    let other : (length (octets_of a.segments) == 4) ≡ false = ne_eqb (length (octets_of a.segments)) 4 (λ e. omega (arith, e, size, h.0)) in
    cond-false (length (octets_of a.segments) == 4) (ipv4_text (octets_of a.segments)) _ other ∙ ap ipv6_text (segments_back a.segments)

-- ---- texts are ASCII

dotted_small : (c : ℕ) → IsDigitOrDot c → c < 128
dotted_small c (inl h) = omega (arith, h)
dotted_small c (inr h) = omega (arith, h)

grouped_small : (c : ℕ) → IsHexOrColon c → c < 128
grouped_small c (inl h) = omega (arith, h)
grouped_small c (inr h) = omega (arith, h)

dotted_utf8 : (o : List ℕ) → Small 256 o → IsUtf8 (ipv4_text o)
dotted_utf8 o small = small_utf8 (ipv4_text o) (small_within 128 (ipv4_text o) (omega arith) (λ k within. dotted_small (get_or (ipv4_text o) k 0) (All-ipv4_text o small k 0 within)))

grouped_utf8 : (xs : List ℕ) → AllSegments xs → IsUtf8 (hex_groups_text xs)
grouped_utf8 xs small = small_utf8 (hex_groups_text xs) (small_within 128 (hex_groups_text xs) (omega arith) (λ k within. grouped_small (get_or (hex_groups_text xs) k 0) (All-hex_groups_text xs small k 0 within)))

mapped_front : IsUtf8 (58 ∷ 58 ∷ 102 ∷ 102 ∷ 102 ∷ 102 ∷ 58 ∷ [])
unfolding lib.Utf8.encode
mapped_front = (58 ∷ 58 ∷ 102 ∷ 102 ∷ 102 ∷ 102 ∷ 58 ∷ [], (refl, refl))

v6_utf8 : (xs : List ℕ) → AllSegments xs → IsUtf8 (ipv6_text xs)
unfolding ipv6_text
v6_utf8 xs small =
    cond_both _ _ _ IsUtf8
    (λ _. IsUtf8-append (58 ∷ 58 ∷ 102 ∷ 102 ∷ 102 ∷ 102 ∷ 58 ∷ []) (ipv4_text (octets_of (drop 6 xs))) mapped_front (dotted_utf8 (octets_of (drop 6 xs)) (bytes_small (drop 6 xs) (AllSegments-drop 6 xs small))))
    (λ _. grouped_utf8 xs small)

ip_utf8 : (ip : IpAddr) → IsStoredIp ip → IsUtf8 (ip_text ip)
ip_utf8 (Ip.V4 a) h = dotted_utf8 a.octets h.1
ip_utf8 (Ip.V6 a) h = v6_utf8 a.segments h.1

ip_values : ValueLaws ip_of ip_text IsStoredIp ip_cell ip_cell_text IsIpCell
ip_values = record {
  value = of_ip_cell;
  stored = stored_cell;
  text = ip_written;
  back = written_ip;
  held = stored_ip;
  utf8 = ip_utf8;
}

pub ip_laws : SpellingLaws ip_spelling
ip_laws = read_as_laws _ ip_cell_text IsIpCell (value_laws ip_of ip_text IsStoredIp ip_cell ip_cell_text IsIpCell ip_values)

pub ip_lawful : IsLawful ip_kind
ip_lawful = spelled_laws ip_spelling ip_laws

pub ip_refuses_null : RefusesNull ip_kind
ip_refuses_null = spelled_refuses_null ip_spelling

pub ip_normal : (c : Cell) → IsIpCell c → IsNormal ip_kind c
ip_normal c h = (h, tt, tt, refl)

pub ip_read : (text : List ℕ) (ip : IpAddr) → IsIpText text ip → option_map ip_cell (ip_of text) ≡ Some (ip_cell ip)
ip_read text ip h = ap (option_map ip_cell) ((ip_of_iff text ip).1 h)

pub ip_refused : (text : List ℕ) → ((ip : IpAddr) → IsIpText text ip → ⊥) → (c : Cell) → option_map ip_cell (ip_of text) ≡ Some c → ⊥
ip_refused text none = value_refused ip_of ip_text IsStoredIp ip_cell ip_cell_text IsIpCell text (λ ip e. none ip ((ip_of_iff text ip).0 e))

-- ---- addresses of users

of_address_cell : (c : Cell) → IsIpAddressCell c → (a : IpAddress) × IsStoredIpAddress a × (ip_address_cell a ≡ c)
of_address_cell (choice zero absent) h = (Auto, tt, refl)
of_address_cell (choice (suc zero) c) h = let (ip, held, same) = of_ip_cell c h in (Exact ip, held, ap (choice 1) same)
of_address_cell _ h = absurd h

pub stored_address : (a : IpAddress) → IsStoredIpAddress a → IsIpAddressCell (ip_address_cell a)
stored_address Auto h = tt
stored_address (Exact ip) h = stored_cell ip h

pub address_written : (a : IpAddress) → IsStoredIpAddress a → ip_address_cell_text (ip_address_cell a) ≡ ip_address_text a
address_written Auto h = refl
address_written (Exact ip) h = ip_written ip h

auto_utf8 : IsUtf8 auto_text
unfolding lib.Utf8.encode
auto_utf8 = (auto_text, (refl, refl))

address_utf8 : (a : IpAddress) → IsStoredIpAddress a → IsUtf8 (ip_address_text a)
address_utf8 Auto h = auto_utf8
address_utf8 (Exact ip) h = ip_utf8 ip h

address_values : ValueLaws ip_address_of ip_address_text IsStoredIpAddress ip_address_cell ip_address_cell_text IsIpAddressCell
address_values = record {
  value = of_address_cell;
  stored = stored_address;
  text = address_written;
  back = written_ip_address;
  held = stored_ip_address;
  utf8 = address_utf8;
}

pub ip_address_laws : SpellingLaws ip_address_spelling
ip_address_laws = read_as_laws _ ip_address_cell_text IsIpAddressCell (value_laws ip_address_of ip_address_text IsStoredIpAddress ip_address_cell ip_address_cell_text IsIpAddressCell address_values)

pub ip_address_lawful : IsLawful ip_address_kind
ip_address_lawful = spelled_laws ip_address_spelling ip_address_laws

pub ip_address_refuses_null : RefusesNull ip_address_kind
ip_address_refuses_null = spelled_refuses_null ip_address_spelling

pub ip_address_normal : (c : Cell) → IsIpAddressCell c → IsNormal ip_address_kind c
ip_address_normal c h = (h, tt, tt, refl)

pub address_read : (text : List ℕ) (a : IpAddress) → IsIpAddress text a → option_map ip_address_cell (ip_address_of text) ≡ Some (ip_address_cell a)
address_read text a h = ap (option_map ip_address_cell) ((ip_address_of_iff text a).1 h)

pub address_refused : (text : List ℕ) → ((a : IpAddress) → IsIpAddress text a → ⊥) → (c : Cell) → option_map ip_address_cell (ip_address_of text) ≡ Some c → ⊥
address_refused text none =
    value_refused ip_address_of ip_address_text IsStoredIpAddress ip_address_cell ip_address_cell_text IsIpAddressCell text (λ a e. none a ((ip_address_of_iff text a).0 e))
