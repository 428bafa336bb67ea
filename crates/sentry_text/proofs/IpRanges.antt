-- The addresses that texts write have numbers in range.
use Rattle.std.proofs.Common.{◌≡◌, ◌+◌, ◌-◌, ◌*◌, ◌<◌, ◌≤◌, ◌^◌, ℕ, List, [], ◌∷◌, ◌++◌, length, Bool, true, false, replicate, Some, inl, inr, refl, sym, subst, arith, length-append}
use Rattle.std.specs.declared.net.ip_addr.IpAddr.{IpAddr}
use Rattle.std.specs.declared.net.ip_addr.IpAddr.TheVariants as Ip
use Rattle.std.specs.Net.Addr.{segments_of}
use Rattle.std.specs.Net.Grammar.{IsDotted, IsGroup, IsGroupsAfter, IsElided, IsColonHex, IsIpText}
use Rattle.std.proofs.lemmas.Int.Digits.{digits_value-lt}
use Rattle.std.proofs.lemmas.List.{length-replicate}
use Rattle.std.proofs.Math.Nat.{pow-le-pow_right}
use Rattle.sentry_text.specs.declared.ip.IpAddress.{IpAddress}
use Rattle.sentry_text.specs.declared.ip.IpAddress.TheVariants.{Auto, Exact}
use Rattle.sentry_text.specs.Ip.{ip_of, ip_address_of, IsStoredIp, IsStoredIpAddress}
use Rattle.sentry_text.proofs.Bounds.{Small, small_nil, small_cons, small_append, small_zeros}
use Rattle.sentry_text.proofs.Ips.{ip_of_iff, ip_address_of_iff}

-- ---- IPv4

dotted_four : (text octets : List ℕ) → IsDotted text octets → (length octets ≡ 4) × Small (2 ^ 8) octets
dotted_four text octets h =
    let (a, b, c, d) = h.fit in
    let none = small_nil 256 (omega arith) in
    let small : Small (2 ^ 8) (h.a ∷ h.b ∷ h.c ∷ h.d ∷ []) = small_cons 256 h.a (h.b ∷ h.c ∷ h.d ∷ []) a (small_cons 256 h.b (h.c ∷ h.d ∷ []) b (small_cons 256 h.c (h.d ∷ []) c (small_cons 256 h.d [] d none))) in
    subst (λ o. (length o ≡ 4) × Small (2 ^ 8) o) (sym h.value) (refl, small)

dotted_two : (text octets : List ℕ) → IsDotted text octets → Small (2 ^ 16) (segments_of octets)
dotted_two text octets h =
    let (a, b, c, d) = h.fit in
    let none = small_nil (2 ^ 16) (omega arith) in
    let small : Small (2 ^ 16) ((h.a * 256 + h.b) ∷ (h.c * 256 + h.d) ∷ []) = small_cons (2 ^ 16) (h.a * 256 + h.b) ((h.c * 256 + h.d) ∷ []) (omega (arith, a, b)) (small_cons (2 ^ 16) (h.c * 256 + h.d) [] (omega (arith, c, d)) none) in
    subst (λ o. Small (2 ^ 16) (segments_of o)) (sym h.value) small

-- ---- IPv6

group_small : (text : List ℕ) (n : ℕ) → IsGroup text n → n < 2 ^ 16
group_small text n h =
    let below = digits_value-lt 16 text h.0.0.1 in
    let most : 16 ^ length text ≤ 16 ^ 4 = pow-le-pow_right (omega arith) h.1 in
    omega (arith, below, most, h.0.1)

groups_small : (ipv4 : Bool) (lead text segments : List ℕ) → IsGroupsAfter ipv4 lead text segments → Small (2 ^ 16) segments
groups_small ipv4 lead text [] h = small_nil (2 ^ 16) (omega arith)
groups_small ipv4 lead text (s ∷ segments) (inl (group, rest, whole, is, more)) =
    small_cons (2 ^ 16) s segments (group_small group s is) (groups_small ipv4 (58 ∷ []) rest segments more)
groups_small ipv4 lead text (s ∷ segments) (inr (last, octets, allowed, whole, is, value)) =
    subst (Small (2 ^ 16)) (sym value) (dotted_two last octets is)

elided_eight : (text segments : List ℕ) → IsElided text segments → (length segments ≡ 8) × Small (2 ^ 16) segments
elided_eight text segments h =
    let zeros = 8 - length h.head - length h.tail in
    let front = groups_small false [] h.head_text h.head h.head_groups in
    let back = groups_small true [] h.tail_text h.tail h.tail_groups in
    let size : length (h.head ++ replicate zeros 0 ++ h.tail) ≡ 8 = omega (arith, length-append (h.head ++ replicate zeros 0) h.tail, length-append h.head (replicate zeros 0), length-replicate {A = ℕ} zeros 0, h.room) in
    let small = small_append (2 ^ 16) (h.head ++ replicate zeros 0) h.tail (small_append (2 ^ 16) h.head (replicate zeros 0) front (small_zeros (2 ^ 16) zeros (omega arith))) back in
    subst (λ s. (length s ≡ 8) × Small (2 ^ 16) s) (sym h.value) (size, small)

colon_hex_eight : (text segments : List ℕ) → IsColonHex text segments → (length segments ≡ 8) × Small (2 ^ 16) segments
colon_hex_eight text segments (inl (groups, eight)) = (eight, groups_small true [] text segments groups)
colon_hex_eight text segments (inr elided) = elided_eight text segments elided

-- ---- addresses

text_stored : (text : List ℕ) (ip : IpAddr) → IsIpText text ip → IsStoredIp ip
text_stored text (Ip.V4 a) h = dotted_four text a.octets h
text_stored text (Ip.V6 a) h = colon_hex_eight text a.segments h

pub stored_ip : (text : List ℕ) (ip : IpAddr) → ip_of text ≡ Some ip → IsStoredIp ip
stored_ip text ip e = text_stored text ip ((ip_of_iff text ip).0 e)

pub stored_ip_address : (text : List ℕ) (a : IpAddress) → ip_address_of text ≡ Some a → IsStoredIpAddress a
stored_ip_address text Auto e = tt
stored_ip_address text (Exact ip) e = text_stored text ip ((ip_address_of_iff text (Exact ip)).0 e)
