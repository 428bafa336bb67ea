-- Which texts are IP addresses, and what they are read as.
use Rattle.std.proofs.Common.{◌≡◌, inl, inr, ℕ, ◌==◌, true, false, List, [], ◌∷◌, ◌++◌, length, Option, Some, None, option_map, refl, sym, ap, subst, ◌∙◌, ◌↔◌, arith, append-nil, bytes_eq, lit≤}
use Rattle.std.specs.declared.net.ip_addr.IpAddr.{IpAddr}
use Rattle.std.specs.declared.net.ip_addr.IpAddr.TheVariants as Ip
use Rattle.std.specs.Net.Addr.{ipv4_octets, ipv6_segments}
use Rattle.std.specs.Net.Grammar.{IsDotted, IsColonHex, IsIpText}
use Rattle.std.specs.Net.Reader.{read_ipv4, read_ipv6, read_octet, read_number, read_segments, read_segment, whole_value}
use Rattle.std.specs.Net.Text.{ip_text}
use Rattle.std.proofs.lemmas.Bool.{cases_Bool, cond-true, cond-false, eqb-true, false_from_ne_true}
use Rattle.std.proofs.lemmas.Slice.Eq.{bytes_eq-Decides}
use Rattle.std.proofs.NetLemmas.Options.{and_then_some, map_some}
use Rattle.std.proofs.lemmas.Option.{cond_some}
use Rattle.std.proofs.NetLemmas.Ipv4.{read_ipv4_sound, read_ipv4_complete}
use Rattle.std.proofs.NetLemmas.Ipv6.{read_ipv6_sound, read_ipv6_complete, EndsGroups-nil, IsDotted-not_colon_hex}
use Rattle.std.proofs.NetLemmas.Texts.{IsDotted-ipv4_text, IsColonHex-ipv6_text}
use Rattle.sentry_text.specs.declared.ip.IpAddress.{IpAddress}
use Rattle.sentry_text.specs.declared.ip.IpAddress.TheVariants.{Auto, Exact}
use Rattle.sentry_text.specs.Ip.{auto_text, IsIpAddress, first_ip, ip_of, ip_address_of, ip_address_text, IsStoredIp, IsStoredIpAddress}

nothing_left : (text front rest : List ℕ) → (length rest == 0) ≡ true → text ≡ front ++ rest → front ≡ text
nothing_left text front [] none e = sym (e ∙ append-nil front)
nothing_left text front (c ∷ rest) none e = absurd (omega (arith, eqb-true (length (c ∷ rest)) 0 none))

whole_v4 : (text octets : List ℕ) → whole_value (read_ipv4 text) ≡ Some octets ↔ IsDotted text octets
whole_v4 text octets = (
  λ h.
      and_then_some _ (read_ipv4 text) octets h
      (λ x is last.
      let parts = cond_some _ x.0 octets last in
      let found = read_ipv4_sound text x.0 x.1 is in
      let is_front = nothing_left text found.0 x.1 parts.0 found.1 in
      subst (λ (o : List ℕ). IsDotted text o) parts.1 (subst (λ (t : List ℕ). IsDotted t x.0) is_front found.2)),
  λ h. ap whole_value (ap read_ipv4 (sym (append-nil text)) ∙ read_ipv4_complete text octets [] h (lit≤ tt)),
)

whole_v6 : (text segments : List ℕ) → whole_value (read_ipv6 text) ≡ Some segments ↔ IsColonHex text segments
whole_v6 text segments = (
  λ h.
      and_then_some _ (read_ipv6 text) segments h
      (λ x is last.
      let parts = cond_some _ x.0 segments last in
      let found = read_ipv6_sound text x.0 x.1 is in
      let is_front = nothing_left text found.0 x.1 parts.0 found.1 in
      subst (λ (o : List ℕ). IsColonHex text o) parts.1 (subst (λ (t : List ℕ). IsColonHex t x.0) is_front found.2)),
  λ h. ap whole_value (ap read_ipv6 (sym (append-nil text)) ∙ read_ipv6_complete text segments [] h EndsGroups-nil),
)

-- the address of what the two readers find
first_is : (text : List ℕ) (ip : IpAddr) (four six : Option (List ℕ)) → ((o : List ℕ) → four ≡ Some o → IsDotted text o) → ((s : List ℕ) → six ≡ Some s → IsColonHex text s) → first_ip four six ≡ Some ip → IsIpText text ip
first_is text ip (Some o) six is_four is_six e =
    let same : Ip.V4 (record { octets = o }) ≡ ip = cc in
    subst (IsIpText text) same (is_four o refl)
first_is text ip None (Some s) is_four is_six e =
    let same : Ip.V6 (record { segments = s }) ≡ ip = cc in
    subst (IsIpText text) same (is_six s refl)
first_is text ip None None is_four is_six e = absurd cc

none_four : (text segments : List ℕ) (four : Option (List ℕ)) → ((o : List ℕ) → four ≡ Some o → IsDotted text o) → IsColonHex text segments → four ≡ None
none_four text segments None is_four h = refl
none_four text segments (Some o) is_four h = absurd (IsDotted-not_colon_hex text o segments (is_four o refl) h)

first_gives : (text : List ℕ) (ip : IpAddr) → IsIpText text ip → first_ip (whole_value (read_ipv4 text)) (whole_value (read_ipv6 text)) ≡ Some ip
first_gives text (Ip.V4 a) h = ap (λ (o : Option (List ℕ)). first_ip o (whole_value (read_ipv6 text))) ((whole_v4 text (ipv4_octets a)).1 h)
first_gives text (Ip.V6 a) h =
    let none = none_four text (ipv6_segments a) (whole_value (read_ipv4 text)) (λ o. (whole_v4 text o).0) h in
    ap (λ (o : Option (List ℕ)). first_ip o (whole_value (read_ipv6 text))) none
    ∙ ap (first_ip None) ((whole_v6 text (ipv6_segments a)).1 h)

auto_is_none : first_ip (whole_value (read_ipv4 auto_text)) (whole_value (read_ipv6 auto_text)) ≡ None
unfolding read_ipv4 read_ipv6 read_octet read_number read_segments read_segment
auto_is_none = refl

not_auto : (text : List ℕ) (ip : IpAddr) → IsIpText text ip → bytes_eq text auto_text ≡ false
not_auto text ip h =
    false_from_ne_true _ (λ t.
    let is_auto = (bytes_eq-Decides text auto_text).0 t in
    let some = first_gives auto_text ip (subst (λ (u : List ℕ). IsIpText u ip) is_auto h) in
    let none = auto_is_none in
    cc)

pub ip_of_iff : (text : List ℕ) (ip : IpAddr) → ip_of text ≡ Some ip ↔ IsIpText text ip
unfolding ip_of
ip_of_iff text ip = (first_is text ip _ _ (λ o. (whole_v4 text o).0) (λ s. (whole_v6 text s).0), first_gives text ip)

ip_parts : (text : List ℕ) (a : IpAddress) → ip_address_of text ≡ Some a → IsIpAddress text a
unfolding ip_address_of
ip_parts text a e =
    elim (cases_Bool (bytes_eq text auto_text)) [
      | inl t ↦
          let same : Auto ≡ a = let f : Some Auto ≡ Some a = sym (cond-true _ _ _ t) ∙ e in cc in
          subst (IsIpAddress text) same ((bytes_eq-Decides text auto_text).0 t)
      | inr f ↦ map_some Exact _ a (sym (cond-false _ _ _ f) ∙ e) (λ ip is same. subst (IsIpAddress text) same ((ip_of_iff text ip).0 is))
    ]

ip_is : (text : List ℕ) (a : IpAddress) → IsIpAddress text a → ip_address_of text ≡ Some a
unfolding ip_address_of
ip_is text Auto h = cond-true _ _ _ ((bytes_eq-Decides text auto_text).1 h)
ip_is text (Exact ip) h = cond-false _ _ _ (not_auto text ip h) ∙ ap (option_map Exact) ((ip_of_iff text ip).1 h)

pub ip_address_of_iff : (text : List ℕ) (a : IpAddress) → ip_address_of text ≡ Some a ↔ IsIpAddress text a
ip_address_of_iff text a = (ip_parts text a, ip_is text a)

written : (ip : IpAddr) → IsStoredIp ip → IsIpText (ip_text ip) ip
written (Ip.V4 a) h = IsDotted-ipv4_text _ h.0 h.1
written (Ip.V6 a) h = IsColonHex-ipv6_text _ h.0 h.1

pub written_ip : (ip : IpAddr) → IsStoredIp ip → ip_of (ip_text ip) ≡ Some ip
written_ip ip h = (ip_of_iff (ip_text ip) ip).1 (written ip h)

pub written_ip_address : (a : IpAddress) → IsStoredIpAddress a → ip_address_of (ip_address_text a) ≡ Some a
written_ip_address Auto h = (ip_address_of_iff auto_text Auto).1 refl
written_ip_address (Exact ip) h = (ip_address_of_iff (ip_text ip) (Exact ip)).1 (written ip h)
