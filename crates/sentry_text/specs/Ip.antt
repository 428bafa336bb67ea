-- IP addresses of users as texts. The texts of addresses are those of std: `IsIpText` and `ip_text`.
use Rattle.std.specs.Prelude.{◌≡◌, ℕ, List, codes, bytes_eq, Option, Some, None, option_map, if◌then◌else◌, ⊤}
use Rattle.std.specs.declared.net.ip_addr.IpAddr.{IpAddr}
use Rattle.std.specs.declared.net.ip_addr.IpAddr.TheVariants as Ip
use Rattle.std.specs.Net.Addr.{IsIpv4Addr, IsIpv6Addr, MatchIp}
use Rattle.std.specs.Net.Grammar.{IsIpText}
use Rattle.std.specs.Net.Reader.{read_ipv4, read_ipv6, whole_value}
use Rattle.std.specs.Net.Text.{ip_text}
use Rattle.sentry_text.specs.declared.ip.IpAddress.{IpAddress}
use Rattle.sentry_text.specs.declared.ip.IpAddress.TheVariants.{Auto, Exact}

-- the text that asks for the address of the connection
abbrev pub auto_text : List ℕ
auto_text = codes "{{auto}}"

-- the text writes the address
abbrev pub IsIpAddress : List ℕ → IpAddress → Type 0
IsIpAddress text Auto = text ≡ auto_text
IsIpAddress text (Exact ip) = IsIpText text ip

-- the IPv4 address of a text that is one, or else the IPv6 address
abbrev pub first_ip : Option (List ℕ) → Option (List ℕ) → Option IpAddr
first_ip (Some octets) segments = Some (Ip.V4 (record { octets = octets }))
first_ip None segments = option_map (λ s. Ip.V6 (record { segments = s })) segments

-- what the text of an address is read as
unfoldable pub ip_of : List ℕ → Option IpAddr
ip_of text = first_ip (whole_value (read_ipv4 text)) (whole_value (read_ipv6 text))

-- what the text is read as
unfoldable pub ip_address_of : List ℕ → Option IpAddress
ip_address_of text =
    if bytes_eq text auto_text then Some Auto
    else option_map Exact (ip_of text)

-- the written text
abbrev pub ip_address_text : IpAddress → List ℕ
ip_address_text Auto = auto_text
ip_address_text (Exact ip) = ip_text ip

-- what every address holds: four numbers below 2 ^ 8, or eight below 2 ^ 16
abbrev pub IsStoredIp : IpAddr → Type 0
IsStoredIp ip = MatchIp ip IsIpv4Addr IsIpv6Addr

abbrev pub IsStoredIpAddress : IpAddress → Type 0
IsStoredIpAddress Auto = ⊤
IsStoredIpAddress (Exact ip) = IsStoredIp ip
