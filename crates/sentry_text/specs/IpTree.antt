-- IP addresses, and those of users, as texts of trees.
use Rattle.std.specs.Prelude.{◌≡◌, ◌⊎◌, ◌==◌, ℕ, zero, suc, ◌<◌, List, [], length, All, option_map, if◌then◌else◌, ⊤}
use Rattle.std.specs.declared.net.ip_addr.IpAddr.{IpAddr}
use Rattle.std.specs.declared.net.ip_addr.IpAddr.TheVariants as Ip
use Rattle.std.specs.Net.Addr.{ipv4_octets, ipv6_octets, segments_of}
use Rattle.std.specs.Net.Text.{ipv4_text, ipv6_text}
use Rattle.sentry_tables.specs.Cell.{Cell, absent, octets, choice}
use Rattle.sentry_tables.specs.Kind.{Kind}
use Rattle.sentry_tables.specs.Spelling.{Spelling, read_as, spelled_kind}
use Rattle.sentry_text.specs.declared.ip.IpAddress.{IpAddress}
use Rattle.sentry_text.specs.declared.ip.IpAddress.TheVariants.{Auto, Exact}
use Rattle.sentry_text.specs.Ip.{auto_text, ip_of, ip_address_of}

-- ---- addresses

-- the four bytes of an IPv4 address, or the sixteen of an IPv6 address
abbrev pub ip_cell : IpAddr → Cell
ip_cell (Ip.V4 a) = octets (ipv4_octets a)
ip_cell (Ip.V6 a) = octets (ipv6_octets a)

abbrev pub IsIpCell : Cell → Type 0
IsIpCell (octets bytes) = ((length bytes ≡ 4) ⊎ (length bytes ≡ 16)) × All (λ b. b < 256) bytes
IsIpCell _ = ⊥

-- the written text
abbrev pub bytes_text : List ℕ → List ℕ
bytes_text bytes = if length bytes == 4 then ipv4_text bytes else ipv6_text (segments_of bytes)

abbrev pub ip_cell_text : Cell → List ℕ
ip_cell_text (octets bytes) = bytes_text bytes
ip_cell_text _ = []

-- a text spells the address that it is read as; each address reads back, so none is unreadable
abbrev pub ip_spelling : Spelling
ip_spelling = read_as (λ text. option_map ip_cell (ip_of text)) ip_cell_text IsIpCell

abbrev pub ip_kind : Kind
ip_kind = spelled_kind ip_spelling

-- ---- addresses of users

abbrev pub ip_address_cell : IpAddress → Cell
ip_address_cell Auto = choice 0 absent
ip_address_cell (Exact ip) = choice 1 (ip_cell ip)

abbrev pub IsIpAddressCell : Cell → Type 0
IsIpAddressCell (choice zero absent) = ⊤
IsIpAddressCell (choice (suc zero) ip) = IsIpCell ip
IsIpAddressCell _ = ⊥

abbrev pub ip_address_cell_text : Cell → List ℕ
ip_address_cell_text (choice zero absent) = auto_text
ip_address_cell_text (choice (suc zero) ip) = ip_cell_text ip
ip_address_cell_text _ = []

abbrev pub ip_address_spelling : Spelling
ip_address_spelling =
    read_as (λ text. option_map ip_address_cell (ip_address_of text)) ip_address_cell_text IsIpAddressCell

abbrev pub ip_address_kind : Kind
ip_address_kind = spelled_kind ip_address_spelling
