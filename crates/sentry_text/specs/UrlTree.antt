-- URLs in trees of JSON: as their texts.
use Rattle.std.specs.Prelude.{◌≡◌, ◌≢◌, ℕ, List, [], ◌∷◌, Option, Some, None, Ok, pos}
use Rattle.std.specs.Net.Addr.{ipv4_octets, ipv6_segments}
use Rattle.url.specs.declared.error.ParseError.{ParseError}
use Rattle.url.specs.declared.error.ParseError.TheVariants.{Overflow, OutOfMemory}
use Rattle.url.specs.declared.host.Host.{Host}
use Rattle.url.specs.declared.host.Host.TheVariants.{Domain, Ipv4, Ipv6}
use Rattle.url.specs.declared.scheme.SchemeType.TheVariants.{SpecialNotFile}
use Rattle.url.specs.Parts.{Parts, kind_of, serialize, IsValid}
use Rattle.url.specs.Parser.{parse_url}
use Rattle.sentry_tables.specs.Cell.{Cell, present, text, octets, whole, sequence, Cells, no_cells, cell}
use Rattle.sentry_tables.specs.Kind.{Kind}
use Rattle.sentry_tables.specs.Cells.{natural_cell, option_cell, list_cell}
use Rattle.sentry_tables.specs.Spelling.{Spelling, spelled_kind}
use Rattle.sentry_tables.specs.declared.error.TreeError.{TreeError}
use Rattle.sentry_tables.specs.declared.error.TreeError.TheVariants as tree
use Rattle.sentry_text.specs.CellParts.{cells_of, first, others}

-- ---- a URL as cells

-- a domain, the four bytes of an IPv4 address, or the eight numbers of an IPv6 address
abbrev pub host_cell : Host (List ℕ) → Cell
host_cell (Domain domain) = text domain
host_cell (Ipv4 address) = octets (ipv4_octets address)
host_cell (Ipv6 address) = list_cell natural_cell (ipv6_segments address)

-- a cell for each part
abbrev pub url_cell : Parts → Cell
url_cell url =
    sequence (cell (text url.scheme) (cell (text url.username) (cell (text url.password) (cell (option_cell host_cell url.host)
    (cell (option_cell natural_cell url.port) (cell (text url.path) (cell (option_cell text url.query)
    (cell (option_cell text url.fragment) no_cells))))))))

-- ---- the URL of a cell

abbrev pub text_of : Cell → List ℕ
text_of (text s) = s
text_of _ = []

abbrev pub natural_of : Cell → ℕ
natural_of (whole (pos n)) = n
natural_of _ = 0

abbrev pub naturals_of : Cells → List ℕ
naturals_of no_cells = []
naturals_of (cell c cs) = natural_of c ∷ naturals_of cs

abbrev pub host_of : Cell → Host (List ℕ)
host_of (octets bytes) = Ipv4 (record { octets = bytes })
host_of (sequence numbers) = Ipv6 (record { segments = naturals_of numbers })
host_of c = Domain (text_of c)

abbrev pub option_of : {A : Type 0} → (Cell → A) → Cell → Option A
option_of f (present c) = Some (f c)
option_of f _ = None

-- the URL whose parts these are
unfoldable pub url_of : Cell → Parts
url_of c =
    let schemes = cells_of c in
    let usernames = others schemes in
    let passwords = others usernames in
    let hosts = others passwords in
    let ports = others hosts in
    let paths = others ports in
    let queries = others paths in
    record {
      scheme = text_of (first schemes);
      username = text_of (first usernames);
      password = text_of (first passwords);
      host = option_of host_of (first hosts);
      port = option_of natural_of (first ports);
      path = text_of (first paths);
      query = option_of text_of (first queries);
      fragment = option_of text_of (first (others queries));
    }

-- ---- the spelling

-- the URL's text is read as that URL
abbrev pub UrlReadsBack : Parts → Type 0
UrlReadsBack url = parse_url None (serialize url) ≡ Ok url

-- A text spells the URL that it is parsed as, with no base. A URL is stored where it is valid. A URL
-- of another scheme than `http`, `https`, `ws`, `wss` and `ftp` is readable where its text is read as
-- that URL; of these schemes each valid URL is.
abbrev pub url_spelling : Spelling
url_spelling = record {
  spells = λ s c. (url : Parts) × (url_cell url ≡ c) × (parse_url None s ≡ Ok url);
  written = λ c. serialize (url_of c);
  norm = λ c. c;
  stored = λ c. (url : Parts) × (url_cell url ≡ c) × IsValid url;
  readable = λ c. (url : Parts) × (url_cell url ≡ c)
      × (kind_of url ≢ SpecialNotFile → UrlReadsBack url);
}

abbrev pub url_kind : Kind
url_kind = spelled_kind url_spelling

-- the error of a tree with a text that was refused, or that took more than memory or a URL can hold
abbrev pub tree_error : ParseError → TreeError
tree_error Overflow = tree.Memory
tree_error OutOfMemory = tree.Memory
tree_error _ = tree.Misfit
