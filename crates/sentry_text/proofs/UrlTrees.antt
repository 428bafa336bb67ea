-- The spelling of URLs is lawful.
use Rattle.std.proofs.Common.{◌≡◌, ◌⊎◌, ℕ, List, [], ◌∷◌, Option, Some, None, Ok, Err, inl, inr, refl, sym, ap, subst, ◌∙◌, IsUtf8}
use Rattle.std.specs.Prelude.{◌≢◌, ◌↔◌, true, bytes_eq, Result, IfOk, OnOk}
use Rattle.std.proofs.lemmas.Slice.Eq.{bytes_eq-Decides}
use Rattle.std.proofs.lemmas.Str.{IsUtf8-from_ascii}
use Rattle.json.specs.Token.{Token}
use Rattle.json.specs.Written.{Written, Writes}
use Rattle.serde_json.specs.Data.{Data, string}
use Rattle.serde_json.specs.View.{view}
use Rattle.serde_json.specs.declared.value.Value.{Value}
use Rattle.url.specs.declared.host.Host.{Host}
use Rattle.url.specs.declared.host.Host.TheVariants.{Domain, Ipv4, Ipv6}
use Rattle.url.specs.declared.scheme.SchemeType.{SchemeType}
use Rattle.url.specs.declared.scheme.SchemeType.TheVariants.{File, SpecialNotFile, NotSpecial}
use Rattle.url.specs.Canonical.{IsCanonical}
use Rattle.url.specs.Parser.{Parsed, parse_url}
use Rattle.url.specs.Parts.{Parts, kind_of, serialize, IsValid}
use Rattle.url.proofs.Theorems.{parse_url-serialize, parse_url-serialize_special, parse_url_idempotent}
use Rattle.url.proofs.ValidLemmas.{IsAscii-serialize}
use Rattle.sentry_json.specs.Sound.{IsSound}
use Rattle.sentry_tables.specs.Cell.{Cell, text}
use Rattle.sentry_tables.specs.Lawful.{RefusesNull, IsLawful, IsNormal}
use Rattle.sentry_tables.specs.Laws.{HasLaws}
use Rattle.sentry_tables.specs.Meets.{IsStored, IsReadable}
use Rattle.sentry_tables.specs.Shows.{Shows}
use Rattle.sentry_tables.specs.Cells.{natural_cell, option_cell, cells}
use Rattle.sentry_tables.specs.Spelling.{SpellingLaws}
use Rattle.sentry_tables.specs.Writes.{written, WritesTree}
use Rattle.sentry_tables.proofs.Spellings.{spelled_laws, spelled_has_laws, spelled_refuses_null, text_tree, spelling_wrote}
use Rattle.sentry_text.specs.UrlTree.{host_cell, url_cell, text_of, natural_of, naturals_of, host_of, option_of, url_of, UrlReadsBack, url_spelling, url_kind}
use Rattle.sentry_text.proofs.ParsedUrls.{parsed_valid}
use Rattle.sentry_text.proofs.Utf8Bytes.{utf8_bytes}

-- ---- the URL of a cell

naturals_back : (ns : List ℕ) → naturals_of (cells natural_cell ns) ≡ ns
naturals_back [] = refl
naturals_back (n ∷ ns) = ap (λ rest. n ∷ rest) (naturals_back ns)

host_back : (host : Host (List ℕ)) → host_of (host_cell host) ≡ host
host_back (Domain domain) = refl
host_back (Ipv4 address) = refl
host_back (Ipv6 address) = ap (λ segments. Ipv6 (record { segments = segments })) (naturals_back address.segments)

option_back : {A : Type 0} (f : A → Cell) (g : Cell → A) → ((x : A) → g (f x) ≡ x) → (o : Option A) → option_of g (option_cell f o) ≡ o
option_back f g back None = refl
option_back f g back (Some x) = ap Some (back x)

-- a URL's cell holds all its parts
pub url_back : (url : Parts) → url_of (url_cell url) ≡ url
unfolding url_of
url_back url =
    let host = option_back host_cell host_of host_back url.host in
    let port = option_back natural_cell natural_of (λ n. refl) url.port in
    let query = option_back text text_of (λ s. refl) url.query in
    let fragment = option_back text text_of (λ s. refl) url.fragment in
    λ i. record url { host = host i; port = port i; query = query i; fragment = fragment i }

pub one_url : (a b : Parts) → url_cell a ≡ url_cell b → a ≡ b
one_url a b same = sym (url_back a) ∙ ap url_of same ∙ url_back b

pub url_written : (url : Parts) → serialize (url_of (url_cell url)) ≡ serialize url
url_written url = ap serialize (url_back url)

cell_written : (c : Cell) (url : Parts) → url_cell url ≡ c → serialize (url_of c) ≡ serialize url
cell_written c url is = ap (λ x. serialize (url_of x)) (sym is) ∙ url_written url

-- ---- the laws

same_url : (a b : Parts) (r : Parsed Parts) → r ≡ Ok a → r ≡ Ok b → a ≡ b
same_url a b r one two = let both = sym one ∙ two in cc

one_spelled : (s : List ℕ) (c x : Cell) → url_spelling.spells s c → url_spelling.spells s x → c ≡ x
one_spelled s c x (url, is, parsed) (other, also, again) = sym is ∙ ap url_cell (same_url url other (parse_url None s) parsed again) ∙ also

some_spelled : (s : List ℕ) (r : Parsed Parts) → parse_url None s ≡ r → ((c : Cell) × url_spelling.spells s c) ⊎ ((c : Cell) → url_spelling.spells s c → ⊥)
some_spelled s (Ok url) is = inl (url_cell url, (url, refl, is))
some_spelled s (Err error) is = inr (λ c h. let both = sym is ∙ h.2 in cc)

-- the URL of a text of UTF-8 is valid, and is read back from its own text
pub named_valid : (s : List ℕ) (url : Parts) → IsUtf8 s → parse_url None s ≡ Ok url → IsValid url
named_valid s url utf8 parsed = parsed_valid s url (utf8_bytes s utf8) parsed

pub named_reads_back : (s : List ℕ) (url : Parts) → IsUtf8 s → parse_url None s ≡ Ok url → UrlReadsBack url
named_reads_back s url utf8 parsed = parse_url_idempotent None None s url tt (named_valid s url utf8 parsed) parsed

-- what is asked of a readable URL
abbrev Demand : Parts → Type 0
Demand url = kind_of url ≢ SpecialNotFile → UrlReadsBack url

reads_back : (kind : SchemeType) (url : Parts) → kind_of url ≡ kind → IsValid url → Demand url → UrlReadsBack url
reads_back SpecialNotFile url is valid other = parse_url-serialize_special url None valid is
reads_back File url is valid other = other (λ special. let both = sym is ∙ special in cc)
reads_back NotSpecial url is valid other = other (λ special. let both = sym is ∙ special in cc)

-- a valid URL that is readable is read back
cell_reads_back : (c : Cell) → url_spelling.stored c → url_spelling.readable c → url_spelling.spells (serialize (url_of c)) c
cell_reads_back c (url, is, valid) (other, also, demand) =
    let readable = subst Demand (one_url other url (also ∙ sym is)) demand in
    (url, is, ap (parse_url None) (cell_written c url is) ∙ reads_back (kind_of url) url refl valid readable)

pub url_laws : SpellingLaws url_spelling
url_laws = record {
  back = cell_reads_back;
  one = one_spelled;
  again = λ c p. refl;
  stored_norm = λ c p. p;
  readable_norm = λ c p q. q;
  utf8 = λ c p. subst IsUtf8 (sym (cell_written c p.0 p.1)) (IsUtf8-from_ascii (serialize p.0) (IsAscii-serialize p.0 p.2));
  spelled_stored = λ s c utf8 h. (h.0, h.1, named_valid s h.0 utf8 h.2);
  spelled_readable = λ s c utf8 h. (h.0, h.1, λ other. named_reads_back s h.0 utf8 h.2);
  spelled_written = λ s c utf8 h. refl;
  decide = λ s. some_spelled s (parse_url None s) refl;
}

pub url_lawful : IsLawful url_kind
url_lawful = spelled_laws url_spelling url_laws

pub url_has_laws : HasLaws url_kind
url_has_laws = spelled_has_laws url_spelling url_laws

pub url_shown_readable : (now : Cell) (d : Data) (c : Cell) → IsSound d → Shows url_kind now d c → IsReadable url_kind c
url_shown_readable now = url_lawful.shown_readable

pub url_refuses_null : RefusesNull url_kind
url_refuses_null = spelled_refuses_null url_spelling

pub url_normal : (c : Cell) → IsStored url_kind c → IsReadable url_kind c → IsNormal url_kind c
url_normal c stored readable = (stored, tt, readable, refl)

-- ---- which URLs are read back

-- each canonical URL is, too
pub canonical_reads_back : (url : Parts) → IsValid url → IsCanonical url → UrlReadsBack url
canonical_reads_back url valid canonical = parse_url-serialize url None valid canonical

-- URLs that are read back are the same where their texts are
one_text : (a b : Parts) → UrlReadsBack a → UrlReadsBack b → serialize a ≡ serialize b → a ≡ b
one_text a b own other same = same_url a b (parse_url None (serialize b)) (ap (parse_url None) (sym same) ∙ own) other

pub urls_decide : (a b : Parts) → UrlReadsBack a → UrlReadsBack b → bytes_eq (serialize a) (serialize b) ≡ true ↔ (a ≡ b)
urls_decide a b own other =
    let decides = bytes_eq-Decides (serialize a) (serialize b) in
    (λ equal. one_text a b own other (decides.0 equal), λ same. decides.1 (ap serialize same))

-- ---- what is written

pub tree_made : {E : Type 0} (url : Parts) (s : List ℕ) (r : Result Value E) → s ≡ serialize url → IfOk r (λ t. view t ≡ string s) → IfOk r (λ t. view t ≡ written url_kind (url_cell url))
tree_made url s (Ok t) is made = text_tree url_spelling (url_cell url) (view t) s made (is ∙ sym (url_written url))
tree_made url s (Err e) is made = tt

pub url_wrote : {E : Type 0} (url : Parts) (s : List ℕ) (r : Result (Unit {0}) E) (old new : Written) → s ≡ serialize url → Writes r old new (Token.string s) → OnOk r (WritesTree (written url_kind (url_cell url)) old new)
url_wrote url s r old new is h = spelling_wrote url_spelling (url_cell url) s r old new (is ∙ sym (url_written url)) h
