-- The text of an authentication tells it.
use Rattle.std.proofs.Common.{◌≡◌, ◌==◌, ◌<◌, ◌^◌, ◌↔◌, ℕ, Bool, true, false, cond, eqb, List, [], ◌∷◌, ◌++◌, Option, Some, None, option_map, IfSome, inl, inr, refl, sym, ap, ◌∙◌, subst, append-nil, arith}
use Rattle.std.specs.Fmt.{decimal}
use Rattle.std.specs.List.{filter_map, cons_option, after_first}
use Rattle.std.specs.Str.{trim, trim_start, trim_end, chars}
use Rattle.std.proofs.lemmas.Fmt.{decimal_is_IsNumeral}
use Rattle.sentry_text.specs.Number.{IsNumber}
use Rattle.sentry_text.proofs.NumberTexts.{number_of_iff, written_number}
use Rattle.sentry_moments.specs.Digits.{fraction_text, digits_without_closing_zeros}
use Rattle.sentry_moments.specs.Rfc3339.{IsMomentTime}
use Rattle.sentry_moments.proofs.DecimalReadBack.{decimal_reads_back}
use Rattle.sentry_moments.proofs.Places.{is_cut}
use Rattle.sentry_keys.specs.Auth.{Pair, Time, Parts, timestamp_key, client_key, version_key, key_key, secret_key, IsVersion, IsTime, Tell, IsAuth}
use Rattle.sentry_keys.specs.AuthClean.{IsClean, AreClean}
use Rattle.sentry_keys.specs.AuthText.{first_two, item_pair, list_pairs, header_pairs, BeginsWithSentry, part_text, time_text, auth_text}
use Rattle.sentry_keys.proofs.AuthLaws.{one_auth}
use Rattle.sentry_keys.proofs.AuthTexts.{lacks, lacks_append, lacks_comma, lacks_equals, cut_at, uncut, before_none, AreVisible, visible_append, visible_digits, visible_lacks, digits_lack_points, trims_nothing}

-- a value that is read back from an item
pub record IsKept (value : List ℕ) : Type 0 where
  pub comma : lacks 44 value ≡ true
  pub equals : lacks 61 value ≡ true
  pub trimmed : trim value ≡ value

clean_kept : (text : List ℕ) → IsClean text → IsKept text
clean_kept text h = record { comma = lacks_comma text h.0; equals = lacks_equals text h.0; trimmed = h.1 }

visible_kept : (text : List ℕ) → AreVisible text → IsKept text
visible_kept text h = record { comma = visible_lacks 44 text (inl (omega arith)) h; equals = visible_lacks 61 text (inr (omega arith)) h; trimmed = trims_nothing text h }

-- a name, after white space too
pub record IsName (front name : List ℕ) : Type 0 where
  pub comma : lacks 44 front ≡ true
  pub equals : lacks 61 front ≡ true
  pub trimmed : trim front ≡ name

abbrev item : List ℕ → List ℕ → List ℕ
item front value = front ++ 61 ∷ value

is_pair : (front name value : List ℕ) → IsName front name → IsKept value → item_pair (item front value) ≡ Some (name, value)
unfolding item_pair
is_pair front name value n v =
    ap first_two (cut_at 61 front value n.equals ∙ ap (λ ps. front ∷ ps) (uncut 61 value v.equals)) ∙ ap (λ t. Some (t, trim value)) n.trimmed ∙ ap (λ t. Some (name, t)) v.trimmed

item_comma : (front name value : List ℕ) → IsName front name → IsKept value → lacks 44 (item front value) ≡ true
unfolding lacks
item_comma front name value n v = lacks_append 44 front (61 ∷ value) n.comma v.comma

-- further parts, some of them absent
abbrev Further : Type 0
Further = List (List ℕ × Option (List ℕ))

abbrev tail : Further → List ℕ
tail [] = []
tail (p ∷ ps) = part_text p.0 p.1 ++ tail ps

abbrev tail_pairs : Further → List Pair
tail_pairs [] = []
tail_pairs (p ∷ ps) = cons_option (option_map (λ v. (p.0, v)) p.1) (tail_pairs ps)

abbrev AreKept : Further → Type 0
AreKept [] = Unit {0}
AreKept (p ∷ ps) = (IsName (32 ∷ p.0) p.0 × IfSome p.1 IsKept) × AreKept ps

listed : (ps : Further) (front name value : List ℕ) → IsName front name → IsKept value → AreKept ps → list_pairs (item front value ++ tail ps) ≡ (name, value) ∷ tail_pairs ps
listed [] front name value n v h =
    ap list_pairs (append-nil (item front value)) ∙ ap (filter_map item_pair) (uncut 44 (item front value) (item_comma front name value n v)) ∙ ap (λ o. cons_option o []) (is_pair front name value n v)
listed ((k, None) ∷ ps) front name value n v h = listed ps front name value n v h.1
listed ((k, Some u) ∷ ps) front name value n v h =
    ap (filter_map item_pair) (cut_at 44 (item front value) (item (32 ∷ k) u ++ tail ps) (item_comma front name value n v))
    ∙ ap (λ o. cons_option o (list_pairs (item (32 ∷ k) u ++ tail ps))) (is_pair front name value n v) ∙ ap (λ ps. (name, value) ∷ ps) (listed ps (32 ∷ k) k u h.0.0 h.0.1 h.1)

-- ---- the parts of an authentication

abbrev further : Parts → Further
further a = (version_key, Some (decimal a.version)) ∷ (timestamp_key, option_map time_text a.timestamp) ∷ (client_key, a.client) ∷ (secret_key, a.secret) ∷ []

pairs_of : (a : Parts) → List Pair
pairs_of a = (key_key, a.key) ∷ tail_pairs (further a)

named : (name : List ℕ) → lacks 44 (32 ∷ name) ≡ true → lacks 61 (32 ∷ name) ≡ true → trim (32 ∷ name) ≡ name → IsName (32 ∷ name) name
named name c e t = record { comma = c; equals = e; trimmed = t }

key_name : IsName key_key key_key
unfolding lacks trim_start trim_end chars lib.Utf8.encode
key_name = record { comma = refl; equals = refl; trimmed = refl }

version_name : IsName (32 ∷ version_key) version_key
unfolding lacks trim_start trim_end chars lib.Utf8.encode
version_name = named version_key refl refl refl

timestamp_name : IsName (32 ∷ timestamp_key) timestamp_key
unfolding lacks trim_start trim_end chars lib.Utf8.encode
timestamp_name = named timestamp_key refl refl refl

client_name : IsName (32 ∷ client_key) client_key
unfolding lacks trim_start trim_end chars lib.Utf8.encode
client_name = named client_key refl refl refl

secret_name : IsName (32 ∷ secret_key) secret_key
unfolding lacks trim_start trim_end chars lib.Utf8.encode
secret_name = named secret_key refl refl refl

visible_fraction : (nanos : ℕ) → AreVisible (fraction_text nanos)
visible_fraction nanos = go (eqb nanos 0)
  where
    go : (b : Bool) → AreVisible (cond b [] (46 ∷ digits_without_closing_zeros 9 nanos))
    go true = tt
    go false = ((omega arith, omega arith), visible_digits (digits_without_closing_zeros 9 nanos) (is_cut 9 nanos).digits_are)

time_kept : (o : Option Time) → IfSome o (λ t. IsMomentTime t.0 t.1) → IfSome (option_map time_text o) IsKept
time_kept None h = tt
time_kept (Some t) h = visible_kept (time_text t) (visible_append (decimal t.0) (fraction_text t.1) (visible_digits (decimal t.0) (decimal_is_IsNumeral t.0 (omega (arith, h.0))).0.1) (visible_fraction t.1))

text_kept : (o : Option (List ℕ)) → IfSome o IsClean → IfSome o IsKept
text_kept None h = tt
text_kept (Some text) h = clean_kept text h

further_kept : (a : Parts) → AreClean a → AreKept (further a)
further_kept a h = (
  (version_name, visible_kept (decimal a.version) (visible_digits (decimal a.version) (decimal_is_IsNumeral a.version (omega (arith, h.version))).0.1)),
  ((timestamp_name, time_kept a.timestamp h.timestamp), ((client_name, text_kept a.client h.client), ((secret_name, text_kept a.secret h.secret), tt))),
)

text_is : (a : Parts) → after_first (λ b. b == 32) (auth_text a) ≡ item key_key a.key ++ tail (further a)
text_is a =
    ap (λ s. item key_key a.key ++ (part_text version_key (Some (decimal a.version)) ++ (part_text timestamp_key (option_map time_text a.timestamp) ++ (part_text client_key a.client ++ s)))) (sym (append-nil (part_text secret_key a.secret)))

read_pairs : (a : Parts) → AreClean a → header_pairs (auth_text a) ≡ pairs_of a
unfolding pairs_of
read_pairs a h = ap list_pairs (text_is a) ∙ listed (further a) key_key key_key a.key key_name (clean_kept a.key h.key) (further_kept a h)

pub begins : (a : Parts) → BeginsWithSentry (auth_text a)
begins a = refl

is_version : (n : ℕ) → n < 2 ^ 16 → IsVersion (decimal n) n
is_version n h =
    let numeral = decimal_is_IsNumeral n (omega (arith, h)) in
    let whole = before_none 46 (decimal n) (digits_lack_points (decimal n) numeral.0.1) in
    (subst (λ t. IsNumber 10 t n) (sym whole) ((number_of_iff 10 (decimal n) n).0 (written_number 10 n (omega arith) (omega arith) (omega (arith, h)) (omega (arith, h)))), h)

is_time : (t : Time) → IsMomentTime t.0 t.1 → IsTime (time_text t) t
is_time t h = (h, decimal_reads_back t.0 t.1 (omega (arith, h.0)) h.1)

tells : (timestamp : Option Time) (client secret : Option (List ℕ)) (version : ℕ) (key : List ℕ) → version < 2 ^ 16 → IfSome timestamp (λ t. IsMomentTime t.0 t.1)
    → Tell (pairs_of (record { timestamp = timestamp; client = client; version = version; key = key; secret = secret })) (record { timestamp = timestamp; client = client; version = version; key = key; secret = secret })
unfolding pairs_of
tells None None None n k v t = record { timestamp = refl; client = refl; version = is_version n v; versions = ((n, is_version n v), tt); key = refl; secret = refl }
tells None None (Some s) n k v t = record { timestamp = refl; client = refl; version = is_version n v; versions = ((n, is_version n v), tt); key = refl; secret = refl }
tells None (Some c) None n k v t = record { timestamp = refl; client = refl; version = is_version n v; versions = ((n, is_version n v), tt); key = refl; secret = refl }
tells None (Some c) (Some s) n k v t = record { timestamp = refl; client = refl; version = is_version n v; versions = ((n, is_version n v), tt); key = refl; secret = refl }
tells (Some m) None None n k v t = record { timestamp = is_time m t; client = refl; version = is_version n v; versions = ((n, is_version n v), tt); key = refl; secret = refl }
tells (Some m) None (Some s) n k v t = record { timestamp = is_time m t; client = refl; version = is_version n v; versions = ((n, is_version n v), tt); key = refl; secret = refl }
tells (Some m) (Some c) None n k v t = record { timestamp = is_time m t; client = refl; version = is_version n v; versions = ((n, is_version n v), tt); key = refl; secret = refl }
tells (Some m) (Some c) (Some s) n k v t = record { timestamp = is_time m t; client = refl; version = is_version n v; versions = ((n, is_version n v), tt); key = refl; secret = refl }

is_told : (a : Parts) → AreClean a → IsAuth (header_pairs (auth_text a)) a
is_told a h = subst (λ ps. IsAuth ps a) (sym (read_pairs a h)) (tells a.timestamp a.client a.secret a.version a.key h.version h.timestamp, h.nonempty)

pub text_told : (a : Parts) → AreClean a → (b : Parts) → IsAuth (header_pairs (auth_text a)) b ↔ (b ≡ a)
text_told a h b = (λ x. one_auth (header_pairs (auth_text a)) b a x (is_told a h), λ e. subst (IsAuth (header_pairs (auth_text a))) (sym e) (is_told a h))
