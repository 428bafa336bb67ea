-- What one more pair tells.
use Rattle.std.proofs.Common.{◌≡◌, ◌⊎◌, ℕ, ◌*◌, ◌+◌, ◌^◌, Bool, true, false, cond, List, [], ◌∷◌, ◌++◌, map, Option, Some, None, Err, option_map, unwrap_or, IfSome, inl, inr, refl, sym, ap, ◌∙◌, subst, append_assoc, append-nil, bytes_eq, arith, ◌<◌, length, drop, get_or}
use Rattle.std.specs.Prelude.{filter, IsSomeAnd}
use Rattle.std.specs.Borrow.{Bor}
use Rattle.std.specs.List.{AllByRecursion, Contains, last_or, filter_map, cons_option}
use Rattle.std.specs.Str.Lossy.{utf8_lossy}
use Rattle.std.proofs.lemmas.Grind.{common_steps}
use Rattle.std.proofs.lemmas.Iterator.{YieldsList}
use Rattle.form_urlencoded.specs.Form.{pair_text, decode, DecodesTo}
use Rattle.sentry_keys.specs.AuthText.{decoded_pair, item_pair}
use Rattle.std.proofs.lemmas.List.{map-append}
use Rattle.std.proofs.lemmas.List.Elements.{filter-append, Contains-append_right}
use Rattle.std.proofs.lemmas.Slice.Eq.{bytes_eq-Decides}
use Rattle.sentry_moments.specs.Decimal.{IsDecimal, Billionths}
use Rattle.sentry_moments.specs.Rfc3339.{IsMomentTime}
use Rattle.sentry_moments.specs.declared.moment.Moment.{Moment}
use Rattle.sentry_keys.specs.Auth.{Pair, Time, Parts, values_at, last_at, timestamp_key, client_key, version_key, key_key, secret_key, time_of, IsVersion, HasVersion, HasNoVersion, VersionIs, TimestampIs, VersionsAreReadable, Tell, HasUnreadableVersion, ReadsPairs}
use Rattle.sentry_keys.specs.declared.auth.ParseAuthError.{ParseAuthError}
use Rattle.sentry_keys.specs.declared.auth.ParseAuthError.TheVariants.{InvalidVersion, Memory}

last_push : (o : Option (List ℕ)) (vs : List (List ℕ)) (v : List ℕ) → last_or o (vs ++ v ∷ []) ≡ Some v
last_push o [] v = refl
last_push o (u ∷ vs) v = last_push (Some u) vs v

pub values_append : (key : List ℕ) (ps qs : List Pair) → values_at key (ps ++ qs) ≡ values_at key ps ++ values_at key qs
values_append key ps qs =
    ap (map (λ (p : Pair). p.1)) (filter-append (λ (p : Pair). bytes_eq p.0 key) ps qs) ∙ map-append (λ (p : Pair). p.1) (filter (λ (p : Pair). bytes_eq p.0 key) ps) (filter (λ (p : Pair). bytes_eq p.0 key) qs)

abbrev add : List Pair → List ℕ → List ℕ → List Pair
add pairs k value = pairs ++ (k, value) ∷ []

-- a pair of this key
values_new : (key : List ℕ) (pairs : List Pair) (k value : List ℕ) → bytes_eq k key ≡ true → values_at key (add pairs k value) ≡ values_at key pairs ++ value ∷ []
values_new key pairs k value e =
    values_append key pairs ((k, value) ∷ []) ∙ ap (λ b. values_at key pairs ++ map (λ (p : Pair). p.1) (cond b ((k, value) ∷ []) [])) e

last_new : (key : List ℕ) (pairs : List Pair) (k value : List ℕ) → bytes_eq k key ≡ true → last_at key (add pairs k value) ≡ Some value
last_new key pairs k value e = ap (last_or None) (values_new key pairs k value e) ∙ last_push None (values_at key pairs) value

-- a pair of another key
values_kept : (key : List ℕ) (pairs : List Pair) (k value : List ℕ) → bytes_eq k key ≡ false → values_at key (add pairs k value) ≡ values_at key pairs
values_kept key pairs k value e =
    values_append key pairs ((k, value) ∷ []) ∙ ap (λ b. values_at key pairs ++ map (λ (p : Pair). p.1) (cond b ((k, value) ∷ []) [])) e ∙ append-nil (values_at key pairs)

last_kept : (key : List ℕ) (pairs : List Pair) (k value : List ℕ) → bytes_eq k key ≡ false → last_at key (add pairs k value) ≡ last_at key pairs
last_kept key pairs k value e = ap (last_or None) (values_kept key pairs k value e)

other_text : (s t : List ℕ) → ¬ (s ≡ t) → bytes_eq s t ≡ false
other_text s t ne = go (bytes_eq s t) refl
  where
    go : (b : Bool) → bytes_eq s t ≡ b → bytes_eq s t ≡ false
    go true e = absurd (ne ((bytes_eq-Decides s t).0 e))
    go false e = e

all_push : (P : List ℕ → Type 0) (vs : List (List ℕ)) (v : List ℕ) → AllByRecursion P vs → P v → AllByRecursion P (vs ++ v ∷ [])
all_push P [] v h p = (p, tt)
all_push P (u ∷ vs) v h p = (h.0, all_push P vs v h.1 p)

module _ (pairs : List Pair) (parts : Parts) (t : Tell pairs parts) (k value : List ℕ) where
  timestamp_kept : bytes_eq k timestamp_key ≡ false → TimestampIs (last_at timestamp_key (add pairs k value)) parts.timestamp
  timestamp_kept e = subst (λ o. TimestampIs o parts.timestamp) (sym (last_kept timestamp_key pairs k value e)) t.timestamp

  client_kept : bytes_eq k client_key ≡ false → parts.client ≡ last_at client_key (add pairs k value)
  client_kept e = t.client ∙ sym (last_kept client_key pairs k value e)

  version_kept : bytes_eq k version_key ≡ false → VersionIs (last_at version_key (add pairs k value)) parts.version
  version_kept e = subst (λ o. VersionIs o parts.version) (sym (last_kept version_key pairs k value e)) t.version

  versions_kept : bytes_eq k version_key ≡ false → VersionsAreReadable (add pairs k value)
  versions_kept e = subst (AllByRecursion HasVersion) (sym (values_kept version_key pairs k value e)) t.versions

  key_kept : bytes_eq k key_key ≡ false → parts.key ≡ unwrap_or (last_at key_key (add pairs k value)) []
  key_kept e = t.key ∙ ap (λ o. unwrap_or o []) (sym (last_kept key_key pairs k value e))

  secret_kept : bytes_eq k secret_key ≡ false → parts.secret ≡ last_at secret_key (add pairs k value)
  secret_kept e = t.secret ∙ sym (last_kept secret_key pairs k value e)

  pub tells_timestamp : (time : Option Time) → k ≡ timestamp_key → TimestampIs (Some value) time → Tell (add pairs k value) (record parts { timestamp = time })
  tells_timestamp time is h =
      let other : (key : List ℕ) → bytes_eq timestamp_key key ≡ false → bytes_eq k key ≡ false = λ key e. ap (λ s. bytes_eq s key) is ∙ e in
      record {
        timestamp = subst (λ o. TimestampIs o time) (sym (last_new timestamp_key pairs k value (ap (λ s. bytes_eq s timestamp_key) is))) h;
        client = client_kept (other client_key refl);
        version = version_kept (other version_key refl);
        versions = versions_kept (other version_key refl);
        key = key_kept (other key_key refl);
        secret = secret_kept (other secret_key refl);
      }

  pub tells_client : (client : Option (List ℕ)) → k ≡ client_key → client ≡ Some value → Tell (add pairs k value) (record parts { client = client })
  tells_client client is h =
      let other : (key : List ℕ) → bytes_eq client_key key ≡ false → bytes_eq k key ≡ false = λ key e. ap (λ s. bytes_eq s key) is ∙ e in
      record {
        timestamp = timestamp_kept (other timestamp_key refl);
        client = h ∙ sym (last_new client_key pairs k value (ap (λ s. bytes_eq s client_key) is));
        version = version_kept (other version_key refl);
        versions = versions_kept (other version_key refl);
        key = key_kept (other key_key refl);
        secret = secret_kept (other secret_key refl);
      }

  pub tells_version : (n : ℕ) → k ≡ version_key → IsVersion value n → Tell (add pairs k value) (record parts { version = n })
  tells_version n is h =
      let other : (key : List ℕ) → bytes_eq version_key key ≡ false → bytes_eq k key ≡ false = λ key e. ap (λ s. bytes_eq s key) is ∙ e in
      let same : bytes_eq k version_key ≡ true = ap (λ s. bytes_eq s version_key) is in
      record {
        timestamp = timestamp_kept (other timestamp_key refl);
        client = client_kept (other client_key refl);
        version = subst (λ o. VersionIs o n) (sym (last_new version_key pairs k value same)) h;
        versions = subst (AllByRecursion HasVersion) (sym (values_new version_key pairs k value same)) (all_push HasVersion (values_at version_key pairs) value t.versions (n, h));
        key = key_kept (other key_key refl);
        secret = secret_kept (other secret_key refl);
      }

  pub tells_key : (key : List ℕ) → k ≡ key_key → key ≡ value → Tell (add pairs k value) (record parts { key = key })
  tells_key key is h =
      let other : (key : List ℕ) → bytes_eq key_key key ≡ false → bytes_eq k key ≡ false = λ key e. ap (λ s. bytes_eq s key) is ∙ e in
      record {
        timestamp = timestamp_kept (other timestamp_key refl);
        client = client_kept (other client_key refl);
        version = version_kept (other version_key refl);
        versions = versions_kept (other version_key refl);
        key = h ∙ ap (λ o. unwrap_or o []) (sym (last_new key_key pairs k value (ap (λ s. bytes_eq s key_key) is)));
        secret = secret_kept (other secret_key refl);
      }

  pub tells_secret : (secret : Option (List ℕ)) → k ≡ secret_key → secret ≡ Some value → Tell (add pairs k value) (record parts { secret = secret })
  tells_secret secret is h =
      let other : (key : List ℕ) → bytes_eq secret_key key ≡ false → bytes_eq k key ≡ false = λ key e. ap (λ s. bytes_eq s key) is ∙ e in
      record {
        timestamp = timestamp_kept (other timestamp_key refl);
        client = client_kept (other client_key refl);
        version = version_kept (other version_key refl);
        versions = versions_kept (other version_key refl);
        key = key_kept (other key_key refl);
        secret = h ∙ sym (last_new secret_key pairs k value (ap (λ s. bytes_eq s secret_key) is));
      }

  pub tells_nothing : ¬ (k ≡ timestamp_key) → ¬ (k ≡ client_key) → ¬ (k ≡ version_key) → ¬ (k ≡ key_key) → ¬ (k ≡ secret_key) → Tell (add pairs k value) parts
  tells_nothing a b c d e =
      record {
        timestamp = timestamp_kept (other_text k timestamp_key a);
        client = client_kept (other_text k client_key b);
        version = version_kept (other_text k version_key c);
        versions = versions_kept (other_text k version_key c);
        key = key_kept (other_text k key_key d);
        secret = secret_kept (other_text k secret_key e);
      }

-- the moment that a text gives, or none
pub moment_read : (text : List ℕ) (moment : Option Moment) → IfSome moment (λ m. IsDecimal text (Billionths (m.secs * 10 ^ 9 + m.nanos)))
    → ((secs nanos : ℕ) → IsMomentTime secs nanos → IsDecimal text (Billionths (secs * 10 ^ 9 + nanos)) → IsSomeAnd moment (λ m. (m.secs ≡ secs) × (m.nanos ≡ nanos)))
    → TimestampIs (Some text) (option_map time_of moment)
moment_read text None found only = λ time h. only time.0 time.1 h.0 h.1
moment_read text (Some m) found only = ((m.secs_in_range, m.nanos_in_range), found)

-- ---- pair after pair

-- what the pairs before those that are left tell
pub record IsTold (all left : List Pair) (parts : Parts) : Type 0 where
  pub done : List Pair
  pub split : all ≡ done ++ left
  pub told : Tell done parts

pub told_first : (all : List Pair) (parts : Parts) → Tell [] parts → IsTold all all parts
told_first all parts h = record { done = []; split = refl; told = h }

push_front : (done : List Pair) (p : Pair) (left : List Pair) → done ++ p ∷ left ≡ (done ++ p ∷ []) ++ left
push_front done p left = sym (append_assoc done (p ∷ []) left)

pub told_next : (all left next : List Pair) (k value : List ℕ) (old new : Parts) → IsTold all left old → left ≡ (k, value) ∷ next
    → ((pairs : List Pair) → Tell pairs old → Tell (pairs ++ (k, value) ∷ []) new) → IsTold all next new
told_next all left next k value old new h is more =
    record { done = h.done ++ (k, value) ∷ []; split = h.split ∙ ap (λ ps. h.done ++ ps) is ∙ push_front h.done (k, value) next; told = more h.done h.told }

pub told_all : (all left : List Pair) (parts : Parts) → IsTold all left parts → left ≡ [] → Tell all parts
told_all all left parts h is = subst (λ ps. Tell ps parts) (sym (h.split ∙ ap (λ ps. h.done ++ ps) is ∙ append-nil h.done)) h.told

among : (k value : List ℕ) (rest : List Pair) → k ≡ version_key → Contains (values_at version_key ((k, value) ∷ rest)) value
among k value rest is =
    let same : bytes_eq k version_key ≡ true = ap (λ s. bytes_eq s version_key) is in
    let first : values_at version_key ((k, value) ∷ rest) ≡ value ∷ values_at version_key rest = ap (λ b. map (λ (p : Pair). p.1) (cond b ((k, value) ∷ filter (λ (p : Pair). bytes_eq p.0 version_key) rest) (filter (λ (p : Pair). bytes_eq p.0 version_key) rest))) same in
    subst (λ vs. Contains vs value) (sym first) (0, omega arith, refl)

pub wrong_version : (all left next : List Pair) (k value : List ℕ) (parts : Parts) → IsTold all left parts → left ≡ (k, value) ∷ next → k ≡ version_key → HasNoVersion value → HasUnreadableVersion all
wrong_version all left next k value parts h is key wrong =
    let values : values_at version_key all ≡ values_at version_key h.done ++ values_at version_key ((k, value) ∷ next) = ap (values_at version_key) (h.split ∙ ap (λ ps. h.done ++ ps) is) ∙ values_append version_key h.done ((k, value) ∷ next) in
    (value, subst (λ vs. Contains vs value) (sym values) (Contains-append_right (values_at version_key h.done) (values_at version_key ((k, value) ∷ next)) value (among k value next key)), wrong)

-- what the failure of a pair says
pub pair_fails : (all left next : List Pair) (k value : List ℕ) (parts : Parts) (e : ParseAuthError) → IsTold all left parts → left ≡ (k, value) ∷ next
    → (e ≡ Memory) ⊎ ((e ≡ InvalidVersion) × (k ≡ version_key) × HasNoVersion value) → ReadsPairs all (Err e)
pair_fails all left next k value parts e h is (inl memory) = subst (λ x. ReadsPairs all (Err x)) (sym memory) tt
pair_fails all left next k value parts e h is (inr wrong) = subst (λ x. ReadsPairs all (Err x)) (sym wrong.0) (wrong_version all left next k value parts h is wrong.1 wrong.2)

-- ---- what is left of a slice, and of a query

pub at_index : (pairs : List (Bor (List ℕ) × Bor (List ℕ))) (i : ℕ) (d : Bor (List ℕ) × Bor (List ℕ)) → i < length pairs → map pair_text (drop i pairs) ≡ pair_text (get_or pairs i d) ∷ map pair_text (drop (i + 1) pairs)
at_index pairs i d h = grind (arith, common_steps)

pub query_next : (rest next : List Pair) (name value a b k v : List ℕ) → rest ≡ (name, value) ∷ next → DecodesTo name a → DecodesTo value b → k ≡ a → v ≡ b → map decoded_pair rest ≡ (k, v) ∷ map decoded_pair next
query_next rest next name value a b k v is x y ka vb =
    ap (map decoded_pair) is ∙ ap (λ s. (s, utf8_lossy (decode value)) ∷ map decoded_pair next) (sym (ka ∙ x.2)) ∙ ap (λ s. (k, s) ∷ map decoded_pair next) (sym (vb ∙ y.2))

-- ---- what is left of a list of items

pub next_item : {S A B : Type 0} (steps : S → Option A → S → Type 0) (v : A → B) (s t : S) (x : A) (ys : List B) → YieldsList steps v s ys → steps s (Some x) t → (zs : List B) × (ys ≡ v x ∷ zs) × YieldsList steps v t zs
next_item steps v s t x [] h step = absurd (h.runs x t step)
next_item steps v s t x (y ∷ ys) h step = let next = h.runs.1 x t step in (ys, ap (λ z. z ∷ ys) (sym next.0), record { runs = next.1 })

pub no_item : {S A B : Type 0} (steps : S → Option A → S → Type 0) (v : A → B) (s t : S) (ys : List B) → YieldsList steps v s ys → steps s None t → ys ≡ []
no_item steps v s t [] h step = refl
no_item steps v s t (y ∷ ys) h step = absurd (h.runs.0 t step)

pub pair_left : (items more : List (List ℕ)) (item k value : List ℕ) → items ≡ item ∷ more → Some (k, value) ≡ item_pair item → filter_map item_pair items ≡ (k, value) ∷ filter_map item_pair more
pair_left items more item k value is pair = ap (filter_map item_pair) is ∙ ap (λ o. cons_option o (filter_map item_pair more)) (sym pair)

pub none_left : (items more : List (List ℕ)) (item : List ℕ) → items ≡ item ∷ more → None ≡ item_pair item → filter_map item_pair items ≡ filter_map item_pair more
none_left items more item is pair = ap (filter_map item_pair) is ∙ ap (λ o. cons_option o (filter_map item_pair more)) (sym pair)

pub told_same : (all left next : List Pair) (parts : Parts) → IsTold all left parts → left ≡ next → IsTold all next parts
told_same all left next parts h is = subst (λ ps. IsTold all ps parts) is h

pub told_none : (all : List Pair) (items : List (List ℕ)) (parts : Parts) → IsTold all (filter_map item_pair items) parts → items ≡ [] → Tell all parts
told_none all items parts h is = told_all all (filter_map item_pair items) parts h (ap (filter_map item_pair) is)
