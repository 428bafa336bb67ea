-- Pairs tell one authentication at most.
use Rattle.std.proofs.Common.{◌≡◌, ◌⊎◌, ◌<◌, ◌+◌, ◌*◌, ◌^◌, ℕ, zero, suc, List, [], ◌∷◌, length, get_or, Option, Some, None, inl, inr, refl, sym, ap, subst, ◌∙◌, arith}
use Rattle.std.specs.List.{AllByRecursion}
use Rattle.sentry_moments.specs.Decimal.{Worth, Billionths}
use Rattle.sentry_moments.proofs.DecimalTexts.{one_worth}
use Rattle.sentry_tables.specs.Kind.{scalar}
use Rattle.sentry_tables.specs.Laws.{HasLaws}
use Rattle.sentry_tables.specs.Lawful.{RefusesNull}
use Rattle.sentry_tables.proofs.Laws.{has_laws}
use Rattle.sentry_keys.specs.Auth.{Pair, Time, Parts, values_at, last_at, timestamp_key, version_key, HasVersion, IsTime, VersionIs, TimestampIs, VersionsAreReadable, IsAuth, HasUnreadableVersion, HasNoKey}
use Rattle.sentry_keys.specs.AuthFields.{auth_scalar, auth_kind}
use Rattle.sentry_keys.proofs.AuthTrees.{auth_laws, null_refused}

pub auth_kind_laws : HasLaws auth_kind
unfolding auth_kind
auth_kind_laws = has_laws (scalar auth_scalar) auth_laws

pub auth_refuses_null : RefusesNull auth_kind
unfolding auth_kind
auth_refuses_null = null_refused

one_version : (o : Option (List ℕ)) (m n : ℕ) → VersionIs o m → VersionIs o n → m ≡ n
one_version None m n a b = a ∙ sym b
one_version (Some text) m n a b = a.0.value ∙ sym b.0.value

number_in : Worth → ℕ
number_in (Billionths n) = n
number_in _ = 0

one_time : (text : List ℕ) (s t : Time) → IsTime text s → IsTime text t → s ≡ t
unfolding number_in
one_time text s t a b =
    let same : s.0 * 10 ^ 9 + s.1 ≡ t.0 * 10 ^ 9 + t.1 = ap number_in (one_worth text (Billionths (s.0 * 10 ^ 9 + s.1)) (Billionths (t.0 * 10 ^ 9 + t.1)) a.1 b.1) in
    let secs : s.0 ≡ t.0 = omega (arith, same, a.0.1, b.0.1) in
    let nanos : s.1 ≡ t.1 = omega (arith, same, a.0.1, b.0.1) in
    ap (λ (x : ℕ). (x, s.1)) secs ∙ ap (λ (x : ℕ). (t.0, x)) nanos

one_timestamp : (o : Option (List ℕ)) (s t : Option Time) → TimestampIs o s → TimestampIs o t → s ≡ t
one_timestamp None s t a b = a ∙ sym b
one_timestamp (Some text) None None a b = refl
one_timestamp (Some text) None (Some t) a b = absurd (a t b)
one_timestamp (Some text) (Some s) None a b = absurd (b s a)
one_timestamp (Some text) (Some s) (Some t) a b = ap Some (one_time text s t a b)

abbrev parts : Option Time → Option (List ℕ) → ℕ → List ℕ → Option (List ℕ) → Parts
parts timestamp client version key secret = record { timestamp = timestamp; client = client; version = version; key = key; secret = secret }

pub one_auth : (pairs : List Pair) (a b : Parts) → IsAuth pairs a → IsAuth pairs b → a ≡ b
one_auth pairs a b x y =
    ap (λ t. parts t a.client a.version a.key a.secret) (one_timestamp (last_at timestamp_key pairs) a.timestamp b.timestamp x.0.timestamp y.0.timestamp)
    ∙ ap (λ t. parts b.timestamp t a.version a.key a.secret) (x.0.client ∙ sym y.0.client)
    ∙ ap (λ t. parts b.timestamp b.client t a.key a.secret) (one_version (last_at version_key pairs) a.version b.version x.0.version y.0.version)
    ∙ ap (λ t. parts b.timestamp b.client b.version t a.secret) (x.0.key ∙ sym y.0.key)
    ∙ ap (λ t. parts b.timestamp b.client b.version b.key t) (x.0.secret ∙ sym y.0.secret)

readable_at : (texts : List (List ℕ)) (text : List ℕ) (k : ℕ) → AllByRecursion HasVersion texts → k < length texts → get_or texts k text ≡ text → HasVersion text
readable_at [] text k all h is = absurd (omega (arith, h))
readable_at (t ∷ ts) text zero all h is = subst HasVersion is all.0
readable_at (t ∷ ts) text (suc k) all h is = readable_at ts text k all.1 (omega (arith, h)) is

never_both : (pairs : List Pair) → VersionsAreReadable pairs → HasUnreadableVersion pairs → ⊥
never_both pairs all wrong =
    let at = wrong.1 in
    let read = readable_at (values_at version_key pairs) wrong.0 at.0 all at.1 at.2 in
    wrong.2 read.0 read.1

pub one_refusal : (pairs : List Pair) → HasUnreadableVersion pairs → HasNoKey pairs → ⊥
one_refusal pairs wrong missing = never_both pairs missing.0 wrong

pub told_or_refused : (pairs : List Pair) (a : Parts) → IsAuth pairs a → HasUnreadableVersion pairs ⊎ HasNoKey pairs → ⊥
told_or_refused pairs a h (inl wrong) = never_both pairs h.0.versions wrong
told_or_refused pairs a h (inr missing) =
    let empty : a.key ≡ [] = h.0.key ∙ missing.1 in
    let size : length a.key ≡ 0 = ap length empty in
    omega (arith, size, h.1)
