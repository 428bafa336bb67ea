-- The organization that the host of a DSN names.
use Rattle.std.specs.Prelude.{◌≡◌, ◌==◌, ℕ, ◌^◌, ◌<◌, ◌⊎◌, List, [], ◌∷◌, ◌++◌, codes}
use Rattle.std.specs.List.{slice_split}
use Rattle.std.specs.Str.Parse.{IsNumeral, digits_value}

-- the labels of a host: what its dots separate, an empty label too
abbrev pub labels : List ℕ → List (List ℕ)
labels host = slice_split (λ b. b == 46) host

abbrev pub sentry : List (List ℕ)
sentry = codes "sentry" ∷ codes "io" ∷ []

-- `sentry.io`, or `X.sentry.io` for a region X
abbrev pub IsSentryHost : List (List ℕ) → Type 0
IsSentryHost host = (host ≡ sentry) ⊎ ((region : List ℕ) × (host ≡ region ∷ sentry))

-- `oN.ingest.` and a host of Sentry's
abbrev pub IsIngestHost : List (List ℕ) → List ℕ → Type 0
IsIngestHost host n = (rest : List (List ℕ)) × (host ≡ (codes "o" ++ n) ∷ codes "ingest" ∷ rest) × IsSentryHost rest

-- digits alone, of a number of at most 64 bits
abbrev pub IsDigits : List ℕ → ℕ → Type 0
IsDigits text n = IsNumeral 10 text × (n ≡ digits_value 10 text) × (n < 2 ^ 64)

-- the host names this organization
abbrev pub NamesOrganization : List ℕ → ℕ → Type 0
NamesOrganization host n = (digits : List ℕ) × IsIngestHost (labels host) digits × IsDigits digits n
