-- The parts of small texts as places in their printed form.
use Rattle.std.specs.Prelude.{◌≡◌, ◌==◌, ◌⊎◌, ℕ, ◌+◌, ◌-◌, List, [], length, Option, Some, None, if◌then◌else◌, unwrap_or}
use Rattle.sentry_keys.specs.Auth.{IsAuth, Parts, Time}
use Rattle.sentry_keys.specs.AuthText.{BeginsWithSentry, auth_text, header_pairs}
use Rattle.sentry_keys.specs.Dsn.{DsnParts, IsDsnText, dsn_text, port_of}
use Rattle.sentry_keys.specs.DsnApi.{envelope_url}
use Rattle.sentry_keys.specs.DsnAuth.{auth_of}
use Rattle.sentry_keys.specs.DsnOrganization.{NamesOrganization}
use Rattle.sentry_keys.specs.DsnScheme.{scheme_index}
use Rattle.sentry_moments.specs.declared.moment.Moment.{Moment}
use Rattle.sentry_c.specs.Places.{Stands}
use Rattle.sentry_c.specs.declared.texts.CurdmesaAuth.{CurdmesaAuth}
use Rattle.sentry_c.specs.declared.texts.CurdmesaDsn.{CurdmesaDsn}
use Rattle.sentry_c.specs.declared.texts.CurdmesaPlace.{CurdmesaPlace}

-- a part stands at a place
abbrev pub IsAt : List ℕ → CurdmesaPlace → List ℕ → Type 0
IsAt text place part = Stands text place.offset place.length part

-- an optional part: without one the place is empty, and the flag 0
abbrev pub IsOptionalAt : List ℕ → CurdmesaPlace → ℕ → Option (List ℕ) → Type 0
IsOptionalAt text place flag None = (place.offset ≡ 0) × (place.length ≡ 0) × (flag ≡ 0)
IsOptionalAt text place flag (Some part) = IsAt text place part × (flag ≡ 1)

-- how many bytes a label and an optional part take
abbrev pub optional_len : ℕ → Option (List ℕ) → ℕ
optional_len label None = 0
optional_len label (Some part) = label + length part

-- an optional part at the end of a text of so many bytes: without one the place is empty, and the
-- flag 0
abbrev pub IsOptionalEnd : ℕ → CurdmesaPlace → ℕ → Option (List ℕ) → Type 0
IsOptionalEnd total place flag None = (place.offset ≡ 0) × (place.length ≡ 0) × (flag ≡ 0)
IsOptionalEnd total place flag (Some part) = (place.offset ≡ total - length part) × (place.length ≡ length part) × (flag ≡ 1)

-- ---- DSNs

-- the id of the organization that a host names and the flag 1; without one both are 0
abbrev pub IsOrganization : List ℕ → ℕ → ℕ → Type 0
IsOrganization host id flag = ((flag ≡ 1) × NamesOrganization host id) ⊎ ((flag ≡ 0) × (id ≡ 0) × ((n : ℕ) → NamesOrganization host n → ⊥))

-- each part of a DSN stands at its place in the printed form
pub record ShowsDsn (shown : CurdmesaDsn) (d : DsnParts) : Type 0 where
  pub key : IsAt (dsn_text d) shown.public_key d.key
  pub secret : IsAt (dsn_text d) shown.secret_key (unwrap_or d.secret [])
  pub host : IsAt (dsn_text d) shown.host d.host
  pub path : IsAt (dsn_text d) shown.path d.path
  pub project : IsAt (dsn_text d) shown.project_id d.project
  pub port : shown.port ≡ port_of d
  pub scheme : shown.is_https ≡ scheme_index d.scheme
  pub organization : IsOrganization d.host shown.org_id shown.has_org_id

-- the printed form of the DSN that a text spells
pub record IsDsnPrinted (given printed : List ℕ) : Type 0 where
  pub parts : DsnParts
  pub is : IsDsnText given parts
  pub printed_is : printed ≡ dsn_text parts

-- the same, and these are its parts
pub record IsDsnAt (given : List ℕ) (shown : CurdmesaDsn) (printed : List ℕ) : Type 0 where
  pub parts : DsnParts
  pub is : IsDsnText given parts
  pub printed_is : printed ≡ dsn_text parts
  pub shows : ShowsDsn shown parts

-- ---- authentication

-- the numbers of a timestamp and the flag 1; without one all are 0
abbrev pub IsTimestamp : ℕ → ℕ → ℕ → Option Time → Type 0
IsTimestamp secs nanos flag None = (secs ≡ 0) × (nanos ≡ 0) × (flag ≡ 0)
IsTimestamp secs nanos flag (Some time) = (secs ≡ time.0) × (nanos ≡ time.1) × (flag ≡ 1)

-- each part of an authentication stands at its place in the printed form
pub record ShowsAuth (shown : CurdmesaAuth) (parts : Parts) : Type 0 where
  pub key : IsAt (auth_text parts) shown.public_key parts.key
  pub secret : IsOptionalAt (auth_text parts) shown.secret_key shown.has_secret_key parts.secret
  pub client : IsOptionalAt (auth_text parts) shown.client shown.has_client parts.client
  pub timestamp : IsTimestamp shown.timestamp_secs shown.timestamp_nanos shown.has_timestamp parts.timestamp
  pub version : shown.version ≡ parts.version

-- a header tells these parts
abbrev pub IsHeader : List ℕ → Parts → Type 0
IsHeader given parts = BeginsWithSentry given × IsAuth (header_pairs given) parts

-- the printed form of an authentication that is told
pub record IsAuthPrinted (tells : Parts → Type 0) (printed : List ℕ) : Type 0 where
  pub parts : Parts
  pub is : tells parts
  pub printed_is : printed ≡ auth_text parts

-- the same, and these are its parts
pub record IsAuthAt (tells : Parts → Type 0) (shown : CurdmesaAuth) (printed : List ℕ) : Type 0 where
  pub parts : Parts
  pub is : tells parts
  pub printed_is : printed ≡ auth_text parts
  pub shows : ShowsAuth shown parts

-- ---- what is made of a DSN

-- the URL of the envelope endpoint of the DSN that a text spells
pub record IsEnvelopeUrl (given printed : List ℕ) : Type 0 where
  pub parts : DsnParts
  pub is : IsDsnText given parts
  pub printed_is : printed ≡ envelope_url parts

-- a client's name and version, unless the text is empty
abbrev pub agent_in : List ℕ → Option (List ℕ)
agent_in text = if length text == 0 then None else Some text

-- the printed form of a client's authentication at a moment, by the DSN that a text spells
pub record IsClientAuth (given : List ℕ) (secs nanos : ℕ) (client printed : List ℕ) : Type 0 where
  pub parts : DsnParts
  pub is : IsDsnText given parts
  pub now : Moment
  pub secs_are : now.secs ≡ secs
  pub nanos_are : now.nanos ≡ nanos
  pub printed_is : printed ≡ auth_text (auth_of parts now (agent_in client))
