-- The statuses of errors.
use Rattle.std.specs.Prelude.{◌≡◌, ℕ, ℤ, pos, List}
use Rattle.sentry_framing.specs.declared.error.EnvelopeError.{EnvelopeError}
use Rattle.sentry_framing.specs.declared.error.EnvelopeError.TheVariants as refusals
use Rattle.sentry_keys.specs.Auth.{HasNoKey, HasUnreadableVersion, Pair}
use Rattle.sentry_keys.specs.AuthText.{BeginsWithSentry, header_pairs, query_pairs}
use Rattle.sentry_keys.specs.Dsn.{IsRefused, UnlessMemory}
use Rattle.sentry_keys.specs.declared.auth.ParseAuthError.{ParseAuthError}
use Rattle.sentry_keys.specs.declared.auth.ParseAuthError.TheVariants as auth
use Rattle.sentry_keys.specs.declared.dsn_error.ParseDsnError.{ParseDsnError}
use Rattle.sentry_keys.specs.declared.dsn_error.ParseDsnError.TheVariants as dsn

-- of a refused envelope: ten and the place of the error among its variants
abbrev pub refusal_status : EnvelopeError → ℤ
refusal_status refusals.UnexpectedEof = pos 10
refusal_status refusals.MissingHeader = pos 11
refusal_status refusals.MissingItemHeader = pos 12
refusal_status refusals.MissingNewline = pos 13
refusal_status refusals.InvalidHeader = pos 14
refusal_status refusals.InvalidItemHeader = pos 15
refusal_status refusals.InvalidItemPayload = pos 16
refusal_status refusals.OutOfMemory = pos 17

-- of a refused DSN; a failed allocation has the status of an envelope's
abbrev pub dsn_status : ParseDsnError → ℤ
dsn_status dsn.InvalidUrl = pos 20
dsn_status dsn.InvalidScheme = pos 21
dsn_status dsn.NoUsername = pos 22
dsn_status dsn.NoProjectId = pos 23
dsn_status (dsn.InvalidProjectId error) = pos 24
dsn_status dsn.Memory = pos 17

-- of refused client authentication
abbrev pub auth_status : ParseAuthError → ℤ
auth_status auth.NonSentryAuth = pos 30
auth_status auth.InvalidVersion = pos 31
auth_status auth.MissingPublicKey = pos 32
auth_status auth.Memory = pos 17

-- The status is that of an error that refuses the text as a DSN.
pub record IsDsnRefusal (text : List ℕ) (status : ℤ) : Type 0 where
  pub error : ParseDsnError
  pub status_is : status ≡ dsn_status error
  pub refused : UnlessMemory error (IsRefused text error)

-- what is refused as a header, by the error
abbrev pub RefusesHeader : List ℕ → ParseAuthError → Type 0
RefusesHeader text auth.NonSentryAuth = BeginsWithSentry text → ⊥
RefusesHeader text auth.InvalidVersion = BeginsWithSentry text × HasUnreadableVersion (header_pairs text)
RefusesHeader text auth.MissingPublicKey = BeginsWithSentry text × HasNoKey (header_pairs text)
RefusesHeader text auth.Memory = Unit {0}

-- The status is that of an error that refuses the text as a header.
pub record IsAuthRefusal (text : List ℕ) (status : ℤ) : Type 0 where
  pub error : ParseAuthError
  pub status_is : status ≡ auth_status error
  pub refused : RefusesHeader text error

-- what refuses the pairs of a query, by the error
abbrev pub RefusesPairs : List Pair → ParseAuthError → Type 0
RefusesPairs pairs auth.NonSentryAuth = ⊥
RefusesPairs pairs auth.InvalidVersion = HasUnreadableVersion pairs
RefusesPairs pairs auth.MissingPublicKey = HasNoKey pairs
RefusesPairs pairs auth.Memory = Unit {0}

-- The status is that of an error that refuses the query.
pub record IsQueryRefusal (query : List ℕ) (status : ℤ) : Type 0 where
  pub error : ParseAuthError
  pub status_is : status ≡ auth_status error
  pub refused : RefusesPairs (query_pairs query) error
