-- A refused authentication, and its status.
use Rattle.std.proofs.Common.{◌≡◌, ℕ, ℤ, pos, List, Err, refl}
use Rattle.sentry_keys.specs.AuthText.{ReadsHeader, query_pairs}
use Rattle.sentry_keys.specs.declared.auth.ParseAuthError.{ParseAuthError}
use Rattle.sentry_keys.specs.declared.auth.ParseAuthError.TheVariants as auth
use Rattle.sentry_keys.specs.Auth.{Pair, ReadsPairs}
use Rattle.sentry_c.specs.Statuses.{IsAuthRefusal, IsQueryRefusal, RefusesHeader, RefusesPairs, auth_status}

header_refused : (text : List ℕ) (error : ParseAuthError) → ReadsHeader text (Err error) → RefusesHeader text error
header_refused text auth.NonSentryAuth refused = refused
header_refused text auth.InvalidVersion refused = refused
header_refused text auth.MissingPublicKey refused = refused
header_refused text auth.Memory refused = tt

pub auth_refused : (text : List ℕ) (error : ParseAuthError) (status : ℤ) → status ≡ auth_status error → ReadsHeader text (Err error) → IsAuthRefusal text status
auth_refused text error status is refused = record { error = error; status_is = is; refused = header_refused text error refused }

pub auth_out_of_memory : (text : List ℕ) → IsAuthRefusal text (pos 17)
auth_out_of_memory text = record { error = auth.Memory; status_is = refl; refused = tt }

pairs_refused : (pairs : List Pair) (error : ParseAuthError) → ReadsPairs pairs (Err error) → RefusesPairs pairs error
pairs_refused pairs auth.NonSentryAuth refused = refused
pairs_refused pairs auth.InvalidVersion refused = refused
pairs_refused pairs auth.MissingPublicKey refused = refused
pairs_refused pairs auth.Memory refused = tt

pub query_refused : (query : List ℕ) (error : ParseAuthError) (status : ℤ) → status ≡ auth_status error → ReadsPairs (query_pairs query) (Err error) → IsQueryRefusal query status
query_refused query error status is refused = record { error = error; status_is = is; refused = pairs_refused (query_pairs query) error refused }

pub query_out_of_memory : (query : List ℕ) → IsQueryRefusal query (pos 17)
query_out_of_memory query = record { error = auth.Memory; status_is = refl; refused = tt }
