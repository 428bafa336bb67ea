use Rattle.std.proofs.Common.{Some, ap, rules}
use Rattle.sentry_keys.specs.Auth.{parts_of}
use Rattle.sentry_keys.proofs.AuthPairs.{tells_timestamp, tells_client, tells_version, tells_key, tells_secret, tells_nothing, moment_read}
use Rattle.sentry_keys.proofs.auth.Auth.tell.Goals as goal

pub returns-in-sentry_timestamp-clause-ok : goal.returns-in-sentry_timestamp-clause-ok
returns-in-sentry_timestamp-clause-ok c pairs t =
    let e = c.from_decimal-moment.ensures in
    tells_timestamp pairs _ t c.args.key.now c.args.value.now _ c.in-sentry_timestamp.is (moment_read c.args.value.now c.from_decimal-moment.result e.found e.only)

pub returns-in_ok-from_str-in-sentry_client-clause-ok : goal.returns-in_ok-from_str-in-sentry_client-clause-ok
returns-in_ok-from_str-in-sentry_client-clause-ok c pairs t =
    tells_client pairs _ t c.args.key.now c.args.value.now _ c.in-sentry_client.is (ap Some c.in_ok-from_str-in-sentry_client.ensures.ok)

pub returns-in_ok-self-in-sentry_version-clause-ok : goal.returns-in_ok-self-in-sentry_version-clause-ok
returns-in_ok-self-in-sentry_version-clause-ok c pairs t =
    let found = rw c.in_ok-self-in-sentry_version.ensures.ok_part at c.read_version.ensures.found in
    tells_version pairs _ t c.args.key.now c.args.value.now c.in_ok-self-in-sentry_version.field-0 c.in-sentry_version.is found

pub returns-in_ok-self-in-sentry_key-clause-ok : goal.returns-in_ok-self-in-sentry_key-clause-ok
returns-in_ok-self-in-sentry_key-clause-ok c pairs t =
    tells_key pairs _ t c.args.key.now c.args.value.now _ c.in-sentry_key.is c.in_ok-self-in-sentry_key.ensures.ok

pub returns-in_ok-from_str-in-sentry_secret-clause-ok : goal.returns-in_ok-from_str-in-sentry_secret-clause-ok
returns-in_ok-from_str-in-sentry_secret-clause-ok c pairs t =
    tells_secret pairs _ t c.args.key.now c.args.value.now _ c.in-sentry_secret.is (ap Some c.in_ok-from_str-in-sentry_secret.ensures.ok)

pub returns-else-str_eq-5-clause-ok : goal.returns-else-str_eq-5-clause-ok
returns-else-str_eq-5-clause-ok c pairs t = search (rules, tells_nothing pairs (parts_of c.args.self.now) t c.args.key.now c.args.value.now)
