use Rattle.std.proofs.Common.{map}
use Rattle.form_urlencoded.specs.Parse.{pairs_left}
use Rattle.sentry_keys.specs.Auth.{parts_of}
use Rattle.sentry_keys.specs.AuthText.{query_pairs, decoded_pair}
use Rattle.sentry_keys.proofs.AuthPairs.{IsTold}
use Rattle.sentry_keys.proofs.auth.Auth.from_querystring.Given as goal

abbrev pub invariant-loop-pair : goal.invariant-loop-pair
invariant-loop-pair l = IsTold (query_pairs l.query) (map decoded_pair (pairs_left l.pair-iterator)) (parts_of l.auth)
