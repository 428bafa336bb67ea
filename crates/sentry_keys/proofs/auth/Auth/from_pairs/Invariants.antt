use Rattle.std.proofs.Common.{map, drop}
use Rattle.form_urlencoded.specs.Form.{pair_text}
use Rattle.sentry_keys.specs.Auth.{parts_of}
use Rattle.sentry_keys.proofs.AuthPairs.{IsTold}
use Rattle.sentry_keys.proofs.auth.Auth.from_pairs.Given as goal

abbrev pub invariant-loop-key : goal.invariant-loop-key
invariant-loop-key l = IsTold (map pair_text l.pairs) (map pair_text (drop l.key-index l.pairs)) (parts_of l.auth)
