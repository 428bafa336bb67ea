use Rattle.std.proofs.Common.{◌∙◌, List, ℕ, sym, ap, ◌++◌, arith}
use Rattle.std.proofs.lemmas.Str.{encode_ascii}
use Rattle.sentry_keys.specs.DsnOrganization.{labels}
use Rattle.sentry_keys.proofs.DsnHosts.{no_number}
use Rattle.sentry_keys.proofs.dsn_organization.ingest_number.Goals as goal

pub returns-in_err-number : goal.returns-in_err-number
returns-in_err-number c =
    rw c.from_residual-in_err-number.ensures
    (no_number c.args.host.now c.in_ok-first.first.now (labels c.in_ok-first.rest.now) c.in_ok-first.ensures
    (λ n e. c.in_err-number.ensures.cases n (e ∙ ap (λ (t : List ℕ). t ++ n) (sym (encode_ascii 111 (omega arith))))))
