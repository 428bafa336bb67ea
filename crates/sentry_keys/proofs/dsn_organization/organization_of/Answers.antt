use Rattle.sentry_keys.proofs.dsn_organization.organization_of.Goals as goal

pub returns-in_err-ingest_number : goal.returns-in_err-ingest_number
returns-in_err-ingest_number c = rw c.from_residual.ensures (λ n h. c.in_err-ingest_number.ensures h.0 h.1)
