use Rattle.sentry_c.proofs.texts.curdmesa_rfc3339_parse.Goals as goal

pub returns-in_default-from_rfc3339-clause-invalid : goal.returns-in_default-from_rfc3339-clause-invalid
returns-in_default-from_rfc3339-clause-invalid c = λ _ s n spells. c.in_default-from_rfc3339.ensures.only s n (rw c.in-Ok.ensures.cases.0 spells)
