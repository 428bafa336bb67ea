use Rattle.std.proofs.Common.{rules, ◌≡◌, ◌∙◌, ℕ, List, subst}
use Rattle.std.specs.Prelude.{string_bytes}
use Rattle.sentry_keys.specs.AuthText.{auth_text}
use Rattle.sentry_keys.specs.Dsn.{IsDsnText, dsn_parts}
use Rattle.sentry_keys.specs.DsnAuth.{auth_of}
use Rattle.sentry_c.specs.Texts.{agent_in}
use Rattle.sentry_c.proofs.keys.curdmesa_dsn_auth.Goals as goal

pub returns-in-Ok-client_auth-clause-written : goal.returns-in-Ok-client_auth-clause-written
returns-in-Ok-client_auth-clause-written c = λ _.
    let dsn = c.in-Ok-from_str.dsn in
    record {
      text = c.as_bytes.result.now;
      meant = record {
        parts = dsn_parts dsn;
        is = subst (λ (text : List ℕ). IsDsnText text (dsn_parts dsn)) c.in-Ok.ensures.cases.0 c.in-Ok-from_str.ensures.parts;
        now = c.in-Some.now;
        secs_are = c.in-Some.ensures.same.0;
        nanos_are = c.in-Some.ensures.same.1;
        printed_is = c.as_bytes.ensures.value
            ∙ subst (λ (client : List ℕ). string_bytes c.in-Ok-client_auth.printed ≡ auth_text (auth_of (dsn_parts dsn) c.in-Some.now (agent_in client))) c.in-Ok-from_utf8.ensures.cases.0 c.in-Ok-client_auth.ensures;
      };
      fits = search rules;
      put = search rules;
      length_told = search rules;
    }

pub returns-in-Ok-2-clause-no_room : goal.returns-in-Ok-2-clause-no_room
returns-in-Ok-2-clause-no_room c = λ _.
    let dsn = c.in-Ok-from_str.dsn in
    record {
      text = c.as_bytes.result.now;
      meant = record {
        parts = dsn_parts dsn;
        is = subst (λ (text : List ℕ). IsDsnText text (dsn_parts dsn)) c.in-Ok.ensures.cases.0 c.in-Ok-from_str.ensures.parts;
        now = c.in-Some.now;
        secs_are = c.in-Some.ensures.same.0;
        nanos_are = c.in-Some.ensures.same.1;
        printed_is = c.as_bytes.ensures.value
            ∙ subst (λ (client : List ℕ). string_bytes c.in-Ok-client_auth.printed ≡ auth_text (auth_of (dsn_parts dsn) c.in-Some.now (agent_in client))) c.in-Ok-from_utf8.ensures.cases.0 c.in-Ok-client_auth.ensures;
      };
      longer = search rules;
      length_told = search rules;
    }
