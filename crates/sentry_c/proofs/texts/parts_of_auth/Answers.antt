use Rattle.std.proofs.Common.{◌∙◌, ap, length}
use Rattle.sentry_keys.specs.Auth.{parts_of}
use Rattle.sentry_c.proofs.Parts.{auth_key_at, auth_secret_at, auth_client_at}
use Rattle.sentry_c.proofs.texts.parts_of_auth.Goals as goal

pub returns : goal.returns
returns c =
    let parts = parts_of c.args.auth.now in
    let numbers = c.numbers_of-timestamp_secs in
    record {
      key = auth_key_at parts _ _ c.place.ensures.offset (c.place.ensures.count ∙ ap length c.public_key.ensures);
      secret = auth_secret_at parts c.args.total _ _ _ c.requires c.secret_key.ensures c.last_part-secret.ensures.shown;
      client = auth_client_at parts c.args.total _ _ _ _ _ c.requires c.last_part-secret.ensures.before c.secret_key.ensures c.client_agent.ensures c.last_part-client.ensures.shown;
      timestamp = rw (← c.timestamp.ensures) numbers.ensures;
      version = c.from.ensures ∙ c.version.ensures;
    }
