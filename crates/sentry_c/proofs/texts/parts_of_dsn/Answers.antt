use Rattle.std.proofs.Common.{arith, rules, ◌≡◌, ◌∙◌, ap, length}
use Rattle.sentry_keys.specs.Dsn.{dsn_parts}
use Rattle.sentry_keys.specs.DsnScheme.{scheme_text}
use Rattle.sentry_c.proofs.Parts.{key_at, secret_at, host_at, path_at, project_at}
use Rattle.sentry_c.proofs.texts.parts_of_dsn.Goals as goal

pub returns : goal.returns
returns c =
    let d = dsn_parts c.args.dsn.now in
    let scheme : c.scheme_len-key.result ≡ length (scheme_text d.scheme) = c.scheme_len-key.ensures ∙ ap (λ s. length (scheme_text s)) c.scheme.ensures in
    let key = ap length c.public_key.ensures in
    let secret = ap length c.secret_of.ensures in
    let project = ap length c.value.ensures in
    let project_id = c.project_id.ensures in
    let path = ap length c.path.ensures in
    record {
      key = key_at d _ _ (omega (arith, c.place.ensures.offset, scheme)) (c.place.ensures.count ∙ ap length c.public_key-2.ensures);
      secret = secret_at d _ _ (omega (arith, c.place-2.ensures.offset, scheme, key)) (c.place-2.ensures.count ∙ ap length c.secret_of-2.ensures);
      host = host_at d _ _ (omega (arith, c.place-3.ensures.offset, scheme, key, secret)) (c.place-3.ensures.count ∙ ap length c.host.ensures);
      path = path_at d _ _ (omega (arith, c.place-4.ensures.offset, c.requires, project, ap length project_id, path)) (c.place-4.ensures.count ∙ ap length c.path-2.ensures);
      project = project_at d _ _ (omega (arith, c.place-5.ensures.offset, c.requires, project, ap length project_id)) (c.place-5.ensures.count ∙ ap length (c.value-2.ensures ∙ c.project_id-2.ensures));
      port = c.from.ensures ∙ c.port.ensures;
      scheme = search rules;
      organization = c.organization_of-org_id.ensures;
    }
