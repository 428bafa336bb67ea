use Rattle.std.proofs.Common.{sym, ap, ◌∙◌, arith}
use Rattle.std.specs.Option.{option_map}
use Rattle.std.proofs.lemmas.Bool.{true≢false}
use Rattle.std.proofs.lemmas.Str.Pattern.{starts_char}
use Rattle.sentry_text.specs.ProjectId.{organization_value}
use Rattle.sentry_keys.proofs.DsnHosts.{numbered_parts}
use Rattle.sentry_keys.proofs.dsn_organization.organization_number.Goals as goal

pub returns : goal.returns
returns c =
    let begins = starts_char 43 c.args.text.now c.starts_with.result c.starts_with.ensures.cases (omega arith) (omega arith) in
    numbered_parts c.args.text.now c.ok.result (λ e. true≢false (sym (begins.1 e) ∙ c.if-starts_with.false))
    (ap (option_map organization_value) c.ok.ensures.value ∙ c.parse.ensures.value)
