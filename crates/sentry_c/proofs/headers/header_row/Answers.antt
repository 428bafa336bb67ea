use Rattle.std.proofs.Common.{List, ℕ, Option, option_map, string_bytes, subst}
use Rattle.uuid.specs.Text.{hyphenated_text, lower}
use Rattle.sentry_keys.specs.Dsn.{dsn_parts, dsn_text}
use Rattle.sentry_keys.specs.DsnTree.{dsn_cell}
use Rattle.sentry_parts.specs.ClientSdk.{sdk_cell}
use Rattle.sentry_records.specs.Sampling.{sampling_cell}
use Rattle.sentry_tables.specs.Cell.{octets}
use Rattle.sentry_c.specs.Headers.{IsTrace}
use Rattle.sentry_c.specs.Misfits.{IsGrown}
use Rattle.sentry_c.specs.Texts.{IsOptionalAt}
use Rattle.sentry_c.proofs.HeaderRows.{copied_text, copied_value, one_flag, optional_on}
use Rattle.sentry_c.proofs.Rowed.{grown_on}
use Rattle.sentry_c.proofs.headers.header_row.Goals as goal

pub returns : goal.returns
returns c =
    let first = c.push_event_id.new.texts.items in
    let second = c.push_dsn.new.texts.items in
    let third = c.push_optional.new.texts.items in
    let fourth = c.push_optional-2.new.texts.items in
    let all = c.push_trace.new.texts.items in
    let four : IsGrown fourth all = c.in_ok-trace.ensures.grown in
    let three : IsGrown third all = grown_on third fourth all c.in_ok-sdk_version.ensures.grown four in
    let two : IsGrown second all = grown_on second third all c.in_ok-sdk_name.ensures.grown three in
    let one : IsGrown first all = grown_on first second all c.in_ok-dsn.ensures.grown two in
    let name : IsOptionalAt all c.in_ok-sdk_name.sdk_name c.in_ok-sdk_name.has_sdk (option_map (λ sdk. string_bytes sdk.now.name) c.sdk-sdk.result) =
    subst (λ (o : Option (List ℕ)). IsOptionalAt all c.in_ok-sdk_name.sdk_name c.in_ok-sdk_name.has_sdk o) c.name_of.ensures (optional_on third all _ _ _ three c.in_ok-sdk_name.ensures.told) in
    let version : IsOptionalAt all c.in_ok-sdk_version.sdk_version c.in_ok-sdk_version.field-0-1 (option_map (λ sdk. string_bytes sdk.now.version) c.sdk-sdk.result) =
    subst (λ (o : Option (List ℕ)). IsOptionalAt all c.in_ok-sdk_version.sdk_version c.in_ok-sdk_version.field-0-1 o) c.version_of.ensures (optional_on fourth all _ _ _ four c.in_ok-sdk_version.ensures.told) in
    record {
      event_id = copied_text all _ _ _ octets (hyphenated_text lower) c.event_id.result c.event_id.ensures.part (optional_on first all _ _ _ one c.in_ok-event_id.ensures.told);
      dsn = copied_text all _ _ _ dsn_cell (λ dsn. dsn_text (dsn_parts dsn)) c.dsn.result c.dsn.ensures (optional_on second all _ _ _ two c.in_ok-dsn.ensures.told);
      sdk_name = copied_text all _ _ _ sdk_cell (λ sdk. string_bytes sdk.name) c.sdk-sdk.result c.sdk-sdk.ensures name;
      sdk_version = copied_text all _ _ _ sdk_cell (λ sdk. string_bytes sdk.version) c.sdk-sdk.result c.sdk-sdk.ensures (one_flag all _ _ _ _ _ _ c.sdk-sdk.result name version);
      sent_at = (c.sent_at.result, c.sent_at.ensures, c.numbers_of-sent_at_secs.ensures);
      trace = copied_value sampling_cell (λ o. IsTrace all c.in_ok-trace.trace c.in_ok-trace.has_trace o) _ c.trace.result c.trace.ensures c.in_ok-trace.ensures.told;
    }
