use Rattle.sentry_c.specs.Misfits.{IsGrown}
use Rattle.sentry_c.proofs.HeaderRows.{copied_plain, optional_on}
use Rattle.sentry_c.proofs.Rowed.{grown_on}
use Rattle.sentry_c.proofs.headers.trace_row.Goals as goal

pub returns-clause-tells : goal.returns-clause-tells
returns-clause-tells c =
    let first = c.push_trace_id.new.texts.items in
    let second = c.push_optional.new.texts.items in
    let third = c.push_optional-2.new.texts.items in
    let fourth = c.push_optional-3.new.texts.items in
    let all = c.push_optional-4.new.texts.items in
    let four : IsGrown fourth all = c.in_ok-transaction.ensures.grown in
    let three : IsGrown third all = grown_on third fourth all c.in_ok-environment.ensures.grown four in
    let two : IsGrown second all = grown_on second third all c.in_ok-release.ensures.grown three in
    let one : IsGrown first all = grown_on first second all c.in_ok-public_key.ensures.grown two in
    record {
      trace_id = (c.trace_id.result, c.trace_id.ensures, optional_on first all _ _ _ one c.in_ok-trace_id.ensures.told);
      public_key = copied_plain all _ _ _ c.public_key.result c.public_key.ensures (optional_on second all _ _ _ two c.in_ok-public_key.ensures.told);
      release = copied_plain all _ _ _ c.release.result c.release.ensures (optional_on third all _ _ _ three c.in_ok-release.ensures.told);
      environment = copied_plain all _ _ _ c.environment.result c.environment.ensures (optional_on fourth all _ _ _ four c.in_ok-environment.ensures.told);
      transaction = copied_plain all _ _ _ c.transaction.result c.transaction.ensures c.in_ok-transaction.ensures.told;
      sample_rate = (c.sample_rate.result, c.sample_rate.ensures, c.number_told-sample_rate.ensures);
      sample_rand = (c.rand_of.result, c.rand_of.ensures, c.number_told-sample_rand.ensures);
      org_id = (c.organization_of.result, c.organization_of.ensures, c.number_told-org_id.ensures);
      sampled = (c.sampled.result, c.sampled.ensures, c.truth_told-sampled.ensures);
    }
