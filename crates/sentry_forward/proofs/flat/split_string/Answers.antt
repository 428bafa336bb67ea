use Rattle.sentry_forward.proofs.FlatHeaders.{string_stands}
use Rattle.sentry_forward.proofs.Runs.{run_clear}
use Rattle.sentry_forward.proofs.flat.split_string.Goals as goal

pub returns-clause-text : goal.returns-clause-text
returns-clause-text c =
    let clear = run_clear c.in_ok-inside.inside.now c.split_at.result.0.now c.run_len.result c.run_len.ensures.value c.split_at.ensures.front in
    string_stands c.args.bytes.now c.in_ok-inside.inside.now c.split_at.result.0.now c.split_at.result.1.now c.in_ok-rest.rest.now c.in_ok-inside.ensures c.split_at.ensures.by_index.0 c.in_ok-rest.ensures clear.0

pub returns-clause-plain : goal.returns-clause-plain
returns-clause-plain c = (run_clear c.in_ok-inside.inside.now c.split_at.result.0.now c.run_len.result c.run_len.ensures.value c.split_at.ensures.front).0

pub returns-clause-ascii : goal.returns-clause-ascii
returns-clause-ascii c = (run_clear c.in_ok-inside.inside.now c.split_at.result.0.now c.run_len.result c.run_len.ensures.value c.split_at.ensures.front).1
