use Rattle.std.proofs.Common.{rules, ◌∙◌, Some}
use Rattle.sentry_c.proofs.StoredSums.{behind_mark, one_ledger, reads_ledger, sums_are_long}
use Rattle.sentry_c.proofs.keeping.curdmesa_ledger_read.Goals as goal

pub returns-clause-read : goal.returns-clause-read
returns-clause-read c = λ _.
    reads_ledger 108 c.args.bytes.now c.in-Some.sums.now c.read_sums.new.sums (c.read_sums.ensures.long ∙ c.if-ledger-ne-PAIRS.false) (search rules)
    (behind_mark c.args.bytes.now (Some c.in-Some.sums) c.in-Some.ensures.cases) c.read_sums.ensures.sums

pub returns-clause-only : goal.returns-clause-only
returns-clause-only c = λ _ sums are.
    one_ledger 108 c.args.bytes.now c.read_sums.new.sums sums
    (reads_ledger 108 c.args.bytes.now c.in-Some.sums.now c.read_sums.new.sums (c.read_sums.ensures.long ∙ c.if-ledger-ne-PAIRS.false) (search rules)
    (behind_mark c.args.bytes.now (Some c.in-Some.sums) c.in-Some.ensures.cases) c.read_sums.ensures.sums) are

pub returns-then-sums-clause-invalid : goal.returns-then-sums-clause-invalid
returns-then-sums-clause-invalid c = λ _ sums are.
    c.if-sums.true (sums_are_long 108 c.args.bytes.now sums c.in-Some.sums.now are (behind_mark c.args.bytes.now (Some c.in-Some.sums) c.in-Some.ensures.cases))
