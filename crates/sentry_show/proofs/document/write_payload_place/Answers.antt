use Rattle.sentry_tables.specs.Continued.{continues_on}
use Rattle.sentry_show.specs.Document.{payload_place}
use Rattle.sentry_show.proofs.document.write_payload_place.Goals as goal

pub returns : goal.returns
unfolding payload_place
returns c =
    let start = rw c.in_ok-write_count.was at c.write_count.ensures in
    let length = rw c.in_ok-write_count-2.was at c.write_count-2.ensures in
    continues_on c.args.out.now c.write_count.new.out c.write_count-2.new.out _ _ start length
