use Rattle.sentry_tables.specs.Writes.{written}
use Rattle.sentry_envelope.specs.HeaderFields.{headers_cell}
use Rattle.sentry_envelope.proofs.HeaderValues.{header_whole, where_stored_and_plain}
use Rattle.sentry_envelope.proofs.write.write_headers.Goals as goal

pub returns : goal.returns
unfolding written
returns c = where_stored_and_plain c.write_text.result _ _ _ (header_whole (headers_cell c.args.headers.now)) c.write_text.ensures.ok
