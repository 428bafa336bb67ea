use Rattle.std.proofs.Common.{rules, ap, ◌∙◌}
use Rattle.sentry_envelope.specs.EnvelopeView.{header_of}
use Rattle.sentry_envelope.specs.Filter.{first_id_of, header_left}
use Rattle.sentry_envelope.specs.HeaderFields.{put_id}
use Rattle.sentry_envelope.proofs.FilterLemmas.{raw_stays, raw_goes, items_stay}
use Rattle.sentry_envelope.proofs.envelope.Envelope.filter_with.Goals as goal

pub returns-then-filter-clause-filtered : goal.returns-then-filter-clause-filtered
returns-then-filter-clause-filtered g c = raw_stays _ _ _ c.args.self c.in-Raw.bytes _ _ c.in-Raw.is c.if-filter.ensures

pub returns-in-Raw-clause-filtered : goal.returns-in-Raw-clause-filtered
returns-in-Raw-clause-filtered g c = raw_goes _ _ _ c.args.self c.in-Raw.bytes _ _ _ c.in-Raw.is c.if-filter.ensures c.on_filtered.ensures

pub returns-clause-filtered : goal.returns-clause-filtered
returns-clause-filtered g c =
    items_stay _ _ _ c.args.self c.in-Items.items c.filter_items-kept.result _ _ c.headers_of_rest-headers.result c.in-Items.is c.filter_items-kept.ensures.filters (search rules)
    (c.headers_of_rest-headers.ensures ∙ ap (λ id. put_id id (header_left c.args.keep_headers (header_of c.args.self))) (c.first_id.ensures ∙ ap first_id_of c.deref.ensures.value))
