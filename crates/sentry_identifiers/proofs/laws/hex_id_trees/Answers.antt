use Rattle.sentry_tables.proofs.Laws.{has_laws}
use Rattle.sentry_tables.proofs.Spellings.{spelled_laws}
use Rattle.sentry_identifiers.specs.HexIdTree.{hex_id_spelling, span_id_kind, trace_id_kind}
use Rattle.sentry_identifiers.proofs.HexIdTrees.{hex_id_laws, drawn_id_laws}
use Rattle.sentry_identifiers.proofs.laws.hex_id_trees.Goals as goal

pub returns-clause-spans : goal.returns-clause-spans
returns-clause-spans c = has_laws span_id_kind (spelled_laws (hex_id_spelling 8) (hex_id_laws 8))

pub returns-clause-traces : goal.returns-clause-traces
returns-clause-traces c = has_laws trace_id_kind (spelled_laws (hex_id_spelling 16) (hex_id_laws 16))

pub returns-clause-drawn_spans : goal.returns-clause-drawn_spans
returns-clause-drawn_spans c = drawn_id_laws 8

pub returns-clause-drawn_traces : goal.returns-clause-drawn_traces
returns-clause-drawn_traces c = drawn_id_laws 16
