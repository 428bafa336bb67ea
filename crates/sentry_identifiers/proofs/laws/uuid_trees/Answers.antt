use Rattle.sentry_tables.proofs.Laws.{has_laws}
use Rattle.sentry_identifiers.specs.Uuids.{hyphenated, simple, hyphenated_kind, simple_kind}
use Rattle.sentry_identifiers.proofs.UuidLaws.{hyphenated_laws, simple_laws, uuid_normal, drawn_uuid_laws}
use Rattle.sentry_identifiers.proofs.laws.uuid_trees.Goals as goal

pub returns-clause-hyphenated : goal.returns-clause-hyphenated
returns-clause-hyphenated c = has_laws hyphenated_kind hyphenated_laws

pub returns-clause-simple : goal.returns-clause-simple
returns-clause-simple c = has_laws simple_kind simple_laws

pub returns-clause-drawn_hyphenated : goal.returns-clause-drawn_hyphenated
returns-clause-drawn_hyphenated c = drawn_uuid_laws hyphenated

pub returns-clause-drawn_simple : goal.returns-clause-drawn_simple
returns-clause-drawn_simple c = drawn_uuid_laws simple

pub returns-clause-normal_hyphenated : goal.returns-clause-normal_hyphenated
returns-clause-normal_hyphenated c = uuid_normal hyphenated

pub returns-clause-normal_simple : goal.returns-clause-normal_simple
returns-clause-normal_simple c = uuid_normal simple
