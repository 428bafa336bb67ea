-- The table of transactions. Members of other keys are ignored.
use Rattle.std.specs.Prelude.{◌≡◌, ℕ, List, [], ◌∷◌, ◌++◌, codes, Some, true, refl}
use Rattle.uuid.specs.Text.{lower, hyphenated_text}
use Rattle.sentry_tables.specs.Cell.{Cell, text, octets}
use Rattle.sentry_tables.specs.Fields.{Field, field, rows_of, table_of, fields_by}
use Rattle.sentry_tables.specs.Kind.{must, may, may_strict, default, draw, at_once, Kind, list, map, keys}
use Rattle.sentry_tables.specs.Written.{in_order}
use Rattle.sentry_tables.specs.Cells.{text_cell, cow_cell, tree_cell, option_cell, list_cell, map_cell, empty_map}
use Rattle.sentry_tables.specs.Kinds.{text_kind, any_kind}
use Rattle.sentry_moments.specs.MomentForms.{rfc3339_kind, seconds_kind}
use Rattle.sentry_moments.specs.Moments.{moment_cell}
use Rattle.sentry_moments.specs.MomentTexts.{rfc3339_text}
use Rattle.sentry_moments.specs.declared.moment.Moment.{Moment}
use Rattle.sentry_identifiers.specs.Uuids.{IsRandomUuid, simple_kind}
use Rattle.sentry_parts.specs.ClientSdk.{sdk_cell, sdk_kind}
use Rattle.sentry_parts.specs.Requests.{request_cell, request_kind}
use Rattle.sentry_parts.specs.Users.{user_cell, user_kind}
use Rattle.sentry_contexts.specs.Contexts.{context_cell, contexts_kind}
use Rattle.sentry_event.specs.Spans.{span_cell, span_kind}
use Rattle.sentry_event.specs.declared.transaction.Transaction.{Transaction}

unfoldable pub transaction_fields : List (Field Transaction)
transaction_fields =
    field (codes "contexts") (default empty_map) contexts_kind (λ t. map_cell context_cell t.contexts.entries)
    ∷ field (codes "environment") may text_kind (λ t. option_cell cow_cell t.environment)
    ∷ field (codes "event_id") (draw IsRandomUuid) simple_kind (λ t. octets t.event_id)
    ∷ field (codes "extra") (default empty_map) (map any_kind) (λ t. map_cell tree_cell t.extra.entries)
    ∷ field (codes "platform") (default (text (codes "other"))) text_kind (λ t. cow_cell t.platform)
    ∷ field (codes "release") may text_kind (λ t. option_cell cow_cell t.release)
    ∷ field (codes "request") may request_kind (λ t. option_cell request_cell t.request)
    ∷ field (codes "sdk") may sdk_kind (λ t. option_cell sdk_cell t.sdk)
    ∷ field (codes "server_name") may text_kind (λ t. option_cell cow_cell t.server_name)
    ∷ field (codes "spans") must (list span_kind) (λ t. list_cell span_cell t.spans.items)
    ∷ field (codes "start_timestamp") at_once seconds_kind (λ t. moment_cell t.start_timestamp)
    ∷ field (codes "tags") (default empty_map) (map text_kind) (λ t. map_cell text_cell t.tags.entries)
    ∷ field (codes "timestamp") may_strict rfc3339_kind (λ t. option_cell moment_cell t.timestamp)
    ∷ field (codes "transaction") may text_kind (λ t. option_cell text_cell t.name)
    ∷ field (codes "user") may user_kind (λ t. option_cell user_cell t.user)
    ∷ []

abbrev pub transaction_kind : Kind
transaction_kind = table_of transaction_fields

abbrev pub transaction_cell : Transaction → Cell
transaction_cell t = fields_by transaction_fields t

pub transaction_in_order : in_order (keys (rows_of transaction_fields)) ≡ true
unfolding transaction_fields
transaction_in_order = refl

-- as a text: the id and when it began
abbrev pub transaction_text : Transaction → List ℕ
transaction_text t = codes "Transaction(id: " ++ (hyphenated_text lower t.event_id ++ (codes ", ts: " ++ (rfc3339_text t.start_timestamp.secs t.start_timestamp.nanos ++ codes ")")))

-- the one ends at that moment, and is the other in all else
abbrev pub EndsAt : Moment → Transaction → Transaction → Type 0
EndsAt end old new = new ≡ record old { timestamp = Some end }
