-- The table of events. Members of other keys are ignored.
use Rattle.std.specs.Prelude.{◌≡◌, ℕ, List, [], ◌∷◌, ◌++◌, codes, true, refl}
use Rattle.uuid.specs.Text.{lower, hyphenated_text}
use Rattle.sentry_tables.specs.Cell.{Cell, text, octets}
use Rattle.sentry_tables.specs.Fields.{Field, field, rows_of, table_of, fields_by}
use Rattle.sentry_tables.specs.Kind.{may, default, draw, at_once, Kind, map, values, keys}
use Rattle.sentry_tables.specs.Written.{in_order}
use Rattle.sentry_tables.specs.Cells.{text_cell, cow_cell, tree_cell, option_cell, list_cell, map_cell, empty_list, empty_map}
use Rattle.sentry_tables.specs.Kinds.{text_kind, any_kind}
use Rattle.sentry_tables.specs.Spelling.{word_cell}
use Rattle.sentry_words.specs.Level.{level_kind, level_word}
use Rattle.sentry_moments.specs.MomentForms.{seconds_kind}
use Rattle.sentry_moments.specs.Moments.{moment_cell}
use Rattle.sentry_moments.specs.MomentTexts.{rfc3339_text}
use Rattle.sentry_identifiers.specs.Uuids.{IsRandomUuid, simple_kind}
use Rattle.sentry_frames.specs.Exceptions.{exception_cell, exception_kind}
use Rattle.sentry_frames.specs.Frames.{stacktrace_cell, stacktrace_kind, template_cell, template_kind}
use Rattle.sentry_frames.specs.LogEntries.{entry_cell, entry_kind}
use Rattle.sentry_frames.specs.Threads.{thread_cell, thread_kind}
use Rattle.sentry_parts.specs.Breadcrumbs.{breadcrumb_cell, breadcrumb_kind}
use Rattle.sentry_parts.specs.ClientSdk.{sdk_cell, sdk_kind}
use Rattle.sentry_parts.specs.Debugging.{empty_meta, debug_meta_cell, debug_meta_kind}
use Rattle.sentry_parts.specs.Requests.{request_cell, request_kind}
use Rattle.sentry_parts.specs.Users.{user_cell, user_kind}
use Rattle.sentry_contexts.specs.Contexts.{context_cell, contexts_kind}
use Rattle.sentry_event.specs.Fingerprints.{fingerprint_cell, fingerprint_kind, usual_fingerprint}
use Rattle.sentry_event.specs.declared.event.Event.{Event}

unfoldable pub event_fields : List (Field Event)
event_fields =
    field (codes "breadcrumbs") (default empty_list) (values breadcrumb_kind) (λ e. list_cell breadcrumb_cell e.breadcrumbs.values.items)
    ∷ field (codes "contexts") (default empty_map) contexts_kind (λ e. map_cell context_cell e.contexts.entries)
    ∷ field (codes "culprit") may text_kind (λ e. option_cell text_cell e.culprit)
    ∷ field (codes "debug_meta") (default empty_meta) debug_meta_kind (λ e. debug_meta_cell e.debug_meta)
    ∷ field (codes "dist") may text_kind (λ e. option_cell cow_cell e.dist)
    ∷ field (codes "environment") may text_kind (λ e. option_cell cow_cell e.environment)
    ∷ field (codes "event_id") (draw IsRandomUuid) simple_kind (λ e. octets e.event_id)
    ∷ field (codes "exception") (default empty_list) (values exception_kind) (λ e. list_cell exception_cell e.exception.values.items)
    ∷ field (codes "extra") (default empty_map) (map any_kind) (λ e. map_cell tree_cell e.extra.entries)
    ∷ field (codes "fingerprint") (default usual_fingerprint) fingerprint_kind (λ e. fingerprint_cell e.fingerprint.items)
    ∷ field (codes "level") (default (text (codes "error"))) level_kind (λ e. word_cell level_word e.level)
    ∷ field (codes "logentry") may entry_kind (λ e. option_cell entry_cell e.logentry)
    ∷ field (codes "logger") may text_kind (λ e. option_cell text_cell e.logger)
    ∷ field (codes "message") may text_kind (λ e. option_cell text_cell e.message)
    ∷ field (codes "modules") (default empty_map) (map text_kind) (λ e. map_cell text_cell e.modules.entries)
    ∷ field (codes "platform") (default (text (codes "other"))) text_kind (λ e. cow_cell e.platform)
    ∷ field (codes "release") may text_kind (λ e. option_cell cow_cell e.release)
    ∷ field (codes "request") may request_kind (λ e. option_cell request_cell e.request)
    ∷ field (codes "sdk") may sdk_kind (λ e. option_cell sdk_cell e.sdk)
    ∷ field (codes "server_name") may text_kind (λ e. option_cell cow_cell e.server_name)
    ∷ field (codes "stacktrace") may stacktrace_kind (λ e. option_cell stacktrace_cell e.stacktrace)
    ∷ field (codes "tags") (default empty_map) (map text_kind) (λ e. map_cell text_cell e.tags.entries)
    ∷ field (codes "template") may template_kind (λ e. option_cell template_cell e.template)
    ∷ field (codes "threads") (default empty_list) (values thread_kind) (λ e. list_cell thread_cell e.threads.values.items)
    ∷ field (codes "timestamp") at_once seconds_kind (λ e. moment_cell e.timestamp)
    ∷ field (codes "transaction") may text_kind (λ e. option_cell text_cell e.transaction)
    ∷ field (codes "user") may user_kind (λ e. option_cell user_cell e.user)
    ∷ []

abbrev pub event_kind : Kind
event_kind = table_of event_fields

abbrev pub event_cell : Event → Cell
event_cell e = fields_by event_fields e

pub event_in_order : in_order (keys (rows_of event_fields)) ≡ true
unfolding event_fields
event_in_order = refl

-- as a text: the id and the moment
abbrev pub event_text : Event → List ℕ
event_text e = codes "Event(id: " ++ (hyphenated_text lower e.event_id ++ (codes ", ts: " ++ (rfc3339_text e.timestamp.secs e.timestamp.nanos ++ codes ")")))
