-- The tables of sessions, of their attributes, and of sessions that are counted. Members of other keys are ignored.
use Rattle.std.specs.Prelude.{◌≡◌, ◌^◌, List, [], ◌∷◌, IfSome, codes, true, false, refl}
use Rattle.sentry_tables.specs.Cell.{Cell, octets, truth}
use Rattle.sentry_tables.specs.Fields.{Field, field, rows_of, table_of, fields_by}
use Rattle.sentry_tables.specs.Kind.{must, may, may_null, may_strict, default, always, draw, at_once, Kind, list, keys}
use Rattle.sentry_tables.specs.Written.{in_order}
use Rattle.sentry_tables.specs.Cells.{text_cell, cow_cell, natural_cell, option_cell, list_cell, empty_list}
use Rattle.sentry_tables.specs.Kinds.{text_kind, truth_kind, unsigned_kind}
use Rattle.sentry_tables.specs.Spelling.{word_cell}
use Rattle.sentry_text.specs.Ip.{IsStoredIp}
use Rattle.sentry_text.specs.IpTree.{ip_cell, ip_kind}
use Rattle.sentry_identifiers.specs.Uuids.{IsRandomUuid, hyphenated_kind}
use Rattle.sentry_moments.specs.MomentForms.{rfc3339_kind}
use Rattle.sentry_moments.specs.Moments.{moment_cell}
use Rattle.sentry_words.specs.SessionStatus.{session_status_kind, session_status_word}
use Rattle.sentry_words.specs.declared.session_status.SessionStatus.TheVariants as SessionStatus
use Rattle.sentry_records.specs.declared.session_attributes.SessionAttributes.{SessionAttributes}
use Rattle.sentry_records.specs.declared.session_update.SessionUpdate.{SessionUpdate}
use Rattle.sentry_records.specs.declared.session_aggregate_item.SessionAggregateItem.{SessionAggregateItem}
use Rattle.sentry_records.specs.declared.session_aggregates.SessionAggregates.{SessionAggregates}

-- the session goes on
abbrev pub ok_status : Cell
ok_status = word_cell session_status_word SessionStatus.Ok

-- ---- attributes of sessions

unfoldable pub attributes_fields : List (Field SessionAttributes)
attributes_fields =
    field (codes "environment") may text_kind (λ a. option_cell cow_cell a.environment)
    ∷ field (codes "ip_address") may ip_kind (λ a. option_cell ip_cell a.ip_address)
    ∷ field (codes "release") must text_kind (λ a. cow_cell a.release)
    ∷ field (codes "user_agent") may text_kind (λ a. option_cell text_cell a.user_agent)
    ∷ []

abbrev pub attributes_kind : Kind
attributes_kind = table_of attributes_fields

abbrev pub attributes_cell : SessionAttributes → Cell
attributes_cell a = fields_by attributes_fields a

-- the address of the user, where there is one, has numbers in range
abbrev pub IsStoredAddress : SessionAttributes → Type 0
IsStoredAddress a = IfSome a.ip_address IsStoredIp

pub attributes_in_order : in_order (keys (rows_of attributes_fields)) ≡ true
unfolding attributes_fields
attributes_in_order = refl

-- ---- an update of a session

unfoldable pub session_fields : List (Field SessionUpdate)
session_fields =
    field (codes "attrs") must attributes_kind (λ s. attributes_cell s.attributes)
    ∷ field (codes "did") may_null text_kind (λ s. option_cell text_cell s.distinct_id)
    ∷ field (codes "duration") may (unsigned_kind (2 ^ 64)) (λ s. option_cell natural_cell s.duration)
    ∷ field (codes "errors") (always (natural_cell 0)) (unsigned_kind (2 ^ 64)) (λ s. natural_cell s.errors)
    ∷ field (codes "init") (default (truth false)) truth_kind (λ s. truth s.init)
    ∷ field (codes "seq") may (unsigned_kind (2 ^ 64)) (λ s. option_cell natural_cell s.sequence)
    ∷ field (codes "sid") (draw IsRandomUuid) hyphenated_kind (λ s. octets s.session_id)
    ∷ field (codes "started") at_once rfc3339_kind (λ s. moment_cell s.started)
    ∷ field (codes "status") (always ok_status) session_status_kind (λ s. (word_cell session_status_word) s.status)
    ∷ field (codes "timestamp") may_strict rfc3339_kind (λ s. option_cell moment_cell s.timestamp)
    ∷ []

abbrev pub session_kind : Kind
session_kind = table_of session_fields

abbrev pub session_cell : SessionUpdate → Cell
session_cell s = fields_by session_fields s

pub session_in_order : in_order (keys (rows_of session_fields)) ≡ true
unfolding session_fields
session_in_order = refl

-- ---- a group of sessions

unfoldable pub group_fields : List (Field SessionAggregateItem)
group_fields =
    field (codes "abnormal") (default (natural_cell 0)) (unsigned_kind (2 ^ 32)) (λ g. natural_cell g.abnormal)
    ∷ field (codes "crashed") (default (natural_cell 0)) (unsigned_kind (2 ^ 32)) (λ g. natural_cell g.crashed)
    ∷ field (codes "did") may text_kind (λ g. option_cell text_cell g.distinct_id)
    ∷ field (codes "errored") (default (natural_cell 0)) (unsigned_kind (2 ^ 32)) (λ g. natural_cell g.errored)
    ∷ field (codes "exited") (default (natural_cell 0)) (unsigned_kind (2 ^ 32)) (λ g. natural_cell g.exited)
    ∷ field (codes "started") must rfc3339_kind (λ g. moment_cell g.started)
    ∷ []

abbrev pub group_kind : Kind
group_kind = table_of group_fields

abbrev pub group_cell : SessionAggregateItem → Cell
group_cell g = fields_by group_fields g

pub group_in_order : in_order (keys (rows_of group_fields)) ≡ true
unfolding group_fields
group_in_order = refl

-- ---- sessions that are counted

unfoldable pub groups_fields : List (Field SessionAggregates)
groups_fields =
    field (codes "aggregates") (always empty_list) (list group_kind) (λ g. list_cell group_cell g.aggregates.items)
    ∷ field (codes "attrs") must attributes_kind (λ g. attributes_cell g.attributes)
    ∷ []

abbrev pub groups_kind : Kind
groups_kind = table_of groups_fields

abbrev pub groups_cell : SessionAggregates → Cell
groups_cell g = fields_by groups_fields g

pub groups_in_order : in_order (keys (rows_of groups_fields)) ≡ true
unfolding groups_fields
groups_in_order = refl
