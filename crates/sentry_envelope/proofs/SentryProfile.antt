-- The profile of Sentry's envelopes is lawful.
use Rattle.std.proofs.Common.{◌≡◌, ℕ, zero, suc, List, [], ◌∷◌, Bool, false, ◌||◌, Some, IsUtf8, map, slice_get, refl, subst}
use Rattle.std.specs.Prelude.{codes}
use Rattle.std.proofs.lemmas.Option.{same_Some}
use Rattle.sentry_json.specs.Keys.{is_among}
use Rattle.sentry_tables.proofs.ByRows.{laws_by_rows}
use Rattle.sentry_tables.proofs.Sound.{ascii_text}
use Rattle.sentry_tables.specs.Cell.{absent}
use Rattle.sentry_tables.specs.Fields.{rows_of}
use Rattle.sentry_tables.specs.Kind.{ignored, Kind}
use Rattle.sentry_tables.specs.Lawful.{IsLawful}
use Rattle.sentry_framing.specs.ItemWords.{item_kinds, kind_place, kind_word}
use Rattle.sentry_framing.specs.declared.kind.ItemKind.{ItemKind}
use Rattle.sentry_framing.specs.declared.kind.ItemKind.TheVariants as kinds
use Rattle.sentry_keys.proofs.DsnTrees.{dsn_scalar_laws}
use Rattle.sentry_moments.proofs.MomentSpellings.{rfc3339_refuses_null, rfc3339_scalar_laws}
use Rattle.sentry_parts.proofs.ClientSdkLaws.{sdk_lawful}
use Rattle.sentry_identifiers.proofs.UuidLaws.{hyphenated_laws}
use Rattle.sentry_event.specs.Events.{event_fields, event_kind}
use Rattle.sentry_event.specs.Transactions.{transaction_fields, transaction_kind}
use Rattle.sentry_records.proofs.TableLaws.{sampling_lawful, log_lawful, metric_lawful}
use Rattle.sentry_items.specs.Containers.{log_content_type, metric_content_type}
use Rattle.sentry_items.specs.View.{payload_kind}
use Rattle.sentry_items.proofs.Items.{payload_lawful}
use Rattle.sentry_envelope.specs.Profile.{FormIsLawful, GivesAlike, GivesLawful, ProfileLaws, TypesAreLawful, words}
use Rattle.sentry_envelope.specs.HeaderFields.{header_fields, header_kind, fill_id}
use Rattle.sentry_envelope.specs.SentryProfile.{held_at, form_of, gives_of, item_type, item_types, profile}
use Rattle.sentry_envelope.proofs.EnvelopeIds.{none_given}
use Rattle.sentry_envelope.proofs.EnvelopeTypes.{IsAt, first, later, or_false}
use Rattle.sentry_envelope.proofs.ItemIds.{table_gives}

pub header_lawful : IsLawful header_kind
unfolding header_fields
header_lawful = laws_by_rows (rows_of header_fields) refl (search (dsn_scalar_laws, hyphenated_laws, sdk_lawful, rfc3339_refuses_null, rfc3339_scalar_laws, sampling_lawful))

-- ---- ids

-- the id of an event or a transaction
event_gives : GivesAlike header_kind fill_id (held_at (codes "event_id") event_kind) event_kind
unfolding event_fields
event_gives = table_gives (codes "event_id") (rows_of event_fields) ignored (λ c stored. (stored, refl))

transaction_gives : GivesAlike header_kind fill_id (held_at (codes "event_id") transaction_kind) transaction_kind
unfolding transaction_fields
transaction_gives = table_gives (codes "event_id") (rows_of transaction_fields) ignored (λ c stored. (stored, refl))

-- a type of items that give no id
gives_nothing : (K : Kind) → GivesAlike header_kind fill_id (λ c. absent) K
gives_nothing = none_given header_kind fill_id (λ h. refl)

-- ---- one type

word_utf8 : (k : ItemKind) → IsUtf8 (kind_word k)
word_utf8 kinds.Event = ascii_text (codes "event") refl
word_utf8 k = ascii_text (kind_word k) refl

form_lawful : (k : ItemKind) → FormIsLawful (form_of k)
form_lawful kinds.Attachment = tt
form_lawful kinds.ReplayRecording = tt
form_lawful kinds.Logs = (log_lawful, ascii_text log_content_type refl)
form_lawful kinds.Metrics = (metric_lawful, ascii_text metric_content_type refl)
form_lawful k = payload_lawful k

gives_lawful : (k : ItemKind) → GivesLawful header_kind fill_id (gives_of k) (form_of k)
gives_lawful kinds.Event = event_gives
gives_lawful kinds.Transaction = transaction_gives
gives_lawful kinds.Attachment = tt
gives_lawful kinds.ReplayRecording = tt
gives_lawful k = gives_nothing (payload_kind k)

-- ---- all types

-- some word stands twice
abbrev repeats : List (List ℕ) → Bool
repeats [] = false
repeats (word ∷ others) = is_among word others || repeats others

types_lawful : (ks : List ItemKind) → repeats (words (map item_type ks)) ≡ false → TypesAreLawful header_kind fill_id (map item_type ks)
types_lawful [] once = tt
types_lawful (k ∷ ks) once =
    let others = words (map item_type ks) in
    let (here, rest) = or_false (is_among (kind_word k) others) (repeats others) once in
    (word_utf8 k, here, form_lawful k, gives_lawful k, types_lawful ks rest)

pub profile_lawful : ProfileLaws profile
unfolding profile
profile_lawful = record { header = header_lawful; unfilled = λ h. refl; types = types_lawful item_kinds refl }

-- ---- the type at its place

kind_in_place : (k : ItemKind) → slice_get item_kinds (kind_place k) ≡ Some k
kind_in_place kinds.Event = refl
kind_in_place _ = refl

type_in_place : (ks : List ItemKind) (n : ℕ) (k : ItemKind) → slice_get ks n ≡ Some k → IsAt (map item_type ks) n (item_type k)
type_in_place [] n k is = absurd (cc)
type_in_place (j ∷ ks) zero k is = subst (λ x. IsAt (map item_type (j ∷ ks)) zero (item_type x)) (same_Some j k is) first
type_in_place (j ∷ ks) (suc n) k is = later (type_in_place ks n k is)

pub type_at : (k : ItemKind) → IsAt item_types (kind_place k) (item_type k)
type_at k = type_in_place item_kinds (kind_place k) k (kind_in_place k)
