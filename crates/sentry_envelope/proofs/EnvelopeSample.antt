-- Envelopes with Sentry's header, of attachments, recordings, events of a few rows and logs of
-- these: each form of item, each rule of rows, an id that fills the header and is drawn. The
-- premises of the laws can be met.
use Rattle.std.proofs.Common.{◌≡◌, ◌≤◌, ℕ, List, [], ◌∷◌, true, Some, codes, refl, sym, ◌∙◌, subst, arith, IsUtf8}
use Rattle.std.proofs.lemmas.Option.{same_Some}
use Rattle.serde_json.specs.Data.{Data, string, array, object, no_items, item, Members, no_members, member, depth}
use Rattle.serde_json.specs.Written.{compact_text}
use Rattle.sentry_json.specs.Line.{tree_of}
use Rattle.sentry_json.specs.Sound.{IsSound}
use Rattle.sentry_json.proofs.Lines.{tree_of_written}
use Rattle.sentry_tables.specs.Cell.{Cell, absent, octets, text, truth, fields, no_cells, cell}
use Rattle.sentry_tables.specs.Kind.{must, may, may_null, may_strict, default, always, draw, at_once, ignored, Kind, scalar, table, Rows, no_rows, row}
use Rattle.sentry_tables.specs.Basic.{text_scalar, truth_scalar}
use Rattle.sentry_tables.specs.Drawn.{NothingDrawn}
use Rattle.sentry_tables.specs.Lawful.{is_ascii, IsLawful}
use Rattle.sentry_tables.proofs.Basic.{text_laws, text_refuses_null, truth_laws, truth_refuses_null}
use Rattle.sentry_tables.proofs.ByRows.{laws_by_rows}
use Rattle.sentry_tables.proofs.Sound.{ascii_text}
use Rattle.sentry_identifiers.specs.Uuids.{hyphenated, hyphenated_kind, IsRandomUuid}
use Rattle.sentry_identifiers.proofs.UuidLaws.{drawn_uuid_laws, hyphenated_laws}
use Rattle.sentry_moments.specs.MomentForms.{rfc3339_kind}
use Rattle.sentry_moments.proofs.MomentSpellings.{rfc3339_at_once, rfc3339_scalar_laws}
use Rattle.sentry_envelope.specs.HeaderFields.{header_kind, fill_id}
use Rattle.sentry_envelope.specs.OneEnvelope.{PayloadDrawsNothing, HasOneEnvelope}
use Rattle.sentry_envelope.specs.Profile.{Form, attachment_form, opaque_form, json_form, container_form, ItemType, Profile, GivesAlike, ProfileLaws}
use Rattle.sentry_items.specs.Containers.{container_kind}
use Rattle.sentry_envelope.specs.EnvelopeLaws.{EnvelopeLaws}
use Rattle.sentry_envelope.proofs.EnvelopeIds.{none_given}
use Rattle.sentry_envelope.proofs.ItemIds.{id_fills}
use Rattle.sentry_envelope.proofs.EnvelopeLaws.{envelope_laws}
use Rattle.sentry_envelope.proofs.OneEnvelope.{one_envelope}
use Rattle.sentry_envelope.proofs.SentryProfile.{header_lawful}

-- ---- events: a row of each rule, among them an id that is drawn and a moment

abbrev event_rows : Rows
event_rows =
    row (codes "culprit") may (scalar text_scalar)
    (row (codes "event_id") (draw IsRandomUuid) hyphenated_kind
    (row (codes "handled") (always (truth true)) (scalar truth_scalar)
    (row (codes "level") (default (text (codes "error"))) (scalar text_scalar)
    (row (codes "message") must (scalar text_scalar)
    (row (codes "release") may_null (scalar text_scalar)
    (row (codes "server") may_strict (scalar text_scalar)
    (row (codes "timestamp") at_once rfc3339_kind no_rows)))))))

abbrev event : Kind
event = table event_rows ignored

event_lawful : IsLawful event
event_lawful =
    laws_by_rows event_rows refl (
      tt,
      text_laws,
      (
        drawn_uuid_laws hyphenated,
        hyphenated_laws,
        (
          (truth_refuses_null, (tt, tt, tt, refl)),
          truth_laws,
          (
            (text_refuses_null, (ascii_text (codes "error") refl, tt, tt, refl)),
            text_laws,
            (tt, text_laws, (tt, text_laws, (text_refuses_null, text_laws, (rfc3339_at_once, rfc3339_scalar_laws, tt)))),
          ),
        ),
      ),
    )

-- the id of an event
abbrev gives : Cell → Cell
gives (fields (cell culprit (cell id cs)) other) = id
gives _ = absent

event_gives : GivesAlike header_kind fill_id gives event
event_gives (fields (cell culprit (cell (octets b) cs)) other) stored plain = (refl, id_fills b stored.0.1.0)
event_gives (fields (cell culprit (cell _ cs)) other) stored plain = absurd stored.0.1.0
event_gives (fields (cell culprit no_cells) other) stored plain = absurd stored.0.1
event_gives (fields no_cells other) stored plain = absurd stored.0
event_gives _ stored plain = absurd stored

-- ---- the profile

abbrev log_type : List ℕ
log_type = codes "application/vnd.sentry.items.log+json"

-- a type of items that give their envelope no id
abbrev without_id : List ℕ → Form → ItemType
without_id word form = record { word = word; form = form; gives = λ c. absent }

abbrev types : List ItemType
types =
    without_id (codes "attachment") attachment_form ∷ without_id (codes "replay_recording") opaque_form
    ∷ record { word = codes "event"; form = json_form event; gives = gives } ∷ without_id (codes "log") (container_form log_type event) ∷ []

abbrev sample : Profile
sample = record { header = header_kind; fill = fill_id; types = types }

sample_lawful : ProfileLaws sample
sample_lawful = record {
  header = header_lawful;
  unfilled = λ h. refl;
  types = (
    ascii_text (codes "attachment") refl,
    refl,
    tt,
    tt,
    (
      ascii_text (codes "replay_recording") refl,
      refl,
      tt,
      tt,
      (
        ascii_text (codes "event") refl,
        refl,
        event_lawful,
        event_gives,
        (ascii_text (codes "log") refl, refl, (event_lawful, ascii_text log_type refl), none_given header_kind fill_id (λ h. refl) (container_kind event), tt),
      ),
    ),
  );
}

pub sample_laws : EnvelopeLaws sample
sample_laws = envelope_laws sample sample_lawful

-- ---- what is drawn

-- bytes in which nothing is drawn spell at most one envelope
pub sample_one : HasOneEnvelope sample
sample_one = one_envelope sample sample_lawful

abbrev message : Members
message = member (codes "message") (string (codes "m")) no_members

abbrev with_id : Data
with_id = object (member (codes "event_id") (string (codes "22d00b3f-d1b1-4b5d-8d20-49d138cd8a9c")) message)

abbrev without_its_id : Data
without_its_id = object message

abbrev listed : Data → Data
listed d = object (member (codes "items") (array (item with_id (item d no_items))) no_members)

abbrev logs : Form
logs = container_form log_type event

utf8 : (s : List ℕ) → is_ascii s ≡ true → IsUtf8 s
utf8 = ascii_text

without_its_id_sound : IsSound without_its_id
without_its_id_sound = ((tt, tt), (utf8 (codes "message") refl, utf8 (codes "m") refl, tt))

with_id_sound : IsSound with_id
with_id_sound = (((refl, tt), (tt, tt)), (utf8 (codes "event_id") refl, utf8 (codes "22d00b3f-d1b1-4b5d-8d20-49d138cd8a9c") refl, (utf8 (codes "message") refl, utf8 (codes "m") refl, tt)))

listed_sound : (d : Data) → IsSound d → IsSound (listed d)
listed_sound d sound = ((tt, tt), (utf8 (codes "items") refl, (with_id_sound, (sound, tt)), tt))

-- a line is read as the tree that it was written for
written_only : (d e : Data) → IsSound d → depth d ≤ 127 → tree_of (compact_text d) ≡ Some e → d ≡ e
written_only d e sound shallow read = same_Some d e (sym (tree_of_written d sound shallow) ∙ read)

-- nothing is drawn in an event with an id, nor in a container of such
id_given : NothingDrawn event with_id
id_given = (tt, (tt, (tt, (tt, (tt, (tt, (tt, (tt, tt))))))))

event_with_id : PayloadDrawsNothing (json_form event) (compact_text with_id)
event_with_id d read = subst (NothingDrawn event) (written_only with_id d with_id_sound (omega arith) read) id_given

logs_with_ids : PayloadDrawsNothing logs (compact_text (listed with_id))
logs_with_ids d read = subst (NothingDrawn (container_kind event)) (written_only (listed with_id) d (listed_sound with_id with_id_sound) (omega arith) read) ((id_given, (id_given, tt)), tt)

-- something is, without one
event_without_id : PayloadDrawsNothing (json_form event) (compact_text without_its_id) → ⊥
event_without_id nothing = (nothing without_its_id (tree_of_written without_its_id without_its_id_sound (omega arith))).1.0

logs_without_id : PayloadDrawsNothing logs (compact_text (listed without_its_id)) → ⊥
logs_without_id nothing = (nothing (listed without_its_id) (tree_of_written (listed without_its_id) (listed_sound without_its_id without_its_id_sound) (omega arith))).0.1.0.1.0
