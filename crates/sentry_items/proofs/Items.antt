-- Items by their type: their payloads are lawful, and what `==` says of them.
use Rattle.std.proofs.Common.{rules, Global, String, ◌≡◌, ℕ, Bool, ◌&&◌, List, [], Option, Some, None, option_map, string_bytes, refl, ap, Decides}
use Rattle.std.proofs.lemmas.Bool.Decides.{Decides-and, Decides-like, Decides-eqb}
use Rattle.std.proofs.lemmas.Slice.Eq.{slice_eq-Decides, bytes_eq-Decides}
use lib.Pointwise.{pointwise}
use lib.Dec.{eqb}
use Rattle.std.specs.Option.{option_eq}
use Rattle.std.specs.String.{string_eq}
use Rattle.sentry_items.specs.Attached.{Attached}
use Rattle.sentry_tables.specs.Cell.{Cell, absent}
use Rattle.sentry_records.proofs.Equal.{check_ins_decide, reports_decide as of_users}
use Rattle.sentry_records.proofs.SessionsEqual.{sessions_decide, aggregates_decide}
use Rattle.sentry_reports.proofs.Alike.{reports_decide as of_clients}
use Rattle.sentry_framing.specs.declared.kind.ItemKind.{ItemKind}
use Rattle.sentry_framing.specs.declared.kind.ItemKind.TheVariants as kinds
use Rattle.sentry_items.specs.Alike.{HasStoredAddress, HoldsNoTree, AreAlike}
use Rattle.sentry_items.specs.View.{ItemView, attachment, replay_recording, value, attachment_type_cell, attachment_view, item_held, kind_held, payload_kind}
use Rattle.sentry_items.specs.declared.attachment.Attachment.{Attachment}
use Rattle.sentry_items.specs.declared.attachment_type.AttachmentType.{AttachmentType}
use Rattle.sentry_items.specs.contracts.attachment_type.AttachmentTypePartialEq.TheImpl.{eq-value as of_types}
use Rattle.sentry_items.specs.contracts.item.EnvelopeItemPartialEq.TheImpl.{eq-value as of_items}
use Rattle.sentry_items.specs.declared.item.EnvelopeItem.{EnvelopeItem}
use Rattle.sentry_items.specs.declared.item.EnvelopeItem.TheVariants as item
use Rattle.sentry_items.specs.declared.container.ItemContainer.TheVariants as container
use Rattle.sentry_event.proofs.EventLaws.{event_lawful, transaction_lawful}
use Rattle.sentry_records.proofs.TableLaws.{session_lawful, groups_lawful, check_in_lawful, user_report_lawful, log_lawful, metric_lawful}
use Rattle.sentry_records.specs.Logs.{log_kind}
use Rattle.sentry_records.specs.Metrics.{metric_kind}
use Rattle.sentry_reports.proofs.TableLaws.{report_lawful}
use Rattle.sentry_tables.specs.Lawful.{IsLawful}
use Rattle.sentry_items.proofs.Containers.{container_lawful}

-- the kinds of payloads are lawful
pub payload_lawful : (k : ItemKind) → IsLawful (payload_kind k)
payload_lawful kinds.Event = event_lawful
payload_lawful kinds.SessionUpdate = session_lawful
payload_lawful kinds.SessionAggregates = groups_lawful
payload_lawful kinds.Transaction = transaction_lawful
payload_lawful kinds.Attachment = tt
payload_lawful kinds.MonitorCheckIn = check_in_lawful
payload_lawful kinds.UserReport = user_report_lawful
payload_lawful kinds.ReplayRecording = tt
payload_lawful kinds.Logs = container_lawful log_kind log_lawful
payload_lawful kinds.Metrics = container_lawful metric_kind metric_lawful
payload_lawful kinds.ClientReport = report_lawful

-- ---- what `==` says

strings_decide : (a b : String Global) → Decides (string_eq a b) (string_bytes a ≡ string_bytes b)
strings_decide a b = bytes_eq-Decides (string_bytes a) (string_bytes b)

options_decide : {T V : Type 0} (E : T → T → Bool) (view : T → V) → ((a b : T) → Decides (E a b) (view a ≡ view b)) → (x y : Option T) → Decides (option_eq E x y) (option_map view x ≡ option_map view y)
options_decide E view each None None = (λ same. refl, λ same. refl)
options_decide E view each None (Some b) = (λ same. cc, λ same. cc)
options_decide E view each (Some a) None = (λ same. cc, λ same. cc)
options_decide E view each (Some a) (Some b) = (λ same. ap Some ((each a b).0 same), λ same. (each a b).1 (cc))

types_decide : (a b : AttachmentType) → Decides (of_types.it a b) (attachment_type_cell a ≡ attachment_type_cell b)
types_decide a b = search rules

-- equal parts are an equal view
pub views_same : (a b : Attached) → (a.buffer ≡ b.buffer) × ((a.filename ≡ b.filename) × ((a.content_type ≡ b.content_type) × (a.ty ≡ b.ty))) → a ≡ b
views_same a b (buffer, (filename, (content_type, ty))) = λ i. record { buffer = buffer i; filename = filename i; content_type = content_type i; ty = ty i }

pub attachments_decide : (a b : Attachment) → Decides (pointwise eqb a.buffer.items b.buffer.items && (string_eq a.filename b.filename && (option_eq string_eq a.content_type b.content_type && option_eq of_types.it a.ty b.ty))) (attachment_view a ≡ attachment_view b)
attachments_decide a b =
    let parts = Decides-and _ _ (slice_eq-Decides Decides-eqb a.buffer.items b.buffer.items _ refl)
    (Decides-and _ _ (strings_decide a.filename b.filename)
    (Decides-and _ _ (options_decide string_eq string_bytes strings_decide a.content_type b.content_type)
    (options_decide of_types.it attachment_type_cell types_decide a.ty b.ty))) in (
      λ same. views_same (attachment_view a) (attachment_view b) (parts.0 same),
      λ same. parts.1 (ap (λ (v : Attached). v.buffer) same, (ap (λ (v : Attached). v.filename) same, (ap (λ (v : Attached). v.content_type) same, ap (λ (v : Attached). v.ty) same))),
    )

-- what is held is of one type
one_kind : (x y : ItemView) → x ≡ y → kind_held x ≡ kind_held y
one_kind x y same = ap kind_held same

abbrev pub cell_in : ItemView → Cell
cell_in (value k c) = c
cell_in _ = absent

abbrev pub attached_in : ItemView → Attached → Attached
attached_in (attachment a) b = a
attached_in _ b = b

abbrev bytes_in : ItemView → List ℕ
bytes_in (replay_recording b) = b
bytes_in _ = []

-- values of one type are the same where their cells are
values_decide : (k : ItemKind) (c d : Cell) (E : Bool) → Decides E (c ≡ d) → Decides E (value k c ≡ value k d)
values_decide k c d E cells = Decides-like E (λ same. ap (value k) same) (λ same. ap cell_in same) cells

pub items_decide : (a b : EnvelopeItem) → HoldsNoTree (item_held a) → HoldsNoTree (item_held b) → HasStoredAddress a → HasStoredAddress b
    → Decides (of_items.it a b) (AreAlike a b)
items_decide (item.Event a) b s t h k = absurd s
items_decide (item.Transaction a) b s t h k = absurd s
items_decide (item.ItemContainer (container.Logs a)) b s t h k = absurd s
items_decide (item.ItemContainer (container.Metrics a)) b s t h k = absurd s
items_decide a (item.Event b) s t h k = absurd t
items_decide a (item.Transaction b) s t h k = absurd t
items_decide a (item.ItemContainer (container.Logs b)) s t h k = absurd t
items_decide a (item.ItemContainer (container.Metrics b)) s t h k = absurd t
items_decide (item.SessionUpdate a) (item.SessionUpdate b) s t h k = values_decide kinds.SessionUpdate _ _ _ (sessions_decide a b h k)
items_decide (item.SessionAggregates a) (item.SessionAggregates b) s t h k = values_decide kinds.SessionAggregates _ _ _ (aggregates_decide a b h k)
items_decide (item.MonitorCheckIn a) (item.MonitorCheckIn b) s t h k = values_decide kinds.MonitorCheckIn _ _ _ (check_ins_decide a b)
items_decide (item.UserReport a) (item.UserReport b) s t h k = values_decide kinds.UserReport _ _ _ (of_users a b)
items_decide (item.ClientReport a) (item.ClientReport b) s t h k = of_clients a b
items_decide (item.Attachment a) (item.Attachment b) s t h k =
    Decides-like _ (λ same. ap attachment same) (λ same. ap (λ x. attached_in x (attachment_view a)) same) (attachments_decide a b)
items_decide (item.ReplayRecording a) (item.ReplayRecording b) s t h k =
    Decides-like _ (λ same. ap replay_recording same) (λ same. ap bytes_in same) (slice_eq-Decides Decides-eqb a.buffer.items b.buffer.items _ refl)
items_decide item.Raw item.Raw s t h k = (λ same. refl, λ same. refl)
items_decide a b s t h k = (λ same. cc, λ same. let e = one_kind (item_held a) (item_held b) same in absurd (cc))
