-- What `==` says of sessions: they are equal exactly where their cells are the same.
use Rattle.std.proofs.Common.{Global, rules, ◌≡◌, Bool, Option, Some, None, IfSome, refl, sym, ap, ◌∙◌, Decides}
use Rattle.std.proofs.lemmas.Bool.Decides.{Decides-and, Decides-like}
use Rattle.std.proofs.lemmas.Option.{same_Some}
use Rattle.std.proofs.lemmas.Slice.Eq.{bytes_eq-Decides}
use mathlib.Core.Bool.{beq}
use Rattle.std.specs.Cow.{cow_str_bytes}
use Rattle.std.specs.Option.{option_eq}
use Rattle.std.specs.Prelude.{bytes_eq}
use Rattle.std.specs.String.{string_eq}
use Rattle.std.specs.contracts.net.ip_addr.IpAddrPartialEq.TheImpl.{eq-value as of_ips}
use Rattle.std.specs.declared.borrow.CowStr.{CowStr}
use Rattle.std.specs.declared.net.ip_addr.IpAddr.{IpAddr}
use Rattle.sentry_tables.specs.Cell.{text, truth}
use Rattle.sentry_tables.specs.Cells.{text_cell, cow_cell, natural_cell, option_cell}
use Rattle.sentry_tables.specs.Spelling.{word_cell}
use Rattle.sentry_tables.proofs.Equal.{texts_decide, options_decide, lists_decide, naturals_decide}
use Rattle.sentry_text.specs.Ip.{IsStoredIp, ip_of}
use Rattle.sentry_text.specs.IpTree.{ip_cell, ip_cell_text}
use Rattle.sentry_text.proofs.Ips.{written_ip}
use Rattle.sentry_text.proofs.IpTrees.{ip_written}
use Rattle.sentry_moments.specs.Moments.{moment_cell}
use Rattle.sentry_moments.specs.contracts.moment.MomentPartialEq.TheImpl.{eq-value as of_moments}
use Rattle.sentry_words.specs.SessionStatus.{session_status_of, session_status_word}
use Rattle.sentry_words.specs.contracts.session_status.SessionStatusPartialEq.TheImpl.{eq-value as of_statuses}
use Rattle.sentry_words.specs.declared.session_status.SessionStatus.{SessionStatus}
use Rattle.sentry_words.specs.declared.session_status.SessionStatus.TheVariants as Status
use Rattle.sentry_records.specs.Sessions.{IsStoredAddress, attributes_fields, attributes_cell, session_fields, session_cell, group_cell, groups_fields, groups_cell}
use Rattle.sentry_records.specs.contracts.session_aggregate_item.SessionAggregateItemPartialEq.TheImpl.{eq-value as of_items}
use Rattle.sentry_records.specs.contracts.session_aggregates.SessionAggregatesPartialEq.TheImpl.{eq-value as of_groups}
use Rattle.sentry_records.specs.contracts.session_attributes.SessionAttributesPartialEq.TheImpl.{eq-value as of_attributes}
use Rattle.sentry_records.specs.contracts.session_update.SessionUpdatePartialEq.TheImpl.{eq-value as of_sessions}
use Rattle.sentry_records.specs.declared.session_aggregates.SessionAggregates.{SessionAggregates}
use Rattle.sentry_records.specs.declared.session_attributes.SessionAttributes.{SessionAttributes}
use Rattle.sentry_records.specs.declared.session_update.SessionUpdate.{SessionUpdate}
use Rattle.sentry_records.proofs.Equal.{ids_decide, moments_decide, truths_same, words_decide, nth, cells_in, row, groups_decide as items_decide}

-- ---- scalars

cows_decide : (a b : CowStr Global) → Decides (bytes_eq (cow_str_bytes a) (cow_str_bytes b)) (cow_cell a ≡ cow_cell b)
cows_decide a b = Decides-like (bytes_eq (cow_str_bytes a) (cow_str_bytes b)) (λ same. ap text same) (λ same. cc) (bytes_eq-Decides (cow_str_bytes a) (cow_str_bytes b))

truths_decide : (a b : Bool) → Decides (beq a b) (truth a ≡ truth b)
truths_decide a b = Decides-like (beq a b) (λ same. ap truth same) (λ same. cc) (truths_same a b)

statuses_same : (a b : SessionStatus) → Decides (of_statuses.it a b) (a ≡ b)
statuses_same a b = search rules

statuses_read : (s : SessionStatus) → session_status_of (session_status_word s) ≡ Some s
statuses_read Status.Ok = refl
statuses_read _ = refl

statuses_decide : (a b : SessionStatus) → Decides (of_statuses.it a b) (word_cell session_status_word a ≡ word_cell session_status_word b)
statuses_decide = words_decide of_statuses.it statuses_same session_status_of session_status_word statuses_read

-- ---- addresses

ips_same : (a b : IpAddr) → Decides (of_ips.it a b) (a ≡ b)
ips_same a b = search rules

-- an address is read from its text
one_ip : (a b : IpAddr) → IsStoredIp a → IsStoredIp b → ip_cell a ≡ ip_cell b → a ≡ b
one_ip a b h k same =
    let texts = sym (ip_written a h) ∙ (ap ip_cell_text same ∙ ip_written b k) in
    same_Some a b (sym (written_ip a h) ∙ (ap ip_of texts ∙ written_ip b k))

ips_decide : (a b : IpAddr) → IsStoredIp a → IsStoredIp b → Decides (of_ips.it a b) (ip_cell a ≡ ip_cell b)
ips_decide a b h k = Decides-like (of_ips.it a b) (λ same. ap ip_cell same) (one_ip a b h k) (ips_same a b)

known_ips_decide : (x y : Option IpAddr) → IfSome x IsStoredIp → IfSome y IsStoredIp → Decides (option_eq of_ips.it x y) (option_cell ip_cell x ≡ option_cell ip_cell y)
known_ips_decide None None h k = (λ same. refl, λ same. refl)
known_ips_decide None (Some b) h k = (λ same. cc, λ same. cc)
known_ips_decide (Some a) None h k = (λ same. cc, λ same. cc)
known_ips_decide (Some a) (Some b) h k =
    let ips = ips_decide a b h k in
    (λ same. let e = ips.0 same in cc, λ same. ips.1 (cc))

-- ---- tables

pub attributes_decide : (a b : SessionAttributes) → IsStoredAddress a → IsStoredAddress b → Decides (of_attributes.it a b) (attributes_cell a ≡ attributes_cell b)
unfolding attributes_fields
attributes_decide a b h k =
    let parts = Decides-and _ _ (cows_decide a.release b.release)
    (Decides-and _ _ (options_decide _ cow_cell cows_decide a.environment b.environment)
    (Decides-and _ _ (known_ips_decide a.ip_address b.ip_address h k) (options_decide string_eq text_cell texts_decide a.user_agent b.user_agent))) in (
      λ same.
          let e = parts.0 same in
          let release = e.0 in
          let environment = e.1.0 in
          let address = e.1.1.0 in
          let agent = e.1.1.1 in
          cc,
      λ same. parts.1 (cc, (cc, (cc, cc))),
    )

pub sessions_decide : (a b : SessionUpdate) → IsStoredAddress a.attributes → IsStoredAddress b.attributes → Decides (of_sessions.it a b) (session_cell a ≡ session_cell b)
unfolding session_fields nth cells_in
sessions_decide a b h k =
    let parts = Decides-and _ _ (ids_decide a.session_id b.session_id)
    (Decides-and _ _ (options_decide string_eq text_cell texts_decide a.distinct_id b.distinct_id)
    (Decides-and _ _ (options_decide _ natural_cell naturals_decide a.sequence b.sequence)
    (Decides-and _ _ (options_decide of_moments.it moment_cell moments_decide a.timestamp b.timestamp)
    (Decides-and _ _ (moments_decide a.started b.started)
    (Decides-and _ _ (truths_decide a.init b.init)
    (Decides-and _ _ (options_decide _ natural_cell naturals_decide a.duration b.duration)
    (Decides-and _ _ (statuses_decide a.status b.status)
    (Decides-and _ _ (naturals_decide a.errors b.errors) (attributes_decide a.attributes b.attributes h k))))))))) in (
      λ same.
          let e = parts.0 same in
          let id = e.0 in
          let distinct = e.1.0 in
          let sequence = e.1.1.0 in
          let timestamp = e.1.1.1.0 in
          let started = e.1.1.1.1.0 in
          let init = e.1.1.1.1.1.0 in
          let duration = e.1.1.1.1.1.1.0 in
          let status = e.1.1.1.1.1.1.1.0 in
          let errors = e.1.1.1.1.1.1.1.1.0 in
          let attributes = e.1.1.1.1.1.1.1.1.1 in
          cc,
      λ same. parts.1 (row 6 _ _ same, (row 1 _ _ same, (row 5 _ _ same, (row 9 _ _ same, (row 7 _ _ same, (row 4 _ _ same, (row 2 _ _ same, (row 8 _ _ same, (row 3 _ _ same, row 0 _ _ same))))))))),
    )

pub aggregates_decide : (a b : SessionAggregates) → IsStoredAddress a.attributes → IsStoredAddress b.attributes → Decides (of_groups.it a b) (groups_cell a ≡ groups_cell b)
unfolding groups_fields
aggregates_decide a b h k =
    let parts = Decides-and _ _ (lists_decide of_items.it group_cell items_decide a.aggregates.items b.aggregates.items) (attributes_decide a.attributes b.attributes h k) in
    (λ same. let e = parts.0 same in let groups = e.0 in let attributes = e.1 in cc, λ same. parts.1 (cc, cc))
