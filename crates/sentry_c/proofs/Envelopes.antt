-- What is read and written of an envelope.
use Rattle.std.proofs.Common.{◌≡◌, ℕ, Bool, true, false, List, Some, ◌∙◌, ap, subst, sym}
use Rattle.std.proofs.lemmas.Option.{same_Some}
use Rattle.std.specs.Option.{IsSomeAnd}
use Rattle.sentry_tables.specs.Cell.{Cell}
use Rattle.sentry_envelope.specs.Envelope.{Envelope as Model, Spells, envelope_text}
use Rattle.sentry_envelope.specs.EnvelopeView.{Held, empty, items as held_items, bytes as held_bytes, header_of, item_view, with_item, held, structured, structured_by, text_by, text_of}
use Rattle.sentry_envelope.specs.NormalText.{IsNormalText}
use Rattle.sentry_envelope.specs.SentryProfile.{profile}
use Rattle.sentry_envelope.specs.declared.envelope.Envelope.{Envelope}
use Rattle.sentry_items.specs.declared.item.EnvelopeItem.TheVariants as items
use Rattle.sentry_ledger.specs.Held.{Quantities, items_held}
use Rattle.sentry_reports.specs.declared.report.Report.{Report}
use Rattle.sentry_c.specs.Envelopes.{IsSpelled}
use Rattle.sentry_c.specs.Sums.{IsReport, IsReportIn, IsReportText}

-- bytes that have a normal form are those of an envelope
pub is_spelled : (bytes text : List ℕ) (now : Cell) → IsNormalText bytes now text → IsSpelled bytes now
is_spelled bytes text now normal = (normal.envelope, normal.spells)

-- bytes that were read are those of an envelope
pub is_read : (bytes : List ℕ) (now : Cell) (envelope : Envelope) → IsSomeAnd (structured envelope) (Spells profile bytes now) → IsSpelled bytes now
is_read bytes now envelope spelled = go (held envelope) spelled
  where
    go : (h : Held) → IsSomeAnd (structured_by (header_of envelope) h) (Spells profile bytes now) → IsSpelled bytes now
    go (held_items is) spelled = (_, spelled)
    go (held_bytes b) spelled = absurd spelled

-- the text of a structured envelope is that of its model
pub text_of_model : (envelope : Envelope) (m : Model) → structured envelope ≡ Some m → text_of envelope ≡ envelope_text profile m
text_of_model envelope m is = go (held envelope) is
  where
    go : (h : Held) → structured_by (header_of envelope) h ≡ Some m → text_by (header_of envelope) h ≡ envelope_text profile m
    go (held_items is) same = ap (envelope_text profile) (same_Some _ _ same)
    go (held_bytes b) same = cc

-- the text of an envelope of a report
pub report_text_is : (held : Quantities) (secs nanos : ℕ) (given : Report) (envelope : Envelope) (text : List ℕ) → structured envelope ≡ Some (with_item empty (item_view (items.ClientReport given)))
    → given.timestamp.secs ≡ secs → given.timestamp.nanos ≡ nanos → given.items ≡ items_held held → text ≡ text_of envelope → IsReportText held secs nanos text
report_text_is held secs nanos given envelope text is secs_are nanos_are items_are text_is =
    record { given = given; secs_are = secs_are; nanos_are = nanos_are; items_are = items_are; text_is = text_is ∙ text_of_model envelope _ is }

-- what is delivered of that text: all, or the item alone
pub report_is : (item_alone : Bool) (held : Quantities) (secs nanos : ℕ) (text report : List ℕ) → IsReportText held secs nanos text → IsReportIn item_alone text report → IsReport item_alone held secs nanos report
report_is false held secs nanos text report reports is = subst (IsReportText held secs nanos) (sym is) reports
report_is true held secs nanos text report reports (line, split) = record { text = text; line = line; reports = reports; split = split }
