use Rattle.std.proofs.Common.{refl}
use Rattle.sentry_event.specs.Events.{event_fields}
use Rattle.sentry_event.proofs.event.EventCopyTable.copy_rows.Goals as goal

pub returns : goal.returns
unfolding event_fields
returns c = (_, c.values.ensures, (_, c.in_ok-of_as.ensures, (_, c.optional.ensures, (_, c.in_ok-of.ensures, (_, c.optional-2.ensures, (_, c.optional-3.ensures, (_, c.plain_as.ensures, (_, c.values-2.ensures, (_, c.in_ok-map.ensures, (_, c.in_ok-of_as-2.ensures, (_, c.plain.ensures, (_, c.optional-4.ensures, (_, c.optional-5.ensures, (_, c.optional-6.ensures, (_, c.in_ok-map-2.ensures, (_, c.cow.ensures, (_, c.optional-7.ensures, (_, c.optional-8.ensures, (_, c.optional-9.ensures, (_, c.optional-10.ensures, (_, c.optional-11.ensures, (_, c.in_ok-map-3.ensures, (_, c.optional-12.ensures, (_, c.values-3.ensures, (_, c.plain_as-2.ensures, (_, c.optional-13.ensures, (_, c.optional-14.ensures, refl)))))))))))))))))))))))))))
