use Rattle.std.proofs.Common.{refl}
use Rattle.sentry_event.specs.Events.{event_fields}
use Rattle.sentry_event.proofs.event.EventTable.rows.Goals as goal

pub returns : goal.returns
unfolding event_fields
returns g c = (_, c.values.ensures, (_, c.unless_usual_as.ensures, (_, c.optional.ensures, (_, c.unless_usual_as-2.ensures, (_, c.optional-2.ensures, (_, c.optional-3.ensures, (_, c.drawn_as.ensures, (_, c.values-2.ensures, (_, c.map.ensures, (_, c.unless_usual_as-3.ensures, (_, c.unless.ensures, (_, c.optional-4.ensures, (_, c.optional-5.ensures, (_, c.optional-6.ensures, (_, c.map-2.ensures, (_, c.text_unless.ensures, (_, c.optional-7.ensures, (_, c.optional-8.ensures, (_, c.optional-9.ensures, (_, c.optional-10.ensures, (_, c.optional-11.ensures, (_, c.map-3.ensures, (_, c.optional-12.ensures, (_, c.values-3.ensures, (_, c.at_once_as.ensures, (_, c.optional-13.ensures, (_, c.optional-14.ensures, refl)))))))))))))))))))))))))))
