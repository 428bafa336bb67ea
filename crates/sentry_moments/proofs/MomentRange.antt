-- Each moment is within the years 1970 to 9999.
use Rattle.sentry_tables.specs.Lawful.{IsMoment}
use Rattle.sentry_moments.specs.Moments.{moment_cell}
use Rattle.sentry_moments.specs.declared.moment.Moment.{Moment}

pub moment_in_range : (m : Moment) → IsMoment (moment_cell m)
moment_in_range m = (m.secs_in_range, m.nanos_in_range)
