-- What the fields of an item header of any type mean.
use Rattle.std.specs.Cow.{cow_str_bytes}
use Rattle.sentry_forward.specs.AnyHeader.{Typed}
use Rattle.sentry_forward.specs.declared.header.AnyHeader.{AnyHeader}

abbrev pub any_view : AnyHeader → Typed
any_view header = record { word = cow_str_bytes header.word; length = header.length }
