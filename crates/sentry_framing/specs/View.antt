-- What the reader's types mean.
use Rattle.sentry_framing.specs.Framing.{Frame}
use Rattle.sentry_framing.specs.declared.frames.ItemFrame.{ItemFrame}

abbrev pub frame_of : ItemFrame → Frame
frame_of item = record { header = item.header.now; payload = item.payload.now }
