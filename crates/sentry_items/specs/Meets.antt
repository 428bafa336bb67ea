-- Items that hold what Rust's types hold, and items whose trees hold no floats.
use Rattle.std.specs.Prelude.{⊤}
use Rattle.sentry_tables.specs.Meets.{IsPlain, IsStored}
use Rattle.sentry_items.specs.Attached.{IsAttachedStored}
use Rattle.sentry_items.specs.View.{ItemView, attachment, replay_recording, value, raw, payload_kind}

-- its trees hold no floats, and no member that no row names clashes with a row; bytes are always
-- plain
abbrev pub IsItemPlain : ItemView → Type 0
IsItemPlain (attachment a) = ⊤
IsItemPlain (replay_recording b) = ⊤
IsItemPlain (value k c) = IsPlain (payload_kind k) c
IsItemPlain raw = ⊤

-- its texts are UTF-8, and its numbers are within their bounds
abbrev pub IsItemStored : ItemView → Type 0
IsItemStored (attachment a) = IsAttachedStored a
IsItemStored (replay_recording b) = ⊤
IsItemStored (value k c) = IsStored (payload_kind k) c
IsItemStored raw = ⊤
