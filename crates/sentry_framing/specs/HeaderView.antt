-- What the fields of an item header mean.
use Rattle.std.specs.Prelude.{ℕ, Option, None, option_map, string_bytes}
use Rattle.sentry_framing.specs.ItemHeader.{Header}
use Rattle.sentry_framing.specs.ItemWords.{kind_place}
use Rattle.sentry_framing.specs.declared.kind.ItemKind.{ItemKind}
use Rattle.sentry_framing.specs.declared.header.ItemHeader.{ItemHeader}

abbrev pub header_view : ItemHeader → Header
header_view fields = record {
  kind = kind_place fields.kind;
  length = fields.length;
  content_type = option_map string_bytes fields.content_type;
  filename = option_map string_bytes fields.filename;
  attachment_type = option_map string_bytes fields.attachment_type;
}

-- the fields of a header of a type and perhaps a length, and nothing else
abbrev pub short_header : ItemKind → Option ℕ → Header
short_header kind length = record { kind = kind_place kind; length = length; content_type = None; filename = None; attachment_type = None }
