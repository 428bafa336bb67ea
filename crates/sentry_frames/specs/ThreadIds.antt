-- Ids of threads: whole numbers below 2^64, or texts.
use Rattle.std.specs.Prelude.{◌^◌, ◌<◌, ℕ, List, pos, decimal, string_bytes, Option, Some, None, option_and_then, IsUtf8}
use Rattle.serde_json.specs.Data.{Data, null, number, string, unsigned}
use Rattle.serde_json.specs.Find.{as_u64}
use Rattle.sentry_tables.specs.Basic.{read_by, whole_below}
use Rattle.sentry_tables.specs.Cell.{Cell, text, whole}
use Rattle.sentry_tables.specs.Kind.{Kind, scalar}
use Rattle.sentry_tables.specs.Cells.{text_cell, natural_cell}
use Rattle.sentry_frames.specs.declared.thread_id.ThreadId.{ThreadId}
use Rattle.sentry_frames.specs.declared.thread_id.ThreadId.TheVariants.{Int, String}

abbrev pub thread_id_cell : ThreadId → Cell
thread_id_cell (Int n) = natural_cell n
thread_id_cell (String s) = text_cell s

-- the number in base 10, or the text
abbrev pub thread_id_text : ThreadId → List ℕ
thread_id_text (Int n) = decimal n
thread_id_text (String s) = string_bytes s

-- ---- in trees: a number is a number, and a text a text, whatever it holds

abbrev pub IsThreadId : Cell → Type 0
IsThreadId (whole (pos n)) = n < 2 ^ 64
IsThreadId (text s) = IsUtf8 s
IsThreadId _ = ⊥

abbrev pub thread_id_of : Data → Option Cell
thread_id_of (number n) = option_and_then (whole_below (2 ^ 64)) (as_u64 n)
thread_id_of (string s) = Some (text s)
thread_id_of _ = None

abbrev pub thread_id_tree : Cell → Data
thread_id_tree (whole (pos n)) = number (unsigned n)
thread_id_tree (text s) = string s
thread_id_tree _ = null

unfoldable pub thread_id_kind : Kind
thread_id_kind = scalar (read_by thread_id_of thread_id_tree IsThreadId)
