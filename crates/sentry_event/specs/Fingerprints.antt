-- Fingerprints of events: lists of texts, of which one has two spellings.
use Rattle.std.specs.Prelude.{ℕ, List, codes, cond}
use Rattle.std.specs.declared.alloc.Global.{Global}
use Rattle.std.specs.declared.borrow.CowStr.{CowStr}
use Rattle.sentry_tables.specs.Cell.{Cell, text, sequence, no_cells, cell, same_cell}
use Rattle.sentry_tables.specs.Kind.{Kind, scalar, list}
use Rattle.sentry_tables.specs.WrittenAs.{written_as}
use Rattle.sentry_tables.specs.Cells.{cow_cell, list_cell}
use Rattle.sentry_tables.specs.Kinds.{text_kind}

-- a list of this one text
abbrev pub one_text : List ℕ → Cell
one_text s = sequence (cell (text s) no_cells)

abbrev pub usual_fingerprint : Cell
usual_fingerprint = one_text (codes "{{ default }}")

-- the list of the one text `{{default}}` is written as the usual fingerprint, and any other as it is
abbrev pub fingerprint_form : Cell → Cell
fingerprint_form c = cond (same_cell c (one_text (codes "{{default}}"))) usual_fingerprint c

unfoldable pub fingerprint_kind : Kind
fingerprint_kind = scalar (written_as (list text_kind) fingerprint_form)

abbrev pub fingerprint_cell : List (CowStr Global) → Cell
fingerprint_cell texts = list_cell cow_cell texts
