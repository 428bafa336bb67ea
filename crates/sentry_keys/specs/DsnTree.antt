-- DSNs in trees of JSON: as their texts.
use Rattle.std.specs.Prelude.{◌≡◌, ◌++◌, ℕ, List, [], codes, decimal, pos, IsUtf8}
use Rattle.sentry_tables.specs.Cell.{Cell, present, text, whole, sequence, Cells, no_cells, cell}
use Rattle.sentry_tables.specs.Kind.{Kind}
use Rattle.sentry_tables.specs.Cells.{natural_cell, option_cell}
use Rattle.sentry_tables.specs.Spelling.{Spelling, spelled_kind}
use Rattle.sentry_tables.specs.declared.error.TreeError.{TreeError}
use Rattle.sentry_tables.specs.declared.error.TreeError.TheVariants as tree
use Rattle.sentry_text.specs.CellParts.{cells_of, first, others}
use Rattle.sentry_keys.specs.declared.dsn_error.ParseDsnError.{ParseDsnError}
use Rattle.sentry_keys.specs.declared.dsn_error.ParseDsnError.TheVariants.{Memory}
use Rattle.sentry_keys.specs.declared.dsn.Dsn.{Dsn}
use Rattle.sentry_keys.specs.DsnScheme.{scheme_text}
use Rattle.sentry_keys.specs.Dsn.{DsnParts, dsn_parts, dsn_text, IsDsnText, DsnReadsBack}

-- a cell for each part
abbrev pub parts_cell : DsnParts → Cell
parts_cell d =
    sequence (cell (text (scheme_text d.scheme)) (cell (text d.key) (cell (option_cell text d.secret) (cell (text d.host)
    (cell (option_cell natural_cell d.port) (cell (text d.path) (cell (text d.project) no_cells)))))))

abbrev pub dsn_cell : Dsn → Cell
dsn_cell d = parts_cell (dsn_parts d)

-- ---- the written text, by the cells of the parts

abbrev pub text_of : Cell → List ℕ
text_of (text s) = s
text_of (present (text s)) = s
text_of _ = []

abbrev pub port_of_cell : Cell → List ℕ
port_of_cell (present (whole (pos n))) = codes ":" ++ decimal n
port_of_cell _ = []

abbrev pub cells_text : Cells → List ℕ
cells_text cs =
    let keys = others cs in
    let secrets = others keys in
    let hosts = others secrets in
    let ports = others hosts in
    let paths = others ports in
    text_of (first cs) ++ (codes "://" ++ (text_of (first keys) ++ (codes ":" ++ (text_of (first secrets)
    ++ (codes "@" ++ (text_of (first hosts) ++ (port_of_cell (first ports) ++ (text_of (first paths) ++ text_of (first (others paths))))))))))

unfoldable pub written_text : Cell → List ℕ
written_text c = cells_text (cells_of c)

-- ---- the spelling

-- The text is that of a URL with the parts. A value's text is UTF-8, and it is readable where that
-- text is that of a URL with the same parts.
abbrev pub dsn_spelling : Spelling
dsn_spelling = record {
  spells = λ s c. (d : DsnParts) × (parts_cell d ≡ c) × IsDsnText s d;
  written = written_text;
  norm = λ c. c;
  stored = λ c. (d : DsnParts) × (parts_cell d ≡ c) × IsUtf8 (dsn_text d);
  readable = λ c. (d : DsnParts) × (parts_cell d ≡ c) × DsnReadsBack d;
}

abbrev pub dsn_kind : Kind
dsn_kind = spelled_kind dsn_spelling

-- the error of a tree with a text that was refused
abbrev pub tree_error : ParseDsnError → TreeError
tree_error Memory = tree.Memory
tree_error _ = tree.Misfit
