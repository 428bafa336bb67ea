-- Headers that are filled in their place.
use Rattle.std.proofs.Common.{◌≡◌, ℕ, List, Some, None, Result, Ok, Err, refl, sym, ap, subst, ◌∙◌, arith}
use Rattle.std.specs.Prelude.{IfErr, OnOk, codes}
use Rattle.serde_json.specs.Data.{Data, object, no_members}
use Rattle.sentry_json.specs.Line.{tree_of}
use Rattle.sentry_json.proofs.Lines.{tree_of_written}
use Rattle.sentry_tables.specs.Shows.{Shows}
use Rattle.sentry_tables.specs.Reading.{Only, Refused, Shown, TextRefused, TextShown}
use Rattle.sentry_tables.specs.declared.error.TreeError.{TreeError}
use Rattle.sentry_tables.proofs.Texts.{line_refused, line_shows, text_read_by}
use Rattle.sentry_rows.specs.Fields.{Ends, ReadsField, ReadsFields, read_of}
use Rattle.sentry_rows.specs.declared.reader.Reader.{Reader}
use Rattle.sentry_rows.proofs.Reading.{table_ends}
use Rattle.sentry_envelope.specs.EnvelopeView.{no_fields}
use Rattle.sentry_envelope.specs.HeaderFields.{header_fields, header_kind, headers_cell}
use Rattle.sentry_envelope.specs.declared.headers.EnvelopeHeaders.{EnvelopeHeaders}

-- the rows were read into their place, and the reader's end says whether all of them could be
pub rows_filled : {N : Type 0} (data_of : N → Data) (h : EnvelopeHeaders) (a z : Reader N) (d : Data) (r : Result (Unit {0}) TreeError) → read_of data_of a ≡ d → ReadsFields (ReadsField data_of) header_fields h a z → a.failed ≡ None → Ends z tt r → OnOk r (Shown header_kind d (headers_cell h)) × IfErr r (λ e. Only e (Refused header_kind d))
rows_filled data_of h a z d (Ok u) is read none ends = (table_ends data_of header_fields h a z d (Ok h) is read none (ends.0, refl), tt)
rows_filled data_of h a z d (Err e) is read none ends = (tt, table_ends data_of header_fields h a z d (Err e) is read none ends)

-- what the tree of a line shows, the line shows
pub line_filled : (line : List ℕ) (d : Data) (h : EnvelopeHeaders) (r : Result (Unit {0}) TreeError) → tree_of line ≡ Some d → OnOk r (Shown header_kind d (headers_cell h)) → IfErr r (λ e. Only e (Refused header_kind d)) → OnOk r (TextShown header_kind line (headers_cell h)) × IfErr r (λ e. Only e (TextRefused header_kind line))
line_filled line d h (Ok u) is ok err = (text_read_by header_kind headers_cell line (Ok h) (line_shows _ line d is ok) tt, tt)
line_filled line d h (Err e) is ok err = (tt, text_read_by header_kind headers_cell line (Err e) tt (line_refused (Refused header_kind) line d e is err))

-- the line of an object without members shows a header without fields
pub none_filled : (line : List ℕ) (h : EnvelopeHeaders) → line ≡ codes "{}" → headers_cell h ≡ no_fields → TextShown header_kind line (headers_cell h)
unfolding TextShown header_fields
none_filled line h is none =
    let shown : tree_of line ≡ Some (object no_members) = ap tree_of is ∙ tree_of_written (object no_members) (tt, tt) (omega arith) in
    λ now. (object no_members, shown, subst (λ c. Shows header_kind now (object no_members) c) (sym none) (refl, ((refl, (refl, (refl, (refl, (refl, tt))))), refl)))
