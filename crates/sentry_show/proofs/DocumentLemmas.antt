-- That what is written is the document.
use Rattle.std.proofs.Common.{◌≡◌, ℕ, List, [], ◌∷◌, ◌++◌, Bool, length, ap, ◌∙◌, append_assoc}
use Rattle.json.specs.Print.{print}
use Rattle.sentry_show.specs.Document.{IsDocument, front}
use Rattle.sentry_show.specs.Rows.{AreRows}
use Rattle.sentry_show.specs.declared.survey.Row.{Row}

pub document_made : (bytes : List ℕ) (rows : List Row) (accepted : Bool) (begun members : List ℕ) → AreRows bytes rows → begun ≡ print (front (length bytes) accepted rows) → IsDocument bytes accepted ((begun ++ 44 ∷ []) ++ members)
document_made bytes rows accepted begun members are_rows same = record {
  rows = rows;
  are_rows = are_rows;
  after = members;
  text_is = append_assoc begun (44 ∷ []) members ∙ ap (λ x. x ++ 44 ∷ members) same;
}
