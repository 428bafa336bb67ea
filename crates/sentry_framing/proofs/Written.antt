-- What is written is read again.
use Rattle.std.proofs.Common.{◌≡◌, ℕ, List, [], ◌∷◌, ◌++◌, Option, Some, inr, refl}
use Rattle.std.proofs.lemmas.List.Elements.{All-nil}
use Rattle.serde_json.specs.Data.{Data, Members, object}
use Rattle.serde_json.specs.Written.{compact_text}
use Rattle.sentry_json.specs.Line.{newline}
use Rattle.sentry_framing.specs.Framing.{is_space, with_line, Reading, IsFirstFrame, IsLineAndBody, HasSize}
use Rattle.std.specs.Bool.{IsTrue}
use Rattle.sentry_json.proofs.Pieces.{compact_object, compact_clean}

pub line_read : (tree : Data) (body : List ℕ) → IsLineAndBody (with_line (compact_text tree) body) (compact_text tree) body
line_read tree body = record { after = newline ∷ body; no_newline = compact_clean tree; parts = refl; ends = inr refl }

pub item_read : (reads : Reading) (members : Members) (stated : Option ℕ) (payload body : List ℕ) → reads (compact_text (object members)) ≡ Some stated → HasSize stated payload
    → IsFirstFrame reads (with_line (compact_text (object members)) (with_line payload body)) (record { header = compact_text (object members); payload = payload }) body
item_read reads members stated payload body accepted size = record {
  after = newline ∷ (payload ++ newline ∷ body);
  opens = record { space = []; blank = All-nil (λ b. IsTrue (is_space b)); balanced = compact_object members; parts = refl };
  stated = stated;
  accepted = accepted;
  size = size;
  follows = inr (inr refl);
}
