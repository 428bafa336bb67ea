-- What is shown of an envelope.
use Rattle.std.specs.Prelude.{◌↔◌, ℕ, Bool, IsTrue, List}
use Rattle.sentry_show.specs.Document.{IsDocument}
use Rattle.sentry_show.specs.Verdicts.{IsAccepted}

-- the document of the envelope, which tells whether the bytes are accepted
pub record IsShown (bytes text : List ℕ) : Type 0 where
  pub accepted : Bool
  pub document : IsDocument bytes accepted text
  pub exactly : IsTrue accepted ↔ IsAccepted bytes
