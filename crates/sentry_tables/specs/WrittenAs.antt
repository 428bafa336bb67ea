-- Values of a kind that are read as they are, and written in another form.
use Rattle.std.specs.Prelude.{◌≡◌, false}
use Rattle.serde_json.specs.Data.{Data}
use Rattle.sentry_json.specs.Sound.{IsSound}
use Rattle.sentry_tables.specs.Cell.{Cell, moment}
use Rattle.sentry_tables.specs.Drawn.{NeverDraws}
use Rattle.sentry_tables.specs.Kind.{Scalar, Kind}
use Rattle.sentry_tables.specs.Meets.{IsStored, IsPlain, IsReadable}
use Rattle.sentry_tables.specs.Norm.{norm}
use Rattle.sentry_tables.specs.Shows.{Shows}
use Rattle.sentry_tables.specs.Written.{tree, is_null}

abbrev pub any_moment : Cell
any_moment = moment 0 0

-- the values of a kind that no moment decides; each is written as the form that the function gives
abbrev pub written_as : Kind → (Cell → Cell) → Scalar
written_as K form = record {
  shows = Shows K any_moment;
  tree = λ c. tree K (form c);
  norm = λ c. norm K (form c);
  is_null = λ c. false;
  stored = IsStored K;
  plain = IsPlain K;
  readable = IsReadable K;
}

-- What the form owes.
pub record FormLaws (K : Kind) (form : Cell → Cell) : Type 0 where
  -- it is stored, plain and readable where the value is
  pub stored : (c : Cell) → IsStored K c → IsStored K (form c)
  pub plain : (c : Cell) → IsPlain K c → IsPlain K (form c)
  pub readable : (c : Cell) → IsReadable K c → IsReadable K (form c)
  -- the normal form is its own form
  pub settled : (c : Cell) → IsStored K c → IsPlain K c → form (norm K (form c)) ≡ norm K (form c)
  -- the form of what is shown is written as its normal form is
  pub alike : (d : Data) (c : Cell) → IsSound d → Shows K any_moment d c → IsStored K c → IsPlain K c → tree K (form c) ≡ tree K (norm K (form c))
  -- nothing in a value is drawn
  pub undrawn : NeverDraws K
  -- no value is the tree null
  pub not_null : (c : Cell) → IsStored K c → is_null (tree K (form c)) ≡ false
