-- What scalars of a line mean, and their tokens.
use Rattle.serde_json.specs.Data.{Data, number, string, unsigned}
use Rattle.sentry_json.specs.declared.tape.flat.Scalar.{Scalar}
use Rattle.sentry_json.specs.declared.tape.flat.Scalar.TheVariants as scalar
use Rattle.sentry_json.specs.declared.tape.token.Token.{Token}
use Rattle.sentry_json.specs.declared.tape.token.Token.TheVariants as token

-- the tree of a scalar
abbrev pub scalar_data : Scalar → Data
scalar_data (scalar.Text s) = string s.now
scalar_data (scalar.Whole n) = number (unsigned n)

-- its token
abbrev pub token_of : Scalar → Token
token_of (scalar.Text s) = token.Text s
token_of (scalar.Whole n) = token.Whole n
