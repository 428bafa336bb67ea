-- The fields of a writer of JSON.
use Rattle.std.specs.Prelude.{◌≡◌, ◌≤◌, List, length, take, drop}
use Rattle.std.specs.Str.{IsUtf8}
use Rattle.json.specs.Token.{Token}
use Rattle.json.specs.Lex.{tokens}
use Rattle.json.specs.Print.{print, ends_value, ArePrintable}
use Rattle.json.specs.Written.{Written}
use Rattle.sentry_json.specs.declared.writer.Writer.TheInside.{Inside}

-- the tokens are those that the text behind the start spells, and what is spare is the buffer's
abbrev pub writer_view : Inside → Written
writer_view w = record { before = take w.start w.out.items; tokens = tokens (drop w.start w.out.items); spare = w.out.spare }

-- the text behind the start is a print of tokens
pub record IsWriter (w : Inside) : Type 0 where
  pub within : w.start ≤ length w.out.items
  pub printed : List Token
  pub printable : ArePrintable printed
  pub text : drop w.start w.out.items ≡ print printed
  pub place : w.after_value ≡ ends_value printed
  pub utf8 : IsUtf8 (drop w.start w.out.items)
