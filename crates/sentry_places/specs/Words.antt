-- The words of notes and of breaks.
use Rattle.std.specs.Prelude.{ℕ, List, codes}
use Rattle.sentry_places.specs.declared.note.Found.{Found}
use Rattle.sentry_places.specs.declared.note.Found.TheVariants as found
use Rattle.sentry_places.specs.declared.note.Wanted.{Wanted}
use Rattle.sentry_places.specs.declared.note.Wanted.TheVariants as wanted
use Rattle.sentry_places.specs.declared.note.Repair.{Repair}
use Rattle.sentry_places.specs.declared.note.Repair.TheVariants as repair
use Rattle.sentry_places.specs.declared.syntax.Expected.{Expected}
use Rattle.sentry_places.specs.declared.syntax.Expected.TheVariants as expected

-- what stands at a place
abbrev pub found_word : Found → List ℕ
found_word found.Absent = codes "absent"
found_word found.Null = codes "null"
found_word found.Boolean = codes "boolean"
found_word found.Integer = codes "integer"
found_word found.Decimal = codes "decimal"
found_word found.Text = codes "string"
found_word found.Array = codes "array"
found_word found.Object = codes "object"

-- what reads at a place
abbrev pub wanted_word : Wanted → List ℕ
wanted_word wanted.Any = codes "any value without floats"
wanted_word wanted.Text = codes "a string"
wanted_word wanted.IntegerOrText = codes "a whole number or a string"
wanted_word wanted.Integer = codes "a whole number"
wanted_word wanted.Boolean = codes "a boolean"
wanted_word wanted.Moment = codes "whole seconds or an RFC 3339 string"
wanted_word wanted.Rfc3339 = codes "an RFC 3339 string"
wanted_word wanted.List = codes "an array"
wanted_word wanted.Object = codes "an object"
wanted_word wanted.Uuid = codes "a UUID"
wanted_word wanted.SpanId = codes "16 hexadecimal digits"
wanted_word wanted.NumberText = codes "a number as a string"
wanted_word wanted.Url = codes "a URL"
wanted_word wanted.Word = codes "one of the known words"
wanted_word wanted.Other = codes "another value"

-- what was done at a place
abbrev pub repair_word : Repair → List ℕ
repair_word repair.AsMoment = codes "as an RFC 3339 string"
repair_word repair.AsText = codes "as a string"
repair_word repair.AsStringType = codes "as the type `string`"
repair_word repair.AsEmptyList = codes "as an empty array"
repair_word repair.TakenOut = codes "taken out"
repair_word repair.HeaderId = codes "the header's event id"
repair_word repair.Length = codes "length"
repair_word repair.Left = codes "left"

-- what a text that isn't JSON lacks where it breaks
abbrev pub expected_word : Expected → List ℕ
expected_word expected.Value = codes "a value"
expected_word expected.Key = codes "a key in quotes"
expected_word expected.Colon = codes "a colon"
expected_word expected.CommaOrEnd = codes "a comma or the closing bracket"
expected_word expected.End = codes "the end"
expected_word expected.Literal = codes "true, false or null"
expected_word expected.Digit = codes "a digit"
expected_word expected.Quote = codes "a closing quote"
expected_word expected.EscapedControl = codes "an escape in place of a control character"
expected_word expected.Escape = codes "an escape"
expected_word expected.Surrogate = codes "the other half of a surrogate pair"
expected_word expected.Utf8 = codes "UTF-8"
expected_word expected.LessNesting = codes "at most 127 open brackets"
