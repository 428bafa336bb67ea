use Rattle.json.proofs.Printed.Floats.{IsNumber-plus}
use Rattle.sentry_json.proofs.writer.Writer.float.Goals as goal

pub number-requires : goal.number-requires
number-requires c = IsNumber-plus _ _ _ c.format_finite_with_plus.ensures.layout

pub returns : goal.returns
returns c = (_, c.number.ensures, c.format_finite_with_plus.ensures.layout, c.format_finite_with_plus.ensures.parses)
