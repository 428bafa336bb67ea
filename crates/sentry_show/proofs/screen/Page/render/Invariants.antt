use Rattle.std.proofs.Common.{string_bytes}
use Rattle.sentry_show.specs.Screen.{IsPage}
use Rattle.sentry_show.proofs.screen.Page.render.Given as goal

abbrev pub invariant-loop-line : goal.invariant-loop-line
invariant-loop-line l = IsPage l.colors l.columns (string_bytes l.text)
