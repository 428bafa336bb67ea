use Rattle.std.proofs.Common.{◌↔◌}
use Rattle.std.specs.Str.Iter.{split_whitespace_rest}
use Rattle.sentry_text.specs.Crontab.{IsCrontab}
use Rattle.sentry_text.proofs.CrontabParts.{IsFrom}
use Rattle.sentry_text.proofs.crontab.validate.Given as goal

-- the text is a schedule if what is left has a part for each field that is left
abbrev pub invariant-loop-part : goal.invariant-loop-part
invariant-loop-part l = IsCrontab l.crontab ↔ IsFrom l.fields (split_whitespace_rest l.part-iterator)
