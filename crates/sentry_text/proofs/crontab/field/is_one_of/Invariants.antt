use Rattle.std.proofs.Common.{◌↔◌, map, drop}
use Rattle.sentry_text.specs.Crontab.{IsOneOf}
use Rattle.sentry_text.proofs.crontab.field.is_one_of.Given as goal

-- the names so far are others
abbrev pub invariant-loop-name : goal.invariant-loop-name
invariant-loop-name l =
    IsOneOf l.text (map (λ n. n.now) (drop l.name-index l.names)) ↔ IsOneOf l.text (map (λ n. n.now) l.names)
