use Rattle.std.proofs.Common.{List, Option, ℕ, ◌≡◌}
use Rattle.std.specs.List.{filter_map}
use Rattle.std.specs.Str.Iter.{split_steps}
use Rattle.std.specs.Str.Pattern.{FindsChar}
use Rattle.std.proofs.lemmas.Iterator.{YieldsList}
use Rattle.sentry_reports.specs.declared.category.Category.{Category}
use Rattle.sentry_limits.specs.RateLimits.{end_of, listed, name_of, raised}
use Rattle.sentry_limits.proofs.rate_limits.RateLimits.raise_listed.Given as goal

-- the words that are left make of the ends what all words make of the first ones
abbrev pub invariant-loop-word : goal.invariant-loop-word
invariant-loop-word l =
    (words : List (List ℕ)) × YieldsList (split_steps FindsChar (λ a b. b ≡ a)) (λ x. x.now) l.word-iterator words
    × ((name : Option Category) → raised name (filter_map name_of words) l.end (end_of l.self name) ≡ raised name (listed l.words) l.end (end_of l.fn.self name))
