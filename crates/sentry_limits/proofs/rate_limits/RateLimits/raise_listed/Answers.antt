use Rattle.std.proofs.Common.{◌==◌, lit<, refl, ap, ◌∙◌, sym, List, ℕ}
use Rattle.std.specs.List.{filter_map, slice_split}
use Rattle.std.proofs.lemmas.Iterator.Splits.{YieldsList-from_str_split}
use Rattle.sentry_reports.specs.Categories.{category_of}
use Rattle.sentry_limits.specs.RateLimits.{end_of, name_of, raised}
use Rattle.sentry_limits.proofs.Held.{known_word, next_text, no_text, unknown_word}
use Rattle.sentry_limits.proofs.rate_limits.RateLimits.raise_listed.Goals as goal

pub loop-word-init : goal.loop-word-init
loop-word-init c =
    rw c.into_iter-word-iterator.ensures.into_iter_gives (
      slice_split (λ b. b == 59) c.args.words.now,
      YieldsList-from_str_split 59 c.args.words.now (lit< tt) c.split-word-items.ensures.text c.split-word-items.ensures.has_more c.split-word-items.ensures.pattern,
      λ name. refl,
    )

pub loop-word-preserved-in-Some-of_word : goal.loop-word-preserved-in-Some-of_word
loop-word-preserved-in-Some-of_word c =
    let inv = c.loop-word.invariant in
    let next = next_text _ _ c.loop-word.word-iterator c.next.new.self c.in-Some.word inv.0 inv.1 c.in-Some.ensures.steps in
    (next.0, next.2, λ name. known_word name c.in-Some-of_word.category _ _ _ _ _ _ next.1 (c.in-Some-of_word.ensures ∙ ap category_of c.trim.ensures.trim) (c.raise.ensures name) ∙ inv.2 name)

pub loop-word-preserved : goal.loop-word-preserved
loop-word-preserved c =
    let inv = c.loop-word.invariant in
    let next = next_text _ _ c.loop-word.word-iterator c.next.new.self c.in-Some.word inv.0 inv.1 c.in-Some.ensures.steps in
    (next.0, next.2, λ name. unknown_word name _ _ _ _ _ next.1 (c.in_default.ensures ∙ ap category_of c.trim.ensures.trim) ∙ inv.2 name)

pub returns : goal.returns
returns c =
    let inv = c.loop-word.invariant in
    let none = no_text _ _ _ _ inv.0 inv.1 c.in-None.ensures.steps in
    λ name. sym (ap (λ (ws : List (List ℕ)). raised name (filter_map name_of ws) c.args.end (end_of c.loop-word.self name)) none) ∙ inv.2 name
