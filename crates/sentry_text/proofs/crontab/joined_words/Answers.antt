use Rattle.std.proofs.Common.{◌∙◌, ap, ℕ, List, ◌++◌, rules, string_bytes, lit<}
use Rattle.std.proofs.lemmas.Str.Ascii.{encode_ascii}
use Rattle.sentry_text.proofs.CrontabParts.{starts_with}
use Rattle.sentry_text.proofs.CrontabWords.{nothing_joined, first_word, next_word, all_joined}
use Rattle.sentry_text.proofs.crontab.joined_words.Goals as goal
use Rattle.sentry_text.proofs.crontab.joined_words.Goals.{then-not-is_empty+in_ok-push, else-not-is_empty}

pub loop-word-init : goal.loop-word-init
loop-word-init c = nothing_joined _ _ _ c.new-joined.ensures.bytes (rw c.into_iter-word-iterator.ensures.into_iter_gives c.split_whitespace-word-items.ensures.rest)

pub loop-word-preserved : goal.loop-word-preserved
loop-word-preserved c =
    let s = starts_with _ c.in-Some.word.now _ c.in-Some.ensures.steps in
    elim c.if-not-is_empty.branch [
      | then-not-is_empty+in_ok-push w ↦ next_word _ _ _ _ _ _ c.loop-word.invariant (search rules) (c.in_ok-push_str.ensures.bytes ∙ ap (λ (t : List ℕ). t ++ c.in-Some.word.now) (ap string_bytes w.joined-is ∙ (w.in_ok-push.ensures.bytes ∙ ap (λ (t : List ℕ). string_bytes c.loop-word.joined ++ t) (encode_ascii 95 (lit< tt))))) s
      | else-not-is_empty w ↦ first_word _ _ _ _ _ _ c.loop-word.invariant (search rules) (c.in_ok-push_str.ensures.bytes ∙ ap (λ (t : List ℕ). t ++ c.in-Some.word.now) (ap string_bytes w.joined-is)) s
    ]

pub returns : goal.returns
returns c = all_joined _ _ _ c.loop-word.invariant c.in-None.ensures.steps.1
