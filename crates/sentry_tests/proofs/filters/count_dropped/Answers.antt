use Rattle.std.proofs.Common.{rules, arith, ◌≡◌, ◌^◌, ◌-◌, ◌≤◌, min, length, ℕ, ◌+◌, List, [], ◌∷◌, fold, ap, subst, ◌∙◌}
use Rattle.std.specs.List.{filter_map}
use Rattle.sentry_items.specs.declared.item.EnvelopeItem.{EnvelopeItem}
use Rattle.sentry_envelope.specs.EnvelopeView.{no_fields}
use Rattle.sentry_envelope.specs.Filter.{Call, Ask, Hand, item_of_hand, calls, asked_items, Leaves}
use Rattle.sentry_envelope.proofs.FilterLemmas.{Run-follows}
use Rattle.sentry_tests.proofs.filters.count_dropped.Goals as goal

-- one more at a hand, as far as 64 bits go
abbrev counted : ℕ × ℕ → Call → ℕ × ℕ
counted s (Ask item answer) = s
counted s (Hand item) = (s.0, min (s.1 + 1) (2 ^ 64 - 1))

counted_handed : (name n : ℕ) (calls : List Call) → n ≤ 2 ^ 64 - 1 → fold counted (name, n) calls ≡ (name, min (n + length (filter_map item_of_hand calls)) (2 ^ 64 - 1))
counted_handed name n [] small = ap (λ (k : ℕ). (name, k)) (omega arith)
counted_handed name n (Ask item answer ∷ calls) small = counted_handed name n calls small
counted_handed name n (Hand item ∷ calls) small = counted_handed name (min (n + 1) (2 ^ 64 - 1)) calls (omega arith) ∙ ap (λ (k : ℕ). (name, k)) (omega arith)

pub returns : goal.returns
returns c =
    let filtered = c.in_ok-left.ensures.filtered in
    let run = Run-follows _ _ (λ f. (f.on_filtered.0.ghost_name, f.on_filtered.0.now)) counted (λ f item answer next asked. search rules) (λ f item next given. search rules) _ _ _ filtered.filters.run in
    let count = (rw c.new-callbacks.ensures.hands at run) ∙ counted_handed _ 0 (calls (asked_items c.args.envelope) filtered.filters.answers) (omega arith) in (
      filtered.filters.answers,
      filtered.filters.complete,
      subst (λ (left : List EnvelopeItem). Leaves no_fields c.args.envelope left c.in_ok-left.left) filtered.filters.left_is filtered.leaves,
      grind arith,
    )
