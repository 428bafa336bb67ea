use Rattle.std.proofs.Common.{rules, arith, ◌≡◌, ◌^◌, ◌-◌, ◌≤◌, min, length, ℕ, ◌+◌, Bool, true, false, List, [], ◌∷◌, ◌++◌, map, fold, refl, ap, ◌∙◌}
use Rattle.sentry_items.specs.declared.item.EnvelopeItem.{EnvelopeItem}
use Rattle.sentry_envelope.specs.Filter.{Call, Ask, Hand, asks, calls}
use Rattle.sentry_envelope.proofs.FilterLemmas.{Run-follows}
use Rattle.sentry_tests.proofs.filters.without_attachments.Goals as goal

-- one more at an ask, as far as 64 bits go
abbrev counted : ℕ × ℕ → Call → ℕ × ℕ
counted s (Ask item answer) = (s.0, min (s.1 + 1) (2 ^ 64 - 1))
counted s (Hand item) = s

counted_hands : (s : ℕ × ℕ) (items : List EnvelopeItem) → fold counted s (map Hand items) ≡ s
counted_hands s [] = refl
counted_hands s (item ∷ items) = counted_hands s items

counted-append : (s : ℕ × ℕ) (xs ys : List Call) → fold counted s (xs ++ ys) ≡ fold counted (fold counted s xs) ys
counted-append s [] ys = refl
counted-append s (call ∷ xs) ys = counted-append (counted s call) xs ys

counted_asks : (name n : ℕ) (items : List EnvelopeItem) (answers : List Bool) → length answers ≡ length items → n ≤ 2 ^ 64 - 1 → fold counted (name, n) (asks items answers) ≡ (name, min (n + length items) (2 ^ 64 - 1))
counted_asks name n [] answers same small = ap (λ (k : ℕ). (name, k)) (omega arith)
counted_asks name n (item ∷ items) [] same small = cc
counted_asks name n (item ∷ items) (true ∷ answers) same small = counted_asks name (min (n + 1) (2 ^ 64 - 1)) items answers (cc) (omega arith) ∙ ap (λ (k : ℕ). (name, k)) (omega arith)
counted_asks name n (item ∷ items) (false ∷ answers) same small = counted_asks name (min (n + 1) (2 ^ 64 - 1)) items answers (cc) (omega arith) ∙ ap (λ (k : ℕ). (name, k)) (omega arith)

counted_calls : (name : ℕ) (items : List EnvelopeItem) (answers : List Bool) → length answers ≡ length items → fold counted (name, 0) (calls items answers) ≡ (name, min (length items) (2 ^ 64 - 1))
counted_calls name items answers same = rw (counted-append, counted_hands) (counted_asks name 0 items answers same (omega arith) ∙ ap (λ (k : ℕ). (name, k)) (omega arith))

pub returns : goal.returns
returns c =
    let filtered = c.in_ok-left.ensures.filtered.filters in
    let run = Run-follows _ _ (λ f. (f.0.ghost_name, f.0.now)) counted (λ f item answer next asked. search rules) (λ f item next given. search rules) _ _ _ filtered.run in
    let count = run ∙ counted_calls _ _ _ filtered.complete in
    grind arith
