-- That each item is kept or handed over, and exactly once.
use Rattle.std.proofs.Common.{◌≡◌, Bool, true, false, not, cond, List, [], ◌∷◌, ◌++◌, length, map, filter, refl, ap, append_assoc, append-nil}
use Rattle.std.specs.List.{list_any, filter_map, flat_map}
use Rattle.std.proofs.lemmas.List.Concat.{flat_map-append}
use Rattle.std.proofs.lemmas.List.Elements.{filter_map-append}
use Rattle.std.specs.List.Sorted.{IsPermutation}
use Rattle.std.proofs.lemmas.List.Sorted.{IsPermutation-refl, IsPermutation-append_left, IsPermutation-append_right, IsPermutation-append_comm, IsPermutation-trans}
use Rattle.sentry_items.specs.declared.item.EnvelopeItem.{EnvelopeItem}
use Rattle.sentry_envelope.specs.Filter.{Hand, item_of_hand, asks, chosen, orphans, kept, handed, is_main, is_orphan}

-- the items that were answered no
abbrev refused : List EnvelopeItem → List Bool → List EnvelopeItem
refused [] answers = []
refused (item ∷ items) [] = []
refused (item ∷ items) (true ∷ answers) = refused items answers
refused (item ∷ items) (false ∷ answers) = item ∷ refused items answers

handed_of_asks : (items : List EnvelopeItem) (answers : List Bool) → filter_map item_of_hand (asks items answers) ≡ refused items answers
handed_of_asks [] answers = refl
handed_of_asks (item ∷ items) [] = refl
handed_of_asks (item ∷ items) (true ∷ answers) = handed_of_asks items answers
handed_of_asks (item ∷ items) (false ∷ answers) = ap (λ (xs : List EnvelopeItem). item ∷ xs) (handed_of_asks items answers)

pub handed_of_hands : (items : List EnvelopeItem) → filter_map item_of_hand (map Hand items) ≡ items
handed_of_hands [] = refl
handed_of_hands (item ∷ items) = ap (λ (xs : List EnvelopeItem). item ∷ xs) (handed_of_hands items)

handed_are : (items : List EnvelopeItem) (answers : List Bool) → handed items answers ≡ refused items answers ++ orphans (chosen items answers)
handed_are items answers = rw (filter_map-append, handed_of_asks, handed_of_hands)

-- what each item stands for, laid end to end
module _ {X : Type 0} (parts : EnvelopeItem → List X) where
  -- a piece in the middle goes to the front
  to_front : (xs ys zs : List X) → IsPermutation (xs ++ (ys ++ zs)) (ys ++ (xs ++ zs))
  to_front xs ys zs = simp append_assoc at (IsPermutation-append_left zs _ _ (IsPermutation-append_comm xs ys))

  parts_by_answer : (items : List EnvelopeItem) (answers : List Bool) → length answers ≡ length items
      → IsPermutation (flat_map parts items) (flat_map parts (chosen items answers) ++ flat_map parts (refused items answers))
  parts_by_answer [] answers same = IsPermutation-refl []
  parts_by_answer (item ∷ items) [] same = cc
  parts_by_answer (item ∷ items) (true ∷ answers) same = rw append_assoc (IsPermutation-append_right (parts item) _ _ (parts_by_answer items answers (cc)))
  parts_by_answer (item ∷ items) (false ∷ answers) same =
      IsPermutation-trans _ _ _ (IsPermutation-append_right (parts item) _ _ (parts_by_answer items answers (cc))) (to_front (parts item) (flat_map parts (chosen items answers)) (flat_map parts (refused items answers)))

  parts_by_test : (p : EnvelopeItem → Bool) (items : List EnvelopeItem)
      → IsPermutation (flat_map parts items) (flat_map parts (filter (λ item. not (p item)) items) ++ flat_map parts (filter p items))
  parts_by_test p [] = IsPermutation-refl []
  parts_by_test p (item ∷ items) = elim (p item) as (λ b. IsPermutation (parts item ++ flat_map parts items)
      (flat_map parts (cond (not b) (item ∷ filter (λ item. not (p item)) items) (filter (λ item. not (p item)) items)) ++ flat_map parts (cond b (item ∷ filter p items) (filter p items)))) [
        | true ↦ IsPermutation-trans _ _ _ (IsPermutation-append_right (parts item) _ _ (parts_by_test p items)) (to_front (parts item) (flat_map parts (filter (λ item. not (p item)) items)) (flat_map parts (filter p items)))
        | false ↦ rw append_assoc (IsPermutation-append_right (parts item) _ _ (parts_by_test p items))
      ]

  parts_by_kind : (main : Bool) (items : List EnvelopeItem)
      → IsPermutation (flat_map parts items) (flat_map parts (cond main items (filter (λ item. not (is_orphan item)) items)) ++ flat_map parts (cond main [] (filter is_orphan items)))
  parts_by_kind true items = rw append-nil (IsPermutation-refl (flat_map parts items))
  parts_by_kind false items = parts_by_test is_orphan items

  pub parts_conserved : (items : List EnvelopeItem) (answers : List Bool) → length answers ≡ length items
      → IsPermutation (flat_map parts items) (flat_map parts (kept (chosen items answers)) ++ flat_map parts (handed items answers))
  parts_conserved items answers same =
      let yes_items = chosen items answers in
      let no_items = refused items answers in
      let by_kind = parts_by_kind (list_any is_main yes_items) yes_items in
      let all = IsPermutation-trans _ _ _ (parts_by_answer items answers same) (IsPermutation-append_left (flat_map parts no_items) _ _ by_kind) in
      let in_order = IsPermutation-append_right (flat_map parts (kept yes_items)) _ _ (IsPermutation-append_comm (flat_map parts (orphans yes_items)) (flat_map parts no_items)) in
      rw (handed_are, flat_map-append) (IsPermutation-trans _ _ _ (rw append_assoc at all) in_order)

flat_alone : (items : List EnvelopeItem) → flat_map (λ item. item ∷ []) items ≡ items
flat_alone [] = refl
flat_alone (item ∷ items) = ap (λ (xs : List EnvelopeItem). item ∷ xs) (flat_alone items)

pub conserved : (items : List EnvelopeItem) (answers : List Bool) → length answers ≡ length items → IsPermutation items (kept (chosen items answers) ++ handed items answers)
conserved items answers same =
    rw (flat_alone items, flat_alone (kept (chosen items answers)), flat_alone (handed items answers)) at (parts_conserved (λ item. item ∷ []) items answers same)
