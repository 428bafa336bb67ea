-- That the losses of an envelope are those of what is left of it and of what is handed over.
use Rattle.std.proofs.Common.{◌≡◌, Bool, List, [], ◌∷◌, ◌++◌, length, Option, Some, None, refl, sym, ap, subst, ◌∙◌}
use Rattle.std.specs.List.Sorted.{IsPermutation}
use Rattle.std.proofs.lemmas.List.Sorted.{length_permutation}
use Rattle.sentry_tables.specs.Cell.{Cell}
use Rattle.sentry_items.specs.Losses.{losses_of_item, losses_of_items}
use Rattle.sentry_items.specs.declared.item.EnvelopeItem.{EnvelopeItem}
use Rattle.sentry_reports.specs.declared.item_loss.ItemLoss.{ItemLoss}
use Rattle.sentry_envelope.specs.EnvelopeLosses.{losses_of_envelope, losses_of_left}
use Rattle.sentry_envelope.specs.EnvelopeView.{items_in}
use Rattle.sentry_envelope.specs.Filter.{asked_in, asked_items, chosen, kept, handed, structured_in, Leaves, LeavesOf}
use Rattle.sentry_envelope.specs.declared.envelope.Contents.{Contents}
use Rattle.sentry_envelope.specs.declared.envelope.Contents.TheVariants as variants
use Rattle.sentry_envelope.specs.declared.envelope.Envelope.{Envelope}
use Rattle.sentry_envelope.proofs.ConservationLemmas.{parts_conserved}

-- what a filter is asked about has the losses of the items: `Raw`, which stands for a raw envelope,
-- has none
losses_asked : (contents : Contents) → losses_of_items (asked_in contents) ≡ losses_of_items (items_in contents)
losses_asked (variants.Items items) = refl
losses_asked (variants.Raw bytes) = refl

structured_items : (contents : Contents) (items : List EnvelopeItem) → structured_in contents ≡ Some items → items_in contents ≡ items
structured_items (variants.Items held) items is = cc
structured_items (variants.Raw bytes) items is = cc

front_is_none : (xs ys : List ItemLoss) → IsPermutation [] (xs ++ ys) → xs ≡ []
front_is_none [] ys same = refl
front_is_none (x ∷ xs) ys same = let none = length_permutation [] (x ∷ (xs ++ ys)) same in cc

-- what is left has the losses of the kept items
losses_left_by : (contents : Contents) (header : Cell) (envelope : Envelope) (left : List EnvelopeItem) (answer : Option Envelope) (others : List ItemLoss)
    → envelope.contents ≡ contents → LeavesOf contents header envelope left answer
    → IsPermutation (losses_of_items (asked_in contents)) (losses_of_items left ++ others) → losses_of_left answer ≡ losses_of_items left
losses_left_by contents header envelope [] answer others is leaves same = ap losses_of_left leaves
losses_left_by (variants.Items items) header envelope (item ∷ rest) None others is leaves same = absurd leaves
losses_left_by (variants.Items items) header envelope (item ∷ rest) (Some made) others is leaves same = ap losses_of_items (structured_items made.contents (item ∷ rest) leaves.items_are)
losses_left_by (variants.Raw bytes) header envelope (item ∷ rest) answer others is leaves same =
    ap losses_of_left leaves ∙ ap (λ (c : Contents). losses_of_items (items_in c)) is ∙ sym (front_is_none (losses_of_items (item ∷ rest)) others same)

pub losses_conserved : (header : Cell) (envelope : Envelope) (answers : List Bool) (left : Option Envelope) → length answers ≡ length (asked_items envelope)
    → Leaves header envelope (kept (chosen (asked_items envelope) answers)) left
    → IsPermutation (losses_of_envelope envelope) (losses_of_left left ++ losses_of_items (handed (asked_items envelope) answers))
losses_conserved header envelope answers left same leaves =
    let items = asked_items envelope in
    let stay = kept (chosen items answers) in
    let goes = losses_of_items (handed items answers) in
    let parts = parts_conserved losses_of_item items answers same in
    let is = losses_left_by envelope.contents header envelope stay left goes refl leaves parts in
    rw is (subst (λ (all : List ItemLoss). IsPermutation all (losses_of_items stay ++ goes)) (losses_asked envelope.contents) parts)
