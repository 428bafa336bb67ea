-- How the calls of a filter go on, one item at a time.
use Rattle.std.proofs.Common.{Vec, Global, Some, None, ◌≡◌, ℕ, suc, Bool, true, false, not, List, [], ◌∷◌, ◌++◌, map, filter, fold, refl, ap, subst, sym, ◌∙◌}
use Rattle.std.specs.List.{list_any}
use Rattle.sentry_items.specs.declared.item.EnvelopeItem.{EnvelopeItem}
use Rattle.sentry_items.specs.declared.item.EnvelopeItem.TheVariants as item_variants
use Rattle.sentry_envelope.specs.declared.envelope.Envelope.{Envelope}
use Rattle.sentry_envelope.specs.declared.headers.EnvelopeHeaders.{EnvelopeHeaders}
use Rattle.sentry_envelope.specs.declared.envelope.Contents.{Contents}
use Rattle.sentry_envelope.specs.declared.envelope.Contents.TheVariants as variants
use Rattle.sentry_envelope.specs.HeaderFields.{put_id, headers_cell}
use Rattle.sentry_tables.specs.Cell.{Cell}
use Rattle.sentry_envelope.specs.Filter.{Call, Ask, Hand, Run, id_of, asks, chosen, is_main, is_orphan, orphans, kept, Asks, Filters, FiltersEnvelope, first_id_of, IsMadeOf, LeavesOf}

-- `Raw` gives no id, and is no orphan
raw_orphans : orphans (item_variants.Raw ∷ []) ≡ []
unfolding id_of is_orphan
raw_orphans = refl

raw_kept : kept (item_variants.Raw ∷ []) ≡ item_variants.Raw ∷ []
unfolding id_of is_orphan
raw_kept = refl

-- an envelope that is made of some items is what is left of one with items
made_leaves : (contents : Contents) (items : Vec EnvelopeItem Global) (header : Cell) (envelope : Envelope) (left : List EnvelopeItem) (made : Envelope)
    → contents ≡ variants.Items items → (left ≡ [] → ⊥) → IsMadeOf header left made → LeavesOf contents header envelope left (Some made)
made_leaves contents items header envelope [] made is some of = absurd (some refl)
made_leaves (variants.Items held) items header envelope (x ∷ xs) made is some of = of
made_leaves (variants.Raw bytes) items header envelope (x ∷ xs) made is some of = absurd (cc)

module _ {F : Type 0} (ask : F → EnvelopeItem → Bool → F → Type 0) (hand : F → EnvelopeItem → F → Type 0) where
  pub Run-append : (first : F) (calls : List Call) (next : F) (more : List Call) (last : F) → Run ask hand first calls next → Run ask hand next more last → Run ask hand first (calls ++ more) last
  Run-append first [] next more last is run = subst (λ (f : F). Run ask hand f more last) is run
  Run-append first (Ask item answer ∷ calls) next more last run rest = (run.0, run.1, Run-append run.0 calls next more last run.2 rest)
  Run-append first (Hand item ∷ calls) next more last run rest = (run.0, run.1, Run-append run.0 calls next more last run.2 rest)

  pub asks_none : (last : F) → Asks ask hand [] last last []
  asks_none last = record { answers = []; complete = refl; run = refl; left_is = refl }

  pub asks_yes : (item : EnvelopeItem) (items : List EnvelopeItem) (first next last : F) (left : List EnvelopeItem) → ask first item true next → Asks ask hand items next last left → Asks ask hand (item ∷ items) first last (item ∷ left)
  asks_yes item items first next last left agreed rest = record {
    answers = true ∷ rest.answers;
    complete = ap suc rest.complete;
    run = (next, agreed, rest.run);
    left_is = ap (λ (xs : List EnvelopeItem). item ∷ xs) rest.left_is;
  }

  pub asks_no : (item : EnvelopeItem) (items : List EnvelopeItem) (first next after last : F) (left : List EnvelopeItem) → ask first item false next → hand next item after → Asks ask hand items after last left → Asks ask hand (item ∷ items) first last left
  asks_no item items first next after last left refused given rest = record {
    answers = false ∷ rest.answers;
    complete = ap suc rest.complete;
    run = (next, refused, (after, given, rest.run));
    left_is = rest.left_is;
  }

  -- with an event or a transaction among the chosen items nothing else is called
  pub filters_with_main : (items : List EnvelopeItem) (first last : F) (left : List EnvelopeItem) → Asks ask hand items first last left → list_any is_main left ≡ true → Filters ask hand items first last left
  filters_with_main items first last left asked main =
      let here : list_any is_main (chosen items asked.answers) ≡ true = rw (← asked.left_is) main in
      record {
        answers = asked.answers;
        complete = asked.complete;
        run = rw here (Run-append first (asks items asked.answers) last [] last asked.run refl);
        left_is = rw here asked.left_is;
      }

  -- without one, the attachments among them are handed over
  pub filters_without_main : (items : List EnvelopeItem) (first next last : F) (left rest : List EnvelopeItem) → Asks ask hand items first next left → list_any is_main left ≡ false
      → Run ask hand next (map Hand (filter is_orphan left)) last → rest ≡ filter (λ item. not (is_orphan item)) left → Filters ask hand items first last rest
  filters_without_main items first next last left rest asked main handed others =
      let here : list_any is_main (chosen items asked.answers) ≡ false = rw (← asked.left_is) main in
      record {
        answers = asked.answers;
        complete = asked.complete;
        run = rw here (Run-append first (asks items asked.answers) next _ last asked.run (rw asked.left_is at handed));
        left_is = rw here (rw asked.left_is at others);
      }

  -- raw bytes stay at a yes
  pub raw_stays : (header : Cell) (envelope : Envelope) (bytes : Vec ℕ Global) (first last : F) → envelope.contents ≡ variants.Raw bytes → ask first item_variants.Raw true last
      → FiltersEnvelope header ask hand envelope first last (Some (record { headers = envelope.headers; contents = variants.Raw bytes }))
  raw_stays header envelope bytes first last is asked = record {
    left = item_variants.Raw ∷ [];
    filters = rw is (record { answers = true ∷ []; complete = refl; run = (last, asked, rw raw_orphans refl); left_is = sym raw_kept });
    leaves = rw is refl;
  }

  -- and go at a no
  pub raw_goes : (header : Cell) (envelope : Envelope) (bytes : Vec ℕ Global) (first next last : F) → envelope.contents ≡ variants.Raw bytes → ask first item_variants.Raw false next → hand next item_variants.Raw last
      → FiltersEnvelope header ask hand envelope first last None
  raw_goes header envelope bytes first next last is asked handed = record {
    left = [];
    filters = rw is (record { answers = false ∷ []; complete = refl; run = (next, asked, (last, handed, refl)); left_is = refl });
    leaves = refl;
  }

  -- what is kept of items is left, with the header that stays
  pub items_stay : (header : Cell) (envelope : Envelope) (items left : Vec EnvelopeItem Global) (first last : F) (headers : EnvelopeHeaders)
      → envelope.contents ≡ variants.Items items → Filters ask hand items.items first last left.items → (left.items ≡ [] → ⊥) → headers_cell headers ≡ put_id (first_id_of left.items) header
      → FiltersEnvelope header ask hand envelope first last (Some (record { headers = headers; contents = variants.Items left }))
  items_stay header envelope items left first last headers is run some same = record {
    left = left.items;
    filters = rw is run;
    leaves = made_leaves envelope.contents items header envelope left.items _ is some (record { items_are = refl; header_is = same });
  }

  -- where each call says what a view of the state becomes, a run says it of all its calls
  module _ {S : Type 0} (view : F → S) (after : S → Call → S)
      (on_ask : (state : F) (item : EnvelopeItem) (answer : Bool) (next : F) → ask state item answer next → view next ≡ after (view state) (Ask item answer))
      (on_hand : (state : F) (item : EnvelopeItem) (next : F) → hand state item next → view next ≡ after (view state) (Hand item)) where
    pub Run-follows : (first : F) (calls : List Call) (last : F) → Run ask hand first calls last → view last ≡ fold after (view first) calls
    Run-follows first [] last run = ap view run
    Run-follows first (Ask item answer ∷ calls) last run = Run-follows run.0 calls last run.2 ∙ ap (λ (s : S). fold after s calls) (on_ask first item answer run.0 run.1)
    Run-follows first (Hand item ∷ calls) last run = Run-follows run.0 calls last run.2 ∙ ap (λ (s : S). fold after s calls) (on_hand first item run.0 run.1)
