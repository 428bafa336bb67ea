-- Spellings of values that a function reads from texts.
use Rattle.std.proofs.Common.{◌≡◌, ℕ, List, Option, Some, option_map, sym, ap, ◌∙◌, subst, IsUtf8}
use Rattle.std.proofs.NetLemmas.Options.{map_some}
use Rattle.sentry_tables.specs.Cell.{Cell}
use Rattle.sentry_tables.proofs.Spellings.{WordLaws}

-- `A`, which `of` reads and `to` writes, as cells, which `written` writes
module _ {A : Type 0} (of : List ℕ → Option A) (to : A → List ℕ) (Held : A → Type 0) (cell : A → Cell) (written : Cell → List ℕ) (Stored : Cell → Type 0) where
  -- what such values owe
  pub record ValueLaws : Type 0 where
    -- what is stored is the cell of a value, and what a value has is stored
    pub value : (c : Cell) → Stored c → (a : A) × Held a × (cell a ≡ c)
    pub stored : (a : A) → Held a → Stored (cell a)
    -- cells are written as their values are
    pub text : (a : A) → Held a → written (cell a) ≡ to a
    -- what is written is read, and nothing but values
    pub back : (a : A) → Held a → of (to a) ≡ Some a
    pub held : (s : List ℕ) (a : A) → of s ≡ Some a → Held a
    pub utf8 : (a : A) → Held a → IsUtf8 (to a)

  abbrev reads : List ℕ → Option Cell
  reads s = option_map cell (of s)

  module _ (own : ValueLaws) where
    back : (a : A) → Held a → reads (written (cell a)) ≡ Some (cell a)
    back a h = ap reads (own.text a h) ∙ ap (option_map cell) (own.back a h)

    utf8 : (a : A) → Held a → IsUtf8 (written (cell a))
    utf8 a h = subst IsUtf8 (sym (own.text a h)) (own.utf8 a h)

    pub value_laws : WordLaws reads written Stored
    value_laws = record {
      reads = λ c p. let v = own.value c p in subst (λ x. reads (written x) ≡ Some x) v.2 (back v.0 v.1);
      stored = λ s c u e. map_some cell (of s) c e (λ a is same. subst Stored same (own.stored a (own.held s a is)));
      utf8 = λ c p. let v = own.value c p in subst (λ x. IsUtf8 (written x)) v.2 (utf8 v.0 v.1);
    }

  -- ---- what a reader of the text answers

  pub value_refused : (s : List ℕ) → ((a : A) → of s ≡ Some a → ⊥) → (c : Cell) → reads s ≡ Some c → ⊥
  value_refused s none c e = map_some cell (of s) c e (λ a is same. none a is)
