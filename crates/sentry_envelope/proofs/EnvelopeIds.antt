-- The id that items give their envelope: the normal form gives the same, and it may fill a header.
use Rattle.std.proofs.Common.{◌≡◌, ℕ, List, [], ◌∷◌, refl, sym, ap, ap₂, ◌∙◌, subst, arith}
use Rattle.serde_json.specs.Data.{depth}
use Rattle.sentry_tables.specs.Cell.{Cell, absent}
use Rattle.sentry_tables.specs.Kind.{Kind}
use Rattle.sentry_tables.specs.Norm.{norm}
use Rattle.sentry_tables.specs.Written.{tree}
use Rattle.sentry_tables.specs.Meets.{IsPlain, IsReadable, IsStored}
use Rattle.sentry_envelope.specs.Profile.{Form, attachment_form, opaque_form, json_form, container_form, ItemType, FillLaws, GivesAlike, GivesLawful, TypesAreLawful}
use Rattle.sentry_envelope.specs.Envelope.{Content, attached, opaque, value, Item, item, raw, given_as, given_at, or_else, first_id, content_norm, content_norm_at, items_norm, stored_content, plain_content, ContentMeets, ContentMeetsAt, ItemsMeet}
use Rattle.sentry_envelope.proofs.EnvelopeTypes.{type_met, meets_at, norm_is, given_is, lawful_at}

module _ (H : Kind) (fill : Cell → Cell → Cell) (unfilled : (h : Cell) → fill absent h ≡ h) where
  pub none_fills : FillLaws H fill absent
  none_fills = record {
    fill_stored = λ h s. subst (IsStored H) (sym (unfilled h)) s;
    fill_plain = λ h p. subst (IsPlain H) (sym (unfilled h)) p;
    fill_readable = λ h r. subst (IsReadable H) (sym (unfilled h)) r;
    fill_twice = λ h. unfilled (fill absent h);
    fill_norm = λ h s p. ap (norm H) (unfilled h) ∙ sym (unfilled (norm H h));
    fill_tree = λ h s p e. ap (tree H) (unfilled h) ∙ e ∙ sym (ap (tree H) (unfilled (norm H h)));
    fill_depth = λ h s. let e = ap (λ x. depth (tree H x)) (unfilled h) in omega arith;
  }

  -- of types that give no id
  pub none_given : (K : Kind) → GivesAlike H fill (λ c. absent) K
  none_given K c s p = (refl, none_fills)

  either_fills : (a b : Cell) → FillLaws H fill a → FillLaws H fill b → FillLaws H fill (or_else a b)
  either_fills absent b p q = q
  either_fills _ b p q = p

  -- an id that is given alike, and may fill headers
  abbrev GivenAlike : Cell → Cell → Type 0
  GivenAlike new old = (new ≡ old) × FillLaws H fill old

  content_gives : (gives : Cell → Cell) (f : Form) (c : Content) → GivesLawful H fill gives f → ContentMeets stored_content f c → ContentMeets plain_content f c
      → GivenAlike (given_as gives (content_norm f c)) (given_as gives c)
  content_gives gives attachment_form (attached a) laws s p = (refl, none_fills)
  content_gives gives attachment_form _ laws s p = absurd s
  content_gives gives opaque_form (opaque b) laws s p = (refl, none_fills)
  content_gives gives opaque_form _ laws s p = absurd s
  content_gives gives (json_form K) (value c) laws s p = laws c s p
  content_gives gives (json_form K) _ laws s p = absurd s
  content_gives gives (container_form content_type K) (value c) laws s p = laws c s p
  content_gives gives (container_form content_type K) _ laws s p = absurd s

  module _ (ts : List ItemType) (laws : TypesAreLawful H fill ts) where
    item_gives : (n : ℕ) (c : Content) → ContentMeetsAt stored_content ts n c → ContentMeetsAt plain_content ts n c → GivenAlike (given_at ts n (content_norm_at ts n c)) (given_at ts n c)
    item_gives n c s p =
        let (t, at) = type_met stored_content ts n c s in
        let own = lawful_at at H fill laws in
        let here = content_gives t.gives t.form c own.gives (subst (λ X. X) (meets_at at stored_content c) s) (subst (λ X. X) (meets_at at plain_content c) p) in
        (given_is at (content_norm_at ts n c) ∙ ap (given_as t.gives) (norm_is at c) ∙ here.0 ∙ sym (given_is at c), subst (FillLaws H fill) (sym (given_is at c)) here.1)

    pub ids_alike : (items : List Item) → ItemsMeet stored_content ts items → ItemsMeet plain_content ts items → GivenAlike (first_id ts (items_norm ts items)) (first_id ts items)
    ids_alike [] s p = (refl, none_fills)
    ids_alike (item n c ∷ items) s p =
        let here = item_gives n c s.0 p.0 in
        let more = ids_alike items s.1 p.1 in
        (ap₂ or_else here.0 more.0, either_fills (given_at ts n c) (first_id ts items) here.1 more.1)
    ids_alike (raw ∷ items) s p = ids_alike items s p
