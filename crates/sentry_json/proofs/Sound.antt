-- A tree is sound just where it is regular, has texts that are UTF-8, and has no float.
use Rattle.std.proofs.Common.{◌≡◌, ◌↔◌, false, pos, negsuc, refl}
use Rattle.std.proofs.lemmas.Bool.{or_parts, or_from}
use Rattle.serde_json.specs.Data.{Num, unsigned, negative, float, Data, null, boolean, number, string, array, object, Items, no_items, item, Members, no_members, member}
use Rattle.serde_json.specs.Find.{is_float}
use Rattle.serde_json.specs.Written.{has_float, items_have_float, members_have_float}
use Rattle.sentry_json.specs.Sound.{IsWholeNumber, IsSound, AreSound, MembersAreSound, IsRanged, IsRegular, AreRegular, MembersAreRegular, HasTexts, ItemsHaveTexts, MembersHaveTexts}

-- ---- from its parts

number_sound : (n : Num) → is_float n ≡ false → IsRanged n → IsWholeNumber n
number_sound (unsigned n) e h = h
number_sound (negative (pos n)) e h = h
number_sound (negative (negsuc n)) e h = h
number_sound (float x) e h = absurd (cc)

mutual
  pub regular_sound : (d : Data) → IsRegular d → has_float d ≡ false → HasTexts d → IsSound d
  regular_sound null r f t = tt
  regular_sound (boolean b) r f t = tt
  regular_sound (number n) r f t = number_sound n f r
  regular_sound (string s) r f t = t
  regular_sound (array ds) r f t = regular_items_sound ds r f t
  regular_sound (object ms) r f t = (r.0, regular_members_sound ms r.1 f t)

  regular_items_sound : (ds : Items) → AreRegular ds → items_have_float ds ≡ false → ItemsHaveTexts ds → AreSound ds
  regular_items_sound no_items r f t = tt
  regular_items_sound (item d ds) r f t = let p = or_parts (has_float d) _ f in (regular_sound d r.0 p.0 t.0, regular_items_sound ds r.1 p.1 t.1)

  regular_members_sound : (ms : Members) → MembersAreRegular ms → members_have_float ms ≡ false → MembersHaveTexts ms → MembersAreSound ms
  regular_members_sound no_members r f t = tt
  regular_members_sound (member k d ms) r f t = let p = or_parts (has_float d) _ f in (t.0, regular_sound d r.0 p.0 t.1, regular_members_sound ms r.1 p.1 t.2)

-- ---- to its parts

whole_is_ranged : (n : Num) → IsWholeNumber n → IsRanged n
whole_is_ranged (unsigned n) h = h
whole_is_ranged (negative (pos n)) h = h
whole_is_ranged (negative (negsuc n)) h = h
whole_is_ranged (float x) h = absurd h

mutual
  pub sound_regular : (d : Data) → IsSound d → IsRegular d
  sound_regular null h = tt
  sound_regular (boolean b) h = tt
  sound_regular (number n) h = whole_is_ranged n h
  sound_regular (string s) h = tt
  sound_regular (array ds) h = sound_items_regular ds h
  sound_regular (object ms) h = (h.0, sound_members_regular ms h.1)

  sound_items_regular : (ds : Items) → AreSound ds → AreRegular ds
  sound_items_regular no_items h = tt
  sound_items_regular (item d ds) h = (sound_regular d h.0, sound_items_regular ds h.1)

  sound_members_regular : (ms : Members) → MembersAreSound ms → MembersAreRegular ms
  sound_members_regular no_members h = tt
  sound_members_regular (member k d ms) h = (sound_regular d h.1, sound_members_regular ms h.2)

whole_is_no_float : (n : Num) → IsWholeNumber n → is_float n ≡ false
whole_is_no_float (unsigned n) h = refl
whole_is_no_float (negative z) h = refl
whole_is_no_float (float x) h = absurd h

mutual
  pub sound_without_float : (d : Data) → IsSound d → has_float d ≡ false
  sound_without_float null h = refl
  sound_without_float (boolean b) h = refl
  sound_without_float (number n) h = whole_is_no_float n h
  sound_without_float (string s) h = refl
  sound_without_float (array ds) h = sound_items_without_float ds h
  sound_without_float (object ms) h = sound_members_without_float ms h.1

  sound_items_without_float : (ds : Items) → AreSound ds → items_have_float ds ≡ false
  sound_items_without_float no_items h = refl
  sound_items_without_float (item d ds) h = or_from _ _ (sound_without_float d h.0) (sound_items_without_float ds h.1)

  sound_members_without_float : (ms : Members) → MembersAreSound ms → members_have_float ms ≡ false
  sound_members_without_float no_members h = refl
  sound_members_without_float (member k d ms) h = or_from _ _ (sound_without_float d h.1) (sound_members_without_float ms h.2)

mutual
  pub sound_texts : (d : Data) → IsSound d → HasTexts d
  sound_texts null h = tt
  sound_texts (boolean b) h = tt
  sound_texts (number n) h = tt
  sound_texts (string s) h = h
  sound_texts (array ds) h = sound_items_texts ds h
  sound_texts (object ms) h = sound_members_texts ms h.1

  sound_items_texts : (ds : Items) → AreSound ds → ItemsHaveTexts ds
  sound_items_texts no_items h = tt
  sound_items_texts (item d ds) h = (sound_texts d h.0, sound_items_texts ds h.1)

  sound_members_texts : (ms : Members) → MembersAreSound ms → MembersHaveTexts ms
  sound_members_texts no_members h = tt
  sound_members_texts (member k d ms) h = (h.0, sound_texts d h.1, sound_members_texts ms h.2)

pub sound_is : (d : Data) → IsSound d ↔ (IsRegular d × HasTexts d × (has_float d ≡ false))
sound_is d = (λ h. (sound_regular d h, sound_texts d h, sound_without_float d h), λ p. regular_sound d p.0 p.2 p.1)
