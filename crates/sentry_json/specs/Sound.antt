-- Sound trees, which are what a line of JSON can be read as: texts are UTF-8, numbers are whole and
-- fit 64 bits, and each object has its keys in order. The parts of that stand alone too:
-- `IsRegular` holds of each tree that is read, and `HasTexts` of each that is read of UTF-8.
use Rattle.std.specs.Prelude.{◌≡◌, ℕ, ◌<◌, ◌^◌, pos, negsuc, List, ⊤, IsUtf8}
use Rattle.std.specs.declared.cmp.Ordering.TheVariants.{Less}
use Rattle.std.specs.Ordering.{nat_cmp}
use Rattle.std.specs.Cmp.Lexicographic.{slice_cmp}
use Rattle.serde_json.specs.Data.{Num, unsigned, negative, float, Data, null, boolean, number, string, array, object, Items, no_items, item, Members, no_members, member}

-- a whole number that 64 bits hold: from 0 as unsigned, and below 0 as negative
abbrev pub IsWholeNumber : Num → Type 0
IsWholeNumber (unsigned n) = n < 2 ^ 64
IsWholeNumber (negative (pos n)) = ⊥
IsWholeNumber (negative (negsuc n)) = n < 2 ^ 63
IsWholeNumber (float x) = ⊥

-- each key comes after k, byte by byte
abbrev pub AllAfter : List ℕ → Members → Type 0
AllAfter k no_members = ⊤
AllAfter k (member l d ms) = (slice_cmp nat_cmp k l ≡ Less) × AllAfter k ms

-- the keys are in order, byte by byte, so no two are equal
abbrev pub IsOrdered : Members → Type 0
IsOrdered no_members = ⊤
IsOrdered (member k d ms) = AllAfter k ms × IsOrdered ms

-- at any depth: texts and keys are UTF-8, numbers are whole, and each object has its keys in order
abbrev mutual
  pub IsSound : Data → Type 0
  IsSound null = ⊤
  IsSound (boolean b) = ⊤
  IsSound (number n) = IsWholeNumber n
  IsSound (string s) = IsUtf8 s
  IsSound (array ds) = AreSound ds
  IsSound (object ms) = IsOrdered ms × MembersAreSound ms

  pub AreSound : Items → Type 0
  AreSound no_items = ⊤
  AreSound (item d ds) = IsSound d × AreSound ds

  pub MembersAreSound : Members → Type 0
  MembersAreSound no_members = ⊤
  MembersAreSound (member k d ms) = IsUtf8 k × IsSound d × MembersAreSound ms

-- ---- the parts

-- where it is a whole number, 64 bits hold it
abbrev pub IsRanged : Num → Type 0
IsRanged (unsigned n) = n < 2 ^ 64
IsRanged (negative (pos n)) = ⊥
IsRanged (negative (negsuc n)) = n < 2 ^ 63
IsRanged (float x) = ⊤

-- at any depth: whole numbers fit 64 bits, and each object has its keys in order
abbrev mutual
  pub IsRegular : Data → Type 0
  IsRegular null = ⊤
  IsRegular (boolean b) = ⊤
  IsRegular (number n) = IsRanged n
  IsRegular (string s) = ⊤
  IsRegular (array ds) = AreRegular ds
  IsRegular (object ms) = IsOrdered ms × MembersAreRegular ms

  pub AreRegular : Items → Type 0
  AreRegular no_items = ⊤
  AreRegular (item d ds) = IsRegular d × AreRegular ds

  pub MembersAreRegular : Members → Type 0
  MembersAreRegular no_members = ⊤
  MembersAreRegular (member k d ms) = IsRegular d × MembersAreRegular ms

-- at any depth: texts and keys are UTF-8
abbrev mutual
  pub HasTexts : Data → Type 0
  HasTexts null = ⊤
  HasTexts (boolean b) = ⊤
  HasTexts (number n) = ⊤
  HasTexts (string s) = IsUtf8 s
  HasTexts (array ds) = ItemsHaveTexts ds
  HasTexts (object ms) = MembersHaveTexts ms

  pub ItemsHaveTexts : Items → Type 0
  ItemsHaveTexts no_items = ⊤
  ItemsHaveTexts (item d ds) = HasTexts d × ItemsHaveTexts ds

  pub MembersHaveTexts : Members → Type 0
  MembersHaveTexts no_members = ⊤
  MembersHaveTexts (member k d ms) = IsUtf8 k × HasTexts d × MembersHaveTexts ms
