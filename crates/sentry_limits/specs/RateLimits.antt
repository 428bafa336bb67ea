-- Rate limits by category: what a header states, and when each limit ends.
use Rattle.std.specs.Prelude.{◌≡◌, ℕ, ◌+◌, ◌==◌, max, Bool, List, [], ◌∷◌, length, Option, Some, None, option_map, slice_index, if◌then◌else◌}
use Rattle.std.specs.List.{AllZip, after_first, before_first, filter_map, list_any, slice_split}
use Rattle.std.specs.Str.{trim}
use Rattle.sentry_moments.specs.declared.moment.Moment.{Moment}
use Rattle.sentry_reports.specs.Categories.{category_index, category_of}
use Rattle.sentry_reports.specs.declared.category.Category.{Category}
use Rattle.sentry_reports.specs.declared.category.Category.TheVariants as category
use Rattle.sentry_limits.specs.RetryAfter.{IsRetryAfter, RetriesAt, end_after}
use Rattle.sentry_limits.specs.declared.rate_limits.RateLimits.{RateLimits}

-- ---- ends

-- the place of the end of a category's limit; `None` stands for all categories
abbrev pub place : Option Category → ℕ
place None = 0
place (Some c) = category_index c + 1

-- the second since 1970 in which the limit of this name ends; 0 where there is none
abbrev pub end_of : RateLimits → Option Category → ℕ
end_of limits name = slice_index limits.ends (place name)

-- the second until which a category is limited, by its own limit or by that of all
abbrev pub category_end : RateLimits → Category → ℕ
category_end limits c = max (end_of limits None) (end_of limits (Some c))

-- The second until which items are limited whose type has this category, if it has one: logs and
-- metrics also by their bytes.
abbrev pub item_end : RateLimits → Option Category → ℕ
item_end limits None = end_of limits None
item_end limits (Some category.LogItem) = max (category_end limits category.LogItem) (category_end limits category.LogByte)
item_end limits (Some category.TraceMetric) = max (category_end limits category.TraceMetric) (category_end limits category.TraceMetricByte)
item_end limits (Some c) = category_end limits c

-- ---- a header

abbrev pub comma : ℕ
comma = 44

abbrev pub colon : ℕ
colon = 58

abbrev pub semicolon : ℕ
semicolon = 59

-- how long a limit holds, and the categories that it names: `None` names all
pub record Limit : Type 0 where
  pub seconds : ℕ
  pub names : List (Option Category)

-- the text before the first colon, without white space around it, and that between the first two
abbrev pub first_part : List ℕ → List ℕ
first_part text = trim (before_first (λ b. b == colon) text)

abbrev pub second_part : List ℕ → List ℕ
second_part text = trim (before_first (λ b. b == colon) (after_first (λ b. b == colon) text))

-- the category of a word, without white space around it
abbrev pub name_of : List ℕ → Option (Option Category)
name_of word = option_map Some (category_of (trim word))

-- the known categories of a list with semicolons between them
abbrev pub listed : List ℕ → List (Option Category)
listed words = filter_map name_of (slice_split (λ b. b == semicolon) words)

-- an empty list names all categories
abbrev pub names_of_list : List ℕ → List (Option Category)
names_of_list words = if length words == 0 then None ∷ [] else listed words

-- a blank text is no limit, and names none
abbrev pub names_of : List ℕ → List (Option Category)
names_of text = if length (trim text) == 0 then [] else names_of_list (second_part text)

-- The text is a limit: seconds, a colon, a list of categories, and what stands behind another colon
-- and isn't read.
pub record IsLimit (text : List ℕ) (limit : Limit) : Type 0 where
  pub seconds : IsRetryAfter (first_part text) limit.seconds
  pub names : limit.names ≡ names_of text

abbrev pub is_named : Option Category → List (Option Category) → Bool
is_named name names = list_any (λ n. place n == place name) names

-- an end that is held, and a new one for all of these names: the later one counts
abbrev pub raised : Option Category → List (Option Category) → ℕ → ℕ → ℕ
raised name names end held = if is_named name names then max held end else held

-- the latest of the end that is held and those of the limits that have this name
abbrev pub latest : Moment → Option Category → List Limit → ℕ → ℕ
latest now name [] held = held
latest now name (limit ∷ limits) held = latest now name limits (raised name limit.names (end_after now limit.seconds) held)

-- these limits are held beside the old ones
pub record AreHeld (texts : List (List ℕ)) (now : Moment) (old new : RateLimits) : Type 0 where
  pub limits : List Limit
  pub stated : AllZip IsLimit texts limits
  pub ends : (name : Option Category) → end_of new name ≡ latest now name limits (end_of old name)

-- the limits of a header with commas between them
abbrev pub IsUpdated : List ℕ → Moment → RateLimits → RateLimits → Type 0
IsUpdated header now old new = AreHeld (slice_split (λ b. b == comma) header) now old new

-- all categories are limited by a `Retry-After` of this value, and nothing else changes
pub record IsHeldBack (text : List ℕ) (now : Moment) (old new : RateLimits) : Type 0 where
  pub end : ℕ
  pub stated : RetriesAt now (trim text) end
  pub ends : (name : Option Category) → end_of new name ≡ raised name (None ∷ []) end (end_of old name)
