-- How lines and pages are put together.
use Rattle.std.proofs.Common.{◌≡◌, ◌<◌, ◌≤◌, ◌+◌, Bool, true, false, ℕ, List, ◌∷◌, [], ◌++◌, sum_by, flat_map, encode_utf8_all, encode_utf8, refl, sym, ◌∙◌, ap, subst, arith, append-nil, append_assoc, add-zero, ◌-◌, inl, inr}
use Rattle.std.proofs.lemmas.Str.{encodes-append}
use Rattle.std.proofs.lemmas.List.Concat.{flat_map-append}
use Rattle.std.proofs.lemmas.List.Elements.{All-nil, All-cons, All-append}
use Rattle.std.proofs.lemmas.List.Sums.{sum_by-append}
use Rattle.std.specs.List.{All}
use Rattle.sentry_show.specs.declared.screen.Tone.{Tone}
use Rattle.sentry_show.specs.Screen.{IsVisible, IsLine, IsPage, IsPrinted, PushesLine, columns_of, line_feed, reset, tone_text}

-- nothing is pushed
pub pushes_nothing : (most : ℕ) (old : List ℕ) → PushesLine most 0 old old
pushes_nothing most old = record {
  line = [];
  is_line = record { visible = All-nil IsVisible; fits = omega arith };
  columns_are = refl;
  behind = sym (append-nil old);
}

-- one character is pushed
pub pushes_one : (most c columns : ℕ) (old : List ℕ) → IsVisible c → columns_of c ≡ columns → columns ≤ most → PushesLine most columns old (old ++ encode_utf8 c)
pushes_one most c columns old visible e fits = record {
  line = c ∷ [];
  is_line = record { visible = All-cons IsVisible c [] visible (All-nil IsVisible); fits = omega (arith, e, fits) };
  columns_are = omega (arith, e);
  behind = ap (λ x. old ++ x) (sym (append-nil (encode_utf8 c)));
}

-- the same line with more room
pub pushes_within : (most room columns : ℕ) (old new : List ℕ) → PushesLine room columns old new → room ≤ most → PushesLine most columns old new
pushes_within most room columns old new p fits = record {
  line = p.line;
  is_line = record { visible = p.is_line.visible; fits = omega (arith, p.is_line.fits, fits) };
  columns_are = p.columns_are;
  behind = p.behind;
}

-- one line is pushed behind another
pub pushes_more : (most room m n : ℕ) (old mid new : List ℕ) → PushesLine most m old mid → PushesLine room n mid new → m + n ≤ most → PushesLine most (m + n) old new
pushes_more most room m n old mid new p q fits =
    let sums : sum_by columns_of (p.line ++ q.line) ≡ m + n = sum_by-append columns_of p.line q.line ∙ ap (λ x. x + sum_by columns_of q.line) p.columns_are ∙ ap (λ x. m + x) q.columns_are in
    record {
      line = p.line ++ q.line;
      is_line = record { visible = All-append IsVisible p.line q.line p.is_line.visible q.is_line.visible; fits = omega (arith, sums, fits) };
      columns_are = sums;
      behind = q.behind ∙ ap (λ x. x ++ encode_utf8_all q.line) p.behind ∙ append_assoc old (encode_utf8_all p.line) (encode_utf8_all q.line) ∙ ap (λ x. old ++ x) (sym (encodes-append p.line q.line));
    }

-- the columns that are pushed are those that were left and are no more
pub pushes_step : (room left taken : ℕ) (old mid new : List ℕ) → left ≤ room → PushesLine room (room - left) old mid → PushesLine left taken mid new → PushesLine room (room - (left - taken)) old new
pushes_step room left taken old mid new h p q =
    let fits : taken ≤ left = omega (arith, q.is_line.fits, q.columns_are) in
    let same : room - left + taken ≡ room - (left - taken) = omega (arith, h, fits) in
    subst (λ n. PushesLine room n old new) same (pushes_more room left (room - left) taken old mid new p q (omega (arith, h, fits)))

pub pushes_end : (room left : ℕ) (old mid new : List ℕ) → left ≤ room → PushesLine room (room - left) old mid → PushesLine left 0 mid new → PushesLine room (room - left) old new
pushes_end room left old mid new h p q = subst (λ n. PushesLine room n old new) (add-zero (room - left)) (pushes_more room left (room - left) 0 old mid new p q (omega (arith, h)))

-- a line that leaves a column, and what fits behind it
pub pushes_cut : (most taken cut : ℕ) (old mid new : List ℕ) → PushesLine (most - 1) taken old mid → PushesLine (most - taken) cut mid new → PushesLine most (taken + cut) old new
pushes_cut most taken cut old mid new p q =
    let first : taken ≤ most = omega (arith, p.is_line.fits, p.columns_are) in
    let both : taken + cut ≤ most = omega (arith, first, q.is_line.fits, q.columns_are) in
    pushes_more most (most - taken) taken cut old mid new (pushes_within most (most - 1) taken old mid p (omega arith)) q both

-- ---- pages

pub printed_plain : (colors : Bool) (most columns : ℕ) (text : List ℕ) → PushesLine most columns [] text → IsPrinted colors most text
printed_plain colors most columns text p = record { line = p.line; is_line = p.is_line; spelled = inl p.behind }

pub printed_in_tone : (tone : Tone) (most columns : ℕ) (before text : List ℕ) → before ≡ tone_text tone → PushesLine most columns before text → IsPrinted true most (text ++ reset)
printed_in_tone tone most columns before text same p = record {
  line = p.line;
  is_line = p.is_line;
  spelled = inr (refl, (tone, ap (λ x. x ++ reset) (p.behind ∙ ap (λ x. x ++ encode_utf8_all p.line) same)));
}

pub page_without_lines : (colors : Bool) (most : ℕ) → IsPage colors most []
page_without_lines colors most = record { lines = []; each = All-nil (IsPrinted colors most); spelled = refl }

-- a page, and a line behind it
pub page_and_line : (colors : Bool) (most : ℕ) (text line : List ℕ) → IsPage colors most text → IsPrinted colors most line → IsPage colors most (text ++ (line ++ line_feed))
page_and_line colors most text line p printed = record {
  lines = p.lines ++ line ∷ [];
  each = All-append (IsPrinted colors most) p.lines (line ∷ []) p.each (All-cons (IsPrinted colors most) line [] printed (All-nil (IsPrinted colors most)));
  spelled =
      ap (λ t. t ++ (line ++ line_feed)) p.spelled
      ∙ ap (λ t. flat_map (λ l. l ++ line_feed) p.lines ++ t) (sym (append-nil (line ++ line_feed)))
      ∙ sym (flat_map-append (λ l. l ++ line_feed) p.lines (line ∷ []));
}
