-- Each law holds of each lawful kind.
use Rattle.std.proofs.Common.{◌≡◌, ◌⊎◌, ℕ, List, Option, Some, None, inl, inr, refl, sym, ap, ◌∙◌, subst}
use Rattle.std.proofs.lemmas.Option.{none-some, same_Some}
use Rattle.serde_json.specs.Data.{Data}
use Rattle.serde_json.specs.Written.{compact_text}
use Rattle.sentry_json.specs.Line.{tree_of}
use Rattle.sentry_json.proofs.Lines.{tree_of_written, tree_of_sound}
use Rattle.sentry_json.proofs.ReadBack.{one_tree}
use Rattle.sentry_tables.specs.Cell.{Cell, moment}
use Rattle.sentry_tables.specs.Kind.{Kind}
use Rattle.sentry_tables.specs.Shows.{Shows}
use Rattle.sentry_tables.specs.Norm.{norm}
use Rattle.sentry_tables.specs.Written.{tree}
use Rattle.sentry_tables.specs.Meets.{IsReadable, IsProper}
use Rattle.sentry_tables.specs.Lawful.{IsLawful}
use Rattle.sentry_tables.specs.Drawn.{NothingDrawn}
use Rattle.sentry_tables.specs.Laws.{ReadsBack, IsStable, HasOneForm, IsRewritten, IsDecided, IsTimeless, IsWritten, ShowsOne, WrittenDrawsNothing, ShownReadable, TextShows, ReadsBackText, HasOneText, IsRewrittenText, IsDecidedText, IsTimelessText, TextShowsOne, TextDrawsNothing, TextShownReadable, HasLaws}
use Rattle.sentry_tables.proofs.Proper.{proper, proper_stored, proper_plain}
use Rattle.sentry_tables.proofs.Back.{back}
use Rattle.sentry_tables.proofs.Single.{single}
use Rattle.sentry_tables.proofs.DrawnWritten.{written_drawn}
use Rattle.sentry_tables.proofs.Normal.{again, proper_norm, readable_norm}
use Rattle.sentry_tables.proofs.Depth.{depth_norm}
use Rattle.sentry_tables.proofs.Shown.{shown_proper, shown_readable}
use Rattle.sentry_tables.proofs.Sound.{sound_tree}
use Rattle.sentry_tables.proofs.Rewritten.{rewritten}
use Rattle.sentry_tables.proofs.Decide.{decided}
use Rattle.sentry_tables.proofs.Timeless.{timeless}

-- ---- of trees

-- nothing is drawn of what is written, so that it shows the normal form alone
only : (K : Kind) → IsLawful K → (now c x : Cell) → IsProper K c → IsReadable K c → Shows K now (tree K c) x → x ≡ norm K c
only K laws now c x own r h = single now K laws (tree K c) x (norm K c) (written_drawn K laws c own) h (back now K laws c own r)

pub reads_back : (K : Kind) → IsLawful K → ReadsBack K
reads_back K laws c now s p r = let own = proper K c s p in (back now K laws c own r, λ x h. only K laws now c x own r h)

pub is_stable : (K : Kind) → IsLawful K → IsStable K
is_stable K laws c s p =
    let own = proper K c s p in
    let kept = proper_norm K laws c own in
    record { again = again K laws c own; stored = proper_stored K (norm K c) kept; plain = proper_plain K (norm K c) kept; readable = λ r. readable_norm K laws c own r; depth = depth_norm K laws c own }

-- the moment doesn't matter
alike : (K : Kind) → IsLawful K → (a b : Cell) → IsProper K a → IsReadable K a → IsProper K b → IsReadable K b → tree K (norm K a) ≡ tree K (norm K b) → norm K a ≡ norm K b
alike K laws a b p q r s e =
    let now : Cell = moment 0 0 in
    let m = norm K a in
    let n = norm K b in
    let shown : Shows K now (tree K m) (norm K m) = back now K laws m (proper_norm K laws a p) (readable_norm K laws a p q) in
    let same : norm K m ≡ norm K n = only K laws now n (norm K m) (proper_norm K laws b r) (readable_norm K laws b r s) (subst (λ d. Shows K now d (norm K m)) e shown) in
    sym (again K laws a p) ∙ same ∙ again K laws b r

pub has_one_form : (K : Kind) → IsLawful K → HasOneForm K
has_one_form K laws a b sa pa ra sb pb rb = ((λ e. ap (tree K) e), alike K laws a b (proper K a sa pa) ra (proper K b sb pb) rb)

pub is_rewritten : (K : Kind) → IsLawful K → IsRewritten K
is_rewritten K laws d c now sound real h = let own = shown_proper now real K laws d c sound h in (proper_stored K c own, proper_plain K c own, rewritten now real K laws d c sound h)

pub is_decided : (K : Kind) → IsLawful K → IsDecided K
is_decided K laws d now = decided now K laws d

pub is_timeless : (K : Kind) → IsTimeless K
is_timeless K d now later c h = timeless now later K d c h

pub is_written : (K : Kind) → IsLawful K → IsWritten K
is_written K laws c s p = sound_tree K laws c (proper K c s p)

pub shows_one : (K : Kind) → IsLawful K → ShowsOne K
shows_one K laws now = single now K laws

pub written_draws_nothing : (K : Kind) → IsLawful K → WrittenDrawsNothing K
written_draws_nothing K laws c s p = written_drawn K laws c (proper K c s p)

pub is_shown_readable : (K : Kind) → IsLawful K → ShownReadable K
is_shown_readable K laws d c now sound real h = shown_readable now real K laws d c sound h

-- ---- of lines of text

pub reads_back_text : (K : Kind) → IsLawful K → ReadsBackText K
reads_back_text K laws c now s p r shallow =
    let d = tree K c in
    let read = tree_of_written d (is_written K laws c s p) shallow in
    let shown = reads_back K laws c now s p r in
    ((d, read, shown.0), λ x h. shown.1 x (subst (λ e. Shows K now e x) (same_Some h.0 d (sym h.1 ∙ read)) h.2))

pub has_one_text : (K : Kind) → IsLawful K → HasOneText K
has_one_text K laws a b sa pa ra sb pb rb =
    let own = proper K a sa pa in
    let other = proper K b sb pb in (
      (λ e. ap (λ c. compact_text (tree K c)) e),
      (λ e. alike K laws a b own ra other rb (one_tree (tree K (norm K a)) (tree K (norm K b)) (sound_tree K laws (norm K a) (proper_norm K laws a own)) (sound_tree K laws (norm K b) (proper_norm K laws b other)) e)),
    )

pub is_rewritten_text : (K : Kind) → IsLawful K → IsRewrittenText K
is_rewritten_text K laws line c now real h = is_rewritten K laws h.0 c now (tree_of_sound line h.0 h.1) real h.2

found_or_none : (K : Kind) (now : Cell) (line : List ℕ) (o : Option Data) → tree_of line ≡ o → ((d : Data) → ((c : Cell) × Shows K now d c) ⊎ ((c : Cell) → Shows K now d c → ⊥))
    → ((c : Cell) × TextShows K now line c) ⊎ ((c : Cell) → TextShows K now line c → ⊥)
found_or_none K now line None is each = inr (λ c h. none-some h.0 (sym is ∙ h.1))
found_or_none K now line (Some d) is each = go (each d)
  where
    go : ((c : Cell) × Shows K now d c) ⊎ ((c : Cell) → Shows K now d c → ⊥) → ((c : Cell) × TextShows K now line c) ⊎ ((c : Cell) → TextShows K now line c → ⊥)
    go (inl one) = inl (one.0, (d, is, one.1))
    go (inr none) = inr (λ c h. none c (subst (λ e. Shows K now e c) (same_Some h.0 d (sym h.1 ∙ is)) h.2))

pub is_decided_text : (K : Kind) → IsLawful K → IsDecidedText K
is_decided_text K laws line now = found_or_none K now line (tree_of line) refl (λ d. is_decided K laws d now)

pub is_timeless_text : (K : Kind) → IsTimelessText K
is_timeless_text K line now later c h = let one = is_timeless K h.0 now later c h.2 in (one.0, (h.0, h.1, one.1))

pub text_shows_one : (K : Kind) → IsLawful K → TextShowsOne K
text_shows_one K laws now line c x q (d, tree, h) (e, other, k) = single now K laws d c x (q d tree) h (subst (λ t. Shows K now t x) (same_Some e d (sym other ∙ tree)) k)

pub text_draws_nothing : (K : Kind) → IsLawful K → TextDrawsNothing K
text_draws_nothing K laws c s p shallow d read =
    let written = tree_of_written (tree K c) (is_written K laws c s p) shallow in
    subst (NothingDrawn K) (same_Some (tree K c) d (sym written ∙ read)) (written_draws_nothing K laws c s p)

pub is_text_shown_readable : (K : Kind) → IsLawful K → TextShownReadable K
is_text_shown_readable K laws line c now real h = is_shown_readable K laws h.0 c now (tree_of_sound line h.0 h.1) real h.2

-- ---- all of them

pub has_laws : (K : Kind) → IsLawful K → HasLaws K
has_laws K laws = record {
  back = reads_back K laws;
  stable = is_stable K laws;
  one_form = has_one_form K laws;
  rewritten = is_rewritten K laws;
  decided = is_decided K laws;
  timeless = is_timeless K;
  written = is_written K laws;
  single = shows_one K laws;
  undrawn = written_draws_nothing K laws;
  shown_readable = is_shown_readable K laws;
  text_back = reads_back_text K laws;
  one_text = has_one_text K laws;
  text_rewritten = is_rewritten_text K laws;
  text_decided = is_decided_text K laws;
  text_timeless = is_timeless_text K;
  text_single = text_shows_one K laws;
  text_undrawn = text_draws_nothing K laws;
  text_shown_readable = is_text_shown_readable K laws;
}
