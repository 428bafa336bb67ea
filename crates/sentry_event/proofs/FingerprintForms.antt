-- What readers and writers of fingerprints answer.
use Rattle.std.proofs.Common.{◌≡◌, ℕ, List, [], ◌∷◌, codes, Bool, true, false, cond, refl, sym, ap, ◌∙◌, length, Global, Result, Ok, Err, true≢false}
use Rattle.std.specs.Prelude.{◌&&◌, ◌==◌, OnOk, IfOk}
use Rattle.std.specs.declared.borrow.CowStr.{CowStr}
use Rattle.json.specs.Token.{Token}
use Rattle.json.specs.Written.{Written, Writes}
use Rattle.serde_json.specs.Data.{Data, string, array, item, no_items}
use Rattle.serde_json.specs.View.{view, items_view}
use Rattle.serde_json.specs.declared.value.Value.{Value}
use Rattle.sentry_tables.specs.Cell.{Cell, sequence, Cells, same_cell}
use Rattle.sentry_tables.specs.Norm.{norm}
use Rattle.sentry_tables.specs.Made.{made}
use Rattle.sentry_tables.specs.Reading.{Reads, Shown, Refused}
use Rattle.sentry_tables.specs.Writes.{written, WritesTree}
use Rattle.sentry_tables.specs.declared.error.TreeError.{TreeError}
use Rattle.sentry_tables.specs.declared.error.TreeError.TheVariants.{Misfit, Memory}
use Rattle.sentry_tables.specs.declared.way.Way.{Way}
use Rattle.sentry_tables.specs.declared.way.Way.TheVariants.{Same, Normal}
use Rattle.sentry_tables.specs.WrittenAs.{any_moment}
use Rattle.sentry_tables.proofs.Tokens.{array_wrote, items_wrote, no_items_wrote, string_wrote}
use Rattle.sentry_event.specs.Fingerprints.{one_text, usual_fingerprint, fingerprint_form, fingerprint_kind, fingerprint_cell}
use Rattle.sentry_event.proofs.FingerprintLaws.{texts, is_other, cells_normal}

-- ---- lists of one text

and_false : (b : Bool) → false ≡ b && false
and_false true = refl
and_false false = refl

pub not_one : (ts : List (CowStr Global)) (x : CowStr Global) (xs : List (CowStr Global)) (t : List ℕ) (b : Bool) → ts ≡ x ∷ xs → b ≡ (length xs == 0) → b ≡ false → b ≡ same_cell (fingerprint_cell ts) (one_text t)
not_one ts x [] t b is e f = absurd (true≢false (sym e ∙ f))
not_one ts x (y ∷ ys) t b is e f = f ∙ rw is (and_false _)

-- ---- written

pub usual_tree_is : (d : Data) (vs : List Value) (v : Value) → d ≡ array (items_view vs) → vs ≡ v ∷ [] → view v ≡ string (codes "{{ default }}") → d ≡ written texts usual_fingerprint
unfolding written
usual_tree_is d vs v is made s = is ∙ rw (made, s) refl

pub usual_wrote : {E F : Type 0} (r : Result (Unit {0}) E) (a b c d : Written) → Writes {E = F} (Ok tt) a b Token.begin_array → Writes {E = F} (Ok tt) b c (Token.string (codes "{{ default }}")) → Writes r c d Token.end_array → OnOk r (WritesTree (written texts usual_fingerprint) a d)
unfolding written
usual_wrote r a b c d x y z =
    array_wrote (item (string (codes "{{ default }}")) no_items) r a b c d x (items_wrote (string (codes "{{ default }}")) no_items b c c (string_wrote (codes "{{ default }}") (Ok tt) b c y) (no_items_wrote c)) z

form_usual : (c : Cell) → is_other c ≡ true → written texts usual_fingerprint ≡ written fingerprint_kind c
unfolding written fingerprint_kind
form_usual c e = rw e refl

form_same : (c : Cell) → is_other c ≡ false → written texts c ≡ written fingerprint_kind c
unfolding written fingerprint_kind
form_same c e = rw e refl

pub tree_usual : {E : Type 0} (c : Cell) (r : Result Value E) → is_other c ≡ true → IfOk r (λ t. view t ≡ written texts usual_fingerprint) → IfOk r (λ t. view t ≡ written fingerprint_kind c)
tree_usual c (Ok t) e h = h ∙ form_usual c e
tree_usual c (Err x) e h = h

pub tree_same : {E : Type 0} (c : Cell) (r : Result Value E) → is_other c ≡ false → IfOk r (λ t. view t ≡ written texts c) → IfOk r (λ t. view t ≡ written fingerprint_kind c)
tree_same c (Ok t) e h = h ∙ form_same c e
tree_same c (Err x) e h = h

pub wrote_usual : {E : Type 0} (c : Cell) (r : Result (Unit {0}) E) (a b : Written) → is_other c ≡ true → OnOk r (WritesTree (written texts usual_fingerprint) a b) → OnOk r (WritesTree (written fingerprint_kind c) a b)
wrote_usual c r a b e h = rw (form_usual c e) at h

pub wrote_same : {E : Type 0} (c : Cell) (r : Result (Unit {0}) E) (a b : Written) → is_other c ≡ false → OnOk r (WritesTree (written texts c) a b) → OnOk r (WritesTree (written fingerprint_kind c) a b)
wrote_same c r a b e h = rw (form_same c e) at h

-- ---- left out

abbrev is_usual : Cell → Bool
is_usual c = same_cell c usual_fingerprint

norm_is : (cs : Cells) → norm fingerprint_kind (sequence cs) ≡ norm texts (fingerprint_form (sequence cs))
unfolding fingerprint_kind
norm_is cs = refl

usual_at : (cs : Cells) (b : Bool) → is_other (sequence cs) ≡ b → same_cell (norm texts (cond b usual_fingerprint (sequence cs))) usual_fingerprint ≡ cond b true (is_usual (sequence cs))
usual_at cs true e = refl
usual_at cs false e = ap (λ xs. is_usual (sequence xs)) (cells_normal cs)

usual_is : (cs : Cells) → same_cell (norm fingerprint_kind (sequence cs)) usual_fingerprint ≡ cond (is_other (sequence cs)) true (is_usual (sequence cs))
usual_is cs = ap is_usual (norm_is cs) ∙ usual_at cs (is_other (sequence cs)) refl

either : (b : Bool) → true ≡ cond b true true
either true = refl
either false = refl

pub is_the_usual : (cs : Cells) (b : Bool) → b ≡ is_usual (sequence cs) → b ≡ true → b ≡ same_cell (norm fingerprint_kind (sequence cs)) usual_fingerprint
is_the_usual cs b e f = f ∙ rw (usual_is cs, ← e, f) (either (is_other (sequence cs)))

other_or : (b : Bool) → b ≡ cond b true false
other_or true = refl
other_or false = refl

pub may_be_other : (cs : Cells) (b x : Bool) → b ≡ is_usual (sequence cs) → b ≡ false → x ≡ is_other (sequence cs) → x ≡ same_cell (norm fingerprint_kind (sequence cs)) usual_fingerprint
may_be_other cs b x e f g = rw (usual_is cs, ← e, f) (g ∙ other_or (is_other (sequence cs)))

-- ---- read

pub fingerprint_read : {A : Type 0} (f : A → Cell) (d : Data) (r : Result A TreeError) → Reads texts f d r → Reads fingerprint_kind f d r
unfolding fingerprint_kind Shown Refused
fingerprint_read f d (Ok v) h = λ now. h any_moment
fingerprint_read f d (Err Misfit) h = λ now c s. h any_moment c s
fingerprint_read f d (Err Memory) h = tt

-- ---- made anew

pub remake_same : {A E : Type 0} (f : A → Cell) (way : Way) (c : Cell) (r : Result A E) → way ≡ Same → IfOk r (λ v. f v ≡ c) → IfOk r (λ v. f v ≡ made way fingerprint_kind c)
unfolding made
remake_same f Same c (Ok v) e h = h
remake_same f Same c (Err x) e h = h
remake_same f (Normal alloc) c r e h = absurd cc

pub remake_usual : {alloc : Global} {A E : Type 0} (f : A → Cell) (way : Way) (cs : Cells) (r : Result A E) → way ≡ Normal alloc → is_other (sequence cs) ≡ true → IfOk r (λ v. f v ≡ usual_fingerprint) → IfOk r (λ v. f v ≡ made way fingerprint_kind (sequence cs))
unfolding made fingerprint_kind
remake_usual f Same cs r e t h = absurd cc
remake_usual f (Normal alloc) cs (Ok v) e t h = h ∙ rw t refl
remake_usual f (Normal alloc) cs (Err x) e t h = h

at_form : (cs : Cells) (b : Bool) → b ≡ false → sequence cs ≡ norm texts (cond b usual_fingerprint (sequence cs))
at_form cs true f = absurd (true≢false f)
at_form cs false f = ap sequence (sym (cells_normal cs))

pub remake_other : {alloc : Global} {A E : Type 0} (f : A → Cell) (way : Way) (cs : Cells) (r : Result A E) → way ≡ Normal alloc → is_other (sequence cs) ≡ false → IfOk r (λ v. f v ≡ sequence cs) → IfOk r (λ v. f v ≡ made way fingerprint_kind (sequence cs))
unfolding made fingerprint_kind
remake_other f Same cs r e t h = absurd cc
remake_other f (Normal alloc) cs (Ok v) e t h = h ∙ at_form cs (is_other (sequence cs)) t
remake_other f (Normal alloc) cs (Err x) e t h = h
