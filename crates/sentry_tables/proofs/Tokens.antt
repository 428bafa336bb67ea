-- What a writer's tokens make.
use Rattle.std.proofs.Common.{◌≡◌, ◌^◌, ℕ, List, [], ◌∷◌, ◌++◌, decimal, pos, negsuc, ℤ, Bool, false, Result, Ok, Err, Some, None, true≢false, refl, sym, ap, subst, ◌∙◌, append_assoc, append-nil}
use Rattle.std.proofs.lemmas.Bool.{or_parts}
use Rattle.std.specs.Prelude.{OnOk, IsUtf8}
use Rattle.std.specs.Fmt.{signed_decimal}
use Rattle.json.specs.Token.{Token}
use Rattle.json.specs.Print.{print}
use Rattle.json.specs.Tree.{json_tokens, items_tokens, members_tokens}
use Rattle.json.specs.Written.{Written, Writes}
use Rattle.serde_json.specs.Data.{Num, unsigned, negative, float, Data, null, boolean, number, string, array, object, Items, no_items, item, Members, no_members, member}
use Rattle.serde_json.specs.View.{view, items_view}
use Rattle.serde_json.specs.Written.{has_float, outline, items_outline, members_outline, compact_text}
use Rattle.serde_json.proofs.Texts.{print-outline}
use Rattle.serde_json.specs.declared.value.Value.{Value}
use Rattle.serde_json.specs.Find.{as_u64, as_i64, of_integer}
use Rattle.sentry_tables.specs.Cell.{text, truth, whole}
use Rattle.sentry_tables.specs.Kinds.{text_kind, truth_kind, unsigned_kind, signed_kind, pair_kind}
use Rattle.sentry_tables.specs.Cells.{pair_cell}
use Rattle.sentry_tables.specs.Continued.{continues_on, continues_as}
use Rattle.sentry_tables.specs.Writes.{written, tokens_of, item_tokens, member_tokens, Continues, WritesTree, WritesItems, WritesMembers}

-- ---- values of one token

one_token : {E : Type 0} (d : Data) (t : Token) (r : Result (Unit {0}) E) (old new : Written) → tokens_of d ≡ t ∷ [] → Writes r old new t → OnOk r (WritesTree d old new)
unfolding WritesTree
one_token d t (Ok u) old new is w = λ h. (w.room.0, w.ok ∙ ap (λ ts. old.tokens ++ ts) (sym is))
one_token d t (Err e) old new is w = tt

pub text_wrote : {E : Type 0} (s : List ℕ) (r : Result (Unit {0}) E) (old new : Written) → Writes r old new (Token.string s) → OnOk r (WritesTree (written text_kind (text s)) old new)
unfolding written tokens_of
text_wrote s r old new w = one_token (written text_kind (text s)) _ r old new refl w

pub truth_wrote : {E : Type 0} (b : Bool) (r : Result (Unit {0}) E) (old new : Written) → Writes r old new (Token.boolean b) → OnOk r (WritesTree (written truth_kind (truth b)) old new)
unfolding written tokens_of
truth_wrote b r old new w = one_token (written truth_kind (truth b)) _ r old new refl w

natural_wrote : {E : Type 0} (bound n : ℕ) (r : Result (Unit {0}) E) (old new : Written) → Writes r old new (Token.number (decimal n)) → OnOk r (WritesTree (written (unsigned_kind bound) (whole (pos n))) old new)
unfolding written tokens_of
natural_wrote bound n r old new w = one_token (written (unsigned_kind bound) (whole (pos n))) _ r old new refl w

pub u8_wrote : {E : Type 0} (n : ℕ) (r : Result (Unit {0}) E) (old new : Written) → Writes r old new (Token.number (decimal n)) → OnOk r (WritesTree (written (unsigned_kind (2 ^ 8)) (whole (pos n))) old new)
u8_wrote n r old new w = natural_wrote (2 ^ 8) n r old new w

pub u64_wrote : {E : Type 0} (n : ℕ) (r : Result (Unit {0}) E) (old new : Written) → Writes r old new (Token.number (decimal n)) → OnOk r (WritesTree (written (unsigned_kind (2 ^ 64)) (whole (pos n))) old new)
u64_wrote n r old new w = natural_wrote (2 ^ 64) n r old new w

whole_tokens : (bound : ℕ) (z : ℤ) → tokens_of (written (signed_kind bound) (whole z)) ≡ Token.number (signed_decimal z) ∷ []
unfolding written tokens_of
whole_tokens bound (pos n) = refl
whole_tokens bound (negsuc n) = refl

whole_wrote : {E : Type 0} (bound : ℕ) (z : ℤ) (r : Result (Unit {0}) E) (old new : Written) → Writes r old new (Token.number (signed_decimal z)) → OnOk r (WritesTree (written (signed_kind bound) (whole z)) old new)
whole_wrote bound z r old new w = one_token _ _ r old new (whole_tokens bound z) w

whole_tree_is : (bound : ℕ) (z : ℤ) (d : Data) → d ≡ number (of_integer z) → d ≡ written (signed_kind bound) (whole z)
unfolding written
whole_tree_is bound (pos n) d is = is
whole_tree_is bound (negsuc n) d is = is

pub i32_wrote : {E : Type 0} (z : ℤ) (r : Result (Unit {0}) E) (old new : Written) → Writes r old new (Token.number (signed_decimal z)) → OnOk r (WritesTree (written (signed_kind (2 ^ 31)) (whole z)) old new)
i32_wrote z r old new w = whole_wrote (2 ^ 31) z r old new w

pub i32_tree : (z : ℤ) (d : Data) → d ≡ number (of_integer z) → d ≡ written (signed_kind (2 ^ 31)) (whole z)
i32_tree z d is = whole_tree_is (2 ^ 31) z d is

pub i64_wrote : {E : Type 0} (z : ℤ) (r : Result (Unit {0}) E) (old new : Written) → Writes r old new (Token.number (signed_decimal z)) → OnOk r (WritesTree (written (signed_kind (2 ^ 63)) (whole z)) old new)
i64_wrote z r old new w = whole_wrote (2 ^ 63) z r old new w

pub i64_tree : (z : ℤ) (d : Data) → d ≡ number (of_integer z) → d ≡ written (signed_kind (2 ^ 63)) (whole z)
i64_tree z d is = whole_tree_is (2 ^ 63) z d is

-- ---- token after token

pub continues : {E : Type 0} (t : Token) (u : Unit {0}) (old new : Written) → Writes {E = E} (Ok u) old new t → Continues old new (t ∷ [])
continues t u old new w = (w.room.0, w.ok)

-- ---- pairs

pub pair_tree_is : (m n : ℕ) (d : Data) (vs : List Value) (a b : Value) → d ≡ array (items_view vs) → vs ≡ a ∷ b ∷ [] → view a ≡ number (unsigned m) → view b ≡ number (unsigned n) → d ≡ written pair_kind (pair_cell (m, n))
unfolding written
pair_tree_is m n d vs a b is made x y = is ∙ rw (made, x, y) refl

pub pair_wrote : {E F : Type 0} (m n : ℕ) (r : Result (Unit {0}) E) (a b c d e : Written) → Writes {E = F} (Ok tt) a b Token.begin_array → Writes {E = F} (Ok tt) b c (Token.number (decimal m)) → Writes {E = F} (Ok tt) c d (Token.number (decimal n)) → Writes r d e Token.end_array
    → OnOk r (WritesTree (written pair_kind (pair_cell (m, n))) a e)
unfolding written tokens_of WritesTree
pair_wrote m n (Ok u) a b c d e w x y z = λ h. continues_on a b e _ _ (continues _ _ _ _ w) (continues_on b c e _ _ (continues _ _ _ _ x) (continues_on c d e _ _ (continues _ _ _ _ y) (continues _ _ _ _ z)))
pair_wrote m n (Err f) a b c d e w x y z = tt

-- ---- items and members

items_closed : (ds : Items) → items_tokens (items_outline ds) ≡ item_tokens ds ++ Token.end_array ∷ []
unfolding tokens_of
items_closed no_items = refl
items_closed (item d ds) = ap (λ ts. tokens_of d ++ ts) (items_closed ds) ∙ sym (append_assoc (tokens_of d) (item_tokens ds) (Token.end_array ∷ []))

members_closed : (ms : Members) → members_tokens (members_outline ms) ≡ member_tokens ms ++ Token.end_object ∷ []
unfolding tokens_of
members_closed no_members = refl
members_closed (member k d ms) = ap (λ ts. Token.key k ∷ ts) (ap (λ ts. tokens_of d ++ ts) (members_closed ms) ∙ sym (append_assoc (tokens_of d) (member_tokens ms) (Token.end_object ∷ [])))

array_tokens : (ds : Items) → Token.begin_array ∷ (item_tokens ds ++ Token.end_array ∷ []) ≡ tokens_of (array ds)
unfolding tokens_of
array_tokens ds = ap (λ ts. Token.begin_array ∷ ts) (sym (items_closed ds))

object_tokens : (ms : Members) → Token.begin_object ∷ (member_tokens ms ++ Token.end_object ∷ []) ≡ tokens_of (object ms)
unfolding tokens_of
object_tokens ms = ap (λ ts. Token.begin_object ∷ ts) (sym (members_closed ms))

pub no_items_wrote : (a : Written) → WritesItems no_items a a
unfolding WritesItems
no_items_wrote a h = (refl, sym (append-nil a.tokens))

pub items_wrote : (d : Data) (ds : Items) (a b c : Written) → WritesTree d a b → WritesItems ds b c → WritesItems (item d ds) a c
unfolding WritesItems WritesTree
items_wrote d ds a b c x y h = let p = or_parts (has_float d) _ h in continues_on a b c _ _ (x p.0) (y p.1)

pub array_wrote : {E F : Type 0} (ds : Items) (r : Result (Unit {0}) E) (a b c d : Written) → Writes {E = F} (Ok tt) a b Token.begin_array → WritesItems ds b c → Writes r c d Token.end_array → OnOk r (WritesTree (array ds) a d)
unfolding WritesItems WritesTree
array_wrote ds (Ok u) a b c d x y z = λ h. continues_as a d _ _ (array_tokens ds) (continues_on a b d _ _ (continues _ _ _ _ x) (continues_on b c d _ _ (y h) (continues _ _ _ _ z)))
array_wrote ds (Err e) a b c d x y z = tt

pub members_wrote : {E : Type 0} (name k : List ℕ) (d : Data) (ms : Members) (a b c e : Written) → name ≡ k → Writes {E = E} (Ok tt) a b (Token.key name) → WritesTree d b c → WritesMembers ms c e → WritesMembers (member k d ms) a e
unfolding WritesMembers WritesTree
members_wrote name k d ms a b c e named x y z h =
    let p = or_parts (has_float d) _ h in
    continues_on a b e _ _ (continues (Token.key k) _ _ _ (rw named at x)) (continues_on b c e _ _ (y p.0) (z p.1))

pub object_wrote : {E F : Type 0} (ms : Members) (r : Result (Unit {0}) E) (a b c d : Written) → Writes {E = F} (Ok tt) a b Token.begin_object → WritesMembers ms b c → Writes r c d Token.end_object → OnOk r (WritesTree (object ms) a d)
unfolding WritesMembers WritesTree
object_wrote ms (Ok u) a b c d x y z = λ h. continues_as a d _ _ (object_tokens ms) (continues_on a b d _ _ (continues _ _ _ _ x) (continues_on b c d _ _ (y h) (continues _ _ _ _ z)))
object_wrote ms (Err e) a b c d x y z = tt

-- ---- numbers of a tree

pub natural_number_wrote : {E : Type 0} (x : Num) (n : ℕ) (r : Result (Unit {0}) E) (old new : Written) → as_u64 x ≡ Some n → Writes r old new (Token.number (decimal n)) → OnOk r (WritesTree (number x) old new)
unfolding tokens_of
natural_number_wrote (unsigned m) n r old new is w = one_token _ _ r old new (let e : m ≡ n = cc in ap (λ k. Token.number (decimal k) ∷ []) e) w
natural_number_wrote (negative z) n r old new is w = absurd cc
natural_number_wrote (float f) n r old new is w = absurd cc

pub whole_number_wrote : {E : Type 0} (x : Num) (z : ℤ) (r : Result (Unit {0}) E) (old new : Written) → as_u64 x ≡ None → as_i64 x ≡ Some z → Writes r old new (Token.number (signed_decimal z)) → OnOk r (WritesTree (number x) old new)
unfolding tokens_of
whole_number_wrote (unsigned m) z r old new absent is w = absurd cc
whole_number_wrote (negative y) z r old new absent is w = one_token _ _ r old new (let e : y ≡ z = cc in ap (λ k. Token.number (signed_decimal k) ∷ []) e) w
whole_number_wrote (float f) z r old new absent is w = absurd cc

-- of a float nothing is said
pub float_wrote : {E : Type 0} (x : Num) (r : Result (Unit {0}) E) (old new : Written) → as_u64 x ≡ None → as_i64 x ≡ None → OnOk r (WritesTree (number x) old new)
unfolding WritesTree
float_wrote (unsigned m) r old new absent none = absurd cc
float_wrote (negative y) r old new absent none = absurd cc
float_wrote (float f) (Ok u) old new absent none = λ h. absurd (true≢false h)
float_wrote (float f) (Err e) old new absent none = tt

-- ---- trees

pub null_wrote : {E : Type 0} (r : Result (Unit {0}) E) (old new : Written) → Writes r old new Token.null → OnOk r (WritesTree null old new)
unfolding tokens_of
null_wrote r old new w = one_token null _ r old new refl w

pub boolean_wrote : {E : Type 0} (b : Bool) (r : Result (Unit {0}) E) (old new : Written) → Writes r old new (Token.boolean b) → OnOk r (WritesTree (boolean b) old new)
unfolding tokens_of
boolean_wrote b r old new w = one_token (boolean b) _ r old new refl w

pub string_wrote : {E : Type 0} (s : List ℕ) (r : Result (Unit {0}) E) (old new : Written) → Writes r old new (Token.string s) → OnOk r (WritesTree (string s) old new)
unfolding tokens_of
string_wrote s r old new w = one_token (string s) _ r old new refl w

-- ---- text

pub text_written : (d : Data) (old new : Written) (bytes : List ℕ) → old.tokens ≡ [] → WritesTree d old new → bytes ≡ new.before ++ print new.tokens → has_float d ≡ false → bytes ≡ old.before ++ compact_text d
unfolding WritesTree tokens_of
text_written d old new bytes empty w is h =
    let x = w h in
    let tokens : new.tokens ≡ json_tokens (outline d) = x.1 ∙ ap (λ ts. ts ++ json_tokens (outline d)) empty in
    is ∙ ap (λ b. b ++ print new.tokens) x.0 ∙ ap (λ ts. old.before ++ print ts) tokens ∙ ap (λ s. old.before ++ s) (print-outline d)

pub text_is_utf8 : (d : Data) (old new : Written) (bytes : List ℕ) → old.before ≡ [] → WritesTree d old new → bytes ≡ new.before ++ print new.tokens → IsUtf8 (print new.tokens) → has_float d ≡ false → IsUtf8 bytes
unfolding WritesTree
text_is_utf8 d old new bytes empty w is utf8 h = subst IsUtf8 (sym (is ∙ ap (λ b. b ++ print new.tokens) ((w h).0 ∙ empty))) utf8
