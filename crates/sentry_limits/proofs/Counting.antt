-- How the items of an envelope are counted one after another.
use Rattle.std.proofs.Common.{◌≡◌, ℕ, zero, suc, replicate, ◌+◌, ◌<◌, ◌≤◌, ◌==◌, ◌⊎◌, inl, inr, max, Bool, true, false, cond, List, [], ◌∷◌, ◌++◌, length, map, Option, Some, get_or, set, refl, sym, ap, ◌∙◌, subst, length-append, arith}
use Rattle.std.proofs.lemmas.Grind.{common_steps}
use Rattle.std.proofs.lemmas.List.Elements.{All-nil}
use Rattle.std.proofs.lemmas.List.Sums.{sum_by-cons, sum_by_push}
use Rattle.sentry_json.specs.Line.{newline}
use Rattle.sentry_framing.specs.Framing.{AreFrames, Follows, Frame, IsFault, IsFirstFrame, IsLineAndBody, Opens, Reading}
use Rattle.sentry_framing.specs.declared.kind.ItemKind.{ItemKind}
use Rattle.sentry_framing.proofs.Verdicts.{frame_shorter}
use Rattle.sentry_framing.specs.declared.error.EnvelopeError.{EnvelopeError}
use Rattle.sentry_framing.specs.declared.error.EnvelopeError.TheVariants.{InvalidHeader, OutOfMemory}
use Rattle.sentry_forward.specs.AnyHeader.{any_header, any_reading, is_object_line}
use Rattle.sentry_forward.specs.View.{AreNamed, IsRefused, any_frame, says}
use Rattle.sentry_forward.proofs.Sorting.{named_more, stand_more}
use Rattle.sentry_forward.specs.declared.frames.AnyFrame.{AnyFrame}
use Rattle.sentry_limits.specs.Measured.{AreCounted, IsMeasured, bytes_at, bytes_of, is_of, items_at, items_of, kind_of, longest_of, payload_len, place}
use Rattle.sentry_limits.specs.declared.sizes.Measured.{Measured}

-- ---- no count is above the length of the body

follows_within : (after payload rest : List ℕ) → Follows after payload rest → length payload + length rest ≤ length after
follows_within after payload rest (inl (a, b, c)) = omega (arith, ap length b, ap length c)
follows_within after payload rest (inr (inl (a, c))) = omega (arith, ap length a, ap length c)
follows_within after payload rest (inr (inr a)) = omega (arith, ap length a, length-append payload (newline ∷ rest))

opens_within : (body header after : List ℕ) → Opens body header after → length after ≤ length body
opens_within body header after o = omega (arith, ap length o.parts, length-append o.space (header ++ after), length-append header after)

payload_within : (reads : Reading) (body : List ℕ) (f : Frame) (rest : List ℕ) → IsFirstFrame reads body f rest → length f.payload + length rest ≤ length body
payload_within reads body f rest h =
    let a = opens_within body f.header h.after h.opens in
    let b = follows_within h.after f.payload rest h.follows in
    omega arith

body_within : (bytes line body : List ℕ) → IsLineAndBody bytes line body → length body ≤ length bytes
body_within bytes line body h = elim h.ends [
  | inl e ↦ omega (arith, ap length e.1)
  | inr e ↦ omega (arith, ap length e, ap length h.parts, length-append line h.after)
]

below : (b : Bool) (n : ℕ) → cond b n 0 ≤ n
below true n = omega arith
below false n = omega arith

pub items_within : (kind : Option ItemKind) (body : List ℕ) (items : List AnyFrame) (rest : List ℕ) → AreFrames any_reading body (map any_frame items) rest → items_of kind items + length rest ≤ length body
items_within kind body [] rest h = omega (arith, ap length h)
items_within kind body (x ∷ xs) rest (next, first, more) =
    let a = items_within kind next xs rest more in
    let b = frame_shorter any_reading body (any_frame x) next first in
    omega (arith, a, b, below (is_of kind x) 1, sum_by-cons (λ (item : AnyFrame). cond (is_of kind item) 1 0) x xs)

pub bytes_within : (kind : Option ItemKind) (body : List ℕ) (items : List AnyFrame) (rest : List ℕ) → AreFrames any_reading body (map any_frame items) rest → bytes_of kind items + length rest ≤ length body
bytes_within kind body [] rest h = omega (arith, ap length h)
bytes_within kind body (x ∷ xs) rest (next, first, more) =
    let a = bytes_within kind next xs rest more in
    let b = payload_within any_reading body (any_frame x) next first in
    omega (arith, a, b, below (is_of kind x) (payload_len x), sum_by-cons (λ (item : AnyFrame). cond (is_of kind item) (payload_len item) 0) x xs)

-- ---- what is read so far

-- items stand behind the header line, these bytes are left, and the numbers are those of the items
pub record IsCounted (bytes rest : List ℕ) (measured : Measured) : Type 0 where
  pub line : List ℕ
  pub body : List ℕ
  pub items : List AnyFrame
  pub header : IsLineAndBody bytes line body
  pub object : is_object_line line ≡ true
  pub named : AreNamed items
  pub stand : AreFrames any_reading body (map any_frame items) rest
  pub counted : AreCounted items measured

pub counted_first : (bytes line body : List ℕ) (measured : Measured) → IsLineAndBody bytes line body → is_object_line line ≡ true → AreCounted [] measured → IsCounted bytes body measured
counted_first bytes line body measured header object counted = record {
  line = line;
  body = body;
  items = [];
  header = header;
  object = object;
  named = All-nil (λ (item : AnyFrame). any_header item.header.now ≡ Some (says item));
  stand = refl;
  counted = counted;
}

pub counted_next : (bytes rest next : List ℕ) (x : AnyFrame) (old new : Measured) → IsCounted bytes rest old → IsFirstFrame any_reading rest (any_frame x) next → any_header x.header.now ≡ Some (says x)
    → ((items : List AnyFrame) → AreCounted items old → AreCounted (items ++ x ∷ []) new) → IsCounted bytes next new
counted_next bytes rest next x old new h first named more = record {
  line = h.line;
  body = h.body;
  items = h.items ++ x ∷ [];
  header = h.header;
  object = h.object;
  named = named_more h.items x h.named named;
  stand = stand_more h.body h.items x rest next h.stand first;
  counted = more h.items h.counted;
}

pub counted_all : (bytes rest : List ℕ) (measured : Measured) → IsCounted bytes rest measured → rest ≡ [] → IsMeasured bytes measured
counted_all bytes rest measured h none = record {
  line = h.line;
  body = h.body;
  items = h.items;
  header = h.header;
  object = h.object;
  named = h.named;
  framed = subst (AreFrames any_reading h.body (map any_frame h.items)) none h.stand;
  counted = h.counted;
}

-- the header line is no object
pub refused_first : (bytes : List ℕ) (e : EnvelopeError) → ¬ (e ≡ OutOfMemory) → (e ≡ OutOfMemory) ⊎ ((e ≡ InvalidHeader) × ((line : List ℕ) × (body : List ℕ) × IsLineAndBody bytes line body × (is_object_line line ≡ false))) → IsRefused bytes e
refused_first bytes e other (inl memory) = absurd (other memory)
refused_first bytes e other (inr (is, (line, body, header, object))) = record { line = line; body = body; header = header; fault = inl (is, object) }

-- the first check of the bytes that are left fails
pub refused_next : (bytes rest : List ℕ) (measured : Measured) (e : EnvelopeError) → IsCounted bytes rest measured → ¬ (rest ≡ []) → IsFault any_reading rest e → IsRefused bytes e
refused_next bytes rest measured e h some fault = record {
  line = h.line;
  body = h.body;
  header = h.header;
  fault = inr (h.object, record { frames = map any_frame h.items; rest = rest; stand = h.stand; remains = some; fault = fault });
}

-- the numbers of a type, and so of all, are at most the length of the bytes
pub few_items : (kind : Option ItemKind) (bytes rest : List ℕ) (measured : Measured) → IsCounted bytes rest measured → items_at measured kind ≤ length bytes
few_items kind bytes rest measured h = omega (arith, h.counted.items_are kind, items_within kind h.body h.items rest h.stand, body_within bytes h.line h.body h.header)

pub few_bytes : (kind : Option ItemKind) (bytes rest : List ℕ) (measured : Measured) → IsCounted bytes rest measured → bytes_at measured kind ≤ length bytes
few_bytes kind bytes rest measured h = omega (arith, h.counted.bytes_are kind, bytes_within kind h.body h.items rest h.stand, body_within bytes h.line h.body h.header)

-- ---- one more item

-- a number at one place grows
grown : (xs : List ℕ) (p k n : ℕ) → p < length xs → get_or (set xs p (get_or xs p 0 + n)) k 0 ≡ get_or xs k 0 + cond (p == k) n 0
grown xs p k n h = go (p == k) refl
  where
    go : (b : Bool) → (p == k) ≡ b → get_or (set xs p (get_or xs p 0 + n)) k 0 ≡ get_or xs k 0 + cond b n 0
    go true e = grind (arith, common_steps)
    go false e = grind (arith, common_steps)

longest_push : (items : List AnyFrame) (x : AnyFrame) → longest_of (items ++ x ∷ []) ≡ max (longest_of items) (payload_len x)
longest_push [] x = omega arith
longest_push (y ∷ ys) x = omega (arith, longest_push ys x)

-- numbers of 0
pub zeros : (n k : ℕ) → get_or (replicate n zero) k zero ≡ zero
zeros zero k = refl
zeros (suc n) zero = refl
zeros (suc n) (suc k) = zeros n k

pub counted_none : (measured : Measured) → ((k : ℕ) → get_or measured.items k 0 ≡ 0) → ((k : ℕ) → get_or measured.bytes k 0 ≡ 0) → measured.longest ≡ 0 → AreCounted [] measured
counted_none measured items bytes longest = record { items_are = λ kind. items (place kind); bytes_are = λ kind. bytes (place kind); longest_is = longest }

pub counted_more : (items : List AnyFrame) (x : AnyFrame) (old new : Measured) (p : ℕ) → p ≡ place (kind_of x) → p < length old.items → p < length old.bytes
    → new.items ≡ set old.items p (get_or old.items p 0 + 1) → new.bytes ≡ set old.bytes p (get_or old.bytes p 0 + payload_len x)
    → new.longest ≡ max old.longest (payload_len x) → AreCounted items old → AreCounted (items ++ x ∷ []) new
counted_more items x old new p is has_items has_bytes set_items set_bytes longest h = record {
  items_are = λ kind.
      ap (λ (xs : List ℕ). get_or xs (place kind) 0) set_items ∙ grown old.items p (place kind) 1 has_items
      ∙ ap (λ n. n + cond (p == place kind) 1 0) (h.items_are kind) ∙ ap (λ k. items_of kind items + cond (k == place kind) 1 0) is
      ∙ sym (sum_by_push (λ (item : AnyFrame). cond (is_of kind item) 1 0) items x);
  bytes_are = λ kind.
      ap (λ (xs : List ℕ). get_or xs (place kind) 0) set_bytes ∙ grown old.bytes p (place kind) (payload_len x) has_bytes
      ∙ ap (λ n. n + cond (p == place kind) (payload_len x) 0) (h.bytes_are kind) ∙ ap (λ k. bytes_of kind items + cond (k == place kind) (payload_len x) 0) is
      ∙ sym (sum_by_push (λ (item : AnyFrame). cond (is_of kind item) (payload_len item) 0) items x);
  longest_is = longest ∙ ap (λ n. max n (payload_len x)) h.longest_is ∙ sym (longest_push items x);
}
