-- Where the parts of a frame stand in the bytes.
use Rattle.std.proofs.Common.{arith, ◌≡◌, ◌≢◌, inl, inr, ℕ, ◌+◌, ◌-◌, ◌<◌, ◌≤◌, List, [], ◌∷◌, ◌++◌, length, take, drop, get_or, min, refl, ap, sym, ◌∙◌, append-nil, append_assoc, length-append, take-append-drop, subst}
use Rattle.std.proofs.lemmas.List.{drop_at, drop_more, take_rest}
use Rattle.std.proofs.lemmas.List.Elements.{All-head}
use Rattle.sentry_json.specs.Line.{newline}
use Rattle.sentry_framing.specs.Framing.{EndsLine, Frame, Follows, IsBlank, IsFirstFrame, IsLineAndBody, Reading}
use Rattle.sentry_framing.proofs.Opening.{IsDark, at_front}
use Rattle.sentry_c.specs.Frames.{BodyFrom}
use Rattle.sentry_c.specs.Places.{EndsWith, Stands}

-- ---- ends of bytes

pub ends_through : (bytes body rest : List ℕ) → EndsWith bytes body → EndsWith body rest → EndsWith bytes rest
ends_through bytes body rest (before, is) (more, is') = (before ++ more, is ∙ (ap (λ x. before ++ x) is' ∙ sym (append_assoc before more rest)))

pub end_is_dropped : (bytes rest : List ℕ) → EndsWith bytes rest → drop (length bytes - length rest) bytes ≡ rest
end_is_dropped bytes rest (before, is) =
    let long : length bytes ≡ length before + length rest = ap length is ∙ length-append before rest in
    ap (drop (length bytes - length rest)) is ∙ drop_at before rest (length bytes - length rest) (omega (arith, long))

pub end_fits : (bytes rest : List ℕ) → EndsWith bytes rest → length rest ≤ length bytes
end_fits bytes rest (before, is) =
    let long : length bytes ≡ length before + length rest = ap length is ∙ length-append before rest in
    omega (arith, long)

line_end : (after body : List ℕ) → EndsLine after body → EndsWith after body
line_end after body (inl (a, b)) = ([], a ∙ sym b)
line_end after body (inr a) = (newline ∷ [], a)

pub body_ends : (bytes line body : List ℕ) → IsLineAndBody bytes line body → EndsWith bytes body
body_ends bytes line body parts = ends_through bytes parts.after body (line, parts.parts) (line_end parts.after body parts.ends)

pub body_from_ends : (bytes : List ℕ) (offset : ℕ) (body : List ℕ) → BodyFrom bytes offset body → EndsWith bytes body
body_from_ends bytes offset body (inl (start, (line, parts))) = body_ends bytes line body parts
body_from_ends bytes offset body (inr (later, within, is)) = (take offset bytes, sym (take-append-drop offset bytes) ∙ ap (λ x. take offset bytes ++ x) (sym is))

-- after a line feed the header line is empty
empty_line : (tail line body : List ℕ) → IsLineAndBody (newline ∷ tail) line body → body ≡ tail
empty_line tail [] body parts = elim parts.ends [
  | inl none ↦ let e : newline ∷ tail ≡ [] = parts.parts ∙ none.0 in cc
  | inr more ↦ let e : newline ∷ tail ≡ newline ∷ body = parts.parts ∙ more in cc
]
empty_line tail (b ∷ line) body parts =
    let e : newline ∷ tail ≡ b ∷ (line ++ parts.after) = parts.parts in
    let same : b ≡ newline = cc in
    absurd (All-head (λ c. c ≢ newline) b line parts.no_newline same)

pub after_line_feed : (bytes : List ℕ) (offset : ℕ) (from line body : List ℕ) → offset ≢ 0 → offset ≤ length bytes → get_or bytes (offset - 1) 0 ≡ newline
    → from ≡ take (length bytes - (offset - 1)) (drop (offset - 1) bytes) → IsLineAndBody from line body → BodyFrom bytes offset body
after_line_feed bytes offset from line body later within feed part parts =
    let tail : List ℕ = drop (offset - 1 + 1) bytes in
    let some : offset - 1 < length bytes = omega arith in
    let is : from ≡ newline ∷ tail = part ∙ (take_rest bytes (offset - 1) ∙ (drop_more bytes (offset - 1) 0 some ∙ ap (λ b. b ∷ tail) feed)) in
    let next : offset - 1 + 1 ≡ offset = omega arith in
    inr (later, within, empty_line tail line body (subst (λ x. IsLineAndBody x line body) is parts) ∙ ap (λ n. drop n bytes) next)

follows_end : (after payload rest : List ℕ) → Follows after payload rest → EndsWith after rest
follows_end after payload rest (inl (a, b, c)) = ([], a ∙ sym c)
follows_end after payload rest (inr (inl (a, c))) = (after, sym (append-nil after) ∙ ap (λ x. after ++ x) (sym c))
follows_end after payload rest (inr (inr a)) = (newline ∷ (payload ++ newline ∷ []), a ∙ ap (λ x. newline ∷ x) (sym (append_assoc payload (newline ∷ []) rest)))

-- a body ends with what follows its first frame
pub frame_ends : (reads : Reading) (body : List ℕ) (f : Frame) (rest : List ℕ) → IsFirstFrame reads body f rest → EndsWith body rest
frame_ends reads body f rest first =
    ends_through body first.after rest (first.opens.space ++ f.header, first.opens.parts ∙ sym (append_assoc first.opens.space f.header first.after))
    (follows_end first.after f.payload rest first.follows)

-- ---- the places

-- the white space before a header, and the header
front_is : (reads : Reading) (bytes body front : List ℕ) (f : Frame) (rest : List ℕ) → EndsWith bytes body → IsFirstFrame reads body f rest → ((space : List ℕ) × IsBlank space × (body ≡ space ++ front)) → IsDark front
    → (before after : List ℕ) × (bytes ≡ before ++ (f.header ++ after)) × (front ≡ f.header ++ after) × Follows after f.payload rest
front_is reads bytes body front f rest (before, ends) first (space, blank, parts) dark =
    let is : front ≡ f.header ++ first.after = at_front body f.header first.after space front first.opens blank dark parts in
    (before ++ space, first.after, ends ∙ (ap (λ x. before ++ x) (parts ∙ ap (λ x. space ++ x) is) ∙ sym (append_assoc before space (f.header ++ first.after))), is, first.follows)

payload_at : (bytes head after payload rest : List ℕ) → bytes ≡ head ++ after → Follows after payload rest → Stands bytes (min (length head + 1) (length bytes)) (length payload) payload
payload_at bytes head after payload rest is (inl (a, b, c)) =
    let whole : bytes ≡ head ++ (payload ++ []) = is ∙ ap (λ x. head ++ x) (a ∙ sym (append-nil payload ∙ b)) in
    let long : length bytes ≡ length head = ap length (is ∙ (ap (λ x. head ++ x) a ∙ append-nil head)) in
    record { before = head; after = []; split = whole; offset_is = omega (arith, long); count_is = refl }
payload_at bytes head after payload rest is (inr (inl (a, c))) =
    let whole : bytes ≡ (head ++ newline ∷ []) ++ (payload ++ []) = is ∙ (ap (λ x. head ++ x) (a ∙ ap (λ x. newline ∷ x) (sym (append-nil payload))) ∙ sym (append_assoc head (newline ∷ []) (payload ++ []))) in
    let long : length bytes ≡ length (head ++ newline ∷ []) + length (payload ++ []) = ap length whole ∙ length-append (head ++ newline ∷ []) (payload ++ []) in
    record { before = head ++ newline ∷ []; after = []; split = whole; offset_is = omega (arith, long, length-append head (newline ∷ [])); count_is = refl }
payload_at bytes head after payload rest is (inr (inr a)) =
    let whole : bytes ≡ (head ++ newline ∷ []) ++ (payload ++ newline ∷ rest) = is ∙ (ap (λ x. head ++ x) a ∙ sym (append_assoc head (newline ∷ []) (payload ++ newline ∷ rest))) in
    let long : length bytes ≡ length (head ++ newline ∷ []) + length (payload ++ newline ∷ rest) = ap length whole ∙ length-append (head ++ newline ∷ []) (payload ++ newline ∷ rest) in
    record { before = head ++ newline ∷ []; after = newline ∷ rest; split = whole; offset_is = omega (arith, long, length-append head (newline ∷ [])); count_is = refl }

module _ (reads : Reading) (bytes body front : List ℕ) (f : Frame) (rest : List ℕ) (ends : EndsWith bytes body) (first : IsFirstFrame reads body f rest)
    (skipped : (space : List ℕ) × IsBlank space × (body ≡ space ++ front)) (dark : IsDark front) where
  -- the bytes have room for the white space, the header and what follows
  pub room : length front ≤ length bytes
  room =
      let (before, after, is, front_is, follows) = front_is reads bytes body front f rest ends first skipped dark in
      let long : length bytes ≡ length before + length (f.header ++ after) = ap length is ∙ length-append before (f.header ++ after) in
      omega (arith, long, ap length front_is)

  pub header_room : length bytes - length front + length f.header ≤ length bytes
  header_room =
      let (before, after, is, front_is, follows) = front_is reads bytes body front f rest ends first skipped dark in
      let long : length bytes ≡ length before + length (f.header ++ after) = ap length is ∙ length-append before (f.header ++ after) in
      omega (arith, long, ap length front_is, length-append f.header after)

  pub header_placed : Stands bytes (length bytes - length front) (length f.header) f.header
  header_placed =
      let (before, after, is, front_is, follows) = front_is reads bytes body front f rest ends first skipped dark in
      let long : length bytes ≡ length before + length (f.header ++ after) = ap length is ∙ length-append before (f.header ++ after) in
      record { before = before; after = after; split = is; offset_is = omega (arith, long, ap length front_is); count_is = refl }

  pub payload_placed : (n : ℕ) → n ≡ min (length bytes - length front + length f.header + 1) (length bytes) → Stands bytes n (length f.payload) f.payload
  payload_placed n at =
      let (before, after, is, front_is, follows) = front_is reads bytes body front f rest ends first skipped dark in
      let long : length bytes ≡ length before + length (f.header ++ after) = ap length is ∙ length-append before (f.header ++ after) in
      let stands = payload_at bytes (before ++ f.header) after f.payload rest (is ∙ sym (append_assoc before f.header after)) follows in
      record {
        before = stands.before;
        after = stands.after;
        split = stands.split;
        offset_is = omega (arith, at, long, ap length front_is, length-append before f.header, stands.offset_is);
        count_is = refl;
      }
