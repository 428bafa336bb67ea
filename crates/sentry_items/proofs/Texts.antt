-- Texts in parts: what is appended, counted and sent, part by part.
use Rattle.std.proofs.Common.{◌≡◌, ◌+◌, ◌<◌, ◌≤◌, ℕ, suc, length, get_or, drop, drop-cons, add-one, List, [], ◌∷◌, ◌++◌, Option, map, sym, ap, ◌∙◌, subst, append_assoc, append-nil}
use Rattle.std.proofs.lemmas.List.{drop_all}
use Rattle.std.specs.Borrow.{Bor}
use Rattle.std.specs.Io.KnownBytes.{Appends}
use Rattle.std.specs.List.{concat}
use Rattle.sentry_json.specs.Line.{newline}
use Rattle.sentry_framing.specs.Framing.{with_line}
use Rattle.sentry_framing.proofs.Sent.{front_of_first, front_of_second}
use Rattle.sentry_framing.specs.Sending.{AppendsFront}
use Rattle.sentry_items.specs.Texts.{parts_bytes}
use Rattle.sentry_items.specs.declared.text.Part.{Part}

-- one part more
part_behind : (ps : List Part) (p : Part) → parts_bytes (ps ++ p ∷ []) ≡ parts_bytes ps ++ (p.own.items ++ p.lent.now)
part_behind [] p = append-nil (p.own.items ++ p.lent.now)
part_behind (q ∷ ps) p =
    let first = q.own.items ++ q.lent.now in
    ap (λ s. first ++ s) (part_behind ps p) ∙ sym (append_assoc first (parts_bytes ps) (p.own.items ++ p.lent.now))

-- the end becomes the last part's own bytes
pub lent_behind : (ps all : List Part) (p : Part) (end none : List ℕ) → all ≡ ps ++ p ∷ [] → p.own.items ≡ end → none ≡ [] → parts_bytes all ++ none ≡ (parts_bytes ps ++ end) ++ p.lent.now
lent_behind ps all p end none more own empty =
    ap (λ s. parts_bytes all ++ s) empty ∙ append-nil (parts_bytes all) ∙ ap parts_bytes more ∙ part_behind ps p
    ∙ ap (λ s. parts_bytes ps ++ (s ++ p.lent.now)) own ∙ sym (append_assoc (parts_bytes ps) end p.lent.now)

-- what the end grows by, the text grows by
pub end_grows : (parts old new more : List ℕ) → new ≡ old ++ more → parts ++ new ≡ (parts ++ old) ++ more
end_grows parts old new more is = ap (λ s. parts ++ s) is ∙ sym (append_assoc parts old more)

-- a line feed behind a header that is told, a payload, and a line feed
pub rest_sent : (old begun told all payload : List ℕ) → begun ≡ old ++ newline ∷ [] → told ≡ begun ++ payload → all ≡ told ++ newline ∷ [] → all ≡ old ++ with_line [] (with_line payload [])
rest_sent old begun told all payload is more end =
    end ∙ ap (λ s. s ++ newline ∷ []) (more ∙ ap (λ s. s ++ payload) is) ∙ append_assoc (old ++ newline ∷ []) payload (newline ∷ []) ∙ append_assoc old (newline ∷ []) (payload ++ newline ∷ [])

-- the end becomes the last part, of which nothing is lent
pub own_behind : (ps all : List Part) (p : Part) (end taken rest : List ℕ) → all ≡ ps ++ p ∷ [] → p.own.items ≡ end → p.lent.now ≡ [] → rest ≡ taken → parts_bytes all ++ rest ≡ (parts_bytes ps ++ end) ++ taken
own_behind ps all p end taken rest more own none is =
    ap (λ s. parts_bytes all ++ s) is ∙ ap (λ s. s ++ taken) (ap parts_bytes more ∙ part_behind ps p ∙ ap (λ s. parts_bytes ps ++ (p.own.items ++ s)) none ∙ ap (λ s. parts_bytes ps ++ s) (append-nil p.own.items ∙ own))

-- the next part, and those behind it
next_part : (ps : List Part) (i : ℕ) (p : Part) → i < length ps → p ≡ get_or ps i p → drop i ps ≡ p ∷ drop (i + 1) ps
next_part ps i p within is = rw add-one (drop-cons ps i p within ∙ ap (λ q. q ∷ drop (suc i) ps) (sym is))

-- a text of which the next part comes behind a front
pub part_comes : (ps : List Part) (i : ℕ) (p : Part) (text front end : List ℕ) → i < length ps → p ≡ get_or ps i p → text ≡ front ++ (parts_bytes (drop i ps) ++ end)
    → text ≡ front ++ (p.own.items ++ (p.lent.now ++ (parts_bytes (drop (i + 1) ps) ++ end)))
part_comes ps i p text front end within is so_far =
    let rest = parts_bytes (drop (i + 1) ps) in
    so_far ∙ ap (λ qs. front ++ (parts_bytes qs ++ end)) (next_part ps i p within is) ∙ ap (λ s. front ++ s) (append_assoc (p.own.items ++ p.lent.now) rest end ∙ append_assoc p.own.items p.lent.now (rest ++ end))

-- a text of which no part is left
pub end_comes : (ps : List Part) (i : ℕ) (text front end : List ℕ) → length ps ≤ i → text ≡ front ++ (parts_bytes (drop i ps) ++ end) → text ≡ front ++ end
end_comes ps i text front end past so_far = so_far ∙ ap (λ qs. front ++ (parts_bytes qs ++ end)) (drop_all i ps past)

-- a piece behind the front joins it
pub piece_joins : (text front piece rest : List ℕ) → text ≡ front ++ (piece ++ rest) → text ≡ (front ++ piece) ++ rest
piece_joins text front piece rest is = is ∙ sym (append_assoc front piece rest)

-- of a piece behind the front, no more than a beginning was sent
pub piece_fails : (old between new : Option (List ℕ)) (text front piece rest : List ℕ) → text ≡ front ++ (piece ++ rest) → Appends old between front → AppendsFront between new piece → AppendsFront old new text
piece_fails old between new text front piece rest is sent failed =
    subst (AppendsFront old new) (append_assoc front piece rest ∙ sym is) (front_of_first old new (front ++ piece) rest (front_of_second old between new front piece sent failed))

-- the same of the last piece
pub end_fails : (old between new : Option (List ℕ)) (text front piece : List ℕ) → text ≡ front ++ piece → Appends old between front → AppendsFront between new piece → AppendsFront old new text
end_fails old between new text front piece is sent failed = subst (AppendsFront old new) (sym is) (front_of_second old between new front piece sent failed)

-- ---- pieces

abbrev pub pieces_bytes : List (Bor (List ℕ)) → List ℕ
pieces_bytes pieces = concat (map (λ piece. piece.now) pieces)

-- one piece more
pieces_behind : (pieces : List (Bor (List ℕ))) (piece : Bor (List ℕ)) → pieces_bytes (pieces ++ piece ∷ []) ≡ pieces_bytes pieces ++ piece.now
pieces_behind [] piece = append-nil piece.now
pieces_behind (p ∷ ps) piece = ap (λ x. p.now ++ x) (pieces_behind ps piece) ∙ sym (append_assoc p.now (pieces_bytes ps) piece.now)

-- the next piece joins those before it
pub next_piece : (pieces all : List (Bor (List ℕ))) (piece : Bor (List ℕ)) (text bytes rest : List ℕ) → all ≡ pieces ++ piece ∷ [] → piece.now ≡ bytes → text ≡ pieces_bytes pieces ++ (bytes ++ rest) → text ≡ pieces_bytes all ++ rest
next_piece pieces all piece text bytes rest more is so_far =
    piece_joins text (pieces_bytes pieces) bytes rest so_far ∙ ap (λ s. s ++ rest) (sym (ap pieces_bytes more ∙ pieces_behind pieces piece ∙ ap (λ s. pieces_bytes pieces ++ s) is))

-- the last piece ends the text
pub last_piece : (pieces all : List (Bor (List ℕ))) (piece : Bor (List ℕ)) (text bytes : List ℕ) → all ≡ pieces ++ piece ∷ [] → piece.now ≡ bytes → text ≡ pieces_bytes pieces ++ bytes → pieces_bytes all ≡ text
last_piece pieces all piece text bytes more is so_far = ap pieces_bytes more ∙ pieces_behind pieces piece ∙ ap (λ s. pieces_bytes pieces ++ s) is ∙ sym so_far
