-- UTF-8 is made of bytes.
use Rattle.std.proofs.Common.{◌≡◌, true, ⊎_elim, ℕ, ◌+◌, ◌/◌, ◌%◌, ◌<◌, ltb, List, [], ◌∷◌, All, IsUtf8, subst, arith}
use Rattle.std.proofs.Math.Utf8.{encode, scalar, scalars, encodes, scalar_cases}
use Rattle.std.proofs.lemmas.Bool.{cond_both, and_parts, ltb-true}
use Rattle.std.proofs.lemmas.List.Elements.{All-nil, All-cons, All-append}

abbrev pub IsByte : ℕ → Type 0
IsByte b = b < 256

below : (c : ℕ) → scalar c ≡ true → c < 1_114_112
below c e = ⊎_elim (λ low. omega arith) (λ high. high.1) (scalar_cases c e)

one_byte : (b : ℕ) (rest : List ℕ) → b < 256 → All IsByte rest → All IsByte (b ∷ rest)
one_byte b rest small all = All-cons IsByte b rest small all

next_byte : (bits : ℕ) (rest : List ℕ) → All IsByte rest → All IsByte ((128 + bits % 64) ∷ rest)
next_byte bits rest all = one_byte (128 + bits % 64) rest (omega arith) all

encode_bytes : (c : ℕ) → scalar c ≡ true → All IsByte (encode c)
unfolding encode
encode_bytes c e =
    let last = (128 + c % 64) ∷ [] in
    let middle = (128 + c / 64 % 64) ∷ last in
    let third = (128 + c / 4096 % 64) ∷ middle in
    let is_last : All IsByte last = next_byte c [] (All-nil IsByte) in
    let is_middle : All IsByte middle = next_byte (c / 64) last is_last in
    let is_third : All IsByte third = next_byte (c / 4096) middle is_middle in
    cond_both (ltb c 128) _ _ (All IsByte) (λ one. one_byte c [] (let small = ltb-true c 128 one in omega arith) (All-nil IsByte))
    (λ _. cond_both (ltb c 2048) _ _ (All IsByte) (λ two. one_byte (192 + c / 64) last (let small = ltb-true c 2048 two in omega arith) is_last)
    (λ _. cond_both (ltb c 65536) _ _ (All IsByte) (λ three. one_byte (224 + c / 4096) middle (let small = ltb-true c 65536 three in omega arith) is_middle)
    (λ _. one_byte (240 + c / 262144) third (let small = below c e in omega arith) is_third)))

encodes_bytes : (cs : List ℕ) → scalars cs ≡ true → All IsByte (encodes cs)
encodes_bytes [] e = All-nil IsByte
encodes_bytes (c ∷ cs) e =
    let both = and_parts (scalar c) (scalars cs) e in
    All-append IsByte (encode c) (encodes cs) (encode_bytes c both.0) (encodes_bytes cs both.1)

pub utf8_bytes : (text : List ℕ) → IsUtf8 text → All (λ b. b < 256) text
utf8_bytes text h = subst (All IsByte) h.1.1 (encodes_bytes h.0 h.1.0)
