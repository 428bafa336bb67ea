-- Where a text may be cut: behind a byte of ASCII, and before one.
use Rattle.std.proofs.Common.{◌≡◌, ◌<◌, ◌≤◌, ℕ, List, ◌∷◌, ◌++◌, IsUtf8, IsCharBoundary, take, drop, length, get_or, true, false, sym, ap, ◌∙◌, arith}
use Rattle.std.specs.Char.{is_ascii}
use Rattle.std.specs.List.{prefix_len}
use Rattle.std.proofs.lemmas.Bool.Decides.{nat_tests}
use Rattle.std.proofs.lemmas.List.Sums.{prefix_len_stops}
use Rattle.std.proofs.lemmas.Str.{IsUtf8-drop, IsUtf8-past_char, IsUtf8-take, encode_ascii}
use Rattle.json.specs.Run.{is_plain}

small : (b : ℕ) → is_ascii b ≡ true → b < 128
small b h = grind (arith, nat_tests)

pub after_ascii : (text rest : List ℕ) (b : ℕ) → IsUtf8 text → text ≡ b ∷ rest → is_ascii b ≡ true → IsUtf8 rest
after_ascii text rest b letters is ascii = IsUtf8-past_char text rest b letters (is ∙ ap (λ l. l ++ rest) (sym (encode_ascii b (small b ascii))))

stop_ascii : (x : ℕ) → is_plain x ≡ false → x < 128
stop_ascii x h = grind (arith, nat_tests)

-- a run ends with the text, or before a byte of ASCII
run_boundary : (text : List ℕ) (n : ℕ) → n ≡ prefix_len is_plain text → n ≤ length text → IsCharBoundary text n
run_boundary text n is le = (
  le,
  λ within high.
      let stops : is_plain (get_or text n 0) ≡ false = rw is (prefix_len_stops is_plain text 0 (omega (arith, within, is))) in
      absurd (omega (arith, high, stop_ascii (get_or text n 0) stops)),
)

pub run_cut : (text : List ℕ) (n : ℕ) → IsUtf8 text → n ≡ prefix_len is_plain text → n ≤ length text → IsUtf8 (take n text) × IsUtf8 (drop n text)
run_cut text n letters is le =
    let cut = run_boundary text n is le in
    (IsUtf8-take text n letters cut, IsUtf8-drop text n letters cut)
