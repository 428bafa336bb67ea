-- Texts with escapes, run by run.
use Rattle.std.proofs.Common.{◌≡◌, ℕ, ◌+◌, ◌-◌, List, [], ◌++◌, take, drop, sym, ap, ap₂, ◌∙◌, append_assoc, append-nil, arith}
use Rattle.std.specs.List.{prefix_len}
use Rattle.json.specs.Print.{escape}
use Rattle.json.specs.Run.{is_plain}
use Rattle.json.proofs.Printed.Strings.{escape_to_stop}

-- a run that needs no escapes, and what is behind it
run_first : (text : List ℕ) (n : ℕ) → n ≡ prefix_len is_plain text → escape text ≡ take n text ++ escape (drop n text)
run_first text n found =
    let whole : n - 0 ≡ n = omega arith in
    let at_front : n ≡ 0 + prefix_len is_plain text = omega (arith, found) in
    sym (append-nil (escape text)) ∙ escape_to_stop text 0 n [] at_front
    ∙ ap₂ (λ k s. take k text ++ s) whole (append-nil (escape (drop n text)))

-- the run is written, and the rest comes
pub run_written : (text run behind out new whole : List ℕ) (n : ℕ) → n ≡ prefix_len is_plain text → run ≡ take n text → behind ≡ drop n text → new ≡ out ++ run
    → out ++ escape text ≡ whole → new ++ escape behind ≡ whole
run_written text run behind out new whole n found front back is so_far =
    ap (λ s. s ++ escape behind) is ∙ append_assoc out run (escape behind)
    ∙ ap (λ s. out ++ s) (ap₂ (λ r b. r ++ escape b) front back ∙ sym (run_first text n found)) ∙ so_far
