-- Sending two texts as if they were one.
use Rattle.std.proofs.Common.{ℕ, List, ◌++◌, Option, sym, ap, ◌∙◌, append_assoc, arith, length-append}
use Rattle.std.specs.Io.KnownBytes.{Appends}
use Rattle.std.proofs.KnownBytes.{Appends-trans}
use Rattle.sentry_framing.specs.Sending.{AppendsFront}

-- a proper beginning of the first text is one of both
pub front_of_first : (old new : Option (List ℕ)) (first second : List ℕ) → AppendsFront old new first → AppendsFront old new (first ++ second)
front_of_first old new first second (front, rest, cut, more, sent) =
    (front, rest ++ second, ap (λ s. s ++ second) cut ∙ append_assoc front rest second, omega (arith, length-append rest second), sent)

-- the first text, and a proper beginning of the second
pub front_of_second : (old between new : Option (List ℕ)) (first second : List ℕ) → Appends old between first → AppendsFront between new second → AppendsFront old new (first ++ second)
front_of_second old between new first second whole (front, rest, cut, more, sent) =
    (first ++ front, rest, ap (λ s. first ++ s) cut ∙ sym (append_assoc first front rest), more, Appends-trans old between new first front whole sent)
