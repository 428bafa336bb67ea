-- Sinks that may fail, and remember it.
use Rattle.std.specs.Prelude.{◌≡◌, Option, None}

-- while nothing fails P holds
unfoldable pub While : {E : Type 0} → Option E → Option E → Type 0 → Type 0
While before after P = after ≡ None → (before ≡ None) × P

pub nothing_while : {E P : Type 0} (failed : Option E) → P → While failed failed P
unfolding While
nothing_while failed p none = (none, p)

pub joined_while : {E P Q R : Type 0} (a b c : Option E) → (P → Q → R) → While a b P → While b c Q → While a c R
unfolding While
joined_while a b c f x y none =
    let q = y none in
    let p = x q.0 in
    (p.0, f p.1 q.1)
