use Rattle.std.proofs.Common.{◌≡◌, ℕ, List, Option, Some, None, IfSome, [], ◌++◌, ap, ◌∙◌}
use Rattle.std.specs.Fmt.{WritesText}
use Rattle.std.proofs.lemmas.Fmt.{contents_after_writes}
use Rattle.sentry_tables.proofs.spelled.print_into.Goals as goal

-- what is appended to nothing is the whole text
appended : {A : Type 0} (bytes : A → List ℕ) (took : A → List ℕ → A → Type 0) → ((old : A) (s : List ℕ) (new : A) → took old s new → bytes new ≡ bytes old ++ s)
    → (old new : A) (output : Option (List ℕ)) (shown : List ℕ) → shown ≡ bytes new → bytes old ≡ [] → WritesText took old output new → IfSome output (λ text. shown ≡ text)
appended bytes took step old new None shown is empty h = tt
appended bytes took step old new (Some text) shown is empty h = is ∙ contents_after_writes took bytes step old text new h ∙ ap (λ b. b ++ text) empty

pub returns-in-Ok-clause-text : goal.returns-in-Ok-clause-text
returns-in-Ok-clause-text g c = appended (λ s. s.bytes) _ (λ old s new h. h) _ _ _ _ c.as_str.ensures.value c.clear.ensures c.in-Ok.ensures.writes
