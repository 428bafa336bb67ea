-- A list under the key `values` is its vector.
use Rattle.std.specs.Prelude.{◌≡◌, List, ◌++◌}
use Rattle.sentry_writing.specs.declared.values.Values.{Values}

-- the values of the second list are those of the first, and these items behind them
abbrev pub Extends : {A : Type 0} → Values A → List A → Values A → Type 0
Extends old xs new = new.values.items ≡ old.values.items ++ xs
