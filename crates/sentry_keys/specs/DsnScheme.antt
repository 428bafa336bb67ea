-- The schemes of a DSN.
use Rattle.std.specs.Prelude.{ℕ, List, codes}
use Rattle.sentry_keys.specs.declared.scheme.Scheme.{Scheme}
use Rattle.sentry_keys.specs.declared.scheme.Scheme.TheVariants.{Http, Https}

-- the port that a scheme stands for, by the URL Standard
abbrev pub default_port : Scheme → ℕ
default_port Http = 80
default_port Https = 443

-- the word of a scheme
abbrev pub scheme_text : Scheme → List ℕ
scheme_text Http = codes "http"
scheme_text Https = codes "https"

-- the place of a scheme among the variants
abbrev pub scheme_index : Scheme → ℕ
scheme_index Http = 0
scheme_index Https = 1
