-- Where a DSN's events are sent.
use Rattle.std.specs.Prelude.{◌≡◌, ◌==◌, ℕ, List, [], ◌++◌, codes, Some, None, Err, if◌then◌else◌, ⊤}
use Rattle.url.specs.declared.error.ParseError.{ParseError}
use Rattle.url.specs.Parser.{parse_url}
use Rattle.sentry_keys.specs.declared.api_url.ApiUrlError.{ApiUrlError}
use Rattle.sentry_keys.specs.declared.api_url.ApiUrlError.TheVariants.{NotAUrl, Memory}
use Rattle.sentry_keys.specs.DsnScheme.{default_port, scheme_text}
use Rattle.sentry_keys.specs.Dsn.{DsnParts, port_of, port_text}

-- the port, unless it is that of the scheme
abbrev pub api_port_text : DsnParts → List ℕ
api_port_text d = if port_of d == default_port d.scheme then [] else port_text (Some (port_of d))

-- the address of an endpoint
abbrev pub api_text : DsnParts → List ℕ → List ℕ
api_text d endpoint =
    scheme_text d.scheme ++ (codes "://" ++ (d.host ++ (api_port_text d ++ (d.path ++ (codes "api/" ++ (d.project
    ++ (codes "/" ++ (endpoint ++ codes "/"))))))))

-- the endpoints for lone events and for envelopes
abbrev pub store_url : DsnParts → List ℕ
store_url d = api_text d (codes "store")

abbrev pub envelope_url : DsnParts → List ℕ
envelope_url d = api_text d (codes "envelope")

-- why a text became no URL
abbrev pub IsApiRefusal : List ℕ → ApiUrlError → Type 0
IsApiRefusal text NotAUrl = (e : ParseError) × (parse_url None text ≡ Err e)
IsApiRefusal text Memory = ⊤
