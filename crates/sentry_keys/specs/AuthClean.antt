-- Authentications whose printed texts are read back.
use Rattle.std.specs.Prelude.{◌≡◌, ◌≢◌, ◌^◌, ◌<◌, ℕ, List, length, IfSome}
use Rattle.std.specs.List.{AllByRecursion}
use Rattle.std.specs.Str.{trim}
use Rattle.sentry_moments.specs.Rfc3339.{IsMomentTime}
use Rattle.sentry_keys.specs.Auth.{Parts}

-- the text holds no comma and no `=`, and there is no white space around it
abbrev pub IsClean : List ℕ → Type 0
IsClean text = AllByRecursion (λ b. (b ≢ 44) × (b ≢ 61)) text × (trim text ≡ text)

-- a version of 16 bits, the time of a moment, and clean texts, of which the key isn't empty
pub record AreClean (parts : Parts) : Type 0 where
  pub version : parts.version < 2 ^ 16
  pub timestamp : IfSome parts.timestamp (λ t. IsMomentTime t.0 t.1)
  pub key : IsClean parts.key
  pub nonempty : 0 < length parts.key
  pub client : IfSome parts.client IsClean
  pub secret : IfSome parts.secret IsClean
