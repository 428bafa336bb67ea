use Rattle.std.proofs.Common.{◌≡◌, ◌∙◌, sym, Option, Some, None, false, ℕ, List, map, IfSome}
use Rattle.std.specs.Prelude.{is_some, IfNone}
use Rattle.sentry_json.specs.Keys.{is_among, StandsAt}
use Rattle.sentry_json.proofs.Beside.{among}
use Rattle.sentry_json.proofs.keys.is_among.Goals as goal

found : (key : List ℕ) (ks : List (List ℕ)) (r : Option ℕ) → IfSome r (λ i. StandsAt key i ks) → IfNone r (is_among key ks ≡ false) → is_some r ≡ is_among key ks
found key ks None at none = sym none
found key ks (Some i) at none = sym (among key i ks at)

pub returns : goal.returns
returns c = c.is_some.ensures ∙ found c.args.key.now (map (λ n. n.now) c.args.names.now) c.place.result c.place.ensures.found c.place.ensures.none
