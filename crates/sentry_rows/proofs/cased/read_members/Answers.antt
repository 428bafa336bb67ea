use Rattle.std.proofs.Common.{[], ◌∷◌, refl}
use Rattle.serde_json.specs.View.{members_view}
use Rattle.sentry_tables.specs.Kind.{tag}
use Rattle.sentry_rows.proofs.Reading.{kept_ends}
use Rattle.sentry_rows.proofs.cased.read_members.Goals as goal

pub returns : goal.returns
returns g c = kept_ends g.N.Node.data_of [] (tag ∷ []) (λ m. members_view m.entries) c.others-members.result _ _ _ _ c.in_ok-from.ensures.object (_, refl, c.others-members.ensures) c.in_ok-from.ensures.failed c.end.ensures
