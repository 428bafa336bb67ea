use Rattle.std.proofs.Common.{◌∙◌, ◌<◌, length, rules}
use Rattle.std.proofs.lemmas.List.{length-map}
use Rattle.sentry_json.specs.Scalars.{scalar_data}
use Rattle.sentry_json.proofs.Beside.{stands_within}
use Rattle.sentry_json.proofs.Each.{names_of, others_stay, place_set}
use Rattle.sentry_json.proofs.tape.flat.put_in_place.Goals as goal

pub bounds-places-i : goal.bounds-places-i
bounds-places-i c = rw (c.requires.as_many, ← length-map c.args.keys.now (λ key. key.now)) (stands_within c.args.key.now c.in-Some.i (names_of c.args.keys.now) c.in-Some.ensures.found)

pub offset_bounds-places-i : goal.offset_bounds-places-i
offset_bounds-places-i c =
    let within : c.in-Some.i < length c.args.places.now = rw (c.requires.as_many, ← length-map c.args.keys.now (λ key. key.now)) (stands_within c.args.key.now c.in-Some.i (names_of c.args.keys.now) c.in-Some.ensures.found) in
    search (within, rules)

pub returns-in-Some : goal.returns-in-Some
returns-in-Some c = λ before h. place_set scalar_data c.args.keys.now c.args.places.now c.args.key.now c.in-Some.i c.args.scalar before c.in-Some.ensures.found c.requires.distinct h

pub returns-in_default : goal.returns-in_default
returns-in_default c = λ before h. h ∙ others_stay c.args.keys.now c.args.key.now (scalar_data c.args.scalar) before c.in_default.ensures.none
