use Rattle.std.proofs.Common.{refl, ◌≡◌, ◌∷◌, [], arith, ap, sym, ◌∙◌, if◌then◌else◌}
use Rattle.serde_json.specs.Data.{no_members, put}
use Rattle.sentry_json.specs.Scalars.{scalar_data, token_of}
use Rattle.sentry_json.specs.declared.tape.token.Token.TheVariants as token
use Rattle.sentry_json.proofs.Each.{same_length, values_at}
use Rattle.sentry_json.proofs.Flat.{begun, comma_next, object_ends, scalar_value}
use Rattle.sentry_json.proofs.WordsAndTexts.{string_spelled}
use Rattle.sentry_json.proofs.tape.flat.look_up_inside.Goals as goal

pub loop-key-init : goal.loop-key-init
loop-key-init c = (no_members, begun c.args.inside.text.now c.skip_space-left.result.text.now 0 c.skip_space-left.ensures.spaced, c.requires.empty)

pub loop-key-preserved : goal.loop-key-preserved
loop-key-preserved c =
    let so = c.loop-key.invariant in
    let key = c.in_ok-key in
    let q = key.ensures.quoted in
    let colon = c.in_ok-after_spaced.ensures.follows in
    let one = c.in_ok-scalar in
    let comma = c.in_ok-comma.ensures.follows in
    let next = c.in_ok-comma.next.text.now in
    let left = c.loop-key.left.text.now in
    let is_comma : comma.0 ≡ 44 ∷ next = comma.2 ∙ ap (λ is. (if is then 44 else 125) ∷ next) c.if-not-comma.false in (
      put key.key.now (scalar_data one.scalar) so.0,
      rw (← scalar_value one.scalar) (comma_next c.args.inside.text.now left key.behind.text.now colon.0 c.in_ok-after_spaced.field-0.text.now c.skip_space-value.result.text.now one.rest.text.now so.0 0 (token.Text key.key) key.key.now (token_of one.scalar) []
          so.1 (string_spelled left q.0 key.behind.text.now key.key.now (token.Text key.key) q.1 refl q.2) refl colon.1 colon.2 c.skip_space-value.ensures.spaced one.ensures.spelled
          comma.0 next c.skip_space-left-in-loop-key.result.text.now comma.1 is_comma c.skip_space-left-in-loop-key.ensures.spaced),
      c.put_in_place.ensures so.0 so.2,
    )

pub returns-then-not-comma : goal.returns-then-not-comma
returns-then-not-comma c =
    let so = c.loop-key.invariant in
    let key = c.in_ok-key in
    let q = key.ensures.quoted in
    let colon = c.in_ok-after_spaced.ensures.follows in
    let one = c.in_ok-scalar in
    let close = c.in_ok-comma.ensures.follows in
    let next = c.in_ok-comma.next.text.now in
    let left = c.loop-key.left.text.now in
    let is_close : close.0 ≡ 125 ∷ next = close.2 ∙ ap (λ is. (if is then 44 else 125) ∷ next) c.if-not-comma.true in
    let whole = object_ends c.args.inside.text.now left key.behind.text.now colon.0 c.in_ok-after_spaced.field-0.text.now c.skip_space-value.result.text.now one.rest.text.now so.0 0 (token.Text key.key) key.key.now (token_of one.scalar) []
    so.1 (string_spelled left q.0 key.behind.text.now key.key.now (token.Text key.key) q.1 refl q.2) refl colon.1 colon.2 c.skip_space-value.ensures.spaced one.ensures.spelled
    close.0 next 127 close.1 is_close (omega arith) in
    (whole.0, whole.1, c.put_in_place.ensures so.0 so.2 ∙ ap (values_at c.args.keys.now) (ap (λ d. put key.key.now d so.0) (sym (scalar_value one.scalar)) ∙ sym whole.2))

pub put_in_place-requires-clause-as_many : goal.put_in_place-requires-clause-as_many
put_in_place-requires-clause-as_many c = same_length _ _ c.loop-key.places c.args.keys.now c.loop-key.invariant.2
