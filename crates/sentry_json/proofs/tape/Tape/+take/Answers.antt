use Rattle.std.proofs.Common.{rules, refl, ◌≡◌, ◌++◌, ◌∷◌, [], length, if◌then◌else◌, ap, ◌∙◌, arith, not, ◌==◌}
use Rattle.sentry_json.specs.Tokens.{kept}
use Rattle.sentry_json.specs.Spelled.{IsBehind}
use Rattle.sentry_json.proofs.SoFar.{bracket, closes, empty, begins, next_key, next_value, ends, skipped, kept_more, value_before, string_before}
use Rattle.sentry_json.proofs.WordsAndTexts.{string_spelled, text_spelled}
use Rattle.sentry_json.specs.declared.tape.token.Token.TheVariants as token
use Rattle.sentry_json.proofs.tape.Tape.+take.Goals as goal

pub take_inside-returns-in-Some-clause-spelled : goal.take_inside-returns-in-Some-clause-spelled
take_inside-returns-in-Some-clause-spelled g t c =
    let pushed : c.keep.new.self.tokens.items ≡ c.args.self.now.tokens.items ++ kept (not (g.row.KEPT == 0)) (bracket c.args.object 0 ∷ []) = search rules in
    let behind = c.in-Some.ensures.follows in
    let close : IsBehind (closes c.args.object) c.args.text.text.now c.in-Some.rest.text.now = (behind.0, behind.1, behind.2 ∙ ap (λ b. b ∷ c.in-Some.rest.text.now) c.closing-close.ensures) in
    (bracket c.args.object 0, [], pushed, empty c.args.object c.args.text.text.now c.in-Some.rest.text.now c.args.depth close (omega (arith, c.in_ok-depth.ensures)))

pub take_inside-loop-next-init : goal.take_inside-loop-next-init
take_inside-loop-next-init g t c =
    let pushed : c.keep.new.self.tokens.items ≡ c.args.self.now.tokens.items ++ kept (not (g.row.KEPT == 0)) (bracket c.args.object 0 ∷ []) = search rules in
    ([], pushed, begins (not (g.row.FLOATS == 0)) c.args.object c.args.text.text.now c.in_ok-depth.depth, omega arith)

pub take_inside-loop-next-preserved-in-Some-after_space : goal.take_inside-loop-next-preserved-in-Some-after_space
take_inside-loop-next-preserved-in-Some-after_space g t c =
    let l = c.loop-next in
    let i = l.invariant in
    let space = c.in-Some-after_space in
    let next = space.next.text.now in
    let front = c.skip_space-left.result.text.now in (
      i.0,
      i.1,
      skipped (not (g.row.FLOATS == 0)) c.args.object l.key c.args.text.text.now next front i.0 c.in_ok-depth.depth c.skip_space-left.ensures.spaced (skipped (not (g.row.FLOATS == 0)) c.args.object l.key c.args.text.text.now l.left.text.now next i.0 c.in_ok-depth.depth space.ensures.spaced i.2),
      omega (arith, i.3, space.ensures.shorter, c.skip_space-left.ensures.within),
    )

pub take_inside-loop-next-preserved-then-key : goal.take_inside-loop-next-preserved-then-key
take_inside-loop-next-preserved-then-key g t c =
    let l = c.loop-next in
    let i = l.invariant in
    let colon = c.in_ok-left.ensures.follows in
    let k = c.in_ok-rest.ensures.string c.if-key.true in (
      i.0 ++ k.0 ∷ [],
      k.1 ∙ ap (λ ts. ts ++ kept (not (g.row.KEPT == 0)) (k.0 ∷ [])) i.1 ∙ kept_more (not (g.row.KEPT == 0)) c.args.self.now.tokens.items i.0 (k.0 ∷ []) (bracket c.args.object 0),
      next_key (not (g.row.FLOATS == 0)) c.args.object l.key c.args.text.text.now l.left.text.now colon.0 c.in_ok-left.left.text.now i.0 k.0 c.in_ok-depth.depth c.if-key.true i.2 (string_before l.left.text.now c.in_ok-rest.rest.text.now colon.0 k.0 k.2 colon.1) colon.2,
      omega (arith, i.3, c.in_ok-rest.ensures.shorter, c.in_ok-left.ensures.shorter),
    )

pub take_inside-loop-next-preserved : goal.take_inside-loop-next-preserved
take_inside-loop-next-preserved g t c =
    let l = c.loop-next in
    let i = l.invariant in
    let v = c.in_ok-rest.ensures.spelled in
    let next = c.in_ok-comma.next.text.now in
    let comma = c.in_ok-comma.ensures.follows in (
      i.0 ++ (v.0 ∷ v.1),
      v.2 ∙ ap (λ ts. ts ++ kept (not (g.row.KEPT == 0)) (v.0 ∷ v.1)) i.1 ∙ kept_more (not (g.row.KEPT == 0)) c.args.self.now.tokens.items i.0 (v.0 ∷ v.1) (bracket c.args.object 0),
      next_value c.args.object l.key c.args.text.text.now l.left.text.now comma.0 next i.0 v.0 v.1 c.in_ok-depth.depth c.if-key.false i.2 (value_before l.left.text.now c.in_ok-rest.rest.text.now comma.0 v.0 v.1 c.in_ok-depth.depth v.3 comma.1) (comma.2 ∙ ap (λ is. (if is then 44 else c.closing-close.result) ∷ next) c.if-comma.true),
      omega (arith, i.3, c.in_ok-rest.ensures.shorter, c.in_ok-comma.ensures.shorter),
    )

pub take_inside-returns-in-loop-next-clause-spelled : goal.take_inside-returns-in-loop-next-clause-spelled
take_inside-returns-in-loop-next-clause-spelled g t c =
    let l = c.loop-next in
    let i = l.invariant in
    let v = c.in_ok-rest.ensures.spelled in
    let next = c.in_ok-comma.next.text.now in
    let end = c.in_ok-comma.ensures.follows in
    let old = c.args.self.now.tokens.items in
    let all = c.take_value.new.self.tokens.items in
    let done = i.0 ++ (v.0 ∷ v.1) in
    let keeps = not (g.row.KEPT == 0) in
    let are : all ≡ old ++ kept keeps (bracket c.args.object 0 ∷ done) = v.2 ∙ ap (λ ts. ts ++ kept keeps (v.0 ∷ v.1)) i.1 ∙ kept_more keeps old i.0 (v.0 ∷ v.1) (bracket c.args.object 0) in
    let place : c.len-place.result ≡ length old = search rules in
    let close = end.2 ∙ ap (λ is. (if is then 44 else c.closing-close.result) ∷ next) c.if-comma.false ∙ ap (λ b. b ∷ next) c.closing-close.ensures in (
      bracket c.args.object (length done),
      done,
      c.tell_width.ensures old done (bracket c.args.object 0) place are,
      ends c.args.object l.key c.args.text.text.now l.left.text.now end.0 next i.0 v.0 v.1 c.in_ok-depth.depth c.args.depth c.if-key.false i.2 (value_before l.left.text.now c.in_ok-rest.rest.text.now end.0 v.0 v.1 c.in_ok-depth.depth v.3 end.1) close (omega (arith, c.in_ok-depth.ensures)),
    )

pub take_value-returns-in-Some-clause-spelled : goal.take_value-returns-in-Some-clause-spelled
take_value-returns-in-Some-clause-spelled g t c =
    let text = c.args.text.text.now in
    let plain = c.in-Some in
    let q = plain.ensures.quoted in
    let pushed : c.keep.new.self.tokens.items ≡ c.args.self.now.tokens.items ++ kept (not (g.row.KEPT == 0)) (token.Text plain.string ∷ []) = search rules in
    (token.Text plain.string, [], pushed, text_spelled text plain.rest.text.now (token.Text plain.string) c.args.depth (string_spelled text q.0 plain.rest.text.now plain.string.now (token.Text plain.string) q.1 refl q.2))

pub take_value-returns-in-Some-clause-string : goal.take_value-returns-in-Some-clause-string
take_value-returns-in-Some-clause-string g t c due =
    let text = c.args.text.text.now in
    let plain = c.in-Some in
    let q = plain.ensures.quoted in
    let pushed : c.keep.new.self.tokens.items ≡ c.args.self.now.tokens.items ++ kept (not (g.row.KEPT == 0)) (token.Text plain.string ∷ []) = search rules in
    (token.Text plain.string, pushed, string_spelled text q.0 plain.rest.text.now plain.string.now (token.Text plain.string) q.1 refl q.2)
