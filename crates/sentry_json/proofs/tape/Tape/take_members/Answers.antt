use Rattle.std.proofs.Common.{rules, refl, true, ◌≡◌, ◌∷◌, [], ◌++◌, arith, ap, sym, ◌∙◌, if◌then◌else◌, map, bytes_eq, Some}
use Rattle.serde_json.specs.Data.{no_members, put}
use Rattle.serde_json.specs.Find.{get_member}
use Rattle.sentry_json.specs.Keys.{among, is_among}
use Rattle.sentry_json.specs.Tokens.{kept, value_of}
use Rattle.sentry_json.specs.declared.tape.token.Token.TheVariants as token
use Rattle.sentry_json.proofs.AtKeys.{kept_one, all_kept, found_one}
use Rattle.sentry_json.proofs.Flat.{begun, comma_next, object_ends}
use Rattle.sentry_json.proofs.Regular.{put_ordered}
use Rattle.sentry_json.proofs.SoFar.{empty}
use Rattle.sentry_json.proofs.TokenLists.{members_end}
use Rattle.sentry_json.proofs.tape.Tape.take_members.Goals as goal

pub loop-found-init : goal.loop-found-init
loop-found-init c =
    let pushed : c.keep.new.self.tokens.items ≡ token.Object 0 ∷ [] = c.in_ok-keep.ensures ∙ ap (λ ts. ts ++ token.Object 0 ∷ []) c.requires.empty in
    (no_members, begun c.args.inside.text.now c.skip_space-left.result.text.now 126 c.skip_space-left.ensures.spaced, tt, [], pushed, λ ts. refl, refl)

pub loop-found-preserved : goal.loop-found-preserved
loop-found-preserved c =
    let so = c.loop-found.invariant in
    let key = c.in_ok-key in
    let colon = c.in_ok-after_spaced.ensures.follows in
    let v = c.in_ok-rest.ensures.spelled in
    let comma = c.in_ok-comma.ensures.follows in
    let next = c.in_ok-comma.next.text.now in
    let ks = map (λ k. k.now) c.args.keys.now in
    let more = kept (is_among key.key.now ks) (token.Text key.key ∷ v.0 ∷ v.1) in
    let apart = c.args.apart.now in
    let found = v.4 ∙ ap (λ o. if bytes_eq key.key.now apart then Some (value_of v.0 v.1) else o) so.6 ∙ sym (found_one apart key.key.now (value_of v.0 v.1) so.0) in (
      put key.key.now (value_of v.0 v.1) so.0,
      comma_next c.args.inside.text.now c.loop-found.left.text.now key.behind.text.now colon.0 c.in_ok-after_spaced.field-0.text.now c.skip_space-value.result.text.now c.in_ok-rest.rest.text.now so.0 126 (token.Text key.key) key.key.now v.0 v.1
          so.1 key.ensures.spelled refl colon.1 colon.2 c.skip_space-value.ensures.spaced v.3
          comma.0 next c.skip_space-left-in-loop-found.result.text.now comma.1 (comma.2 ∙ ap (λ is. (if is then 44 else 125) ∷ next) c.if-not-comma.false) c.skip_space-left-in-loop-found.ensures.spaced,
      put_ordered key.key.now (value_of v.0 v.1) so.0 so.2,
      so.3 ++ more,
      v.2 ∙ ap (λ ts. ts ++ more) (key.ensures.tokens ∙ so.4),
      kept_one ks so.3 so.0 (token.Text key.key) v.0 v.1 key.key.now refl v.3.closed so.2 so.5,
      found,
    )

pub returns-then-not-comma : goal.returns-then-not-comma
returns-then-not-comma c =
    let so = c.loop-found.invariant in
    let key = c.in_ok-key in
    let colon = c.in_ok-after_spaced.ensures.follows in
    let v = c.in_ok-rest.ensures.spelled in
    let close = c.in_ok-comma.ensures.follows in
    let next = c.in_ok-comma.next.text.now in
    let ks = map (λ k. k.now) c.args.keys.now in
    let more = kept (is_among key.key.now ks) (token.Text key.key ∷ v.0 ∷ v.1) in
    let apart = c.args.apart.now in
    let found = v.4 ∙ ap (λ o. if bytes_eq key.key.now apart then Some (value_of v.0 v.1) else o) so.6 ∙ sym (found_one apart key.key.now (value_of v.0 v.1) so.0) in
    let whole = object_ends c.args.inside.text.now c.loop-found.left.text.now key.behind.text.now colon.0 c.in_ok-after_spaced.field-0.text.now c.skip_space-value.result.text.now c.in_ok-rest.rest.text.now so.0 126 (token.Text key.key) key.key.now v.0 v.1
    so.1 key.ensures.spelled refl colon.1 colon.2 c.skip_space-value.ensures.spaced v.3
    close.0 next 127 close.1 (close.2 ∙ ap (λ is. (if is then 44 else 125) ∷ next) c.if-not-comma.true) (omega arith) in (
      whole.0,
      so.3 ++ more,
      whole.1,
      c.tell_width.ensures [] (so.3 ++ more) (token.Object 0) refl (v.2 ∙ ap (λ ts. ts ++ more) (key.ensures.tokens ∙ so.4)),
      all_kept ks so.3 so.0 (token.Text key.key) v.0 v.1 key.key.now refl v.3.closed so.2 so.5 ∙ ap (among ks) (sym whole.2),
      found ∙ ap (get_member apart) (sym whole.2),
    )

pub returns-in-Some : goal.returns-in-Some
returns-in-Some c =
    let pushed : c.keep.new.self.tokens.items ≡ token.Object 0 ∷ [] = c.in_ok-keep.ensures ∙ ap (λ ts. ts ++ token.Object 0 ∷ []) c.requires.empty in
    let none = members_end no_members in
    ([], [], empty true c.args.inside.text.now c.in-Some.rest.text.now 127 c.in-Some.ensures.follows (omega arith), pushed, none ∙ ap (among (map (λ k. k.now) c.args.keys.now)) (sym none), ap (get_member c.args.apart.now) (sym none))
