-- Members after members: that the two sinks go on.
use Rattle.std.proofs.Common.{◌≡◌, ◌∷◌, ◌++◌, false, refl, ap, ◌∙◌, append_assoc}
use Rattle.std.proofs.lemmas.Bool.{or_parts, or_from}
use Rattle.json.specs.Token.{Token}
use Rattle.json.specs.Written.{Written}
use Rattle.serde_json.specs.Data.{Members, no_members, member, put}
use Rattle.serde_json.specs.Written.{has_float, members_have_float}
use Rattle.sentry_tables.specs.Written.{put_all}
use Rattle.sentry_writing.specs.Given.{both}
use Rattle.sentry_tables.specs.Continued.{continues_on, continues_as}
use Rattle.sentry_tables.specs.Writes.{tokens_of, member_tokens, WritesMembers}

-- ---- text

pub tokens-both : (ms ns : Members) → member_tokens ms ++ member_tokens ns ≡ member_tokens (both ms ns)
tokens-both no_members ns = refl
tokens-both (member k d ms) ns = ap (λ ts. Token.key k ∷ ts) (append_assoc (tokens_of d) (member_tokens ms) (member_tokens ns) ∙ ap (λ ts. tokens_of d ++ ts) (tokens-both ms ns))

pub floats-both : (ms ns : Members) → members_have_float (both ms ns) ≡ false → (members_have_float ms ≡ false) × (members_have_float ns ≡ false)
floats-both no_members ns h = (refl, h)
floats-both (member k d ms) ns h =
    let p = or_parts (has_float d) (members_have_float (both ms ns)) h in
    let q = floats-both ms ns p.1 in
    (or_from (has_float d) (members_have_float ms) p.0 q.0, q.1)

pub members_join : (ms ns : Members) (a b c : Written) → WritesMembers ms a b → WritesMembers ns b c → WritesMembers (both ms ns) a c
unfolding WritesMembers
members_join ms ns a b c x y h =
    let p = floats-both ms ns h in
    continues_as a c (member_tokens ms ++ member_tokens ns) (member_tokens (both ms ns)) (tokens-both ms ns) (continues_on a b c (member_tokens ms) (member_tokens ns) (x p.0) (y p.1))

-- ---- trees

pub put_all-both : (ms ns others : Members) → put_all ns (put_all ms others) ≡ put_all (both ms ns) others
put_all-both no_members ns others = refl
put_all-both (member k d ms) ns others = put_all-both ms ns (put k d others)

pub put_both : (ms ns a b c : Members) → b ≡ put_all ms a → c ≡ put_all ns b → c ≡ put_all (both ms ns) a
put_both ms ns a b c x y = y ∙ ap (put_all ns) x ∙ put_all-both ms ns a
