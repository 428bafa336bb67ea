use Rattle.std.proofs.Common.{◌≡◌, ℕ, List, ◌∷◌, Option, Some, None, IfSome, sym}
use Rattle.std.specs.Char.{encode_utf8}
use Rattle.json.specs.Lex.{in_string, in_escape}
use Rattle.json.specs.Text.{after_backslash, after_u}
use Rattle.sentry_json.specs.Escaped.{StandsFor}
use Rattle.sentry_json.specs.declared.tape.rest.Rest.{Rest}
use Rattle.sentry_json.proofs.Escapes.{short_passes, unicode_passes}
use Rattle.sentry_json.proofs.tape.escape.split_escape.Goals as goal

-- what follows `\u` follows a backslash and a `u`
behind : (x : ℕ) (text more : List ℕ) (r : Option (ℕ × Rest)) → text ≡ x ∷ more → x ≡ 117 → IfSome r (λ p. StandsFor after_u in_string more (encode_utf8 p.0) p.1.text.now)
    → IfSome r (λ p. StandsFor after_backslash in_escape text (encode_utf8 p.0) p.1.text.now)
behind x text more None e u h = tt
behind x text more (Some p) e u h = unicode_passes x text more (encode_utf8 p.0) p.1.text.now e u h

pub returns-then-byte-eq117-clause-escape : goal.returns-then-byte-eq117-clause-escape
returns-then-byte-eq117-clause-escape c =
    behind c.in_ok-byte.field-0.now c.args.text.text.now c.in_ok-rest.rest.text.now c.split_unicode.result c.in_ok-rest.ensures c.if-byte-eq117.true c.split_unicode.ensures.escape

pub returns-clause-escape : goal.returns-clause-escape
returns-clause-escape c =
    let h = c.in_ok-short in
    let s = short_passes c.in_ok-byte.field-0.now h.field-0 c.args.text.text.now c.in_ok-rest.rest.text.now c.in_ok-rest.ensures (sym h.ensures.value) h.ensures.ascii in
    rw c.from.ensures s
