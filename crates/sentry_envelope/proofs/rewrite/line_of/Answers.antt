use Rattle.std.proofs.Common.{rules, ◌≡◌, [], ◌∷◌, ◌++◌, ap, ◌∙◌}
use Rattle.serde_json.specs.Written.{compact_text}
use Rattle.sentry_json.specs.Line.{newline}
use Rattle.sentry_tables.specs.Written.{tree}
use Rattle.sentry_envelope.specs.HeaderFields.{header_kind, headers_cell}
use Rattle.sentry_envelope.proofs.rewrite.line_of.Goals as goal

pub returns : goal.returns
returns c = λ both.
    let none : c.in_ok-line.line.items ≡ [] = search rules in
    c.in_ok-push.ensures.items ∙ ap (λ s. s ++ newline ∷ []) (c.in_ok-write_headers.ensures both ∙ ap (λ s. s ++ compact_text (tree header_kind (headers_cell c.args.headers.now))) none)
