use Rattle.std.proofs.Common.{◌≡◌, ◌∙◌, sym}
use Rattle.std.specs.String.{string_bytes}
use Rattle.sentry_tables.proofs.Spellings.{spelling_wrote}
use Rattle.sentry_keys.specs.Dsn.{dsn_parts, dsn_text}
use Rattle.sentry_keys.specs.DsnTree.{dsn_cell, dsn_spelling}
use Rattle.sentry_keys.proofs.DsnTrees.{parts_written}
use Rattle.sentry_keys.proofs.dsn_tree.DsnMember.write.Goals as goal

pub returns : goal.returns
returns c =
    let dsn = dsn_parts c.args.self.now in
    let printed : string_bytes c.in_ok-text.text ≡ dsn_text dsn = c.in_ok-text.ensures.ok in
    spelling_wrote dsn_spelling (dsn_cell c.args.self.now) c.as_str.result.now c.string.result c.args.out.now c.string.new.self (c.as_str.ensures.value ∙ printed ∙ sym (parts_written dsn)) c.string.ensures
