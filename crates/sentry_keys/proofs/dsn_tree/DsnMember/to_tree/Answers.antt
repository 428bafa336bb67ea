use Rattle.std.proofs.Common.{◌≡◌, ◌∙◌, sym}
use Rattle.std.specs.String.{string_bytes}
use Rattle.sentry_keys.specs.Dsn.{dsn_parts, dsn_text}
use Rattle.sentry_keys.specs.DsnTree.{dsn_cell}
use Rattle.sentry_keys.proofs.DsnTrees.{tree_made, parts_written}
use Rattle.sentry_keys.proofs.dsn_tree.DsnMember.to_tree.Goals as goal

pub returns : goal.returns
returns c =
    let dsn = dsn_parts c.args.self.now in
    let printed : string_bytes c.in_ok-to_string.field-0 ≡ dsn_text dsn = c.in_ok-to_string.ensures.ok in
    tree_made (dsn_cell c.args.self.now) c.as_str.result.now c.try_from_str.result (c.as_str.ensures.value ∙ printed ∙ sym (parts_written dsn)) c.try_from_str.ensures
