use Rattle.std.proofs.Common.{rules, ◌<◌, ◌≤◌, length, refl}
use Rattle.sentry_c.proofs.Rowed.{noted_over, noted_row}
use Rattle.sentry_c.proofs.mending.push_note.Goals as goal

pub returns-in_ok-push : goal.returns-in_ok-push
returns-in_ok-push c =
    let room : length c.args.notes.now.rows.items < c.args.most = search rules in
    λ front before noted.
    noted_row front c.args.most before (c.args.item.now, c.args.note.now) c.in_ok-row.row c.args.notes.now (record { rows = c.push.new.self; count = c.saturating_add-notes.result; texts = c.row_of.new.texts }) room
    c.saturating_add-notes.ensures c.in_ok-row.ensures.grown c.in_ok-row.ensures.tells c.in_ok-push.ensures.items noted

pub returns-else-len-most : goal.returns-else-len-most
returns-else-len-most c =
    let full : c.args.most ≤ length c.args.notes.now.rows.items = search rules in
    λ front before noted.
    noted_over front c.args.most before (c.args.item.now, c.args.note.now) c.args.notes.now (record { rows = c.args.notes.now.rows; count = c.saturating_add-notes.result; texts = c.args.notes.now.texts }) full
    c.saturating_add-notes.ensures refl refl noted
