use Rattle.std.proofs.Common.{rules, ◌∙◌}
use Rattle.std.proofs.lemmas.List.Elements.{All-push}
use Rattle.sentry_show.specs.Rows.{IsRowOf}
use Rattle.sentry_show.proofs.RowLemmas.{stands_more}
use Rattle.sentry_show.proofs.survey.read_rows.Goals as goal

pub loop-next-preserved : goal.loop-next-preserved
loop-next-preserved c =
    let inv = c.loop-next.invariant in
    let pushed = rw c.in_ok-push.was at c.push.ensures.items in
    let first = rw c.in-Ok.is at c.in-Some.ensures.frame in
    let header = rw c.in-Ok.is at c.in-Some.ensures.header in
    let placed = rw (c.in-Ok.is, inv.bytes) at c.in-Some.ensures.placed in
    record {
      bytes = c.in-Some.ensures.bytes ∙ inv.bytes;
      each = rw pushed (All-push (IsRowOf _) _ _ inv.each (record { placed = placed; named = header; judged = c.in_ok-accepted.ensures }));
      frames = rw pushed (stands_more _ _ _ _ _ inv.frames first);
    }
