use Rattle.std.proofs.Common.{◌++◌, ap, ◌∙◌, append_assoc}
use Rattle.json.specs.Print.{escape}
use Rattle.sentry_items.proofs.Runs.{run_written}
use Rattle.sentry_items.proofs.escaped.write_escaped.Goals as goal

pub loop-byte-preserved-then-is_plain : goal.loop-byte-preserved-then-is_plain
loop-byte-preserved-then-is_plain c =
    let run = c.split_at.result.0.now in
    let kept = c.loop-byte.invariant.1 in
    let more = c.in_ok-extend_from_slice.ensures.items in (
      run_written c.loop-byte.rest.now run c.split_at.result.1.now c.loop-byte.out.items c.extend_from_slice.new.self.items (c.args.out.now.items ++ escape c.args.text.now) c.run_len.result c.run_len.ensures.value c.split_at.ensures.front c.split_at.ensures.back more c.loop-byte.invariant.0,
      (kept.0 ++ run, more ∙ ap (λ s. s ++ run) kept.1 ∙ append_assoc c.args.out.now.items kept.0 run),
    )
