use Rattle.std.proofs.Common.{◌≡◌, ◌++◌, length, string_bytes, ap, sym, arith, length-append}
use Rattle.std.specs.Char.{encode_utf8}
use Rattle.std.specs.Result.{is_ok}
use Rattle.sentry_json.proofs.Escapes.{and_then, closed, escaped, pushed, run_read}
use Rattle.sentry_json.proofs.tape.escape.split_escaped.Goals as goal

pub loop-escape-preserved-in-Some : goal.loop-escape-preserved-in-Some
loop-escape-preserved-in-Some c =
    let l = c.loop-escape in
    let rest = l.rest.text.now in
    let bytes = string_bytes l.content in
    let e = c.in_ok-character in
    let content : string_bytes c.push.new.self ≡ bytes ++ encode_utf8 e.character = pushed (is_ok c.push.result) bytes (encode_utf8 e.character) _ c.push.ensures.bytes (sym (ap is_ok c.in-Ok-push.is)) in
    let k = escaped rest c.in-Some.escape.text.now (encode_utf8 e.character) e.after.text.now c.in-Some.ensures e.ensures.escape in
    record {
      read = rw content (and_then _ _ c.args.inside.text.now bytes rest (encode_utf8 e.character) e.after.text.now l.invariant.read k);
      within = omega (arith, l.invariant.within, ap length c.in-Some.ensures, e.ensures.shorter);
    }

pub returns-in-Some-after-clause-quoted : goal.returns-in-Some-after-clause-quoted
returns-in-Some-after-clause-quoted c =
    let l = c.loop-escape in
    let r = c.split_run in
    let run = r.result.0.now in
    let stop = r.result.1.text.now in
    let bytes = string_bytes l.content in
    let content : string_bytes c.push_str.new.self ≡ bytes ++ run = pushed (is_ok c.push_str.result) bytes run _ c.push_str.ensures.bytes (sym (ap is_ok c.in-Ok-push_str.is)) in
    let h = run_read c.args.inside.text.now bytes l.rest.text.now run stop l.invariant.read r.ensures.parts r.ensures.plain in
    rw content (closed c.args.inside.text.now (bytes ++ run) stop c.in-Some-after.after.text.now c.in-Some-after.ensures h)

pub loop-escape-preserved : goal.loop-escape-preserved
loop-escape-preserved c =
    let l = c.loop-escape in
    let r = c.split_run in
    let run = r.result.0.now in
    let stop = r.result.1.text.now in
    let bytes = string_bytes l.content in
    let content : string_bytes c.push_str.new.self ≡ bytes ++ run = pushed (is_ok c.push_str.result) bytes run _ c.push_str.ensures.bytes (sym (ap is_ok c.in-Ok-push_str.is)) in
    record {
      read = rw content (run_read c.args.inside.text.now bytes l.rest.text.now run stop l.invariant.read r.ensures.parts r.ensures.plain);
      within = omega (arith, l.invariant.within, simp length-append at (ap length r.ensures.parts));
    }
