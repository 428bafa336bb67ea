use Rattle.std.proofs.Common.{◌+◌, ◌-◌, ◌++◌, [], rules, arith, ap, sym, ◌∙◌, append_assoc, append-nil, drop, take, get_or, length, length-append}
use Rattle.std.proofs.lemmas.List.{take_rest}
use Rattle.std.proofs.lemmas.Result.{err_from_is_err_and}
use Rattle.json.specs.Print.{escape, escape_byte}
use Rattle.json.proofs.Printed.Room.{moved, length-quoted}
use Rattle.json.proofs.Printed.Strings.{escape_to_stop, escape_at, escape_end}
use Rattle.sentry_json.proofs.Appended.{front_stays, capacity_stays, no_room}
use Rattle.sentry_json.proofs.writer.put.append_escaped.Goals as goal

pub returns-in_err-reserve-clause-missing : goal.returns-in_err-reserve-clause-missing
returns-in_err-reserve-clause-missing c =
    let text = c.args.text.now in
    let close = c.args.close.now in
    let at = c.loop-out.at in
    let stop = at + c.run_len.result in
    let len = rw (take_rest text at) at c.run_len.ensures.value in
    let run = take (stop - at) (drop at text) in
    let parts = escape_to_stop text at stop close (ap (λ n. at + n) len) ∙ ap (λ l. run ++ l) (escape_end text stop close (search rules)) in
    let whole = ap (λ l. c.loop-out.out.items ++ l) (append_assoc run close [] ∙ sym parts) ∙ c.loop-out.invariant.1 in
    let none = no_room c.args.out.now.items c.loop-out.out.items (run ++ close) [] _ c.args.out.now.spare c.loop-out.out.spare whole c.loop-out.invariant.3 (omega (arith, c.in_err-reserve.ensures.missing, length-append run close)) in
    let p = err_from_is_err_and c.from_residual-in_err-reserve.result c.from_residual-in_err-reserve.ensures.1 in
    rw p.1 (omega (arith, none, length-quoted c.args.comma (escape text) close))

pub returns-then-stop-text-clause-ok : goal.returns-then-stop-text-clause-ok
returns-then-stop-text-clause-ok c =
    let text = c.args.text.now in
    let close = c.args.close.now in
    let at = c.loop-out.at in
    let stop = at + c.run_len.result in
    let len = rw (take_rest text at) at c.run_len.ensures.value in
    let run = moved _ _ _ _ _ _ c.push.ensures.appended.items (escape_to_stop text at stop close (ap (λ n. at + n) len)) (ap (λ l. l ++ (escape (drop at text) ++ close)) c.reserve.ensures.items ∙ c.loop-out.invariant.1) in
    sym (append-nil _) ∙ moved _ _ close [] _ _ c.push-then-stop-text.ensures.appended.items (escape_end text stop close (search rules)) run

pub returns-in_err-reserve_escape-clause-missing : goal.returns-in_err-reserve_escape-clause-missing
returns-in_err-reserve_escape-clause-missing c =
    let text = c.args.text.now in
    let close = c.args.close.now in
    let at = c.loop-out.at in
    let stop = at + c.run_len.result in
    let len = rw (take_rest text at) at c.run_len.ensures.value in
    let run = take (stop - at) (drop at text) in
    let part = escape_byte (get_or text stop 0) in
    let rest = escape (drop (stop + 1) text) ++ close in
    let parts = escape_to_stop text at stop close (ap (λ n. at + n) len) ∙ ap (λ l. run ++ l) (escape_at text stop close (search rules)) in
    let whole = ap (λ l. c.loop-out.out.items ++ l) (append_assoc run part rest ∙ sym parts) ∙ c.loop-out.invariant.1 in
    let none = no_room c.args.out.now.items c.loop-out.out.items (run ++ part) rest _ c.args.out.now.spare c.loop-out.out.spare whole c.loop-out.invariant.3 (omega (arith, c.in_err-reserve_escape.ensures.missing, length-append run part)) in
    let p = err_from_is_err_and c.from_residual-in_err-reserve_escape.result c.from_residual-in_err-reserve_escape.ensures.1 in
    rw p.1 (omega (arith, none, length-quoted c.args.comma (escape text) close))

pub loop-out-preserved : goal.loop-out-preserved
loop-out-preserved c =
    let text = c.args.text.now in
    let close = c.args.close.now in
    let at = c.loop-out.at in
    let stop = at + c.run_len.result in
    let len = rw (take_rest text at) at c.run_len.ensures.value in
    let run = moved _ _ _ _ _ _ c.push-in-loop-out.ensures.appended.items (escape_to_stop text at stop close (ap (λ n. at + n) len)) (ap (λ l. l ++ (escape (drop at text) ++ close)) c.reserve_escape.ensures.items ∙ c.loop-out.invariant.1) in
    let front = c.args.out.now.items in
    let before = ap (take (length front)) c.reserve_escape.ensures.items ∙ c.loop-out.invariant.2 in
    let out = c.reserve_escape.new.out in
    let then = c.push-in-loop-out.new.self in
    let room = capacity_stays out.items then.items (take (stop - at) (drop at text)) out.spare then.spare c.push-in-loop-out.ensures.appended.items c.push-in-loop-out.ensures.appended.room in
    let last = c.append_escape.new.out in
    let more = capacity_stays then.items last.items (escape_byte (get_or text stop 0)) then.spare last.spare c.append_escape.ensures.items c.append_escape.ensures.room in (
      search rules,
      moved _ _ _ _ _ _ c.append_escape.ensures.items (escape_at text stop close (search rules)) run,
      front_stays front _ _ _ (front_stays front _ _ _ before c.push-in-loop-out.ensures.appended.items) c.append_escape.ensures.items,
      omega (arith, c.loop-out.invariant.3, room, more, ap length c.reserve_escape.ensures.items, c.reserve_escape.ensures.kept),
    )
