use Rattle.std.proofs.Common.{[], inr, option_map, rules, string_bytes}
use Rattle.std.proofs.lemmas.Result.{err_from_is_err_and}
use Rattle.sentry_moments.specs.Moments.{moment_cell}
use Rattle.sentry_items.specs.Texts.{bytes_of}
use Rattle.sentry_env.specs.Run.{dues, left_due, settings}
use Rattle.sentry_env.specs.Streams.{streams, writer_stream}
use Rattle.sentry_env.specs.declared.ending.Outcome.TheVariants.{Written}
use Rattle.sentry_env.proofs.RunLemmas.{broken, reads_left, reads_whole, refused, unsent, written}
use Rattle.sentry_env.proofs.run.run.Goals as goal

pub returns-in_err-text : goal.returns-in_err-text
returns-in_err-text g c =
    let exit = err_from_is_err_and c.from_residual-in_err-text.result c.from_residual-in_err-text.ensures.1 in
    rw (exit.1, exit.2)
    (refused (settings c.args.kinds.now c.args.keep_headers (moment_cell c.args.now))
    (streams g.R.Read.remaining g.W.Write.contents g.T.Write.contents c.args.reader.now c.args.out.now c.args.table.now) _ c.in_ok-bytes.ensures.all c.deref.ensures.value c.in_err-text.ensures.fault)

pub returns-in_err-send : goal.returns-in_err-send
returns-in_err-send g c =
    let exit = err_from_is_err_and c.from_residual-in_err-send.result c.from_residual-in_err-send.ensures.1 in
    let set = settings c.args.kinds.now c.args.keep_headers (moment_cell c.args.now) in
    let text = bytes_of c.in_ok-text.text in
    rw (exit.1, exit.2)
    (broken set (streams g.R.Read.remaining g.W.Write.contents g.T.Write.contents c.args.reader.now c.args.out.now c.args.table.now)
    (writer_stream g.W.Write.contents c.send.new.writer) (dues text [] Written) (reads_whole set text (search rules) c.in_ok-bytes.ensures.all c.deref.ensures.value c.in_ok-text.ensures.normal)
    (c.in_err-send.ensures.front, c.in_err-send.ensures.one_failure))

pub returns-then-is_empty : goal.returns-then-is_empty
returns-then-is_empty g c =
    let set = settings c.args.kinds.now c.args.keep_headers (moment_cell c.args.now) in
    let text = bytes_of c.in_ok-text.text in
    written set (streams g.R.Read.remaining g.W.Write.contents g.T.Write.contents c.args.reader.now c.args.out.now c.args.table.now)
    (writer_stream g.W.Write.contents c.send.new.writer) text (reads_whole set text (search rules) c.in_ok-bytes.ensures.all c.deref.ensures.value c.in_ok-text.ensures.normal)
    (c.in_ok-send.ensures.whole, c.in_ok-send.ensures.no_failure)

pub returns-in_err-left : goal.returns-in_err-left
returns-in_err-left g c =
    let exit = err_from_is_err_and c.from_residual-in_err-left.result c.from_residual-in_err-left.ensures.1 in
    rw (exit.1, exit.2)
    (refused (settings c.args.kinds.now c.args.keep_headers (moment_cell c.args.now))
    (streams g.R.Read.remaining g.W.Write.contents g.T.Write.contents c.args.reader.now c.args.out.now c.args.table.now) _ c.in_ok-bytes.ensures.all c.deref-2.ensures.value c.in_err-left.ensures.fault)

pub returns-in_err-outcome : goal.returns-in_err-outcome
returns-in_err-outcome g c =
    let exit = err_from_is_err_and c.from_residual-in_err-outcome.result c.from_residual-in_err-outcome.ensures.1 in
    let set = settings c.args.kinds.now c.args.keep_headers (moment_cell c.args.now) in
    let reads =
    reads_left set (option_map bytes_of c.in_ok-left.left.text) c.in_ok-left.left.losses.items (string_bytes c.in_ok-losses.losses) (search rules) c.in_ok-bytes.ensures.all c.deref-2.ensures.value c.in_ok-left.ensures.left
    (rw c.deref-3.ensures.value at c.in_ok-losses.ensures) in
    rw (exit.1, exit.2)
    (unsent set (streams g.R.Read.remaining g.W.Write.contents g.T.Write.contents c.args.reader.now c.args.out.now c.args.table.now)
    (writer_stream g.W.Write.contents c.send_left.new.out) _ _ reads c.in_err-outcome.ensures.sent)

pub returns-in_err-send-2 : goal.returns-in_err-send-2
returns-in_err-send-2 g c =
    let exit = err_from_is_err_and c.from_residual-in_err-send-2.result c.from_residual-in_err-send-2.ensures.1 in
    let set = settings c.args.kinds.now c.args.keep_headers (moment_cell c.args.now) in
    rw (exit.1, exit.2) (record {
      due = left_due (option_map bytes_of c.in_ok-left.left.text) (string_bytes c.in_ok-losses.losses);
      reads =
          reads_left set (option_map bytes_of c.in_ok-left.left.text) c.in_ok-left.left.losses.items (string_bytes c.in_ok-losses.losses) (search rules) c.in_ok-bytes.ensures.all c.deref-2.ensures.value c.in_ok-left.ensures.left
          (rw c.deref-3.ensures.value at c.in_ok-losses.ensures);
      part = inr (c.in_ok-outcome.ensures.sent, (rw c.as_bytes.ensures.value at c.in_err-send-2.ensures.front, c.in_err-send-2.ensures.one_failure));
    })

pub returns : goal.returns
returns g c =
    let set = settings c.args.kinds.now c.args.keep_headers (moment_cell c.args.now) in
    record {
      due = left_due (option_map bytes_of c.in_ok-left.left.text) (string_bytes c.in_ok-losses.losses);
      reads =
          reads_left set (option_map bytes_of c.in_ok-left.left.text) c.in_ok-left.left.losses.items (string_bytes c.in_ok-losses.losses) (search rules) c.in_ok-bytes.ensures.all c.deref-2.ensures.value c.in_ok-left.ensures.left
          (rw c.deref-3.ensures.value at c.in_ok-losses.ensures);
      out_gets = c.in_ok-outcome.ensures.sent;
      table_gets = (rw c.as_bytes.ensures.value at c.in_ok-send-2.ensures.whole, c.in_ok-send-2.ensures.no_failure);
      outcome_is = c.in_ok-outcome.ensures.outcome;
    }
