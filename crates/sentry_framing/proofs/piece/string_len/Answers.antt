use Rattle.std.proofs.Common.{arith}
use Rattle.sentry_framing.proofs.Pieces.{ends_byte, ends_pair, ends_cut, ends_past, begun_end, begun_byte, begun_pair}
use Rattle.sentry_framing.proofs.piece.string_len.Goals as goal

pub returns-in-34-clause-found : goal.returns-in-34-clause-found
returns-in-34-clause-found c = begun_end c.args.bytes.now c.loop-i.i c.loop-i-test.true c.loop-i.invariant.begun c.in-34.is

pub loop-i-preserved-then-bytes-i-gt1 : goal.loop-i-preserved-then-bytes-i-gt1
loop-i-preserved-then-bytes-i-gt1 c =
    let s = c.args.bytes.now in
    let i = c.loop-i.i in
    let within = c.loop-i-test.true in
    record {
      begun = begun_pair s i within c.loop-i.invariant.begun c.in-92.is (omega arith);
      ends = λ t rest h e. ends_pair s i within rest (c.loop-i.invariant.ends t rest h e) c.in-92.is (omega arith);
    }

pub returns-in-92-2-clause-none : goal.returns-in-92-2-clause-none
returns-in-92-2-clause-none c t rest h e = ends_cut c.args.bytes.now c.loop-i.i c.loop-i-test.true rest (c.loop-i.invariant.ends t rest h e) c.in-92.is (omega arith)

pub loop-i-preserved : goal.loop-i-preserved
loop-i-preserved c =
    let s = c.args.bytes.now in
    let i = c.loop-i.i in
    let within = c.loop-i-test.true in
    record {
      begun = begun_byte s i within c.loop-i.invariant.begun (λ q. omega arith) (λ q. omega arith);
      ends = λ t rest h e. ends_byte s i within rest (c.loop-i.invariant.ends t rest h e) (λ q. omega arith) (λ q. omega arith);
    }

pub returns-clause-none : goal.returns-clause-none
returns-clause-none c t rest h e = ends_past c.args.bytes.now c.loop-i.i rest (omega arith) (c.loop-i.invariant.ends t rest h e)
