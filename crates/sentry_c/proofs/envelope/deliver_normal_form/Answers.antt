use Rattle.sentry_moments.specs.Moments.{moment_cell}
use Rattle.sentry_items.specs.Texts.{bytes_of}
use Rattle.sentry_envelope.specs.NormalText.{IsNormalText}
use Rattle.sentry_c.proofs.Pieces.{puts_given, too_long_given}
use Rattle.sentry_c.proofs.envelope.deliver_normal_form.Goals as goal

pub returns-clause-written : goal.returns-clause-written
returns-clause-written c = λ is.
    puts_given (IsNormalText c.args.bytes.now (moment_cell c.args.now)) (bytes_of c.in_ok-text.text) c.in_ok-text.ensures.normal c.args.out.now c.deliver_text.new.out c.deliver_text.new.needed
    (c.in_ok-deliver_text.ensures.written (cc))

pub returns-clause-no_room : goal.returns-clause-no_room
returns-clause-no_room c = λ is.
    too_long_given (IsNormalText c.args.bytes.now (moment_cell c.args.now)) (bytes_of c.in_ok-text.text) c.in_ok-text.ensures.normal c.args.out.now c.deliver_text.new.needed
    (c.in_ok-deliver_text.ensures.no_room (cc))
