use Rattle.std.proofs.Common.{sym}
use Rattle.std.proofs.lemmas.List.{take_rest}
use Rattle.sentry_forward.proofs.FlatHeaders.{adds_length, adds_other, adds_type}
use Rattle.sentry_forward.proofs.flat.split_member.Goals as goal

pub returns-then-is_type : goal.returns-then-is_type
returns-then-is_type c =
    rw c.as_text.ensures (adds_type c.args.bytes.now c.in_ok-key.key.now c.in_ok-key.behind.now c.in_ok-value.value.now c.in_ok-key.ensures.text c.in_ok-value.ensures c.in_ok-key.ensures.plain c.in_ok-key.ensures.ascii
    c.in_ok-name.name.now c.in_ok-name.rest.now _ c.args.length (sym c.if-is_type.ensures) c.in_ok-name.ensures.text c.in_ok-name.ensures.plain c.in_ok-name.ensures.ascii)

pub returns-then-is_length : goal.returns-then-is_length
returns-then-is_length c =
    adds_length c.args.bytes.now c.in_ok-key.key.now c.in_ok-key.behind.now c.in_ok-value.value.now c.in_ok-key.ensures.text c.in_ok-value.ensures c.in_ok-key.ensures.plain c.in_ok-key.ensures.ascii
    _ c.in_ok-number.number c.in_ok-number.len _ c.args.length (sym c.if-is_length.ensures) c.in_ok-number.ensures (take_rest c.in_ok-value.value.now c.in_ok-number.len)

pub returns : goal.returns
returns c =
    adds_other c.args.bytes.now c.in_ok-key.key.now c.in_ok-key.behind.now c.in_ok-value.value.now c.in_ok-key.ensures.text c.in_ok-value.ensures c.in_ok-key.ensures.plain c.in_ok-key.ensures.ascii
    c.in_ok-rest.rest.now _ c.args.length (sym c.if-is_type.ensures) (sym c.if-is_length.ensures) c.in_ok-rest.ensures
