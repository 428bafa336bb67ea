use Rattle.std.proofs.Common.{◌≡◌, ◌∙◌, ℕ, List, length, take, min, ap, subst, to_z, of_z, w32}
use Rattle.std.specs.List.{AllZip}
use Rattle.sentry_moments.specs.Moments.{moment_cell}
use Rattle.sentry_mending.specs.declared.fault.Fault.{Fault}
use Rattle.sentry_c.specs.Explaining.{TellsFault}
use Rattle.sentry_c.proofs.Rowed.{some_explained, status_kept}
use Rattle.sentry_c.proofs.explaining.explain_with_rows.Goals as goal

pub returns : goal.returns
returns c =
    let told = c.in-Some.explanation in
    let long : c.len-total.result ≡ length told.faults.items = c.len-total.ensures ∙ told.faults.ok.0 in
    let least : c.min-shown.result ≡ min (length told.faults.items) c.args.most = c.min-shown.ensures ∙ ap (λ (n : ℕ). min n c.args.most) long in
    let each = rw c.in-Some.is at c.in_ok-explanation.ensures.told in
    let fails = rw c.in-Some.is at c.in_ok-explanation.ensures.error in
    some_explained c.args.bytes.now (moment_cell c.args.now) c.args.most
    (record { error = to_z w32 (of_z w32 c.status_of_envelope_error.result); count = c.len-total.result; rows = c.in_ok-rows.rows; texts = c.rows_of.new.texts }) c.min-shown.result told.faults.items told.error each fails
    (status_kept told.error _ c.status_of_envelope_error.ensures.status) long least
    (subst (λ (faults : List Fault). AllZip (TellsFault c.rows_of.new.texts.items) c.in_ok-rows.rows.items (take c.min-shown.result faults)) c.deref.ensures.value c.in_ok-rows.ensures)
