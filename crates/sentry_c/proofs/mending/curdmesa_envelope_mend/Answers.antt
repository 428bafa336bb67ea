use Rattle.std.proofs.Common.{rules, ◌≡◌, ◌∙◌, ◌++◌, ℕ, List, length, drop, ap, refl}
use Rattle.sentry_c.specs.declared.mending.CurdmesaNote.{CurdmesaNote}
use Rattle.sentry_c.proofs.Rowed.{mended_at, some_mended_at}
use Rattle.sentry_c.proofs.mending.curdmesa_envelope_mend.Goals as goal

pub returns-then-not-deliver-clause-no_room : goal.returns-then-not-deliver-clause-no_room
returns-then-not-deliver-clause-no_room c = λ _.
    record {
      text = c.deref.result.now;
      meant =
          some_mended_at c.args.bytes.now c.in-Some.now c.args.now_secs c.args.now_nanos _ c.args.header_event_id c.args.notes.now c.in-Ok.text c.deref.result.now c.in-Some.ensures.same.0 c.in-Some.ensures.same.1 refl refl
          c.deref.ensures.value c.in-Ok.ensures.mended;
      longer = search rules;
      length_told = search rules;
    }

pub returns-clause-written : goal.returns-clause-written
returns-clause-written c = λ _.
    let rows = c.in-Ok.text.notes.rows in
    let old = c.args.notes.now in
    let copied : c.copy_from_slice.new.self ≡ rows.items = c.copy_from_slice.ensures.after ∙ c.deref-2.ensures.value in
    let long : c.len.result ≡ length rows.items = c.len.ensures ∙ rows.ok.0 in
    record {
      text = c.deref.result.now;
      meant =
          mended_at c.args.bytes.now c.in-Some.now c.args.now_secs c.args.now_nanos _ c.args.header_event_id old _ c.in-Ok.text c.deref.result.now c.in-Some.ensures.same.0 c.in-Some.ensures.same.1 refl refl c.deref.ensures.value
          (ap (λ (l : List CurdmesaNote). l ++ drop c.len.result old) copied ∙ ap (λ (k : ℕ). rows.items ++ drop k old) long) c.in-Ok.ensures.mended;
      fits = search rules;
      put = search rules;
      length_told = search rules;
    }
