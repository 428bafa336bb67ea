use Rattle.std.proofs.Common.{rules, ◌∙◌, inr, map, refl, subst, sym}
use Rattle.sentry_framing.specs.declared.error.EnvelopeError.TheVariants as refusals
use Rattle.sentry_envelope.specs.EnvelopeFault.{Fault}
use Rattle.sentry_envelope.specs.SentryProfile.{profile}
use Rattle.sentry_c.specs.Making.{both}
use Rattle.sentry_c.proofs.events.curdmesa_event_make.Goals as goal

pub returns-in-Err-clause-answers : goal.returns-in-Err-clause-answers
returns-in-Err-clause-answers c = inr (inr (inr (inr (inr (refusals.OutOfMemory, refl)))))

pub returns-in-Ok-None-members_of-clause-not_utf8 : goal.returns-in-Ok-None-members_of-clause-not_utf8
returns-in-Ok-None-members_of-clause-not_utf8 c = λ _.
    let joined = rw c.in-Ok-Some.field-0-is at c.in-Ok-Some.ensures in
    let none = rw (c.in-Ok-None-members_of.field-0-is, c.deref.ensures.value) at c.in-Ok-None-members_of.ensures in
    inr (inr (inr (inr (map both c.in-Ok-Some.pairs.items, joined, none))))

pub returns-in-Err-members_of-clause-answers : goal.returns-in-Err-members_of-clause-answers
returns-in-Err-members_of-clause-answers c = inr (inr (inr (inr (inr (refusals.OutOfMemory, refl)))))

pub returns-in_default-members_of_event-clause-answers : goal.returns-in_default-members_of_event-clause-answers
returns-in_default-members_of_event-clause-answers c = inr (inr (inr (inr (inr (refusals.OutOfMemory, refl)))))

pub returns-in_default-event_of-clause-answers : goal.returns-in_default-event_of-clause-answers
returns-in_default-event_of-clause-answers c = inr (inr (inr (inr (inr (refusals.OutOfMemory, refl)))))

pub returns-clause-fault : goal.returns-clause-fault
returns-clause-fault c = λ x is other.
    let same = c.status_of_envelope_error.ensures.only x (search rules) in
    let fault = rw c.deref-4.ensures.value at c.in-Err-deliver_normal_form.ensures.fault in
    record {
      bytes = c.in-Ok-event_of.bytes.items;
      event = search rules;
      fault = subst (λ e. Fault profile c.in-Ok-event_of.bytes.items e) (sym same) (fault (λ oom. other (same ∙ oom)));
    }
