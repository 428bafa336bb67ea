use Rattle.std.proofs.Common.{rules, ◌∙◌, refl}
use Rattle.sentry_forward.specs.View.{text_of}
use Rattle.sentry_c.proofs.forwarding.curdmesa_envelope_forward.Goals as goal

pub returns-in-Some-clause-written : goal.returns-in-Some-clause-written
returns-in-Some-clause-written c = λ _.
    record {
      text = text_of c.in-Ok.left.0;
      meant = (
        c.in-Ok.left.2,
        c.copy_from_slice.ensures.after ∙ c.as_slice.ensures,
        (c.in-Ok.left.0, c.in-Ok.ensures.left, search rules, refl),
      );
      fits = search rules;
      put = search rules;
      length_told = search rules;
    }

pub returns-in-Some-2-clause-no_room : goal.returns-in-Some-2-clause-no_room
returns-in-Some-2-clause-no_room c = λ _.
    record {
      text = text_of c.in-Ok.left.0;
      meant = (
        c.in-Ok.left.2,
        c.copy_from_slice.ensures.after ∙ c.as_slice.ensures,
        (c.in-Ok.left.0, c.in-Ok.ensures.left, search rules, refl),
      );
      longer = search rules;
      length_told = search rules;
    }

pub returns-clause-nothing : goal.returns-clause-nothing
returns-clause-nothing c = λ _. (
  c.in-Ok.left.2,
  c.copy_from_slice.ensures.after ∙ c.as_slice.ensures,
  (c.in-Ok.left.0, c.in-Ok.ensures.left, search rules),
)
