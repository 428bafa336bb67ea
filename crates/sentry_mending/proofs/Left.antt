-- An item that is left out whole.
use Rattle.std.proofs.Common.{◌≡◌, ◌≢◌, ℕ, List, [], Option, Some, None, slice_range, inl, arith}
use Rattle.std.specs.List.{All}
use Rattle.std.proofs.lemmas.List.Elements.{All-nil}
use Rattle.sentry_tables.specs.Cell.{Cell}
use Rattle.sentry_framing.specs.declared.error.EnvelopeError.{EnvelopeError}
use Rattle.sentry_envelope.specs.Profile.{Profile}
use Rattle.sentry_places.specs.Honest.{IsHonest}
use Rattle.sentry_mending.specs.Alone.{Fails, alone}
use Rattle.sentry_mending.specs.HeaderIds.{GivesId}
use Rattle.sentry_mending.specs.MendedItems.{IsMended, LeavesOut}
use Rattle.sentry_mending.specs.Times.{IsTimeOf}
use Rattle.sentry_mending.specs.Told.{IsTold}
use Rattle.sentry_mending.specs.declared.fault.Fault.{Fault}
use Rattle.sentry_mending.specs.declared.mending.MendRules.{MendRules}
use Rattle.sentry_mending.specs.declared.mending.MendedItem.{MendedItem}

told_of : (P : Profile) (bytes : List ℕ) (f : Fault) (error : EnvelopeError) (item start end : ℕ) → Fails P (alone (slice_range bytes start end)) error → f.error ≡ error → f.item ≡ Some item → f.start ≡ start → f.end ≡ end → IsTold P bytes f
told_of P bytes f error item start end fails e i s n = rw (i, e, s, n) fails

pub left_mended : (P : Profile) (now : Cell) (rules : MendRules) (bytes : List ℕ) (stands : Option EnvelopeError) (m : MendedItem) (f : Fault) (error : EnvelopeError) (start end : ℕ) → stands ≢ None → Fails P (alone (slice_range bytes start end)) error → m.fault ≡ Some f → f.error ≡ error → f.item ≡ Some m.item → f.start ≡ start → f.end ≡ end → LeavesOut f m.frame.items → All (IsHonest IsTimeOf bytes) m.frame.items → m.id.items ≡ [] → m.payload.items ≡ [] → IsMended P now rules bytes stands m
left_mended P now rules bytes stands m f error start end refused fails is e i s n leaves honest no_id no_payload = record {
  told = rw is (told_of P bytes f error m.item start end fails e i s n);
  index = rw is i;
  faultless = λ none. absurd (refused none);
  kept = λ none. no_payload;
  honest_frame = honest;
  honest_payload = rw no_payload (All-nil (IsHonest IsTimeOf bytes));
  given = rw no_id (All-nil (GivesId now bytes));
  not_asked = λ off. no_id;
  framed = inl (rw is leaves, no_id, no_payload);
  needed = rw is (λ few. rw no_payload (λ k less. absurd (omega (arith, less))));
}
