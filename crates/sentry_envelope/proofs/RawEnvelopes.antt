-- A raw envelope is its bytes, and nothing else.
use Rattle.std.proofs.Common.{◌≡◌, ℕ, List, [], Some, refl, ap}
use Rattle.std.proofs.lemmas.Option.{same_Some}
use Rattle.std.specs.Prelude.{IsSome}
use Rattle.sentry_tables.specs.Cell.{Cell}
use Rattle.sentry_items.specs.Losses.{losses_of_items}
use Rattle.sentry_envelope.specs.EnvelopeLosses.{losses_of_envelope}
use Rattle.sentry_envelope.specs.EnvelopeView.{Held, items, bytes, bytes_in, held, held_in, header_of, items_in, items_of, raw_bytes, text_by, text_of}
use Rattle.sentry_envelope.specs.declared.envelope.Contents.{Contents}
use Rattle.sentry_envelope.specs.declared.envelope.Contents.TheVariants as variants
use Rattle.sentry_envelope.specs.declared.envelope.Envelope.{Envelope}

text_is : (h : Cell) (x : Held) (b : List ℕ) → bytes_in x ≡ Some b → text_by h x ≡ b
text_is h (items is) b some = absurd cc
text_is h (bytes c) b some = same_Some c b some

none_in : (c : Contents) → IsSome (bytes_in (held_in c)) → items_in c ≡ []
none_in (variants.Items is) some = absurd cc
none_in (variants.Raw b) some = refl

pub raw_text : (e : Envelope) (b : List ℕ) → raw_bytes e ≡ Some b → text_of e ≡ b
raw_text e b some = text_is (header_of e) (held e) b some

pub raw_items : (e : Envelope) → IsSome (raw_bytes e) → items_of e ≡ []
raw_items e some = none_in e.contents some

pub raw_losses : (e : Envelope) → IsSome (raw_bytes e) → losses_of_envelope e ≡ []
raw_losses e some = ap losses_of_items (raw_items e some)
