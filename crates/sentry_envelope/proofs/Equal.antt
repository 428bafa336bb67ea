-- What `==` says of headers and of envelopes.
use Rattle.std.proofs.Common.{◌≡◌, ◌&&◌, List, [], ◌∷◌, refl, Decides}
use Rattle.std.proofs.lemmas.Bool.Decides.{Decides-and, Decides-eqb}
use Rattle.std.proofs.lemmas.Slice.Eq.{slice_eq-Decides}
use lib.Pointwise.{pointwise}
use Rattle.uuid.specs.contracts.UuidPartialEq.TheImpl.{eq-value as of_ids}
use Rattle.sentry_tables.specs.Cell.{octets}
use Rattle.sentry_tables.proofs.Equal.{options_decide}
use Rattle.sentry_moments.specs.Moments.{moment_cell}
use Rattle.sentry_moments.specs.contracts.moment.MomentPartialEq.TheImpl.{eq-value as of_moments}
use Rattle.sentry_keys.specs.DsnTree.{dsn_cell}
use Rattle.sentry_keys.specs.contracts.dsn.DsnPartialEq.TheImpl.{eq-value as of_dsns}
use Rattle.sentry_keys.proofs.Equal.{dsns_decide}
use Rattle.sentry_parts.specs.ClientSdk.{sdk_cell}
use Rattle.sentry_parts.specs.contracts.client_sdk_info.ClientSdkInfoPartialEq.TheImpl.{eq-value as of_software}
use Rattle.sentry_parts.proofs.Equal.{software_decides}
use Rattle.sentry_records.specs.Sampling.{sampling_cell}
use Rattle.sentry_records.specs.contracts.sampling.DynamicSamplingContextPartialEq.TheImpl.{eq-value as of_contexts}
use Rattle.sentry_records.proofs.Equal.{contexts_decide, ids_decide, moments_decide}
use Rattle.sentry_items.specs.contracts.item.EnvelopeItemPartialEq.TheImpl.{eq-value as of_items}
use Rattle.sentry_items.specs.declared.item.EnvelopeItem.{EnvelopeItem}
use Rattle.sentry_items.proofs.Items.{items_decide}
use Rattle.sentry_envelope.specs.contracts.envelope.ContentsPartialEq.TheImpl.{eq-value as of_contents}
use Rattle.sentry_envelope.specs.contracts.headers.EnvelopeHeadersPartialEq.TheImpl.{eq-value as of_headers}
use Rattle.sentry_envelope.specs.declared.envelope.Contents.{Contents}
use Rattle.sentry_envelope.specs.declared.envelope.Contents.TheVariants as contents
use Rattle.sentry_envelope.specs.declared.envelope.Envelope.{Envelope}
use Rattle.sentry_envelope.specs.declared.headers.EnvelopeHeaders.{EnvelopeHeaders}
use Rattle.sentry_envelope.specs.HeaderFields.{header_fields, headers_cell}
use Rattle.sentry_envelope.specs.EnvelopeAlike.{EachHoldsNoTree, HasNoTree, EachHasStoredAddress, HasStoredAddresses, EachAlike, HoldAlike, AreEnvelopesAlike}
use Rattle.sentry_envelope.specs.EnvelopeView.{items_in}

pub headers_decide : (a b : EnvelopeHeaders) → Decides (of_headers.it a b) (headers_cell a ≡ headers_cell b)
unfolding header_fields
headers_decide a b =
    let parts = Decides-and _ _ (options_decide of_dsns.it dsn_cell dsns_decide a.dsn b.dsn)
    (Decides-and _ _ (options_decide of_ids.it octets ids_decide a.event_id b.event_id)
    (Decides-and _ _ (options_decide of_software.it sdk_cell software_decides a.sdk b.sdk)
    (Decides-and _ _ (options_decide of_moments.it moment_cell moments_decide a.sent_at b.sent_at)
    (options_decide of_contexts.it sampling_cell contexts_decide a.trace b.trace)))) in
    (λ same. let e = parts.0 same in let dsn = e.0 in let id = e.1.0 in let sdk = e.1.1.0 in let sent = e.1.1.1.0 in let trace = e.1.1.1.1 in cc, λ same. parts.1 (cc, (cc, (cc, (cc, cc)))))

each_decides : (xs ys : List EnvelopeItem) → EachHoldsNoTree xs → EachHoldsNoTree ys → EachHasStoredAddress xs → EachHasStoredAddress ys → Decides (pointwise of_items.it xs ys) (EachAlike xs ys)
each_decides [] [] s t u v = (λ same. tt, λ same. refl)
each_decides [] (y ∷ ys) s t u v = (λ same. cc, λ same. absurd same)
each_decides (x ∷ xs) [] s t u v = (λ same. cc, λ same. absurd same)
each_decides (x ∷ xs) (y ∷ ys) s t u v =
    Decides-and (of_items.it x y) (pointwise of_items.it xs ys) (items_decide x y s.0 t.0 u.0 v.0) (each_decides xs ys s.1 t.1 u.1 v.1)

contents_decide : (a b : Contents) → EachHoldsNoTree (items_in a) → EachHoldsNoTree (items_in b) → EachHasStoredAddress (items_in a) → EachHasStoredAddress (items_in b) → Decides (of_contents.it a b) (HoldAlike a b)
contents_decide (contents.Items x) (contents.Items y) s t u v = each_decides x.items y.items s t u v
contents_decide (contents.Raw x) (contents.Raw y) s t u v = slice_eq-Decides Decides-eqb x.items y.items _ refl
contents_decide (contents.Items x) (contents.Raw y) s t u v = (λ same. cc, λ same. absurd same)
contents_decide (contents.Raw x) (contents.Items y) s t u v = (λ same. cc, λ same. absurd same)

pub envelopes_decide : (a b : Envelope) → HasNoTree a → HasNoTree b → HasStoredAddresses a → HasStoredAddresses b → Decides (of_headers.it a.headers b.headers && of_contents.it a.contents b.contents) (AreEnvelopesAlike a b)
envelopes_decide a b s t u v = Decides-and _ _ (headers_decide a.headers b.headers) (contents_decide a.contents b.contents s t u v)
