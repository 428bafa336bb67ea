-- What `==` says of ids and requests: they are equal exactly where their cells are the same.
use Rattle.std.proofs.Common.{rules, ◌≡◌, Option, Some, None, refl, ap, Decides}
use Rattle.std.proofs.lemmas.Bool.Decides.{Decides-and}
use Rattle.std.specs.Option.{option_eq}
use Rattle.std.specs.Prelude.{IfSome}
use Rattle.std.specs.String.{string_eq}
use Rattle.url.specs.Parts.{Parts}
use Rattle.url.specs.contracts.traits.UrlPartialEq.TheImpl.{eq-value as of_urls}
use Rattle.uuid.specs.contracts.UuidPartialEq.TheImpl.{eq-value as of_ids}
use Rattle.uuid.specs.declared.Uuid.{Uuid}
use Rattle.sentry_tables.specs.Cell.{octets, present}
use Rattle.sentry_tables.specs.Cells.{text_cell, option_cell}
use Rattle.sentry_tables.proofs.Equal.{texts_decide, options_decide, maps_decide}
use Rattle.sentry_text.specs.UrlTree.{url_cell, UrlReadsBack}
use Rattle.sentry_text.proofs.UrlTrees.{one_url, urls_decide}
use Rattle.sentry_parts.specs.Requests.{request_fields, request_cell}
use Rattle.sentry_parts.specs.contracts.request.RequestPartialEq.TheImpl.{eq-value as of_requests}
use Rattle.sentry_parts.specs.declared.request.Request.{Request}

-- ---- ids

pub ids_decide : (a b : Uuid) → Decides (of_ids.it a b) (octets a ≡ octets b)
ids_decide a b = search rules

-- ---- URLs that are read back

given_urls_decide : (x y : Option Parts) → IfSome x UrlReadsBack → IfSome y UrlReadsBack → Decides (option_eq of_urls.it x y) (option_cell url_cell x ≡ option_cell url_cell y)
given_urls_decide None None s t = (λ same. refl, λ same. refl)
given_urls_decide None (Some b) s t = (λ same. cc, λ same. cc)
given_urls_decide (Some a) None s t = (λ same. cc, λ same. cc)
given_urls_decide (Some a) (Some b) s t =
    let decides = urls_decide a b s t in
    (λ same. ap (λ u. present (url_cell u)) (decides.0 same), λ same. decides.1 (one_url a b (cc)))

-- ---- requests

pub requests_decide : (a b : Request) → IfSome a.url UrlReadsBack → IfSome b.url UrlReadsBack → Decides (of_requests.it a b) (request_cell a ≡ request_cell b)
unfolding request_fields
requests_decide a b s t =
    let parts = Decides-and _ _ (given_urls_decide a.url b.url s t)
    (Decides-and _ _ (options_decide string_eq text_cell texts_decide a.method b.method)
    (Decides-and _ _ (options_decide string_eq text_cell texts_decide a.data_ b.data_)
    (Decides-and _ _ (options_decide string_eq text_cell texts_decide a.query_string b.query_string)
    (Decides-and _ _ (options_decide string_eq text_cell texts_decide a.cookies b.cookies)
    (Decides-and _ _ (maps_decide string_eq text_cell texts_decide a.headers.entries b.headers.entries)
    (maps_decide string_eq text_cell texts_decide a.env.entries b.env.entries)))))) in (
      λ same.
          let e = parts.0 same in
          let url = e.0 in
          let method = e.1.0 in
          let body = e.1.1.0 in
          let query = e.1.1.1.0 in
          let cookies = e.1.1.1.1.0 in
          let headers = e.1.1.1.1.1.0 in
          let env = e.1.1.1.1.1.1 in
          cc,
      λ same. parts.1 (cc, (cc, (cc, (cc, (cc, (cc, cc)))))),
    )
