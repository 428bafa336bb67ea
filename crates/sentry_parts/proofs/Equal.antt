-- What `==` says of software and its packages.
use Rattle.std.proofs.Common.{◌≡◌, ◌&&◌, Decides}
use Rattle.std.proofs.lemmas.Bool.Decides.{Decides-and}
use lib.Pointwise.{pointwise}
use Rattle.std.specs.String.{string_eq}
use Rattle.sentry_tables.specs.Cells.{text_cell}
use Rattle.sentry_tables.proofs.Equal.{texts_decide, lists_decide}
use Rattle.sentry_parts.specs.ClientSdk.{package_fields, package_cell, sdk_fields, sdk_cell}
use Rattle.sentry_parts.specs.contracts.client_sdk_package.ClientSdkPackagePartialEq.TheImpl.{eq-value as of_packages}
use Rattle.sentry_parts.specs.declared.client_sdk_info.ClientSdkInfo.{ClientSdkInfo}
use Rattle.sentry_parts.specs.declared.client_sdk_package.ClientSdkPackage.{ClientSdkPackage}

pub packages_decide : (a b : ClientSdkPackage) → Decides (of_packages.it a b) (package_cell a ≡ package_cell b)
unfolding package_fields
packages_decide a b =
    let parts = Decides-and _ _ (texts_decide a.name b.name) (texts_decide a.version b.version) in
    (λ same. let e = parts.0 same in cc, λ same. parts.1 (cc, cc))

pub software_decides : (a b : ClientSdkInfo) → Decides (string_eq a.name b.name && (string_eq a.version b.version && (pointwise string_eq a.integrations.items b.integrations.items && pointwise of_packages.it a.packages.items b.packages.items))) (sdk_cell a ≡ sdk_cell b)
unfolding sdk_fields
software_decides a b =
    let parts = Decides-and _ _ (texts_decide a.name b.name) (Decides-and _ _ (texts_decide a.version b.version)
    (Decides-and _ _ (lists_decide string_eq text_cell texts_decide a.integrations.items b.integrations.items)
    (lists_decide of_packages.it package_cell packages_decide a.packages.items b.packages.items))) in
    (λ same. let e = parts.0 same in cc, λ same. parts.1 (cc, (cc, (cc, cc))))
