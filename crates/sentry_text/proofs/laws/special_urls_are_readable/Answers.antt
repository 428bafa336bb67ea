use Rattle.std.proofs.Common.{refl, None}
use Rattle.url.proofs.Theorems.{parse_url-serialize_special}
use Rattle.sentry_text.proofs.UrlTrees.{canonical_reads_back}
use Rattle.sentry_text.proofs.laws.special_urls_are_readable.Goals as goal

pub returns-clause-back : goal.returns-clause-back
returns-clause-back c url valid kind = parse_url-serialize_special url None valid kind

pub returns-clause-special : goal.returns-clause-special
returns-clause-special c url valid kind = (url, refl, λ other. absurd (other kind))

pub returns-clause-canonical : goal.returns-clause-canonical
returns-clause-canonical c url valid canonical = (url, refl, λ other. canonical_reads_back url valid canonical)
