-- Where the parts of a DSN and of an authentication stand in their printed forms.
use Rattle.std.proofs.Common.{arith, ◌≡◌, ℕ, ◌+◌, ◌-◌, List, [], ◌++◌, length, codes, decimal, Option, Some, None, option_map, unwrap_or, refl, ap, sym, ◌∙◌, append-nil, append_assoc, length-append, subst}
use Rattle.sentry_keys.specs.Auth.{Parts, client_key, secret_key, timestamp_key}
use Rattle.sentry_keys.specs.AuthText.{auth_text, part_text, time_text}
use Rattle.sentry_keys.specs.Dsn.{DsnParts, dsn_text, port_text}
use Rattle.sentry_keys.specs.DsnScheme.{scheme_text}
use Rattle.sentry_c.specs.Places.{Stands}
use Rattle.sentry_c.specs.Texts.{IsOptionalAt, IsOptionalEnd, optional_len}
use Rattle.sentry_c.specs.declared.texts.CurdmesaPlace.{CurdmesaPlace}

-- a part at the front
first : (part rest : List ℕ) → Stands (part ++ rest) 0 (length part) part
first part rest = record { before = []; after = rest; split = refl; offset_is = refl; count_is = refl }

-- a part at the end
last : (part : List ℕ) → Stands part 0 (length part) part
last part = record { before = []; after = []; split = sym (append-nil part); offset_is = refl; count_is = refl }

-- a part after more bytes
further : (more rest : List ℕ) (offset count : ℕ) (part : List ℕ) → Stands rest offset count part → Stands (more ++ rest) (length more + offset) count part
further more rest offset count part stands = record {
  before = more ++ stands.before;
  after = stands.after;
  split = ap (λ x. more ++ x) stands.split ∙ sym (append_assoc more stands.before (part ++ stands.after));
  offset_is = omega (arith, stands.offset_is, length-append more stands.before);
  count_is = stands.count_is;
}

-- the same place by other numbers
at : (text : List ℕ) (offset offset' count count' : ℕ) (part : List ℕ) → Stands text offset count part → offset' ≡ offset → count' ≡ count → Stands text offset' count' part
at text offset offset' count count' part stands same same' = record {
  before = stands.before;
  after = stands.after;
  split = stands.split;
  offset_is = same ∙ stands.offset_is;
  count_is = same' ∙ stands.count_is;
}

-- ---- DSNs

module _ (d : DsnParts) where
  abbrev secret : List ℕ
  secret = unwrap_or d.secret []

  abbrev after_port : List ℕ
  after_port = d.path ++ d.project

  abbrev after_host : List ℕ
  after_host = port_text d.port ++ after_port

  abbrev after_at : List ℕ
  after_at = d.host ++ after_host

  abbrev after_secret : List ℕ
  after_secret = codes "@" ++ after_at

  abbrev after_colon : List ℕ
  after_colon = secret ++ after_secret

  abbrev after_key : List ℕ
  after_key = codes ":" ++ after_colon

  abbrev after_scheme : List ℕ
  after_scheme = codes "://" ++ (d.key ++ after_key)

  pub dsn_length : length (dsn_text d) ≡ length (scheme_text d.scheme) + 3 + length d.key + 1 + length secret + 1 + length d.host + length (port_text d.port) + length d.path + length d.project
  dsn_length = omega (
    arith,
    length-append (scheme_text d.scheme) after_scheme,
    length-append (codes "://") (d.key ++ after_key),
    length-append d.key after_key,
    length-append (codes ":") after_colon,
    length-append secret after_secret,
    length-append (codes "@") after_at,
    length-append d.host after_host,
    length-append (port_text d.port) after_port,
    length-append d.path d.project,
  )

  past_scheme : (offset count : ℕ) (part : List ℕ) → Stands (d.key ++ after_key) offset count part → Stands (dsn_text d) (length (scheme_text d.scheme) + (3 + offset)) count part
  past_scheme offset count part stands = further (scheme_text d.scheme) after_scheme _ count part (further (codes "://") (d.key ++ after_key) offset count part stands)

  past_key : (offset count : ℕ) (part : List ℕ) → Stands after_colon offset count part → Stands (dsn_text d) (length (scheme_text d.scheme) + (3 + (length d.key + (1 + offset)))) count part
  past_key offset count part stands = past_scheme _ count part (further d.key after_key _ count part (further (codes ":") after_colon offset count part stands))

  past_secret : (offset count : ℕ) (part : List ℕ) → Stands after_at offset count part
      → Stands (dsn_text d) (length (scheme_text d.scheme) + (3 + (length d.key + (1 + (length secret + (1 + offset)))))) count part
  past_secret offset count part stands = past_key _ count part (further secret after_secret _ count part (further (codes "@") after_at offset count part stands))

  past_port : (offset count : ℕ) (part : List ℕ) → Stands after_port offset count part
      → Stands (dsn_text d) (length (scheme_text d.scheme) + (3 + (length d.key + (1 + (length secret + (1 + (length d.host + (length (port_text d.port) + offset)))))))) count part
  past_port offset count part stands = past_secret _ count part (further d.host after_host _ count part (further (port_text d.port) after_port offset count part stands))

  pub key_at : (n count : ℕ) → n ≡ length (scheme_text d.scheme) + 3 → count ≡ length d.key → Stands (dsn_text d) n count d.key
  key_at n count is same = at (dsn_text d) _ n _ count d.key (past_scheme _ _ d.key (first d.key after_key)) (omega (arith, is)) same

  pub secret_at : (n count : ℕ) → n ≡ length (scheme_text d.scheme) + 3 + length d.key + 1 → count ≡ length secret → Stands (dsn_text d) n count secret
  secret_at n count is same = at (dsn_text d) _ n _ count secret (past_key _ _ secret (first secret after_secret)) (omega (arith, is)) same

  pub host_at : (n count : ℕ) → n ≡ length (scheme_text d.scheme) + 3 + length d.key + 1 + length secret + 1 → count ≡ length d.host → Stands (dsn_text d) n count d.host
  host_at n count is same = at (dsn_text d) _ n _ count d.host (past_secret _ _ d.host (first d.host after_host)) (omega (arith, is)) same

  pub path_at : (n count : ℕ) → n ≡ length (dsn_text d) - length d.project - length d.path → count ≡ length d.path → Stands (dsn_text d) n count d.path
  path_at n count is same = at (dsn_text d) _ n _ count d.path (past_port _ _ d.path (first d.path d.project)) (omega (arith, is, dsn_length)) same

  pub project_at : (n count : ℕ) → n ≡ length (dsn_text d) - length d.project → count ≡ length d.project → Stands (dsn_text d) n count d.project
  project_at n count is same = at (dsn_text d) _ n _ count d.project (past_port _ _ d.project (further d.path d.project _ _ d.project (last d.project))) (omega (arith, is, dsn_length)) same

-- ---- authentication

-- a label and an optional part
part_length : (name : List ℕ) (label : ℕ) (part : Option (List ℕ)) → 3 + length name ≡ label → length (part_text name part) ≡ optional_len label part
part_length name label None is = refl
part_length name label (Some part) is =
    omega (arith, is, length-append (codes ", ") (name ++ (codes "=" ++ part)), length-append name (codes "=" ++ part), length-append (codes "=") part)

-- an optional part, after its label, at the end
part_at : (before name after : List ℕ) (part : Option (List ℕ)) (total : ℕ) (place : CurdmesaPlace) (flag : ℕ)
    → total ≡ length before + length (part_text name part) → IsOptionalEnd total place flag part → IsOptionalAt (before ++ (part_text name part ++ after)) place flag part
part_at before name after None total place flag long (a, b, c) = (a, b, c)
part_at before name after (Some part) total place flag long (a, b, c) =
    let label : List ℕ = codes ", " ++ (name ++ codes "=") in
    let split : part_text name (Some part) ++ after ≡ label ++ (part ++ after) =
    append_assoc (codes ", ") (name ++ (codes "=" ++ part)) after ∙ (ap (λ x. codes ", " ++ x) (append_assoc name (codes "=" ++ part) after ∙ ap (λ x. name ++ x) (append_assoc (codes "=") part after))
    ∙ sym (append_assoc (codes ", ") (name ++ codes "=") (part ++ after) ∙ ap (λ x. codes ", " ++ x) (append_assoc name (codes "=") (part ++ after)))) in (
      record {
        before = before ++ label;
        after = after;
        split = ap (λ x. before ++ x) split ∙ sym (append_assoc before label (part ++ after));
        offset_is = omega (
          arith,
          a,
          long,
          length-append before label,
          length-append (codes ", ") (name ++ codes "="),
          length-append name (codes "="),
          length-append (codes ", ") (name ++ (codes "=" ++ part)),
          length-append name (codes "=" ++ part),
          length-append (codes "=") part,
        );
        count_is = b;
      },
      c,
    )

module _ (parts : Parts) where
  abbrev secret_part : List ℕ
  secret_part = part_text secret_key parts.secret

  abbrev client_part : List ℕ
  client_part = part_text client_key parts.client

  abbrev time_part : List ℕ
  time_part = part_text timestamp_key (option_map time_text parts.timestamp)

  abbrev front : List ℕ
  front = codes "Sentry sentry_key=" ++ (parts.key ++ (codes ", sentry_version=" ++ (decimal parts.version ++ time_part)))

  -- the optional parts at the end
  text_is : auth_text parts ≡ front ++ (client_part ++ secret_part)
  text_is =
      ap (λ x. codes "Sentry sentry_key=" ++ x)
      (ap (λ x. parts.key ++ x) (ap (λ x. codes ", sentry_version=" ++ x) (sym (append_assoc (decimal parts.version) time_part (client_part ++ secret_part)))
      ∙ sym (append_assoc (codes ", sentry_version=") (decimal parts.version ++ time_part) (client_part ++ secret_part)))
      ∙ sym (append_assoc parts.key (codes ", sentry_version=" ++ (decimal parts.version ++ time_part)) (client_part ++ secret_part)))
      ∙ sym (append_assoc (codes "Sentry sentry_key=") (parts.key ++ (codes ", sentry_version=" ++ (decimal parts.version ++ time_part))) (client_part ++ secret_part))

  long : length (auth_text parts) ≡ length front + length client_part + length secret_part
  long = omega (arith, ap length text_is, length-append front (client_part ++ secret_part), length-append client_part secret_part)

  pub auth_key_at : (n count : ℕ) → n ≡ 18 → count ≡ length parts.key → Stands (auth_text parts) n count parts.key
  auth_key_at n count is same = at (auth_text parts) _ n _ count parts.key (further (codes "Sentry sentry_key=") _ 0 _ parts.key (first parts.key _)) is same

  pub auth_secret_at : (total : ℕ) (part : Option (List ℕ)) (place : CurdmesaPlace) (flag : ℕ) → total ≡ length (auth_text parts) → part ≡ parts.secret → IsOptionalEnd total place flag part
      → IsOptionalAt (auth_text parts) place flag parts.secret
  auth_secret_at total part place flag whole is end =
      let split : auth_text parts ≡ (front ++ client_part) ++ (secret_part ++ []) =
      text_is ∙ (sym (append_assoc front client_part secret_part) ∙ ap (λ x. (front ++ client_part) ++ x) (sym (append-nil secret_part))) in
      let length_is : total ≡ length (front ++ client_part) + length secret_part = whole ∙ (long ∙ ap (λ n. n + length secret_part) (sym (length-append front client_part))) in
      subst (λ text. IsOptionalAt text place flag parts.secret) (sym split)
      (part_at (front ++ client_part) secret_key [] parts.secret total place flag length_is (subst (IsOptionalEnd total place flag) is end))

  pub auth_client_at : (total before : ℕ) (last part : Option (List ℕ)) (place : CurdmesaPlace) (flag : ℕ) → total ≡ length (auth_text parts) → before ≡ total - optional_len 16 last → last ≡ parts.secret
      → part ≡ parts.client → IsOptionalEnd before place flag part → IsOptionalAt (auth_text parts) place flag parts.client
  auth_client_at total before last part place flag whole cut last_is is end =
      let length_is : before ≡ length front + length client_part = omega (arith, cut, whole, long, ap (optional_len 16) last_is, part_length secret_key 16 parts.secret refl) in
      subst (λ text. IsOptionalAt text place flag parts.client) (sym text_is)
      (part_at front client_key secret_part parts.client before place flag length_is (subst (IsOptionalEnd before place flag) is end))
