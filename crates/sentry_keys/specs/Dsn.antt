-- What a DSN is, by the record of its URL.
use Rattle.std.specs.Prelude.{◌≡◌, ◌≢◌, ℕ, List, [], ◌++◌, codes, decimal, Option, Some, None, option_map, unwrap_or, Ok, Err, string_bytes, if◌then◌else◌, ⊤}
use Rattle.url.specs.Input.{is_empty}
use Rattle.url.specs.Host.{host_text}
use Rattle.url.specs.Parts.{Parts, nonempty_host}
use Rattle.url.specs.Parser.{Parsed, parse_url}
use Rattle.sentry_text.specs.ProjectId.{project_text}
use Rattle.sentry_text.specs.declared.project_id.ParseProjectIdError.TheVariants as project
use Rattle.sentry_keys.specs.declared.scheme.Scheme.{Scheme}
use Rattle.sentry_keys.specs.declared.dsn.Dsn.{Dsn}
use Rattle.sentry_keys.specs.declared.dsn_error.ParseDsnError.{ParseDsnError}
use Rattle.sentry_keys.specs.declared.dsn_error.ParseDsnError.TheVariants.{InvalidUrl, InvalidScheme, NoUsername, NoProjectId, InvalidProjectId, Memory}
use Rattle.sentry_keys.specs.DsnScheme.{default_port, scheme_text}
use Rattle.sentry_keys.specs.DsnPath.{IsSplit, inner}

-- the seven parts
pub record DsnParts : Type 0 where
  pub scheme : Scheme
  pub key : List ℕ
  pub secret : Option (List ℕ)
  pub host : List ℕ
  pub port : Option ℕ
  pub path : List ℕ
  pub project : List ℕ

-- the parts of a DSN
abbrev pub dsn_parts : Dsn → DsnParts
dsn_parts d = record {
  scheme = d.scheme;
  key = string_bytes d.public_key;
  secret = option_map string_bytes d.secret_key;
  host = string_bytes d.host;
  port = d.port;
  path = string_bytes d.path;
  project = project_text d.project_id;
}

-- the port, which is that of the scheme where the URL has none
abbrev pub port_of : DsnParts → ℕ
port_of d = unwrap_or d.port (default_port d.scheme)

-- ---- what is read

-- the parts are those of the URL
pub record IsDsn (url : Parts) (d : DsnParts) : Type 0 where
  pub some_path : url.path ≢ codes "/"
  pub split : IsSplit (inner url.path) d.path d.project
  pub some_project : d.project ≢ []
  pub some_key : url.username ≢ []
  pub key : d.key ≡ url.username
  pub scheme : url.scheme ≡ scheme_text d.scheme
  pub host : option_map host_text (nonempty_host url) ≡ Some d.host
  pub secret : d.secret ≡ (if is_empty url.password then None else Some url.password)
  pub port : d.port ≡ url.port

-- the text is that of a URL with these parts
abbrev pub IsDsnText : List ℕ → DsnParts → Type 0
IsDsnText text d = (url : Parts) × (parse_url None text ≡ Ok url) × IsDsn url d

-- ---- what is refused: the checks, in order, each with what the checks before it have found

-- the path ends with a project
pub record HasProject (url : Parts) : Type 0 where
  pub some_path : url.path ≢ codes "/"
  pub path : List ℕ
  pub project : List ℕ
  pub split : IsSplit (inner url.path) path project
  pub some_project : project ≢ []

-- the path ends with a project that is empty
pub record HasEmptyProject (url : Parts) : Type 0 where
  pub some_path : url.path ≢ codes "/"
  pub path : List ℕ
  pub split : IsSplit (inner url.path) path []

-- the scheme is that of a DSN
abbrev pub HasScheme : Parts → Type 0
HasScheme url = (s : Scheme) × (url.scheme ≡ scheme_text s)

-- the first check that fails is that of this error
abbrev pub Refuses : Parts → ParseDsnError → Type 0
Refuses url NoProjectId = url.path ≡ codes "/"
Refuses url (InvalidProjectId project.EmptyValue) = HasEmptyProject url
Refuses url (InvalidProjectId project.Memory) = ⊥
Refuses url NoUsername = HasProject url × (url.username ≡ [])
Refuses url InvalidScheme = HasProject url × (url.username ≢ []) × ¬ (HasScheme url)
Refuses url InvalidUrl = HasProject url × (url.username ≢ []) × HasScheme url × (nonempty_host url ≡ None)
Refuses url Memory = ⊥

-- what the parser of URLs gives is refused with this error
abbrev pub RefusesParsed : Parsed Parts → ParseDsnError → Type 0
RefusesParsed (Ok url) e = Refuses url e
RefusesParsed (Err f) e = e ≡ InvalidUrl

-- the text is refused with this error
abbrev pub IsRefused : List ℕ → ParseDsnError → Type 0
IsRefused text e = RefusesParsed (parse_url None text) e

-- an error other than want of memory comes only with P
abbrev pub UnlessMemory : ParseDsnError → Type 0 → Type 0
UnlessMemory Memory P = ⊤
UnlessMemory _ P = P

-- ---- what is written

abbrev pub port_text : Option ℕ → List ℕ
port_text None = []
port_text (Some p) = codes ":" ++ decimal p

-- how a DSN is written
abbrev pub dsn_text : DsnParts → List ℕ
dsn_text d =
    scheme_text d.scheme ++ (codes "://" ++ (d.key ++ (codes ":" ++ (unwrap_or d.secret []
    ++ (codes "@" ++ (d.host ++ (port_text d.port ++ (d.path ++ d.project))))))))

-- the text of the parts is that of a URL with the same parts
abbrev pub DsnReadsBack : DsnParts → Type 0
DsnReadsBack d = IsDsnText (dsn_text d) d
