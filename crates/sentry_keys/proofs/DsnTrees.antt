-- The spelling of DSNs is lawful.
use Rattle.std.proofs.Common.{◌≡◌, inl, inr, ⊎_elim, ℕ, ◌<◌, ◌^◌, true, List, [], ◌++◌, Option, Some, None, refl, sym, ap, subst, ◌∙◌, arith, IsUtf8}
use Rattle.std.specs.Prelude.{codes, decimal, IfSome, unwrap_or, option_map, String, string_bytes, Result, Ok, Err, IfOk}
use Rattle.std.proofs.lemmas.Fmt.{IsAscii-decimal}
use Rattle.std.proofs.lemmas.Str.{IsUtf8-append, IsUtf8-nil, IsUtf8-from_ascii, IsUtf8-string_bytes}
use Rattle.serde_json.specs.Data.{Data, string}
use Rattle.sentry_json.specs.Sound.{IsSound}
use Rattle.serde_json.specs.View.{view}
use Rattle.serde_json.specs.declared.value.Value.{Value}
use Rattle.sentry_tables.specs.Writes.{written}
use Rattle.sentry_tables.specs.Cell.{Cell, text}
use Rattle.sentry_tables.specs.Lawful.{ScalarLaws, RefusesNull, is_ascii}
use Rattle.sentry_tables.specs.Laws.{HasLaws}
use Rattle.sentry_tables.specs.Meets.{IsReadable}
use Rattle.sentry_tables.specs.Shows.{Shows}
use Rattle.sentry_tables.proofs.Sound.{ascii_text}
use Rattle.sentry_tables.specs.Cells.{natural_cell, option_cell}
use Rattle.sentry_tables.specs.Spelling.{SpellingLaws, spelled, ReadsSpelling}
use Rattle.sentry_tables.proofs.Spellings.{spelled_laws, spelled_has_laws, spelled_refuses_null, text_tree}
use Rattle.sentry_keys.specs.declared.scheme.Scheme.{Scheme}
use Rattle.sentry_keys.specs.declared.scheme.Scheme.TheVariants.{Http, Https}
use Rattle.sentry_keys.specs.declared.dsn.Dsn.{Dsn}
use Rattle.sentry_keys.specs.declared.dsn_error.ParseDsnError.{ParseDsnError}
use Rattle.sentry_keys.specs.declared.dsn_error.ParseDsnError.TheVariants.{InvalidUrl, InvalidScheme, NoUsername, NoProjectId, InvalidProjectId, Memory}
use Rattle.sentry_keys.specs.DsnScheme.{scheme_text}
use Rattle.sentry_keys.specs.Dsn.{DsnParts, dsn_parts, dsn_text, port_text, IsDsnText, IsRefused, UnlessMemory}
use Rattle.sentry_keys.specs.DsnTree.{parts_cell, dsn_cell, written_text, dsn_spelling, dsn_kind, port_of_cell, text_of, tree_error}
use Rattle.sentry_keys.proofs.DsnAnswers.{one_dsn_text, not_both_text, some_text_answer}
use Rattle.sentry_keys.proofs.DsnReadBack.{named_ascii, named_reads_back}

-- ---- the written text

secret_written : (o : Option (List ℕ)) → text_of (option_cell text o) ≡ unwrap_or o []
secret_written None = refl
secret_written (Some s) = refl

port_written : (o : Option ℕ) → port_of_cell (option_cell natural_cell o) ≡ port_text o
port_written None = refl
port_written (Some n) = refl

pub parts_written : (d : DsnParts) → written_text (parts_cell d) ≡ dsn_text d
unfolding written_text
parts_written d =
    λ i. scheme_text d.scheme ++ (codes "://" ++ (d.key ++ (codes ":" ++ (secret_written d.secret i
    ++ (codes "@" ++ (d.host ++ (port_written d.port i ++ (d.path ++ d.project))))))))

cell_written : (c : Cell) (d : DsnParts) → parts_cell d ≡ c → written_text c ≡ dsn_text d
cell_written c d e = ap written_text (sym e) ∙ parts_written d

-- ---- the laws

spelled_one : (s : List ℕ) (c x : Cell) → dsn_spelling.spells s c → dsn_spelling.spells s x → c ≡ x
spelled_one s c x (d, is, named) (e, also, other) = sym is ∙ ap parts_cell (one_dsn_text s d e named other) ∙ also

pub dsn_laws : SpellingLaws dsn_spelling
dsn_laws = record {
  back = λ c p q. (q.0, q.1, subst (λ s. IsDsnText s q.0) (sym (cell_written c q.0 q.1)) q.2);
  one = spelled_one;
  again = λ c p. refl;
  stored_norm = λ c p. p;
  readable_norm = λ c p q. q;
  utf8 = λ c p. subst IsUtf8 (sym (cell_written c p.0 p.1)) p.2;
  spelled_stored = λ s c utf8 h. (h.0, h.1, IsUtf8-from_ascii (dsn_text h.0) (named_ascii s h.0 utf8 h.2));
  spelled_readable = λ s c utf8 h. (h.0, h.1, named_reads_back s h.0 utf8 h.2);
  spelled_written = λ s c utf8 h. refl;
  decide = λ s.
      ⊎_elim (λ a. inl (parts_cell a.0, (a.0, refl, a.1)))
      (λ a. inr (λ c h. not_both_text s h.0 a.0 h.2 a.1)) (some_text_answer s);
}

pub dsn_scalar_laws : ScalarLaws (spelled dsn_spelling)
dsn_scalar_laws = spelled_laws dsn_spelling dsn_laws

pub dsn_shown_readable : (now : Cell) (d : Data) (c : Cell) → IsSound d → Shows dsn_kind now d c → IsReadable dsn_kind c
dsn_shown_readable now = dsn_scalar_laws.shown_readable

pub dsn_has_laws : HasLaws dsn_kind
dsn_has_laws = spelled_has_laws dsn_spelling dsn_laws

pub dsn_refuses_null : RefusesNull dsn_kind
dsn_refuses_null = spelled_refuses_null dsn_spelling

-- ---- values of the program

IsUtf8-scheme : (s : Scheme) → IsUtf8 (scheme_text s)
IsUtf8-scheme Http = ascii_text (codes "http") refl
IsUtf8-scheme Https = ascii_text (codes "https") refl

IsUtf8-option : {Z : Type 0} (o : Option (String Z)) → IsUtf8 (unwrap_or (option_map string_bytes o) [])
IsUtf8-option None = IsUtf8-nil
IsUtf8-option (Some s) = IsUtf8-string_bytes s

abbrev pub IsPort : Option ℕ → Type 0
IsPort o = IfSome o (λ n. n < 2 ^ 64)

IsUtf8-port : (o : Option ℕ) → IsPort o → IsUtf8 (port_text o)
IsUtf8-port None small = IsUtf8-nil
IsUtf8-port (Some n) small = IsUtf8-append (codes ":") (decimal n) (ascii_text (codes ":") refl) (IsUtf8-from_ascii (decimal n) (IsAscii-decimal n small))

pub dsn_utf8 : (d : Dsn) → IsPort d.port → IsUtf8 (dsn_text (dsn_parts d))
dsn_utf8 d small =
    let word = λ (w : List ℕ) (rest : List ℕ) (is : is_ascii w ≡ true) (h : IsUtf8 rest). IsUtf8-append w rest (ascii_text w is) h in
    IsUtf8-append _ _ (IsUtf8-scheme d.scheme) (word (codes "://") _ refl (IsUtf8-append _ _ (IsUtf8-string_bytes d.public_key)
    (word (codes ":") _ refl (IsUtf8-append _ _ (IsUtf8-option d.secret_key) (word (codes "@") _ refl
    (IsUtf8-append _ _ (IsUtf8-string_bytes d.host) (IsUtf8-append _ _ (IsUtf8-port d.port small)
    (IsUtf8-append _ _ (IsUtf8-string_bytes d.path) (IsUtf8-string_bytes d.project_id.text)))))))))

dsn_refused : (s : List ℕ) (e : ParseDsnError) → IsRefused s e → (c : Cell) → dsn_spelling.spells s c → ⊥
dsn_refused s e h c g = not_both_text s g.0 e g.2 h

pub tree_refused : (s : List ℕ) (e : ParseDsnError) → UnlessMemory e (IsRefused s e) → ReadsSpelling dsn_spelling dsn_cell s (Err (tree_error e))
tree_refused s Memory h = tt
tree_refused s InvalidUrl h = dsn_refused s InvalidUrl h
tree_refused s InvalidScheme h = dsn_refused s InvalidScheme h
tree_refused s NoUsername h = dsn_refused s NoUsername h
tree_refused s NoProjectId h = dsn_refused s NoProjectId h
tree_refused s (InvalidProjectId p) h = dsn_refused s (InvalidProjectId p) h

pub small_port : (o : Option ℕ) (usual n : ℕ) → n ≡ unwrap_or o usual → n < 2 ^ 64 → IsPort o
small_port None usual n is small = tt
small_port (Some p) usual n is small = omega (arith, is, small)

pub tree_made : {E : Type 0} (c : Cell) (s : List ℕ) (r : Result Value E) → s ≡ written_text c → IfOk r (λ t. view t ≡ string s) → IfOk r (λ t. view t ≡ written dsn_kind c)
tree_made c s (Ok t) is made = text_tree dsn_spelling c (view t) s made is
tree_made c s (Err e) is made = tt
