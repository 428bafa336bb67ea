-- An authentication's tree: what shows it, and its laws.
use Rattle.std.proofs.Common.{◌≡◌, ◌⊎◌, ◌<◌, ◌^◌, Option, Some, None, Result, Ok, Err, inl, inr, refl, sym, ap, ap₂, subst, ◌∙◌, arith, option_map, string_bytes, ◌≤◌, false, pos}
use Rattle.std.specs.Prelude.{OnOk, IfOk, String}
use Rattle.std.specs.declared.alloc.Global.{Global}
use Rattle.std.proofs.lemmas.Bool.{false≢true}
use Rattle.std.proofs.lemmas.Str.{IsUtf8-string_bytes}
use Rattle.json.specs.Written.{Written}
use Rattle.serde_json.specs.Data.{Data, null, no_members, depth}
use Rattle.sentry_json.specs.Sound.{IsSound}
use Rattle.sentry_moments.specs.declared.moment.Moment.{Moment}
use Rattle.sentry_tables.specs.Cell.{Cell, absent, text, whole, moment, fields, sequence, no_cells, cell}
use Rattle.sentry_tables.specs.Kind.{scalar}
use Rattle.sentry_tables.specs.Lawful.{IsLawful, ScalarLaws, IsMoment}
use Rattle.sentry_tables.specs.Drawn.{NothingDrawn}
use Rattle.sentry_tables.specs.Laws.{HasLaws}
use Rattle.sentry_tables.specs.Meets.{IsPlain, IsStored, IsOptional}
use Rattle.sentry_tables.specs.Norm.{norm}
use Rattle.sentry_tables.specs.Shows.{Shows}
use Rattle.sentry_tables.specs.Fields.{table_of}
use Rattle.sentry_tables.specs.Written.{tree, is_null}
use Rattle.sentry_tables.proofs.Basic.{text_laws, unsigned_laws}
use Rattle.sentry_tables.proofs.DrawnTrees.{never_drawn}
use Rattle.sentry_tables.proofs.Laws.{has_laws}
use Rattle.sentry_tables.specs.Cells.{text_cell, natural_cell, option_cell}
use Rattle.sentry_tables.specs.Kinds.{text_kind}
use Rattle.sentry_tables.specs.Reading.{Reads, Shown, Refused}
use Rattle.sentry_tables.specs.Writes.{written, WritesTree}
use Rattle.sentry_tables.specs.declared.error.TreeError.{TreeError}
use Rattle.sentry_tables.specs.declared.error.TreeError.TheVariants.{Misfit, Memory}
use Rattle.sentry_keys.specs.Auth.{Time, Parts, time_of, parts_of}
use Rattle.sentry_keys.specs.AuthFields.{auth_fields, auth_table, rows_cell, time_cell, beside, auth_cell, IsBeside, epoch, auth_scalar, auth_kind}
use Rattle.sentry_keys.specs.declared.auth.Auth.{Auth}

table_lawful : IsLawful auth_table
unfolding auth_table
table_lawful = (refl, tt, text_laws, (refl, tt, text_laws, (refl, tt, text_laws, (refl, tt, unsigned_laws (2 ^ 16) (omega arith), tt, refl), refl), refl), refl)

table_laws : HasLaws auth_table
table_laws = has_laws auth_table table_lawful

-- what holds of each pair of a moment and rows
each : (P : Cell → Cell → Type 0) (Q : Cell → Type 0) → ((time rows : Cell) → P time rows → Q (beside time rows)) → (c : Cell) → IsBeside P c → Q c
each P Q f (sequence (cell time (cell rows no_cells))) h = f time rows h
each P Q f _ h = absurd h

abbrev IsKept : Cell → Type 0
IsKept c = auth_scalar.stored c × auth_scalar.plain c

abbrev Stored : Cell → Cell → Type 0
Stored time rows = IsOptional IsMoment time × IsStored auth_table rows

abbrev ShownBeside : Data → Cell → Cell → Type 0
ShownBeside d time rows = (time ≡ absent) × Shows auth_table epoch d rows

kept : (Q : Cell → Type 0) → ((time rows : Cell) → IsStored auth_table rows → IsPlain auth_table rows → Q (beside time rows)) → (c : Cell) → IsKept c → Q c
kept Q f c h = each Stored (λ x. auth_scalar.plain x → Q x) (λ time rows s p. f time rows s.1 p) c h.0 h.1

real : IsMoment epoch
real = (omega arith, omega arith)

-- no row draws
undrawn : (d : Data) → NothingDrawn auth_table d
unfolding auth_table
undrawn = never_drawn auth_table search

one_shown : (d : Data) (c x : Cell) → auth_scalar.shows d c → auth_scalar.shows d x → c ≡ x
one_shown d c x h k =
    each (ShownBeside d) (λ y. y ≡ x)
    (λ time rows g. each (ShownBeside d) (λ y. beside time rows ≡ y) (λ other shown f. ap₂ beside (g.0 ∙ sym f.0) (table_laws.single epoch d rows shown (undrawn d) g.1 f.1)) x k) c h

rewritten : (d : Data) (rows : Cell) → IsSound d → Shows auth_table epoch d rows → IsStored auth_table rows × IsPlain auth_table rows × (tree auth_table rows ≡ tree auth_table (norm auth_table rows))
rewritten d rows sound h = table_laws.rewritten d rows epoch sound real h

no_null : (c : Cell) → is_null (auth_scalar.tree c) ≡ false
unfolding auth_table
no_null c = refl

pub null_refused : (now c : Cell) → Shows (scalar auth_scalar) now null c → ⊥
unfolding auth_table
null_refused now c h = each (ShownBeside null) (λ x. ⊥) (λ time rows g. false≢true g.1.0) c h

decided : (d : Data) → ((c : Cell) × Shows auth_table epoch d c) ⊎ ((c : Cell) → Shows auth_table epoch d c → ⊥) → ((c : Cell) × auth_scalar.shows d c) ⊎ ((c : Cell) → auth_scalar.shows d c → ⊥)
decided d (inl some) = inl (beside absent some.0, (refl, some.1))
decided d (inr none) = inr (λ c h. each (ShownBeside d) (λ x. ⊥) (λ time rows g. none rows g.1) c h)

pub auth_laws : ScalarLaws auth_scalar
auth_laws = record {
  back = λ c p. kept (λ x. auth_scalar.readable x → auth_scalar.shows (auth_scalar.tree x) (auth_scalar.norm x)) (λ time rows s q r. (refl, (table_laws.back rows epoch s q r).0)) c p;
  single = one_shown;
  again = λ c p. kept (λ x. auth_scalar.norm (auth_scalar.norm x) ≡ auth_scalar.norm x) (λ time rows s q. ap (beside absent) (table_laws.stable rows s q).again) c p;
  stored_norm = λ c p. kept (λ x. auth_scalar.stored (auth_scalar.norm x)) (λ time rows s q. (tt, (table_laws.stable rows s q).stored)) c p;
  plain_norm = λ c p. kept (λ x. auth_scalar.plain (auth_scalar.norm x)) (λ time rows s q. (table_laws.stable rows s q).plain) c p;
  readable_norm = λ c p. kept (λ x. auth_scalar.readable x → auth_scalar.readable (auth_scalar.norm x)) (λ time rows s q r. (table_laws.stable rows s q).readable r) c p;
  depth_norm = λ c p. kept (λ x. depth (auth_scalar.tree (auth_scalar.norm x)) ≤ depth (auth_scalar.tree x)) (λ time rows s q. (table_laws.stable rows s q).depth) c p;
  null_tree = λ c p. no_null c;
  null_norm = λ c p. refl;
  sound = λ c p. kept (λ x. IsSound (auth_scalar.tree x)) (λ time rows s q. table_laws.written rows s q) c p;
  shown_stored = λ d c sound h. each (ShownBeside d) auth_scalar.stored (λ time rows g. (subst (IsOptional IsMoment) (sym g.0) tt, (rewritten d rows sound g.1).0)) c h;
  shown_plain = λ d c sound h. each (ShownBeside d) auth_scalar.plain (λ time rows g. (rewritten d rows sound g.1).1) c h;
  shown_readable = λ d c sound h. each (ShownBeside d) auth_scalar.readable (λ time rows g. table_laws.shown_readable d rows epoch sound real g.1) c h;
  shown_null = λ d c h e. absurd (false≢true e);
  shown_tree = λ d c sound h. each (ShownBeside d) (λ x. auth_scalar.tree x ≡ auth_scalar.tree (auth_scalar.norm x)) (λ time rows g. (rewritten d rows sound g.1).2) c h;
  decide = λ d. decided d (table_laws.decided d epoch);
}

-- ---- what the calls answer

pub auth_read : (d : Data) (r : Result Auth TreeError) → Reads auth_table rows_cell d r → IfOk r (λ a. a.timestamp ≡ None) → Reads auth_kind auth_cell d r
unfolding auth_kind Shown Refused
auth_read d (Ok a) h untimed = λ now. (ap time_cell untimed, h epoch)
auth_read d (Err Misfit) h untimed = λ now c. each (ShownBeside d) (λ x. ⊥) (λ time rows g. h epoch rows g.1) c
auth_read d (Err Memory) h untimed = tt

pub tree_is : (a : Auth) (d : Data) → d ≡ written (table_of auth_fields) (rows_cell a) → d ≡ written auth_kind (auth_cell a)
unfolding written auth_kind auth_table
tree_is a d h = h

pub tree_wrote : {E : Type 0} (a : Auth) (r : Result (Unit {0}) E) (old new : Written) → OnOk r (WritesTree (written (table_of auth_fields) (rows_cell a)) old new) → OnOk r (WritesTree (written auth_kind (auth_cell a)) old new)
unfolding written auth_kind auth_table
tree_wrote a r old new h = h

-- ---- its cells

text_part : (o : Option (String Global)) → option_cell text_cell o ≡ option_cell text (option_map string_bytes o)
text_part None = refl
text_part (Some s) = refl

abbrev moment_of : Time → Cell
moment_of time = moment time.0 time.1

time_part : (o : Option Moment) → time_cell o ≡ option_cell moment_of (option_map time_of o)
time_part None = refl
time_part (Some m) = refl

abbrev row_cells : Cell → Cell → Cell → Cell → Cell
row_cells client key secret version = fields (cell client (cell key (cell secret (cell version no_cells)))) no_members

parts_cell : Parts → Cell
parts_cell p =
    beside (option_cell moment_of p.timestamp) (row_cells (option_cell text p.client) (text p.key) (option_cell text p.secret) (whole (pos p.version)))

is_parts : (a : Auth) → auth_cell a ≡ parts_cell (parts_of a)
unfolding parts_cell
is_parts a =
    ap (λ t. beside t (rows_cell a)) (time_part a.timestamp)
    ∙ ap (λ c. beside (option_cell moment_of (option_map time_of a.timestamp)) (row_cells c (text_cell a.key) (option_cell text_cell a.secret) (natural_cell a.version))) (text_part a.client)
    ∙ ap (λ c. beside (option_cell moment_of (option_map time_of a.timestamp)) (row_cells (option_cell text (option_map string_bytes a.client)) (text_cell a.key) c (natural_cell a.version))) (text_part a.secret)

pub same_cells : (a b : Auth) → parts_of a ≡ parts_of b → auth_cell a ≡ auth_cell b
same_cells a b e = is_parts a ∙ ap parts_cell e ∙ sym (is_parts b)

time_held : (o : Option Moment) → IsOptional IsMoment (time_cell o)
time_held None = tt
time_held (Some m) = (omega (arith, m.secs_in_range), m.nanos_in_range)

text_held : (o : Option (String Global)) → IsOptional (IsStored text_kind) (option_cell text_cell o)
text_held None = tt
text_held (Some s) = IsUtf8-string_bytes s

pub auth_stored : (a : Auth) → a.version < 2 ^ 16 → IsStored auth_kind (auth_cell a)
unfolding auth_kind auth_table
auth_stored a h = (time_held a.timestamp, ((text_held a.client, (IsUtf8-string_bytes a.key, (text_held a.secret, (h, tt)))), refl))

text_plain : (o : Option (String Global)) → IsOptional (IsPlain text_kind) (option_cell text_cell o)
text_plain None = tt
text_plain (Some s) = tt

pub auth_plain : (a : Auth) → IsPlain auth_kind (auth_cell a)
unfolding auth_kind auth_table
auth_plain a = ((text_plain a.client, (tt, (text_plain a.secret, (tt, tt)))), (tt, refl))
