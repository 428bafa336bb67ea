-- Fingerprints are lawful.
use Rattle.std.proofs.Common.{◌≡◌, codes, Bool, true, false, cond, refl, sym, ap, ◌∙◌}
use Rattle.sentry_tables.specs.Cell.{Cell, sequence, Cells, no_cells, cell, same_cell}
use Rattle.sentry_tables.specs.Kind.{Kind, list, default}
use Rattle.sentry_tables.specs.Lawful.{IsLawful, RuleLaws}
use Rattle.sentry_tables.specs.Meets.{IsStored, IsPlain, IsReadable}
use Rattle.sentry_tables.specs.Norm.{norm, each_cell}
use Rattle.sentry_tables.specs.Written.{tree, is_null}
use Rattle.sentry_tables.proofs.Basic.{text_laws}
use Rattle.sentry_tables.proofs.Laws.{has_laws}
use Rattle.sentry_tables.proofs.Nulls.{list_refuses_null}
use Rattle.sentry_tables.proofs.Sound.{ascii_text}
use Rattle.sentry_tables.specs.Kinds.{text_kind}
use Rattle.sentry_tables.specs.WrittenAs.{FormLaws}
use Rattle.sentry_event.specs.Fingerprints.{one_text, usual_fingerprint, fingerprint_form, fingerprint_kind}
use Rattle.sentry_tables.proofs.WrittenAs.{written_as_laws, written_as_refuses_null}

abbrev pub texts : Kind
texts = list text_kind

-- ---- lists of texts are their own normal form

pub cells_normal : (cs : Cells) → each_cell (norm text_kind) cs ≡ cs
cells_normal no_cells = refl
cells_normal (cell c cs) = ap (cell c) (cells_normal cs)

pub normal : (c : Cell) → IsStored texts c → norm texts c ≡ c
normal (sequence cs) h = ap sequence (cells_normal cs)
normal _ h = absurd h

-- ---- the form

by_form : (P : Cell → Type 0) (c : Cell) (b : Bool) → P usual_fingerprint → P c → P (cond b usual_fingerprint c)
by_form P c true p q = p
by_form P c false p q = q

abbrev pub is_other : Cell → Bool
is_other c = same_cell c (one_text (codes "{{default}}"))

form_again : (c : Cell) (b : Bool) → is_other c ≡ b → fingerprint_form (cond b usual_fingerprint c) ≡ cond b usual_fingerprint c
form_again c true e = refl
form_again c false e = rw e refl

usual_stored : IsStored texts usual_fingerprint
usual_stored = (ascii_text (codes "{{ default }}") refl, tt)

form_stored : (c : Cell) → IsStored texts c → IsStored texts (fingerprint_form c)
form_stored c h = by_form (IsStored texts) c (is_other c) usual_stored h

not_null : (c : Cell) → is_null (tree texts c) ≡ false
not_null c = refl

form_laws : FormLaws texts fingerprint_form
form_laws = record {
  stored = form_stored;
  plain = λ c h. by_form (IsPlain texts) c (is_other c) (tt, tt) h;
  readable = λ c h. by_form (IsReadable texts) c (is_other c) (tt, tt) h;
  settled = λ c s p. let e = normal (fingerprint_form c) (form_stored c s) in ap fingerprint_form e ∙ form_again c (is_other c) refl ∙ sym e;
  alike = λ d c sound h s p. ap (tree texts) (sym (normal (fingerprint_form c) (form_stored c s)));
  undrawn = tt;
  not_null = λ c h. refl;
}

pub fingerprint_lawful : IsLawful fingerprint_kind
unfolding fingerprint_kind
fingerprint_lawful = written_as_laws texts fingerprint_form (has_laws texts text_laws) form_laws

pub fingerprint_default : RuleLaws (default usual_fingerprint) fingerprint_kind
unfolding fingerprint_kind
fingerprint_default = (written_as_refuses_null texts fingerprint_form (list_refuses_null text_kind), (usual_stored, (tt, tt), (tt, tt), refl))
