-- Ids of threads are lawful; what their readers and writers answer.
use Rattle.std.proofs.Common.{◌≡◌, ◌<◌, ◌^◌, ℕ, pos, negsuc, List, Some, None, option_and_then, cond, Result, OnOk, refl, sym, ap, ◌∙◌, arith, lt-ltb, false}
use Rattle.std.proofs.lemmas.Option.{none-some, same_Some}
use Rattle.json.specs.Token.{Token}
use Rattle.json.specs.Written.{Written, Writes}
use Rattle.std.specs.Prelude.{decimal}
use Rattle.serde_json.specs.Data.{Data, number, string}
use Rattle.serde_json.specs.Find.{as_str, as_number, as_u64}
use Rattle.sentry_json.specs.Sound.{IsSound}
use Rattle.sentry_tables.specs.Basic.{IsBelow, whole_below}
use Rattle.sentry_tables.specs.Cell.{Cell, text, whole}
use Rattle.sentry_tables.specs.Lawful.{IsLawful, IsNormal, RefusesNull}
use Rattle.sentry_tables.specs.Written.{is_null}
use Rattle.sentry_tables.proofs.Basic.{lawful_reader, reader_refuses_null, unsigned_laws}
use Rattle.sentry_tables.specs.Made.{made}
use Rattle.sentry_tables.specs.Reading.{Shown, Refused}
use Rattle.sentry_tables.specs.Writes.{written, WritesTree}
use Rattle.sentry_tables.specs.declared.way.Way.{Way}
use Rattle.sentry_tables.proofs.Tokens.{u64_wrote, string_wrote}
use Rattle.sentry_tables.proofs.Ways.{unchanged}
use Rattle.sentry_frames.specs.ThreadIds.{IsThreadId, thread_id_of, thread_id_tree, thread_id_kind}

-- ---- laws

back : (c : Cell) → IsThreadId c → thread_id_of (thread_id_tree c) ≡ Some c
back (whole (pos n)) p = ap (λ b. cond b (Some (whole (pos n))) None) (lt-ltb n (2 ^ 64) p)
back (whole (negsuc n)) p = absurd p
back (text s) p = refl
back _ p = absurd p

sound : (c : Cell) → IsThreadId c → IsSound (thread_id_tree c)
sound (whole (pos n)) p = p
sound (whole (negsuc n)) p = absurd p
sound (text s) p = p
sound _ p = absurd p

not_null : (c : Cell) → IsThreadId c → is_null (thread_id_tree c) ≡ false
not_null (whole (pos n)) p = refl
not_null (whole (negsuc n)) p = absurd p
not_null (text s) p = refl
not_null _ p = absurd p

below_is_id : (c : Cell) → IsBelow (2 ^ 64) c → IsThreadId c
below_is_id (whole (pos n)) p = p
below_is_id (whole (negsuc n)) p = absurd p
below_is_id _ p = absurd p

shown : (d : Data) (c : Cell) → IsSound d → thread_id_of d ≡ Some c → IsThreadId c
shown (number n) c h e = below_is_id c ((unsigned_laws (2 ^ 64) (omega arith)).shown_stored (number n) c h e)
shown (string s) c h e = rw (← same_Some (text s) c e) h
shown _ c h e = absurd cc

pub thread_id_lawful : IsLawful thread_id_kind
unfolding thread_id_kind
thread_id_lawful = lawful_reader thread_id_of thread_id_tree IsThreadId (record { back = back; sound = sound; not_null = not_null; shown = shown })

pub thread_id_refuses_null : RefusesNull thread_id_kind
unfolding thread_id_kind
thread_id_refuses_null = reader_refuses_null thread_id_of thread_id_tree IsThreadId refl

pub thread_id_normal : (c : Cell) → IsThreadId c → IsNormal thread_id_kind c
unfolding thread_id_kind
thread_id_normal c is = (is, tt, tt, refl)

-- ---- read

text_at : (s : List ℕ) (d : Data) → as_str d ≡ Some s → thread_id_of d ≡ Some (text s)
text_at s (string t) e = ap (λ x. Some (text x)) (same_Some t s e)
text_at s _ e = absurd cc

number_at : (n : ℕ) (d : Data) → option_and_then as_u64 (as_number d) ≡ Some n → n < 2 ^ 64 → thread_id_of d ≡ Some (whole (pos n))
number_at n (number x) e below = ap (option_and_then (whole_below (2 ^ 64))) e ∙ ap (λ b. cond b (Some (whole (pos n))) None) (lt-ltb n (2 ^ 64) below)
number_at n _ e below = absurd cc

neither : (d : Data) → as_str d ≡ None → option_and_then as_u64 (as_number d) ≡ None → thread_id_of d ≡ None
neither (number x) e f = ap (option_and_then (whole_below (2 ^ 64))) f
neither (string s) e f = absurd cc
neither _ e f = refl

pub thread_text : (s : List ℕ) (d : Data) → as_str d ≡ Some s → Shown thread_id_kind d (text s)
unfolding Shown thread_id_kind
thread_text s d e now = text_at s d e

pub thread_number : (n : ℕ) (d : Data) → option_and_then as_u64 (as_number d) ≡ Some n → n < 2 ^ 64 → Shown thread_id_kind d (whole (pos n))
unfolding Shown thread_id_kind
thread_number n d e below now = number_at n d e below

pub no_thread : (d : Data) → as_str d ≡ None → option_and_then as_u64 (as_number d) ≡ None → Refused thread_id_kind d
unfolding Refused thread_id_kind
no_thread d e f now c h = none-some c (sym (neither d e f) ∙ h)

-- ---- written

pub number_wrote : {E : Type 0} (n : ℕ) (r : Result (Unit {0}) E) (old new : Written) → Writes r old new (Token.number (decimal n)) → OnOk r (WritesTree (written thread_id_kind (whole (pos n))) old new)
unfolding written thread_id_kind
number_wrote n r old new w = u64_wrote n r old new w

pub text_wrote : {E : Type 0} (s : List ℕ) (r : Result (Unit {0}) E) (old new : Written) → Writes r old new (Token.string s) → OnOk r (WritesTree (written thread_id_kind (text s)) old new)
unfolding written thread_id_kind
text_wrote s r old new w = string_wrote s r old new w

-- ---- made anew

pub id_made : (way : Way) (c d : Cell) → d ≡ c → d ≡ made way thread_id_kind c
unfolding thread_id_kind
id_made way c d is = unchanged way thread_id_kind c d is refl
