use Rattle.std.proofs.Common.{codes, ◌∷◌, ◌++◌, drop, take, refl, sym, ◌∙◌, arith}
use Rattle.sentry_words.specs.Units.{named, units, times, sizes, binary_sizes, shares}
use Rattle.sentry_words.proofs.UnitLaws.{alike, unknown, unknown_empty, found-append_some, found-append_none}
use Rattle.sentry_words.proofs.unit.Unit.known.Goals as goal

pub returns-in_err-first : goal.returns-in_err-first
returns-in_err-first c = rw (c.from_residual.ensures) (unknown_empty c.as_bytes.result.now c.args.text.now c.in_err-first.ensures.value c.as_bytes.ensures.value)

pub returns-in_default : goal.returns-in_default
returns-in_default c = unknown c.in_ok-first.field-0.now c.as_bytes.result.now c.args.text.now (omega arith) c.in_ok-first.ensures.value c.as_bytes.ensures.value

pub returns-in-110 : goal.returns-in-110
unfolding times sizes binary_sizes shares
returns-in-110 c = c.nanosecond_or_week.ensures ∙ alike (named (codes "nw") units) (codes "nNwW") c.in_ok-first.field-0.now c.as_bytes.result.now c.args.text.now (omega arith) (λ rest. (refl, (refl, (refl, (refl, tt))))) c.in_ok-first.ensures.value c.as_bytes.ensures.value

pub returns-in-115 : goal.returns-in-115
unfolding times sizes binary_sizes shares
returns-in-115 c = c.second_or_day.ensures ∙ alike (named (codes "sd") units) (codes "sSdD") c.in_ok-first.field-0.now c.as_bytes.result.now c.args.text.now (omega arith) (λ rest. (refl, (refl, (refl, (refl, tt))))) c.in_ok-first.ensures.value c.as_bytes.ensures.value

pub returns-in-104 : goal.returns-in-104
unfolding times sizes binary_sizes shares
returns-in-104 c = c.hour_or_ratio.ensures ∙ alike (named (codes "hr") units) (codes "hHrR") c.in_ok-first.field-0.now c.as_bytes.result.now c.args.text.now (omega arith) (λ rest. (refl, (refl, (refl, (refl, tt))))) c.in_ok-first.ensures.value c.as_bytes.ensures.value

pub returns-in-98 : goal.returns-in-98
unfolding times sizes binary_sizes shares
returns-in-98 c = c.bit_or_byte.ensures ∙ alike (named (codes "b") units) (codes "bB") c.in_ok-first.field-0.now c.as_bytes.result.now c.args.text.now (omega arith) (λ rest. (refl, (refl, tt))) c.in_ok-first.ensures.value c.as_bytes.ensures.value

pub returns-in-107 : goal.returns-in-107
unfolding times sizes binary_sizes shares
returns-in-107 c = c.k_size.ensures ∙ alike (named (codes "k") units) (codes "kK") c.in_ok-first.field-0.now c.as_bytes.result.now c.args.text.now (omega arith) (λ rest. (refl, (refl, tt))) c.in_ok-first.ensures.value c.as_bytes.ensures.value

pub returns-in-103 : goal.returns-in-103
unfolding times sizes binary_sizes shares
returns-in-103 c = c.g_size.ensures ∙ alike (named (codes "g") units) (codes "gG") c.in_ok-first.field-0.now c.as_bytes.result.now c.args.text.now (omega arith) (λ rest. (refl, (refl, tt))) c.in_ok-first.ensures.value c.as_bytes.ensures.value

pub returns-in-116 : goal.returns-in-116
unfolding times sizes binary_sizes shares
returns-in-116 c = c.t_size.ensures ∙ alike (named (codes "t") units) (codes "tT") c.in_ok-first.field-0.now c.as_bytes.result.now c.args.text.now (omega arith) (λ rest. (refl, (refl, tt))) c.in_ok-first.ensures.value c.as_bytes.ensures.value

pub returns-in-101 : goal.returns-in-101
unfolding times sizes binary_sizes shares
returns-in-101 c = c.e_size.ensures ∙ alike (named (codes "e") units) (codes "eE") c.in_ok-first.field-0.now c.as_bytes.result.now c.args.text.now (omega arith) (λ rest. (refl, (refl, tt))) c.in_ok-first.ensures.value c.as_bytes.ensures.value

pub returns-in-112 : goal.returns-in-112
unfolding times sizes binary_sizes shares
returns-in-112 c = c.percent_or_p_size.ensures ∙ alike (named (codes "p") units) (codes "pP%") c.in_ok-first.field-0.now c.as_bytes.result.now c.args.text.now (omega arith) (λ rest. (refl, (refl, (refl, tt)))) c.in_ok-first.ensures.value c.as_bytes.ensures.value

pub returns-in-Some : goal.returns-in-Some
unfolding times sizes binary_sizes shares
returns-in-Some c =
    sym (found-append_some (named (codes "m") (take 3 times)) (named (codes "m") (drop 4 units)) c.args.text.now _ (sym c.in-Some.ensures))
    ∙ alike (named (codes "m") (take 3 times) ++ named (codes "m") (drop 4 units)) (206 ∷ 194 ∷ codes "mM") c.in_ok-first.field-0.now c.as_bytes.result.now c.args.text.now (omega arith) (λ rest. (refl, (refl, (refl, (refl, tt))))) c.in_ok-first.ensures.value c.as_bytes.ensures.value

pub returns-in-None : goal.returns-in-None
unfolding times sizes binary_sizes shares
returns-in-None c =
    c.minute_or_m_size.ensures ∙ sym (found-append_none (named (codes "m") (take 3 times)) (named (codes "m") (drop 4 units)) c.args.text.now (sym c.in-None.ensures))
    ∙ alike (named (codes "m") (take 3 times) ++ named (codes "m") (drop 4 units)) (206 ∷ 194 ∷ codes "mM") c.in_ok-first.field-0.now c.as_bytes.result.now c.args.text.now (omega arith) (λ rest. (refl, (refl, (refl, (refl, tt))))) c.in_ok-first.ensures.value c.as_bytes.ensures.value
