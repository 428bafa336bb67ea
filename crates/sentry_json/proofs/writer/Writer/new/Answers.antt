use Rattle.std.proofs.Common.{[], IsUtf8, rules, refl, sym, ap, subst}
use Rattle.std.proofs.lemmas.List.{drop_all}
use Rattle.std.proofs.lemmas.Str.{IsUtf8-nil}
use Rattle.json.specs.Lex.{tokens, lex, punctuate}
use Rattle.json.specs.Print.{print_from, ArePrintable}
use Rattle.sentry_json.proofs.writer.Writer.new.Goals as goal

pub invariant_of-result : goal.invariant_of-result
unfolding print_from ArePrintable
invariant_of-result c =
    let none = drop_all c.len-start.result c.new-out.result.items (search rules) in
    record { within = search rules; printed = []; printable = tt; text = none; place = refl; utf8 = subst IsUtf8 (sym none) IsUtf8-nil }

pub returns-clause-tokens : goal.returns-clause-tokens
unfolding lex punctuate
returns-clause-tokens c = ap tokens (drop_all c.len-start.result c.new-out.result.items (search rules))
