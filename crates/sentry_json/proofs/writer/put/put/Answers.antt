use Rattle.std.proofs.Common.{IsUtf8, refl, sym, subst}
use Rattle.json.specs.Reads.{token_of}
use Rattle.json.specs.Print.{token_text}
use Rattle.json.proofs.Printed.Utf8.{IsUtf8-are_ascii, IsUtf8-quoted, IsUtf8-key, IsUtf8-boolean}
use Rattle.sentry_json.proofs.writer.put.put.Goals as goal

pub returns-in-BeginObject-clause-utf8 : goal.returns-in-BeginObject-clause-utf8
returns-in-BeginObject-clause-utf8 c = subst (λ t. IsUtf8 (token_text (token_of t))) (sym c.in-BeginObject.is) (IsUtf8-are_ascii _ refl)

pub returns-in-EndObject-clause-utf8 : goal.returns-in-EndObject-clause-utf8
returns-in-EndObject-clause-utf8 c = subst (λ t. IsUtf8 (token_text (token_of t))) (sym c.in-EndObject.is) (IsUtf8-are_ascii _ refl)

pub returns-in-BeginArray-clause-utf8 : goal.returns-in-BeginArray-clause-utf8
returns-in-BeginArray-clause-utf8 c = subst (λ t. IsUtf8 (token_text (token_of t))) (sym c.in-BeginArray.is) (IsUtf8-are_ascii _ refl)

pub returns-in-EndArray-clause-utf8 : goal.returns-in-EndArray-clause-utf8
returns-in-EndArray-clause-utf8 c = subst (λ t. IsUtf8 (token_text (token_of t))) (sym c.in-EndArray.is) (IsUtf8-are_ascii _ refl)

pub returns-in-Null-clause-utf8 : goal.returns-in-Null-clause-utf8
returns-in-Null-clause-utf8 c = subst (λ t. IsUtf8 (token_text (token_of t))) (sym c.in-Null.is) (IsUtf8-are_ascii _ refl)

pub returns-in-Key-clause-utf8 : goal.returns-in-Key-clause-utf8
returns-in-Key-clause-utf8 c = subst (λ t. IsUtf8 (token_text (token_of t))) (sym c.in-Key.is) (IsUtf8-key _ (subst IsUtf8 c.as_bytes.ensures.value c.as_bytes.ensures.utf8))

pub returns-in-String-clause-utf8 : goal.returns-in-String-clause-utf8
returns-in-String-clause-utf8 c = subst (λ t. IsUtf8 (token_text (token_of t))) (sym c.in-String.is) (IsUtf8-quoted _ (subst IsUtf8 c.as_bytes-in-String.ensures.value c.as_bytes-in-String.ensures.utf8))

pub returns-in-Bool-true-clause-utf8 : goal.returns-in-Bool-true-clause-utf8
returns-in-Bool-true-clause-utf8 c = subst (λ t. IsUtf8 (token_text (token_of t))) (sym c.in-Bool-true.is) (IsUtf8-boolean c.in-Bool-true.field-0)

pub returns-in-Bool-false-clause-utf8 : goal.returns-in-Bool-false-clause-utf8
returns-in-Bool-false-clause-utf8 c = subst (λ t. IsUtf8 (token_text (token_of t))) (sym c.in-Bool-false.is) (IsUtf8-boolean c.in-Bool-false.field-0)
