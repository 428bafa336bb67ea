-- Authentications made anew: the same, or the normal form, which has no moment.
use Rattle.std.proofs.Common.{◌≡◌, String, Option, Some, None, refl, sym, ap, ◌∙◌}
use Rattle.std.specs.declared.alloc.Global.{Global}
use Rattle.sentry_tables.specs.Cell.{absent}
use Rattle.sentry_tables.specs.Kind.{may_null}
use Rattle.sentry_tables.specs.Norm.{norm, row_norm, is_null_of}
use Rattle.sentry_tables.specs.Cells.{text_cell, option_cell}
use Rattle.sentry_tables.specs.Kinds.{text_kind}
use Rattle.sentry_tables.specs.Made.{made}
use Rattle.sentry_tables.specs.declared.way.Way.{Way}
use Rattle.sentry_tables.specs.declared.way.Way.TheVariants.{Same, Normal}
use Rattle.sentry_keys.specs.Auth.{parts_of}
use Rattle.sentry_keys.specs.AuthFields.{auth_table, rows_cell, beside, auth_cell, rows_part, auth_kind}
use Rattle.sentry_keys.specs.declared.auth.Auth.{Auth}
use Rattle.sentry_keys.proofs.AuthTrees.{same_cells}

text_stays : (o : Option (String Global)) → row_norm may_null (is_null_of text_kind) (norm text_kind) (option_cell text_cell o) ≡ option_cell text_cell o
text_stays None = refl
text_stays (Some s) = refl

-- the rows are their own normal form
rows_stay : (a : Auth) → norm auth_table (rows_cell a) ≡ rows_cell a
unfolding auth_table
rows_stay a = let client = text_stays a.client in let secret = text_stays a.secret in cc

pub copy_made : (way : Way) (a b : Auth) → way ≡ Same → parts_of b ≡ parts_of a → auth_cell b ≡ made way auth_kind (auth_cell a)
unfolding made
copy_made Same a b is same = same_cells b a same
copy_made (Normal alloc) a b is same = absurd cc

pub normal_made : {alloc : Global} (way : Way) (a b : Auth) → way ≡ Normal alloc → parts_of b ≡ parts_of a → beside absent (rows_cell b) ≡ made way auth_kind (auth_cell a)
unfolding made auth_kind
normal_made Same a b is same = absurd cc
normal_made (Normal alloc) a b is same = ap (λ c. beside absent (rows_part c)) (same_cells b a same) ∙ ap (beside absent) (sym (rows_stay a))
