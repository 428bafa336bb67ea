-- What `==` says of DSNs: they are equal exactly where their cells are the same.
use Rattle.std.proofs.Common.{rules, ◌≡◌, ℕ, List, Option, Some, None, refl, ap, Decides}
use Rattle.std.proofs.lemmas.Bool.Decides.{Decides-like}
use Rattle.sentry_tables.specs.Cell.{Cell, text}
use Rattle.sentry_tables.specs.Cells.{natural_cell, option_cell}
use Rattle.sentry_keys.specs.declared.dsn.Dsn.{Dsn}
use Rattle.sentry_keys.specs.contracts.dsn.DsnPartialEq.TheImpl.{eq-value as of_dsns}
use Rattle.sentry_keys.specs.Dsn.{DsnParts, dsn_parts}
use Rattle.sentry_keys.specs.DsnTree.{parts_cell, dsn_cell}
use Rattle.sentry_keys.proofs.DsnAnswers.{same_scheme}

options_same : {A : Type 0} (f : A → Cell) → ((x y : A) → f x ≡ f y → x ≡ y) → (x y : Option A) → option_cell f x ≡ option_cell f y → x ≡ y
options_same f each None None same = refl
options_same f each None (Some y) same = cc
options_same f each (Some x) None same = cc
options_same f each (Some x) (Some y) same = ap Some (each x y (cc))

texts_same : (x y : List ℕ) → text x ≡ text y → x ≡ y
texts_same x y same = cc

numbers_same : (x y : ℕ) → natural_cell x ≡ natural_cell y → x ≡ y
numbers_same x y same = cc

-- the parts are those of their cell
parts_same : (a b : DsnParts) → parts_cell a ≡ parts_cell b → a ≡ b
parts_same a b same =
    let scheme = same_scheme a.scheme b.scheme (cc) in
    let key : a.key ≡ b.key = cc in
    let secret = options_same text texts_same a.secret b.secret (cc) in
    let host : a.host ≡ b.host = cc in
    let port = options_same natural_cell numbers_same a.port b.port (cc) in
    let path : a.path ≡ b.path = cc in
    let project : a.project ≡ b.project = cc in
    λ i. record { scheme = scheme i; key = key i; secret = secret i; host = host i; port = port i; path = path i; project = project i }

parts_decide : (a b : Dsn) → Decides (of_dsns.it a b) (dsn_parts a ≡ dsn_parts b)
parts_decide a b = search rules

pub dsns_decide : (a b : Dsn) → Decides (of_dsns.it a b) (dsn_cell a ≡ dsn_cell b)
dsns_decide a b = Decides-like (of_dsns.it a b) (λ same. ap parts_cell same) (parts_same (dsn_parts a) (dsn_parts b)) (parts_decide a b)
