-- Which columns a condition pins hangs on no row in scope.
use Rattle.std.specs.Prelude.{◌≡◌, refl, ℕ, zero, suc, List, [], ◌∷◌, Bool, true, false, not, ◌&&◌, ◌||◌, is_some}
use Rattle.std.proofs.Common.{sym, ◌∙◌}
use Rattle.std.proofs.lemmas.Bool.{true≢false}
use Rattle.rls_evaluation.specs.rls_catalog.specs.rls_expr.specs.declared.expr.Comparison.TheVariants as c
use Rattle.rls_evaluation.specs.rls_catalog.specs.rls_expr.specs.{declared.expr.FromItem.FromItem, declared.expr.Selects.Selects}
use Rattle.rls_evaluation.specs.rls_catalog.specs.rls_expr.specs.Terms.{Term, Terms, Literal, Var, CurrentUser, Compare, And, Scalar, End, More, Select}
use Rattle.rls_evaluation.specs.Environments.{Environment}
use Rattle.rls_evaluation.specs.Keys.{is_column, key_of, known_value, outer_value, pin_among, pin_by, pin_in, pin_of, pinned}
use Rattle.rls_guard.specs.Support.{is_unsupported, nowhere, pins_key, query_unsupported}
use Rattle.rls_guard.proofs.PinnedLemmas.{if_there, or_there, with_there}

-- a column further out has a value in each environment
outer_alike : (level column : ℕ) (a b : Environment) → is_some (outer_value level column a) ≡ is_some (outer_value level column b)
outer_alike zero column a b = refl
outer_alike (suc level) column a b = refl

-- what is known is so in each
known_alike : (t : Term) (a b : Environment) → is_some (known_value t a) ≡ is_some (known_value t b)
known_alike (Literal v) a b = refl
known_alike (Var at) a b = outer_alike at.level at.column a b
known_alike CurrentUser a b = refl
known_alike t a b = refl

-- the one side is the column, the other is known
by_alike : (column : ℕ) (here there : Term) (a b : Environment) → is_some (pin_by column here there a) ≡ is_some (pin_by column here there b)
by_alike column here there a b =
    if_there (is_column column here) (known_value there a)
    ∙ (λ i. is_column column here && known_alike there a b i)
    ∙ sym (if_there (is_column column here) (known_value there b))

-- a part
in_alike : (column : ℕ) (t : Term) (a b : Environment) → is_some (pin_in column t a) ≡ is_some (pin_in column t b)
in_alike column (Compare c.Equal x y) a b =
    or_there (pin_by column x y a) (pin_by column y x a)
    ∙ (λ i. by_alike column x y a b i || by_alike column y x a b i)
    ∙ sym (or_there (pin_by column x y b) (pin_by column y x b))
in_alike column t a b = refl

-- one of several parts
among_alike : (column : ℕ) (ts : Terms) (a b : Environment) → is_some (pin_among column ts a) ≡ is_some (pin_among column ts b)
among_alike column End a b = refl
among_alike column (More t ts) a b =
    or_there (pin_in column t a) (pin_among column ts a)
    ∙ (λ i. in_alike column t a b i || among_alike column ts a b i)
    ∙ sym (or_there (pin_in column t b) (pin_among column ts b))

-- a condition, for one column
column_alike : (column : ℕ) (t : Term) (a b : Environment) → is_some (pin_of column t a) ≡ is_some (pin_of column t b)
column_alike column (And ts) a b = among_alike column ts a b
column_alike column t a b = in_alike column t a b

-- for each column
columns_alike : (columns : List ℕ) (t : Term) (a b : Environment) → is_some (pinned columns t a) ≡ is_some (pinned columns t b)
columns_alike [] t a b = refl
columns_alike (column ∷ columns) t a b =
    with_there (pin_of column t a) (pinned columns t a)
    ∙ (λ i. column_alike column t a b i && columns_alike columns t a b i)
    ∙ sym (with_there (pin_of column t b) (pinned columns t b))

-- evaluation has a key exactly where WHERE pins it
pub pinned_means : (columns : List ℕ) (condition : Terms) (env : Environment) → is_some (key_of columns condition env) ≡ pins_key columns condition
pinned_means columns End env = refl
pinned_means [] (More t ts) env = refl
pinned_means (column ∷ columns) (More t ts) env = columns_alike (column ∷ columns) t env nowhere

-- neither the one is missing nor the other there
pub first_holds : (a b : Bool) → (not a || b) ≡ false → a ≡ true
first_holds true b is = refl
first_holds false b is = absurd (true≢false is)

-- a scalar subquery that is supported has a key, whatever rows are in scope
pub scalar_means : (sums : Bool) (from : FromItem) (key : List ℕ) (selects : Selects) (items condition : Terms) (env : Environment)
    → is_unsupported sums (Scalar (Select from key selects items condition)) ≡ false → is_some (key_of key condition env) ≡ true
scalar_means sums from key selects items condition env is =
    pinned_means key condition env ∙ first_holds (pins_key key condition) (query_unsupported sums (Select from key selects items condition)) is
