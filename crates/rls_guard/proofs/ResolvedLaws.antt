-- A resolved subquery has the key of its table, as the state has it.
use Rattle.std.specs.Prelude.{◌≡◌, ℕ, ◌≤◌, List, [], ◌∷◌, ◌++◌, drop, Bool, true, false, Option, Some, None, Result, Ok, Err, IfOk, length, if◌then◌else◌}
use Rattle.std.specs.Str.{bytes_eq}
use Rattle.std.proofs.Common.{ap, sym, refl, subst, ◌∙◌}
use Rattle.std.proofs.lemmas.Option.{none-some}
use Rattle.rls_evaluation.specs.rls_catalog.specs.rls_expr.specs.rls_value.specs.{declared.refusal.Refusal.Refusal, declared.refusal.Refusal.TheVariants.Undefined, Giving.and_then, declared.refusal.NameKind.NameKind}
use Rattle.rls_evaluation.specs.rls_catalog.specs.rls_expr.specs.{declared.table.TableDef.TableDef, Scopes.InScope, Scopes.known_table, Scopes.var_in, Naming.Step, Naming.Look, Naming.Enter, Naming.Leave, Terms.Query, Terms.Scalar, Terms.Select, Terms.qualifier_of, Resolving.Names, Resolving.definition_of, Resolving.inside, Resolving.items_of, Resolving.resolved, Resolving.resolved_all, Resolving.query_over, Resolving.query_resolved}
use Rattle.rls_evaluation.specs.rls_catalog.specs.{SoundRows.RowsAreSound, State.State, State.table_of}
use Rattle.rls_evaluation.specs.rls_catalog.proofs.Walks.{bytes_same}
use Rattle.rls_evaluation.specs.rls_source.specs.{Asked.table_at, Named.found_or, Named.table_or_undefined}
use Rattle.rls_evaluation.specs.{declared.relation.SecuredRelation.SecuredRelation, Environments.Environment, Eval.ranged_over, Showing.shows}
use Rattle.rls_guard.specs.{Naming.AreTablesOf, Naming.named, Naming.there_or_undefined, Support.is_unsupported, Support.pins_key, Support.query_unsupported}
use Rattle.rls_guard.proofs.{OneRowLaws.one_row, PinnedLaws.first_holds}

-- ---- the tables that are found are those of the state

-- what is given, if it is
abbrev given : Result TableDef Refusal → Option TableDef
given (Ok table) = Some table
given (Err refusal) = None

found_there : (refusal : Refusal) (found : Option TableDef) (table : TableDef) → found_or refusal found ≡ Ok table → found ≡ Some table
found_there refusal (Some one) table is = ap given is
found_there refusal None table is = ap given is

one_more : (s : State) (found : List InScope) (one : InScope) → AreTablesOf s found → table_of s one.0 ≡ Some one.1 → AreTablesOf s (found ++ one ∷ [])
one_more s [] one are there = (there, tt)
one_more s (first ∷ found) one are there = (are.0, one_more s found one are.1 there)

known_then : {A : Type 0} (s : State) (first : Result A Refusal) (next : A → Result (List InScope) Refusal) → ((a : A) → first ≡ Ok a → IfOk (next a) (AreTablesOf s)) → IfOk (and_then first next) (AreTablesOf s)
known_then s (Ok a) next each = each a refl
known_then s (Err refusal) next each = tt

found_known : (s : State) (steps : List Step) (tables found : List InScope) → AreTablesOf s found → IfOk ((named steps tables found).in_state s).gives (AreTablesOf s)
unfolding table_at
found_known s [] tables found are = are
found_known s (Look name ∷ steps) tables found are =
    known_then s (there_or_undefined (var_in tables name)) (λ _. ((named steps tables found).in_state s).gives) (λ _ is. found_known s steps tables found are)
found_known s (Enter from ∷ steps) tables found are =
    known_then s ((table_or_undefined from.table).in_state s).gives (λ table. ((named steps ((qualifier_of from, table) ∷ tables) (found ++ (from.table, table) ∷ [])).in_state s).gives)
    (λ table is. found_known s steps ((qualifier_of from, table) ∷ tables) (found ++ (from.table, table) ∷ [])
    (one_more s found (from.table, table) are (found_there (Undefined NameKind.Relation from.table) (table_of s from.table) table is)))
found_known s (Leave ∷ steps) tables found are = found_known s steps (drop 1 tables) found are

-- the tables that the names of a statement lead to are those of the state
pub named_known : (s : State) (steps : List Step) (tables : List InScope) → IfOk ((named steps tables []).in_state s).gives (AreTablesOf s)
named_known s steps tables = found_known s steps tables [] tt

-- ---- a resolved subquery

there_if : (b : Bool) (s : State) (one : InScope) (name : List ℕ) (table : TableDef) (others : Option TableDef) → bytes_eq one.0 name ≡ b → table_of s one.0 ≡ Some one.1 → (others ≡ Some table → table_of s name ≡ Some table)
    → (if b then Some one.1 else others) ≡ Some table → table_of s name ≡ Some table
there_if true s one name table others same there rest is = ap (table_of s) (sym (bytes_same one.0 name same)) ∙ there ∙ is
there_if false s one name table others same there rest is = rest is

known_there : (s : State) (known : List InScope) (name : List ℕ) (table : TableDef) → AreTablesOf s known → known_table known name ≡ Some table → table_of s name ≡ Some table
known_there s [] name table are is = absurd (none-some table is)
known_there s (one ∷ others) name table are is =
    there_if (bytes_eq one.0 name) s one name table (known_table others name) refl are.0 (known_there s others name table are.1) is

-- a scalar subquery that is resolved and supported ranges over one row, or none
pub resolved_one : (s : State) (names : Names) (query : Query) (table : TableDef) (sums : Bool) (relations : List SecuredRelation) (user : List ℕ) (env : Environment)
    → RowsAreSound s → AreTablesOf s names.known → definition_of query names ≡ Some table → is_unsupported sums (resolved (Scalar query) names) ≡ false
    → IfOk ((ranged_over (query_resolved query names) (shows relations user) env).in_state s).gives (λ rows. length rows ≤ 1)
resolved_one s names (Select from key selects items condition) table sums relations user env sound known there =
    subst
    (λ def. is_unsupported sums (Scalar (query_over (Select from key selects items condition) names def)) ≡ false
    → IfOk ((ranged_over (query_over (Select from key selects items condition) names def) (shows relations user) env).in_state s).gives (λ rows. length rows ≤ 1))
    (sym there)
    (λ supported.
    let resolved_items = items_of selects table (resolved_all items (inside (qualifier_of from, table) names)) in
    let resolved_condition = resolved_all condition (inside (qualifier_of from, table) names) in
    one_row s relations user env from table selects resolved_items resolved_condition sound (known_there s names.known from.table table known there)
    (first_holds (pins_key table.key resolved_condition) (query_unsupported sums (Select from table.key selects resolved_items resolved_condition)) supported))
