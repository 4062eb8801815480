-- Expressions are resolved over the list of the tables as they are over the tables of the state.
use Rattle.std.specs.Prelude.{◌≡◌, refl, ℕ, List, [], ◌∷◌, Bool, true, false, Option, Some, None, cond, if◌then◌else◌}
use Rattle.std.specs.Option.{option_map, unwrap_or}
use Rattle.std.specs.Str.{bytes_eq}
use Rattle.std.proofs.Common.{ap, sym, ◌∙◌}
use Rattle.std.proofs.lemmas.Bool.{true≢false}
use Rattle.std.proofs.lemmas.Map.Text.{is_eq-slice_cmp}
use Rattle.std.proofs.lemmas.Slice.Eq.{bytes_eq-Decides}
use Rattle.rls_expr.specs.{declared.expr.FromItem.FromItem, declared.expr.Selects.Selects, declared.table.TableDef.TableDef, Scopes.InScope, Scopes.known_table}
use Rattle.rls_expr.specs.declared.expr.Selects.TheVariants as s
use Rattle.rls_expr.specs.Resolving as machine
use Rattle.rls_expr.specs.Terms.{Term, Terms, Query, Literal, Column, Var, CurrentUser, Compare, And, Or, Not, IsNull, IsNotNull, InList, NotInList, Exists, InSubquery, NotInSubquery, Scalar, Sum, End, More, Select, qualifier_of}
use Rattle.rls_catalog.specs.State.{State, at, table_of}
use Rattle.rls_meaning.specs.Resolving.{items_of, query_resolved, resolved, resolved_all}

-- ---- the tables of the state

pub bytes_same : (a b : List ℕ) → bytes_eq a b ≡ true → a ≡ b
bytes_same a b = (bytes_eq-Decides a b).0

bytes_own : (a : List ℕ) → bytes_eq a a ≡ true
bytes_own a = (bytes_eq-Decides a a).1 refl

never_true : (b : Bool) → (b ≡ true → ⊥) → b ≡ false
never_true true never = absurd (never refl)
never_true false never = refl

bytes_turned : (b : Bool) (x y : List ℕ) → bytes_eq x y ≡ b → (bytes_eq y x ≡ true → b ≡ true) → bytes_eq y x ≡ b
bytes_turned true x y is back = ap (λ name. bytes_eq name x) (sym (bytes_same x y is)) ∙ bytes_own x
bytes_turned false x y is back = never_true (bytes_eq y x) (λ same. true≢false (sym (back same)))

bytes_back : (x y : List ℕ) → bytes_eq y x ≡ true → bytes_eq x y ≡ true
bytes_back x y same = ap (λ name. bytes_eq name y) (sym (bytes_same y x same)) ∙ bytes_own y

chosen_if : (b : Bool) (table : TableDef) (one other : Option TableDef) → one ≡ other → (if b then Some table else one) ≡ cond b (Some table) other
chosen_if true table one other same = refl
chosen_if false table one other same = same

-- the first table of a name is the one that is listed under it
listed_table : (tables : List InScope) (name : List ℕ) → known_table tables name ≡ at name tables
listed_table [] name = refl
listed_table (table ∷ tables) name =
    chosen_if (bytes_eq table.0 name) table.1 (known_table tables name) (at name tables) (listed_table tables name)
    ∙ ap (λ b. cond b (Some table.1) (at name tables)) (sym (is_eq-slice_cmp name table.0 ∙ bytes_turned (bytes_eq table.0 name) table.0 name refl (bytes_back table.0 name)))

-- ---- expressions

-- names in these scopes, over the tables of the state
abbrev over_state : State → List InScope → machine.Names
over_state s scopes = record { tables = scopes; known = s.tables }

items_same : (selects : Selects) (table : TableDef) (items : Terms) → machine.items_of selects table items ≡ items_of selects table items
items_same s.All table items = refl
items_same s.Count table items = refl
items_same s.Items table items = refl

-- a subquery with what was resolved, where its table is there
abbrev query_over : Query → State → List InScope → Option TableDef → Query
query_over (Select from key selects items condition) s scopes o =
    unwrap_or (option_map (λ table. Select from table.key selects (items_of selects table (resolved_all s ((qualifier_of from, table) ∷ scopes) items)) (resolved_all s ((qualifier_of from, table) ∷ scopes) condition)) o) (Select from key selects items condition)

-- the terms are resolved alike, one table further in
abbrev AlikeInside : State → List InScope → FromItem → Terms → Type 0
AlikeInside s scopes from ts = (table : TableDef) → machine.resolved_all ts (over_state s ((qualifier_of from, table) ∷ scopes)) ≡ resolved_all s ((qualifier_of from, table) ∷ scopes) ts

query_alike : (s : State) (scopes : List InScope) (from : FromItem) (key : List ℕ) (selects : Selects) (items condition : Terms) → AlikeInside s scopes from items → AlikeInside s scopes from condition → (o : Option TableDef)
    → machine.query_over (Select from key selects items condition) (over_state s scopes) o ≡ query_over (Select from key selects items condition) s scopes o
query_alike s scopes from key selects items condition items_alike condition_alike None = refl
query_alike s scopes from key selects items condition items_alike condition_alike (Some table) =
    λ i. Select from table.key selects
    ((items_same selects table (machine.resolved_all items (over_state s ((qualifier_of from, table) ∷ scopes))) ∙ ap (items_of selects table) (items_alike table)) i)
    (condition_alike table i)

mutual
  pub resolved_alike : (s : State) (scopes : List InScope) (t : Term) → machine.resolved t (over_state s scopes) ≡ resolved s scopes t
  resolved_alike s scopes (Literal v) = refl
  resolved_alike s scopes (Column name) = refl
  resolved_alike s scopes (Var at) = refl
  resolved_alike s scopes CurrentUser = refl
  resolved_alike s scopes (Compare how a b) = λ i. Compare how (resolved_alike s scopes a i) (resolved_alike s scopes b i)
  resolved_alike s scopes (And ts) = ap And (all_alike s scopes ts)
  resolved_alike s scopes (Or ts) = ap Or (all_alike s scopes ts)
  resolved_alike s scopes (Not t) = ap Not (resolved_alike s scopes t)
  resolved_alike s scopes (IsNull t) = ap IsNull (resolved_alike s scopes t)
  resolved_alike s scopes (IsNotNull t) = ap IsNotNull (resolved_alike s scopes t)
  resolved_alike s scopes (InList t ts) = λ i. InList (resolved_alike s scopes t i) (all_alike s scopes ts i)
  resolved_alike s scopes (NotInList t ts) = λ i. NotInList (resolved_alike s scopes t i) (all_alike s scopes ts i)
  resolved_alike s scopes (Exists q) = ap Exists (over_alike s scopes q)
  resolved_alike s scopes (InSubquery t q) = λ i. InSubquery (resolved_alike s scopes t i) (over_alike s scopes q i)
  resolved_alike s scopes (NotInSubquery t q) = λ i. NotInSubquery (resolved_alike s scopes t i) (over_alike s scopes q i)
  resolved_alike s scopes (Scalar q) = ap Scalar (over_alike s scopes q)
  resolved_alike s scopes (Sum signs ts) = ap (Sum signs) (all_alike s scopes ts)

  over_alike : (s : State) (scopes : List InScope) (q : Query) → machine.query_over q (over_state s scopes) (machine.definition_of q (over_state s scopes)) ≡ query_resolved s scopes q
  over_alike s scopes (Select from key selects items condition) =
      ap (machine.query_over (Select from key selects items condition) (over_state s scopes)) (listed_table s.tables from.table)
      ∙ query_alike s scopes from key selects items condition (λ table. all_alike s ((qualifier_of from, table) ∷ scopes) items) (λ table. all_alike s ((qualifier_of from, table) ∷ scopes) condition) (table_of s from.table)

  all_alike : (s : State) (scopes : List InScope) (ts : Terms) → machine.resolved_all ts (over_state s scopes) ≡ resolved_all s scopes ts
  all_alike s scopes End = refl
  all_alike s scopes (More t ts) = λ i. More (resolved_alike s scopes t i) (all_alike s scopes ts i)
