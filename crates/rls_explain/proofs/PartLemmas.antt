-- The parts of a resolved condition are those of the condition, each resolved.
use Rattle.std.specs.Prelude.{◌≡◌, refl, ℕ, suc, List, [], ◌∷◌, ◌++◌, Result, Ok, Err, map}
use Rattle.std.proofs.{Common.ap, Common.sym, Common.◌∙◌, lemmas.List.map-append}
use Rattle.rls_expr.specs.{declared.column_name.ColumnName.ColumnName, declared.expr.Var.Var as VarOf, Resolving.column_resolved, Scopes.InScope, Scopes.Unknown, Scopes.var_in}
use Rattle.rls_expr.specs.Terms.{Term, Terms, Literal, Column, Var, CurrentUser, Compare, And, Or, Not, IsNull, IsNotNull, InList, NotInList, Exists, InSubquery, NotInSubquery, Scalar, Sum, End, More}
use Rattle.rls_meaning.specs.rls_guard.specs.rls_catalog.specs.State.{State}
use Rattle.rls_meaning.specs.Resolving.{resolved, resolved_all}
use Rattle.rls_explain.specs.{DetailLaws.PartsAreResolved, Details.parts_at, Details.parts_each, Details.side_at, Details.sides_at}

-- a part, resolved
abbrev part_resolved : State → List InScope → ℕ × Term → ℕ × Term
part_resolved s tables part = (part.0, resolved s tables part.1)

-- a column is no subquery, and has no parts
column_side : (level : ℕ) (name : ColumnName) (found : Result VarOf Unknown) → side_at level (column_resolved name found) ≡ []
column_side level name (Ok at) = refl
column_side level name (Err unknown) = refl

column_parts : (level : ℕ) (name : ColumnName) (found : Result VarOf Unknown) → parts_at level (column_resolved name found) ≡ (level, column_resolved name found) ∷ []
column_parts level name (Ok at) = refl
column_parts level name (Err unknown) = refl

side_resolved : (s : State) (tables : List InScope) (level : ℕ) (t : Term) → side_at level (resolved s tables t) ≡ map (part_resolved s tables) (side_at level t)
side_resolved s tables level (Column name) = column_side level name (var_in tables name)
side_resolved s tables level (Literal v) = refl
side_resolved s tables level (Var at) = refl
side_resolved s tables level CurrentUser = refl
side_resolved s tables level (Compare how a b) = refl
side_resolved s tables level (And ts) = refl
side_resolved s tables level (Or ts) = refl
side_resolved s tables level (Not t) = refl
side_resolved s tables level (IsNull t) = refl
side_resolved s tables level (IsNotNull t) = refl
side_resolved s tables level (InList t ts) = refl
side_resolved s tables level (NotInList t ts) = refl
side_resolved s tables level (Exists q) = refl
side_resolved s tables level (InSubquery t q) = refl
side_resolved s tables level (NotInSubquery t q) = refl
side_resolved s tables level (Scalar q) = refl
side_resolved s tables level (Sum signs ts) = refl

-- what stands one behind another
both_resolved : (s : State) (tables : List InScope) (one other xs ys : List (ℕ × Term)) → one ≡ map (part_resolved s tables) xs → other ≡ map (part_resolved s tables) ys → one ++ other ≡ map (part_resolved s tables) (xs ++ ys)
both_resolved s tables one other xs ys first second = (λ i. first i ++ second i) ∙ sym (map-append (part_resolved s tables) xs ys)

sides_resolved : (s : State) (tables : List InScope) (level : ℕ) (ts : Terms) → sides_at level (resolved_all s tables ts) ≡ map (part_resolved s tables) (sides_at level ts)
sides_resolved s tables level End = refl
sides_resolved s tables level (More t ts) =
    both_resolved s tables (side_at level (resolved s tables t)) (sides_at level (resolved_all s tables ts)) (side_at level t) (sides_at level ts) (side_resolved s tables level t) (sides_resolved s tables level ts)

-- the part itself, and those below it
with_first : (s : State) (tables : List InScope) (level : ℕ) (t : Term) (below parts : List (ℕ × Term)) → below ≡ map (part_resolved s tables) parts → (level, resolved s tables t) ∷ below ≡ map (part_resolved s tables) ((level, t) ∷ parts)
with_first s tables level t below parts same = ap (λ rest. (level, resolved s tables t) ∷ rest) same

mutual
  pub parts_are_resolved : PartsAreResolved
  parts_are_resolved s tables level (And ts) = with_first s tables level (And ts) (parts_each (suc level) (resolved_all s tables ts)) (parts_each (suc level) ts) (each_resolved s tables (suc level) ts)
  parts_are_resolved s tables level (Or ts) = with_first s tables level (Or ts) (parts_each (suc level) (resolved_all s tables ts)) (parts_each (suc level) ts) (each_resolved s tables (suc level) ts)
  parts_are_resolved s tables level (Not t) = with_first s tables level (Not t) (parts_at (suc level) (resolved s tables t)) (parts_at (suc level) t) (parts_are_resolved s tables (suc level) t)
  parts_are_resolved s tables level (Compare how a b) =
      with_first s tables level (Compare how a b) (side_at (suc level) (resolved s tables a) ++ side_at (suc level) (resolved s tables b)) (side_at (suc level) a ++ side_at (suc level) b)
      (both_resolved s tables (side_at (suc level) (resolved s tables a)) (side_at (suc level) (resolved s tables b)) (side_at (suc level) a) (side_at (suc level) b) (side_resolved s tables (suc level) a) (side_resolved s tables (suc level) b))
  parts_are_resolved s tables level (IsNull t) = with_first s tables level (IsNull t) (side_at (suc level) (resolved s tables t)) (side_at (suc level) t) (side_resolved s tables (suc level) t)
  parts_are_resolved s tables level (IsNotNull t) = with_first s tables level (IsNotNull t) (side_at (suc level) (resolved s tables t)) (side_at (suc level) t) (side_resolved s tables (suc level) t)
  parts_are_resolved s tables level (InList t ts) =
      with_first s tables level (InList t ts) (side_at (suc level) (resolved s tables t) ++ sides_at (suc level) (resolved_all s tables ts)) (side_at (suc level) t ++ sides_at (suc level) ts)
      (both_resolved s tables (side_at (suc level) (resolved s tables t)) (sides_at (suc level) (resolved_all s tables ts)) (side_at (suc level) t) (sides_at (suc level) ts) (side_resolved s tables (suc level) t) (sides_resolved s tables (suc level) ts))
  parts_are_resolved s tables level (NotInList t ts) =
      with_first s tables level (NotInList t ts) (side_at (suc level) (resolved s tables t) ++ sides_at (suc level) (resolved_all s tables ts)) (side_at (suc level) t ++ sides_at (suc level) ts)
      (both_resolved s tables (side_at (suc level) (resolved s tables t)) (sides_at (suc level) (resolved_all s tables ts)) (side_at (suc level) t) (sides_at (suc level) ts) (side_resolved s tables (suc level) t) (sides_resolved s tables (suc level) ts))
  parts_are_resolved s tables level (InSubquery t q) = with_first s tables level (InSubquery t q) (side_at (suc level) (resolved s tables t)) (side_at (suc level) t) (side_resolved s tables (suc level) t)
  parts_are_resolved s tables level (NotInSubquery t q) = with_first s tables level (NotInSubquery t q) (side_at (suc level) (resolved s tables t)) (side_at (suc level) t) (side_resolved s tables (suc level) t)
  parts_are_resolved s tables level (Column name) = column_parts level name (var_in tables name)
  parts_are_resolved s tables level (Literal v) = refl
  parts_are_resolved s tables level (Var at) = refl
  parts_are_resolved s tables level CurrentUser = refl
  parts_are_resolved s tables level (Exists q) = refl
  parts_are_resolved s tables level (Scalar q) = refl
  parts_are_resolved s tables level (Sum signs ts) = refl

  each_resolved : (s : State) (tables : List InScope) (level : ℕ) (ts : Terms) → parts_each level (resolved_all s tables ts) ≡ map (part_resolved s tables) (parts_each level ts)
  each_resolved s tables level End = refl
  each_resolved s tables level (More t ts) =
      both_resolved s tables (parts_at level (resolved s tables t)) (parts_each level (resolved_all s tables ts)) (parts_at level t) (parts_each level ts) (parts_are_resolved s tables level t) (each_resolved s tables level ts)
