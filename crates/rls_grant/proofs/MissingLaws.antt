-- What a role lacks of a privilege, by a list of the columns that are granted.
use Rattle.std.specs.Prelude.{◌≡◌, refl, ℕ, List, [], ◌∷◌, ◌++◌, Option, Some, None, Bool, true, false, ◌&&◌, ◌||◌, not, is_some, slice_get, if◌then◌else◌, filter}
use Rattle.std.specs.List.{list_any}
use Rattle.std.specs.Option.{is_none, option_map, option_map_or, option_to_list}
use Rattle.std.specs.Str.{bytes_eq}
use Rattle.std.proofs.Common.{ap, sym, ◌∙◌}
use Rattle.rls_value.specs.{Names.one_of, declared.verb.Privilege.Privilege}
use Rattle.rls_value.specs.declared.refusal.Why.TheVariants as w
use Rattle.rls_verdict.specs.rls_catalog.specs.{declared.grant.Grant.Grant, Membership.attributes_of, Membership.walked_by, Privileges.is_of_columns, Privileges.missing, State.State, State.grants_of}
use Rattle.rls_verdict.specs.rls_catalog.proofs.Walks.{bytes_same, bytes_own}
use Rattle.rls_grant.specs.Missing.{columns_on, is_granted_on, is_granted_some, missing_beside, missing_in, missing_outside}

-- what a role lacks in a state is what whose privileges it has, and the grants there, tell
pub missing_means : (s : State) (role : List ℕ) (privilege : Privilege) (table : List ℕ) (columns : List (List ℕ))
    → missing s role privilege table columns ≡ missing_in (attributes_of s role).superuser (walked_by s role) (grants_of s table) privilege table columns
missing_means s role privilege table columns = refl

-- ---- the columns that are granted

both_ways : (a b : Bool) → (a ≡ true → b ≡ true) → (b ≡ true → a ≡ true) → a ≡ b
both_ways true b to from = sym (to refl)
both_ways false true to from = from refl
both_ways false false to from = refl

turned : (xs ys : List ℕ) → bytes_eq xs ys ≡ true → bytes_eq ys xs ≡ true
turned xs ys same = ap (bytes_eq ys) (bytes_same xs ys same) ∙ bytes_own ys

same_bytes : (xs ys : List ℕ) → bytes_eq xs ys ≡ bytes_eq ys xs
same_bytes xs ys = both_ways (bytes_eq xs ys) (bytes_eq ys xs) (turned xs ys) (turned ys xs)

and_true : (b : Bool) → (b && true) ≡ b
and_true true = refl
and_true false = refl

and_false : (b : Bool) → (b && false) ≡ false
and_false true = refl
and_false false = refl

some_if : (on : Option (List ℕ)) (b some : Bool) (rest : List (List ℕ)) → some ≡ is_some (slice_get rest 0)
    → ((not (is_none on) && b) || some) ≡ is_some (slice_get (option_to_list (if b then on else None) ++ rest) 0)
some_if None true some rest same = same
some_if None false some rest same = same
some_if (Some name) true some rest same = refl
some_if (Some name) false some rest same = same

-- some column is granted where the list has one
some_granted : (is_for : Grant → Bool) (grants : List Grant) → is_granted_some is_for grants ≡ is_some (slice_get (columns_on is_for grants) 0)
some_granted is_for [] = refl
some_granted is_for (grant ∷ grants) = some_if grant.column (is_for grant) (is_granted_some is_for grants) (columns_on is_for grants) (some_granted is_for grants)

on_if : (on : Option (List ℕ)) (b granted : Bool) (rest : List (List ℕ)) (column : List ℕ) → granted ≡ one_of rest column
    → ((option_map_or (bytes_eq column) on false && b) || granted) ≡ one_of (option_to_list (if b then on else None) ++ rest) column
on_if None true granted rest column same = same
on_if None false granted rest column same = same
on_if (Some name) true granted rest column same = λ i. (and_true (bytes_eq column name) ∙ same_bytes column name) i || same i
on_if (Some name) false granted rest column same = λ i. and_false (bytes_eq column name) i || same i

-- a column is granted where it is in the list
on_granted : (is_for : Grant → Bool) (grants : List Grant) (column : List ℕ) → is_granted_on is_for grants column ≡ one_of (columns_on is_for grants) column
on_granted is_for [] column = refl
on_granted is_for (grant ∷ grants) column = on_if grant.column (is_for grant) (is_granted_on is_for grants column) (columns_on is_for grants) column (on_granted is_for grants column)

-- what is missing, by the list
pub missing_by : (is_for : Grant → Bool) (grants : List Grant) (privilege : Privilege) (table : List ℕ) (columns : List (List ℕ))
    → missing_beside is_for grants privilege table columns ≡ missing_outside (columns_on is_for grants) privilege table columns
missing_by is_for grants privilege table columns i =
    if is_of_columns privilege && some_granted is_for grants i
    then option_map (w.Column privilege table) (slice_get (filter (λ column. not (on_granted is_for grants column i)) columns) 0)
    else Some (w.Privilege privilege table)
