-- The cause that names a structure, with an object for each of its rw-antidependencies.
use Rattle.std.specs.Prelude.{◌≡◌, List, Bool, true, false, ◌&&◌, Option, Some, None}
use Rattle.std.specs.List.{list_any}
use Rattle.rls_value.specs.declared.object.Object.{Object}
use Rattle.rls_value.specs.declared.refusal.Cause.{Cause}
use Rattle.rls_value.specs.declared.refusal.Cause.TheVariants as c
use Rattle.rls_source.specs.Footprints.{is_among}
use Rattle.rls_conflict.specs.Transactions.{Transaction}

-- an object was noted and is covered
abbrev pub meets : List Object → List Object → Bool
meets noted covered = list_any (is_among covered) noted

-- this one
pub record IsCommon (noted covered : List Object) (object : Object) : Type 0 where
  pub in_noted : is_among noted object ≡ true
  pub in_covered : is_among covered object ≡ true

-- the objects by which the three stand in a row
pub record HasObjects (first : Transaction) (covered_by_pivot : List Object) (pivot : Transaction) (covered_by_last : List Object) (last : Transaction) (cause : Cause) : Type 0 where
  pub one : Object
  pub two : Object
  pub names : cause ≡ c.Structure first.number one pivot.number two last.number
  pub by_first : IsCommon first.noted covered_by_pivot one
  pub by_pivot : IsCommon pivot.noted covered_by_last two

-- the cause, or none where they don't stand in a row
abbrev pub IsNamed : Transaction → List Object → Transaction → List Object → Transaction → Option Cause → Type 0
IsNamed first covered_by_pivot pivot covered_by_last last None = (meets first.noted covered_by_pivot && meets pivot.noted covered_by_last) ≡ false
IsNamed first covered_by_pivot pivot covered_by_last last (Some cause) = HasObjects first covered_by_pivot pivot covered_by_last last cause
