-- What is kept of quals, by the values of the columns that they name.
use Rattle.std.specs.Prelude.{◌≡◌, ℕ, List, true, Option, Some, cond}
use Rattle.std.specs.{BTreeMap.is_at, Map.lookup, Cmp.Lexicographic.slice_cmp}
use Rattle.rls_value.specs.{declared.value.Value.Value, declared.object.Object.Object, Values.listed}
use Rattle.rls_verdict.specs.rls_catalog.specs.{State.State, declared.verdict.Verdict.Verdict}
use Rattle.rls_evaluation.specs.{declared.relation.SecuredRelation.SecuredRelation, declared.relation.SecurityQuals.SecurityQuals, declared.cached_verdicts.CachedVerdicts.CachedVerdicts}
use Rattle.rls_evaluation.specs.{CachedSubplans.IsKnown, Environments.over, OuterColumns.is_among, OuterColumns.outer_values, OuterColumns.quals_in, Showing.shows, Showing.verdict_on}

-- the verdict that is kept for these values
abbrev pub verdict_for : CachedVerdicts → List Value → Option Verdict
verdict_for cached values = lookup (is_at (slice_cmp listed values)) cached.verdicts.entries

-- the quals name no columns but those that are listed, and each verdict is what they say of every row with these values
pub record AreVerdicts (quals : SecurityQuals) (relations : List SecuredRelation) (user : List ℕ) (s : State) (read_set : List Object) (cached : CachedVerdicts) : Type 0 where
  pub named : cached.is_kept ≡ true → quals_in (is_among cached.columns.items) quals ≡ true
  pub each : (row : List Value) (verdict : Verdict) → verdict_for cached (outer_values cached.columns.items (over user row)) ≡ Some verdict → IsKnown (verdict_on quals (shows relations user) user row) s read_set verdict
