-- What quals said of a row is what they say of each row that has the same values of the columns that they name.
use Rattle.std.specs.Prelude.{◌≡◌, refl, ℕ, List, [], ◌∷◌, ◌||◌, Bool, true, false, Option, Some, None, Result, Ok, Err, OnOk, IfOk, IfSome, cond}
use Rattle.std.specs.{BTreeMap.is_at, Map.lookup, Cmp.Lexicographic.slice_cmp, Ordering.is_eq}
use Rattle.std.specs.declared.cmp.Ordering.{Ordering}
use Rattle.std.specs.declared.cmp.Ordering.TheVariants.{Less, Equal, Greater}
use Rattle.std.specs.declared.alloc.AllocError.{AllocError}
use Rattle.std.proofs.Common.{ap, sym, ◌∙◌, subst}
use Rattle.std.proofs.lemmas.Bool.{and_parts, true≢false, or_right}
use Rattle.rls_value.specs.{declared.value.Value.Value, declared.object.Object.Object, Values.listed}
use Rattle.rls_value.proofs.ListingLaws.{rows_same}
use Rattle.rls_source.specs.rls_catalog.specs.rls_expr.specs.{declared.policy.Policy.Policy, Terms.Term}
use Rattle.rls_verdict.specs.rls_catalog.specs.{State.State, declared.verdict.Verdict.Verdict, Verdict.verdict_of}
use Rattle.rls_source.specs.{Footprints.with_reads, Footprints.is_among, Footprints.IsInOrder, FootprintLaws.among_with_reads, Readings.unread, Readings.read_then, Askings.Asking}
use Rattle.rls_evaluation.specs.{declared.relation.SecuredRelation.SecuredRelation, declared.relation.SecurityQuals.SecurityQuals, declared.cached_verdicts.CachedVerdicts.CachedVerdicts, declared.execution_state.ExecutionState.ExecutionState}
use Rattle.rls_evaluation.specs.declared.relation.SecurityQuals.TheVariants.{Exempt, Policies}
use Rattle.rls_evaluation.specs.{Environments.Environment, Environments.over, Eval.Shows, Eval.value_of, CachedSubplans.IsKnown, CachedVerdicts.AreVerdicts, CachedVerdicts.verdict_for, Holding.Evaluates, Holding.Holds}
use Rattle.rls_evaluation.specs.OuterColumns.{is_among as is_column, outer_values, stays_in, conditions_in, quals_in}
use Rattle.rls_evaluation.specs.Showing.{judgements_on, verdict_on, with_judgement, shows}
use Rattle.rls_evaluation.proofs.{Absorbing.absorbed_within, Absorbing.reads_absorbed, OuterColumnsLemmas.IsSameAt, OuterColumnsLemmas.same_at, OuterColumnsLemmas.value_same}

-- ---- the same of rows that agree

judgements_same : (named : ℕ → ℕ → Bool) (conditions : List (Policy × Term)) (sees : Shows) (user : List ℕ) (row other : List Value) (s : State) → IsSameAt named (over user row) (over user other) → conditions_in named conditions ≡ true
    → (judgements_on conditions sees user row).in_state s ≡ (judgements_on conditions sees user other).in_state s
judgements_same named [] sees user row other s same is = refl
judgements_same named (condition ∷ conditions) sees user row other s same is =
    let parts = and_parts (stays_in named condition.1) (conditions_in named conditions) is in
    λ i. read_then (value_same named condition.1 sees (over user row) (over user other) s same parts.0 i)
    (λ value. read_then (judgements_same named conditions sees user row other s same parts.1 i) (λ rest. unread (Ok (with_judgement condition value rest))))

verdict_same : (named : ℕ → ℕ → Bool) (quals : SecurityQuals) (sees : Shows) (user : List ℕ) (row other : List Value) (s : State) → IsSameAt named (over user row) (over user other) → quals_in named quals ≡ true
    → (verdict_on quals sees user row).in_state s ≡ (verdict_on quals sees user other).in_state s
verdict_same named Exempt sees user row other s same is = refl
verdict_same named (Policies conditions) sees user row other s same is =
    λ i. read_then (judgements_same named conditions sees user row other s same is i) (λ judgements. unread (Ok (verdict_of judgements)))

known_same : (named : ℕ → ℕ → Bool) (quals : SecurityQuals) (sees : Shows) (user : List ℕ) (row other : List Value) (s : State) (read_set : List Object) (verdict : Verdict) → IsSameAt named (over user row) (over user other) → quals_in named quals ≡ true
    → IsKnown (verdict_on quals sees user row) s read_set verdict → IsKnown (verdict_on quals sees user other) s read_set verdict
known_same named quals sees user row other s read_set verdict same is was =
    let as_before = verdict_same named quals sees user row other s same is in
    record {
      given = ap (λ r. r.gives) (sym as_before) ∙ was.given;
      noted = ap (λ r. with_reads read_set r.reads) (sym as_before) ∙ was.noted;
    }

-- ---- a further verdict

tie : (o : Ordering) → is_eq o ≡ true → o ≡ Equal
tie Less is = absurd (true≢false (sym is))
tie Equal is = refl
tie Greater is = absurd (true≢false (sym is))

abbrev some_or : Verdict → Option Verdict → Verdict
some_or d (Some verdict) = verdict
some_or d None = d

put_if : (b : Bool) (named : ℕ → ℕ → Bool) (quals : SecurityQuals) (sees : Shows) (user : List ℕ) (row other : List Value) (s : State) (read_set : List Object) (old : Option Verdict) (verdict found : Verdict)
    → (b ≡ true → IsSameAt named (over user row) (over user other)) → quals_in named quals ≡ true → IsKnown (verdict_on quals sees user row) s read_set verdict → (old ≡ Some found → IsKnown (verdict_on quals sees user other) s read_set found)
    → cond b (Some verdict) old ≡ Some found → IsKnown (verdict_on quals sees user other) s read_set found
put_if true named quals sees user row other s read_set old verdict found same within here was is =
    subst (IsKnown (verdict_on quals sees user other) s read_set) (ap (some_or verdict) is) (known_same named quals sees user row other s read_set verdict (same refl) within here)
put_if false named quals sees user row other s read_set old verdict found same within here was is = was is

-- one verdict more is kept
pub verdicts_put : (quals : SecurityQuals) (relations : List SecuredRelation) (user : List ℕ) (s : State) (read_set : List Object) (old new : CachedVerdicts) (row : List Value) (verdict : Verdict)
    → old.is_kept ≡ true → new.columns.items ≡ old.columns.items → ((values : List Value) → verdict_for new values ≡ cond (is_at (slice_cmp listed (outer_values old.columns.items (over user row))) values) (Some verdict) (verdict_for old values))
    → IsKnown (verdict_on quals (shows relations user) user row) s read_set verdict → AreVerdicts quals relations user s read_set old → AreVerdicts quals relations user s read_set new
verdicts_put quals relations user s read_set old new row verdict kept columns put here was =
    let within = was.named kept in
    record {
      named = λ is. ap (λ items. quals_in (is_column items) quals) columns ∙ within;
      each = λ other found looked.
          let values : List Value = outer_values old.columns.items (over user row) in
          let others : List Value = outer_values old.columns.items (over user other) in
          let grown : cond (is_at (slice_cmp listed values) others) (Some verdict) (verdict_for old others) ≡ Some found =
          sym (put others) ∙ ap (λ items. verdict_for new (outer_values items (over user other))) (sym columns) ∙ looked in
          put_if (is_at (slice_cmp listed values) others) (is_column old.columns.items) quals (shows relations user) user row other s read_set (verdict_for old others) verdict found
          (λ tied. same_at old.columns.items (over user row) (over user other) refl (rows_same values others (tie (slice_cmp listed values others) tied)))
          within here (was.each other found) grown;
    }

abbrev is_there : Option Verdict → Bool
is_there (Some verdict) = true
is_there None = false

-- nothing is kept
pub verdicts_none : (quals : SecurityQuals) (relations : List SecuredRelation) (user : List ℕ) (s : State) (read_set : List Object) (cached : CachedVerdicts)
    → (cached.is_kept ≡ true → quals_in (is_column cached.columns.items) quals ≡ true) → cached.verdicts.entries ≡ [] → AreVerdicts quals relations user s read_set cached
verdicts_none quals relations user s read_set cached named empty = record {
  named = named;
  each = λ row verdict looked.
      let none : None ≡ Some verdict = (λ i. lookup (is_at (slice_cmp listed (outer_values cached.columns.items (over user row)))) (sym empty i)) ∙ looked in
      absurd (true≢false (sym (ap is_there none)));
}

-- ---- under further reads

known_grown : {A : Type 0} (asking : Asking A) (s : State) (old new more : List Object) (a : A) → new ≡ with_reads old more → IsInOrder new → IsKnown asking s old a → IsKnown asking s new a
known_grown asking s old new more a grown ordered was = record {
  given = was.given;
  noted = reads_absorbed new (asking.in_state s).reads ordered (λ object among.
      subst (λ all. is_among all object ≡ true) (sym grown)
      (among_with_reads old more object ∙ or_right (is_among more object) (is_among old object) (absorbed_within old (asking.in_state s).reads was.noted object among)));
}

-- what else is evaluated leaves what is kept
pub verdicts_grown : {A : Type 0} (quals : SecurityQuals) (relations : List SecuredRelation) (user : List ℕ) (asking : Asking A) (before after : State) (old new : List Object) (a : A) (cached left : CachedVerdicts)
    → left.is_kept ≡ cached.is_kept → left.columns.items ≡ cached.columns.items → left.verdicts.entries ≡ cached.verdicts.entries → Evaluates asking before after old new (Ok a) → IsInOrder new
    → AreVerdicts quals relations user before old cached → AreVerdicts quals relations user after new left
verdicts_grown quals relations user asking before after old new a cached left kept columns entries told ordered was = record {
  named = λ is. ap (λ items. quals_in (is_column items) quals) columns ∙ was.named (sym kept ∙ is);
  each = λ row verdict looked.
      let at : verdict_for cached (outer_values cached.columns.items (over user row)) ≡ Some verdict =
      (λ i. lookup (is_at (slice_cmp listed (outer_values (sym columns i) (over user row)))) (sym entries i)) ∙ looked in
      subst (λ s. IsKnown (verdict_on quals (shows relations user) user row) s new verdict) (sym told.stands)
      (known_grown (verdict_on quals (shows relations user) user row) before old new (asking.in_state before).reads verdict told.noted ordered (was.each row verdict at));
}

-- a verdict that is found is told, and nothing is read
pub verdict_found : (quals : SecurityQuals) (relations : List SecuredRelation) (user : List ℕ) (s : State) (read_set : List Object) (cached : CachedVerdicts) (row : List Value) (verdict : Verdict)
    → AreVerdicts quals relations user s read_set cached → verdict_for cached (outer_values cached.columns.items (over user row)) ≡ Some verdict → Evaluates (verdict_on quals (shows relations user) user row) s s read_set read_set (Ok verdict)
verdict_found quals relations user s read_set cached row verdict kept looked =
    let known = kept.each row verdict looked in
    record { given = known.given; noted = sym known.noted; stands = refl }

-- the same of a call that may fail
pub verdicts_after : {A : Type 0} (quals : SecurityQuals) (relations : List SecuredRelation) (user : List ℕ) (asking : Asking A) (before after : State) (old : List Object) (execution : ExecutionState) (result : Result A AllocError) (cached left : CachedVerdicts)
    → left.is_kept ≡ cached.is_kept → left.columns.items ≡ cached.columns.items → left.verdicts.entries ≡ cached.verdicts.entries → Evaluates asking before after old execution.read_set result → OnOk result (Holds relations user after execution)
    → AreVerdicts quals relations user before old cached → OnOk result (AreVerdicts quals relations user after execution.read_set left)
verdicts_after quals relations user asking before after old execution (Ok a) cached left kept columns entries told holds was = verdicts_grown quals relations user asking before after old execution.read_set a cached left kept columns entries told holds.ordered was
verdicts_after quals relations user asking before after old execution (Err refused) cached left kept columns entries told holds was = tt

-- the same by another name
pub found_told : {A : Type 0} (result : Result A AllocError) (a b : A) → a ≡ b → IfOk result (λ x. x ≡ a) → IfOk result (λ x. x ≡ b)
found_told (Ok x) a b same is = is ∙ same
found_told (Err refused) a b same is = tt
