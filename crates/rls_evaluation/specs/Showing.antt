-- What tables show: the rows that their quals allow, each condition seeing its own row alone, and through subqueries what
-- the relations behind it show.
use Rattle.std.specs.Prelude.{ℕ, suc, List, [], ◌∷◌, Bool, true, false, Option, Some, None, Ok, map, if◌then◌else◌}
use Rattle.std.specs.List.{list_any}
use Rattle.std.specs.Str.{bytes_eq}
use Rattle.rls_value.specs.{declared.value.Value.Value, declared.truth.Truth.Truth, Values.truth_in, Values.is_null}
use Rattle.rls_source.specs.rls_catalog.specs.rls_expr.specs.{declared.policy.Policy.Policy, Terms.Term}
use Rattle.rls_verdict.specs.rls_catalog.specs.{declared.stored.Stored.Stored, declared.verdict.Verdict.Verdict, Verdict.verdict_of}
use Rattle.rls_verdict.specs.rls_catalog.specs.declared.verdict.Verdict.TheVariants as v
use Rattle.rls_source.specs.Askings.{Asking, known, asked_if, followed_by}
use Rattle.rls_source.specs.Asked.{asked_rows, asked_key}
use Rattle.rls_evaluation.specs.{declared.relation.SecurityQuals.SecurityQuals, declared.relation.SecuredRelation.SecuredRelation, Environments.over}
use Rattle.rls_evaluation.specs.{declared.relation.SecurityQuals.TheVariants.Exempt, declared.relation.SecurityQuals.TheVariants.Policies, Gathering.gathered, Gathering.kept, Eval.Shows, Eval.value_of}

-- the values of each
abbrev pub values_of : List Stored → List (List Value)
values_of stored = map (λ one. one.row) stored

-- the rows of the table with the key, or all of them; nobody's key has a null in it, and nothing is read for one
abbrev pub asked_for : List ℕ → Option (List Value) → Asking (List (List Value))
asked_for table None = followed_by (asked_rows table) (λ rows. known (Ok (values_of rows)))
asked_for table (Some key) = asked_if (list_any is_null key) (known (Ok [])) (followed_by (asked_key table key) (λ rows. known (Ok (values_of rows))))

-- a policy, and what its condition says of the row, in front of the others
abbrev pub with_judgement : Policy × Term → Value → List (Policy × Truth) → List (Policy × Truth)
with_judgement (policy, condition) value judgements = (policy, truth_in value) ∷ judgements

-- what each policy's condition says of the row, which alone is in scope
abbrev pub judgements_on : List (Policy × Term) → Shows → List ℕ → List Value → Asking (List (Policy × Truth))
judgements_on conditions sees user row = gathered with_judgement [] (λ condition. value_of condition.1 sees (over user row)) conditions

-- what the policies that apply say of the row
abbrev pub verdict_on : SecurityQuals → Shows → List ℕ → List Value → Asking Verdict
verdict_on Exempt sees user row = known (Ok v.Exempt)
verdict_on (Policies conditions) sees user row = followed_by (judgements_on conditions sees user row) (λ judgements. known (Ok (verdict_of judgements)))

-- row security doesn't apply
abbrev pub is_exempt : SecurityQuals → Bool
is_exempt Exempt = true
is_exempt (Policies conditions) = false

-- whether the row may be seen or written
abbrev pub allows : Verdict → Bool
allows v.Exempt = true
allows (v.By policy) = true
allows v.NoPermissive = false
allows (v.Restrictive policy) = false

-- whether the quals allow the row
abbrev pub is_allowed : SecurityQuals → Shows → List ℕ → List Value → Asking Bool
is_allowed quals sees user row = followed_by (verdict_on quals sees user row) (λ verdict. known (Ok (allows verdict)))

-- the rows that the quals allow
abbrev pub shown : SecurityQuals → Shows → List ℕ → List ℕ → Option (List Value) → Asking (List (List Value))
shown quals sees user table key = followed_by (asked_for table key) (λ rows. kept (is_allowed quals sees user) rows)

-- what a table shows to the role, by the first relation of that name; without one nothing. Its quals see what the relations
-- behind it show
abbrev pub shows : List SecuredRelation → List ℕ → Shows
shows [] user table key = known (Ok [])
shows (relation ∷ relations) user table key = asked_if (bytes_eq relation.table table) (shown relation.quals (shows relations user) user table key) (shows relations user table key)

-- what the first of the relations shows of the table
abbrev pub shown_first : List SecuredRelation → List ℕ → Shows
shown_first [] user table key = known (Ok [])
shown_first (relation ∷ relations) user table key = shown relation.quals (shows relations user) user table key

-- the place of the first relation of the table
abbrev pub place_from : ℕ → List SecuredRelation → List ℕ → Option ℕ
place_from n [] table = None
place_from n (relation ∷ relations) table = if bytes_eq relation.table table then Some n else place_from (suc n) relations table
