-- What is told of a decision at length says what is said of it.
use Rattle.std.specs.Prelude.{◌≡◌, ◌&&◌, ℕ, List, [], Option, Some, None, Bool, true, false, filter, is_some, map}
use Rattle.std.specs.List.{filter_map}
use Rattle.rls_value.specs.{declared.value.Value.Value, declared.verb.Kind.Kind, declared.verb.PolicyKind.PolicyKind, Truths.is_true, Values.same_flag}
use Rattle.rls_expr.specs.{declared.table.TableDef.TableDef, Scopes.InScope, Terms.Term}
use Rattle.rls_meaning.specs.rls_guard.specs.rls_catalog.specs.{declared.verdict.Side.Side, declared.verdict.Verdict.Verdict, State.State, Verdict.is_exempt, Verdict.least, Verdict.verdict_by}
use Rattle.rls_meaning.specs.rls_guard.specs.rls_catalog.specs.declared.verdict.Verdict.TheVariants as v
use Rattle.rls_meaning.specs.{Commands.Command, Resolving.resolved, Rows.verdict}
use Rattle.rls_explain.specs.declared.details.{Asking.Asking, Consulting.Consulting}
use Rattle.rls_explain.specs.declared.details.Asking.TheVariants as asking
use Rattle.rls_explain.specs.declared.details.Consulting.TheVariants as consulting
use Rattle.rls_explain.specs.{declared.explanation.Said.Said, Details.details_of, Details.exemption_of, Details.parts_at, Explaining.said_of}

-- what a policy says, where it is asked
abbrev pub said_if : List ℕ → Bool → PolicyKind → Asking → Option Said
said_if name permissive kind (asking.Asked truth parts) = Some (record { policy = name; permissive = permissive; kind = kind; truth = truth })
said_if name permissive kind _ = None

-- what the policies that are asked say
abbrev pub said_among : Consulting → List Said
said_among (consulting.Exempt reason) = []
said_among (consulting.Policies policies) = filter_map (λ one. said_if one.policy one.permissive one.kind one.asking) policies

-- a role is exempt exactly where there is a reason
abbrev pub ExemptByReason : Type 0
ExemptByReason = (s : State) (role : List ℕ) (table : TableDef) → is_some (exemption_of s role table) ≡ is_exempt s role table

-- the policies that are told of a decision say what is said of it
abbrev pub DetailsSay : Type 0
DetailsSay = (s : State) (c : Command) (which : Side) (kind : Kind) (row : List Value) → said_among (details_of s c which kind row).consulting ≡ said_of s c which row kind

-- the policy is permissive or not, and says true or not
abbrev pub is_said : Bool → Bool → Said → Bool
is_said permissive passes said = same_flag said.permissive permissive && same_flag (is_true said.truth) passes

-- the names of the permissive, or restrictive, policies that say true, or don't
abbrev pub said_names : Bool → Bool → List Said → List (List ℕ)
said_names permissive passes said = map (λ one. one.policy) (filter (is_said permissive passes) said)

-- the verdict by what is told: exempt, for a reason; else one permissive policy must say true, and every restrictive one
abbrev pub verdict_told : Consulting → Verdict
verdict_told (consulting.Exempt reason) = v.Exempt
verdict_told (consulting.Policies policies) =
    verdict_by (least None (said_names true true (said_among (consulting.Policies policies)))) (least None (said_names false false (said_among (consulting.Policies policies))))

-- the verdict of a decision is that of the truths which are told of it
abbrev pub VerdictIsTold : Type 0
VerdictIsTold = (s : State) (c : Command) (which : Side) (kind : Kind) (row : List Value) → verdict s c which row kind ≡ verdict_told (details_of s c which kind row).consulting

-- each part comes to what it comes to once its columns are resolved over the table
abbrev pub PartsAreResolved : Type 0
PartsAreResolved = (s : State) (tables : List InScope) (level : ℕ) (t : Term) → parts_at level (resolved s tables t) ≡ map (λ part. (part.0, resolved s tables part.1)) (parts_at level t)
