-- One policy more decides on a row.
use Rattle.std.specs.Prelude.{◌≡◌, refl, ℕ, List, [], ◌∷◌, ◌++◌, Bool, true, false, Option, Some, None, Result, Ok, Err, map, filter, if◌then◌else◌, drop, length, get_or, ◌<◌, ◌+◌}
use Rattle.std.proofs.Common.{ap, ◌∙◌, append-nil}
use Rattle.rls_value.specs.{declared.value.Value.Value, declared.truth.Truth.Truth, declared.object.Object.Object, declared.refusal.Refusal.Refusal}
use Rattle.rls_value.specs.{declared.truth.Truth.TheVariants.True, declared.truth.Truth.TheVariants.False, declared.truth.Truth.TheVariants.Unknown, Values.truth_in, Values.value_of_truth}
use Rattle.rls_source.specs.rls_catalog.specs.rls_expr.specs.{declared.policy.Policy.Policy, Terms.Term}
use Rattle.rls_verdict.specs.rls_catalog.specs.{State.State, declared.verdict.Verdict.Verdict}
use Rattle.rls_verdict.specs.rls_catalog.specs.Verdict.{is_such, names_where, lesser, least, verdict_by}
use Rattle.rls_source.specs.{Readings.unread, Readings.read_then, Askings.Asking, Askings.known, Askings.followed_by}
use Rattle.rls_evaluation.specs.{Environments.over, Plain.IsPlainly, Showing.judgements_on, Deciding.named_if}
use Rattle.rls_evaluation.specs.Eval.{Shows, value_of}
use Rattle.rls_evaluation.proofs.Telling.{drop_at}

-- what these policies say of the row together with the least names of others
abbrev pub verdict_beside : Option (List ℕ) → Option (List ℕ) → List (Policy × Term) → Shows → List ℕ → List Value → Asking Verdict
verdict_beside passing failing conditions sees user row =
    followed_by (judgements_on conditions sees user row)
    (λ judgements. known (Ok (verdict_by (least passing (names_where true true judgements)) (least failing (names_where false false judgements)))))

least_if : (is : Bool) (best : Option (List ℕ)) (judgement : Policy × Truth) (others : List (Policy × Truth))
    → least best (map (λ j. j.0.name) (if is then judgement ∷ others else others)) ≡ least (if is then Some (lesser best judgement.0.name) else best) (map (λ j. j.0.name) others)
least_if true best judgement others = refl
least_if false best judgement others = refl

-- the least of the names, one more being in front
least_more : (permissive passes : Bool) (best : Option (List ℕ)) (policy : Policy) (truth : Truth) (rest : List (Policy × Truth))
    → least best (names_where permissive passes ((policy, truth) ∷ rest)) ≡ least (named_if permissive passes best policy truth) (names_where permissive passes rest)
least_more permissive passes best policy truth rest = least_if (is_such permissive passes (policy, truth)) best (policy, truth) (filter (is_such permissive passes) rest)

decided_more : (passing failing : Option (List ℕ)) (policy : Policy) (truth : Truth) (rest : List (Policy × Truth))
    → verdict_by (least passing (names_where true true ((policy, truth) ∷ rest))) (least failing (names_where false false ((policy, truth) ∷ rest)))
    ≡ verdict_by (least (named_if true true passing policy truth) (names_where true true rest)) (least (named_if false false failing policy truth) (names_where false false rest))
decided_more passing failing policy truth rest =
    ap (λ p. verdict_by p (least failing (names_where false false ((policy, truth) ∷ rest)))) (least_more true true passing policy truth rest)
    ∙ ap (verdict_by (least (named_if true true passing policy truth) (names_where true true rest))) (least_more false false failing policy truth rest)

-- what is put to what those behind it come to
read_more : {A B C : Type 0} (gives : Result A Refusal) (reads : List Object) (put : A → B) (settle : B → C) (finish : A → C) → ((rest : A) → settle (put rest) ≡ finish rest)
    → read_then (read_then (record { gives = gives; reads = reads }) (λ rest. unread (Ok (put rest)))) (λ all. unread (Ok (settle all)))
    ≡ read_then (record { gives = gives; reads = reads }) (λ rest. unread (Ok (finish rest)))
read_more (Ok rest) reads put settle finish same = λ i. record { gives = Ok (same rest i); reads = append-nil (reads ++ []) i }
read_more (Err refusal) reads put settle finish same = λ i. record { gives = Err refusal; reads = append-nil (reads ++ []) i }

-- a policy's condition is told
first_told : (passing failing : Option (List ℕ)) (policy : Policy) (condition : Term) (truth : Truth) (conditions : List (Policy × Term)) (sees : Shows) (user : List ℕ) (row : List Value) (s : State)
    → truth_in (value_of_truth truth) ≡ truth → IsPlainly condition (over user row) (value_of_truth truth)
    → (verdict_beside passing failing ((policy, condition) ∷ conditions) sees user row).in_state s
    ≡ (verdict_beside (named_if true true passing policy truth) (named_if false false failing policy truth) conditions sees user row).in_state s
first_told passing failing policy condition truth conditions sees user row s same plain =
    ap (λ told. read_then (read_then told (λ v. read_then ((judgements_on conditions sees user row).in_state s) (λ rest. unread (Ok ((policy, truth_in v) ∷ rest)))))
    (λ all. unread (Ok (verdict_by (least passing (names_where true true all)) (least failing (names_where false false all)))))) (plain sees s)
    ∙ ap (λ t. read_then (read_then ((judgements_on conditions sees user row).in_state s) (λ rest. unread (Ok ((policy, t) ∷ rest))))
    (λ all. unread (Ok (verdict_by (least passing (names_where true true all)) (least failing (names_where false false all)))))) same
    ∙ read_more ((judgements_on conditions sees user row).in_state s).gives ((judgements_on conditions sees user row).in_state s).reads (λ rest. (policy, truth) ∷ rest)
    (λ all. verdict_by (least passing (names_where true true all)) (least failing (names_where false false all)))
    (λ rest. verdict_by (least (named_if true true passing policy truth) (names_where true true rest)) (least (named_if false false failing policy truth) (names_where false false rest)))
    (decided_more passing failing policy truth)

truth_again : (truth : Truth) → truth_in (value_of_truth truth) ≡ truth
truth_again True = refl
truth_again False = refl
truth_again Unknown = refl

-- the condition at the index is told, and the others are left
pub policy_told : (passing failing : Option (List ℕ)) (conditions : List (Policy × Term)) (i : ℕ) (item : Policy × Term) (truth : Truth) (sees : Shows) (user : List ℕ) (row : List Value) (s : State)
    → i < length conditions → item ≡ get_or conditions i item → IsPlainly item.1 (over user row) (value_of_truth truth)
    → (verdict_beside passing failing (drop i conditions) sees user row).in_state s
    ≡ (verdict_beside (named_if true true passing item.0 truth) (named_if false false failing item.0 truth) (drop (i + 1) conditions) sees user row).in_state s
policy_told passing failing conditions i item truth sees user row s below is plain =
    ap (λ left. (verdict_beside passing failing left sees user row).in_state s) (drop_at conditions i item below is)
    ∙ first_told passing failing item.0 item.1 truth (drop (i + 1) conditions) sees user row s (truth_again truth) plain
