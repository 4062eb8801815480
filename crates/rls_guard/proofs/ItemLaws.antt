-- A term without a subquery has one value, whatever tables show and in every state, and nothing is read for it.
use Rattle.std.specs.Prelude.{◌≡◌, refl, Bool, true, false, ◌||◌, not, List, [], ◌∷◌, Ok}
use Rattle.std.proofs.Common.{ap, sym, ◌∙◌}
use Rattle.std.proofs.lemmas.Bool.{true≢false}
use Rattle.rls_evaluation.specs.rls_catalog.specs.rls_expr.specs.rls_value.specs.{declared.value.Value.Value, declared.value.Value.TheVariants.Null, declared.value.Value.TheVariants.Text, declared.value.Value.TheVariants.Bool as Flag, declared.truth.Truth.Truth, declared.truth.Truth.TheVariants.True, declared.truth.Truth.TheVariants.False, Truths.negation_of, Values.value_of_truth, Values.truth_in, Values.is_null, Values.value_at}
use Rattle.rls_evaluation.specs.rls_catalog.specs.rls_expr.specs.declared.expr.Sign.{Sign}
use Rattle.rls_evaluation.specs.rls_catalog.specs.rls_expr.specs.Terms.{Term, Terms, Literal, Column, Var, CurrentUser, Compare, And, Or, Not, IsNull, IsNotNull, InList, NotInList, Exists, InSubquery, NotInSubquery, Scalar, Sum, End, More}
use Rattle.rls_evaluation.specs.rls_catalog.specs.rls_expr.specs.Parts.{has_query, has_sum, have_query}
use Rattle.rls_evaluation.specs.rls_catalog.specs.State.{State}
use Rattle.rls_evaluation.specs.rls_source.specs.Readings.{Reading, unread, read_then}
use Rattle.rls_evaluation.specs.{Environments.Environment, Environments.row_at, Environments.compared, Environments.joined, Environments.number_or_null, Plain.IsPlainly}
use Rattle.rls_evaluation.specs.Eval.{Shows, and_value, or_value, or_equal, together, sum_of, sum_from}
use Rattle.rls_evaluation.specs.Tableless.{no_objects, no_rows, value_given, value_in}
use Rattle.rls_guard.specs.Checks.{is_unsupported_item}

-- neither the one nor the other
neither_left : (a b : Bool) → (a || b) ≡ false → a ≡ false
neither_left true b is = is
neither_left false b is = refl

neither_right : (a b : Bool) → (a || b) ≡ false → b ≡ false
neither_right true b is = absurd (true≢false is)
neither_right false b is = is

-- the parts have this truth together
abbrev AreTogether : (Value → Truth → Truth) → Truth → Terms → Environment → Truth → Type 0
AreTogether put none ts env truth = (sees : Shows) (s : State) → (together put none ts sees env).in_state s ≡ unread (Ok truth)

-- they have this sum
abbrev AreSummed : List Sign → Terms → Environment → Value → Type 0
AreSummed signs ts env v = (sees : Shows) (s : State) → (sum_of signs ts sees env).in_state s ≡ unread (Ok v)

-- they have this sum with what stands before them
abbrev AreAdded : Value → List Sign → Terms → Environment → Value → Type 0
AreAdded so_far signs ts env v = (sees : Shows) (s : State) → (sum_from so_far signs ts sees env).in_state s ≡ unread (Ok v)

mutual
  plain : (t : Term) (env : Environment) → has_query t ≡ false → (v : Value) × IsPlainly t env v
  plain (Literal v) env is = (v, λ sees s. refl)
  plain (Column name) env is = (Null, λ sees s. refl)
  plain (Var at) env is = (value_at (row_at env.rows at.level) at.column, λ sees s. refl)
  plain CurrentUser env is = (Text env.user, λ sees s. refl)
  plain (Compare how a b) env is =
      let x = plain a env (neither_left (has_query a) (has_query b) is) in
      let y = plain b env (neither_right (has_query a) (has_query b) is) in
      (value_of_truth (compared how x.0 y.0), λ sees s i. read_then (x.1 sees s i) (λ v. read_then (y.1 sees s i) (λ w. unread (Ok (value_of_truth (compared how v w))))))
  plain (And ts) env is = let x = plain_all and_value True ts env is in (value_of_truth x.0, λ sees s i. read_then (x.1 sees s i) (λ truth. unread (Ok (value_of_truth truth))))
  plain (Or ts) env is = let x = plain_all or_value False ts env is in (value_of_truth x.0, λ sees s i. read_then (x.1 sees s i) (λ truth. unread (Ok (value_of_truth truth))))
  plain (Not t) env is = let x = plain t env is in (value_of_truth (negation_of (truth_in x.0)), λ sees s i. read_then (x.1 sees s i) (λ v. unread (Ok (value_of_truth (negation_of (truth_in v))))))
  plain (IsNull t) env is = let x = plain t env is in (Flag (is_null x.0), λ sees s i. read_then (x.1 sees s i) (λ v. unread (Ok (Flag (is_null v)))))
  plain (IsNotNull t) env is = let x = plain t env is in (Flag (not (is_null x.0)), λ sees s i. read_then (x.1 sees s i) (λ v. unread (Ok (Flag (not (is_null v))))))
  plain (InList t ts) env is =
      let x = plain t env (neither_left (has_query t) (have_query ts) is) in
      let y = plain_all (or_equal x.0) False ts env (neither_right (has_query t) (have_query ts) is) in (
        value_of_truth y.0,
        λ sees s.
            (λ i. read_then (x.1 sees s i) (λ v. read_then ((together (or_equal v) False ts sees env).in_state s) (λ truth. unread (Ok (value_of_truth truth)))))
            ∙ (λ i. read_then (y.1 sees s i) (λ truth. unread (Ok (value_of_truth truth)))),
      )
  plain (NotInList t ts) env is =
      let x = plain t env (neither_left (has_query t) (have_query ts) is) in
      let y = plain_all (or_equal x.0) False ts env (neither_right (has_query t) (have_query ts) is) in (
        value_of_truth (negation_of y.0),
        λ sees s.
            (λ i. read_then (x.1 sees s i) (λ v. read_then ((together (or_equal v) False ts sees env).in_state s) (λ truth. unread (Ok (value_of_truth (negation_of truth))))))
            ∙ (λ i. read_then (y.1 sees s i) (λ truth. unread (Ok (value_of_truth (negation_of truth))))),
      )
  plain (Exists q) env is = absurd (true≢false is)
  plain (InSubquery t q) env is = absurd (true≢false is)
  plain (NotInSubquery t q) env is = absurd (true≢false is)
  plain (Scalar q) env is = absurd (true≢false is)
  plain (Sum signs ts) env is = plain_sum signs ts env is

  plain_all : (put : Value → Truth → Truth) (none : Truth) (ts : Terms) (env : Environment) → have_query ts ≡ false → (truth : Truth) × AreTogether put none ts env truth
  plain_all put none End env is = (none, λ sees s. refl)
  plain_all put none (More t ts) env is =
      let x = plain t env (neither_left (has_query t) (have_query ts) is) in
      let y = plain_all put none ts env (neither_right (has_query t) (have_query ts) is) in
      (put x.0 y.0, λ sees s i. read_then (x.1 sees s i) (λ v. read_then (y.1 sees s i) (λ rest. unread (Ok (put v rest)))))

  plain_sum : (signs : List Sign) (ts : Terms) (env : Environment) → have_query ts ≡ false → (v : Value) × AreSummed signs ts env v
  plain_sum signs End env is = (Null, λ sees s. refl)
  plain_sum signs (More t ts) env is =
      let x = plain t env (neither_left (has_query t) (have_query ts) is) in
      let y = plain_from (number_or_null x.0) signs ts env (neither_right (has_query t) (have_query ts) is) in
      (y.0, λ sees s. (λ i. read_then (x.1 sees s i) (λ v. (sum_from (number_or_null v) signs ts sees env).in_state s)) ∙ y.1 sees s)

  plain_from : (so_far : Value) (signs : List Sign) (ts : Terms) (env : Environment) → have_query ts ≡ false → (v : Value) × AreAdded so_far signs ts env v
  plain_from so_far (sign ∷ signs) (More t ts) env is =
      let x = plain t env (neither_left (has_query t) (have_query ts) is) in
      let y = plain_from (joined sign so_far x.0) signs ts env (neither_right (has_query t) (have_query ts) is) in
      (y.0, λ sees s. (λ i. read_then (x.1 sees s i) (λ v. (sum_from (joined sign so_far v) signs ts sees env).in_state s)) ∙ y.1 sees s)
  plain_from so_far (sign ∷ signs) End env is = (so_far, λ sees s. refl)
  plain_from so_far [] ts env is = (so_far, λ sees s. refl)

-- the value where no table shows a row is the value
one_value : (t : Term) (env : Environment) → has_query t ≡ false → IsPlainly t env (value_in t env)
one_value t env is sees s =
    let one = plain t env is in
    one.1 sees s ∙ ap (λ v. unread (Ok v)) (sym (ap (λ (r : Reading Value). value_given r.gives) (one.1 no_rows no_objects)))

-- an item that is supported has no subquery
pub item_means : (item : Term) (env : Environment) → is_unsupported_item item ≡ false → IsPlainly item env (value_in item env)
item_means item env is = one_value item env (neither_right (has_sum item) (has_query item) is)
