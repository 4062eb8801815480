-- The statements of a walk are those of the run.
use Rattle.std.specs.Prelude.{◌≡◌, refl, ◌+◌, ℕ, List, [], ◌∷◌, ◌++◌, map, Option, Some, None}
use Rattle.std.specs.List.{All}
use Rattle.std.proofs.Common.{ap, sym, ◌∙◌, subst, inl, inr}
use Rattle.std.proofs.lemmas.List.Elements.{All-append, All-cons, All-nil}
use Rattle.rls_catalog.specs.declared.change.Change.{Change}
use Rattle.rls_catalog.specs.State.{State}
use Rattle.rls_catalog.specs.Changed.{opening, changed_all}
use Rattle.rls_explain.specs.rls_meaning.specs.rls_guard.specs.{declared.context.Ctx.Ctx, Effects.changes_of}
use Rattle.rls_audit.specs.rls_access.specs.Transactions.{ctx_after}
use Rattle.rls_explain.specs.rls_meaning.specs.Meaning.{effect_of}
use Rattle.rls_check.specs.declared.finding.Finding.{Finding}
use Rattle.rls_check.specs.declared.finding.Finding.TheVariants as f
use Rattle.rls_check.specs.declared.running.RanAlone.TheVariants as alone
use Rattle.rls_check.specs.declared.running.RanAlong.{RanAlong}
use Rattle.rls_check.specs.declared.running.RanAlong.TheVariants as along
use Rattle.rls_check.specs.declared.transaction.Answer.{Answer}
use Rattle.rls_check.specs.declared.transaction.Transaction.{Transaction}
use Rattle.rls_check.specs.Audited.{transaction_at}
use Rattle.rls_check.specs.Checking.{EndsAs, FirstOther, IsFoundAlong, IsRunAlone, RunsAlong, ctx_of, state_behind}
use Rattle.rls_check.specs.Walking.{Standing, left, standings_alone, standings_along}
use Rattle.rls_check.specs.WalkLaws.{Agrees, EachAgrees, EffectsAreAlone}
use Rattle.rls_check.proofs.HeldLemmas.{same_order}

pub effects_told : EffectsAreAlone
effects_told place number ctx s [] = refl
effects_told place number ctx s (it ∷ more) =
    let effect = effect_of s ctx it.statement in
    ap (λ effects. effect ∷ effects) (effects_told place (number + 1) (ctx_after ctx effect) (changed_all s (changes_of effect)) more)

-- where none of a transaction comes to another answer each comes to its own
agree_alone : (place number : ℕ) (ctx : Ctx) (s : State) (answers : List Answer) → FirstOther number ctx s answers None → All Agrees (standings_alone place number ctx s answers)
agree_alone place number ctx s [] none = All-nil Agrees
agree_alone place number ctx s (it ∷ more) none =
    let effect = effect_of s ctx it.statement in
    elim none [
      | inl x ↦ All-cons Agrees _ (standings_alone place (number + 1) (ctx_after ctx effect) (changed_all s (changes_of effect)) more) x.0 (agree_alone place (number + 1) (ctx_after ctx effect) (changed_all s (changes_of effect)) more x.1)
      | inr x ↦ (let e : None ≡ Some number = x.1 in absurd (cc))
    ]

-- and so along an order
agree_along : (ts : List Transaction) (s end : State) (deltas : List (List Change)) (places : List ℕ) (left : List (List Change)) → RunsAlong ts s deltas places (along.Agrees end) left → All Agrees (standings_along ts s places)
agree_along ts s end deltas [] left runs = All-nil Agrees
agree_along ts s end deltas (place ∷ places) left runs =
    let it = transaction_at ts place in
    elim runs [
      | inl x ↦
          All-append Agrees (standings_alone place 1 (ctx_of it) s it.answers) (standings_along ts (state_behind it s) places) (agree_alone place 1 (ctx_of it) s it.answers x.2.0)
          (subst (λ (after : State). All Agrees (standings_along ts after places)) x.2.2 (agree_along ts x.0 end _ places left x.3))
      | inr x ↦ (let e : along.Agrees end ≡ along.Differs x.0 = x.2 in absurd (cc))
    ]

-- what differs isn't that all holds
differs_from : (s : State) (it : Transaction) → IsRunAlone s it (alone.Differs f.Holds) → ⊥
differs_from s it differs =
    elim differs [
      | inl x ↦ (let e : f.Holds ≡ f.Reply it.txn x.0 = x.2 in absurd (cc))
      | inr x ↦ (let e : f.Holds ≡ f.Changes it.txn = x.2 in absurd (cc))
    ]

never_holds : (ts : List Transaction) (s : State) (deltas : List (List Change)) (places : List ℕ) (left : List (List Change)) → RunsAlong ts s deltas places (along.Differs f.Holds) left → ⊥
never_holds ts s deltas [] left runs = let e : along.Differs f.Holds ≡ along.Agrees s = runs.0 in absurd (cc)
never_holds ts s deltas (place ∷ places) left runs =
    elim runs [
      | inl x ↦ never_holds ts x.0 _ places left x.3
      | inr x ↦ (let e : along.Differs f.Holds ≡ along.Differs x.0 = x.2 in let same : f.Holds ≡ x.0 = cc in differs_from s (transaction_at ts place) (subst (λ (found : Finding). IsRunAlone s (transaction_at ts place) (alone.Differs found)) (sym same) x.1))
    ]

agree_found : (ts : List Transaction) (places : List ℕ) (ran : RanAlong) (deltas left : List (List Change)) → RunsAlong ts opening deltas places ran left → EndsAs ran left f.Holds → All Agrees (standings_along ts opening places)
agree_found ts places (along.Agrees end) deltas left runs ends = agree_along ts opening end deltas places left runs
agree_found ts places (along.Differs first) deltas left runs ends = absurd (never_holds ts opening deltas places left (subst (λ (found : Finding). RunsAlong ts opening deltas places (along.Differs found) left) (sym ends) runs))

pub each_agrees : EachAgrees
each_agrees ts numbers walk is first =
    elim first [
      | inl x ↦ subst (All Agrees) (sym is.2) (subst (λ (places : List ℕ). All Agrees (standings_along ts opening places)) (same_order ts numbers x.0 is.0 x.1 is.1) (agree_found ts x.0 x.2.0 _ x.2.1 x.2.2 x.2.3))
      | inr x ↦ absurd (x.0 is.0 is.1)
    ]
