-- One thing is found first.
use Rattle.std.specs.Prelude.{◌≡◌, refl, ℕ, ◌+◌, List, [], ◌∷◌, length, set, Option, Some, None}
use Rattle.std.proofs.Common.{ap, sym, ◌∙◌, subst, inl, inr}
use Rattle.rls_catalog.specs.declared.change.Change.{Change}
use Rattle.rls_catalog.specs.State.{State}
use Rattle.rls_catalog.specs.Changed.{opening, changed_all}
use Rattle.rls_explain.specs.rls_meaning.specs.rls_guard.specs.{declared.context.Ctx.Ctx, Effects.changes_of}
use Rattle.rls_audit.specs.rls_access.specs.Transactions.{ctx_after}
use Rattle.rls_explain.specs.rls_meaning.specs.Meaning.{effect_of}
use Rattle.rls_check.specs.declared.transaction.Answer.{Answer}
use Rattle.rls_check.specs.declared.transaction.Transaction.{Transaction}
use Rattle.rls_check.specs.declared.finding.Finding.{Finding}
use Rattle.rls_check.specs.declared.finding.Finding.TheVariants as f
use Rattle.rls_check.specs.declared.running.RanAlone.TheVariants as alone
use Rattle.rls_check.specs.declared.running.RanAlong.{RanAlong}
use Rattle.rls_check.specs.declared.running.RanAlong.TheVariants as along
use Rattle.rls_check.specs.Audited.{transaction_at}
use Rattle.rls_check.specs.Checking.{FirstOther, IsRunAlone, RunsAlong, EndsAs, IsFoundAlong, IsFirst, ctx_of}
use Rattle.rls_agreement.specs.Committing.{no_changes}
use Rattle.rls_check.proofs.HeldLemmas.{same_order}

first_once : (n : ℕ) (ctx : Ctx) (s : State) (answers : List Answer) (a b : Option ℕ) → FirstOther n ctx s answers a → FirstOther n ctx s answers b → a ≡ b
first_once n ctx s [] a b h k = h ∙ sym k
first_once n ctx s (it ∷ more) a b h k =
    let effect = effect_of s ctx it.statement in
    elim h [
      | inl x ↦ elim k [ inl y ↦ first_once (n + 1) (ctx_after ctx effect) (changed_all s (changes_of effect)) more a b x.1 y.1 | inr y ↦ absurd (y.0 x.0) ]
      | inr x ↦ elim k [ inl y ↦ absurd (x.0 y.0) | inr y ↦ x.1 ∙ sym y.1 ]
    ]

module _ (s : State) (it : Transaction) where
  agrees_once : (after other : State) (changes more : List Change) → IsRunAlone s it (alone.Agrees after changes) → IsRunAlone s it (alone.Agrees other more) → (after ≡ other) × (changes ≡ more)
  agrees_once after other changes more h k = (h.2 ∙ sym k.2, h.3 ∙ sym k.3)

  none_some : (n : ℕ) → FirstOther 1 (ctx_of it) s it.answers None → FirstOther 1 (ctx_of it) s it.answers (Some n) → ⊥
  none_some n h k = let e : None ≡ Some n = first_once 1 (ctx_of it) s it.answers None (Some n) h k in absurd (cc)

  agrees_only : (after : State) (changes : List Change) (found : Finding) → IsRunAlone s it (alone.Agrees after changes) → IsRunAlone s it (alone.Differs found) → ⊥
  agrees_only after changes found h k = elim k [ inl x ↦ none_some x.0 h.0 x.1 | inr x ↦ x.1 h.1 ]

  differs_once : (found other : Finding) → IsRunAlone s it (alone.Differs found) → IsRunAlone s it (alone.Differs other) → found ≡ other
  differs_once found other h k =
      elim h [
        | inl x ↦
            elim k [
              | inl y ↦
                  (let e : Some x.0 ≡ Some y.0 = first_once 1 (ctx_of it) s it.answers (Some x.0) (Some y.0) x.1 y.1 in
                  let same : x.0 ≡ y.0 = cc in x.2 ∙ (ap (λ (n : ℕ). f.Reply it.txn n) same ∙ sym y.2))
              | inr y ↦ absurd (none_some x.0 y.0 x.1)
            ]
        | inr x ↦ elim k [ inl y ↦ absurd (none_some y.0 x.0 y.1) | inr y ↦ x.2 ∙ sym y.2 ]
      ]

ends_once : (ran other : RanAlong) (left rest : List (List Change)) (found second : Finding) → ran ≡ other → left ≡ rest → EndsAs ran left found → EndsAs other rest second → found ≡ second
ends_once (along.Agrees s) other left rest found second e d h k =
    let k' = subst (λ (l : List (List Change)). EndsAs (along.Agrees s) l second) (sym d) (subst (λ (r : RanAlong). EndsAs r rest second) (sym e) k) in
    elim h [
      | inl x ↦ elim k' [ inl y ↦ x.1 ∙ sym y.1 | inr y ↦ absurd (y.0 x.0) ]
      | inr x ↦ elim k' [ inl y ↦ absurd (x.0 y.0) | inr y ↦ x.1 ∙ sym y.1 ]
    ]
ends_once (along.Differs first) other left rest found second e d h k = h ∙ sym (subst (λ (r : RanAlong). EndsAs r rest second) (sym e) k)

differs_ends : (ran : RanAlong) (first : Finding) (left : List (List Change)) (found : Finding) → ran ≡ along.Differs first → EndsAs ran left found → found ≡ first
differs_ends ran first left found e h = subst (λ (r : RanAlong). EndsAs r left found) e h

module _ (ts : List Transaction) where
  along_once : (s : State) (deltas : List (List Change)) (places : List ℕ) (ran other : RanAlong) (left rest : List (List Change)) (found second : Finding) → RunsAlong ts s deltas places ran left → RunsAlong ts s deltas places other rest
      → EndsAs ran left found → EndsAs other rest second → found ≡ second
  along_once s deltas [] ran other left rest found second h k = ends_once ran other left rest found second (h.0 ∙ sym k.0) (h.1 ∙ sym k.1)
  along_once s deltas (place ∷ places) ran other left rest found second h k = λ ends behind.
      elim h [
        | inl x ↦
            elim k [
              | inl y ↦
                  (let same = agrees_once s (transaction_at ts place) x.0 y.0 x.1 y.1 x.2 y.2 in
                  let again = subst (λ (c : List Change). RunsAlong ts x.0 (set deltas place c) places other rest) (sym same.1) (subst (λ (a : State). RunsAlong ts a (set deltas place y.1) places other rest) (sym same.0) y.3) in
                  along_once x.0 (set deltas place x.1) places ran other left rest found second x.3 again ends behind)
              | inr y ↦ absurd (agrees_only s (transaction_at ts place) x.0 x.1 y.0 x.2 y.1)
            ]
        | inr x ↦
            elim k [
              | inl y ↦ absurd (agrees_only s (transaction_at ts place) y.0 y.1 x.0 y.2 x.1)
              | inr y ↦ differs_ends ran x.0 left found x.2 ends ∙ (differs_once s (transaction_at ts place) x.0 y.0 x.1 y.1 ∙ sym (differs_ends other y.0 rest second y.2 behind))
            ]
      ]

  found_once : (places : List ℕ) (found second : Finding) → IsFoundAlong ts places found → IsFoundAlong ts places second → found ≡ second
  found_once places found second h k = along_once opening (no_changes (length ts)) places h.0 k.0 h.1 k.1 found second h.2 k.2 h.3 k.3

  -- one thing is found first
  pub finding_once : (numbers : List ℕ) (found second : Finding) → IsFirst ts numbers found → IsFirst ts numbers second → found ≡ second
  finding_once numbers found second h k =
      elim h [
        | inl x ↦
            elim k [
              | inl y ↦ found_once y.0 found second (subst (λ (ps : List ℕ). IsFoundAlong ts ps found) (same_order ts numbers x.0 y.0 x.1 y.1) x.2) y.2
              | inr y ↦ absurd (y.0 x.0 x.1)
            ]
        | inr x ↦ elim k [ inl y ↦ absurd (x.0 y.0 y.1) | inr y ↦ x.1 ∙ sym y.1 ]
      ]
