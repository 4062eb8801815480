-- Calls in a loop that note what they read: what is left to ask leads to the whole.
use Rattle.std.specs.Prelude.{◌≡◌, refl, List, [], ◌++◌, Result, Ok, Err}
use Rattle.std.proofs.Common.{ap, sym, ◌∙◌, subst, append-nil, append_assoc}
use Rattle.rls_value.specs.declared.refusal.Refusal.{Refusal}
use Rattle.rls_value.specs.declared.object.Object.{Object}
use Rattle.rls_value.specs.Giving.{and_then}
use Rattle.rls_recursion.specs.rls_catalog.specs.State.{State}
use Rattle.rls_guard.specs.rls_source.specs.Answering.{Asked, Tells}
use Rattle.rls_guard.specs.rls_source.specs.Askings.{Asking, known, followed_by}
use Rattle.rls_guard.specs.rls_source.specs.Readings.{unread, next_reads}

-- what is left to ask gives the whole, joined to what was given; its reads behind those so far are all
pub record Leads {A B : Type 0} (whole : Asking A) (rest : Asking B) (join : B → A) (now : State) (old new : List Object) : Type 0 where
  pub given : (whole.in_state now).gives ≡ and_then (rest.in_state now).gives (λ b. Ok (join b))
  pub noted : new ++ (rest.in_state now).reads ≡ old ++ (whole.in_state now).reads

-- the first of what is left is asked
pub leads_on : {A B C E : Type 0} (whole : Asking A) (first : Asking C) (next : C → Asking B) (join : B → A) (now : State) (old : List Object) (mid new : Asked) (c : C)
    → mid.state ≡ now → Leads whole (followed_by first next) join now old mid.reads → Tells {E = E} first mid new (Ok c)
    → Leads whole (next c) join now old new.reads
leads_on whole first next join now old mid new c same leads told =
    let given : (first.in_state now).gives ≡ Ok c = subst (λ s. (first.in_state s).gives ≡ Ok c) same told.given in
    let noted : new.reads ≡ mid.reads ++ (first.in_state now).reads = ap (λ asked. asked.reads) told.noted ∙ ap (λ s. mid.reads ++ (first.in_state s).reads) same in
    let reads : (first.in_state now).reads ++ ((next c).in_state now).reads ≡ (first.in_state now).reads ++ next_reads (first.in_state now).gives (λ a. (next a).in_state now) =
    ap (λ r. (first.in_state now).reads ++ next_reads r (λ a. (next a).in_state now)) (sym given) in
    record {
      given = leads.given ∙ ap (λ r. and_then (and_then r (λ a. ((next a).in_state now).gives)) (λ b. Ok (join b))) given;
      noted = ap (λ n. n ++ ((next c).in_state now).reads) noted ∙ append_assoc mid.reads (first.in_state now).reads ((next c).in_state now).reads ∙ ap (λ rs. mid.reads ++ rs) reads ∙ leads.noted;
    }

and_twice : {A B C : Type 0} (r : Result C Refusal) (f : C → B) (join : B → A) → and_then (and_then r (λ c. Ok (f c))) (λ b. Ok (join b)) ≡ and_then r (λ c. Ok (join (f c)))
and_twice (Ok c) f join = refl
and_twice (Err refusal) f join = refl

none_next : {B C : Type 0} (r : Result C Refusal) (f : C → B) → next_reads r (λ c. unread (Ok (f c))) ≡ []
none_next (Ok c) f = refl
none_next (Err refusal) f = refl

-- and a function of what is given next
pub leads_map : {A B C : Type 0} (whole : Asking A) (rest : Asking C) (f : C → B) (join : B → A) (now : State) (old new : List Object)
    → Leads whole (followed_by rest (λ c. known (Ok (f c)))) join now old new → Leads whole rest (λ c. join (f c)) now old new
leads_map whole rest f join now old new leads =
    let reads : (rest.in_state now).reads ≡ (rest.in_state now).reads ++ next_reads (rest.in_state now).gives (λ c. unread (Ok (f c))) =
    sym (append-nil (rest.in_state now).reads) ∙ ap (λ more. (rest.in_state now).reads ++ more) (sym (none_next (rest.in_state now).gives f)) in
    record {
      given = leads.given ∙ and_twice (rest.in_state now).gives f join;
      noted = ap (λ rs. new ++ rs) reads ∙ leads.noted;
    }

-- what tells the same in the state
pub leads_same : {A B : Type 0} (whole : Asking A) (rest other : Asking B) (join : B → A) (now : State) (old new : List Object)
    → rest.in_state now ≡ other.in_state now → Leads whole rest join now old new → Leads whole other join now old new
leads_same whole rest other join now old new same leads = record {
  given = leads.given ∙ ap (λ r. and_then r.gives (λ b. Ok (join b))) same;
  noted = ap (λ r. new ++ r.reads) (sym same) ∙ leads.noted;
}
