-- One more visit of a walk.
use Rattle.std.specs.Prelude.{◌≡◌, ℕ, suc, ◌+◌, List, [], ◌∷◌, ◌++◌, Some, None, take, slice_get}
use Rattle.std.proofs.Common.{arith, ap, append_assoc, ◌∙◌, sym}
use Rattle.rls_source.specs.rls_value.specs.declared.object.Object.{Object}
use Rattle.rls_source.specs.rls_catalog.specs.State.{State}
use Rattle.rls_source.specs.rls_catalog.specs.Membership.{fresh, inherited_by, walk, visit_reads, walk_reads}
use Rattle.rls_source.specs.rls_catalog.specs.Paths.{granted_where, held_by, inheriting}
use Rattle.rls_source.specs.rls_catalog.proofs.Reaching.{inherited_marked}
use Rattle.rls_role.specs.declared.walking.Step.{Step}
use Rattle.rls_role.specs.declared.holding.HeldMembership.{HeldMembership}
use Rattle.rls_role.specs.Holdings.{with_held}
use Rattle.rls_role.specs.Steps.{takes}
use Rattle.rls_source.specs.rls_catalog.proofs.Walks.{leads_on, reads_on, reads_all}

one_more : (next : ℕ) → next + 1 ≡ suc next
one_more next = omega arith

pub leads_next : (step : Step) (held : List HeldMembership) (now s : State) (role : List ℕ) (names grown : List (List ℕ)) (next : ℕ) (name : List ℕ) → s ≡ now → slice_get names next ≡ Some name
    → grown ≡ names ++ fresh names (granted_where (takes step) (held_by (with_held held s) name))
    → ((n : ℕ) → walk n (inheriting (takes step) (with_held held now)) names next ≡ walk (n + next) (inheriting (takes step) (with_held held now)) (role ∷ []) 0)
    → (n : ℕ) → walk n (inheriting (takes step) (with_held held now)) grown (next + 1) ≡ walk (n + (next + 1)) (inheriting (takes step) (with_held held now)) (role ∷ []) 0
leads_next step held now s role names grown next name same found grows leads n =
    let marked : State = inheriting (takes step) (with_held held now) in
    let inherits : grown ≡ names ++ fresh names (inherited_by marked name) =
    grows ∙ ap (λ t. names ++ fresh names (granted_where (takes step) (held_by (with_held held t) name))) same
    ∙ ap (λ roles. names ++ fresh names roles) (sym (inherited_marked (takes step) (with_held held now) name)) in
    (λ i. walk n marked (inherits i) (one_more next i))
    ∙ leads_on marked role names next name found leads n
    ∙ (λ i. walk (n + sym (one_more next) i) marked (role ∷ []) 0)

pub reads_next : (start reads new : List Object) (names grown more : List (List ℕ)) (next : ℕ) (name : List ℕ) → slice_get names next ≡ Some name → grown ≡ names ++ more
    → reads ≡ start ++ walk_reads (take next names) → new ≡ reads ++ visit_reads name
    → new ≡ start ++ walk_reads (take (next + 1) grown)
reads_next start reads new names grown more next name found grows so_far visit =
    visit ∙ ap (λ objects. objects ++ visit_reads name) so_far ∙ append_assoc start (walk_reads (take next names)) (visit_reads name)
    ∙ ap (λ objects. start ++ objects) (reads_on names more next name found)
    ∙ (λ i. start ++ walk_reads (take (sym (one_more next) i) (sym grows i)))

pub reads_end : (start reads : List Object) (names reached : List (List ℕ)) (next : ℕ) → slice_get names next ≡ None → names ≡ reached
    → reads ≡ start ++ walk_reads (take next names) → reads ≡ start ++ walk_reads reached
reads_end start reads names reached next past same so_far = so_far ∙ ap (λ ns. start ++ walk_reads ns) (reads_all names next past ∙ same)
