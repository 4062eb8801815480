-- A walk over names, visit by visit.
use Rattle.std.specs.Prelude.{◌≡◌, refl, ℕ, suc, ◌+◌, List, [], ◌∷◌, ◌++◌, Some, None, Result, Ok, Err, slice_get}
use Rattle.rls_value.specs.declared.refusal.Refusal.{Refusal}
use Rattle.std.proofs.Common.{arith, ap, sym, ◌∙◌, subst, append-nil, append_assoc}
use Rattle.rls_value.specs.declared.object.Object.{Object}
use Rattle.rls_value.specs.Giving.{and_then}
use Rattle.rls_recursion.specs.rls_catalog.specs.State.{State}
use Rattle.rls_recursion.specs.rls_catalog.specs.Membership.{fresh}
use Rattle.rls_guard.specs.rls_source.specs.Answering.{Asked, Tells}
use Rattle.rls_guard.specs.rls_source.specs.Askings.{Asking, known, followed_by}
use Rattle.rls_expansion.specs.Enough.{LeadsWithin, asked_all, collect, collect_step, collect_end, collect_settles, visits}
use Rattle.rls_expansion.proofs.Telling.{Leads, leads_on, leads_map, leads_same}

one_on : (n i : ℕ) → suc n + i ≡ n + (i + 1)
one_on n i = omega arith

after_one : (i : ℕ) → suc i ≡ i + 1
after_one i = omega arith

given_own : {X : Type 0} (r : Result X Refusal) → r ≡ and_then r (λ x. Ok x)
given_own (Ok x) = refl
given_own (Err refusal) = refl

none_more : (n : ℕ) → n ≡ n + 0
none_more n = omega arith

-- before the first visit
pub collect_first : {X : Type 0} (ask : List ℕ → Asking X) (next : X → List (List ℕ)) (now : State) (first names : List (List ℕ)) (done : List X) (old : List Object)
    → names ≡ first → done ≡ []
    → (n : ℕ) → Leads (collect ask next (n + 0) first 0) (collect ask next n names 0) (λ rest. done ++ rest) now old old
collect_first {X = X} ask next now first names done old same none n =
    let own : Leads (collect ask next n first 0) (collect ask next n first 0) (λ rest. rest) now old old =
    record { given = given_own ((collect ask next n first 0).in_state now).gives; noted = refl } in
    subst (λ m. Leads (collect ask next m first 0) (collect ask next n names 0) (λ rest. done ++ rest) now old old) (none_more n)
    (subst (λ ns. Leads (collect ask next n first 0) (collect ask next n ns 0) (λ rest. done ++ rest) now old old) (sym same)
    (subst (λ xs. Leads (collect ask next n first 0) (collect ask next n first 0) (λ rest. xs ++ rest) now old old) (sym none) own))

-- one more visit
pub collect_next : {X E : Type 0} (ask : List ℕ → Asking X) (next : X → List (List ℕ)) (now : State) (first names grown : List (List ℕ)) (i : ℕ) (name : List ℕ) (x : X) (done more : List X) (old : List Object) (mid new : Asked)
    → slice_get names i ≡ Some name → grown ≡ names ++ fresh names (next x) → more ≡ done ++ x ∷ [] → mid.state ≡ now
    → ((n : ℕ) → Leads (collect ask next (n + i) first 0) (collect ask next n names i) (λ rest. done ++ rest) now old mid.reads)
    → Tells {E = E} (ask name) mid new (Ok x)
    → (n : ℕ) → Leads (collect ask next (n + (i + 1)) first 0) (collect ask next n grown (i + 1)) (λ rest. more ++ rest) now old new.reads
collect_next {X = X} {E = E} ask next now first names grown i name x done more old mid new found grows pushed same leads told n =
    let whole : Asking (List X) = collect ask next (suc n + i) first 0 in
    let visited : X → Asking (List X) = λ x. followed_by (collect ask next n (names ++ fresh names (next x)) (suc i)) (λ rest. known (Ok (x ∷ rest))) in
    let stepped : Leads whole (followed_by (ask name) visited) (λ rest. done ++ rest) now old mid.reads =
    leads_same whole (collect ask next (suc n) names i) (followed_by (ask name) visited) (λ rest. done ++ rest) now old mid.reads
    (collect_step ask next n now names i name found) (leads (suc n)) in
    let here : Leads whole (collect ask next n (names ++ fresh names (next x)) (suc i)) (λ rest. done ++ x ∷ rest) now old new.reads =
    leads_map whole (collect ask next n (names ++ fresh names (next x)) (suc i)) (λ rest. x ∷ rest) (λ rest. done ++ rest) now old new.reads
    (leads_on whole (ask name) visited (λ rest. done ++ rest) now old mid new x same stepped told) in
    subst (λ m. Leads (collect ask next m first 0) (collect ask next n grown (i + 1)) (λ rest. more ++ rest) now old new.reads) (one_on n i)
    (subst (λ ns. Leads whole (collect ask next n ns (i + 1)) (λ rest. more ++ rest) now old new.reads) (sym grows)
    (subst (λ j. Leads whole (collect ask next n (names ++ fresh names (next x)) j) (λ rest. more ++ rest) now old new.reads) (after_one i)
    (subst (λ join. Leads whole (collect ask next n (names ++ fresh names (next x)) (suc i)) join now old new.reads) (λ z. λ rest. (sym (append_assoc done (x ∷ []) rest) ∙ ap (λ xs. xs ++ rest) (sym pushed)) z) here)))

-- the end of the walk
pub collect_told : {X E : Type 0} (ask : List ℕ → Asking X) (next : X → List (List ℕ)) (all : State → List (List ℕ)) (within : LeadsWithin ask next all)
    (first names : List (List ℕ)) (i : ℕ) (done : List X) (start asked : Asked)
    → slice_get names i ≡ None → asked.state ≡ start.state
    → ((n : ℕ) → Leads (collect ask next (n + i) first 0) (collect ask next n names i) (λ rest. done ++ rest) start.state start.reads asked.reads)
    → Tells {E = E} (asked_all ask next all within first) start asked (Ok done)
collect_told ask next all within first names i done start asked past stays leads =
    let now : State = start.state in
    let bound : ℕ = visits all first now in
    let whole : (collect ask next (bound + i) first 0).in_state now ≡ (asked_all ask next all within first).in_state now = collect_settles ask next all first within now (bound + i) (omega arith) in
    let end : (collect ask next bound names i).in_state now ≡ record { gives = Ok []; reads = [] } = collect_end ask next bound now names i past in
    let noted : asked.reads ≡ start.reads ++ ((asked_all ask next all within first).in_state now).reads =
    sym (append-nil asked.reads) ∙ ap (λ r. asked.reads ++ r.reads) (sym end) ∙ (leads bound).noted ∙ ap (λ r. start.reads ++ r.reads) whole in
    record {
      given = ap (λ r. r.gives) (sym whole) ∙ (leads bound).given ∙ ap (λ r. and_then r.gives (λ rest. Ok (done ++ rest))) end ∙ ap Ok (append-nil done);
      noted = λ z. record { state = stays z; reads = noted z };
    }
