-- What a search finds tells which chain closes first.
use Rattle.std.specs.Prelude.{◌≡◌, refl, ℕ, zero, suc, List, [], ◌∷◌, Bool, true, false, ◌||◌, Option, Some, None, if◌then◌else◌}
use Rattle.std.specs.Str.{bytes_eq}
use Rattle.std.proofs.Common.{ap, sym, ◌∙◌, subst}
use Rattle.std.proofs.lemmas.Bool.{true≢false, or_left, or_right}
use Rattle.rls_value.specs.Names.{one_of}
use Rattle.rls_catalog.proofs.Walks.{bytes_same, bytes_own}
use Rattle.rls_catalog.specs.Membership.{Within}
use Rattle.rls_recursion.specs.declared.dependency.PolicyDependency.{PolicyDependency}
use Rattle.rls_recursion.specs.declared.progress.Progress.{Progress}
use Rattle.rls_recursion.specs.Searching.{has_subquery_of, subquery_tables_of, or_next, first_closed, closes, put_listed, put_done, Found, Fits, Loops, Deep, found_then, visit_all, visit, InOrder}

-- ---- names

pub or_cases : {P : Type 0} (a b : Bool) → (a || b) ≡ true → (a ≡ true → P) → (a ≡ false → b ≡ true → P) → P
or_cases true b is here there = here refl
or_cases false b is here there = there refl is

-- a name that is the table, or another
pub one_cases : {P : Type 0} (t : List ℕ) (ts : List (List ℕ)) (name : List ℕ) → one_of (t ∷ ts) name ≡ true → (t ≡ name → P) → (one_of ts name ≡ true → P) → P
one_cases t ts name is here there = or_cases (bytes_eq t name) (one_of ts name) is (λ same. here (bytes_same t name same)) (λ other. there)

-- the table is the first of them
pub one_first : (t : List ℕ) (ts : List (List ℕ)) → one_of (t ∷ ts) t ≡ true
one_first t ts = or_left (bytes_eq t t) (one_of ts t) (bytes_own t)

-- what is further on is among them
pub one_further : (t : List ℕ) (ts : List (List ℕ)) (name : List ℕ) → one_of ts name ≡ true → one_of (t ∷ ts) name ≡ true
one_further t ts name is = or_right (bytes_eq t name) (one_of ts name) is

-- the table alone
pub one_alone : {P : Type 0} (t name : List ℕ) → one_of (t ∷ []) name ≡ true → (t ≡ name → P) → P
one_alone t name is here = one_cases t [] name is here (λ never. absurd (true≢false (sym never)))

pub not_true : (b : Bool) → (b ≡ true → ⊥) → b ≡ false
not_true true never = absurd (never refl)
not_true false never = refl

-- ---- what is done

-- what is done and on the chain holds no subquery
abbrev pub IsOpen : List PolicyDependency → List (List ℕ) → List (List ℕ) → Type 0
IsOpen dependencies chain done = (t : List ℕ) → one_of done t ≡ true → one_of chain t ≡ true → has_subquery_of dependencies t ≡ false

-- a visit came from the one list of tables that are done to the other, over these tables
pub record Comes (dependencies : List PolicyDependency) (chain done ts more : List (List ℕ)) : Type 0 where
  pub ordered : InOrder dependencies more
  pub opened : IsOpen dependencies chain more
  pub kept : Within done more
  pub met : Within ts more

-- what is found tells which chain closes first
abbrev pub Says : List PolicyDependency → List (List ℕ) → Progress → List (List ℕ) → Option (List ℕ) → Found → Type 0
Says dependencies chain progress ts closed (Fits more) = (closed ≡ None) × Comes dependencies chain progress.done ts more.done
Says dependencies chain progress ts closed (Loops t) = closed ≡ Some t
Says dependencies chain progress ts closed Deep = Unit {0}

all_none : (closes : List ℕ → Option (List ℕ)) (ts : List (List ℕ)) → ((t : List ℕ) → one_of ts t ≡ true → closes t ≡ None) → first_closed closes ts ≡ None
all_none closes [] none = refl
all_none closes (t ∷ ts) none =
    ap (λ c. or_next c (first_closed closes ts)) (none t (one_first t ts))
    ∙ all_none closes ts (λ u is. none u (one_further t ts u is))

closed_if : (inner on : Bool) (t : List ℕ) (rest : Option (List ℕ)) → (on ≡ true → inner ≡ false) → (inner ≡ true → rest ≡ None) → (if inner then (if on then Some t else rest) else None) ≡ None
closed_if true true t rest stays none = absurd (true≢false (stays refl))
closed_if true false t rest stays none = none refl
closed_if false on t rest stays none = refl

-- no chain closes on from what is done
done_closes : (dependencies : List PolicyDependency) (done : List (List ℕ)) → InOrder dependencies done → (n : ℕ) (chain : List (List ℕ)) → IsOpen dependencies chain done → (t : List ℕ) → one_of done t ≡ true → closes n dependencies chain t ≡ None
done_closes dependencies [] ordered n chain free t is = absurd (true≢false (sym is))
done_closes dependencies (d ∷ ds) ordered zero chain free t is = refl
done_closes dependencies (d ∷ ds) ordered (suc n) chain free t is =
    one_cases d ds t is
    (λ same. subst (λ u. closes (suc n) dependencies chain u ≡ None) same
    (closed_if (has_subquery_of dependencies d) (one_of chain d) d (first_closed (closes n dependencies (d ∷ chain)) (subquery_tables_of dependencies d))
    (λ on. free d (one_first d ds) on)
    (λ inner. all_none (closes n dependencies (d ∷ chain)) (subquery_tables_of dependencies d)
    (λ u among. done_closes dependencies ds ordered.1.1 n (d ∷ chain)
    (λ v in_ds on. one_cases d chain v on
    (λ here. absurd (true≢false (sym (subst (λ w. one_of ds w ≡ true) (sym here) in_ds) ∙ ordered.0)))
    (λ further. free v (one_further d ds v in_ds) further))
    u (ordered.1.0 inner u among)))))
    (λ among. done_closes dependencies ds ordered.1.1 (suc n) chain (λ u in_ds on. free u (one_further d ds u in_ds) on) t among)

-- ---- each step of the search

both_says : (dependencies : List PolicyDependency) (chain : List (List ℕ)) (progress more : Progress) (t : List ℕ) (ts : List (List ℕ)) (one rest : Option (List ℕ)) (found : Found)
    → Says dependencies chain progress (t ∷ []) one (Fits more) → Says dependencies chain more ts rest found → Says dependencies chain progress (t ∷ ts) (or_next one rest) found
both_says dependencies chain progress more t ts one rest (Fits all) here there = (
  ap (λ c. or_next c rest) here.0 ∙ there.0,
  record {
    ordered = there.1.ordered;
    opened = there.1.opened;
    kept = λ u is. there.1.kept u (here.1.kept u is);
    met = λ u is. one_cases t ts u is
        (λ same. there.1.kept u (here.1.met u (subst (λ w. one_of (t ∷ []) w ≡ true) same (one_first t []))))
        (λ further. there.1.met u further);
  },
)
both_says dependencies chain progress more t ts one rest (Loops u) here there = ap (λ c. or_next c rest) here.0 ∙ there
both_says dependencies chain progress more t ts one rest Deep here there = tt

-- a list of tables, one after another
then_says : (dependencies : List PolicyDependency) (chain : List (List ℕ)) (progress : Progress) (t : List ℕ) (ts : List (List ℕ)) (one rest : Option (List ℕ)) (found : Found) (next : Progress → Found)
    → Says dependencies chain progress (t ∷ []) one found
    → ((more : Progress) → InOrder dependencies more.done → IsOpen dependencies chain more.done → Says dependencies chain more ts rest (next more))
    → Says dependencies chain progress (t ∷ ts) (or_next one rest) (found_then found next)
then_says dependencies chain progress t ts one rest (Fits more) next here further =
    both_says dependencies chain progress more t ts one rest (next more) here (further more here.1.ordered here.1.opened)
then_says dependencies chain progress t ts one rest (Loops u) next here further = ap (λ c. or_next c rest) here
then_says dependencies chain progress t ts one rest Deep next here further = tt

all_says : (dependencies : List PolicyDependency) (chain : List (List ℕ)) (step : Progress → List ℕ → Found) (closed : List ℕ → Option (List ℕ))
    → ((progress : Progress) (t : List ℕ) → InOrder dependencies progress.done → IsOpen dependencies chain progress.done → Says dependencies chain progress (t ∷ []) (closed t) (step progress t))
    → (ts : List (List ℕ)) (progress : Progress) → InOrder dependencies progress.done → IsOpen dependencies chain progress.done → Says dependencies chain progress ts (first_closed closed ts) (visit_all step progress ts)
all_says dependencies chain step closed each [] progress ordered free = (
  refl,
  record { ordered = ordered; opened = free; kept = λ u is. is; met = λ u is. absurd (true≢false (sym is)) },
)
all_says dependencies chain step closed each (t ∷ ts) progress ordered free =
    then_says dependencies chain progress t ts (closed t) (first_closed closed ts) (step progress t) (λ more. visit_all step more ts) (each progress t ordered free)
    (λ more in_order opened. all_says dependencies chain step closed each ts more in_order opened)

-- a table behind which its own stand
finish_says : (dependencies : List PolicyDependency) (chain : List (List ℕ)) (progress : Progress) (t : List ℕ) (closed : Option (List ℕ)) (found : Found)
    → has_subquery_of dependencies t ≡ true → one_of chain t ≡ false
    → Says dependencies (t ∷ chain) (put_listed progress t) (subquery_tables_of dependencies t) closed found
    → Says dependencies chain progress (t ∷ []) closed (found_then found (λ more. Fits (put_done more t)))
finish_says dependencies chain progress t closed (Fits more) inner off says = (
  says.0,
  record {
    ordered = (
      not_true (one_of more.done t) (λ is. true≢false (sym inner ∙ says.1.opened t is (one_first t chain))),
      ((λ _. says.1.met), says.1.ordered),
    );
    opened = λ u is on. one_cases t more.done u is
        (λ same. absurd (true≢false (sym (subst (λ w. one_of chain w ≡ true) (sym same) on) ∙ off)))
        (λ further. says.1.opened u further (one_further t chain u on));
    kept = λ u is. one_further t more.done u (says.1.kept u is);
    met = λ u is. one_alone t u is (λ same. subst (λ w. one_of (t ∷ more.done) w ≡ true) same (one_first t more.done));
  },
)
finish_says dependencies chain progress t closed (Loops u) inner off says = says
finish_says dependencies chain progress t closed Deep inner off says = tt

-- a table without subqueries
leaf_says : (dependencies : List PolicyDependency) (chain : List (List ℕ)) (progress : Progress) (t : List ℕ) → has_subquery_of dependencies t ≡ false → one_of progress.done t ≡ false → InOrder dependencies progress.done → IsOpen dependencies chain progress.done
    → Says dependencies chain progress (t ∷ []) None (Fits (put_done (put_listed progress t) t))
leaf_says dependencies chain progress t leaf new ordered free = (
  refl,
  record {
    ordered = (new, ((λ inner. absurd (true≢false (sym inner ∙ leaf))), ordered));
    opened = λ u is on. one_cases t progress.done u is (λ same. ap (has_subquery_of dependencies) (sym same) ∙ leaf) (λ further. free u further on);
    kept = λ u is. one_further t progress.done u is;
    met = λ u is. one_alone t u is (λ same. subst (λ w. one_of (t ∷ progress.done) w ≡ true) same (one_first t progress.done));
  },
)

-- a table that is done
done_says : (dependencies : List PolicyDependency) (chain : List (List ℕ)) (progress : Progress) (t : List ℕ) (closed : Option (List ℕ)) → closed ≡ None → one_of progress.done t ≡ true → InOrder dependencies progress.done → IsOpen dependencies chain progress.done
    → Says dependencies chain progress (t ∷ []) closed (Fits progress)
done_says dependencies chain progress t closed none is ordered free = (
  none,
  record {
    ordered = ordered;
    opened = free;
    kept = λ u among. among;
    met = λ u among. one_alone t u among (λ same. subst (λ w. one_of progress.done w ≡ true) same is);
  },
)

by_done : (b : Bool) (dependencies : List PolicyDependency) (chain : List (List ℕ)) (progress : Progress) (t : List ℕ) (closed : Option (List ℕ)) (other : Found)
    → (b ≡ true → Says dependencies chain progress (t ∷ []) closed (Fits progress)) → (b ≡ false → Says dependencies chain progress (t ∷ []) closed other)
    → Says dependencies chain progress (t ∷ []) closed (if b then Fits progress else other)
by_done true dependencies chain progress t closed other is isnt = is refl
by_done false dependencies chain progress t closed other is isnt = isnt refl

by_subquery : (b : Bool) (dependencies : List PolicyDependency) (chain : List (List ℕ)) (progress : Progress) (t : List ℕ) (closed : Option (List ℕ)) (found other : Found)
    → (b ≡ true → Says dependencies chain progress (t ∷ []) closed found) → (b ≡ false → Says dependencies chain progress (t ∷ []) None other)
    → Says dependencies chain progress (t ∷ []) (if b then closed else None) (if b then found else other)
by_subquery true dependencies chain progress t closed found other is isnt = is refl
by_subquery false dependencies chain progress t closed found other is isnt = isnt refl

by_chain : (b : Bool) (dependencies : List PolicyDependency) (chain : List (List ℕ)) (progress : Progress) (t : List ℕ) (further : Option (List ℕ)) (found : Found)
    → (b ≡ false → Says dependencies chain progress (t ∷ []) further found)
    → Says dependencies chain progress (t ∷ []) (if b then Some t else further) (if b then Loops t else found)
by_chain true dependencies chain progress t further found isnt = refl
by_chain false dependencies chain progress t further found isnt = isnt refl

-- what a visit finds tells which chain on from the table closes first
pub visit_says : (n : ℕ) (dependencies : List PolicyDependency) (chain : List (List ℕ)) (progress : Progress) (t : List ℕ) → InOrder dependencies progress.done → IsOpen dependencies chain progress.done → Says dependencies chain progress (t ∷ []) (closes n dependencies chain t) (visit n dependencies chain progress t)
visit_says zero dependencies chain progress t ordered free = tt
visit_says (suc n) dependencies chain progress t ordered free =
    let below : Found = visit_all (visit n dependencies (t ∷ chain)) (put_listed progress t) (subquery_tables_of dependencies t) in
    let after : Found = found_then below (λ more. Fits (put_done more t)) in
    let closed : Option (List ℕ) = first_closed (closes n dependencies (t ∷ chain)) (subquery_tables_of dependencies t) in
    let leaf : Found = Fits (put_done (put_listed progress t) t) in
    by_done (one_of progress.done t) dependencies chain progress t (closes (suc n) dependencies chain t) (if has_subquery_of dependencies t then (if one_of chain t then Loops t else after) else leaf)
    (λ is. done_says dependencies chain progress t (closes (suc n) dependencies chain t) (done_closes dependencies progress.done ordered (suc n) chain free t is) is ordered free)
    (λ new. by_subquery (has_subquery_of dependencies t) dependencies chain progress t (if one_of chain t then Some t else closed) (if one_of chain t then Loops t else after) leaf
    (λ inner. by_chain (one_of chain t) dependencies chain progress t closed after
    (λ off. finish_says dependencies chain progress t closed below inner off
    (all_says dependencies (t ∷ chain) (visit n dependencies (t ∷ chain)) (closes n dependencies (t ∷ chain)) (λ more u in_order opened. visit_says n dependencies (t ∷ chain) more u in_order opened) (subquery_tables_of dependencies t) (put_listed progress t) ordered
    (λ u is on. one_cases t chain u on (λ same. absurd (true≢false (sym (subst (λ w. one_of progress.done w ≡ true) (sym same) is) ∙ new))) (λ further. free u is further)))))
    (λ without. leaf_says dependencies chain progress t without new ordered free))

-- and so for a list of tables
pub visits_say : (n : ℕ) (dependencies : List PolicyDependency) (chain ts : List (List ℕ)) (progress : Progress) → InOrder dependencies progress.done → IsOpen dependencies chain progress.done
    → Says dependencies chain progress ts (first_closed (closes n dependencies chain) ts) (visit_all (visit n dependencies chain) progress ts)
visits_say n dependencies chain ts progress ordered free = all_says dependencies chain (visit n dependencies chain) (closes n dependencies chain) (λ more u in_order opened. visit_says n dependencies chain more u in_order opened) ts progress ordered free
