-- The tables that were met are those that are done, each once.
use Rattle.std.specs.Prelude.{◌≡◌, refl, ℕ, zero, suc, List, [], ◌∷◌, ◌++◌, Bool, true, false, ◌||◌, if◌then◌else◌}
use Rattle.std.specs.Str.{bytes_eq}
use Rattle.std.proofs.Common.{ap, sym, ◌∙◌, subst}
use Rattle.std.proofs.lemmas.Bool.{true≢false, or_left}
use Rattle.rls_value.specs.Names.{one_of}
use Rattle.rls_catalog.proofs.Walks.{one_of-append, one_of_last}
use Rattle.rls_catalog.specs.Membership.{Within}
use Rattle.rls_recursion.specs.declared.dependency.PolicyDependency.{PolicyDependency}
use Rattle.rls_recursion.specs.declared.progress.Progress.{Progress}
use Rattle.rls_recursion.specs.Searching.{has_subquery_of, subquery_tables_of, put_listed, put_done, Found, Fits, Loops, Deep, found_then, visit_all, visit, IsOnce}
use Rattle.rls_recursion.proofs.Closing.{or_cases, one_cases, one_first, one_further, not_true}

-- ---- lists with one more behind

one_kept : (ts : List (List ℕ)) (t u : List ℕ) → one_of ts u ≡ true → one_of (ts ++ t ∷ []) u ≡ true
one_kept ts t u is = one_of-append ts (t ∷ []) u ∙ or_left (one_of ts u) (one_of (t ∷ []) u) is

-- one of them, or the last
last_cases : {P : Type 0} (ts : List (List ℕ)) (t u : List ℕ) → one_of (ts ++ t ∷ []) u ≡ true → (one_of ts u ≡ true → P) → (t ≡ u → P) → P
last_cases ts t u is here last =
    or_cases (one_of ts u) (one_of (t ∷ []) u) (sym (one_of-append ts (t ∷ []) u) ∙ is) here
    (λ no further. one_cases t [] u further last (λ never. absurd (true≢false (sym never))))

not_either : (a b : Bool) → (a || b) ≡ false → (a ≡ false) × (b ≡ false)
not_either true b is = absurd (true≢false is)
not_either false b is = (refl, is)

-- one more that isn't among them
once_put : (ts : List (List ℕ)) (t : List ℕ) → IsOnce ts → one_of ts t ≡ false → IsOnce (ts ++ t ∷ [])
once_put [] t once new = (refl, tt)
once_put (u ∷ us) t once new =
    let off : (bytes_eq u t ≡ false) × (one_of us t ≡ false) = not_either (bytes_eq u t) (one_of us t) new in (
      not_true (one_of (us ++ t ∷ []) u) (λ is. last_cases us t u is
          (λ among. true≢false (sym among ∙ once.0))
          (λ same. true≢false (sym (subst (λ v. one_of (v ∷ []) t ≡ true) same (one_first t [])) ∙ ap (λ b. b || false) off.0))),
      once_put us t once.1 off.1,
    )

-- ---- what a visit keeps

-- what is met is done or on the chain, and each once
pub record Stands (dependencies : List PolicyDependency) (chain : List (List ℕ)) (progress : Progress) : Type 0 where
  pub once : IsOnce progress.listed
  pub opened : (t : List ℕ) → one_of progress.listed t ≡ true → one_of progress.done t ≡ false → (one_of chain t ≡ true) × (has_subquery_of dependencies t ≡ true)

-- what one visit leaves of what was there before
pub record Lists (before after : Progress) : Type 0 where
  pub done_kept : Within before.done after.done
  pub listed_kept : Within before.listed after.listed
  pub done_listed : (t : List ℕ) → one_of after.done t ≡ true → one_of before.done t ≡ false → one_of after.listed t ≡ true
  pub listed_done : (t : List ℕ) → one_of after.listed t ≡ true → one_of before.listed t ≡ false → one_of after.done t ≡ true

-- a search that comes to its end keeps both
abbrev pub Keeps : List PolicyDependency → List (List ℕ) → Progress → Found → Type 0
Keeps dependencies chain before (Fits after) = Stands dependencies chain after × Lists before after
Keeps dependencies chain before (Loops t) = Unit {0}
Keeps dependencies chain before Deep = Unit {0}

keeps_none : (dependencies : List PolicyDependency) (chain : List (List ℕ)) (before : Progress) → Stands dependencies chain before → Keeps dependencies chain before (Fits before)
keeps_none dependencies chain before stands = (
  stands,
  record {
    done_kept = λ t is. is;
    listed_kept = λ t is. is;
    done_listed = λ t is new. absurd (true≢false (sym is ∙ new));
    listed_done = λ t is new. absurd (true≢false (sym is ∙ new));
  },
)

by_bool : {P : Type 0} (b : Bool) → (b ≡ true → P) → (b ≡ false → P) → P
by_bool true is isnt = is refl
by_bool false is isnt = isnt refl

pub both_list : (before between after : Progress) → Lists before between → Lists between after → Lists before after
both_list before between after one other = record {
  done_kept = λ t is. other.done_kept t (one.done_kept t is);
  listed_kept = λ t is. other.listed_kept t (one.listed_kept t is);
  done_listed = λ t is new. by_bool (one_of between.done t)
      (λ there. other.listed_kept t (one.done_listed t there new))
      (λ not_there. other.done_listed t is not_there);
  listed_done = λ t is new. by_bool (one_of between.listed t)
      (λ there. other.done_kept t (one.listed_done t there new))
      (λ not_there. other.listed_done t is not_there);
}

both_keep : (dependencies : List PolicyDependency) (chain : List (List ℕ)) (before between : Progress) (found : Found) → Lists before between → Keeps dependencies chain between found → Keeps dependencies chain before found
both_keep dependencies chain before between (Fits after) lists keeps = (keeps.0, both_list before between after lists keeps.1)
both_keep dependencies chain before between (Loops t) lists keeps = tt
both_keep dependencies chain before between Deep lists keeps = tt

then_keeps : (dependencies : List PolicyDependency) (chain : List (List ℕ)) (before : Progress) (found : Found) (next : Progress → Found)
    → Keeps dependencies chain before found → ((between : Progress) → Stands dependencies chain between → Lists before between → Keeps dependencies chain between (next between)) → Keeps dependencies chain before (found_then found next)
then_keeps dependencies chain before (Fits between) next keeps further = both_keep dependencies chain before between (next between) keeps.1 (further between keeps.0 keeps.1)
then_keeps dependencies chain before (Loops t) next keeps further = tt
then_keeps dependencies chain before Deep next keeps further = tt

all_keep : (dependencies : List PolicyDependency) (chain : List (List ℕ)) (step : Progress → List ℕ → Found)
    → ((progress : Progress) (t : List ℕ) → Stands dependencies chain progress → Keeps dependencies chain progress (step progress t))
    → (ts : List (List ℕ)) (progress : Progress) → Stands dependencies chain progress → Keeps dependencies chain progress (visit_all step progress ts)
all_keep dependencies chain step each [] progress stands = keeps_none dependencies chain progress stands
all_keep dependencies chain step each (t ∷ ts) progress stands =
    then_keeps dependencies chain progress (step progress t) (λ more. visit_all step more ts) (each progress t stands) (λ more further lists. all_keep dependencies chain step each ts more further)

-- a table that was met and is done now
lists_put : (before after : Progress) (t : List ℕ) → Lists (put_listed before t) after → Lists before (put_done after t)
lists_put before after t lists = record {
  done_kept = λ u is. one_further t after.done u (lists.done_kept u is);
  listed_kept = λ u is. lists.listed_kept u (one_kept before.listed t u is);
  done_listed = λ u is new. one_cases t after.done u is
      (λ same. subst (λ v. one_of after.listed v ≡ true) same (lists.listed_kept t (one_of_last before.listed t)))
      (λ further. lists.done_listed u further new);
  listed_done = λ u is new. by_bool (one_of (before.listed ++ t ∷ []) u)
      (λ there. last_cases before.listed t u there
      (λ among. absurd (true≢false (sym among ∙ new)))
      (λ same. subst (λ v. one_of (t ∷ after.done) v ≡ true) same (one_first t after.done)))
      (λ not_there. one_further t after.done u (lists.listed_done u is not_there));
}

-- on a chain that it begins
stands_below : (dependencies : List PolicyDependency) (chain : List (List ℕ)) (before : Progress) (t : List ℕ) → one_of before.done t ≡ false → has_subquery_of dependencies t ≡ true → one_of chain t ≡ false → Stands dependencies chain before → Stands dependencies (t ∷ chain) (put_listed before t)
stands_below dependencies chain before t new inner off stands = record {
  once = once_put before.listed t stands.once (not_true (one_of before.listed t) (λ is. true≢false (sym ((stands.opened t is new).0) ∙ off)));
  opened = λ u is not_done. last_cases before.listed t u is
      (λ among. (one_further t chain u ((stands.opened u among not_done).0), (stands.opened u among not_done).1))
      (λ same. (subst (λ v. one_of (t ∷ chain) v ≡ true) same (one_first t chain), ap (has_subquery_of dependencies) (sym same) ∙ inner));
}

stands_above : (dependencies : List PolicyDependency) (chain : List (List ℕ)) (after : Progress) (t : List ℕ) → Stands dependencies (t ∷ chain) after → Stands dependencies chain (put_done after t)
stands_above dependencies chain after t stands = record {
  once = stands.once;
  opened = λ u is not_done.
      let off : (bytes_eq t u ≡ false) × (one_of after.done u ≡ false) = not_either (bytes_eq t u) (one_of after.done u) not_done in
      let there : (one_of (t ∷ chain) u ≡ true) × (has_subquery_of dependencies u ≡ true) = stands.opened u is off.1 in
      (or_cases (bytes_eq t u) (one_of chain u) there.0 (λ same. absurd (true≢false (sym same ∙ off.0))) (λ other further. further), there.1);
}

finish_keeps : (dependencies : List PolicyDependency) (chain : List (List ℕ)) (before : Progress) (t : List ℕ) (found : Found) → Keeps dependencies (t ∷ chain) (put_listed before t) found → Keeps dependencies chain before (found_then found (λ more. Fits (put_done more t)))
finish_keeps dependencies chain before t (Fits after) keeps = (stands_above dependencies chain after t keeps.0, lists_put before after t keeps.1)
finish_keeps dependencies chain before t (Loops u) keeps = tt
finish_keeps dependencies chain before t Deep keeps = tt

leaf_keeps : (dependencies : List PolicyDependency) (chain : List (List ℕ)) (before : Progress) (t : List ℕ) → one_of before.done t ≡ false → has_subquery_of dependencies t ≡ false → Stands dependencies chain before → Keeps dependencies chain before (Fits (put_done (put_listed before t) t))
leaf_keeps dependencies chain before t new leaf stands = (
  record {
    once = once_put before.listed t stands.once (not_true (one_of before.listed t) (λ is. true≢false (sym ((stands.opened t is new).1) ∙ leaf)));
    opened = λ u is not_done.
        let off : (bytes_eq t u ≡ false) × (one_of before.done u ≡ false) = not_either (bytes_eq t u) (one_of before.done u) not_done in
        last_cases before.listed t u is
        (λ among. stands.opened u among off.1)
        (λ same. absurd (true≢false (sym (subst (λ v. one_of (t ∷ before.done) v ≡ true) same (one_first t before.done)) ∙ not_done)));
  },
  lists_put before (put_listed before t) t (record {
    done_kept = λ u is. is;
    listed_kept = λ u is. is;
    done_listed = λ u is not_done. absurd (true≢false (sym is ∙ not_done));
    listed_done = λ u is not_listed. absurd (true≢false (sym is ∙ not_listed));
  }),
)

keeps_if : (is_done inner on : Bool) (dependencies : List PolicyDependency) (chain : List (List ℕ)) (progress : Progress) (t : List ℕ) (one three : Found)
    → (is_done ≡ true → Keeps dependencies chain progress (Fits progress))
    → (is_done ≡ false → inner ≡ true → on ≡ false → Keeps dependencies chain progress one)
    → (is_done ≡ false → inner ≡ false → Keeps dependencies chain progress three)
    → Keeps dependencies chain progress (if is_done then Fits progress else (if inner then (if on then Loops t else one) else three))
keeps_if true inner on dependencies chain progress t one three was further leaf = was refl
keeps_if false true true dependencies chain progress t one three was further leaf = tt
keeps_if false true false dependencies chain progress t one three was further leaf = further refl refl refl
keeps_if false false on dependencies chain progress t one three was further leaf = leaf refl refl

pub visit_keeps : (n : ℕ) (dependencies : List PolicyDependency) (chain : List (List ℕ)) (progress : Progress) (t : List ℕ) → Stands dependencies chain progress → Keeps dependencies chain progress (visit n dependencies chain progress t)
visit_keeps zero dependencies chain progress t stands = tt
visit_keeps (suc n) dependencies chain progress t stands =
    let below : Found = visit_all (visit n dependencies (t ∷ chain)) (put_listed progress t) (subquery_tables_of dependencies t) in
    keeps_if (one_of progress.done t) (has_subquery_of dependencies t) (one_of chain t) dependencies chain progress t (found_then below (λ more. Fits (put_done more t))) (Fits (put_done (put_listed progress t) t))
    (λ was. keeps_none dependencies chain progress stands)
    (λ new inner off. finish_keeps dependencies chain progress t below
    (all_keep dependencies (t ∷ chain) (visit n dependencies (t ∷ chain)) (λ more u further. visit_keeps n dependencies (t ∷ chain) more u further) (subquery_tables_of dependencies t) (put_listed progress t) (stands_below dependencies chain progress t new inner off stands)))
    (λ new leaf. leaf_keeps dependencies chain progress t new leaf stands)

-- and so for a list of tables
pub visits_keep : (n : ℕ) (dependencies : List PolicyDependency) (chain ts : List (List ℕ)) (progress : Progress) → Stands dependencies chain progress → Keeps dependencies chain progress (visit_all (visit n dependencies chain) progress ts)
visits_keep n dependencies chain ts progress stands = all_keep dependencies chain (visit n dependencies chain) (λ more t further. visit_keeps n dependencies chain more t further) ts progress stands
