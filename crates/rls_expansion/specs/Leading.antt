-- The tables that the policies of a table lead to are among those that policies of the state name.
use Rattle.std.specs.Prelude.{◌≡◌, refl, ℕ, List, [], ◌∷◌, ◌++◌, Option, Some, Bool, true, false, ◌||◌, cond, if◌then◌else◌}
use Rattle.std.specs.List.{list_any, flat_map}
use Rattle.std.specs.BTreeMap.{is_at}
use Rattle.std.proofs.Common.{sym, ◌∙◌}
use Rattle.std.proofs.lemmas.Bool.{true≢false, or_left, or_right}
use Rattle.rls_value.specs.Names.{one_of}
use Rattle.rls_guard.specs.rls_catalog.specs.rls_expr.specs.{declared.policy.Policy.Policy, Terms.Term}
use Rattle.rls_recursion.specs.rls_catalog.specs.State.{State, at, name_order, or_none, policies_of}
use Rattle.rls_recursion.specs.rls_catalog.specs.{Privileges.includes, Membership.Within}
use Rattle.rls_recursion.specs.rls_catalog.proofs.Walks.{one_of-append, among_first}
use Rattle.rls_expansion.specs.Used.{Ask, is_for_using, is_for_check, tables_if, tables_where, tables_asked, tables_by, tables_used}

-- the tables in both expressions of a policy
abbrev pub tables_in : Policy → List (List ℕ)
tables_in policy = tables_if policy.using ++ tables_if policy.check

-- the tables that the policies name
abbrev pub tables_named : List Policy → List (List ℕ)
tables_named policies = flat_map tables_in policies

-- every table that some policy of the state names
abbrev pub named : State → List (List ℕ)
named s = flat_map (λ entry. tables_named entry.1) s.policies

or_both : (a b c d : Bool) → (a ≡ true → c ≡ true) → (b ≡ true → d ≡ true) → (a || b) ≡ true → (c || d) ≡ true
or_both true b c d one two is = or_left c d (one refl)
or_both false b c d one two is = or_right c d (two is)

within_both : (xs ys all more : List (List ℕ)) → Within xs all → Within ys more → Within (xs ++ ys) (all ++ more)
within_both xs ys all more one two name is =
    one_of-append all more name ∙ or_both (one_of xs name) (one_of ys name) (one_of all name) (one_of more name) (one name) (two name) (sym (one_of-append xs ys name) ∙ is)

pub none_within : (all : List (List ℕ)) → Within [] all
none_within all name is = absurd (true≢false (sym is))

within_if : (b : Bool) (xs all : List (List ℕ)) → Within xs all → Within (if b then xs else []) all
within_if true xs all within = within
within_if false xs all within = none_within all

where_within : (asked : Bool) (term : Option Term) → Within (tables_where asked term) (tables_if term)
where_within asked term = within_if asked (tables_if term) (tables_if term) (λ name is. is)

asked_within : (asks : List Ask) (policy : Policy) → Within (tables_asked asks policy) (tables_in policy)
asked_within asks policy =
    within_both (tables_where (list_any (is_for_using policy) asks) policy.using) (tables_where (list_any (is_for_check policy) asks) policy.check) (tables_if policy.using) (tables_if policy.check)
    (where_within (list_any (is_for_using policy) asks) policy.using) (where_within (list_any (is_for_check policy) asks) policy.check)

by_within : (superuser : Bool) (names : List (List ℕ)) (asks : List Ask) (policy : Policy) → Within (tables_by superuser names asks policy) (tables_in policy)
by_within superuser names asks policy = within_if (list_any (includes superuser names) policy.to) (tables_asked asks policy) (tables_in policy) (asked_within asks policy)

used_within : (superuser : Bool) (names : List (List ℕ)) (asks : List Ask) (policies : List Policy) → Within (tables_used superuser names asks policies) (tables_named policies)
used_within superuser names asks [] = λ name is. is
used_within superuser names asks (policy ∷ policies) =
    within_both (tables_by superuser names asks policy) (tables_used superuser names asks policies) (tables_in policy) (tables_named policies) (by_within superuser names asks policy) (used_within superuser names asks policies)

among_last : (xs ys zs : List (List ℕ)) → Within zs ys → Within zs (xs ++ ys)
among_last xs ys zs within name is = one_of-append xs ys name ∙ or_right (one_of xs name) (one_of ys name) (within name is)

chosen_within : (b : Bool) (ps : List Policy) (rest : Option (List Policy)) (names : List (List ℕ)) → Within (tables_named (or_none rest)) names → Within (tables_named (or_none (cond b (Some ps) rest))) (tables_named ps ++ names)
chosen_within true ps rest names within = among_first (tables_named ps) names
chosen_within false ps rest names within = among_last (tables_named ps) names (tables_named (or_none rest)) within

listed_within : (table : List ℕ) (entries : List (List ℕ × List Policy)) → Within (tables_named (or_none (at table entries))) (flat_map (λ entry. tables_named entry.1) entries)
listed_within table [] = λ name is. is
listed_within table (e ∷ es) = chosen_within (is_at (name_order table) e.0) e.1 (at table es) (flat_map (λ entry. tables_named entry.1) es) (listed_within table es)

-- what the policies of a table use is named in the state
pub used_named : (s : State) (table : List ℕ) (superuser : Bool) (names : List (List ℕ)) (asks : List Ask) → Within (tables_used superuser names asks (policies_of s table)) (named s)
used_named s table superuser names asks name is = listed_within table s.policies name (used_within superuser names asks (policies_of s table) name is)
