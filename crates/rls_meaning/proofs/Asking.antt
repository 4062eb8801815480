-- The tables that a command's policies lead to: the same, each at its first place, however often a policy is asked for an
-- expression.
use Rattle.std.specs.Prelude.{◌≡◌, refl, ℕ, List, [], ◌∷◌, ◌++◌, Bool, true, false, ◌&&◌, ◌||◌, Option, Some, None, filter, is_some, if◌then◌else◌}
use Rattle.std.specs.List.{list_any, flat_map}
use Rattle.std.specs.Option.{option_to_list}
use Rattle.std.proofs.Common.{ap, sym, ◌∙◌, subst, append-nil}
use Rattle.std.proofs.lemmas.Bool.{true≢false}
use Rattle.std.proofs.lemmas.List.Concat.{flat_map-append}
use Rattle.rls_value.specs.{declared.verb.Kind.Kind, declared.verb.PolicyKind.PolicyKind, Names.one_of}
use Rattle.rls_value.specs.declared.verb.Kind.TheVariants as k
use Rattle.rls_value.specs.declared.verb.PolicyKind.TheVariants as pk
use Rattle.rls_expr.specs.{declared.policy.Policy.Policy, Terms.Term}
use Rattle.rls_catalog.specs.{Membership.fresh, Membership.Within, State.State, State.policies_of, Verdict.check_or_using, Verdict.expression_of, Verdict.is_exempt, Verdict.is_for_kind, Verdict.is_to}
use Rattle.rls_catalog.specs.declared.verdict.Side.TheVariants as side
use Rattle.rls_catalog.proofs.Inheriting.{fresh_within}
use Rattle.rls_recursion.specs.Searching.{or_next, first_closed}
use Rattle.rls_expansion.specs.{Expanding.asks_of, Used.is_for_check, Used.is_for_using, Used.tables_asked, Used.tables_if, Used.tables_where, Used.using_stands_in}
use Rattle.rls_meaning.proofs.Walking.{fresh_all}
use Rattle.rls_meaning.specs.{Commands.Command, Commands.own_of, Commands.reads, Commands.tables_for, Parts.tables_of}
use Rattle.rls_meaning.proofs.{Listing.fresh_append, Listing.fresh_none, Listing.last_cases, Parts.tables_if_told}

-- both name the same tables, in the order of their first places
abbrev pub Alike : List (List ℕ) → List (List ℕ) → Type 0
Alike one other = (seen : List (List ℕ)) → fresh seen one ≡ fresh seen other

pub alike_append : (a b c d : List (List ℕ)) → Alike a b → Alike c d → Alike (a ++ c) (b ++ d)
alike_append a b c d one two seen = fresh_append seen a c ∙ (λ i. one seen i ++ two (seen ++ one seen i) i) ∙ sym (fresh_append seen b d)

-- tables that are named alike are among each other
pub alike_within : (one other : List (List ℕ)) → Alike one other → Within one other
alike_within one other alike t is = fresh_within [] other t (ap (λ all. one_of all t) (sym (alike [])) ∙ fresh_all [] one t is)

-- what is seen adds nothing
fresh_seen : (seen xs ys : List (List ℕ)) → Within xs seen → fresh seen (xs ++ ys) ≡ fresh seen ys
fresh_seen seen xs ys within =
    fresh_append seen xs ys
    ∙ (λ i. fresh_none seen xs within i ++ fresh (seen ++ fresh_none seen xs within i) ys)
    ∙ ap (λ all. fresh all ys) (append-nil seen)

twice : (xs ys : List (List ℕ)) → Alike (xs ++ (xs ++ ys)) (xs ++ ys)
twice xs ys seen =
    fresh_append seen xs (xs ++ ys)
    ∙ ap (λ rest. fresh seen xs ++ rest) (fresh_seen (seen ++ fresh seen xs) xs ys (fresh_all seen xs))
    ∙ sym (fresh_append seen xs ys)

twice_alone : (xs : List (List ℕ)) → Alike (xs ++ xs) xs
twice_alone xs seen = ap (λ all. fresh seen (xs ++ all)) (sym (append-nil xs)) ∙ twice xs [] seen ∙ ap (fresh seen) (append-nil xs)

-- with nothing behind them
twice_nil : (xs : List (List ℕ)) → Alike (xs ++ xs) (xs ++ [])
twice_nil xs seen = twice_alone xs seen ∙ ap (fresh seen) (sym (append-nil xs))

-- ---- what a policy is asked for

-- the tables of the one expression, then those of the other
both_tables : (one other : Option Term) → flat_map tables_of (option_to_list one ++ option_to_list other) ≡ tables_if one ++ tables_if other
both_tables one other = flat_map-append tables_of (option_to_list one) (option_to_list other) ∙ (λ i. sym (tables_if_told one) i ++ sym (tables_if_told other) i)

-- the tables in what a policy says by a type of command, as they are found
abbrev used_for : Kind → Policy → List (List ℕ)
used_for kind policy = if is_for_kind policy.kind kind then tables_if (expression_of policy kind side.Old) ++ tables_if (expression_of policy kind side.New) else []

for_told : (kind : Kind) (policy : Policy) → tables_for kind policy ≡ used_for kind policy
for_told kind policy = λ i. if is_for_kind policy.kind kind then both_tables (expression_of policy kind side.Old) (expression_of policy kind side.New) i else []

-- the tables of USING, then those of WITH CHECK, each where it is asked for
abbrev both : Bool → Bool → Option Term → Option Term → List (List ℕ)
both by_using by_check using check = tables_where by_using using ++ tables_where by_check check

using_first : (a b c : Bool) (using check : Option Term) → Alike (tables_where a using ++ both b c using check) (both (a || b) c using check)
using_first false b c using check seen = refl
using_first true true c using check seen = twice (tables_if using) (tables_where c check) seen
using_first true false c using check seen = refl

for_select : (a : Bool) (using : Option Term) → Alike (if a then tables_if using ++ tables_if using else []) (tables_where a using)
for_select true using seen = twice_alone (tables_if using) seen
for_select false using seen = refl

for_using : (a : Bool) (using check : Option Term) → Alike (if a then tables_if using ++ tables_if using else []) (both ((a && true) || false) ((a && false) || false) using check)
for_using true using check seen = twice_nil (tables_if using) seen
for_using false using check seen = refl

for_check : (a : Bool) (using : Option Term) (check : Term) → Alike (if a then tables_if (Some check) ++ tables_if (Some check) else []) (both ((a && false) || false) ((a && true) || false) using (Some check))
for_check true using check seen = twice_alone (tables_if (Some check)) seen
for_check false using check seen = refl

for_both : (a : Bool) (using : Option Term) (check : Term) → Alike (if a then tables_if using ++ tables_if (Some check) else []) (both ((a && true) || ((a && false) || false)) ((a && false) || ((a && true) || false)) using (Some check))
for_both true using check seen = refl
for_both false using check seen = refl

for_insert : (kind : PolicyKind) (using check : Option Term) → Alike (if is_for_kind kind k.Insert then tables_if (check_or_using kind check using) ++ tables_if (check_or_using kind check using) else [])
    (both ((is_for_kind kind k.Insert && using_stands_in kind check) || false) ((is_for_kind kind k.Insert && is_some check) || false) using check)
for_insert kind using (Some check) = for_check (is_for_kind kind k.Insert) using check
for_insert pk.All using None = for_using true using None
for_insert (pk.Only k.Select) using None = λ seen. refl
for_insert (pk.Only k.Insert) using None = λ seen. refl
for_insert (pk.Only k.Update) using None = λ seen. refl
for_insert (pk.Only k.Delete) using None = λ seen. refl

for_update : (kind : PolicyKind) (using check : Option Term) → Alike (if is_for_kind kind k.Update then tables_if using ++ tables_if (check_or_using kind check using) else [])
    (both ((is_for_kind kind k.Update && true) || ((is_for_kind kind k.Update && using_stands_in kind check) || false)) ((is_for_kind kind k.Update && false) || ((is_for_kind kind k.Update && is_some check) || false)) using check)
for_update kind using (Some check) = for_both (is_for_kind kind k.Update) using check
for_update pk.All using None = for_using true using None
for_update (pk.Only k.Select) using None = λ seen. refl
for_update (pk.Only k.Insert) using None = λ seen. refl
for_update (pk.Only k.Update) using None = for_using true using None
for_update (pk.Only k.Delete) using None = λ seen. refl

-- what one is asked for where the command doesn't read
for_command : (kind : Kind) (policy : Policy) → Alike (used_for kind policy) (tables_asked (asks_of kind false) policy)
for_command k.Select policy = for_using (is_for_kind policy.kind k.Select) policy.using policy.check
for_command k.Insert policy = for_insert policy.kind policy.using policy.check
for_command k.Update policy = for_update policy.kind policy.using policy.check
for_command k.Delete policy = for_using (is_for_kind policy.kind k.Delete) policy.using policy.check

-- ---- and where it reads

pub also_once : (a p : Bool) → (a || (p || false)) ≡ (p || ((a && true) || false))
also_once true true = refl
also_once true false = refl
also_once false true = refl
also_once false false = refl

pub also_twice : (a p r : Bool) → (a || (p || (r || false))) ≡ (p || ((a && true) || (r || ((a && true) || false))))
also_twice true true r = refl
also_twice false true r = refl
also_twice true false r = refl
also_twice false false true = refl
also_twice false false false = refl

pub never_once : (a p : Bool) → (p || false) ≡ (p || ((a && false) || false))
never_once a true = refl
never_once true false = refl
never_once false false = refl

pub never_twice : (a p r : Bool) → (p || (r || false)) ≡ (p || ((a && false) || (r || ((a && false) || false))))
never_twice a true r = refl
never_twice true false r = refl
never_twice false false true = refl
never_twice false false false = refl

asked_reading : (kind : Kind) (policy : Policy)
    → both (is_for_kind policy.kind k.Select || list_any (is_for_using policy) (asks_of kind false)) (list_any (is_for_check policy) (asks_of kind false)) policy.using policy.check ≡ tables_asked (asks_of kind true) policy
asked_reading k.Select policy =
    let a : Bool = is_for_kind policy.kind k.Select in
    λ i. both (also_once a (a && true) i) (never_once a (a && false) i) policy.using policy.check
asked_reading k.Insert policy =
    let a : Bool = is_for_kind policy.kind k.Select in
    let b : Bool = is_for_kind policy.kind k.Insert in
    λ i. both (also_once a (b && using_stands_in policy.kind policy.check) i) (never_once a (b && is_some policy.check) i) policy.using policy.check
asked_reading k.Update policy =
    let a : Bool = is_for_kind policy.kind k.Select in
    let b : Bool = is_for_kind policy.kind k.Update in
    λ i. both (also_twice a (b && true) (b && using_stands_in policy.kind policy.check) i) (never_twice a (b && false) (b && is_some policy.check) i) policy.using policy.check
asked_reading k.Delete policy =
    let a : Bool = is_for_kind policy.kind k.Select in
    let b : Bool = is_for_kind policy.kind k.Delete in
    λ i. both (also_once a (b && true) i) (never_once a (b && false) i) policy.using policy.check

used_policy : (reads : Bool) (kind : Kind) (policy : Policy) → Alike ((if reads then used_for k.Select policy else []) ++ used_for kind policy) (tables_asked (asks_of kind reads) policy)
used_policy false kind policy seen = for_command kind policy seen
used_policy true kind policy seen =
    alike_append (used_for k.Select policy) (tables_where (is_for_kind policy.kind k.Select) policy.using) (used_for kind policy) (tables_asked (asks_of kind false) policy)
    (for_select (is_for_kind policy.kind k.Select) policy.using) (for_command kind policy) seen
    ∙ using_first (is_for_kind policy.kind k.Select) (list_any (is_for_using policy) (asks_of kind false)) (list_any (is_for_check policy) (asks_of kind false)) policy.using policy.check seen
    ∙ ap (fresh seen) (asked_reading kind policy)

for_policy : (reads : Bool) (kind : Kind) (policy : Policy) → Alike ((if reads then tables_for k.Select policy else []) ++ tables_for kind policy) (tables_asked (asks_of kind reads) policy)
for_policy reads kind policy seen = (λ i. fresh seen ((if reads then for_told k.Select policy i else []) ++ for_told kind policy i)) ∙ used_policy reads kind policy seen

-- ---- all of them

flat_alike : (one other : Policy → List (List ℕ)) → ((policy : Policy) → Alike (one policy) (other policy)) → (policies : List Policy) → Alike (flat_map one policies) (flat_map other policies)
flat_alike one other same [] seen = refl
flat_alike one other same (policy ∷ policies) seen = alike_append (one policy) (other policy) (flat_map one policies) (flat_map other policies) (same policy) (flat_alike one other same policies) seen

-- the tables that the command's policies are asked for
abbrev pub asked_in : State → Command → List (List ℕ)
asked_in s c = if is_exempt s c.role c.table then [] else flat_map (tables_asked (asks_of c.kind (reads c))) (filter (is_to s c.role) (policies_of s c.name))

own_if : (exempt : Bool) (c : Command) (policies : List Policy) → Alike (if exempt then [] else flat_map (λ policy. (if reads c then tables_for k.Select policy else []) ++ tables_for c.kind policy) policies) (if exempt then [] else flat_map (tables_asked (asks_of c.kind (reads c))) policies)
own_if true c policies = λ seen. refl
own_if false c policies = flat_alike (λ policy. (if reads c then tables_for k.Select policy else []) ++ tables_for c.kind policy) (tables_asked (asks_of c.kind (reads c))) (for_policy (reads c) c.kind) policies

pub own_alike : (s : State) (c : Command) → Alike (own_of s c) (asked_in s c)
own_alike s c = own_if (is_exempt s c.role c.table) c (filter (is_to s c.role) (policies_of s c.name))

-- ---- what comes of tables that are named alike

-- the first that closes
first_if : (b : Bool) (closes : List ℕ → Option (List ℕ)) (found : Option (List ℕ)) (t : List ℕ) (rest some other : List (List ℕ)) → closes t ≡ found → (b ≡ true → closes t ≡ None) → (b ≡ true → first_closed closes rest ≡ first_closed closes some)
    → (b ≡ false → found ≡ None → first_closed closes rest ≡ first_closed closes other) → first_closed closes (t ∷ rest) ≡ first_closed closes (if b then some else (t ∷ other))
first_if true closes found t rest some other is never seen new = ap (λ found. or_next found (first_closed closes rest)) (never refl) ∙ seen refl
first_if false closes (Some u) t rest some other is never seen new = ap (λ found. or_next found (first_closed closes rest)) is ∙ sym (ap (λ found. or_next found (first_closed closes other)) is)
first_if false closes None t rest some other is never seen new = ap (or_next (closes t)) (new refl refl)

first_fresh : (closes : List ℕ → Option (List ℕ)) (seen ts : List (List ℕ)) → ((t : List ℕ) → one_of seen t ≡ true → closes t ≡ None) → first_closed closes ts ≡ first_closed closes (fresh seen ts)
first_fresh closes seen [] never = refl
first_fresh closes seen (t ∷ ts) never =
    first_if (one_of seen t) closes (closes t) t ts (fresh seen ts) (fresh (seen ++ t ∷ []) ts) refl (never t) (λ was. first_fresh closes seen ts never)
    (λ new none. first_fresh closes (seen ++ t ∷ []) ts (λ u is. last_cases seen t u is (never u) (λ same. subst (λ u. closes u ≡ None) same none)))

pub first_alike : (closes : List ℕ → Option (List ℕ)) (one other : List (List ℕ)) → Alike one other → first_closed closes one ≡ first_closed closes other
first_alike closes one other alike =
    first_fresh closes [] one (λ t is. absurd (true≢false (sym is))) ∙ ap (first_closed closes) (alike []) ∙ sym (first_fresh closes [] other (λ t is. absurd (true≢false (sym is))))
