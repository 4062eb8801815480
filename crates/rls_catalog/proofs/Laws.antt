-- Laws of the definitions, in the words of their subject.
use Rattle.std.specs.Prelude.{◌≡◌, refl, ℕ, List, [], ◌∷◌, ◌++◌, Option, Some, None, Bool, true, false, ◌||◌, ◌&&◌, not, cond, if◌then◌else◌, filter, map}
use Rattle.std.specs.{List.list_any, Str.bytes_eq, declared.cmp.Ordering.Ordering}
use Rattle.std.specs.Ordering.{is_gt, ordering_reverse}
use Rattle.std.specs.declared.cmp.Ordering.TheVariants.{Less, Equal, Greater}
use Rattle.std.proofs.{lemmas.Cmp.nat_list_cmp_total, lemmas.List.Folds.list_any-append}
use Rattle.std.proofs.Common.{ap, sym, ◌∙◌, subst}
use Rattle.std.proofs.lemmas.Bool.{true≢false, or_left, or_right}
use Rattle.rls_expr.specs.rls_value.specs.{Names.one_of, declared.truth.Truth.Truth, Truths.is_true, Values.same_flag}
use Rattle.rls_expr.specs.declared.policy.Policy.{Policy}
use Rattle.rls_catalog.specs.{declared.verdict.Verdict.Verdict, State.State, State.name_order, Membership.Inherits, Membership.Itself, Membership.Through, Membership.attributes_of, Membership.inherited_by, Membership.reached_of, Membership.has_privileges_of, Verdict.is_such, Verdict.names_where, Verdict.lesser, Verdict.least, Verdict.verdict_by, Verdict.verdict_of}
use Rattle.rls_catalog.proofs.{Walks.bytes_same, Walks.bytes_own, Inheriting.or_either, Inheriting.met_is_inherited, Inheriting.inherited_is_met}

-- ---- whose privileges a role has

-- what is inherited by way of an inherited role is inherited
pub inherits_transitive : (s : State) (role between granted : List ℕ) → Inherits s role between → Inherits s between granted → Inherits s role granted
inherits_transitive s role between other first Itself = first
inherits_transitive s role between other first (Through last granted more is) = Through last granted (inherits_transitive s role between last first more) is

-- a fact of the role that each membership with INHERIT hands on is one of all that it inherits: nothing comes otherwise
pub inherits_only : (s : State) (role : List ℕ) (fact : List ℕ → Type 0)
    → fact role → ((member granted : List ℕ) → fact member → one_of (inherited_by s member) granted ≡ true → fact granted)
    → (other : List ℕ) → Inherits s role other → fact other
inherits_only s role fact own hands_on other Itself = own
inherits_only s role fact own hands_on other (Through between granted inherits is) = hands_on between granted (inherits_only s role fact own hands_on between inherits) is

walked_if : (superuser : Bool) (s : State) (role other : List ℕ) → (superuser || one_of (if superuser then [] else reached_of s role) other) ≡ (superuser || one_of (reached_of s role) other)
walked_if true s role other = refl
walked_if false s role other = refl

-- to have the privileges of a role is to be a superuser or to inherit them
pub has_is : (s : State) (role other : List ℕ) → has_privileges_of s role other ≡ ((attributes_of s role).superuser || one_of (reached_of s role) other)
has_is s role other = walked_if (attributes_of s role).superuser s role other

-- a role has its own privileges, also where it is absent
pub has_own : (s : State) (role : List ℕ) → has_privileges_of s role role ≡ true
has_own s role = has_is s role role ∙ or_right (attributes_of s role).superuser (one_of (reached_of s role) role) (inherited_is_met s role role Itself)

-- a superuser has those of every role
pub superuser_has : (s : State) (role other : List ℕ) → (attributes_of s role).superuser ≡ true → has_privileges_of s role other ≡ true
superuser_has s role other is = has_is s role other ∙ or_left (attributes_of s role).superuser (one_of (reached_of s role) other) is

-- what is inherited is had
pub inherited_is_had : (s : State) (role other : List ℕ) → Inherits s role other → has_privileges_of s role other ≡ true
inherited_is_had s role other inherits = has_is s role other ∙ or_right (attributes_of s role).superuser (one_of (reached_of s role) other) (inherited_is_met s role other inherits)

-- a role that is no superuser has only what it inherits
pub had_is_inherited : (s : State) (role other : List ℕ) → (attributes_of s role).superuser ≡ false → has_privileges_of s role other ≡ true → Inherits s role other
had_is_inherited s role other ordinary has =
    or_either (attributes_of s role).superuser (one_of (reached_of s role) other) (sym (has_is s role other) ∙ has)
    (λ superuser. absurd (true≢false (sym superuser ∙ ordinary))) (met_is_inherited s role other)

excluded : (b : Bool) → (b ≡ true → ⊥) → b ≡ false
excluded true never = absurd (never refl)
excluded false never = refl

-- where some set of roles has the role and not the other, and no membership with INHERIT leads out of it (each path
-- from the one to the other has a membership without), the role, if it is no superuser, doesn't have the other's privileges
pub cut_off : (s : State) (role other : List ℕ) (inside : List ℕ → Type 0) → (attributes_of s role).superuser ≡ false
    → inside role → ((member granted : List ℕ) → inside member → one_of (inherited_by s member) granted ≡ true → inside granted)
    → (inside other → ⊥) → has_privileges_of s role other ≡ false
cut_off s role other inside ordinary own hands_on outside =
    excluded (has_privileges_of s role other) (λ has. outside (inherits_only s role inside own hands_on other (had_is_inherited s role other ordinary has)))

-- ---- what policies say of a row

-- access is given: row security doesn't apply, or a policy gives it
abbrev pub is_allowed : Verdict → Bool
is_allowed Verdict.Exempt = true
is_allowed (Verdict.By policy) = true
is_allowed Verdict.NoPermissive = false
is_allowed (Verdict.Restrictive policy) = false

-- the policy is permissive, and true of the row
abbrev pub permits : Policy × Truth → Bool
permits judgement = is_such true true judgement

-- the policy is restrictive, and not true of the row
abbrev pub forbids : Policy × Truth → Bool
forbids judgement = is_such false false judgement

abbrev some_first : List (List ℕ) → Option (List ℕ)
some_first names = least None names

abbrev is_some_name : Option (List ℕ) → Bool
is_some_name (Some name) = true
is_some_name None = false

abbrev is_any : List (List ℕ) → Bool
is_any [] = false
is_any (name ∷ names) = true

least_some : (best : List ℕ) (names : List (List ℕ)) → is_some_name (least (Some best) names) ≡ true
least_some best [] = refl
least_some best (name ∷ names) = least_some (lesser (Some best) name) names

least_any : (names : List (List ℕ)) → is_some_name (least None names) ≡ is_any names
least_any [] = refl
least_any (name ∷ names) = least_some name names

kept_any : (b : Bool) (judgement : Policy × Truth) (judgements : List (Policy × Truth)) (rest : Bool)
    → is_any (map (λ j. j.0.name) judgements) ≡ rest
    → is_any (map (λ j. j.0.name) (cond b (judgement ∷ judgements) judgements)) ≡ (b || rest)
kept_any true judgement judgements rest same = refl
kept_any false judgement judgements rest same = same

names_any : (permissive passes : Bool) (judgements : List (Policy × Truth)) → is_any (names_where permissive passes judgements) ≡ list_any (is_such permissive passes) judgements
names_any permissive passes [] = refl
names_any permissive passes (judgement ∷ judgements) =
    kept_any (is_such permissive passes judgement) judgement (filter (is_such permissive passes) judgements) (list_any (is_such permissive passes) judgements) (names_any permissive passes judgements)

allowed_by : (passing failing : Option (List ℕ)) → is_allowed (verdict_by passing failing) ≡ (is_some_name passing && not (is_some_name failing))
allowed_by None failing = refl
allowed_by (Some name) (Some other) = refl
allowed_by (Some name) None = refl

-- policies allow a row exactly where some permissive one is true of it and no restrictive one isn't
pub allowed_is : (judgements : List (Policy × Truth)) → is_allowed (verdict_of judgements) ≡ (list_any permits judgements && not (list_any forbids judgements))
allowed_is judgements =
    allowed_by (least None (names_where true true judgements)) (least None (names_where false false judgements))
    ∙ (λ i. (least_any (names_where true true judgements) ∙ names_any true true judgements) i && not ((least_any (names_where false false judgements) ∙ names_any false false judgements) i))

false_left : (a b : Bool) → (a || b) ≡ false → a ≡ false
false_left true b is = is
false_left false b is = refl

false_right : (a b : Bool) → (a || b) ≡ false → b ≡ false
false_right true b is = absurd (true≢false is)
false_right false b is = is

both : (a b : Bool) → (a && not b) ≡ true → (a ≡ true) × (b ≡ false)
both true true is = absurd (true≢false (sym is))
both true false is = (refl, refl)
both false b is = absurd (true≢false (sym is))

together : (a b : Bool) → a ≡ true → b ≡ false → (a && not b) ≡ true
together true true first second = sym second
together true false first second = refl
together false b first second = first

-- where access is given, some permissive policy is true of the row, and no restrictive one isn't
pub allowed_parts : (judgements : List (Policy × Truth)) → is_allowed (verdict_of judgements) ≡ true → (list_any permits judgements ≡ true) × (list_any forbids judgements ≡ false)
allowed_parts judgements is = both (list_any permits judgements) (list_any forbids judgements) (sym (allowed_is judgements) ∙ is)

-- and the other way round
pub allowed_from : (judgements : List (Policy × Truth)) → list_any permits judgements ≡ true → list_any forbids judgements ≡ false → is_allowed (verdict_of judgements) ≡ true
allowed_from judgements some_permits none_forbids = allowed_is judgements ∙ together (list_any permits judgements) (list_any forbids judgements) some_permits none_forbids

-- with one policy fewer there is no new one that forbids
fewer_forbid : (before after : List (Policy × Truth)) (judgement : Policy × Truth) → list_any forbids (before ++ judgement ∷ after) ≡ false → list_any forbids (before ++ after) ≡ false
fewer_forbid before after judgement none =
    let apart : (list_any forbids before || (forbids judgement || list_any forbids after)) ≡ false = sym (list_any-append forbids before (judgement ∷ after)) ∙ none in
    list_any-append forbids before after
    ∙ (λ i. false_left (list_any forbids before) (forbids judgement || list_any forbids after) apart i || false_right (forbids judgement) (list_any forbids after) (false_right (list_any forbids before) (forbids judgement || list_any forbids after) apart) i)

same_without : (p : Policy × Truth → Bool) (before after : List (Policy × Truth)) (judgement : Policy × Truth) → p judgement ≡ false → list_any p (before ++ judgement ∷ after) ≡ list_any p (before ++ after)
same_without p before after judgement not_it =
    list_any-append p before (judgement ∷ after) ∙ (λ i. list_any p before || (not_it i || list_any p after)) ∙ sym (list_any-append p before after)

restrictive_permits : (flag truth : Bool) → flag ≡ false → (same_flag flag true && truth) ≡ false
restrictive_permits true truth is = absurd (true≢false is)
restrictive_permits false truth is = refl

permissive_forbids : (flag truth : Bool) → flag ≡ true → (same_flag flag false && truth) ≡ false
permissive_forbids true truth is = refl
permissive_forbids false truth is = absurd (true≢false (sym is))

-- one more restrictive policy, wherever it stands, allows no row that wasn't allowed without it
pub restrictive_restricts : (before after : List (Policy × Truth)) (policy : Policy) (truth : Truth) → policy.permissive ≡ false
    → is_allowed (verdict_of (before ++ (policy, truth) ∷ after)) ≡ true → is_allowed (verdict_of (before ++ after)) ≡ true
restrictive_restricts before after policy truth restrictive allowed =
    let parts = allowed_parts (before ++ (policy, truth) ∷ after) allowed in
    allowed_from (before ++ after)
    (sym (same_without permits before after (policy, truth) (restrictive_permits policy.permissive (same_flag (is_true truth) true) restrictive)) ∙ parts.0)
    (fewer_forbid before after (policy, truth) parts.1)

more_permit : (before after : List (Policy × Truth)) (judgement : Policy × Truth) → list_any permits (before ++ after) ≡ true → list_any permits (before ++ judgement ∷ after) ≡ true
more_permit before after judgement some_permits =
    list_any-append permits before (judgement ∷ after)
    ∙ or_either (list_any permits before) (list_any permits after) (sym (list_any-append permits before after) ∙ some_permits)
    (λ first. or_left (list_any permits before) (permits judgement || list_any permits after) first)
    (λ last. or_right (list_any permits before) (permits judgement || list_any permits after) (or_right (permits judgement) (list_any permits after) last))

-- one more permissive policy, wherever it stands, takes away no row that was allowed without it
pub permissive_permits : (before after : List (Policy × Truth)) (policy : Policy) (truth : Truth) → policy.permissive ≡ true
    → is_allowed (verdict_of (before ++ after)) ≡ true → is_allowed (verdict_of (before ++ (policy, truth) ∷ after)) ≡ true
permissive_permits before after policy truth permissive allowed =
    let parts = allowed_parts (before ++ after) allowed in
    allowed_from (before ++ (policy, truth) ∷ after)
    (more_permit before after (policy, truth) parts.0)
    (same_without forbids before after (policy, truth) (permissive_forbids policy.permissive (same_flag (is_true truth) false) permissive) ∙ parts.1)

-- restrictive policies alone allow nothing
pub restrictive_alone : (judgements : List (Policy × Truth)) → list_any permits judgements ≡ false → is_allowed (verdict_of judgements) ≡ false
restrictive_alone judgements none = allowed_is judgements ∙ (λ i. none i && not (list_any forbids judgements))

abbrev is_exempted : Verdict → Bool
is_exempted Verdict.Exempt = true
is_exempted _ = false

abbrev is_by : Verdict → Bool
is_by (Verdict.By policy) = true
is_by _ = false

abbrev is_restrictive : Verdict → Bool
is_restrictive (Verdict.Restrictive policy) = true
is_restrictive _ = false

abbrev named_by : Verdict → List ℕ
named_by (Verdict.By policy) = policy
named_by (Verdict.Restrictive policy) = policy
named_by _ = []

exempt_no : (passing failing : Option (List ℕ)) → is_exempted (verdict_by passing failing) ≡ false
exempt_no None failing = refl
exempt_no (Some name) (Some other) = refl
exempt_no (Some name) None = refl

-- policies exempt nobody
pub policies_exempt_nobody : (judgements : List (Policy × Truth)) → is_exempted (verdict_of judgements) ≡ false
policies_exempt_nobody judgements = exempt_no (least None (names_where true true judgements)) (least None (names_where false false judgements))

-- ---- the policy that a verdict names

-- the name doesn't come after the other, by bytes
abbrev pub NotAfter : List ℕ → List ℕ → Type 0
NotAfter name other = is_gt (name_order name other) ≡ false

after_if : (a b c : List ℕ) (first second : Ordering) → name_order a b ≡ first → name_order b c ≡ second → is_gt first ≡ false → is_gt second ≡ false → is_gt (name_order a c) ≡ false
after_if a b c Equal second same next is also = ap is_gt (nat_list_cmp_total.congr a b c same ∙ next) ∙ also
after_if a b c Less Less below next is also = ap is_gt (nat_list_cmp_total.trans a b c below next)
after_if a b c Less Equal below next is also =
    ap is_gt (nat_list_cmp_total.antisymm a c ∙ ap ordering_reverse (sym (nat_list_cmp_total.congr b c a next)) ∙ sym (nat_list_cmp_total.antisymm a b) ∙ below)
after_if a b c Less Greater below next is also = absurd (true≢false also)
after_if a b c Greater second above next is also = absurd (true≢false is)

not_after_trans : (a b c : List ℕ) → NotAfter a b → NotAfter b c → NotAfter a c
not_after_trans a b c = after_if a b c (name_order a b) (name_order b c) refl refl

reverse_of : (o : Ordering) → is_gt o ≡ true → is_gt (ordering_reverse o) ≡ false
reverse_of Less is = absurd (true≢false (sym is))
reverse_of Equal is = refl
reverse_of Greater is = refl

turned : (a b : List ℕ) → is_gt (name_order a b) ≡ true → NotAfter b a
turned a b after = ap is_gt (nat_list_cmp_total.antisymm b a) ∙ reverse_of (name_order a b) after

own_if : (o : Ordering) → o ≡ ordering_reverse o → is_gt o ≡ false
own_if Less same = refl
own_if Equal same = refl
own_if Greater same = sym (ap is_gt (sym same))

own : (a : List ℕ) → NotAfter a a
own a = own_if (name_order a a) (nat_list_cmp_total.antisymm a a)

-- the least of them
abbrev least_from : List ℕ → List (List ℕ) → List ℕ
least_from best [] = best
least_from best (name ∷ names) = least_from (lesser (Some best) name) names

least_is : (best : List ℕ) (names : List (List ℕ)) → least (Some best) names ≡ Some (least_from best names)
least_is best [] = refl
least_is best (name ∷ names) = least_is (lesser (Some best) name) names

lesser_best : (b : Bool) (best name : List ℕ) → is_gt (name_order best name) ≡ b → NotAfter (if b then name else best) best
lesser_best true best name after = turned best name after
lesser_best false best name after = own best

lesser_name : (b : Bool) (best name : List ℕ) → is_gt (name_order best name) ≡ b → NotAfter (if b then name else best) name
lesser_name true best name after = own name
lesser_name false best name after = after

least_best : (best : List ℕ) (names : List (List ℕ)) → NotAfter (least_from best names) best
least_best best [] = own best
least_best best (name ∷ names) =
    not_after_trans (least_from (lesser (Some best) name) names) (lesser (Some best) name) best (least_best (lesser (Some best) name) names) (lesser_best (is_gt (name_order best name)) best name refl)

least_all : (best : List ℕ) (names : List (List ℕ)) (other : List ℕ) → one_of names other ≡ true → NotAfter (least_from best names) other
least_all best [] other among = absurd (true≢false (sym among))
least_all best (name ∷ names) other among = or_either (bytes_eq name other) (one_of names other) among
    (λ same. subst (NotAfter (least_from (lesser (Some best) name) names)) (bytes_same name other same)
    (not_after_trans (least_from (lesser (Some best) name) names) (lesser (Some best) name) name (least_best (lesser (Some best) name) names) (lesser_name (is_gt (name_order best name)) best name refl)))
    (λ there. least_all (lesser (Some best) name) names other there)

lesser_there : (b : Bool) (best name : List ℕ) (names : List (List ℕ)) (other : List ℕ) → one_of ((if b then name else best) ∷ names) other ≡ true → one_of (best ∷ name ∷ names) other ≡ true
lesser_there true best name names other among = or_right (bytes_eq best other) (one_of (name ∷ names) other) among
lesser_there false best name names other among = or_either (bytes_eq best other) (one_of names other) among
    (λ here. or_left (bytes_eq best other) (one_of (name ∷ names) other) here)
    (λ there. or_right (bytes_eq best other) (one_of (name ∷ names) other) (or_right (bytes_eq name other) (one_of names other) there))

least_there : (best : List ℕ) (names : List (List ℕ)) → one_of (best ∷ names) (least_from best names) ≡ true
least_there best [] = or_left (bytes_eq best best) false (bytes_own best)
least_there best (name ∷ names) =
    lesser_there (is_gt (name_order best name)) best name names (least_from (lesser (Some best) name) names) (least_there (lesser (Some best) name) names)

-- the least of the names: it is one of them, and comes after none
abbrev pub IsLeast : List (List ℕ) → List ℕ → Type 0
IsLeast names name = (one_of names name ≡ true) × ((other : List ℕ) → one_of names other ≡ true → NotAfter name other)

abbrev name_in : Option (List ℕ) → List ℕ
name_in (Some name) = name
name_in None = []

is_least : (names : List (List ℕ)) (name : List ℕ) → least None names ≡ Some name → IsLeast names name
is_least [] name found = absurd (true≢false (sym (ap is_some_name found)))
is_least (first ∷ names) name found =
    let same : least_from first names ≡ name = ap name_in (sym (least_is first names) ∙ found) in (
      subst (λ n. one_of (first ∷ names) n ≡ true) same (least_there first names),
      (λ other among. subst (λ n. NotAfter n other) same (or_either (bytes_eq first other) (one_of names other) among
          (λ here. subst (NotAfter (least_from first names)) (bytes_same first other here) (least_best first names))
          (λ there. least_all first names other there))),
    )

by_if : (passing failing : Option (List ℕ)) (name : List ℕ) → verdict_by passing failing ≡ Verdict.By name → passing ≡ Some name
by_if None failing name is = absurd (true≢false (sym (ap is_by is)))
by_if (Some passing) (Some failing) name is = absurd (true≢false (sym (ap is_by is)))
by_if (Some passing) None name is = ap (λ verdict. Some (named_by verdict)) is

restrictive_if : (passing failing : Option (List ℕ)) (name : List ℕ) → verdict_by passing failing ≡ Verdict.Restrictive name → failing ≡ Some name
restrictive_if None failing name is = absurd (true≢false (sym (ap is_restrictive is)))
restrictive_if (Some passing) (Some failing) name is = ap (λ verdict. Some (named_by verdict)) is
restrictive_if (Some passing) None name is = absurd (true≢false (sym (ap is_restrictive is)))

-- the policy that is named as giving access is the least, by bytes, of the permissive ones that are true
pub by_is_least : (judgements : List (Policy × Truth)) (name : List ℕ) → verdict_of judgements ≡ Verdict.By name → IsLeast (names_where true true judgements) name
by_is_least judgements name is =
    is_least (names_where true true judgements) name (by_if (least None (names_where true true judgements)) (least None (names_where false false judgements)) name is)

-- and the one that is named as denying it the least of the restrictive ones that aren't true
pub restrictive_is_least : (judgements : List (Policy × Truth)) (name : List ℕ) → verdict_of judgements ≡ Verdict.Restrictive name → IsLeast (names_where false false judgements) name
restrictive_is_least judgements name is =
    is_least (names_where false false judgements) name (restrictive_if (least None (names_where true true judgements)) (least None (names_where false false judgements)) name is)
