-- What a walk meets is what the role inherits: the least relation, and nothing else.
use Rattle.std.specs.Prelude.{◌≡◌, refl, ℕ, zero, suc, ◌+◌, ◌≤◌, List, [], ◌∷◌, ◌++◌, Option, Some, None, Bool, true, false, ◌||◌, if◌then◌else◌, length, take, slice_get, ◌↔◌}
use Rattle.std.specs.Str.{bytes_eq}
use Rattle.std.proofs.Common.{arith, sym, ap, ◌∙◌, subst, append_assoc}
use Rattle.std.proofs.lemmas.Bool.{true≢false, or_left, or_right}
use Rattle.std.proofs.lemmas.List.{length-append}
use Rattle.std.proofs.lemmas.Option.{slice_get_past, slice_get_within}
use Rattle.rls_expr.specs.rls_value.specs.Names.{one_of}
use Rattle.rls_catalog.specs.State.{State}
use Rattle.rls_catalog.specs.Membership.{Inherits, Itself, Through, inherited_by, fresh, walk, granted_roles, reached_of, Within}
use Rattle.rls_catalog.proofs.Walks.{one_of-append, among_first, bytes_same, bytes_own, one_of_last, left, left_all, fresh_few, granted_within, walk_step, walk_end, reads_all}

-- ---- soundness

-- each of the names is inherited
abbrev pub Inherited : State → List ℕ → List (List ℕ) → Type 0
Inherited s role names = (name : List ℕ) → one_of names name ≡ true → Inherits s role name

pub or_either : {P : Type 0} (a b : Bool) → (a || b) ≡ true → (a ≡ true → P) → (b ≡ true → P) → P
or_either true b is first second = first refl
or_either false b is first second = second is

abbrev name_in : List ℕ → Option (List ℕ) → List ℕ
name_in none (Some name) = name
name_in none None = none

some_same : (x name : List ℕ) → Some x ≡ Some name → x ≡ name
some_same x name same = ap (name_in []) same

pub among_got : (names : List (List ℕ)) (index : ℕ) (name : List ℕ) → slice_get names index ≡ Some name → one_of names name ≡ true
among_got [] index name found = absurd (omega (arith, slice_get_within [] index name found))
among_got (x ∷ xs) zero name found = or_left (bytes_eq x name) (one_of xs name) (ap (λ y. bytes_eq y name) (some_same x name found) ∙ bytes_own name)
among_got (x ∷ xs) (suc index) name found = or_right (bytes_eq x name) (one_of xs name) (among_got xs index name found)

fresh_if_within : (b : Bool) (x : List ℕ) (some more names : List (List ℕ)) → Within some names → Within more names → Within (if b then some else (x ∷ more)) (x ∷ names)
fresh_if_within true x some more names within also name is = or_right (bytes_eq x name) (one_of names name) (within name is)
fresh_if_within false x some more names within also name is = or_either (bytes_eq x name) (one_of more name) is (λ here. or_left (bytes_eq x name) (one_of names name) here) (λ there. or_right (bytes_eq x name) (one_of names name) (also name there))

pub fresh_within : (seen names : List (List ℕ)) → Within (fresh seen names) names
fresh_within seen [] = λ name is. is
fresh_within seen (x ∷ xs) = fresh_if_within (one_of seen x) x (fresh seen xs) (fresh (seen ++ x ∷ []) xs) xs (fresh_within seen xs) (fresh_within (seen ++ x ∷ []) xs)

visit_sound : (found : Option (List ℕ)) (n : ℕ) (s : State) (role : List ℕ) (names : List (List ℕ)) (next : ℕ) → slice_get names next ≡ found → Inherited s role names
    → ((grown : List (List ℕ)) → Inherited s role grown → Inherited s role (walk n s grown (suc next))) → Inherited s role (walk (suc n) s names next)
visit_sound None n s role names next past inherited further = subst (Inherited s role) (sym (walk_end (suc n) s names next past)) inherited
visit_sound (Some name) n s role names next found inherited further =
    let more : List (List ℕ) = fresh names (inherited_by s name) in
    subst (Inherited s role) (sym (walk_step n s names next name found))
    (further (names ++ more) (λ x is. or_either (one_of names x) (one_of more x) (sym (one_of-append names more x) ∙ is) (inherited x)
    (λ new. Through name x (inherited name (among_got names next name found)) (fresh_within names (inherited_by s name) x new))))

walk_sound : (n : ℕ) (s : State) (role : List ℕ) (names : List (List ℕ)) (next : ℕ) → Inherited s role names → Inherited s role (walk n s names next)
walk_sound zero s role names next inherited = inherited
walk_sound (suc n) s role names next inherited = visit_sound (slice_get names next) n s role names next refl inherited (λ grown. walk_sound n s role grown (suc next))

pub met_is_inherited : (s : State) (role other : List ℕ) → one_of (reached_of s role) other ≡ true → Inherits s role other
unfolding reached_of
met_is_inherited s role other = walk_sound (suc (length (granted_roles s))) s role (role ∷ []) 0 (λ name is. or_either (bytes_eq role name) false is (λ same. subst (Inherits s role) (bytes_same role name same) Itself) (λ no. absurd (true≢false (sym no)))) other

-- ---- completeness

-- what these inherit is among the names
abbrev pub Closed : State → List (List ℕ) → List (List ℕ) → Type 0
Closed s these names = (name : List ℕ) → one_of these name ≡ true → Within (inherited_by s name) names

-- the names and what is fresh are all
fresh_if_all : (b : Bool) (seen : List (List ℕ)) (x : List ℕ) (xs some more : List (List ℕ)) → one_of seen x ≡ b
    → Within xs (seen ++ some) → Within xs ((seen ++ x ∷ []) ++ more) → Within (x ∷ xs) (seen ++ (if b then some else (x ∷ more)))
fresh_if_all true seen x xs some more is within also name among =
    or_either (bytes_eq x name) (one_of xs name) among (λ same. among_first seen some name (sym (ap (one_of seen) (bytes_same x name same)) ∙ is)) (λ there. within name there)
fresh_if_all false seen x xs some more is within also name among =
    subst (λ names. one_of names name ≡ true) (append_assoc seen (x ∷ []) more)
    (or_either (bytes_eq x name) (one_of xs name) among (λ same. among_first (seen ++ x ∷ []) more name (sym (ap (one_of (seen ++ x ∷ [])) (bytes_same x name same)) ∙ one_of_last seen x)) (λ there. also name there))

pub fresh_all : (seen names : List (List ℕ)) → Within names (seen ++ fresh seen names)
fresh_all seen [] = λ name is. absurd (true≢false (sym is))
fresh_all seen (x ∷ xs) = fresh_if_all (one_of seen x) seen x xs (fresh seen xs) (fresh (seen ++ x ∷ []) xs) refl (fresh_all seen xs) (fresh_all (seen ++ x ∷ []) xs)

pub take_on : (names more : List (List ℕ)) (next : ℕ) (name : List ℕ) → slice_get names next ≡ Some name → take (suc next) (names ++ more) ≡ take next names ++ name ∷ []
take_on [] more next name found = absurd (omega (arith, slice_get_within [] next name found))
take_on (x ∷ xs) more zero name found = ap (λ y. y ∷ []) (some_same x name found)
take_on (x ∷ xs) more (suc next) name found = ap (λ rest. x ∷ rest) (take_on xs more next name found)

closed_on : (s : State) (names : List (List ℕ)) (next : ℕ) (name : List ℕ) → slice_get names next ≡ Some name → Closed s (take next names) names
    → Closed s (take (suc next) (names ++ fresh names (inherited_by s name))) (names ++ fresh names (inherited_by s name))
closed_on s names next name found closed between among granted is =
    let more : List (List ℕ) = fresh names (inherited_by s name) in
    or_either (one_of (take next names) between) (one_of (name ∷ []) between) (sym (one_of-append (take next names) (name ∷ []) between) ∙ ap (λ ns. one_of ns between) (sym (take_on names more next name found)) ∙ among)
    (λ before. among_first names more granted (closed between before granted is))
    (λ now. or_either (bytes_eq name between) false now
    (λ same. fresh_all names (inherited_by s name) granted (ap (λ b. one_of (inherited_by s b) granted) (bytes_same name between same) ∙ is))
    (λ no. absurd (true≢false (sym no))))

closed_end : (s : State) (names : List (List ℕ)) (next : ℕ) → slice_get names next ≡ None → Closed s (take next names) names → Closed s names names
closed_end s names next past closed = subst (λ these. Closed s these names) (reads_all names next past) closed

visit_closed : (found : Option (List ℕ)) (n : ℕ) (s : State) (names : List (List ℕ)) (next : ℕ) → slice_get names next ≡ found
    → length names + left (granted_roles s) names ≤ next + suc n → Closed s (take next names) names
    → ((grown : List (List ℕ)) → length grown + left (granted_roles s) grown ≤ suc next + n → Closed s (take (suc next) grown) grown → Closed s (walk n s grown (suc next)) (walk n s grown (suc next)))
    → Closed s (walk (suc n) s names next) (walk (suc n) s names next)
visit_closed None n s names next past few closed further = subst (λ ns. Closed s ns ns) (sym (walk_end (suc n) s names next past)) (closed_end s names next past closed)
visit_closed (Some name) n s names next found few closed further =
    let more : List (List ℕ) = fresh names (inherited_by s name) in
    subst (λ ns. Closed s ns ns) (sym (walk_step n s names next name found))
    (further (names ++ more) (omega (arith, few, length-append names more, fresh_few (granted_roles s) names (inherited_by s name) (granted_within s name))) (closed_on s names next name found closed))

walk_closed : (n : ℕ) (s : State) (names : List (List ℕ)) (next : ℕ) → length names + left (granted_roles s) names ≤ next + n → Closed s (take next names) names
    → Closed s (walk n s names next) (walk n s names next)
walk_closed zero s names next few closed = closed_end s names next (slice_get_past names next (omega (arith, few))) closed
walk_closed (suc n) s names next few closed = visit_closed (slice_get names next) n s names next refl few closed (λ grown fewer. walk_closed n s grown (suc next) fewer)

visit_keeps : (found : Option (List ℕ)) (n : ℕ) (s : State) (names : List (List ℕ)) (next : ℕ) → slice_get names next ≡ found
    → ((grown : List (List ℕ)) → Within grown (walk n s grown (suc next))) → Within names (walk (suc n) s names next)
visit_keeps None n s names next past further = subst (Within names) (sym (walk_end (suc n) s names next past)) (λ name is. is)
visit_keeps (Some name) n s names next found further =
    let more : List (List ℕ) = fresh names (inherited_by s name) in
    subst (Within names) (sym (walk_step n s names next name found)) (λ x is. further (names ++ more) x (among_first names more x is))

pub walk_keeps : (n : ℕ) (s : State) (names : List (List ℕ)) (next : ℕ) → Within names (walk n s names next)
walk_keeps zero s names next = λ name is. is
walk_keeps (suc n) s names next = visit_keeps (slice_get names next) n s names next refl (λ grown. walk_keeps n s grown (suc next))

reached_closed : (s : State) (role : List ℕ) → Closed s (reached_of s role) (reached_of s role)
unfolding reached_of
reached_closed s role = walk_closed (suc (length (granted_roles s))) s (role ∷ []) 0 (omega (arith, left_all (granted_roles s) (role ∷ []))) (λ name is. absurd (true≢false (sym is)))

reached_itself : (s : State) (role : List ℕ) → one_of (reached_of s role) role ≡ true
unfolding reached_of
reached_itself s role = walk_keeps (suc (length (granted_roles s))) s (role ∷ []) 0 role (or_left (bytes_eq role role) false (bytes_own role))

pub inherited_is_met : (s : State) (role other : List ℕ) → Inherits s role other → one_of (reached_of s role) other ≡ true
inherited_is_met s role other Itself = reached_itself s role
inherited_is_met s role other (Through between granted inherits is) = reached_closed s role between (inherited_is_met s role between inherits) granted is

-- a role is reached exactly where its privileges are inherited
pub reached_inherits : (s : State) (role other : List ℕ) → (one_of (reached_of s role) other ≡ true) ↔ Inherits s role other
reached_inherits s role other = (met_is_inherited s role other, inherited_is_met s role other)
