-- Walks over memberships end: what is reached is what any long enough walk meets.
use Rattle.std.specs.Prelude.{◌≡◌, refl, ℕ, zero, suc, ◌+◌, ◌≤◌, List, [], ◌∷◌, ◌++◌, Option, Some, None, Bool, true, false, ◌||◌, if◌then◌else◌, cond, map, filter, length, take, slice_get}
use Rattle.std.specs.List.{flat_map}
use Rattle.std.specs.Str.{bytes_eq}
use Rattle.std.specs.BTreeMap.{is_at}
use Rattle.std.proofs.Common.{arith, sym, ap, ◌∙◌, subst, append-nil, append_assoc}
use Rattle.std.proofs.Math.Bool.{or_assoc}
use Rattle.std.proofs.lemmas.Bool.{true≢false, or_left, or_right}
use Rattle.std.proofs.lemmas.List.{length-append}
use Rattle.std.proofs.lemmas.Option.{slice_get_past, slice_get_within}
use Rattle.std.proofs.lemmas.Slice.Eq.{bytes_eq-Decides}
use Rattle.rls_expr.specs.rls_value.specs.{Names.one_of, declared.object.Object.Object}
use Rattle.rls_catalog.specs.{declared.role.RoleDef.RoleDef, declared.role.Membership.Membership, State.State, State.at, State.name_order, State.or_none, State.role_of, State.members_of, Membership.granted_inherited, Membership.inherited_if, Membership.inherited_by, Membership.fresh, Membership.visited, Membership.walk, Membership.granted_roles, Membership.reached_of, Membership.visit_reads, Membership.walk_reads, Membership.Within}

pub one_of-append : (xs ys : List (List ℕ)) (name : List ℕ) → one_of (xs ++ ys) name ≡ (one_of xs name || one_of ys name)
one_of-append [] ys name = refl
one_of-append (x ∷ xs) ys name = ap (λ b. bytes_eq x name || b) (one_of-append xs ys name) ∙ sym (or_assoc (bytes_eq x name) (one_of xs name) (one_of ys name))

or_more : (a b c : Bool) → (b ≡ true → c ≡ true) → (a || b) ≡ true → (a || c) ≡ true
or_more true b c more is = refl
or_more false b c more is = more is

or_skip : (a b c : Bool) → (b ≡ true → c ≡ true) → b ≡ true → (a || c) ≡ true
or_skip a b c more is = or_right a c (more is)

-- ---- the roles that a walk may meet

with_inherit : (inherit : Bool) (role : List ℕ) (some all : List (List ℕ)) → Within some all → Within (if inherit then (role ∷ some) else some) (role ∷ all)
with_inherit true role some all within name is = or_more (bytes_eq role name) (one_of some name) (one_of all name) (within name) is
with_inherit false role some all within name is = or_skip (bytes_eq role name) (one_of some name) (one_of all name) (within name) is

granted_if : (b : Bool) (m : Membership) (ms : List Membership)
    → map (λ m. m.role) (cond b (m ∷ filter (λ m. m.inherit) ms) (filter (λ m. m.inherit) ms)) ≡ (if b then (m.role ∷ granted_inherited ms) else granted_inherited ms)
granted_if true m ms = refl
granted_if false m ms = refl

inherited_within : (ms : List Membership) → Within (granted_inherited ms) (map (λ m. m.role) ms)
inherited_within [] = λ name is. is
inherited_within (m ∷ ms) = subst (λ names. Within names (m.role ∷ map (λ m. m.role) ms)) (sym (granted_if m.inherit m ms)) (with_inherit m.inherit m.role (granted_inherited ms) (map (λ m. m.role) ms) (inherited_within ms))

pub among_first : (xs ys : List (List ℕ)) → Within xs (xs ++ ys)
among_first xs ys name is = one_of-append xs ys name ∙ or_left (one_of xs name) (one_of ys name) is

among_last : (xs ys zs : List (List ℕ)) → Within zs ys → Within zs (xs ++ ys)
among_last xs ys zs within name is = one_of-append xs ys name ∙ or_right (one_of xs name) (one_of ys name) (within name is)

chosen_within : (b : Bool) (ms : List Membership) (rest : Option (List Membership)) (names : List (List ℕ))
    → Within (map (λ m. m.role) (or_none rest)) names
    → Within (map (λ m. m.role) (or_none (cond b (Some ms) rest))) (map (λ m. m.role) ms ++ names)
chosen_within true ms rest names within = among_first (map (λ m. m.role) ms) names
chosen_within false ms rest names within = among_last (map (λ m. m.role) ms) names (map (λ m. m.role) (or_none rest)) within

listed_within : (role : List ℕ) (entries : List (List ℕ × List Membership)) → Within (map (λ m. m.role) (or_none (at role entries))) (flat_map (λ entry. map (λ m. m.role) entry.1) entries)
listed_within role [] = λ name is. is
listed_within role (e ∷ es) = chosen_within (is_at (name_order role) e.0) e.1 (at role es) (flat_map (λ entry. map (λ m. m.role) entry.1) es) (listed_within role es)

if_within : (def : Option RoleDef) (ms : List Membership) (names : List (List ℕ)) → Within (granted_inherited ms) names → Within (inherited_if def ms) names
if_within (Some def) ms names within = within
if_within None ms names within = λ name is. absurd (true≢false (sym is))

pub granted_within : (s : State) (role : List ℕ) → Within (inherited_by s role) (granted_roles s)
granted_within s role = if_within (role_of s role) (members_of s role) (granted_roles s) (λ name is. listed_within role s.members name (inherited_within (members_of s role) name is))

-- ---- how many of them a walk has not yet met

abbrev pub cost : Bool → ℕ
cost true = 0
cost false = 1

abbrev pub left : List (List ℕ) → List (List ℕ) → ℕ
left [] seen = 0
left (name ∷ names) seen = cost (one_of seen name) + left names seen

cost_or : (a b : Bool) → cost (a || b) ≤ cost a
cost_or true b = omega arith
cost_or false true = omega arith
cost_or false false = omega arith

cost_more : (seen : List (List ℕ)) (x name : List ℕ) → cost (one_of (seen ++ x ∷ []) name) ≤ cost (one_of seen name)
cost_more seen x name = subst (λ b. cost b ≤ cost (one_of seen name)) (sym (one_of-append seen (x ∷ []) name)) (cost_or (one_of seen name) (one_of (x ∷ []) name))

left_more : (names seen : List (List ℕ)) (x : List ℕ) → left names (seen ++ x ∷ []) ≤ left names seen
left_more [] seen x = omega arith
left_more (name ∷ names) seen x = omega (arith, cost_more seen x name, left_more names seen x)

pub bytes_same : (a b : List ℕ) → bytes_eq a b ≡ true → a ≡ b
bytes_same a b = (bytes_eq-Decides a b).0

pub bytes_own : (a : List ℕ) → bytes_eq a a ≡ true
bytes_own a = (bytes_eq-Decides a a).1 refl

pub one_of_last : (seen : List (List ℕ)) (x : List ℕ) → one_of (seen ++ x ∷ []) x ≡ true
one_of_last seen x = one_of-append seen (x ∷ []) x ∙ or_right (one_of seen x) (one_of (x ∷ []) x) (or_left (bytes_eq x x) false (bytes_own x))

left_head : (b : Bool) (name : List ℕ) (names seen : List (List ℕ)) (x : List ℕ)
    → bytes_eq name x ≡ b → (one_of names x ≡ true → suc (left names (seen ++ x ∷ [])) ≤ left names seen)
    → (b || one_of names x) ≡ true → one_of seen x ≡ false → suc (left (name ∷ names) (seen ++ x ∷ [])) ≤ left (name ∷ names) seen
left_head true name names seen x same further is unseen =
    let here : name ≡ x = bytes_same name x same in
    let now : cost (one_of (seen ++ x ∷ []) name) ≡ 0 = ap cost (ap (one_of (seen ++ x ∷ [])) here ∙ one_of_last seen x) in
    let before : cost (one_of seen name) ≡ 1 = ap cost (ap (one_of seen) here ∙ unseen) in
    omega (arith, now, before, left_more names seen x)
left_head false name names seen x same further is unseen = omega (arith, cost_more seen x name, further is)

left_falls : (names seen : List (List ℕ)) (x : List ℕ) → one_of names x ≡ true → one_of seen x ≡ false → suc (left names (seen ++ x ∷ [])) ≤ left names seen
left_falls [] seen x is unseen = absurd (true≢false (sym is))
left_falls (name ∷ names) seen x is unseen = left_head (bytes_eq name x) name names seen x refl (λ more. left_falls names seen x more unseen) is unseen

fresh_if : (b : Bool) (all seen : List (List ℕ)) (x : List ℕ) (more rest : List (List ℕ)) → one_of seen x ≡ b → one_of all x ≡ true
    → length rest + left all (seen ++ rest) ≤ left all seen
    → length more + left all ((seen ++ x ∷ []) ++ more) ≤ left all (seen ++ x ∷ [])
    → length (if b then rest else (x ∷ more)) + left all (seen ++ (if b then rest else (x ∷ more))) ≤ left all seen
fresh_if true all seen x more rest is among few few_more = few
fresh_if false all seen x more rest is among few few_more =
    let same : left all ((seen ++ x ∷ []) ++ more) ≡ left all (seen ++ x ∷ more) = ap (left all) (append_assoc seen (x ∷ []) more) in
    omega (arith, few_more, left_falls all seen x among is, same)

pub fresh_few : (all seen names : List (List ℕ)) → Within names all → length (fresh seen names) + left all (seen ++ fresh seen names) ≤ left all seen
fresh_few all seen [] within = omega (arith, ap (left all) (append-nil seen))
fresh_few all seen (name ∷ names) within =
    let rest : Within names all = λ x is. within x (or_right (bytes_eq name x) (one_of names x) is) in
    fresh_if (one_of seen name) all seen name (fresh (seen ++ name ∷ []) names) (fresh seen names) refl (within name (or_left (bytes_eq name name) (one_of names name) (bytes_own name)))
    (fresh_few all seen names rest) (fresh_few all (seen ++ name ∷ []) names rest)

-- ---- steps and end of a walk

pub walk_step : (n : ℕ) (s : State) (names : List (List ℕ)) (next : ℕ) (name : List ℕ) → slice_get names next ≡ Some name
    → walk (suc n) s names next ≡ walk n s (names ++ fresh names (inherited_by s name)) (suc next)
walk_step n s names next name found i = visited (λ grown. walk n s grown (suc next)) s names (found i)

pub walk_end : (n : ℕ) (s : State) (names : List (List ℕ)) (next : ℕ) → slice_get names next ≡ None → walk n s names next ≡ names
walk_end zero s names next past = refl
walk_end (suc n) s names next past = λ i. visited (λ grown. walk n s grown (suc next)) s names (past i)

finished_if : (found : Option (List ℕ)) (n m : ℕ) (s : State) (names : List (List ℕ)) (next : ℕ) → slice_get names next ≡ found
    → length names + left (granted_roles s) names ≤ next + suc n
    → ((grown : List (List ℕ)) → length grown + left (granted_roles s) grown ≤ suc next + n → walk m s grown (suc next) ≡ walk n s grown (suc next))
    → walk (suc m) s names next ≡ walk (suc n) s names next
finished_if None n m s names next past few further = walk_end (suc m) s names next past ∙ sym (walk_end (suc n) s names next past)
finished_if (Some name) n m s names next found few further =
    let more : List (List ℕ) = fresh names (inherited_by s name) in
    walk_step m s names next name found
    ∙ further (names ++ more) (omega (arith, few, length-append names more, fresh_few (granted_roles s) names (inherited_by s name) (granted_within s name)))
    ∙ sym (walk_step n s names next name found)

-- no more visits are needed than there are names that it has to visit or may still meet
pub walk_finished : (n m : ℕ) (s : State) (names : List (List ℕ)) (next : ℕ) → length names + left (granted_roles s) names ≤ next + n → n ≤ m
    → walk m s names next ≡ walk n s names next
walk_finished zero m s names next few enough = walk_end m s names next (slice_get_past names next (omega (arith, few)))
walk_finished (suc n) zero s names next few enough = absurd (omega (arith, enough))
walk_finished (suc n) (suc m) s names next few enough = finished_if (slice_get names next) n m s names next refl few (λ grown fewer. walk_finished n m s grown (suc next) fewer (omega (arith, enough)))

cost_small : (b : Bool) → cost b ≤ 1
cost_small true = omega arith
cost_small false = omega arith

pub left_all : (names seen : List (List ℕ)) → left names seen ≤ length names
left_all [] seen = omega arith
left_all (name ∷ names) seen = omega (arith, left_all names seen, cost_small (one_of seen name))

-- a walk that is at its end has met what is reached
pub reached_is : (s : State) (role : List ℕ) (names : List (List ℕ)) (next : ℕ)
    → ((n : ℕ) → walk n s names next ≡ walk (n + next) s (role ∷ []) 0) → slice_get names next ≡ None → names ≡ reached_of s role
unfolding reached_of
reached_is s role names next leads past =
    let all : ℕ = suc (length (granted_roles s)) in
    sym (walk_end all s names next past) ∙ leads all ∙ walk_finished all (all + next) s (role ∷ []) 0 (omega (arith, left_all (granted_roles s) (role ∷ []))) (omega arith)

-- the next step leads where the walk leads
pub leads_on : (s : State) (role : List ℕ) (names : List (List ℕ)) (next : ℕ) (name : List ℕ) → slice_get names next ≡ Some name
    → ((n : ℕ) → walk n s names next ≡ walk (n + next) s (role ∷ []) 0)
    → (n : ℕ) → walk n s (names ++ fresh names (inherited_by s name)) (suc next) ≡ walk (n + suc next) s (role ∷ []) 0
leads_on s role names next name found leads n = sym (walk_step n s names next name found) ∙ leads (suc n) ∙ ap (λ m. walk m s (role ∷ []) 0) (omega arith)

abbrev first_reads : Option (List ℕ) → List Object
first_reads (Some name) = visit_reads name
first_reads None = []

-- what the first visits read, and one more
pub reads_on : (names more : List (List ℕ)) (next : ℕ) (name : List ℕ) → slice_get names next ≡ Some name
    → walk_reads (take next names) ++ visit_reads name ≡ walk_reads (take (suc next) (names ++ more))
reads_on [] more next name found = absurd (omega (arith, slice_get_within [] next name found))
reads_on (x ∷ xs) more zero name found = ap (λ r. first_reads r) (sym found)
reads_on (x ∷ xs) more (suc next) name found = ap (λ r. visit_reads x ++ r) (reads_on xs more next name found)

abbrev is_there : Option (List ℕ) → Bool
is_there (Some name) = true
is_there None = false

some_no_none : {name : List ℕ} → Some name ≡ None → ⊥
some_no_none same = true≢false (ap is_there same)

-- all visits
pub reads_all : (names : List (List ℕ)) (next : ℕ) → slice_get names next ≡ None → take next names ≡ names
reads_all [] zero past = refl
reads_all [] (suc next) past = refl
reads_all (x ∷ xs) zero past = absurd (some_no_none past)
reads_all (x ∷ xs) (suc next) past = ap (λ rest. x ∷ rest) (reads_all xs next past)
