-- What one membership that is put into a list in order of the roles' names, or taken from it, makes of the list.
use Rattle.std.specs.Prelude.{◌≡◌, refl, ℕ, List, [], ◌∷◌, Option, Some, None, Bool, true, false, not, ◌||◌, cond, if◌then◌else◌, map, filter, unwrap_or}
use Rattle.std.specs.{BTreeMap.is_at, List.find, List.fold, Ordering.is_eq, Ordering.is_lt, Ordering.ordering_reverse}
use Rattle.std.specs.Str.{bytes_eq}
use Rattle.std.specs.declared.cmp.Ordering.{Ordering}
use Rattle.std.specs.declared.cmp.Ordering.TheVariants.{Less, Equal, Greater}
use Rattle.std.proofs.Common.{ap, sym, subst, ◌∙◌}
use Rattle.std.proofs.{lemmas.Cmp.nat_list_cmp_total, lemmas.Map.Text.is_eq-slice_cmp, lemmas.Slice.Eq.bytes_eq-Decides}
use Rattle.shared_map.specs.Lists.{InKeyOrder, item_at, with_item, without_item}
use Rattle.shared_map.proofs.KeyOrder.{put_exchanges, put_inserts, removed_is_filtered}
use Rattle.rls_source.specs.rls_value.specs.Names.{one_of}
use Rattle.rls_source.specs.rls_catalog.specs.{declared.role.Membership.Membership, State.name_order}
use Rattle.rls_source.specs.Sequences.{put_before}
use Rattle.rls_statement.specs.{declared.statement.MembershipOptions.MembershipOptions, declared.statement.MembershipOption.MembershipOption}
use Rattle.rls_statement.specs.declared.statement.MembershipOption.TheVariants as option
use Rattle.rls_role.specs.Granting.{granted_to, has_role, membership_in, membership_with, new_membership, with_options}
use Rattle.rls_role.specs.Revoking.{left_at, lessened_at, without, without_option}

abbrev Ordered : List Membership → Type 0
Ordered memberships = InKeyOrder name_order (λ m. m.role) memberships

-- the membership of the role
abbrev at_role : List ℕ → List Membership → Option Membership
at_role role memberships = item_at (is_at (name_order role)) (λ m. m.role) memberships

equal_turned : (o : Ordering) → is_eq (ordering_reverse o) ≡ is_eq o
equal_turned Less = refl
equal_turned Equal = refl
equal_turned Greater = refl

named : (role : List ℕ) (m : Membership) → is_at (name_order role) m.role ≡ bytes_eq m.role role
named role m = ap is_eq (nat_list_cmp_total.antisymm role m.role) ∙ equal_turned (name_order m.role role) ∙ is_eq-slice_cmp m.role role

-- ---- one that is found

pub found_at : (role : List ℕ) (memberships : List Membership) → at_role role memberships ≡ find (λ m. bytes_eq m.role role) memberships
found_at role [] = refl
found_at role (m ∷ ms) = λ i. cond (named role m i) (Some m) (found_at role ms i)

found_if : (b : Bool) (role : List ℕ) (x m : Membership) (rest : Option Membership) → bytes_eq x.role role ≡ b → (rest ≡ Some m → m.role ≡ role) → cond b (Some x) rest ≡ Some m → m.role ≡ role
found_if true role x m rest same further is = let one : x ≡ m = cc in subst (λ y. y.role ≡ role) one ((bytes_eq-Decides x.role role).0 same)
found_if false role x m rest same further is = further is

found_role : (role : List ℕ) (memberships : List Membership) (m : Membership) → find (λ m. bytes_eq m.role role) memberships ≡ Some m → m.role ≡ role
found_role role [] m is = cc
found_role role (x ∷ xs) m is = found_if (bytes_eq x.role role) role x m (find (λ m. bytes_eq m.role role) xs) refl (found_role role xs m) is

abbrev is_there : Option Membership → Bool
is_there (Some m) = true
is_there None = false

there_if : (b : Bool) (x : Membership) (rest : Option Membership) → (b || is_there rest) ≡ is_there (cond b (Some x) rest)
there_if true x rest = refl
there_if false x rest = refl

there : (role : List ℕ) (memberships : List Membership) → has_role memberships role ≡ is_there (find (λ m. bytes_eq m.role role) memberships)
there role [] = refl
there role (m ∷ ms) = ap (λ b. bytes_eq m.role role || b) (there role ms) ∙ there_if (bytes_eq m.role role) m (find (λ m. bytes_eq m.role role) ms)

-- ---- GRANT

exchanged : (f : Membership → Membership) (role : List ℕ) (memberships : List Membership)
    → map (λ m. cond (is_at (name_order role) m.role) (f m) m) memberships ≡ map (λ m. if bytes_eq m.role role then f m else m) memberships
exchanged f role [] = refl
exchanged f role (m ∷ ms) = λ i. cond (named role m i) (f m) m ∷ exchanged f role ms i

-- a membership that becomes another of the same role takes its place
put_there : (f : Membership → Membership) (role : List ℕ) (memberships : List Membership) (m : Membership) → Ordered memberships → find (λ m. bytes_eq m.role role) memberships ≡ Some m → (f m).role ≡ m.role
    → with_item name_order (λ m. m.role) memberships (f m) ≡ map (λ m. if bytes_eq m.role role then f m else m) memberships
put_there f role memberships m order is same =
    let name : (f m).role ≡ role = same ∙ found_role role memberships m is in
    put_exchanges nat_list_cmp_total (λ m. m.role) f (f m) m memberships order (ap (λ name. at_role name memberships) name ∙ found_at role memberships ∙ is) refl
    ∙ ap (λ name. map (λ x. cond (is_at (name_order name) x.role) (f x) x) memberships) name
    ∙ exchanged f role memberships

abbrev put_new : MembershipOptions → List ℕ → List Membership → List Membership
put_new written role memberships = put_before (λ m. is_lt (name_order role m.role)) (membership_with written (new_membership role)) memberships

granted_if : (found : Option Membership) (written : MembershipOptions) (role : List ℕ) (memberships : List Membership) → Ordered memberships → find (λ m. bytes_eq m.role role) memberships ≡ found
    → with_item name_order (λ m. m.role) memberships (membership_with written (unwrap_or found (new_membership role))) ≡ granted_to written role memberships
granted_if (Some m) written role memberships order is =
    put_there (membership_with written) role memberships m order is refl
    ∙ ap (λ b. if b then map (with_options written role) memberships else put_new written role memberships) (sym (there role memberships ∙ ap is_there is))
granted_if None written role memberships order is =
    put_inserts nat_list_cmp_total (λ m. m.role) (membership_with written (new_membership role)) memberships (found_at role memberships ∙ is)
    ∙ ap (λ b. if b then map (with_options written role) memberships else put_new written role memberships) (sym (there role memberships ∙ ap is_there is))

-- the role's membership with the written options, or a new one, is put in its place
pub granted_put : (written : MembershipOptions) (role : List ℕ) (memberships : List Membership) → Ordered memberships
    → with_item name_order (λ m. m.role) memberships (membership_in written role memberships) ≡ granted_to written role memberships
granted_put written role memberships order = granted_if (find (λ m. bytes_eq m.role role) memberships) written role memberships order refl

-- ---- REVOKE of an option

same_role : (option : MembershipOption) (m : Membership) → (without option m).role ≡ m.role
same_role option.Admin m = refl
same_role option.Inherit m = refl
same_role option.Set m = refl

twice : (option : MembershipOption) (m : Membership) → without option (without option m) ≡ without option m
twice option.Admin m = refl
twice option.Inherit m = refl
twice option.Set m = refl

-- the membership of the role without the option takes its place
pub lessened_put : (option : MembershipOption) (role : List ℕ) (memberships : List Membership) (m : Membership) → Ordered memberships → at_role role memberships ≡ Some m
    → with_item name_order (λ m. m.role) memberships (without option m) ≡ lessened_at option memberships role
lessened_put option role memberships m order is = put_there (without option) role memberships m order (sym (found_at role memberships) ∙ is) (same_role option m)

none_if : (b : Bool) (f : Membership → Membership) (x : Membership) (rest : Option Membership) → cond b (Some x) rest ≡ None → ((if b then f x else x) ≡ x) × (rest ≡ None)
none_if true f x rest is = cc
none_if false f x rest is = (refl, is)

none_changes : (f : Membership → Membership) (role : List ℕ) (memberships : List Membership) → find (λ m. bytes_eq m.role role) memberships ≡ None → map (λ m. if bytes_eq m.role role then f m else m) memberships ≡ memberships
none_changes f role [] is = refl
none_changes f role (m ∷ ms) is =
    let none = none_if (bytes_eq m.role role) f m (find (λ m. bytes_eq m.role role) ms) is in
    λ i. none.0 i ∷ none_changes f role ms none.1 i

-- where the role has none, they are what they are
pub none_lessened : (option : MembershipOption) (role : List ℕ) (memberships : List Membership) → at_role role memberships ≡ None → memberships ≡ lessened_at option memberships role
none_lessened option role memberships is = sym (none_changes (without option) role memberships (sym (found_at role memberships) ∙ is))

mirrored : (a b : List ℕ) → bytes_eq a b ≡ bytes_eq b a
mirrored a b = sym (is_eq-slice_cmp a b) ∙ ap is_eq (nat_list_cmp_total.antisymm a b) ∙ equal_turned (name_order b a) ∙ is_eq-slice_cmp b a

lessened_one : (b among : Bool) (option : MembershipOption) (m : Membership) → (if among then without option (if b then without option m else m) else (if b then without option m else m)) ≡ (if b || among then without option m else m)
lessened_one true true option m = twice option m
lessened_one true false option m = refl
lessened_one false true option m = refl
lessened_one false false option m = refl

role_stays : (b : Bool) (option : MembershipOption) (m : Membership) → (if b then without option m else m).role ≡ m.role
role_stays true option m = same_role option m
role_stays false option m = refl

lessened_next : (option : MembershipOption) (role : List ℕ) (roles : List (List ℕ)) (memberships : List Membership)
    → map (without_option option roles) (lessened_at option memberships role) ≡ map (without_option option (role ∷ roles)) memberships
lessened_next option role roles [] = refl
lessened_next option role roles (m ∷ ms) =
    let one : without_option option roles (if bytes_eq m.role role then without option m else m) ≡ without_option option (role ∷ roles) m =
    ap (λ name. if one_of roles name then without option (if bytes_eq m.role role then without option m else m) else (if bytes_eq m.role role then without option m else m)) (role_stays (bytes_eq m.role role) option m)
    ∙ lessened_one (bytes_eq m.role role) (one_of roles m.role) option m
    ∙ ap (λ b. if b || one_of roles m.role then without option m else m) (mirrored m.role role) in
    λ i. one i ∷ lessened_next option role roles ms i

all_same : (option : MembershipOption) (memberships : List Membership) → memberships ≡ map (without_option option []) memberships
all_same option [] = refl
all_same option (m ∷ ms) = ap (λ rest. m ∷ rest) (all_same option ms)

-- role after role, those of all lose the option
pub each_lessened : (option : MembershipOption) (roles : List (List ℕ)) (memberships : List Membership) → fold (lessened_at option) memberships roles ≡ map (without_option option roles) memberships
each_lessened option [] memberships = all_same option memberships
each_lessened option (role ∷ roles) memberships = each_lessened option roles (lessened_at option memberships role) ∙ lessened_next option role roles memberships

-- ---- REVOKE of memberships

others : (role : List ℕ) (memberships : List Membership) → filter (λ m. not (is_at (name_order role) m.role)) memberships ≡ left_at memberships role
others role [] = refl
others role (m ∷ ms) = λ i. cond (not (named role m i)) (m ∷ others role ms i) (others role ms i)

-- the membership of the role is taken away
pub left_without : (role : List ℕ) (memberships : List Membership) → Ordered memberships → without_item (is_at (name_order role)) (λ m. m.role) memberships ≡ left_at memberships role
left_without role memberships order = removed_is_filtered nat_list_cmp_total (λ m. m.role) role memberships order ∙ others role memberships

stays_if : (b : Bool) (x : Membership) (xs left : List Membership) (rest : Option Membership) → (rest ≡ None → xs ≡ left) → cond b (Some x) rest ≡ None → x ∷ xs ≡ cond (not b) (x ∷ left) left
stays_if true x xs left rest further is = cc
stays_if false x xs left rest further is = ap (λ l. x ∷ l) (further is)

none_found : (role : List ℕ) (memberships : List Membership) → find (λ m. bytes_eq m.role role) memberships ≡ None → memberships ≡ left_at memberships role
none_found role [] is = refl
none_found role (m ∷ ms) is = stays_if (bytes_eq m.role role) m ms (left_at ms role) (find (λ m. bytes_eq m.role role) ms) (none_found role ms) is

-- where the role has none, all are left
pub none_left : (role : List ℕ) (memberships : List Membership) → at_role role memberships ≡ None → memberships ≡ left_at memberships role
none_left role memberships is = none_found role memberships (sym (found_at role memberships) ∙ is)

left_if : (b : Bool) (roles : List (List ℕ)) (m : Membership) (left : List Membership)
    → filter (λ m. not (one_of roles m.role)) (cond (not b) (m ∷ left) left) ≡ cond (not (b || one_of roles m.role)) (m ∷ filter (λ m. not (one_of roles m.role)) left) (filter (λ m. not (one_of roles m.role)) left)
left_if true roles m left = refl
left_if false roles m left = refl

left_next : (role : List ℕ) (roles : List (List ℕ)) (memberships : List Membership)
    → filter (λ m. not (one_of roles m.role)) (left_at memberships role) ≡ filter (λ m. not (one_of (role ∷ roles) m.role)) memberships
left_next role roles [] = refl
left_next role roles (m ∷ ms) =
    left_if (bytes_eq m.role role) roles m (left_at ms role)
    ∙ (λ i. cond (not (mirrored m.role role i || one_of roles m.role)) (m ∷ left_next role roles ms i) (left_next role roles ms i))

all_left : (memberships : List Membership) → memberships ≡ filter (λ m. not (one_of [] m.role)) memberships
all_left [] = refl
all_left (m ∷ ms) = ap (λ rest. m ∷ rest) (all_left ms)

-- role after role, those of all are taken away
pub each_left : (roles : List (List ℕ)) (memberships : List Membership) → fold left_at memberships roles ≡ filter (λ m. not (one_of roles m.role)) memberships
each_left [] memberships = all_left memberships
each_left (role ∷ roles) memberships = each_left roles (left_at memberships role) ∙ left_next role roles memberships
