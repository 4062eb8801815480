-- What the tests over paths compute is what the relations say.
use Rattle.std.specs.Prelude.{◌≡◌, refl, ℕ, List, [], ◌∷◌, Option, Some, None, Bool, true, false, ◌||◌, if◌then◌else◌, cond, map, filter, ◌↔◌}
use Rattle.std.specs.List.{list_any}
use Rattle.std.specs.BTreeMap.{is_at}
use Rattle.std.specs.Str.{bytes_eq}
use Rattle.std.proofs.Common.{ap, subst, sym, ◌∙◌, ◌⊎◌, inl, inr}
use Rattle.std.proofs.lemmas.Bool.{true≢false, or_left, or_right}
use Rattle.rls_expr.specs.rls_value.specs.Names.{one_of}
use Rattle.rls_catalog.specs.{declared.role.RoleDef.RoleDef, declared.role.Membership.Membership, State.State, State.at, State.name_order, State.or_none, State.role_of, State.members_of, Membership.granted_inherited, Membership.inherited_if, Membership.inherited_by, Membership.attributes_of, Membership.Inherits, Membership.reached_of}
use Rattle.rls_catalog.specs.Membership as inherits
use Rattle.rls_catalog.proofs.{Walks.bytes_same, Walks.bytes_own, Inheriting.or_either, Inheriting.met_is_inherited, Inheriting.inherited_is_met}
use Rattle.rls_catalog.specs.Paths.{held_if, held_by, granted_where, Reaches, Itself, Through, has_set, is_any, MaySet, IsMember, holds_admin, MayGrant, marked, inheriting, reached_where, can_set, is_member, may_grant, closes_circle}

-- ---- the marked state

marked_if : (b : Bool) (test : Membership → Bool) (m : Membership) (some : List Membership) (others : List Membership)
    → map (λ m. m.role) some ≡ map (λ m. m.role) others
    → map (λ m. m.role) (cond b (marked test m ∷ some) some) ≡ map (λ m. m.role) (cond b (m ∷ others) others)
marked_if true test m some others same = ap (λ roles. m.role ∷ roles) same
marked_if false test m some others same = same

marked_granted : (test : Membership → Bool) (ms : List Membership) → granted_inherited (map (marked test) ms) ≡ granted_where test ms
marked_granted test [] = refl
marked_granted test (m ∷ ms) = marked_if (test m) test m (filter (λ m. m.inherit) (map (marked test) ms)) (filter test ms) (marked_granted test ms)

entry_if : (b : Bool) (test : Membership → Bool) (ms : List Membership) (there here : Option (List Membership)) → or_none there ≡ map (marked test) (or_none here)
    → or_none (cond b (Some (map (marked test) ms)) there) ≡ map (marked test) (or_none (cond b (Some ms) here))
entry_if true test ms there here same = refl
entry_if false test ms there here same = same

pub marked_members : (test : Membership → Bool) (role : List ℕ) (entries : List (List ℕ × List Membership))
    → or_none (at role (map (λ entry. (entry.0, map (marked test) entry.1)) entries)) ≡ map (marked test) (or_none (at role entries))
marked_members test role [] = refl
marked_members test role (e ∷ es) =
    entry_if (is_at (name_order role) e.0) test e.1 (at role (map (λ entry. (entry.0, map (marked test) entry.1)) es)) (at role es) (marked_members test role es)

held_granted : (def : Option RoleDef) (test : Membership → Bool) (ms : List Membership) → inherited_if def (map (marked test) ms) ≡ granted_where test (held_if def ms)
held_granted (Some def) test ms = marked_granted test ms
held_granted None test ms = refl

-- what a role inherits there is what it was granted by memberships that pass the test
pub inherited_marked : (test : Membership → Bool) (s : State) (role : List ℕ) → inherited_by (inheriting test s) role ≡ granted_where test (held_by s role)
inherited_marked test s role = ap (inherited_if (role_of s role)) (marked_members test role s.members) ∙ held_granted (role_of s role) test (members_of s role)

-- ---- paths

reaches_inherits : (test : Membership → Bool) (s : State) (role other : List ℕ) → Reaches test s role other → Inherits (inheriting test s) role other
reaches_inherits test s role other Itself = inherits.Itself
reaches_inherits test s role other (Through between granted reaches is) =
    inherits.Through between granted (reaches_inherits test s role between reaches) (ap (λ names. one_of names granted) (inherited_marked test s between) ∙ is)

inherits_reaches : (test : Membership → Bool) (s : State) (role other : List ℕ) → Inherits (inheriting test s) role other → Reaches test s role other
inherits_reaches test s role other inherits.Itself = Itself
inherits_reaches test s role other (inherits.Through between granted inherited is) =
    Through between granted (inherits_reaches test s role between inherited) (ap (λ names. one_of names granted) (sym (inherited_marked test s between)) ∙ is)

-- a role is met exactly where a path leads to it
pub reached_where_reaches : (test : Membership → Bool) (s : State) (role other : List ℕ) → (one_of (reached_where test s role) other ≡ true) ↔ Reaches test s role other
reached_where_reaches test s role other = (
  (λ met. inherits_reaches test s role other (met_is_inherited (inheriting test s) role other met)),
  (λ reaches. inherited_is_met (inheriting test s) role other (reaches_inherits test s role other reaches)),
)

either_or : (a b : Bool) {P : Type 0} → (P → b ≡ true) → (a ≡ true) ⊎ P → (a || b) ≡ true
either_or a b second (inl first) = or_left a b first
either_or a b second (inr p) = or_right a b (second p)

-- a login may set a role exactly where the test says so
pub can_set_is : (s : State) (login role : List ℕ) → (can_set s login role ≡ true) ↔ MaySet s login role
can_set_is s login role = (
  (λ can. or_either (attributes_of s login).superuser (one_of (reached_where has_set s login) role) can inl (λ met. inr ((reached_where_reaches has_set s login role).0 met))),
  either_or (attributes_of s login).superuser (one_of (reached_where has_set s login) role) ((reached_where_reaches has_set s login role).1),
)

-- what passes the test among the names
any_found : (test : List ℕ → Bool) (names : List (List ℕ)) → list_any test names ≡ true → (name : List ℕ) × (one_of names name ≡ true) × (test name ≡ true)
any_found test [] is = absurd (true≢false (sym is))
any_found test (x ∷ xs) is = or_either (test x) (list_any test xs) is
    (λ here. (x, or_left (bytes_eq x x) (one_of xs x) (bytes_own x), here))
    (λ there. let found = any_found test xs there in (found.0, or_right (bytes_eq x found.0) (one_of xs found.0) found.1, found.2))

any_from : (test : List ℕ → Bool) (names : List (List ℕ)) (name : List ℕ) → one_of names name ≡ true → test name ≡ true → list_any test names ≡ true
any_from test [] name among is = absurd (true≢false (sym among))
any_from test (x ∷ xs) name among is = or_either (bytes_eq x name) (one_of xs name) among
    (λ same. or_left (test x) (list_any test xs) (ap test (bytes_same x name same) ∙ is))
    (λ there. or_right (test x) (list_any test xs) (any_from test xs name there is))

-- a role is a member of another exactly where the test says so
pub is_member_is : (s : State) (member role : List ℕ) → (is_member s member role ≡ true) ↔ IsMember s member role
is_member_is s member role = (
  (λ is. let found = any_found (λ first. one_of (reached_where is_any s first) role) (granted_where is_any (held_by s member)) is in
      (found.0, found.1, (reached_where_reaches is_any s found.0 role).0 found.2)),
  (λ path. any_from (λ first. one_of (reached_where is_any s first) role) (granted_where is_any (held_by s member)) path.0 path.1 ((reached_where_reaches is_any s path.0 role).1 path.2)),
)

grants_if : (superuser : Bool) (s : State) (role granted : List ℕ)
    → (superuser || list_any (λ member. holds_admin s member granted) (if superuser then [] else reached_of s role)) ≡ (superuser || list_any (λ member. holds_admin s member granted) (reached_of s role))
grants_if true s role granted = refl
grants_if false s role granted = refl

may_grant_if : (s : State) (role granted : List ℕ) → may_grant s role granted ≡ ((attributes_of s role).superuser || list_any (λ member. holds_admin s member granted) (reached_of s role))
may_grant_if s role granted = grants_if (attributes_of s role).superuser s role granted

-- a role may grant a membership exactly where the test says so
pub may_grant_is : (s : State) (role granted : List ℕ) → (may_grant s role granted ≡ true) ↔ MayGrant s role granted
may_grant_is s role granted = (
  (λ may. or_either (attributes_of s role).superuser (list_any (λ member. holds_admin s member granted) (reached_of s role)) (sym (may_grant_if s role granted) ∙ may) inl
      (λ some_holds. let found = any_found (λ member. holds_admin s member granted) (reached_of s role) some_holds in
      inr (found.0, met_is_inherited s role found.0 found.1, found.2))),
  (λ may. may_grant_if s role granted ∙ either_or (attributes_of s role).superuser (list_any (λ member. holds_admin s member granted) (reached_of s role))
      (λ holder. any_from (λ member. holds_admin s member granted) (reached_of s role) holder.0 (inherited_is_met s role holder.0 holder.1) holder.2) may),
)

held_inherited : (def : Option RoleDef) (ms : List Membership) → inherited_if def ms ≡ granted_where (λ m. m.inherit) (held_if def ms)
held_inherited (Some def) ms = refl
held_inherited None ms = refl

inherits_to : (s : State) (role other : List ℕ) → Inherits s role other → Reaches (λ m. m.inherit) s role other
inherits_to s role other inherits.Itself = Itself
inherits_to s role other (inherits.Through between granted inherited is) =
    Through between granted (inherits_to s role between inherited) (ap (λ names. one_of names granted) (sym (held_inherited (role_of s between) (members_of s between))) ∙ is)

inherits_from : (s : State) (role other : List ℕ) → Reaches (λ m. m.inherit) s role other → Inherits s role other
inherits_from s role other Itself = inherits.Itself
inherits_from s role other (Through between granted reaches is) =
    inherits.Through between granted (inherits_from s role between reaches) (ap (λ names. one_of names granted) (held_inherited (role_of s between) (members_of s between)) ∙ is)

-- to inherit is to reach through memberships whose INHERIT option is true
pub inherits_is : (s : State) (role other : List ℕ) → Inherits s role other ↔ Reaches (λ m. m.inherit) s role other
inherits_is s role other = (inherits_to s role other, inherits_from s role other)

-- ---- circles

extended : (s : State) (member between granted : List ℕ) → IsMember s member between → one_of (granted_where is_any (held_by s between)) granted ≡ true → IsMember s member granted
extended s member between granted path is = (path.0, path.1, Through between granted path.2 is)

circle_or : (s : State) (member between granted : List ℕ) → (bytes_eq member between ≡ true) ⊎ IsMember s member between → one_of (granted_where is_any (held_by s between)) granted ≡ true
    → (bytes_eq member granted ≡ true) ⊎ IsMember s member granted
circle_or s member between granted (inl same) is = inr (granted, ap (λ name. one_of (granted_where is_any (held_by s name)) granted) (bytes_same member between same) ∙ is, Itself)
circle_or s member between granted (inr path) is = inr (extended s member between granted path is)

path_is : (s : State) (member role : List ℕ) → Reaches is_any s member role → (bytes_eq member role ≡ true) ⊎ IsMember s member role
path_is s member role Itself = inl (bytes_own member)
path_is s member role (Through between granted reaches is) = circle_or s member between granted (path_is s member between reaches) is

prepended : (s : State) (member first role : List ℕ) → one_of (granted_where is_any (held_by s member)) first ≡ true → Reaches is_any s first role → Reaches is_any s member role
prepended s member first role is Itself = Through member first Itself is
prepended s member first role is (Through between granted reaches last) = Through between granted (prepended s member first between is reaches) last

path_from : (s : State) (member role : List ℕ) → (bytes_eq member role ≡ true) ⊎ IsMember s member role → Reaches is_any s member role
path_from s member role (inl same) = subst (Reaches is_any s member) (bytes_same member role same) Itself
path_from s member role (inr path) = prepended s member path.0 role path.1 path.2

-- a membership closes a circle exactly where some path leads from the role that is granted to the member: one walk tells it
pub closes_circle_is : (s : State) (granted member : List ℕ) → (closes_circle s granted member ≡ true) ↔ Reaches is_any s granted member
closes_circle_is s granted member = (
  (λ closes. path_from s granted member (or_either (bytes_eq granted member) (is_member s granted member) closes inl (λ is. inr ((is_member_is s granted member).0 is)))),
  (λ reaches. either_or (bytes_eq granted member) (is_member s granted member) ((is_member_is s granted member).1) (path_is s granted member reaches)),
)
