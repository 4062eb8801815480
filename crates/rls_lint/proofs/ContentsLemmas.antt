-- Tests that decide whether contents are the same.
use Rattle.std.proofs.Common.{◌≡◌, ◌+◌, ◌<◌, ◌≤◌, refl, Bool, true, false, ◌&&◌, ℕ, List, [], ◌∷◌, length, get_or, map, take, sym, ap, subst, ◌∙◌}
use Rattle.std.specs.List.{All}
use Rattle.std.specs.Bool.{Decides}
use Rattle.std.proofs.lemmas.Bool.{true≢false}
use Rattle.std.proofs.lemmas.Bool.Decides.{Decides-and, Decides-at}
use Rattle.std.proofs.lemmas.List.{take_all}
use Rattle.std.proofs.lemmas.List.Elements.{All-more}
use Rattle.rls_value.specs.declared.object.Object.TheVariants as o
use Rattle.rls_catalog.specs.State.{AgreesAt, State}
use Rattle.rls_lint.specs.Contents.{AreSameNames, HaveSameContents, IsSameRole, IsSameTable, values_of}
use Rattle.rls_lint.specs.declared.named.Named.{Named}
use Rattle.rls_lint.specs.Naming.{IsNamed}

no : {A : Type 0} → false ≡ true → A
no is = absurd (true≢false (sym is))

-- ---- along a list

-- one of them differs
pub one_differs : {X : Type 0} (P : X → Type 0) (xs : List X) (i : ℕ) (x : X) (same : Bool) → i < length xs → x ≡ get_or xs i x → Decides same (P x) → same ≡ false → Decides false (All P xs)
one_differs P xs i x same lt is decides differs = (λ yes. no yes, λ all. no (sym differs ∙ decides.1 (subst P (sym is) (all i x lt))))

-- one more doesn't
pub one_more : {X : Type 0} (P : X → Type 0) (xs : List X) (i : ℕ) (x : X) (same : Bool) → i < length xs → x ≡ get_or xs i x → Decides same (P x) → same ≡ true → All P (take i xs) → All P (take (i + 1) xs)
one_more P xs i x same lt is decides passes all = All-more P xs i x lt all (subst P is (decides.0 passes))

-- none does
pub none_differs : {X : Type 0} (P : X → Type 0) (xs : List X) (i : ℕ) → length xs ≤ i → All P (take i xs) → Decides true (All P xs)
none_differs P xs i over all = (λ yes. subst (All P) (take_all i xs over) all, λ same. refl)

-- ---- of a role, and of a table

-- a test that decides both
pub both_decide : (P Q : Type 0) (first second same : Bool) → Decides first P → Decides second Q → same ≡ (first && second) → Decides same (P × Q)
both_decide P Q first second same one two is = Decides-at same (first && second) is (Decides-and first second one two)

pub role_decides : (s other : State) (role : List ℕ) (attributes members same : Bool) → Decides attributes (AgreesAt s other (o.Role role)) → Decides members (AgreesAt s other (o.Members role)) → same ≡ (attributes && members) → Decides same (IsSameRole s other role)
role_decides s other role attributes members same first second is =
    let both : Decides same (AgreesAt s other (o.Role role) × AgreesAt s other (o.Members role)) = both_decide (AgreesAt s other (o.Role role)) (AgreesAt s other (o.Members role)) attributes members same first second is in
    (λ yes. ((both.0 yes).0, ((both.0 yes).1, tt)), λ are. both.1 (are.0, are.1.0))

pub table_decides : (s other : State) (table : List ℕ) (definition grants policies rows shared defined same : Bool) → Decides definition (AgreesAt s other (o.Table table)) → Decides grants (AgreesAt s other (o.Grants table)) → Decides policies (AgreesAt s other (o.Policies table))
    → Decides rows (values_of s table ≡ values_of other table) → shared ≡ (grants && policies) → defined ≡ (definition && shared) → same ≡ (defined && rows) → Decides same (IsSameTable s other table)
table_decides s other table definition grants policies rows shared defined same first second third fourth is are all =
    let D : Type 0 = AgreesAt s other (o.Table table) in
    let G : Type 0 = AgreesAt s other (o.Grants table) in
    let P : Type 0 = AgreesAt s other (o.Policies table) in
    let R : Type 0 = values_of s table ≡ values_of other table in
    let both : Decides same ((D × (G × P)) × R) =
    both_decide (D × (G × P)) R defined rows same (both_decide D (G × P) definition shared defined first (both_decide G P grants policies shared second third is) are) fourth all in
    (λ yes. (((both.0 yes).0.0, ((both.0 yes).0.1.0, ((both.0 yes).0.1.1, tt))), (both.0 yes).1), λ it. both.1 ((it.0.0, (it.0.1.0, it.0.1.1.0)), it.1))

-- ---- of the states

pub all_decide : (s other : State) (roles tables role_names table_names : List (List ℕ)) (first second same : Bool) → roles ≡ role_names → tables ≡ table_names → Decides first (All (IsSameRole s other) roles) → Decides second (All (IsSameTable s other) tables)
    → same ≡ (first && second) → Decides same (All (IsSameRole s other) role_names × All (IsSameTable s other) table_names)
all_decide s other roles tables role_names table_names first second same are those one two is =
    both_decide (All (IsSameRole s other) role_names) (All (IsSameTable s other) table_names) first second same
    (subst (λ names. Decides first (All (IsSameRole s other) names)) are one) (subst (λ names. Decides second (All (IsSameTable s other) names)) those two) is

-- the same entries have the same names
names_along : {X : Type 0} (entries others : List (List ℕ × X)) → entries ≡ others → AreSameNames entries others
names_along {X} entries others is = ap (map (λ (entry : List ℕ × X). entry.0)) is

-- other roles, or other tables
pub other_names : (s other : State) (named others : Named) (same : Bool) → IsNamed s named → IsNamed other others → Decides same (AreSameNames named.roles others.roles × AreSameNames named.tables others.tables) → same ≡ false → Decides false (HaveSameContents s other)
other_names s other named others same is are decides differ = (
  λ yes. no yes,
  λ have. no (sym differ ∙ decides.1 (
    names_along named.roles s.roles is.roles ∙ have.roles ∙ sym (names_along others.roles other.roles are.roles),
    names_along named.tables s.tables is.tables ∙ have.tables ∙ sym (names_along others.tables other.tables are.tables),
  )),
)

-- the same ones: what decides of each
pub contents_decide : (s other : State) (named others : Named) (same each : Bool) → IsNamed s named → IsNamed other others → Decides same (AreSameNames named.roles others.roles × AreSameNames named.tables others.tables) → same ≡ true
    → Decides each (All (IsSameRole s other) (map (λ entry. entry.0) named.roles) × All (IsSameTable s other) (map (λ entry. entry.0) named.tables)) → Decides each (HaveSameContents s other)
contents_decide s other named others same each is are names_same so decides =
    let roles = names_along named.roles s.roles is.roles in
    let tables = names_along named.tables s.tables is.tables in (
      λ yes. record {
        roles = sym roles ∙ (names_same.0 so).0 ∙ names_along others.roles other.roles are.roles;
        tables = sym tables ∙ (names_same.0 so).1 ∙ names_along others.tables other.tables are.tables;
        each_role = subst (All (IsSameRole s other)) roles (decides.0 yes).0;
        each_table = subst (All (IsSameTable s other)) tables (decides.0 yes).1;
      },
      λ have. decides.1 (subst (All (IsSameRole s other)) (sym roles) have.each_role, subst (All (IsSameTable s other)) (sym tables) have.each_table),
    )
