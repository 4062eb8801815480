-- Worked examples of the definitions. Each is a theorem that computes.
use Rattle.std.specs.Prelude.{◌≡◌, refl, ℕ, pos, negsuc, List, [], ◌∷◌, Option, Some, None, Bool, true, false, codes}
use Rattle.std.proofs.Common.{ap, sym, subst}
use Rattle.std.proofs.lemmas.Bool.{true≢false, or_left}
use Rattle.std.specs.declared.cmp.Ordering.TheVariants.{Less, Greater}
use Rattle.rls_expr.specs.rls_value.specs.{declared.verb.Privilege.Privilege, declared.truth.Truth.TheVariants.True, declared.truth.Truth.TheVariants.False, declared.truth.Truth.TheVariants.Unknown, declared.row.RowId.RowId, Names.one_of, Truths.conjunction_of, Truths.disjunction_of, Truths.negation_of, Values.equal_values, Values.less_values, Values.listed, Values.fits_type, declared.verb.Kind.Kind, declared.verb.PolicyKind.PolicyKind, declared.value.Value.Value, declared.value.ColType.ColType, declared.object.Object.Object, declared.refusal.Why.Why}
use Rattle.std.specs.Str.{bytes_eq}
use Rattle.rls_expr.specs.{declared.table.TableDef.TableDef, declared.policy.Policy.Policy, Terms.Term, Terms.Literal, declared.policy.Grantee.Grantee}
use Rattle.rls_catalog.specs.{declared.role.RoleDef.RoleDef, declared.role.Membership.Membership, declared.grant.Grant.Grant, declared.stored.Keyed.Keyed, declared.stored.Stored.Stored, declared.change.Change.Change, GrantOptions.LeftAfterRevoke, GrantOptions.HasDependents, GrantOptions.left_by, GrantOptions.without_grant, GrantOptions.without_option, GrantOptions.grantor_of, State.State, State.role_of, State.rows_of, State.AgreesAt, State.AgreesOn, Changed.opening, Changed.changed_all, Membership.reached_of, Membership.has_privileges_of, Paths.can_set, Paths.is_member, Paths.may_grant, Paths.closes_circle, Privileges.holds, Privileges.missing, Privileges.optioned_by, Privileges.Options, Privileges.Owner, Privileges.AreOptions, Verdict.is_exempt, Verdict.expression_of, Verdict.applying_of, Verdict.verdict_of}
use Rattle.rls_catalog.specs.declared.change.Change.TheVariants as change
use Rattle.rls_catalog.specs.declared.verdict.Side.TheVariants as side
use Rattle.rls_catalog.specs.declared.verdict.Verdict.TheVariants as verdict
use Rattle.rls_catalog.proofs.{Walks.bytes_same, Inheriting.or_either, Revoking.options_only, Revoking.left_by_is, Revoking.has_dependents_is}

-- ---- a company: alice is a member of staff and of chief, a superuser; staff is a member of board WITH INHERIT FALSE;
-- guard has BYPASSRLS, and night is a member of guard

abbrev plain : RoleDef
plain = record { superuser = false; login = true; bypass_rls = false }

abbrev of_role : List ℕ → Bool → Membership
of_role role inherit = record { role = role; admin = false; inherit = inherit; set = true }

abbrev select_on_t : Grant
select_on_t = record { privilege = Privilege.Select; grantee = Grantee.Role (codes "staff"); grantor = codes "board"; option = false; column = None; place = 0 }

abbrev company : State
company = record {
  roles = (codes "alice", plain) ∷ (codes "board", plain) ∷ (codes "chief", record { superuser = true; login = false; bypass_rls = false }) ∷ (codes "guard", record { superuser = false; login = false; bypass_rls = true }) ∷ (codes "night", plain) ∷ (codes "staff", plain) ∷ [];
  members = (codes "alice", of_role (codes "chief") true ∷ of_role (codes "staff") true ∷ []) ∷ (codes "ghost", of_role (codes "staff") true ∷ []) ∷ (codes "night", of_role (codes "guard") true ∷ []) ∷ (codes "staff", of_role (codes "board") false ∷ []) ∷ [];
  tables = [];
  grants = (codes "t", select_on_t ∷ []) ∷ [];
  policies = [];
  rows = [];
}

-- alice has the privileges of staff, of which she is a member
staff_inherited : has_privileges_of company (codes "alice") (codes "staff") ≡ true
unfolding reached_of
staff_inherited = refl

-- and not those of board, since staff doesn't inherit them
board_not_inherited : has_privileges_of company (codes "alice") (codes "board") ≡ false
unfolding reached_of
board_not_inherited = refl

-- a role that is absent has itself, and through memberships kept under its name nothing
absent_has_itself : has_privileges_of company (codes "ghost") (codes "ghost") ≡ true
unfolding reached_of
absent_has_itself = refl

absent_has_nothing_else : has_privileges_of company (codes "ghost") (codes "staff") ≡ false
unfolding reached_of
absent_has_nothing_else = refl

-- a superuser has the privileges of each role; alice, a member of that superuser, has those of chief and not those of board
superuser_has_all : has_privileges_of company (codes "chief") (codes "board") ≡ true
superuser_has_all = refl

member_of_superuser_has_its_own : has_privileges_of company (codes "alice") (codes "chief") ≡ true
unfolding reached_of
member_of_superuser_has_its_own = refl

superuser_not_inherited : has_privileges_of company (codes "alice") (codes "guard") ≡ false
unfolding reached_of
superuser_not_inherited = refl

-- with SELECT on t granted to staff, alice holds SELECT on t, and not INSERT; board, who granted it, doesn't hold it
holds_by_staff : holds company (codes "alice") Privilege.Select (codes "t") ≡ true
unfolding reached_of
holds_by_staff = refl

insert_not_held : holds company (codes "alice") Privilege.Insert (codes "t") ≡ false
unfolding reached_of
insert_not_held = refl

grantor_not_held : holds company (codes "board") Privilege.Select (codes "t") ≡ false
unfolding reached_of
grantor_not_held = refl

-- ---- privileges on columns: SELECT and DELETE on the column a of t are granted to staff, and UPDATE on the whole table

abbrev on_a : Privilege → Grant
on_a privilege = record { privilege = privilege; grantee = Grantee.Role (codes "staff"); grantor = codes "board"; option = false; column = Some (codes "a"); place = 1 }

abbrev with_columns : State
with_columns = record company { grants = (codes "t", on_a Privilege.Select ∷ on_a Privilege.Delete ∷ record select_on_t { privilege = Privilege.Update } ∷ []) ∷ [] }

-- a grant on a column isn't one on the whole table, and does for that column
column_is_not_whole : holds with_columns (codes "alice") Privilege.Select (codes "t") ≡ false
unfolding reached_of
column_is_not_whole = refl

column_suffices : missing with_columns (codes "alice") Privilege.Select (codes "t") (codes "a" ∷ []) ≡ None
unfolding reached_of
column_suffices = refl

-- what is missing is the first column that no grant is on
first_column_missing : missing with_columns (codes "alice") Privilege.Select (codes "t") (codes "a" ∷ codes "b" ∷ codes "c" ∷ []) ≡ Some (Why.Column Privilege.Select (codes "t") (codes "b"))
unfolding reached_of
first_column_missing = refl

-- where no column is asked for, some column does
some_column_suffices : missing with_columns (codes "alice") Privilege.Select (codes "t") [] ≡ None
unfolding reached_of
some_column_suffices = refl

-- where no grant reaches the role, the privilege is missing
privilege_missing : missing with_columns (codes "board") Privilege.Select (codes "t") (codes "a" ∷ []) ≡ Some (Why.Privilege Privilege.Select (codes "t"))
unfolding reached_of
privilege_missing = refl

-- the whole privilege does for each column
whole_suffices : missing with_columns (codes "alice") Privilege.Update (codes "t") (codes "a" ∷ codes "b" ∷ []) ≡ None
unfolding reached_of
whole_suffices = refl

-- DELETE needs the whole
delete_needs_whole : missing with_columns (codes "alice") Privilege.Delete (codes "t") [] ≡ Some (Why.Privilege Privilege.Delete (codes "t"))
unfolding reached_of
delete_needs_whole = refl

-- a superuser lacks nothing
superuser_lacks_nothing : missing with_columns (codes "chief") Privilege.Insert (codes "t") (codes "b" ∷ []) ≡ None
superuser_lacks_nothing = refl

-- ---- who is exempt

-- a table of staff with row security
abbrev secured : Bool → Bool → TableDef
secured enabled forced = record { owner = codes "staff"; enabled = enabled; forced = forced; columns = []; key = [] }

-- alice, who has the owner's privileges, is exempt; under FORCE she isn't, and neither is the owner
owner_exempt : is_exempt company (codes "alice") (secured true false) ≡ true
unfolding reached_of
owner_exempt = refl

forced_binds_members : is_exempt company (codes "alice") (secured true true) ≡ false
unfolding reached_of
forced_binds_members = refl

forced_binds_owner : is_exempt company (codes "staff") (secured true true) ≡ false
unfolding reached_of
forced_binds_owner = refl

-- FORCE doesn't bind a superuser, nor a role with BYPASSRLS
forced_frees_superuser : is_exempt company (codes "chief") (secured true true) ≡ true
forced_frees_superuser = refl

forced_frees_bypass : is_exempt company (codes "guard") (secured true true) ≡ true
unfolding reached_of
forced_frees_bypass = refl

-- night is a member of guard, and doesn't inherit BYPASSRLS
bypass_not_inherited : is_exempt company (codes "night") (secured true false) ≡ false
unfolding reached_of
bypass_not_inherited = refl

-- without row security everyone is exempt, under FORCE too
disabled_exempts : is_exempt company (codes "board") (secured false true) ≡ true
disabled_exempts = refl

-- ---- which policies apply

abbrev always : Term
always = Literal (Value.Bool true)

abbrev never : Term
never = Literal (Value.Bool false)

abbrev named : List ℕ → Bool → Policy
named name permissive = record { name = name; permissive = permissive; kind = PolicyKind.All; to = Grantee.Public ∷ []; using = Some always; check = None }

-- FOR ALL USING (true) checks new rows by that too
using_checks : expression_of (named (codes "p") true) Kind.Insert side.New ≡ Some always
using_checks = refl

-- where there is a WITH CHECK, that one counts for new rows, and USING for old ones
check_for_new : expression_of (record (named (codes "p") true) { check = Some never }) Kind.Update side.New ≡ Some never
check_for_new = refl

using_for_old : expression_of (record (named (codes "p") true) { check = Some never }) Kind.Update side.Old ≡ Some always
using_for_old = refl

-- a policy FOR INSERT that has only USING has no expression for new rows
insert_needs_check : expression_of (record (named (codes "p") true) { kind = PolicyKind.Only Kind.Insert }) Kind.Insert side.New ≡ None
insert_needs_check = refl

abbrev with_policies : List Policy → State
with_policies policies = record company { policies = (codes "t", policies) ∷ [] }

-- a policy TO staff applies to alice, and not to board
for_staff_to_alice : applying_of (with_policies (record (named (codes "p") true) { to = Grantee.Role (codes "staff") ∷ [] } ∷ [])) (codes "alice") (codes "t") Kind.Select side.Old ≡ record (named (codes "p") true) { to = Grantee.Role (codes "staff") ∷ [] } ∷ []
unfolding reached_of
for_staff_to_alice = refl

for_staff_not_to_board : applying_of (with_policies (record (named (codes "p") true) { to = Grantee.Role (codes "staff") ∷ [] } ∷ [])) (codes "board") (codes "t") Kind.Select side.Old ≡ []
unfolding reached_of
for_staff_not_to_board = refl

-- ---- what policies say of a row

-- no policy allows nothing
no_policy_denies : verdict_of [] ≡ verdict.NoPermissive
no_policy_denies = refl

-- a restrictive policy alone allows nothing
restrictive_alone_denies : verdict_of ((named (codes "r") false, True) ∷ []) ≡ verdict.NoPermissive
restrictive_alone_denies = refl

-- a condition that is null doesn't pass, be its policy permissive or restrictive
null_permits_nothing : verdict_of ((named (codes "p") true, Unknown) ∷ []) ≡ verdict.NoPermissive
null_permits_nothing = refl

null_restricts : verdict_of ((named (codes "p") true, True) ∷ (named (codes "r") false, Unknown) ∷ []) ≡ verdict.Restrictive (codes "r")
null_restricts = refl

-- of the permissive policies one is enough, of the restrictive ones each is needed
one_permissive_is_enough : verdict_of ((named (codes "a") true, False) ∷ (named (codes "b") true, True) ∷ []) ≡ verdict.By (codes "b")
one_permissive_is_enough = refl

each_restrictive_is_needed : verdict_of ((named (codes "p") true, True) ∷ (named (codes "r") false, True) ∷ (named (codes "s") false, False) ∷ []) ≡ verdict.Restrictive (codes "s")
each_restrictive_is_needed = refl

-- want of a permissive policy is named before a restrictive one that fails
no_permissive_first : verdict_of ((named (codes "p") true, False) ∷ (named (codes "r") false, False) ∷ []) ≡ verdict.NoPermissive
no_permissive_first = refl

-- the policy that is named is the least by its bytes, wherever it stands; a shorter name comes first
least_by_bytes : verdict_of ((named (codes "b") true, True) ∷ (named (codes "a_2") true, True) ∷ (named (codes "a") true, True) ∷ []) ≡ verdict.By (codes "a")
least_by_bytes = refl

least_restrictive : verdict_of ((named (codes "p") true, True) ∷ (named (codes "b") false, False) ∷ (named (codes "a") false, Unknown) ∷ []) ≡ verdict.Restrictive (codes "a")
least_restrictive = refl

-- ---- values

-- with null, AND is false only by a false, and OR true only by a true
unknown_and_false : conjunction_of Unknown False ≡ False
unknown_and_false = refl

unknown_and_true : conjunction_of Unknown True ≡ Unknown
unknown_and_true = refl

unknown_or_true : disjunction_of Unknown True ≡ True
unknown_or_true = refl

unknown_or_false : disjunction_of Unknown False ≡ Unknown
unknown_or_false = refl

not_unknown : negation_of Unknown ≡ Unknown
not_unknown = refl

-- null equals nothing, itself included
null_equals_nothing : equal_values Value.Null Value.Null ≡ Unknown
null_equals_nothing = refl

-- an upper case letter is less than a lower case one, and false less than true
upper_before_lower : less_values (Value.Text (codes "B")) (Value.Text (codes "a")) ≡ True
upper_before_lower = refl

false_before_true : less_values (Value.Bool false) (Value.Bool true) ≡ True
false_before_true = refl

-- null is listed last; numbers by size, and not by their digits
null_listed_last : listed Value.Null (Value.Int (pos 9)) ≡ Greater
null_listed_last = refl

numbers_by_size : listed (Value.Int (pos 9)) (Value.Int (pos 10)) ≡ Less
numbers_by_size = refl

negative_first : listed (Value.Int (negsuc 9)) (Value.Int (pos 0)) ≡ Less
negative_first = refl

-- INTEGER ends at 2147483647 and begins at -2147483648
greatest_integer : fits_type (Value.Int (pos 2147483647)) ColType.Integer ≡ true
greatest_integer = refl

past_integer : fits_type (Value.Int (pos 2147483648)) ColType.Integer ≡ false
past_integer = refl

least_integer : fits_type (Value.Int (negsuc 2147483647)) ColType.Integer ≡ true
least_integer = refl

before_integer : fits_type (Value.Int (negsuc 2147483648)) ColType.Integer ≡ false
before_integer = refl

-- ---- changes and agreement

abbrev first_id : RowId
first_id = record { txn = 1; n = 0 }

abbrev keyed : ℕ → Keyed
keyed n = record { key = Value.Int (pos n) ∷ []; row = Value.Int (pos n) ∷ Value.Null ∷ [] }

abbrev put : List ℕ → Option Keyed → Change
put table content = change.Row (record { table = table; id = first_id; before = None; after = content })

-- a row that is put in is there, and one that is taken away isn't
put_row_is_there : rows_of (changed_all opening (put (codes "t") (Some (keyed 7)) ∷ [])) (codes "t") ≡ record { id = first_id; key = Value.Int (pos 7) ∷ []; row = Value.Int (pos 7) ∷ Value.Null ∷ [] } ∷ []
put_row_is_there = refl

taken_row_is_gone : rows_of (changed_all opening (put (codes "t") (Some (keyed 7)) ∷ put (codes "t") None ∷ [])) (codes "t") ≡ []
taken_row_is_gone = refl

-- of two changes of a role the later counts
later_role_counts : role_of (changed_all opening (change.Role (codes "r") plain ∷ change.Role (codes "r") (record plain { login = false }) ∷ [])) (codes "r") ≡ Some (record plain { login = false })
later_role_counts = refl

-- in the opening state there is postgres, and no other role
postgres_is_there : role_of opening (codes "postgres") ≡ Some (record { superuser = true; login = true; bypass_rls = true })
postgres_is_there = refl

others_are_absent : role_of opening (codes "alice") ≡ None
others_are_absent = refl

-- a state that has a row of t with the key (7) agrees with the opening state on the rows of u and on the key (8) of t, and not on the key (7) of t
agrees_elsewhere : AgreesOn opening (changed_all opening (put (codes "t") (Some (keyed 7)) ∷ [])) (Object.Rows (codes "u") ∷ Object.Key (codes "t") (Value.Int (pos 8) ∷ []) ∷ Object.Role (codes "postgres") ∷ [])
agrees_elsewhere = (refl, (refl, (refl, tt)))

abbrev is_there : List Stored → Bool
is_there [] = false
is_there (stored ∷ more) = true

differs_at_key : AgreesAt opening (changed_all opening (put (codes "t") (Some (keyed 7)) ∷ [])) (Object.Key (codes "t") (Value.Int (pos 7) ∷ [])) → ⊥
differs_at_key same = true≢false (sym (ap is_there same))

-- ---- what a login may set, who is a member, who may grant a membership: bob is a member of team WITH SET FALSE, and of
-- crew WITH INHERIT FALSE and ADMIN; crew is a member of fleet

abbrev with_options : List ℕ → Bool → Bool → Bool → Membership
with_options role admin inherit set = record { role = role; admin = admin; inherit = inherit; set = set }

abbrev harbour : State
harbour = record {
  roles = (codes "bob", plain) ∷ (codes "crew", plain) ∷ (codes "dan", plain) ∷ (codes "fleet", plain) ∷ (codes "root", record { superuser = true; login = true; bypass_rls = false }) ∷ (codes "team", plain) ∷ [];
  members = (codes "bob", with_options (codes "crew") true false true ∷ with_options (codes "team") false true false ∷ []) ∷ (codes "crew", with_options (codes "fleet") false true true ∷ []) ∷ (codes "dan", with_options (codes "bob") false true true ∷ []) ∷ [];
  tables = [];
  grants = [];
  policies = [];
  rows = [];
}

-- bob may set himself, crew and, through crew, fleet; not team, though he has its privileges
may_set_itself : can_set harbour (codes "bob") (codes "bob") ≡ true
unfolding reached_of
may_set_itself = refl

may_set_through : can_set harbour (codes "bob") (codes "fleet") ≡ true
unfolding reached_of
may_set_through = refl

may_not_set_team : can_set harbour (codes "bob") (codes "team") ≡ false
unfolding reached_of
may_not_set_team = refl

has_team : has_privileges_of harbour (codes "bob") (codes "team") ≡ true
unfolding reached_of
has_team = refl

-- and he may set crew, whose privileges he doesn't have
may_set_crew : can_set harbour (codes "bob") (codes "crew") ≡ true
unfolding reached_of
may_set_crew = refl

has_not_crew : has_privileges_of harbour (codes "bob") (codes "crew") ≡ false
unfolding reached_of
has_not_crew = refl

-- a superuser may set any role
superuser_may_set : can_set harbour (codes "root") (codes "team") ≡ true
superuser_may_set = refl

-- bob is a member of team and of fleet, whatever the options; nobody is a member of himself without a membership
member_without_set : is_member harbour (codes "bob") (codes "team") ≡ true
unfolding reached_of
member_without_set = refl

member_by_two : is_member harbour (codes "bob") (codes "fleet") ≡ true
unfolding reached_of
member_by_two = refl

no_member_of_itself : is_member harbour (codes "bob") (codes "bob") ≡ false
unfolding reached_of
no_member_of_itself = refl

-- to grant bob to fleet, or to himself, closes a circle; to grant fleet to bob once more doesn't
circle_closed : closes_circle harbour (codes "bob") (codes "fleet") ≡ true
unfolding reached_of
circle_closed = refl

circle_of_one : closes_circle harbour (codes "bob") (codes "bob") ≡ true
unfolding reached_of
circle_of_one = refl

no_circle : closes_circle harbour (codes "fleet") (codes "bob") ≡ false
unfolding reached_of
no_circle = refl

-- bob holds ADMIN on crew, and so dan, who has his privileges, may grant crew; crew itself may not
admin_grants : may_grant harbour (codes "bob") (codes "crew") ≡ true
unfolding reached_of
admin_grants = refl

admin_inherited : may_grant harbour (codes "dan") (codes "crew") ≡ true
unfolding reached_of
admin_inherited = refl

not_over_itself : may_grant harbour (codes "crew") (codes "crew") ≡ false
unfolding reached_of
not_over_itself = refl

-- ---- grant options: the owner took back what he gave to ann; ann and ben gave each other the grant option, and ben
-- gave SELECT to cid

abbrev given : List ℕ → List ℕ → Bool → Grant
given grantor grantee option = record { privilege = Privilege.Select; grantee = Grantee.Role grantee; grantor = grantor; option = option; column = None; place = 0 }

abbrev circle : List Grant
circle = given (codes "ann") (codes "ben") true ∷ given (codes "ben") (codes "ann") true ∷ given (codes "ben") (codes "cid") false ∷ []

owner_alone : (role : List ℕ) → Options (codes "owner") circle Privilege.Select role → bytes_eq role (codes "owner") ≡ true
owner_alone = options_only (codes "owner") circle Privilege.Select (λ role. bytes_eq role (codes "owner") ≡ true) refl
    (λ grantor grantee own is. absurd (true≢false (sym (subst (λ name. one_of (optioned_by circle Privilege.Select name) grantee ≡ true) (bytes_same grantor (codes "owner") own) is))))

only_owner : AreOptions (codes "owner") circle Privilege.Select (codes "owner" ∷ [])
only_owner role = (
  (λ is. or_either (bytes_eq (codes "owner") role) false is (λ same. subst (Options (codes "owner") circle Privilege.Select) (bytes_same (codes "owner") role same) Owner) (λ never. absurd (true≢false (sym never)))),
  (λ holds. or_left (bytes_eq (codes "owner") role) false (ap (λ name. bytes_eq (codes "owner") name) (bytes_same role (codes "owner") (owner_alone role holds)))),
)

-- the circle holds no grant option: CASCADE leaves nothing of it
circle_falls : LeftAfterRevoke (codes "owner") circle Privilege.Select []
circle_falls = left_by_is (codes "owner") circle Privilege.Select (codes "owner" ∷ []) only_owner

-- and RESTRICT is refused
circle_depends : HasDependents (codes "owner") circle Privilege.Select
circle_depends = (has_dependents_is (codes "owner") circle Privilege.Select (codes "owner" ∷ []) only_owner).0 refl

-- a grant of INSERT by ann stays
other_privilege_stays : left_by (codes "owner" ∷ []) Privilege.Select (record (given (codes "ann") (codes "ben") true) { privilege = Privilege.Insert } ∷ circle) ≡ record (given (codes "ann") (codes "ben") true) { privilege = Privilege.Insert } ∷ []
other_privilege_stays = refl

-- REVOKE by ben from cid leaves the others
revoked_from_cid : without_grant Privilege.Select (Grantee.Role (codes "cid")) (codes "ben") circle ≡ given (codes "ann") (codes "ben") true ∷ given (codes "ben") (codes "ann") true ∷ []
revoked_from_cid = refl

-- REVOKE GRANT OPTION FOR by ann from ben takes the grant option alone
mark_taken : without_option Privilege.Select (Grantee.Role (codes "ben")) (codes "ann") circle ≡ given (codes "ann") (codes "ben") false ∷ given (codes "ben") (codes "ann") true ∷ given (codes "ben") (codes "cid") false ∷ []
mark_taken = refl

-- the grantor: the owner for one with his privileges; else who holds the option himself; else the least by bytes of
-- those whose privileges the role has
grantor_for_owner : grantor_of harbour (codes "dan") (codes "bob") (codes "bob" ∷ codes "dan" ∷ []) ≡ Some (codes "bob")
unfolding reached_of
grantor_for_owner = refl

grantor_itself : grantor_of harbour (codes "dan") (codes "fleet") (codes "fleet" ∷ codes "bob" ∷ codes "dan" ∷ []) ≡ Some (codes "dan")
unfolding reached_of
grantor_itself = refl

grantor_least : grantor_of harbour (codes "dan") (codes "fleet") (codes "fleet" ∷ codes "team" ∷ codes "bob" ∷ []) ≡ Some (codes "bob")
unfolding reached_of
grantor_least = refl

no_grantor : grantor_of harbour (codes "dan") (codes "fleet") (codes "fleet" ∷ codes "crew" ∷ []) ≡ None
unfolding reached_of
no_grantor = refl
