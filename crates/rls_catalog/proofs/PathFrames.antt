-- States that agree on what a walk over paths reads give the same: which roles a login may set, which membership closes a
-- circle.
use Rattle.std.specs.Prelude.{◌≡◌, refl, ℕ, List, [], ◌∷◌, Bool, true, false, ◌||◌, if◌then◌else◌, map}
use Rattle.std.proofs.Common.{ap, sym, ◌∙◌}
use Rattle.rls_expr.specs.rls_value.specs.Names.{one_of}
use Rattle.rls_catalog.specs.declared.role.Membership.{Membership}
use Rattle.rls_catalog.specs.State.{State, AgreesOn}
use Rattle.rls_catalog.specs.Membership.{attributes_of, walk_reads}
use Rattle.rls_catalog.proofs.Frames.{reached_frame, attributes_frame}
use Rattle.rls_catalog.specs.Paths.{has_set, is_any, marked, inheriting, reached_where, can_set, path_reads, can_set_reads, circle_reads}
use Rattle.rls_catalog.proofs.Reaching.{marked_members}

marked_agrees : (test : Membership → Bool) (s other : State) (names : List (List ℕ)) → AgreesOn s other (walk_reads names) → AgreesOn (inheriting test s) (inheriting test other) (walk_reads names)
marked_agrees test s other [] agrees = tt
marked_agrees test s other (x ∷ xs) agrees =
    (agrees.0, (marked_members test x s.members ∙ ap (map (marked test)) agrees.1.0 ∙ sym (marked_members test x other.members), marked_agrees test s other xs agrees.1.1))

-- the roles that are met
pub path_frame : (test : Membership → Bool) (s other : State) (role : List ℕ) → AgreesOn s other (path_reads test s role) → reached_where test other role ≡ reached_where test s role
path_frame test s other role agrees = reached_frame (inheriting test s) (inheriting test other) role (marked_agrees test s other (reached_where test s role) agrees)

set_if : (superuser : Bool) (s other : State) (login role : List ℕ) → AgreesOn s other (if superuser then [] else path_reads has_set s login)
    → (superuser || one_of (reached_where has_set other login) role) ≡ (superuser || one_of (reached_where has_set s login) role)
set_if true s other login role agrees = refl
set_if false s other login role agrees = ap (λ names. one_of names role) (path_frame has_set s other login agrees)

-- which roles a login may set
pub can_set_frame : (s other : State) (login role : List ℕ) → AgreesOn s other (can_set_reads s login) → can_set other login role ≡ can_set s login role
can_set_frame s other login role agrees =
    ap (λ def. def.superuser || one_of (reached_where has_set other login) role) (attributes_frame s other login agrees.0)
    ∙ set_if (attributes_of s login).superuser s other login role agrees.1

-- the roles to which a path leads from the one that is granted
pub circle_frame : (s other : State) (granted : List ℕ) → AgreesOn s other (circle_reads s granted) → reached_where is_any other granted ≡ reached_where is_any s granted
circle_frame s other granted agrees = path_frame is_any s other granted agrees
