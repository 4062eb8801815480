-- SET ROLE and RESET ROLE (PostgreSQL manual, SET ROLE): the login, and not the current role, tells which roles may be set.
use Rattle.std.specs.Prelude.{◌≡◌, refl, ℕ, List, [], ◌∷◌, Some, Bool, true, false, Result, Ok, Err, if◌then◌else◌}
use Rattle.std.proofs.Common.{ap, ◌∙◌}
use Rattle.rls_value.specs.{declared.object.Object.Object, declared.refusal.Refusal.Refusal, declared.refusal.Refusal.TheVariants.Denied}
use Rattle.rls_value.specs.declared.refusal.Why.TheVariants as why
use Rattle.rls_guard.specs.rls_catalog.specs.{State.State, State.AgreesOn, Membership.attributes_of, Membership.walk_reads, Paths.has_set, Paths.path_reads, Paths.can_set, Paths.can_set_reads}
use Rattle.rls_guard.specs.rls_catalog.proofs.{Frames.attributes_frame, PathFrames.path_frame, PathFrames.can_set_frame}
use Rattle.rls_statement.specs.declared.statement.SetRole.{SetRole}
use Rattle.rls_statement.specs.declared.statement.SetRole.TheVariants as set
use Rattle.rls_guard.specs.{declared.context.Ctx.Ctx, declared.effect.Effect.Effect}
use Rattle.rls_guard.specs.declared.effect.Effect.TheVariants as effect
use Rattle.rls_guard.specs.declared.reply.Reply.TheVariants as reply
use Rattle.rls_guard.specs.rls_source.specs.{Askings.Asking, Askings.IsFramed, Askings.known, Askings.followed_by, Named.role_or_undefined}

-- ---- whether the login may set the role

-- whether the login may set the role
unfoldable pub may_set : State → List ℕ → List ℕ → Bool
may_set s login role = can_set s login role

-- what it reads to tell
unfoldable pub may_set_reads : State → List ℕ → List Object
may_set_reads s login = can_set_reads s login

reads_if : (b : Bool) (s other : State) (login : List ℕ) → AgreesOn s other (if b then [] else path_reads has_set s login)
    → (if b then [] else path_reads has_set other login) ≡ (if b then [] else path_reads has_set s login)
reads_if true s other login agrees = refl
reads_if false s other login agrees = ap walk_reads (path_frame has_set s other login agrees)

set_reads_frame : (s other : State) (login : List ℕ) → AgreesOn s other (can_set_reads s login) → can_set_reads other login ≡ can_set_reads s login
set_reads_frame s other login agrees =
    ap (λ def. Object.Role login ∷ (if def.superuser then [] else path_reads has_set other login)) (attributes_frame s other login agrees.0)
    ∙ ap (λ reads. Object.Role login ∷ reads) (reads_if (attributes_of s login).superuser s other login agrees.1)

pub may_set_framed : (login role : List ℕ) → IsFramed (λ s. record { gives = Ok (may_set s login role); reads = may_set_reads s login })
unfolding may_set may_set_reads
may_set_framed login role s other agrees i = record {
  gives = Ok (can_set_frame s other login role agrees i);
  reads = set_reads_frame s other login agrees i;
}

-- the login is a superuser, or reaches the role over memberships whose SET option is true
abbrev pub asked_may_set : List ℕ → List ℕ → Asking Bool
asked_may_set login role = record { in_state = λ s. record { gives = Ok (may_set s login role); reads = may_set_reads s login }; framed = may_set_framed login role }

-- ---- the statements

-- nothing is written; the role is the current one from now on
abbrev pub sets : List ℕ → Effect
sets role = effect.Done reply.Done [] [] (Some role)

-- the role is set, or the login is denied it
abbrev pub set_or_denied : List ℕ → Bool → Result Effect Refusal
set_or_denied role may = if may then Ok (sets role) else Err (Denied (why.SetRole role))

-- the login has to be one that may set the role
unfoldable pub role_set : List ℕ → List ℕ → Asking Effect
role_set login role = followed_by (asked_may_set login role) (λ may. known (set_or_denied role may))

-- a role that is set has to be there; to go back to the login nothing is asked
abbrev pub set_role : Ctx → SetRole → Asking Effect
set_role ctx (set.To role) = followed_by (role_or_undefined role) (λ _. role_set ctx.login role)
set_role ctx set.None = known (Ok (sets ctx.login))
set_role ctx set.Reset = known (Ok (sets ctx.login))
