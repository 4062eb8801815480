-- Laws of transaction blocks.
use Rattle.std.proofs.Common.{◌≡◌, ◌⊎◌, ℕ, List, [], ◌∷◌, Some, Ok, Err, Result, refl, inl, inr, ap}
use Rattle.rls_value.specs.declared.refusal.Refusal.{Refusal}
use Rattle.rls_value.specs.declared.refusal.TxnState.TheVariants.{Over}
use Rattle.rls_statement.specs.declared.command.Command.{Command}
use Rattle.rls_statement.specs.declared.command.Command.TheVariants as c
use Rattle.rls_statement.specs.declared.statement.Statement.{Statement}
use Rattle.rls_script.specs.rls_guard.specs.declared.effect.Effect.{Effect}
use Rattle.rls_script.specs.Requests.{asked}
use Rattle.rls_script.specs.declared.requesting.Ask.TheVariants as a
use Rattle.rls_script.specs.declared.requesting.Status.TheVariants as st
use Rattle.rls_session.specs.Blocks.{behind, committed, inside, outside, role_behind, rolled_back, with_statement}
use Rattle.rls_session.specs.Parts.{Block}

pub over_ends : (read : Result Command Refusal) → (asked st.Over read ≡ Err (Refusal.TxnState Over)) ⊎ ((asked st.Over read ≡ Ok a.Rollback) × ((read ≡ Ok c.Commit) ⊎ (read ≡ Ok c.Rollback)))
over_ends (Ok c.Commit) = inr (refl, inl refl)
over_ends (Ok c.Rollback) = inr (refl, inr refl)
over_ends (Ok (c.Begin mode)) = inl refl
over_ends (Ok (c.Run statement)) = inl refl
over_ends (Err refusal) = inl refl

pub role_gone : (login role : List ℕ) (block : Block) (posts : List (Statement × Effect)) → (rolled_back (inside login role (behind block posts))).session ≡ Some (outside login role)
role_gone login role block posts = refl

role_left : (block : Block) (posts : List (Statement × Effect)) → (behind block posts).role ≡ role_behind block.role posts
role_left block [] = refl
role_left block (post ∷ more) = role_left (with_statement block post.0 post.1) more

pub role_taken : (login role : List ℕ) (block : Block) (posts : List (Statement × Effect)) (number : ℕ) → (committed (inside login role (behind block posts)) (behind block posts) (Ok number)).session ≡ Some (outside login (role_behind block.role posts))
role_taken login role block posts number = ap (λ (left : List ℕ). Some (outside login left)) (role_left block posts)
