-- Whom a state's mistakes are about: the roles that can be the current one of a session that logs in as no superuser; and what row
-- security asks of them.
use Rattle.std.specs.Prelude.{ℕ, List, [], ◌∷◌, Bool, ◌&&◌, ◌||◌, not, filter, map}
use Rattle.std.specs.List.{list_any}
use Rattle.rls_value.specs.declared.verb.Kind.{Kind}
use Rattle.rls_value.specs.declared.verb.Kind.TheVariants as k
use Rattle.rls_expr.specs.Scopes.{InScope}
use Rattle.rls_catalog.specs.{Membership.attributes_of, Paths.can_set, State.State, Verdict.is_exempt}

-- the roles of the state
abbrev pub roles_of : State → List (List ℕ)
roles_of s = map (λ entry. entry.0) s.roles

-- the role may log in, and is no superuser
abbrev pub is_login : State → List ℕ → Bool
is_login s role = (attributes_of s role).login && not (attributes_of s role).superuser

-- the role can be the current one of a session that logs in as no superuser: it is such a login itself, or one that such a login
-- may set; these are the roles that there are
abbrev pub is_user : State → List (List ℕ) → List ℕ → Bool
is_user s roles role = is_login s role || list_any (λ login. is_login s login && can_set s login role) roles

-- those of the roles that can be
abbrev pub users_of : State → List (List ℕ) → List (List ℕ)
users_of s roles = filter (is_user s roles) roles

-- the types of command
abbrev pub kinds : List Kind
kinds = k.Select ∷ k.Insert ∷ k.Update ∷ k.Delete ∷ []

-- row security binds the role on the table
abbrev pub is_bound : State → List ℕ → InScope → Bool
is_bound s role from = not (is_exempt s role from.1)
