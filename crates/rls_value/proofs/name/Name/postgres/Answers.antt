use Rattle.std.proofs.Common.{List, ℕ, refl, ap, sym, subst, ◌∙◌}
use Rattle.rls_value.specs.Names.{IsName, postgres, reserved}
use Rattle.rls_value.specs.NameHeads.{head_of}
use Rattle.rls_value.proofs.name.Name.postgres.Goals as goal

postgres_is : IsName postgres
unfolding reserved
postgres_is = record { lower = refl; word = refl; free = refl }

pub invariant_of-result : goal.invariant_of-result
invariant_of-result c =
    let is = sym c.in_ok-from_str.ensures.ok in
    (subst IsName is postgres_is, c.head_of.ensures.value ∙ ap (λ (xs : List ℕ). head_of 8 xs) is)
