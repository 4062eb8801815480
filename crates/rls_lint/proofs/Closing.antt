-- Where a command's expansion is refused, and where it isn't.
use Rattle.std.specs.Prelude.{◌≡◌, ℕ, List, Option, Some, None, Result, Ok, Err}
use Rattle.std.proofs.Common.{ap, sym, ◌∙◌}
use Rattle.rls_value.specs.declared.refusal.Refusal.{Refusal}
use Rattle.rls_value.specs.declared.refusal.Refusal.TheVariants.{Recursion}
use Rattle.rls_catalog.specs.State.{State}
use Rattle.rls_meaning.specs.rls_expansion.specs.declared.expansion.PolicyExpansion.{PolicyExpansion}
use Rattle.rls_meaning.specs.Commands.{Command, closing_in}
use Rattle.rls_meaning.specs.Expanding.{IsExpanded, Made, Refused, expansion_in}

-- the table that is refused
abbrev met : Result PolicyExpansion Refusal → Option (List ℕ)
met (Err (Recursion t)) = Some t
met _ = None

-- an expansion that is made closes nowhere
pub closes_nowhere : (s : State) (c : Command) (p : PolicyExpansion) → IsExpanded s c → expansion_in s c ≡ Ok p → None ≡ closing_in s c
closes_nowhere s c p (Refused t refused closes) made = ap met (sym made ∙ refused) ∙ sym closes
closes_nowhere s c p (Made q is none same) made = sym none

-- one that is refused closes on that table
pub closes_on : (s : State) (c : Command) (t : List ℕ) → IsExpanded s c → expansion_in s c ≡ Err (Recursion t) → Some t ≡ closing_in s c
closes_on s c t (Refused u refused closes) is = ap met (sym is ∙ refused) ∙ sym closes
closes_on s c t (Made q made none same) is = ap met (sym is ∙ made) ∙ sym none
