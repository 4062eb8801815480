-- The chain that the code is handed.
use Rattle.std.specs.Prelude.{ℕ, List, [], ◌∷◌}
use Rattle.rls_recursion.specs.declared.searching.Chain.{Chain, Nothing, Over'}

-- its tables, the last first
abbrev pub chain_of : Chain → List (List ℕ)
chain_of Nothing = []
chain_of (Over' name p rest) = name.now ∷ chain_of rest
