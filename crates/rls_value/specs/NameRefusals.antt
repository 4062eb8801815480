-- What a text may be refused with where a name is wanted.
use Rattle.rls_value.specs.declared.refusal.Refusal.{Refusal}
use Rattle.rls_value.specs.declared.refusal.Refusal.TheVariants.{NoMemory, Syntax, Limit}
use Rattle.rls_value.specs.declared.refusal.Limit.TheVariants as limit

-- what a text may be refused with where a name is wanted
abbrev pub RefusesName : Refusal → Type 0
RefusesName NoMemory = Unit {0}
RefusesName Syntax = Unit {0}
RefusesName (Limit limit.Name) = Unit {0}
RefusesName _ = ⊥
