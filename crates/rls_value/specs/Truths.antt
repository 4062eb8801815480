-- Kleene's three-valued logic (SQL standard; PostgreSQL manual, 9.1, "Logical Operators").
use Rattle.std.specs.Prelude.{Bool, true, false}
use Rattle.rls_value.specs.declared.truth.Truth.{Truth}
use Rattle.rls_value.specs.declared.truth.Truth.TheVariants.{True, False, Unknown}

-- AND: false if either is false, true if both are true
abbrev pub conjunction_of : Truth → Truth → Truth
conjunction_of True other = other
conjunction_of False other = False
conjunction_of Unknown True = Unknown
conjunction_of Unknown False = False
conjunction_of Unknown Unknown = Unknown

-- OR: true if either is true, false if both are false
abbrev pub disjunction_of : Truth → Truth → Truth
disjunction_of True other = True
disjunction_of False other = other
disjunction_of Unknown True = True
disjunction_of Unknown False = Unknown
disjunction_of Unknown Unknown = Unknown

-- NOT: unknown stays unknown
abbrev pub negation_of : Truth → Truth
negation_of True = False
negation_of False = True
negation_of Unknown = Unknown

-- whether it is true: what WHERE and policies ask
abbrev pub is_true : Truth → Bool
is_true True = true
is_true False = false
is_true Unknown = false

-- the truth value of a test
abbrev pub truth_of : Bool → Truth
truth_of true = True
truth_of false = False
