-- What is given of what an audit may not be able to say.
use Rattle.std.specs.Prelude.{Result, Ok, Err}
use Rattle.rls_audit_lines.specs.declared.unshown.Unshown.{Unshown}
use Rattle.rls_audit_lines.specs.declared.unshown.Unshown.TheVariants as unshown

-- there is nothing, because it can't be shown or memory ran out
abbrev pub Fails : Unshown → Type 0 → Type 0
Fails unshown.Never Can = ¬ Can
Fails unshown.NoMemory Can = Unit {0}

-- what shows what it is to show, or nothing where that can't be shown, unless memory ran out
abbrev pub Gives : {A : Type 0} → Result A Unshown → Type 0 → (A → Type 0) → Type 0
Gives (Ok x) Can Shows = Shows x
Gives (Err why) Can Shows = Fails why Can
