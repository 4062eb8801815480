use Rattle.std.specs.Prelude.{◌≡◌, ℕ, Option, IfOk}
use Rattle.std.proofs.Common.{sym, subst}
use Rattle.rls_value.specs.declared.object.Object.{Object}
use Rattle.rls_siread.specs.Locks.{held_in}
use Rattle.rls_siread.specs.Index.{held_at, holders_by}
use Rattle.rls_siread.proofs.alone.copy_index.Goals as goal

pub returns-in-Some : goal.returns-in-Some
returns-in-Some c =
    subst (λ (alone : Option ℕ). IfOk c.index_of.result (λ copied. (object : Object) → held_at copied.holders.entries object ≡ held_in (holders_by alone c.args.index.now.holders.entries c.args.notes.now.entries) object)) (sym c.in-Some.is)
    c.index_of.ensures

pub returns-in-None : goal.returns-in-None
returns-in-None c =
    subst (λ (alone : Option ℕ). IfOk c.copy.result (λ copied. (object : Object) → held_at copied.holders.entries object ≡ held_in (holders_by alone c.args.index.now.holders.entries c.args.notes.now.entries) object)) (sym c.in-None.is)
    c.copy.ensures
