use Rattle.std.proofs.Common.{◌≡◌, ◌++◌, ◌||◌, drop, Ok}
use Rattle.rls_value.specs.Giving.{and_then}
use Rattle.rls_dml.specs.Writing.{keys_taken}
use Rattle.rls_dml.proofs.keys.have_taken.Given as goal

-- the same state is asked, and what is left leads to the whole
abbrev pub invariant-loop-key : goal.invariant-loop-key
invariant-loop-key l =
    let whole = (keys_taken l.name l.replaced l.keys).in_state l.fn.asker.state in
    let rest = (keys_taken l.name l.replaced (drop l.key-index l.keys)).in_state l.fn.asker.state in
    record {
      state : l.asker.state ≡ l.fn.asker.state;
      given : whole.gives ≡ and_then rest.gives (λ others. Ok (l.taken || others));
      noted : l.asker.reads ++ rest.reads ≡ l.fn.asker.reads ++ whole.reads;
    }
