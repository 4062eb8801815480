-- The frame law by the footprint: what is asked comes to the same, and reads the same, in every state that agrees on the
-- footprint of its reads.
use Rattle.std.specs.Prelude.{◌≡◌, List}
use Rattle.std.proofs.Common.{subst}
use Rattle.rls_value.specs.declared.object.Object.{Object}
use Rattle.rls_guard.specs.rls_catalog.specs.State.{State, AgreesOn}
use Rattle.rls_guard.specs.rls_source.specs.Footprints.{footprint_of}
use Rattle.rls_guard.specs.rls_source.specs.Askings.{Asking}
use Rattle.rls_guard.specs.rls_source.specs.Once.{agrees_on_reads}

-- the frame law of whatever is asked
pub framed_by : {A : Type 0} (asking : Asking A) (s : State) (footprint : List Object) → footprint ≡ footprint_of (asking.in_state s).reads
    → (other : State) → AgreesOn s other footprint → asking.in_state other ≡ asking.in_state s
framed_by asking s footprint is other agrees = asking.framed s other (agrees_on_reads s other (asking.in_state s).reads (subst (AgreesOn s other) is agrees))
