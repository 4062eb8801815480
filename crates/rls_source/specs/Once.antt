-- What is read as a set: each object once, in order. States that agree on a footprint agree on the reads that it is of.
use Rattle.std.specs.Prelude.{◌≡◌, refl, List, [], ◌∷◌, true}
use Rattle.std.proofs.Common.{ap, sym, subst, ◌∙◌}
use Rattle.std.proofs.lemmas.Bool.{true≢false, or_left, or_right}
use Rattle.rls_catalog.specs.rls_value.specs.declared.object.Object.{Object}
use Rattle.rls_catalog.specs.State.{State, AgreesAt, AgreesOn}
use Rattle.rls_catalog.proofs.Inheriting.{or_either}
use Rattle.rls_source.specs.Footprints.{footprint_of, is_object, is_among}
use Rattle.rls_source.specs.FootprintLaws.{is_object_same, among_footprint}
use Rattle.rls_source.specs.Readings.{Reading}
use Rattle.rls_source.specs.Askings.{Asking, IsFramed}

agrees_at_each : (s other : State) (objects : List Object) (object : Object) → is_among objects object ≡ true → AgreesOn s other objects → AgreesAt s other object
agrees_at_each s other [] object is agrees = absurd (true≢false (sym is))
agrees_at_each s other (x ∷ xs) object is agrees =
    or_either (is_object object x) (is_among xs object) is (λ same. subst (AgreesAt s other) (sym ((is_object_same object x).0 same)) agrees.0) (λ more. agrees_at_each s other xs object more agrees.1)

agrees_within : (s other : State) (objects reads : List Object) → ((object : Object) → is_among reads object ≡ true → is_among objects object ≡ true) → AgreesOn s other objects → AgreesOn s other reads
agrees_within s other objects [] within agrees = tt
agrees_within s other objects (read ∷ reads) within agrees = (
  agrees_at_each s other objects read (within read (or_left (is_object read read) (is_among reads read) ((is_object_same read read).1 refl))) agrees,
  agrees_within s other objects reads (λ object is. within object (or_right (is_object object read) (is_among reads object) is)) agrees,
)

-- states that agree on a footprint agree on the reads
pub agrees_on_reads : (s other : State) (reads : List Object) → AgreesOn s other (footprint_of reads) → AgreesOn s other reads
agrees_on_reads s other reads agrees = agrees_within s other (footprint_of reads) reads (λ object is. among_footprint reads object ∙ is) agrees

-- the same, each object being read once
abbrev pub read_once : {A : Type 0} → Reading A → Reading A
read_once reading = record { gives = reading.gives; reads = footprint_of reading.reads }

pub framed_once : {A : Type 0} (asking : Asking A) → IsFramed (λ s. read_once (asking.in_state s))
framed_once asking s other agrees = ap read_once (asking.framed s other (agrees_on_reads s other (asking.in_state s).reads agrees))

-- the same question, each object being read once
abbrev pub each_once : {A : Type 0} → Asking A → Asking A
each_once asking = record { in_state = λ s. read_once (asking.in_state s); framed = framed_once asking }
