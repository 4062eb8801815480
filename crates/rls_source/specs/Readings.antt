-- What is asked of a state gives, and the objects that are read for it.
use Rattle.std.specs.Prelude.{List, [], ◌∷◌, ◌++◌, Result, Ok, Err}
use Rattle.rls_catalog.specs.rls_value.specs.declared.refusal.Refusal.{Refusal}
use Rattle.rls_catalog.specs.rls_value.specs.declared.object.Object.{Object}
use Rattle.rls_catalog.specs.rls_value.specs.Giving.{and_then}

-- a value or a refusal, and the objects that tell it
pub record Reading (A : Type 0) : Type 0 where
  pub gives : Result A Refusal
  pub reads : List Object

-- what takes no read
abbrev pub unread : {A : Type 0} → Result A Refusal → Reading A
unread result = record { gives = result; reads = [] }

-- what one object tells
abbrev pub told : {A : Type 0} → Object → A → Reading A
told object content = record { gives = Ok content; reads = object ∷ [] }

-- what is read next: nothing behind a refusal
abbrev pub next_reads : {A B : Type 0} → Result A Refusal → (A → Reading B) → List Object
next_reads (Ok a) next = (next a).reads
next_reads (Err refusal) next = []

-- one after another: the first refusal stands
abbrev pub read_then : {A B : Type 0} → Reading A → (A → Reading B) → Reading B
read_then first next = record { gives = and_then first.gives (λ a. (next a).gives); reads = first.reads ++ next_reads first.gives next }

-- what is given settles something, also where it is a refusal
abbrev pub read_settled : {A B : Type 0} → Reading A → (Result A Refusal → B) → Reading B
read_settled first settle = record { gives = Ok (settle first.gives); reads = first.reads }
