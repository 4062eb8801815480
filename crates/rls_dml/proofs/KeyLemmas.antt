-- What is read to tell whether keys are taken: each key, in order.
use Rattle.std.specs.Prelude.{◌≡◌, refl, ℕ, List, [], ◌∷◌, ◌++◌, Result, Ok, Err}
use Rattle.std.proofs.Common.{ap, sym, ◌∙◌, append-nil, append_assoc}
use Rattle.rls_value.specs.declared.refusal.Refusal.{Refusal}
use Rattle.rls_value.specs.declared.object.Object.{Object}
use Rattle.rls_value.specs.declared.object.Object.TheVariants as o
use Rattle.rls_value.specs.declared.value.Value.{Value}
use Rattle.rls_guard.specs.rls_catalog.specs.declared.stored.Stored.{Stored}
use Rattle.rls_guard.specs.rls_catalog.specs.State.{State}
use Rattle.rls_guard.specs.rls_source.specs.Readings.{unread, next_reads}
use Rattle.rls_dml.specs.Writing.{keys_taken}

none_next : {A B : Type 0} (given : Result A Refusal) (settle : A → Result B Refusal) → next_reads given (λ a. unread (settle a)) ≡ []
none_next (Ok a) settle = refl
none_next (Err refusal) settle = refl

-- one key more is one read more
pub taken_reads : (s : State) (table : List ℕ) (replaced : List Stored) (key : List Value) (keys : List (List Value))
    → ((keys_taken table replaced (key ∷ keys)).in_state s).reads ≡ o.Key table key ∷ ((keys_taken table replaced keys).in_state s).reads
taken_reads s table replaced key keys =
    ap (λ more. o.Key table key ∷ (((keys_taken table replaced keys).in_state s).reads ++ more)) (none_next ((keys_taken table replaced keys).in_state s).gives _)
    ∙ ap (λ reads. o.Key table key ∷ reads) (append-nil ((keys_taken table replaced keys).in_state s).reads)

-- a key's read and the others' are the reads of them all
pub taken_next : (now : State) (table : List ℕ) (replaced : List Stored) (key : List Value) (keys left : List (List Value)) (reads new whole : List Object) → left ≡ key ∷ keys → new ≡ reads ++ o.Key table key ∷ []
    → reads ++ ((keys_taken table replaced left).in_state now).reads ≡ whole → new ++ ((keys_taken table replaced keys).in_state now).reads ≡ whole
taken_next now table replaced key keys left reads new whole is read rest =
    ap (λ all. all ++ ((keys_taken table replaced keys).in_state now).reads) read
    ∙ append_assoc reads (o.Key table key ∷ []) ((keys_taken table replaced keys).in_state now).reads
    ∙ ap (λ more. reads ++ more) (sym (ap (λ ks. ((keys_taken table replaced ks).in_state now).reads) is ∙ taken_reads now table replaced key keys))
    ∙ rest
