-- A structure in which a transaction takes part is a cause that can be named, and a cause names one.
use Rattle.std.specs.Prelude.{◌≡◌, ℕ, ◌<◌, ◌≤◌, List, true, refl, ◌⊎◌}
use Rattle.std.proofs.Common.{arith, inl, inr}
use Rattle.std.proofs.lemmas.Bool.{and_parts}
use Rattle.rls_value.specs.declared.object.Object.{Object}
use Rattle.rls_value.specs.declared.refusal.Cause.{Cause}
use Rattle.rls_value.specs.declared.refusal.Cause.TheVariants as c
use Rattle.rls_catalog.specs.Bases.{covers_any}
use Rattle.rls_source.specs.Footprints.{is_object}
use Rattle.rls_source.specs.FootprintLaws.{is_object_same}
use Rattle.rls_history.specs.History.{concurrent, rw}
use Rattle.rls_history.specs.Structures.{IsInStructure}
use Rattle.rls_conflict.specs.Transactions.{Transaction, at, reads_from, history_of}
use Rattle.rls_conflict.specs.Causes.{IsReadBy, IsCauseOf}
use Rattle.rls_conflict.proofs.WritingLemmas.{any_from_in, in_from_any}

-- the object by which a rw-antidependency holds
read_by : (transactions : List Transaction) (one other : ℕ) → rw (history_of transactions) one other ≡ true → (object : Object) × IsReadBy object (at transactions one) (at transactions other)
read_by transactions one other is =
    let parts = and_parts (concurrent (history_of transactions) one other) (reads_from (at transactions one).noted (at transactions other).changes) is in
    let found = in_from_any (λ object. covers_any object (at transactions other).changes) (at transactions one).noted parts.1 in (
      found.0,
      record { noted = any_from_in (is_object found.0) found.0 (at transactions one).noted found.1 ((is_object_same found.0 found.0).1 refl); written = found.2 },
    )

-- the last of the three isn't the last to commit
not_last : (first pivot last place : ℕ) → last < pivot → pivot ≤ place → (first ≡ place) ⊎ ((pivot ≡ place) ⊎ (last ≡ place)) → (first ≡ place) ⊎ (pivot ≡ place)
not_last first pivot last place below within takes = elim takes [
  | inl one ↦ inl one
  | inr others ↦ elim others [
    | inl two ↦ inr two
    | inr three ↦ (let none : ⊥ = omega arith in absurd none)
  ]
]

pub cause_from : (transactions : List Transaction) (place : ℕ) → IsInStructure (history_of transactions) place → (cause : Cause) × IsCauseOf transactions place cause
cause_from transactions place it =
    let one = read_by transactions it.first it.pivot it.is.read_by_first in
    let two = read_by transactions it.pivot it.last it.is.read_by_pivot in (
      c.Structure (at transactions it.first).number one.0 (at transactions it.pivot).number two.0 (at transactions it.last).number,
      record {
        first = it.first;
        pivot = it.pivot;
        last = it.last;
        one = one.0;
        two = two.0;
        structure = it.is;
        names = refl;
        by_first = one.1;
        by_pivot = two.1;
        first_within = it.first_within;
        pivot_within = it.pivot_within;
        takes_part = not_last it.first it.pivot it.last place it.is.last_before_pivot it.pivot_within it.takes_part;
      },
    )

part_of : (first pivot last place : ℕ) → (first ≡ place) ⊎ (pivot ≡ place) → (first ≡ place) ⊎ ((pivot ≡ place) ⊎ (last ≡ place))
part_of first pivot last place takes = elim takes [ inl one ↦ inl one | inr two ↦ inr (inl two) ]

within : (last pivot place : ℕ) → last < pivot → pivot ≤ place → last ≤ place
within last pivot place below most = omega arith

pub structure_from : (transactions : List Transaction) (place : ℕ) (cause : Cause) → IsCauseOf transactions place cause → IsInStructure (history_of transactions) place
structure_from transactions place cause it = record {
  first = it.first;
  pivot = it.pivot;
  last = it.last;
  first_within = it.first_within;
  pivot_within = it.pivot_within;
  last_within = within it.last it.pivot place it.structure.last_before_pivot it.pivot_within;
  takes_part = part_of it.first it.pivot it.last place it.takes_part;
  is = it.structure;
}
