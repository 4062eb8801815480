-- What a way through a map has left, where it stands at a run of the entries.
use Rattle.std.specs.Prelude.{List, [], ◌∷◌, true}
use Rattle.std.specs.declared.cmp.Ordering.{Ordering}
use Rattle.shared_map.specs.Entries.{entries_from, is_reached}

module _ {K X : Type 0} (cmp : K → K → Ordering) (es : List (K × X)) where
  -- the rest of a run after e, and then the entries after the last key of the run
  abbrev pub entries_after : K × X → List (K × X) → List (K × X)
  entries_after e [] = entries_from (is_reached (cmp e.0) true) es
  entries_after e (f ∷ run) = f ∷ entries_after f run

  -- the run, and then the entries after its last key
  abbrev pub entries_left : List (K × X) → List (K × X)
  entries_left [] = []
  entries_left (e ∷ run) = e ∷ entries_after e run
