-- The edges of the graph of a history: which transaction comes before which, and which read what a concurrent one changed.
use Rattle.std.specs.Prelude.{ℕ, Bool, ◌&&◌, not, List, map, filter}
use Rattle.std.specs.List.{flat_map}
use Rattle.rls_value.specs.declared.object.Object.{Object}
use Rattle.rls_history.specs.History.{History, any_below, before, rw}
use Rattle.rls_check.specs.declared.edges.Before.{Before}
use Rattle.rls_check.specs.declared.edges.Conflict.{Conflict}
use Rattle.rls_check.specs.declared.transaction.Transaction.{Transaction}
use Rattle.rls_check.specs.Walking.{Standing}
use Rattle.rls_check.specs.GraphHistory.{history_in, objects_between}

-- the one committed before the other began, and no third stands between them: what follows from two others is left out
abbrev pub is_right_before : History → ℕ → ℕ → Bool
is_right_before h one other = before h one other && not (any_below (λ third. before h one third && before h third other) h.count)

-- such an edge
abbrev pub before_edge : ℕ → ℕ → Before
before_edge one other = record { one = one; other = other }

-- a rw-antidependency on the object
abbrev pub conflict_on : ℕ → ℕ → Object → Conflict
conflict_on reader writer object = record { reader = reader; writer = writer; object = object }

-- `before`, in the order of the one at these places, and then of the other
abbrev pub befores_of : History → List ℕ → List Before
befores_of h places = flat_map (λ one. map (before_edge one) (filter (is_right_before h one) places)) places

-- the rw-antidependencies in the same order, one for each object that the one read and the other, concurrent with it, changed
abbrev pub conflicts_of : List Transaction → List Standing → List ℕ → List Conflict
conflicts_of transactions standings places =
    flat_map (λ one. flat_map (λ other. map (conflict_on one other) (objects_between standings one other)) (filter (rw (history_in transactions standings) one) places)) places
