-- How a graph is computed, step by step.
use Rattle.std.specs.Prelude.{ℕ, Bool, true, false, List, [], ◌∷◌, ◌++◌, ◌+◌, ◌-◌, ◌<◌, ◌≤◌, max, map, length, cond, get_or, set, replicate, Option, Some, None, if◌then◌else◌}
use Rattle.std.specs.List.{flat_map, range_with_len}
use Rattle.rls_value.specs.declared.object.Object.{Object}
use Rattle.rls_explain.specs.rls_meaning.specs.rls_guard.specs.{declared.effect.Effect.Effect, Effects.changes_of}
use Rattle.rls_explain.specs.rls_meaning.specs.rls_guard.specs.rls_source.specs.Footprints.{is_among, with_reads}
use Rattle.rls_audit.specs.rls_conflict.specs.Covering.{covered_of}
use Rattle.rls_check.specs.declared.edges.Before.{Before}
use Rattle.rls_check.specs.declared.edges.Conflict.{Conflict}
use Rattle.rls_check.specs.declared.finding.Finding.{Finding}
use Rattle.rls_check.specs.declared.finding.Finding.TheVariants as f
use Rattle.rls_check.specs.declared.graph_form.Picture.{Picture}
use Rattle.rls_check.specs.declared.graph_form.GraphForm.{GraphForm}
use Rattle.rls_check.specs.declared.transaction.Transaction.{Transaction}
use Rattle.rls_check.specs.declared.walking.Turn.{Turn}
use Rattle.rls_check.specs.declared.works.Work.{Work}
use Rattle.rls_check.specs.Audited.{transaction_at}
use Rattle.rls_check.specs.GraphEdges.{before_edge, conflict_on}
use Rattle.rls_check.specs.GraphTexts.{lines_text, picture_text}
use Rattle.rls_check.specs.Walking.{Standing}

-- each began before it committed
pub record EachBegan (transactions : List Transaction) : Type 0 where
  pub began : (place : ℕ) → place < length transactions → (transaction_at transactions place).snap ≤ place

-- ---- what each transaction read and changed

-- nothing yet
abbrev pub no_work : Work
no_work = record { reads = []; covered = [] }

-- a statement that reads this and comes to that is added
abbrev pub with_statement : Work → List Object → Effect → Work
with_statement it reads effect = record { reads = with_reads it.reads reads; covered = with_reads it.covered (covered_of (changes_of effect)) }

-- the same of a statement of the walk
abbrev pub with_standing : Work → Standing → Work
with_standing it standing = with_statement it standing.reads standing.effect

-- to that of the transaction at the place
abbrev pub noted_with : List Work → ℕ → List Object → Effect → List Work
noted_with works place reads effect = set works place (with_statement (get_or works place no_work) reads effect)

-- and of all transactions
abbrev pub noted : List Work → Standing → List Work
noted works standing = noted_with works standing.place standing.reads standing.effect

-- the same of a turn
abbrev pub noted_turn : List Work → Turn → List Work
noted_turn works turn = noted_with works turn.place turn.outcome.footprint turn.outcome.effect

-- of one statement after another
abbrev pub noted_all : List Work → List Standing → List Work
noted_all works [] = works
noted_all works (it ∷ more) = noted_all (noted works it) more

-- what was found before, or that this statement comes to another answer
abbrev pub found_first : Option Finding → Turn → Option Finding
found_first (Some found) turn = Some found
found_first None turn = if turn.agrees then None else Some (f.Reply turn.ctx.txn turn.number)

-- ---- sets of places, one for each place

-- the numbers from the one on that are below the other
abbrev pub numbers_between : ℕ → ℕ → List ℕ
numbers_between from to = range_with_len from (to - from)

-- the number at the end of one of the sets
abbrev pub with_number : List (List ℕ) → ℕ → ℕ → List (List ℕ)
with_number sets place number = set sets place (get_or sets place [] ++ number ∷ [])

-- at the end of each of these
abbrev pub with_each : List (List ℕ) → List ℕ → ℕ → List (List ℕ)
with_each sets [] number = sets
with_each sets (place ∷ places) number = with_each (with_number sets place number) places number

-- each of the numbers, in their order, at the ends of the sets that its own set names
abbrev pub turned_on : List (List ℕ) → List (List ℕ) → List ℕ → List (List ℕ)
turned_on turned sets [] = turned
turned_on turned sets (number ∷ numbers) = turned_on (with_each turned (get_or sets number []) number) sets numbers

-- from as many empty sets
abbrev pub turned_of : ℕ → List (List ℕ) → List ℕ → List (List ℕ)
turned_of count sets numbers = turned_on (replicate count []) sets numbers

-- ---- who stands right before whom

-- the greatest of the numbers in front of each place, and of all
abbrev pub greatest_from : ℕ → List ℕ → List ℕ
greatest_from most [] = most ∷ []
greatest_from most (snap ∷ snaps) = most ∷ greatest_from (max most snap) snaps

-- the numbers from those in front of a snapshot on that are below it
abbrev pub sets_from : List ℕ → List ℕ → List (List ℕ)
sets_from greatest [] = []
sets_from greatest (snap ∷ snaps) = numbers_between (get_or greatest snap 0) snap ∷ sets_from greatest snaps

-- of each transaction those right before it: they had committed when it began, and none that had done so began after they committed
abbrev pub before_sets : List ℕ → List (List ℕ)
before_sets snaps = sets_from (greatest_from 0 snaps) snaps

-- ---- who is concurrent with whom

-- of each those that committed while it was open
abbrev pub open_sets : ℕ → List ℕ → List (List ℕ)
open_sets place [] = []
open_sets place (snap ∷ snaps) = numbers_between snap place ∷ open_sets (place + 1) snaps

-- of each those that were open while it committed
abbrev pub later_sets : List ℕ → List (List ℕ)
later_sets snaps = turned_of (length snaps) (open_sets 0 snaps) (numbers_between 0 (length snaps))

-- of each those that committed while it was open, and these
abbrev pub near_sets : List (List ℕ) → ℕ → List ℕ → List (List ℕ)
near_sets later place [] = []
near_sets later place (snap ∷ snaps) = (numbers_between snap place ++ get_or later place []) ∷ near_sets later (place + 1) snaps

-- ---- edges

-- those along the places, to each of a set
abbrev pub befores_by : List (List ℕ) → List ℕ → List Before
befores_by sets [] = []
befores_by sets (one ∷ places) = map (before_edge one) (get_or sets one []) ++ befores_by sets places

-- the objects of the first that are among the second
abbrev pub common : List Object → List Object → List Object
common [] others = []
common (object ∷ objects) others = cond (is_among others object) (object ∷ common objects others) (common objects others)

-- the objects that the one read and the other changed
abbrev pub conflicts_between : List Work → ℕ → ℕ → List Conflict
conflicts_between works one other = map (conflict_on one other) (common (get_or works one no_work).reads (get_or works other no_work).covered)

-- those along the places, with each of a set
abbrev pub conflicts_by : List Work → List (List ℕ) → List ℕ → List Conflict
conflicts_by works sets [] = []
conflicts_by works sets (one ∷ places) = flat_map (conflicts_between works one) (get_or sets one []) ++ conflicts_by works sets places

-- ---- pictures

-- the transactions of these are drawn too
abbrev pub drawn_with : List Bool → List Conflict → List Bool
drawn_with drawn [] = drawn
drawn_with drawn (it ∷ more) = drawn_with (set (set drawn it.reader true) it.writer true) more

-- whether the one at the place is drawn
abbrev pub is_at : List Bool → ℕ → Bool
is_at drawn place = get_or drawn place false

-- ---- all

-- how many had committed when it began
abbrev pub snap_of : Transaction → ℕ
snap_of it = it.snap

-- those who stand right before others
abbrev pub befores_along : List ℕ → List ℕ → List Before
befores_along snaps places = befores_by (turned_of (length snaps) (before_sets snaps) places) places

-- the rw-antidependencies among those who are concurrent
abbrev pub conflicts_along : List ℕ → List ℕ → List Work → List Conflict
conflicts_along snaps places works = conflicts_by works (turned_of (length snaps) (near_sets (later_sets snaps) 0 snaps) places) places

-- with those of these that are drawn
abbrev pub picture_or_lines : Option Picture → Bool → List Transaction → List ℕ → List Before → List Conflict → List ℕ
picture_or_lines None all ts places befores conflicts = lines_text ts places befores conflicts
picture_or_lines (Some picture) all ts places befores conflicts = picture_text picture (is_at (drawn_with (replicate (length ts) all) conflicts)) ts places befores conflicts

-- as the form asks
abbrev pub text_with : GraphForm → List Transaction → List ℕ → List Before → List Conflict → List ℕ
text_with form ts places befores conflicts = picture_or_lines form.picture form.all ts places befores conflicts

-- with the edges that are computed
abbrev pub text_by : GraphForm → List Transaction → List ℕ → List Work → List ℕ
text_by form ts places works = text_with form ts places (befores_along (map snap_of ts) places) (conflicts_along (map snap_of ts) places works)
