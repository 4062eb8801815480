-- What is said of events, and what holds after every list of them: the headline.
use Rattle.std.specs.Prelude.{ℕ, suc, map, ◌≡◌, ◌≤◌, List, ◌∷◌, [], ◌++◌, length}
use Rattle.rls_history.specs.Orders.{IsOrder}
use Rattle.rls_history.specs.States.{States, put_all}
use Rattle.rls_history.specs.Transactions.{nth}
use Rattle.rls_history.specs.Statements.{Statements}
use Rattle.rls_history.specs.Explained.{Entry, entry_at, transaction_of, history_by, state_at, Explains, FindSnapshots}
use Rattle.rls_history.specs.Worlds.{Running, World, Event, Setup, sees}
use Rattle.rls_history.specs.Events.{posted, happens, after}
use Rattle.rls_history.specs.Lawful.{Conditions, IsSetUp}

-- the claim holds after every list of events, whatever the setup and the first number
abbrev pub AfterEvents : {s : States} → {m : Statements s} → Conditions m → (Setup m → World m → Type 0) → Type 0
AfterEvents {s} {m} c Claim = (setup : Setup m) (first : ℕ) (events : List (Event m.Start m.Statement)) → IsSetUp c setup → Claim setup (after setup first events)

-- the committed transactions have an order that keeps `before` and `rw`
abbrev pub HasOrder : {s : States} → {m : Statements s} → Setup m → World m → Type 0
HasOrder {s} {m} setup w = (order : List ℕ) × IsOrder (history_by m w.committed) order

-- each order that keeps `before` and `rw` explains what is recorded of the committed transactions
abbrev pub EachExplains : {s : States} → {m : Statements s} → Setup m → World m → Type 0
EachExplains {s} {m} setup w = (order : List ℕ) → IsOrder (history_by m w.committed) order → Explains m setup.opening w.committed order setup.opening

-- in each order that keeps `before` and `rw` each transaction finds what its snapshot had
abbrev pub EachFindsSnapshots : {s : States} → {m : Statements s} → Setup m → World m → Type 0
EachFindsSnapshots {s} {m} setup w = (order : List ℕ) → IsOrder (history_by m w.committed) order → FindSnapshots m setup.opening w.committed order setup.opening

-- one event more is one step more
abbrev pub OneMore : {s : States} → Statements s → Type 0
OneMore m = (setup : Setup m) (first : ℕ) (events : List (Event m.Start m.Statement)) (event : Event m.Start m.Statement)
    → after setup first (events ++ event ∷ []) ≡ happens setup (after setup first events) event

-- committed states stand for good
abbrev pub StatesStand : {s : States} → Statements s → Type 0
StatesStand {s} m = (opening : s.State) (committed : List (Entry m)) (entry : Entry m) (n : ℕ) → n ≤ length committed
    → state_at m opening (committed ++ entry ∷ []) n ≡ state_at m opening committed n

-- one commit more puts its changes on the last of them
abbrev pub StatesGrow : {s : States} → Statements s → Type 0
StatesGrow {s} m = (opening : s.State) (committed : List (Entry m)) (entry : Entry m)
    → state_at m opening (committed ++ entry ∷ []) (suc (length committed)) ≡ put_all s entry.changes (state_at m opening committed (length committed))

-- a statement puts its changes on the state that its transaction sees
abbrev pub ViewsGrow : {s : States} → Statements s → Type 0
ViewsGrow {s} m = (setup : Setup m) (committed : List (Entry m)) (it : Running m) (asked : m.Statement)
    → sees setup committed (posted setup committed it asked).entry ≡ put_all s (m.step it.now asked (sees setup committed it.entry)).changes (sees setup committed it.entry)

-- the history knows of each entry what others can conflict with
abbrev pub EntriesAreKnown : {s : States} → Statements s → Type 0
EntriesAreKnown {s} m = (committed : List (Entry m)) (i : ℕ) → nth s (map (transaction_of m) committed) i ≡ transaction_of m (entry_at m committed i)
