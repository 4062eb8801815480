-- What each event makes of the transactions.
use Rattle.std.specs.Prelude.{ℕ, suc, ◌==◌, cond, Option, Some, None, List, [], ◌∷◌, ◌++◌, length}
use Rattle.rls_history.specs.States.{States}
use Rattle.rls_history.specs.Statements.{Statements}
use Rattle.rls_history.specs.Explained.{Entry, new_entry, history_by, state_at}
use Rattle.rls_history.specs.Worlds.{Event, Running, World, Setup, sees, is_taken}
use Rattle.rls_history.specs.Worlds.Event.{Begin, Post, Commit, Rollback}

-- those that run, with this one, or none, under the number
abbrev pub with_running : {X : Type 0} → ℕ → Option X → (ℕ → Option X) → ℕ → Option X
with_running txn it running i = cond (i == txn) it (running i)

-- a transaction that runs, after a statement: what this comes to in the state that it sees is added, and what it reads there is noted
abbrev pub posted : {s : States} → {m : Statements s} → Setup m → List (Entry m) → Running m → m.Statement → Running m
posted {s} {m} setup committed it asked =
    let state = sees setup committed it.entry in
    let outcome = m.step it.now asked state in
    record {
      entry = record {
        snap = it.entry.snap;
        start = it.entry.start;
        statements = it.entry.statements ++ asked ∷ [];
        replies = it.entry.replies ++ outcome.reply ∷ [];
        changes = it.entry.changes ++ outcome.changes;
        noted = setup.note it.entry.noted (m.reads it.now asked state);
      };
      now = outcome.next;
    }

-- a statement is posted; where an object that it writes is taken the transaction ends, with nothing changed
abbrev pub post : {s : States} → {m : Statements s} → Setup m → World m → ℕ → m.Statement → Option (Running m) → World m
post {s} {m} setup w txn asked None = w
post {s} {m} setup w txn asked (Some it) = record {
  committed = w.committed;
  running = with_running txn
      (cond (is_taken w txn it.entry.snap (m.step it.now asked (sees setup w.committed it.entry)).changes) None (Some (posted setup w.committed it asked)))
      w.running;
  next = w.next;
}

-- a transaction commits, and is the next in the order of commits; where the test refuses it, it ends
abbrev pub commit : {s : States} → {m : Statements s} → Setup m → World m → ℕ → Option (Running m) → World m
commit {s} {m} setup w txn None = w
commit {s} {m} setup w txn (Some it) = record {
  committed = cond (setup.test (history_by m (w.committed ++ it.entry ∷ [])) (length w.committed)) w.committed (w.committed ++ it.entry ∷ []);
  running = with_running txn None w.running;
  next = w.next;
}

-- a transaction begins: it takes the next number, and for its snapshot all commits so far
abbrev pub begin : {s : States} → {m : Statements s} → World m → m.Start → World m
begin {s} {m} w start = record {
  committed = w.committed;
  running = with_running w.next (Some (record { entry = new_entry m (length w.committed) (m.begin w.next start); now = m.begin w.next start })) w.running;
  next = suc w.next;
}

-- what one event makes of the world; a beginning that isn't admitted, and what asks for a transaction that doesn't run, leaves all as it was
abbrev pub happens : {s : States} → {m : Statements s} → Setup m → World m → Event m.Start m.Statement → World m
happens {s} {m} setup w (Begin start) = cond (m.admits start (state_at m setup.opening w.committed (length w.committed))) (begin w start) w
happens {s} {m} setup w (Post txn asked) = post setup w txn asked (w.running txn)
happens {s} {m} setup w (Commit txn) = commit setup w txn (w.running txn)
happens {s} {m} setup w (Rollback txn) = record { committed = w.committed; running = with_running txn None w.running; next = w.next }

-- what events make of the world, one after another
abbrev pub run : {s : States} → {m : Statements s} → Setup m → World m → List (Event m.Start m.Statement) → World m
run {s} {m} setup w [] = w
run {s} {m} setup w (event ∷ more) = run setup (happens setup w event) more

-- nothing has happened; the first transaction gets this number
abbrev pub nothing_yet : {s : States} → (m : Statements s) → ℕ → World m
nothing_yet m first = record { committed = []; running = λ i. None; next = first }

-- the world after the events, with nothing before them
abbrev pub after : {s : States} → {m : Statements s} → Setup m → ℕ → List (Event m.Start m.Statement) → World m
after {s} {m} setup first events = run setup (nothing_yet m first) events
