-- Statements over states, and transactions run alone.
use Rattle.std.specs.Prelude.{ℕ, Bool, List, [], ◌∷◌, ◌++◌}
use Rattle.rls_history.specs.States.{States, put_all}

-- what a statement comes to: its reply (with all that is told beside it), its changes, and what the transaction goes on with
pub record Outcome (Change Context Reply : Type 0) : Type 0 where
  pub reply : Reply
  pub changes : List Change
  pub next : Context

-- What statements come to in states. The context is all that a transaction carries from one statement to the next, as its number
-- and its role; the reply is all that is told of a statement, refusals among it.
pub record Statements (s : States) : Type 1 where
  pub Context : Type 0
  pub Statement : Type 0
  pub Reply : Type 0
  -- what is asked of a transaction's beginning
  pub Start : Type 0
  -- what a statement comes to in a state
  pub step : Context → Statement → s.State → Outcome s.Change Context Reply
  -- the objects that it reads
  pub reads : Context → Statement → s.State → List s.Object
  -- the context in which the transaction of that number begins, and whether it may
  pub begin : ℕ → Start → Context
  pub admits : Start → s.State → Bool
  -- that of one which isn't there
  pub no_context : Context

-- the replies to statements one after another, with nothing beside them
abbrev pub replies_alone : {s : States} → (m : Statements s) → m.Context → List m.Statement → s.State → List m.Reply
replies_alone {s} m context [] state = []
replies_alone {s} m context (asked ∷ more) state =
    (m.step context asked state).reply ∷ replies_alone m (m.step context asked state).next more (put_all s (m.step context asked state).changes state)

-- the changes of statements one after another, with nothing beside them
abbrev pub changes_alone : {s : States} → (m : Statements s) → m.Context → List m.Statement → s.State → List s.Change
changes_alone {s} m context [] state = []
changes_alone {s} m context (asked ∷ more) state =
    (m.step context asked state).changes ++ changes_alone m (m.step context asked state).next more (put_all s (m.step context asked state).changes state)

-- the objects that statements one after another read
abbrev pub reads_alone : {s : States} → (m : Statements s) → m.Context → List m.Statement → s.State → List s.Object
reads_alone {s} m context [] state = []
reads_alone {s} m context (asked ∷ more) state =
    m.reads context asked state ++ reads_alone m (m.step context asked state).next more (put_all s (m.step context asked state).changes state)

-- the context after statements one after another
abbrev pub context_alone : {s : States} → (m : Statements s) → m.Context → List m.Statement → s.State → m.Context
context_alone {s} m context [] state = context
context_alone {s} m context (asked ∷ more) state = context_alone m (m.step context asked state).next more (put_all s (m.step context asked state).changes state)
