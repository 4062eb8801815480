-- What led to what is seen of a core.
use Rattle.std.specs.Prelude.{◌≡◌, List}
use Rattle.std.specs.List.{All}
use Rattle.rls_statement.specs.declared.statement.Statement.{Statement}
use Rattle.rls_core.specs.Events.{Event, after}
use Rattle.rls_core.specs.Events.Event.{Posts}
use Rattle.rls_core.specs.Seen.{Seen, world_of, core_rules}

-- the statement that it posts, if it posts one, is asked so
abbrev pub PostsAsked : (Statement → Type 0) → Event → Type 0
PostsAsked asks (Posts txn asked) = asks asked
PostsAsked asks _ = Unit {0}

-- events led to it, and each statement that they post is asked so
pub record IsLed (asks : Statement → Type 0) (seen : Seen) : Type 0 where
  pub events : List Event
  pub leads : world_of seen ≡ after core_rules events
  pub asked : All (PostsAsked asks) events

-- it asks nothing: any statement may be run
abbrev pub AsksNothing : (Statement → Type 0) → Type 0
AsksNothing asks = (x : Statement) → asks x
