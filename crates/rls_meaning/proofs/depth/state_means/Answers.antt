use Rattle.rls_guard.specs.rls_evaluation.specs.Showing.{shows}
use Rattle.rls_expansion.specs.Relations.{known_in, relations_of}
use Rattle.rls_meaning.specs.Deep.{shows_deep, state_quals}
use Rattle.rls_meaning.proofs.Agreeing.{value_same, allowed_same}
use Rattle.rls_meaning.proofs.Stating.{state_deep_enough}
use Rattle.rls_meaning.proofs.depth.state_means.Goals as goal

pub returns-clause-shows : goal.returns-clause-shows
returns-clause-shows c role_privileges s tables dependencies target own queries reached n user given within is enough =
    state_deep_enough s role_privileges tables dependencies target own queries reached n user given within is (c.search_means.ensures.ordered dependencies target own queries reached is) enough

pub returns-clause-value : goal.returns-clause-value
returns-clause-value c role_privileges s tables dependencies target own queries reached n user given within is enough t env among =
    value_same t (shows (relations_of (known_in dependencies) dependencies reached.secured) user) (shows_deep n (state_quals s role_privileges) user) reached.secured env s
    (state_deep_enough s role_privileges tables dependencies target own queries reached n user given within is (c.search_means.ensures.ordered dependencies target own queries reached is) enough) among

pub returns-clause-allowed : goal.returns-clause-allowed
returns-clause-allowed c role_privileges s tables dependencies target own queries reached n user given within is enough quals row among =
    allowed_same quals (shows (relations_of (known_in dependencies) dependencies reached.secured) user) (shows_deep n (state_quals s role_privileges) user) reached.secured user row s
    (state_deep_enough s role_privileges tables dependencies target own queries reached n user given within is (c.search_means.ensures.ordered dependencies target own queries reached is) enough) among
