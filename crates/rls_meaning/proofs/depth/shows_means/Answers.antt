use Rattle.rls_guard.specs.rls_evaluation.specs.Showing.{shows}
use Rattle.rls_expansion.specs.Relations.{known_in, relations_of}
use Rattle.rls_meaning.specs.Deep.{shows_deep}
use Rattle.rls_meaning.specs.Leading.{all_quals_of}
use Rattle.rls_meaning.proofs.Agreeing.{value_same, allowed_same}
use Rattle.rls_meaning.proofs.Deepening.{dependencies_deep}
use Rattle.rls_meaning.proofs.depth.shows_means.Goals as goal

pub returns-clause-shows : goal.returns-clause-shows
returns-clause-shows c dependencies target own queries reached n user s lead is enough =
    dependencies_deep dependencies reached.secured n user s lead (c.search_means.ensures.ordered dependencies target own queries reached is) enough

pub returns-clause-value : goal.returns-clause-value
returns-clause-value c dependencies target own queries reached n user s lead is enough t env within =
    value_same t (shows (relations_of (known_in dependencies) dependencies reached.secured) user) (shows_deep n (all_quals_of dependencies) user) reached.secured env s
    (dependencies_deep dependencies reached.secured n user s lead (c.search_means.ensures.ordered dependencies target own queries reached is) enough) within

pub returns-clause-allowed : goal.returns-clause-allowed
returns-clause-allowed c dependencies target own queries reached n user s lead is enough quals row within =
    allowed_same quals (shows (relations_of (known_in dependencies) dependencies reached.secured) user) (shows_deep n (all_quals_of dependencies) user) reached.secured user row s
    (dependencies_deep dependencies reached.secured n user s lead (c.search_means.ensures.ordered dependencies target own queries reached is) enough) within
