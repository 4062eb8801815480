use Rattle.std.proofs.Common.{◌≡◌, sym, ap, ◌∙◌, map}
use Rattle.rls_core.specs.Posts.{statement_of, effect_of}
use Rattle.rls_core.specs.Calls.{statements_at, effects_at}
use Rattle.rls_core.proofs.machine.Core.posts.Goals as goal

pub returns-in-Some-clause-statements : goal.returns-in-Some-clause-statements
returns-in-Some-clause-statements c = ap (map statement_of) c.posts.ensures ∙ sym (ap statements_at c.in-Some.ensures.some.runs)

pub returns-in-Some-clause-effects : goal.returns-in-Some-clause-effects
returns-in-Some-clause-effects c = ap (map effect_of) c.posts.ensures ∙ sym (ap effects_at c.in-Some.ensures.some.runs)
