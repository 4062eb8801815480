use Rattle.std.proofs.Common.{refl}
use Rattle.rls_evaluation.specs.Scoping.{env_of}
use Rattle.rls_evaluation.proofs.CachedSubplanLemmas.{cached_put}
use Rattle.rls_evaluation.proofs.Telling.{on_ok_then}
use Rattle.rls_evaluation.proofs.cached_subplan.CachedSubplan.keep.Goals as goal

pub returns-then-takes : goal.returns-then-takes
returns-then-takes c =
    on_ok_then c.put.result _ _ (λ put. λ relations s read_set here was. cached_put relations c.args.env.now.user.now s read_set c.args.self.now c.put.new.self (env_of c.args.env.now) c.args.answer refl (c.takes.ensures c.if-takes.true) put here was) c.put.ensures

pub returns : goal.returns
returns c = λ relations s read_set here was. c.pass.ensures relations c.args.env.now.user.now s read_set was
