use Rattle.std.proofs.Common.{rules, arith, ap, ◌≡◌, ◌+◌, ◌∷◌, drop}
use Rattle.std.proofs.lemmas.Grind.{common_steps}
use Rattle.rls_dml.proofs.KeyLemmas.{taken_next}
use Rattle.rls_dml.proofs.keys.have_taken.Goals as goal

-- one key more is looked up
pub loop-key-preserved : goal.loop-key-preserved
loop-key-preserved c =
    let left : drop c.loop-key.key-index c.args.keys.now ≡ c.key-item.result ∷ drop (c.loop-key.key-index + 1) c.args.keys.now = grind (arith, common_steps) in
    record {
      state = search rules;
      given = grind (arith, common_steps);
      noted = taken_next c.args.asker.now.state c.args.name.now c.args.replaced.now c.key-item.result (drop (c.loop-key.key-index + 1) c.args.keys.now) (drop c.loop-key.key-index c.args.keys.now)
          c.loop-key.asker.reads c.by_key.new.self.reads _ left (ap (λ asked. asked.reads) c.in_ok-found.ensures.told.noted) c.loop-key.invariant.noted;
    }
