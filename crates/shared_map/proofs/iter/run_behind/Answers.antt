use Rattle.std.proofs.Common.{rules, arith, ◌≡◌, length}
use Rattle.shared_map.proofs.Left.{left_from}
use Rattle.shared_map.proofs.Runs.{no_items}
use Rattle.shared_map.proofs.iter.run_behind.Goals as goal

pub returns-then-is_empty : goal.returns-then-is_empty
returns-then-is_empty g c =
    let z : length c.args.rest.now ≡ 0 = search rules in
    rw (no_items c.args.rest.now (omega (arith, z))) (left_from g.met.K.Ord.total _ c.run_after.ensures.ordered _ _ c.run_after.ensures.run)
