use Rattle.std.proofs.Common.{◌≡◌, ◌++◌, OnOk, subst}
use Rattle.rlsdb.proofs.reporting.write_head.Goals as goal

-- the bytes are those of the head
pub returns : goal.returns
returns g c = subst (λ bytes. OnOk c.write_piece.result (g.O.ScriptOut.taken c.write_piece.new.output ≡ g.O.ScriptOut.taken c.args.output.now ++ bytes)) c.in_ok-head.ensures c.write_piece.ensures
