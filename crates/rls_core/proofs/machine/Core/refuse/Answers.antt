use Rattle.std.proofs.Common.{sym, ◌∙◌, refl}
use Rattle.rls_core.proofs.RefusalLemmas.{serial_ends, not_ready}
use Rattle.rls_core.proofs.machine.Core.refuse.Goals as goal

pub returns-then-is_serial : goal.returns-then-is_serial
returns-then-is_serial c = serial_ends c.args.self.now c.end.new.self c.args.txn c.args.refusal (sym c.is_serial.ensures ∙ c.if-is_serial.true) c.requires c.end.ensures.happens

pub returns : goal.returns
returns c = not_ready c.args.self.now c.args.self.now c.args.txn c.args.refusal (sym c.is_serial.ensures ∙ c.if-is_serial.false) c.requires refl
