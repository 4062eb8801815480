use Rattle.std.proofs.Common.{◌≡◌, ◌++◌, ◌∷◌, [], OnOk, subst, sym}
use Rattle.rls_printing.specs.Outputs as spec
use Rattle.rls_printing.specs.Outputs.{text_of}
use Rattle.rls_printing.proofs.OutputLemmas.{text_with, chars_space}
use Rattle.rls_printing.proofs.buffer.space.Goals as goal

pub returns-else-none : goal.returns-else-none
returns-else-none c =
    subst (λ b. OnOk c.write.result (text_of c.write.new.text ≡ text_of c.args.text.now ++ spec.space b)) (sym c.if-none.false)
    (text_with c.write.result c.args.text.now c.write.new.text (32 ∷ []) (32 ∷ []) c.write.ensures chars_space)
