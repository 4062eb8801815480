use Rattle.std.proofs.Common.{◌≡◌, string_bytes, IfOk, sym, subst}
use Rattle.rls_check.specs.declared.graph_form.Picture.{Picture}
use Rattle.rls_check.specs.GraphTexts.{arrow_between}
use Rattle.rls_check.proofs.pictures.arrow_line.Goals as goal

-- the text is that of the language
pub returns-in-Mermaid : goal.returns-in-Mermaid
unfolding arrow_between
returns-in-Mermaid c = subst (λ (picture : Picture). IfOk c.format.result (λ line. string_bytes line ≡ arrow_between picture c.args.one c.args.other)) (sym c.in-Mermaid.is) c.format.ensures.ok

pub returns-in-Dot : goal.returns-in-Dot
unfolding arrow_between
returns-in-Dot c = subst (λ (picture : Picture). IfOk c.format-in-Dot.result (λ line. string_bytes line ≡ arrow_between picture c.args.one c.args.other)) (sym c.in-Dot.is) c.format-in-Dot.ensures.ok
