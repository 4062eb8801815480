use Rattle.std.proofs.Common.{◌≡◌, string_bytes, IfOk, sym, subst}
use Rattle.rls_check.specs.declared.graph_form.Picture.{Picture}
use Rattle.rls_check.specs.GraphTexts.{rw_arrow_between}
use Rattle.rls_check.proofs.pictures.rw_arrow_line.Goals as goal

-- the text is that of the language
pub returns-in-Mermaid : goal.returns-in-Mermaid
unfolding rw_arrow_between
returns-in-Mermaid c = subst (λ (picture : Picture). IfOk c.format.result (λ line. string_bytes line ≡ rw_arrow_between picture c.args.reader c.args.writer (string_bytes c.args.object))) (sym c.in-Mermaid.is) c.format.ensures.ok
