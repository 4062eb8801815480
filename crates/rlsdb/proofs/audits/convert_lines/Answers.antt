use Rattle.std.proofs.Common.{◌≡◌, ℕ, List, subst, ◌++◌, ◌∷◌, []}
use Rattle.rls_check.specs.Wholes.{HasConverted}
use Rattle.rlsdb.specs.AuditLines.{ReadsNext, ended_lines}
use Rattle.rlsdb.specs.declared.audit_file.NextLine.TheVariants as came
use Rattle.rlsdb.proofs.LineLemmas.{last_read, one_more, written_more}
use Rattle.rlsdb.proofs.audits.convert_lines.Goals as goal

pub returns-in-Last-clause-lines : goal.returns-in-Last-clause-lines
returns-in-Last-clause-lines g c =
    let so = c.loop.invariant in
    let line = c.next_line.new.line.items in
    let before = g.I.ScriptIn.given c.loop.input.input in
    let after = g.I.ScriptIn.given c.next_line.new.self.input in
    let ended = g.I.ScriptIn.ended c.next_line.new.self.input in
    let taken = g.O.ScriptOut.taken c.args.output.now in
    let took = g.O.ScriptOut.taken c.convert_line-in-Last.new.output in
    let behind = c.in_ok-convert_line-in-Last.field-0 in
    let next : ReadsNext came.Last before after ended line = subst (λ it. ReadsNext it before after ended line) c.in-Last.is c.in_ok-next_line.ensures.line in
    let one = c.in_ok-convert_line-in-Last.ensures so.0 so.1 so.4 in
    last_read (λ texts. (written : List (List ℕ)) × (took ≡ taken ++ ended_lines written) × HasConverted texts written behind) (g.I.ScriptIn.given c.args.input.now.input) before after so.0 line ended so.2 next (
      so.1 ++ (one.text ∷ []),
      written_more taken (g.O.ScriptOut.taken c.loop.output) took so.1 one.text so.3 one.grew,
      subst (λ l. HasConverted (so.0 ++ (l ∷ [])) (so.1 ++ (one.text ∷ [])) behind) c.as_slice-in-Last.ensures.value one.converted,
    )

pub loop-preserved : goal.loop-preserved
loop-preserved g c =
    let so = c.loop.invariant in
    let line = c.next_line.new.line.items in
    let before = g.I.ScriptIn.given c.loop.input.input in
    let after = g.I.ScriptIn.given c.next_line.new.self.input in
    let ended = g.I.ScriptIn.ended c.next_line.new.self.input in
    let taken = g.O.ScriptOut.taken c.args.output.now in
    let took = g.O.ScriptOut.taken c.convert_line.new.output in
    let behind = c.in_ok-converter-in-Whole.converter in
    let next : ReadsNext came.Whole before after ended line = subst (λ it. ReadsNext it before after ended line) c.in-Whole.is c.in_ok-next_line.ensures.line in
    let one = c.in_ok-converter-in-Whole.ensures so.0 so.1 so.4 in (
      so.0 ++ (line ∷ []),
      so.1 ++ (one.text ∷ []),
      one_more (g.I.ScriptIn.given c.args.input.now.input) before after so.0 line so.2 next,
      written_more taken (g.O.ScriptOut.taken c.loop.output) took so.1 one.text so.3 one.grew,
      subst (λ l. HasConverted (so.0 ++ (l ∷ [])) (so.1 ++ (one.text ∷ [])) behind) c.as_slice.ensures.value one.converted,
    )
