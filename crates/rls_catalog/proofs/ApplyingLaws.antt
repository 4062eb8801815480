-- States that agree on what is read have the same policies apply.
use Rattle.std.specs.Prelude.{◌≡◌, refl, ℕ, List, [], Option, Some, None, Bool, true, false, if◌then◌else◌}
use Rattle.std.proofs.Common.{ap, sym, ◌∙◌}
use Rattle.rls_expr.specs.rls_value.specs.declared.verb.Kind.{Kind}
use Rattle.rls_expr.specs.declared.table.TableDef.{TableDef}
use Rattle.rls_catalog.specs.declared.verdict.Side.{Side}
use Rattle.rls_catalog.specs.State.{State, table_of, AgreesOn}
use Rattle.rls_catalog.proofs.StateLaws.{agrees-append}
use Rattle.rls_catalog.specs.Verdict.{is_exempt, exempt_reads, applying_of, applying_reads}
use Rattle.rls_catalog.proofs.Frames.{exempt_frame, applying_frame}
use Rattle.rls_catalog.specs.Applying.{applying_on, applying_to, applying_on_reads, applying_to_reads}

unless_exempt : (exempt : Bool) (s other : State) (role table : List ℕ) (kind : Kind) (which : Side)
    → AgreesOn s other (if exempt then [] else applying_reads s role table kind which)
    → (if exempt then [] else applying_of other role table kind which) ≡ (if exempt then [] else applying_of s role table kind which)
unless_exempt true s other role table kind which agrees = refl
unless_exempt false s other role table kind which agrees = applying_frame s other role table kind which agrees

on_frame : (found : Option TableDef) (s other : State) (role table : List ℕ) (kind : Kind) (which : Side)
    → AgreesOn s other (applying_on_reads found s role table kind which)
    → applying_on found other role table kind which ≡ applying_on found s role table kind which
on_frame None s other role table kind which agrees = refl
on_frame (Some def) s other role table kind which agrees =
    let parts = agrees-append s other (exempt_reads s role def) (if is_exempt s role def then [] else applying_reads s role table kind which) agrees in
    ap (λ exempt. if exempt then [] else applying_of other role table kind which) (exempt_frame s other role def parts.0)
    ∙ unless_exempt (is_exempt s role def) s other role table kind which parts.1

-- states that agree on what is read have the same policies apply
pub applying_to_frame : (s other : State) (role table : List ℕ) (kind : Kind) (which : Side) → AgreesOn s other (applying_to_reads s role table kind which)
    → applying_to other role table kind which ≡ applying_to s role table kind which
applying_to_frame s other role table kind which agrees =
    ap (λ found. applying_on found other role table kind which) (sym agrees.0)
    ∙ on_frame (table_of s table) s other role table kind which agrees.1
