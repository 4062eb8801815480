-- The JSON of lines.
use Rattle.std.specs.Prelude.{◌≡◌, ◌^◌, ℕ, List, codes}
use Rattle.std.proofs.Common.{◌⊎◌, inl, inr, refl}
use Rattle.rls_codec.specs.Codec.{Codec}
use Rattle.rls_codec.specs.Codecs.{natural, natural_below, list_of, via}
use Rattle.rls_codec.specs.Objects.{field, no_fields, kind, no_kind, one_of}
use Rattle.rls_tests.specs.CodedChanges.{change, grant}
use Rattle.rls_tests.specs.CodedStatements.{statement}
use Rattle.rls_tests.specs.declared.coded_changes.Change.{Change}
use Rattle.rls_tests.specs.declared.coded_changes.Grant.{Grant}
use Rattle.rls_tests.specs.declared.coded_statements.Statement.{Statement}
use Rattle.rls_tests.specs.declared.coded_lines.Line.{Line}
use Rattle.rls_tests.specs.declared.coded_lines.Line.TheVariants.{Txn, End}

-- a line, as one of its shapes
abbrev pub LineShape : Type 0
LineShape = (List Change × (List Grant × (List Statement × (ℕ × Unit {0})))) ⊎ ((ℕ × Unit {0}) ⊎ ⊥)

abbrev pub line_to : Line → LineShape
line_to (Txn changes grants statements txn) = inl (changes, (grants, (statements, (txn, tt))))
line_to (End n) = inr (inl (n, tt))

abbrev pub line_from : LineShape → Line
line_from (inl p) = Txn p.0 p.1.0 p.1.1.0 p.1.1.1.0
line_from (inr (inl p)) = End p.0
line_from (inr (inr e)) = absurd e

pub line_same : (l : Line) → line_from (line_to l) ≡ l
line_same (Txn changes grants statements txn) = refl
line_same (End n) = refl

-- a transaction, or the end
abbrev pub line : Codec Line
line = via line_to line_from line_same
    (one_of (kind (field (codes "changes") (list_of change) (field (codes "grants") (list_of grant) (field (codes "statements") (list_of statement) (field (codes "txn") (natural_below (2 ^ 32)) no_fields refl) refl) refl) refl)
    (kind (field (codes "end") natural no_fields refl) no_kind refl) refl))
