-- How the parts of a condition are written, each with what it comes to.
use Rattle.std.specs.Prelude.{ℕ, zero, suc, List, [], ◌∷◌, ◌++◌, true, false, length, codes, encode_utf8_all, nat_eq, if◌then◌else◌, Option, Some, None}
use Rattle.std.specs.Fmt.{decimal}
use Rattle.std.specs.List.{flat_map}
use Rattle.rls_value.specs.{declared.value.Value.Value, Objects.row_id_text, Values.literal_text}
use Rattle.rls_value.specs.declared.value.Value.TheVariants as v
use Rattle.rls_expr.specs.Terms.{Term}
use Rattle.rls_audit.specs.rls_printing.specs.Outputs.{output_tokens_text}
use Rattle.rls_audit.specs.rls_printing.specs.ExprForms as form
use Rattle.rls_explain.specs.declared.details.{Part.Part, Seen.Seen, SeenRow.SeenRow}
use Rattle.rls_explain.specs.Texts.{truth_word}
use Rattle.rls_audit.specs.rls_printing.specs.Escaped.{escaped_line}
use Rattle.rls_check.specs.ShownRows.{values_text}
use Rattle.rls_check.specs.ShownTexts.{rows_word}

-- two blanks, and two more for each part that it stands in
abbrev pub indent : ℕ → List ℕ
indent zero = codes "  "
indent (suc level) = codes "  " ++ indent level

-- ---- a part

-- an expression in its one written form
abbrev pub expr_text : Term → List ℕ
expr_text t = encode_utf8_all (output_tokens_text true (form.expr t))

-- a truth value, or a value of another type
abbrev pub comes_text : Value → List ℕ
comes_text (v.Bool true) = codes "true"
comes_text (v.Bool false) = codes "false"
comes_text v.Null = codes "null"
comes_text value = literal_text value

-- the same with the values, behind a mark
abbrev pub compared_text : Option Term → List ℕ
compared_text None = []
compared_text (Some t) = codes "   -- " ++ expr_text t

-- what it comes to, and the part
abbrev pub part_line : List ℕ → Part → List ℕ
part_line before part = before ++ (comes_text part.value ++ (codes ": " ++ (expr_text part.expression ++ compared_text part.values)))

-- ---- the rows that a subquery sees

-- a row, and what WHERE says of it
abbrev pub seen_line : List ℕ → Seen → SeenRow → List ℕ
seen_line before seen row =
    before ++ (codes "  sees " ++ (seen.table ++ (codes " " ++ (row_id_text row.id ++ (codes " " ++ (values_text seen.columns row.row ++ (codes ": WHERE " ++ truth_word row.truth)))))))

-- that there is none
abbrev pub no_row_text : List ℕ → Seen → List ℕ
no_row_text before seen = if nat_eq (length seen.rows) 0 then escaped_line (before ++ (codes "  sees no row of " ++ seen.table)) else []

-- how many more
abbrev pub more_text : List ℕ → Seen → List ℕ
more_text before seen =
    if nat_eq seen.more 0 then []
    else escaped_line (before ++ (codes "  sees " ++ (decimal seen.more ++ (codes " more" ++ (rows_word seen.more ++ (codes " of " ++ seen.table))))))

-- how many are hidden from it
abbrev pub hidden_word : ℕ → List ℕ
hidden_word n = if nat_eq n 1 then codes " is hidden" else codes " are hidden"

abbrev pub hidden_text : List ℕ → Seen → List ℕ
hidden_text before seen =
    if nat_eq seen.hidden 0 then []
    else escaped_line (before ++ (codes "  " ++ (decimal seen.hidden ++ (rows_word seen.hidden ++ (codes " of " ++ (seen.table ++ hidden_word seen.hidden))))))

-- all of it, one level in
abbrev pub seen_text : List ℕ → Seen → List ℕ
seen_text before seen = flat_map (λ row. escaped_line (seen_line before seen row)) seen.rows ++ (no_row_text before seen ++ (more_text before seen ++ hidden_text before seen))

abbrev pub seen_if : List ℕ → Option Seen → List ℕ
seen_if before None = []
seen_if before (Some seen) = seen_text before seen

-- a part, and what its own subquery sees
abbrev pub part_text : Part → List ℕ
part_text part = escaped_line (part_line (indent part.level) part) ++ seen_if (indent part.level) part.sees
