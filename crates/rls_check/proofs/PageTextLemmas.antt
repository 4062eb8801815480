-- What a page has of lists that are told along their elements.
use Rattle.std.proofs.Common.{◌≡◌, ◌≤◌, refl, ℕ, length, List, [], ◌∷◌, ◌++◌, sym, ap, ◌∙◌}
use Rattle.std.proofs.lemmas.Option.{slice_get_past}
use Rattle.rls_value.specs.declared.value.Value.{Value}
use Rattle.rls_expr.specs.declared.table.Column.{Column}
use Rattle.rls_explain.specs.declared.details.Part.{Part}
use Rattle.rls_check.specs.declared.tallies.Tally.{Tally}
use Rattle.rls_check.specs.declared.transaction.Transaction.{Transaction}
use Rattle.rls_check.specs.PageParts.{ends_from, next_pieces, parts_behind, texts_behind}
use Rattle.rls_check.specs.PageRows.{behind_first, cell_pieces, cell_texts, cells_pieces}
use Rattle.rls_check.specs.Pieces.{page_text}
use Rattle.rls_check.specs.Plots.{bar_at, drawn_if}
use Rattle.rls_check.proofs.PieceLemmas.{page_both, page_nothing}

parts_text : (level : ℕ) (parts : List Part) → texts_behind level parts ≡ page_text (parts_behind level parts)
parts_text level [] = refl
parts_text level (part ∷ parts) =
    ap (λ rest. page_text (next_pieces level part) ++ rest) (parts_text part.level parts) ∙ sym (page_both (next_pieces level part) (parts_behind part.level parts))

-- what is written of one part behind another
pub behind : (old new : List ℕ) (level : ℕ) (parts : List Part) → new ≡ old ++ texts_behind level parts → new ≡ old ++ page_text (parts_behind level parts)
behind old new level parts grew = grew ∙ ap (λ it. old ++ it) (parts_text level parts)

cells_text : (columns : List Column) (values others : List Value) → cell_texts columns values others ≡ page_text (cells_pieces columns values others)
cells_text [] values others = page_nothing []
cells_text (column ∷ columns) [] others = page_nothing []
cells_text (column ∷ columns) (value ∷ values) others =
    ap (λ rest. page_text (cell_pieces column value others) ++ rest) (cells_text columns values (behind_first others))
    ∙ sym (page_both (cell_pieces column value others) (cells_pieces columns values (behind_first others)))

-- what is written of one cell behind another
pub cells : (old new : List ℕ) (columns : List Column) (values others : List Value) → new ≡ old ++ cell_texts columns values others → new ≡ old ++ page_text (cells_pieces columns values others)
cells old new columns values others grew = grew ∙ ap (λ it. old ++ it) (cells_text columns values others)

-- nothing is written of a place behind all
pub no_bar : (columns lines : List ℕ) (ts : List Transaction) (tallies : List Tally) (place : ℕ) (bytes : List ℕ) → length ts ≤ place → bytes ≡ bytes ++ page_text (bar_at columns lines ts tallies place)
no_bar columns lines ts tallies place bytes past =
    page_nothing bytes ∙ ap (λ found. bytes ++ page_text (drawn_if columns lines tallies place found)) (sym (slice_get_past ts place past))
