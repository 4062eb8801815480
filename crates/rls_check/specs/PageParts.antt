-- How a page tells the parts of a condition, each with what it comes to: as lists in lists.
use Rattle.std.specs.Prelude.{ℕ, suc, zero, List, [], ◌∷◌, ◌++◌, ◌-◌, true, false, length, codes, nat_eq, nat_lt, if◌then◌else◌, Option, Some, None}
use Rattle.std.specs.List.{flat_map}
use Rattle.rls_value.specs.declared.value.Value.{Value}
use Rattle.rls_value.specs.declared.value.Value.TheVariants as v
use Rattle.rls_expr.specs.Terms.{Term}
use Rattle.rls_explain.specs.declared.details.{Part.Part, Seen.Seen, SeenRow.SeenRow}
use Rattle.rls_check.specs.LongParts.{comes_text, expr_text, seen_line}
use Rattle.rls_check.specs.Pieces.{Data, Number, Piece, Tag, page_text}
use Rattle.rls_check.specs.ShownTexts.{rows_word}

-- ---- lists in lists

-- so many times these
abbrev pub repeated : ℕ → List ℕ → List Piece
repeated zero markup = []
repeated (suc n) markup = Tag markup ∷ repeated n markup

-- from an item to the next one on its level or one further out
abbrev pub steps_back : ℕ → ℕ → List Piece
steps_back level next = repeated (level - next) (codes "</li></ul>") ++ (Tag (codes "</li>\n<li>") ∷ [])

-- from an item on a level to the next one
abbrev pub steps_between : ℕ → ℕ → List Piece
steps_between level next =
    if nat_lt level next then repeated (next - level) (codes "<ul><li>")
    else steps_back level next

-- ---- a part

-- what the mark in front of it shows
abbrev pub comes_tag : Value → List ℕ
comes_tag (v.Bool true) = codes "<b class=\"true\">"
comes_tag (v.Bool false) = codes "<b class=\"false\">"
comes_tag v.Null = codes "<b class=\"null\">"
comes_tag value = codes "<b>"

-- the same with the values
abbrev pub values_of : Term → List Piece
values_of t = Tag (codes " <span class=\"v vals\">") ∷ Data (expr_text t) ∷ Tag (codes "</span>") ∷ []

abbrev pub values_pieces : Option Term → List Piece
values_pieces None = []
values_pieces (Some t) = values_of t

-- a row that a subquery sees
abbrev pub sees_row : Seen → SeenRow → List Piece
sees_row seen row = Tag (codes "<li><span class=\"v vals\">") ∷ Data (seen_line [] seen row) ∷ Tag (codes "</span></li>") ∷ []

-- that it sees none, how many more, and how many are hidden from it
abbrev pub no_row_of : List ℕ → List Piece
no_row_of table = Tag (codes "<li class=\"dim\">sees no row of ") ∷ Data table ∷ Tag (codes "</li>") ∷ []

abbrev pub sees_none : Seen → List Piece
sees_none seen = if nat_eq (length seen.rows) 0 then no_row_of seen.table else []

abbrev pub more_of : ℕ → List ℕ → List Piece
more_of n table = Tag (codes "<li class=\"dim\">sees ") ∷ Number n ∷ Tag (codes " more") ∷ Tag (rows_word n) ∷ Tag (codes " of ") ∷ Data table ∷ Tag (codes "</li>") ∷ []

abbrev pub sees_more : Seen → List Piece
sees_more seen = if nat_eq seen.more 0 then [] else more_of seen.more seen.table

abbrev pub hidden_of : ℕ → List ℕ → List Piece
hidden_of n table = Tag (codes "<li class=\"dim\">hidden: ") ∷ Number n ∷ Tag (rows_word n) ∷ Tag (codes " of ") ∷ Data table ∷ Tag (codes "</li>") ∷ []

abbrev pub sees_not : Seen → List Piece
sees_not seen = if nat_eq seen.hidden 0 then [] else hidden_of seen.hidden seen.table

abbrev pub sees_all : Seen → List Piece
sees_all seen = Tag (codes "<ul>") ∷ (flat_map (sees_row seen) seen.rows ++ (sees_none seen ++ (sees_more seen ++ (sees_not seen ++ (Tag (codes "</ul>") ∷ [])))))

abbrev pub sees_pieces : Option Seen → List Piece
sees_pieces None = []
sees_pieces (Some seen) = sees_all seen

-- what it comes to, the part, and what its own subquery sees
abbrev pub part_pieces : Part → List Piece
part_pieces part =
    Tag (comes_tag part.value) ∷ Data (comes_text part.value) ∷ Tag (codes "</b> <span class=\"v\">") ∷ Data (expr_text part.expression) ∷ Tag (codes "</span>") ∷ (values_pieces part.values ++ sees_pieces part.sees)

-- ---- all of a condition

-- the ends of all lists
abbrev pub ends_from : ℕ → List Piece
ends_from level = repeated level (codes "</li></ul>") ++ (Tag (codes "</li></ul>\n") ∷ [])

-- a part behind one on this level
abbrev pub next_pieces : ℕ → Part → List Piece
next_pieces level part = steps_between level part.level ++ part_pieces part

-- those behind a part on this level, and the ends; as they are written
abbrev pub parts_behind : ℕ → List Part → List Piece
parts_behind level [] = ends_from level
parts_behind level (part ∷ parts) = next_pieces level part ++ parts_behind part.level parts

abbrev pub texts_behind : ℕ → List Part → List ℕ
texts_behind level [] = page_text (ends_from level)
texts_behind level (part ∷ parts) = page_text (next_pieces level part) ++ texts_behind part.level parts

-- the first of them opens the list
abbrev pub parts_from : Part → List Part → List Piece
parts_from part parts = Tag (codes "<ul class=\"p\"><li>") ∷ (repeated part.level (codes "<ul><li>") ++ (part_pieces part ++ parts_behind part.level parts))

abbrev pub parts_pieces : List Part → List Piece
parts_pieces [] = []
parts_pieces (part ∷ parts) = parts_from part parts
