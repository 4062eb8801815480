-- How a graph is written: as lines, or as a picture in Mermaid or DOT.
use Rattle.std.specs.Prelude.{ℕ, Bool, List, [], ◌∷◌, ◌++◌, ◌+◌, ◌&&◌, ◌||◌, nat_eq, filter, codes, Option, Some, None}
use Rattle.std.specs.Fmt.{decimal}
use Rattle.std.specs.List.{flat_map, list_any}
use Rattle.rls_value.specs.Objects.{object_text}
use Rattle.rls_statement.specs.declared.statement.Statement.{Statement}
use Rattle.rls_audit.specs.Printed.{printed_text}
use Rattle.rls_audit.specs.rls_printing.specs.Escaped.{escaped_line}
use Rattle.rls_check.specs.declared.edges.Before.{Before}
use Rattle.rls_check.specs.declared.edges.Conflict.{Conflict}
use Rattle.rls_check.specs.declared.graph_form.Picture.{Picture}
use Rattle.rls_check.specs.declared.graph_form.Picture.TheVariants as p
use Rattle.rls_check.specs.declared.graph_form.GraphForm.{GraphForm}
use Rattle.rls_check.specs.declared.transaction.Transaction.{Transaction}
use Rattle.rls_check.specs.Audited.{asked_of, transaction_at}
use Rattle.rls_check.specs.GraphEdges.{befores_of, conflicts_of}
use Rattle.rls_check.specs.GraphHistory.{history_in}
use Rattle.rls_check.specs.GraphLabels.{label_text}
use Rattle.rls_check.specs.Walking.{Standing}

-- the number of the transaction at the place
abbrev pub txn_text : List Transaction → ℕ → List ℕ
txn_text transactions place = decimal (transaction_at transactions place).txn

-- ---- lines

-- a transaction, with the number of its commit
unfoldable pub head_of : ℕ → Transaction → List ℕ
head_of place it = codes "txn " ++ (decimal it.txn ++ (codes " commit " ++ (decimal (place + 1) ++ (codes " snap " ++ (decimal it.snap ++ (codes " login " ++ it.begin.login))))))

-- who stands before whom
abbrev pub before_line : List Transaction → Before → List ℕ
before_line ts it = codes "before " ++ (txn_text ts it.one ++ (codes " " ++ txn_text ts it.other))

-- who read what another changed
abbrev pub rw_line : List Transaction → Conflict → List ℕ
rw_line ts it = codes "rw " ++ (txn_text ts it.reader ++ (codes " " ++ (txn_text ts it.writer ++ (codes " " ++ object_text it.object))))

-- the transactions, then `before`, then the rw-antidependencies
abbrev pub lines_text : List Transaction → List ℕ → List Before → List Conflict → List ℕ
lines_text ts places befores conflicts =
    flat_map (λ place. escaped_line (head_of place (transaction_at ts place))) places ++ (flat_map (λ it. escaped_line (before_line ts it)) befores ++ flat_map (λ it. escaped_line (rw_line ts it)) conflicts)

-- ---- what a picture has

-- the transaction at the place is one of the two
abbrev pub is_of : ℕ → Conflict → Bool
is_of place it = nat_eq it.reader place || nat_eq it.writer place

-- all transactions are drawn, or those with a rw-antidependency
abbrev pub is_drawn : Bool → List Conflict → ℕ → Bool
is_drawn all conflicts place = all || list_any (is_of place) conflicts

-- `before` among those that are drawn
abbrev pub are_drawn : (ℕ → Bool) → Before → Bool
are_drawn drawn it = drawn it.one && drawn it.other

-- each of the statements behind a semicolon
abbrev pub further_text : List Statement → List ℕ
further_text [] = []
further_text (asked ∷ more) = codes "; " ++ (printed_text asked ++ further_text more)

-- the statements, one behind another
abbrev pub statements_text : List Statement → List ℕ
statements_text [] = []
statements_text (asked ∷ more) = printed_text asked ++ further_text more

-- who a transaction is
abbrev pub name_text : Transaction → List ℕ
name_text it = decimal it.txn ++ (codes " " ++ it.begin.login)

-- ---- lines of a picture

-- with its end
abbrev pub ended : List ℕ → List ℕ
ended line = line ++ 10 ∷ []

-- with this name, in Mermaid
abbrev pub mermaid_node_line : ℕ → List ℕ → List ℕ
mermaid_node_line txn name = codes "  t" ++ (decimal txn ++ (codes "[\"" ++ (name ++ codes "\"]")))

-- and in DOT, with its statements
abbrev pub dot_node_line : ℕ → List ℕ → List Statement → List ℕ
dot_node_line txn name asked = codes "  t" ++ (decimal txn ++ (codes " [label=\"" ++ (name ++ (codes "\", tooltip=\"" ++ (label_text p.Dot 200 (statements_text asked) ++ codes "\"];")))))

-- a transaction
unfoldable pub node_line : Picture → Transaction → List ℕ
node_line p.Mermaid it = mermaid_node_line it.txn (label_text p.Mermaid 60 (name_text it))
node_line p.Dot it = dot_node_line it.txn (label_text p.Dot 60 (name_text it)) (asked_of it.answers)

-- an arrow without a label
unfoldable pub arrow_between : Picture → ℕ → ℕ → List ℕ
arrow_between p.Mermaid one other = codes "  t" ++ (decimal one ++ (codes " --> t" ++ decimal other))
arrow_between p.Dot one other = codes "  t" ++ (decimal one ++ (codes " -> t" ++ (decimal other ++ codes ";")))

-- the one that stands before the other
abbrev pub arrow_line : Picture → List Transaction → Before → List ℕ
arrow_line picture ts it = arrow_between picture (transaction_at ts it.one).txn (transaction_at ts it.other).txn

-- an arrow from the reader to the writer of an object, with this label
unfoldable pub rw_arrow_between : Picture → ℕ → ℕ → List ℕ → List ℕ
rw_arrow_between p.Mermaid reader writer label = codes "  t" ++ (decimal reader ++ (codes " -- \"" ++ (label ++ (codes "\" --> t" ++ decimal writer))))
rw_arrow_between p.Dot reader writer label = codes "  t" ++ (decimal reader ++ (codes " -> t" ++ (decimal writer ++ (codes " [color=red, label=\"" ++ (label ++ codes "\"];")))))

-- who read what another changed
abbrev pub rw_arrow_line : Picture → List Transaction → Conflict → List ℕ
rw_arrow_line picture ts it = rw_arrow_between picture (transaction_at ts it.reader).txn (transaction_at ts it.writer).txn (label_text picture 60 (object_text it.object))

-- what stands above all
abbrev pub first_lines : Picture → List ℕ
first_lines p.Mermaid = ended (codes "flowchart LR")
first_lines p.Dot = ended (codes "digraph audit {") ++ ended (codes "  rankdir=LR; node [shape=box, fontname=\"monospace\"];")

-- what stands below all
abbrev pub last_lines : Picture → List ℕ
last_lines p.Mermaid = []
last_lines p.Dot = ended (codes "}")

-- the transactions that are drawn, then `before` among them, then the rw-antidependencies
abbrev pub picture_text : Picture → (ℕ → Bool) → List Transaction → List ℕ → List Before → List Conflict → List ℕ
picture_text picture drawn ts places befores conflicts =
    first_lines picture
    ++ (flat_map (λ place. ended (node_line picture (transaction_at ts place))) (filter drawn places)
    ++ (flat_map (λ it. ended (arrow_line picture ts it)) (filter (are_drawn drawn) befores)
    ++ (flat_map (λ it. ended (rw_arrow_line picture ts it)) conflicts ++ last_lines picture)))

-- ---- all

-- lines, or a picture
abbrev pub text_in : Option Picture → Bool → List Transaction → List ℕ → List Before → List Conflict → List ℕ
text_in None all ts places befores conflicts = lines_text ts places befores conflicts
text_in (Some picture) all ts places befores conflicts = picture_text picture (is_drawn all conflicts) ts places befores conflicts

-- the graph of the transactions at these places, whose statements come to this
abbrev pub graph_text : GraphForm → List Transaction → List ℕ → List Standing → List ℕ
graph_text form ts places standings = text_in form.picture form.all ts places (befores_of (history_in ts standings) places) (conflicts_of ts standings places)
