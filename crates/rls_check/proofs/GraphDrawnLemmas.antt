-- Which transactions a picture has.
use Rattle.std.proofs.Common.{◌≡◌, refl, ℕ, suc, ◌<◌, ◌≤◌, ◌==◌, Bool, true, false, ◌&&◌, ◌||◌, cond, List, [], ◌∷◌, ◌++◌, map, length, get_or, set, replicate, filter, flat_map, Option, Some, None, inl, inr, sym, ap, subst, ◌∙◌, arith}
use Rattle.std.specs.List.{All, list_any}
use Rattle.std.proofs.lemmas.Bool.{cases_Bool, eqb-false, eqb-true}
use Rattle.std.proofs.lemmas.List.{get_or-replicate, get_or-set_other, get_or-set_same, length-replicate, length-set}
use Rattle.rls_catalog.specs.Changed.{opening}
use Rattle.rls_history.specs.History.{History}
use Rattle.rls_check.specs.declared.edges.Before.{Before}
use Rattle.rls_check.specs.declared.edges.Conflict.{Conflict}
use Rattle.rls_check.specs.declared.graph.Graph.{Graph}
use Rattle.rls_check.specs.declared.graph_form.GraphForm.{GraphForm}
use Rattle.rls_check.specs.declared.graph_form.Picture.{Picture}
use Rattle.rls_check.specs.declared.transaction.Transaction.{Transaction}
use Rattle.rls_check.specs.declared.works.Work.{Work}
use Rattle.rls_check.specs.GraphEdges.{before_edge, befores_of, conflicts_of, is_right_before}
use Rattle.rls_check.specs.GraphHistory.{history_in}
use Rattle.rls_check.specs.GraphSteps.{EachBegan, conflicts_along, befores_along, drawn_with, is_at, no_work, noted_all, picture_or_lines, snap_of, text_by}
use Rattle.rls_check.specs.GraphTexts.{are_drawn, arrow_line, ended, first_lines, graph_text, is_drawn, is_of, last_lines, node_line, rw_arrow_line, text_in}
use Rattle.rls_check.specs.Audited.{transaction_at}
use Rattle.rls_check.specs.Checking.{IsNoOrder, IsPlaced}
use Rattle.rls_check.specs.Graphs.{IsGraph, IsGraphAlong}
use Rattle.rls_check.specs.ShownAudits.{FirstDiffers}
use Rattle.rls_check.specs.Walking.{Standing, standings_along}
use Rattle.rls_check.proofs.GraphEdgeLemmas.{befores_are, conflicts_are, each_filter}
use Rattle.rls_check.proofs.GraphSetLemmas.{Each, each_of}

-- ---- who is drawn

drawn_if : (b : Bool) (drawn : List Bool) (one place : ℕ) → (one == place) ≡ b → place < length drawn → get_or (set drawn one true) place false ≡ (b || get_or drawn place false)
drawn_if true drawn one place is within = ap (λ at. get_or (set drawn at true) place false) (eqb-true one place is) ∙ get_or-set_same drawn place true false within
drawn_if false drawn one place is within = get_or-set_other drawn one place true false (λ same. eqb-false one place is (sym same))

or_moved : (a b c d : Bool) → ((b || (a || c)) || d) ≡ (c || ((a || b) || d))
or_moved true true true d = refl
or_moved true true false d = refl
or_moved true false true d = refl
or_moved true false false d = refl
or_moved false true true d = refl
or_moved false true false d = refl
or_moved false false true d = refl
or_moved false false false d = refl

or_last : (b : Bool) → (b || false) ≡ b
or_last true = refl
or_last false = refl

drawn_at : (drawn : List Bool) (conflicts : List Conflict) (place : ℕ) → place < length drawn → is_at (drawn_with drawn conflicts) place ≡ (get_or drawn place false || list_any (is_of place) conflicts)
drawn_at drawn [] place within = sym (or_last (get_or drawn place false))
drawn_at drawn (it ∷ more) place within =
    let first : place < length (set drawn it.reader true) = subst (λ n. place < n) (sym (length-set drawn it.reader true)) within in
    drawn_at (set (set drawn it.reader true) it.writer true) more place (subst (λ n. place < n) (sym (length-set (set drawn it.reader true) it.writer true)) first)
    ∙ ap (λ b. b || list_any (is_of place) more) (drawn_if (it.writer == place) (set drawn it.reader true) it.writer place refl first ∙ ap (λ b. (it.writer == place) || b) (drawn_if (it.reader == place) drawn it.reader place refl within))
    ∙ or_moved (it.reader == place) (it.writer == place) (get_or drawn place false) (list_any (is_of place) more)

pub drawn_is : (count : ℕ) (all : Bool) (conflicts : List Conflict) (place : ℕ) → place < count → is_at (drawn_with (replicate count all) conflicts) place ≡ is_drawn all conflicts place
drawn_is count all conflicts place within =
    drawn_at (replicate count all) conflicts place (subst (λ n. place < n) (sym (length-replicate count all)) within) ∙ ap (λ b. b || list_any (is_of place) conflicts) (get_or-replicate count place all false within)

-- ---- what is drawn of lists

filter_each : (test other : ℕ → Bool) (P : ℕ → Type 0) → ((x : ℕ) → P x → test x ≡ other x) → (xs : List ℕ) → Each P xs → filter test xs ≡ filter other xs
filter_each test other P same [] each = refl
filter_each test other P same (x ∷ xs) each = λ i. cond (same x each.0 i) (x ∷ filter_each test other P same xs each.1 i) (filter_each test other P same xs each.1 i)

appended : (b : Bool) (x : Before) (all some more : List Before) → all ≡ some ++ more → cond b (x ∷ all) all ≡ cond b (x ∷ some) some ++ more
appended true x all some more same = ap (λ rest. x ∷ rest) same
appended false x all some more same = same

filter_append : (test : Before → Bool) (xs ys : List Before) → filter test (xs ++ ys) ≡ filter test xs ++ filter test ys
filter_append test [] ys = refl
filter_append test (x ∷ xs) ys = appended (test x) x (filter test (xs ++ ys)) (filter test xs) (filter test ys) (filter_append test xs ys)

module _ (test other : Before → Bool) (P : ℕ → Type 0) (same : (one two : ℕ) → P one → P two → test (before_edge one two) ≡ other (before_edge one two)) where
  edges_from : (one : ℕ) → P one → (places : List ℕ) → Each P places → filter test (map (before_edge one) places) ≡ filter other (map (before_edge one) places)
  edges_from one here [] each = refl
  edges_from one here (two ∷ places) each = λ i. cond (same one two here each.0 i) (before_edge one two ∷ edges_from one here places each.1 i) (edges_from one here places each.1 i)

  edges_all : (right : ℕ → ℕ → Bool) (ones places : List ℕ) → Each P ones → Each P places
      → filter test (flat_map (λ one. map (before_edge one) (filter (right one) places)) ones) ≡ filter other (flat_map (λ one. map (before_edge one) (filter (right one) places)) ones)
  edges_all right [] places here each = refl
  edges_all right (one ∷ ones) places here each =
      let first = map (before_edge one) (filter (right one) places) in
      let rest = flat_map (λ one. map (before_edge one) (filter (right one) places)) ones in
      filter_append test first rest
      ∙ (λ i. edges_from one here.0 (filter (right one) places) (each_filter P (right one) places each) i ++ edges_all right ones places here.1 each i)
      ∙ sym (filter_append other first rest)

-- ---- the text

module _ (ts : List Transaction) (standings : List Standing) (places : List ℕ) (all_there : All (λ place. place < length ts) places) (all : Bool) (conflicts : List Conflict) where
  there : Each (λ place. place < length ts) places
  there = each_of (λ place. place < length ts) places all_there

  drawn_same : (place : ℕ) → place < length ts → is_at (drawn_with (replicate (length ts) all) conflicts) place ≡ is_drawn all conflicts place
  drawn_same place within = drawn_is (length ts) all conflicts place within

  arrows_same : (h : History) → filter (are_drawn (is_at (drawn_with (replicate (length ts) all) conflicts))) (befores_of h places) ≡ filter (are_drawn (is_drawn all conflicts)) (befores_of h places)
  arrows_same h =
      edges_all (are_drawn (is_at (drawn_with (replicate (length ts) all) conflicts))) (are_drawn (is_drawn all conflicts)) (λ place. place < length ts) (λ one two here other. λ i. drawn_same one here i && drawn_same two other i) (is_right_before h) places places there there

  pub drawn_text : (picture : Option Picture) (h : History) → picture_or_lines picture all ts places (befores_of h places) conflicts ≡ text_in picture all ts places (befores_of h places) conflicts
  drawn_text None h = refl
  drawn_text (Some picture) h =
      λ i. first_lines picture
      ++ (flat_map (λ place. ended (node_line picture (transaction_at ts place))) (filter_each (is_at (drawn_with (replicate (length ts) all) conflicts)) (is_drawn all conflicts) (λ place. place < length ts) drawn_same places there i)
      ++ (flat_map (λ it. ended (arrow_line picture ts it)) (arrows_same h i) ++ (flat_map (λ it. ended (rw_arrow_line picture ts it)) conflicts ++ last_lines picture)))

-- what is written is the graph of the history that the runs make
text_is : (form : GraphForm) (ts : List Transaction) (standings : List Standing) (places : List ℕ) → ((one : ℕ) → one < length ts → (transaction_at ts one).snap ≤ one) → All (λ place. place < length ts) places
    → text_by form ts places (noted_all (replicate (length ts) no_work) standings) ≡ graph_text form ts places standings
text_is form ts standings places fits all =
    (λ i. picture_or_lines form.picture form.all ts places (befores_are ts standings places fits all i) (conflicts_are ts standings places fits all i))
    ∙ drawn_text ts standings places all form.all (conflicts_of ts standings places) form.picture (history_in ts standings)

pub along_is : (form : GraphForm) (ts : List Transaction) (places : List ℕ) (empty works : List Work) (graph : Graph) → All (λ place. place < length ts) places → EachBegan ts → empty ≡ replicate (length ts) no_work
    → works ≡ noted_all empty (standings_along ts opening places) → graph.text.items ≡ text_by form ts places works → FirstDiffers (standings_along ts opening places) graph.differs → IsGraphAlong form ts places graph
along_is form ts places empty works graph all each none are text differs = record {
  text =
      text ∙ ap (text_by form ts places) (are ∙ ap (λ nothing. noted_all nothing (standings_along ts opening places)) none)
      ∙ text_is form ts (standings_along ts opening places) places each.began all;
  differs = differs;
}

pub graph_some : (form : GraphForm) (ts : List Transaction) (numbers places : List ℕ) (graph : Graph) → IsPlaced ts numbers places → IsGraphAlong form ts places graph → IsGraph form ts numbers (Some graph)
graph_some form ts numbers places graph placed along = (places, placed, along)

pub graph_none : (form : GraphForm) (ts : List Transaction) (numbers : List ℕ) → IsNoOrder ts numbers → IsGraph form ts numbers None
graph_none form ts numbers none = none
