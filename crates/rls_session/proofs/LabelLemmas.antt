-- A label's place, and the labels after a command under it.
use Rattle.std.proofs.Common.{◌≡◌, ◌<◌, ◌≤◌, ℕ, ◌+◌, ◌-◌, List, [], ◌∷◌, ◌++◌, length, take, drop, get_or, Option, Some, None, Result, Ok, Err, IfOk, OnErr, refl, sym, ap, subst, ◌∙◌, arith, true}
use Rattle.std.proofs.Math.ListN.{set}
use Rattle.std.specs.List.{slice_get, position_or_len}
use Rattle.std.specs.Str.{bytes_eq}
use Rattle.std.proofs.lemmas.List.{take-append-drop, take-set, take_all, drop-set}
use Rattle.std.proofs.lemmas.List.Sums.{passes_at_first}
use Rattle.std.proofs.lemmas.Option.{slice_get_read, slice_get_past}
use Rattle.std.proofs.lemmas.Slice.Eq.{bytes_eq-Decides}
use Rattle.std.proofs.lemmas.Grind.{common_steps}
use Rattle.rls_script.specs.declared.answer.Answer.{Answer}
use Rattle.rls_session.specs.{Blocks.Executes, Parts.Notes, Parts.Session}
use Rattle.rls_session.specs.Labels.{Entry, place_of, session_at, session_of, with_session, ExecutesUnder}

-- a label at its place has its name
named_at : (labels : List Entry) (name : List ℕ) (label : Entry) → place_of labels name < length labels → label ≡ get_or labels (place_of labels name) label → label.name ≡ name
named_at labels name label inside found =
    let passes : bytes_eq (get_or labels (place_of labels name) label).name name ≡ true = passes_at_first (λ it. bytes_eq it.name name) labels label inside in
    let same : bytes_eq label.name name ≡ true = subst (λ it. bytes_eq it.name name ≡ true) (sym found) passes in
    (bytes_eq-Decides label.name name).0 same

-- and the session there is its own
session_there : (labels : List Entry) (name : List ℕ) (label : Entry) → place_of labels name < length labels → label ≡ get_or labels (place_of labels name) label → session_of labels name ≡ label.session
session_there labels name label inside found = ap session_at (slice_get_read labels (length labels) (place_of labels name) label refl inside found)

-- a list with another element at a place
set_split : (labels : List Entry) (i : ℕ) (label : Entry) → i < length labels → set labels i label ≡ take i labels ++ label ∷ drop (i + 1) labels
set_split labels i label inside = let whole = take-append-drop i (set labels i label) in sym (rw (take-set labels i label, drop-set labels i label inside) at whole)

-- with another session it stands under its name
set_there : (labels : List Entry) (name : List ℕ) (label : Entry) (session : Option Session) → place_of labels name < length labels → label ≡ get_or labels (place_of labels name) label → set labels (place_of labels name) (record { name = label.name; session = session }) ≡ with_session labels name session
set_there labels name label session inside found =
    let named = named_at labels name label inside found in
    let y : Entry = record { name = label.name; session = session } in
    subst (λ it. set labels (place_of labels name) y ≡ take (place_of labels name) labels ++ record { name = it; session = session } ∷ drop (place_of labels name + 1) labels) named (set_split labels (place_of labels name) y inside)

-- a command under a label that has come
pub under_known : {E : Type 0} (old new : Notes) (labels items : List Entry) (command : List ℕ) (label : Entry) (place : ℕ) (session : Option Session) (r : Result Answer E) → items ≡ labels → place < length labels → label ≡ get_or items place label → IfOk r (λ answer. Executes old label.session command answer new session) → IfOk r (λ answer. (name : List ℕ) → place ≡ place_of labels name → ExecutesUnder old labels name command answer new (set items place (record { name = label.name; session = session })))
under_known old new labels items command label place session (Ok answer) are inside found executes = λ name is.
    let here : place_of labels name < length labels = subst (λ i. i < length labels) is inside in
    let there : label ≡ get_or labels (place_of labels name) label = subst (λ i. label ≡ get_or labels i label) is (subst (λ it. label ≡ get_or it place label) are found) in
    let y : Entry = record { name = label.name; session = session } in
    record {
      session = session;
      executes = subst (λ it. Executes old it command answer new session) (sym (session_there labels name label here there)) executes;
      labelled = ap (λ it. set it place y) are ∙ subst (λ i. set labels i y ≡ with_session labels name session) (sym is) (set_there labels name label session here there);
    }
under_known old new labels items command label place session (Err e) are inside found executes = tt

-- the same, by what the label's name and session are
pub under_known_as : {E : Type 0} (old new : Notes) (labels items : List Entry) (command name_of : List ℕ) (x : Option Session) (label : Entry) (place : ℕ) (session : Option Session) (r : Result Answer E) → items ≡ labels → place < length labels → record { name = name_of; session = x } ≡ label → label ≡ get_or items place label → IfOk r (λ answer. Executes old x command answer new session) → IfOk r (λ answer. (name : List ℕ) → place ≡ place_of labels name → ExecutesUnder old labels name command answer new (set items place (record { name = name_of; session = session })))
under_known_as {E = E} old new labels items command name_of x label place session (Ok answer) are inside is found executes = λ name at.
    let under = under_known {E = E} old new labels items command label place session (Ok answer) are inside found (subst (λ (it : Entry). Executes old it.session command answer new session) is executes) name at in
    subst (λ (it : Entry). ExecutesUnder old labels name command answer new (set items place (record { name = it.name; session = session }))) (sym is) under
under_known_as {E = E} old new labels items command name_of x label place session (Err e) are inside is found executes = tt

-- a label that hasn't come has no session
no_session : (labels : List Entry) (name : List ℕ) → length labels ≤ place_of labels name → session_of labels name ≡ None
no_session labels name new = ap session_at (slice_get_past labels (place_of labels name) new)

-- and comes behind the others
comes_last : (labels : List Entry) (name : List ℕ) (session : Option Session) → length labels ≤ place_of labels name → labels ++ record { name = name; session = session } ∷ [] ≡ with_session labels name session
comes_last labels name session new =
    let all : take (place_of labels name) labels ≡ labels = grind (arith, common_steps) in
    let none : drop (place_of labels name + 1) labels ≡ [] = grind (arith, common_steps) in
    let last : List Entry = record { name = name; session = session } ∷ [] in
    sym (ap (λ front. front ++ record { name = name; session = session } ∷ drop (place_of labels name + 1) labels) all ∙ ap (λ behind. labels ++ record { name = name; session = session } ∷ behind) none)

-- the first command under a label
pub under_first : (old new : Notes) (labels : List Entry) (name command : List ℕ) (answer : Answer) (session : Option Session) (labels_then : List Entry) → length labels ≤ place_of labels name → Executes old None command answer new session → labels_then ≡ labels ++ record { name = name; session = session } ∷ [] → ExecutesUnder old labels name command answer new labels_then
under_first old new labels name command answer session labels_then fresh executes are = record {
  session = session;
  executes = subst (λ it. Executes old it command answer new session) (sym (no_session labels name fresh)) executes;
  labelled = are ∙ comes_last labels name session fresh;
}
