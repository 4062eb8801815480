-- What a line shows its text means: each text in it is a statement's, or creates a policy.
use Rattle.std.specs.Prelude.{◌≡◌, ℕ, true, List, [], ◌∷◌, Some}
use Rattle.std.specs.List.{All, AllByRecursion, AllZip}
use Rattle.std.proofs.lemmas.List.Elements.{All-from_recursion}
use Rattle.rls_expr.specs.declared.policy.Policy.{Policy}
use Rattle.rls_audit_lines.specs.declared.changes.Changed.{Changed}
use Rattle.rls_audit_lines.specs.declared.changes.Changed.TheVariants as c
use Rattle.rls_audit_lines.specs.declared.lines.Answered.{Answered}
use Rattle.rls_audit_lines.specs.declared.lines.Line.{Line}
use Rattle.rls_audit_lines.specs.declared.lines.Line.TheVariants.{Head, Txn, End}
use Rattle.rls_audit.specs.Lines as shown
use Rattle.rls_audit_lines.specs.Reading.{HasStatement, HasPolicies, IsPolicyText, TextsParse, line_found, line_text}
use Rattle.rls_audit.specs.Shows.{Means, SpellsPolicy, ShowsContent, ShowsChanged, ShowsAnswered, ShowsLine}

statements_there : (xs : List Answered) (its : List shown.Answered) → AllZip ShowsAnswered xs its → AllByRecursion HasStatement xs
statements_there [] its h = tt
statements_there (x ∷ xs) [] h = absurd h
statements_there (x ∷ xs) (it ∷ its) h = ((it.statement, h.0.statement), statements_there xs its h.1)

texts_there : (table : List ℕ) (texts : List (List ℕ)) (policies : List Policy) → AllZip (SpellsPolicy table) texts policies → AllByRecursion (IsPolicyText table) texts
texts_there table [] policies h = tt
texts_there table (text ∷ texts) [] h = absurd h
texts_there table (text ∷ texts) (policy ∷ policies) h = ((policy, h.0), texts_there table texts policies h.1)

-- what shows policies has their texts
policies_there : (table : List ℕ) (texts : List (List ℕ)) (content : shown.Content) → ShowsContent (c.Policies table texts) content → All (IsPolicyText table) texts
policies_there table texts (shown.Policies policies) h = All-from_recursion (IsPolicyText table) texts (texts_there table texts policies h)
policies_there table texts other h = absurd h

change_there : (x : Changed) (it : shown.Written) → ShowsChanged x it → HasPolicies x
change_there (c.Role name def) it h = tt
change_there (c.Members member memberships) it h = tt
change_there (c.Table name shape) it h = tt
change_there (c.Grants table grants) it h = tt
change_there (c.Policies table texts) it h = policies_there table texts it.content h.content
change_there (c.Row table id values) it h = tt

changes_there : (xs : List Changed) (its : List shown.Written) → AllZip ShowsChanged xs its → AllByRecursion HasPolicies xs
changes_there [] its h = tt
changes_there (x ∷ xs) [] h = absurd h
changes_there (x ∷ xs) (it ∷ its) h = (change_there x it h.0, changes_there xs its h.1)

texts_parse : (line : Line) (it : shown.Line) → ShowsLine line it → TextsParse line
texts_parse Head it h = tt
texts_parse (End count order) it h = tt
texts_parse (Txn line) (shown.Txn it) h = (
  All-from_recursion HasStatement line.statements (statements_there line.statements it.statements h.statements),
  All-from_recursion HasPolicies line.changes (changes_there line.changes it.changes h.changes),
)
texts_parse (Txn line) shown.Head h = absurd h
texts_parse (Txn line) (shown.End count order) h = absurd h

pub written_means : (line : Line) (it : shown.Line) → line_found true (line_text line) ≡ Some line → ShowsLine line it → Means true (line_text line) it
written_means line it found shows = record { line = line; reads = (found, texts_parse line it shows); shows = shows }
