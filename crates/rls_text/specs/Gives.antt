-- What a function of the parser ensures: it gives what the reader gives, unless memory runs out.
use Rattle.std.specs.Prelude.{◌≡◌, ℕ, ◌+◌, nat_lt, if◌then◌else◌, ◌++◌, length, List, [], ◌∷◌, Option, Some, None, Result, Ok, Err}
use Rattle.std.specs.Borrow.{Bor}
use Rattle.rls_text.specs.{declared.token.Token.Token, declared.fault.Fault.Fault, Lang.put_in, Nested.subqueries_of, Trees.TreeWithDepth, Values.or_empty}
use Rattle.rls_text.specs.declared.fault.Fault.TheVariants.{NoMemory, Syntax}
use Rattle.rls_value.specs.{declared.refusal.Limit.Limit, declared.refusal.Refusal.Refusal}
use Rattle.rls_value.specs.declared.refusal.Refusal.TheVariants as refusal
use Rattle.rls_statement.specs.declared.statement.Statement.{Statement}
use Rattle.rls_text.specs.ParseResults.{first_limit, columns_of}
use Rattle.rls_value.specs.declared.refusal.Limit.TheVariants as l
use Rattle.rls_text.specs.Parses.{Outcome, and_then}
use Rattle.rls_text.specs.Grammar as g

-- nothing is said where memory ran out; what isn't read is no phrase
abbrev pub Fails : {A : Type 0} → Fault → Outcome A → Type 0
Fails NoMemory read = Unit {0}
Fails Syntax read = read ≡ None

-- what is given is what is read, with what follows it
abbrev pub Gives : {A : Type 0} → Result (A × Bor (List Token)) Fault → Outcome A → Type 0
Gives (Ok x) read = read ≡ Some (x.0, x.1.now)
Gives (Err fault) read = Fails fault read

-- the same of a call that takes no memory
abbrev pub Has : {A : Type 0} → Option (A × Bor (List Token)) → Outcome A → Type 0
Has (Some x) read = read ≡ Some (x.0, x.1.now)
Has None read = read ≡ None

-- the token that is looked for is there or not
abbrev pub Finds : Option (Bor (List Token)) → Outcome (Unit {0}) → Type 0
Finds (Some rest) read = read ≡ Some (tt, rest.now)
Finds None read = read ≡ None

-- the token that must come is there, behind this value
abbrev pub Closes : {A : Type 0} → A → Result (A × Bor (List Token)) Fault → Outcome (Unit {0}) → Type 0
Closes inner (Ok x) read = (x.0 ≡ inner) × (read ≡ Some (tt, x.1.now))
Closes inner (Err fault) read = Fails fault read

-- how many there were
unfoldable pub counted : Outcome (List (Unit {0})) → Outcome ℕ
counted read = and_then read (λ xs rest. Some (length xs, rest))

-- and so many before
unfoldable pub added : ℕ → Outcome ℕ → Outcome ℕ
added n read = and_then read (λ m rest. Some (n + m, rest))

-- what was read so far stands before what is read next
unfoldable pub with_front : {A : Type 0} → List A → Outcome (List A) → Outcome (List A)
with_front front read = and_then read (λ xs rest. Some (front ++ xs, rest))

-- the values that are read, put one by one into one
unfoldable pub folded : {A B : Type 0} → (B → A → B) → B → Outcome (List A) → Outcome B
folded step into read = and_then read (λ xs rest. Some (put_in step into xs, rest))

-- none where there is no list
unfoldable pub or_no_items : {A : Type 0} → Outcome (Option (List A)) → Outcome (List A)
or_no_items read = and_then read (λ xs rest. Some (or_empty xs, rest))

-- all of the tokens, with parentheses as deep as there are tokens
abbrev pub finished : {A : Type 0} → Outcome A → Option A
finished None = None
finished (Some (x, [])) = Some x
finished (Some (x, _ ∷ _)) = None

-- the statement that takes up all of the tokens
unfoldable pub whole_of : List Token → Option TreeWithDepth
whole_of ts = finished ((g.statement (length ts + 1)).read ts)

-- what is given is what takes up all of them
abbrev pub GivesWhole : {A : Type 0} → Result A Fault → Option A → Type 0
GivesWhole (Ok x) read = read ≡ Some x
GivesWhole (Err NoMemory) read = Unit {0}
GivesWhole (Err Syntax) read = read ≡ None

-- what is given is the name
abbrev pub GivesName : Result (List ℕ) Fault → Option (List ℕ) → Type 0
GivesName (Ok name) given = given ≡ Some name
GivesName (Err NoMemory) given = Unit {0}
GivesName (Err Syntax) given = given ≡ None

-- a tree whose depth is over the limits is refused
abbrev pub within_limits : TreeWithDepth → Result Statement Refusal
within_limits tree_with_depth = if nat_lt 64 (columns_of tree_with_depth.0) then Err (refusal.Limit l.Columns) else (if nat_lt 64 tree_with_depth.1 then Err (refusal.Limit l.Nesting) else (if nat_lt 8 (subqueries_of tree_with_depth.0) then Err (refusal.Limit l.Subqueries) else Ok tree_with_depth.0))

-- what the whole is answered with
abbrev pub answered : Option TreeWithDepth → Result Statement Refusal
answered None = Err refusal.Syntax
answered (Some tree_with_depth) = within_limits tree_with_depth

-- a limit on words comes first
abbrev pub unless_over : {A : Type 0} → Option Limit → Result A Refusal → Result A Refusal
unless_over (Some limit) answer = Err (refusal.Limit limit)
unless_over None answer = answer

-- what the tokens are answered with
abbrev pub answer_of : List Token → Result Statement Refusal
answer_of tokens = unless_over (first_limit tokens) (answered (whole_of tokens))
