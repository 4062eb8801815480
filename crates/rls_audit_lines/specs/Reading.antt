-- The text of a line, and what it means: a line of the format, each of whose texts is a statement.
use Rattle.std.specs.Prelude.{◌≡◌, ℕ, List, Bool, true, false, Option, Some, option_and_then, Result, Ok, Err}
use Rattle.std.specs.List.{All}
use Rattle.std.specs.Str.{bytes_eq}
use Rattle.serde_json.specs.Read.{read}
use Rattle.serde_json.specs.Written.{compact_text}
use Rattle.rls_value.specs.declared.refusal.Refusal.{Refusal}
use Rattle.rls_value.specs.declared.refusal.Refusal.TheVariants as r
use Rattle.rls_expr.specs.declared.policy.Policy.{Policy}
use Rattle.rls_statement.specs.declared.statement.Statement.{Statement}
use Rattle.rls_statement.specs.declared.statement.Statement.TheVariants as st
use Rattle.rls_text.specs.{ParseResults.IsSpelled, Words.words_of}
use Rattle.rls_audit_lines.specs.declared.changes.Changed.{Changed}
use Rattle.rls_audit_lines.specs.declared.changes.Changed.TheVariants as c
use Rattle.rls_audit_lines.specs.declared.lines.Answered.{Answered}
use Rattle.rls_audit_lines.specs.declared.lines.Line.{Line}
use Rattle.rls_audit_lines.specs.declared.lines.Line.TheVariants.{Head, Txn, End}
use Rattle.rls_audit_lines.specs.Asked.{IsAsked}
use Rattle.rls_audit_lines.specs.LineCodecs.{line}

-- the line as it is written: in the second format, as JSON without blanks, the keys of objects in byte order
abbrev pub line_text : Line → List ℕ
line_text it = compact_text ((line true).written it)

-- the line of that form, whatever its texts are
abbrev pub line_found : Bool → List ℕ → Option Line
line_found second text = option_and_then (line second).found (read text)

-- it tells whether this is so
abbrev pub TellsWhether : Bool → Type 0 → Type 0
TellsWhether true P = P
TellsWhether false P = ¬ P

-- the text spells a statement, or what begins or ends a block, within the limits
abbrev pub IsStatementText : List ℕ → Type 0
IsStatementText text = (x : Statement) × IsAsked (words_of text) x

-- the text spells the statement that creates a policy of the table
abbrev pub IsPolicyText : List ℕ → List ℕ → Type 0
IsPolicyText table text = (policy : Policy) × IsSpelled (words_of text) (st.CreatePolicy record { table = table; policy = policy })

-- the answer is a statement that creates a policy of the table
abbrev pub creates_on : List ℕ → Result Statement Refusal → Bool
creates_on table (Ok (st.CreatePolicy create)) = bytes_eq create.table table
creates_on table _ = false

-- its text is a statement's
abbrev pub HasStatement : Answered → Type 0
HasStatement answered = IsStatementText answered.text

-- what stands there of policies are policies of the table
abbrev pub HasPolicies : Changed → Type 0
HasPolicies (c.Policies table texts) = All (IsPolicyText table) texts
HasPolicies _ = Unit {0}

-- each text of the line is a statement's or a policy's
abbrev pub TextsParse : Line → Type 0
TextsParse Head = Unit {0}
TextsParse (Txn shown) = All HasStatement shown.statements × All HasPolicies shown.changes
TextsParse (End n order) = Unit {0}

-- the text is the line in this format
abbrev pub MeansLine : Bool → List ℕ → Line → Type 0
MeansLine second text it = (line_found second text ≡ Some it) × TextsParse it

-- the line with this number is read as what it means, or it is bad just where it means nothing, unless memory ran out
abbrev pub IsLineRead : {A : Type 0} → ℕ → Result A Refusal → (A → Type 0) → Type 0
IsLineRead {A} number (Ok it) Means = Means it
IsLineRead {A} number (Err r.NoMemory) Means = Unit {0}
IsLineRead {A} number (Err (r.BadAudit n)) Means = (n ≡ number) × ((it : A) → Means it → ⊥)
IsLineRead {A} number (Err _) Means = ⊥
