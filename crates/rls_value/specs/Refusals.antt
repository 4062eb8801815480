-- The codes and texts of refusals (SQLSTATEs: PostgreSQL manual, Appendix A).
use Rattle.std.specs.Prelude.{ℕ, List, [], ◌++◌, codes, Some, None}
use Rattle.std.specs.Fmt.{decimal}
use Rattle.rls_value.specs.{declared.refusal.Refusal.Refusal, declared.refusal.Limit.Limit, declared.refusal.TxnState.TxnState, declared.refusal.NameKind.NameKind, declared.refusal.DefinedKind.DefinedKind, declared.refusal.Why.Why, declared.refusal.GrantFault.GrantFault, declared.refusal.Cause.Cause, Objects.object_text}
use Rattle.rls_value.specs.declared.refusal.Refusal.TheVariants as r
use Rattle.rls_value.specs.declared.refusal.Limit.TheVariants as l
use Rattle.rls_value.specs.declared.refusal.TxnState.TheVariants as t
use Rattle.rls_value.specs.declared.refusal.NameKind.TheVariants as n
use Rattle.rls_value.specs.declared.refusal.DefinedKind.TheVariants as d
use Rattle.rls_value.specs.declared.refusal.Why.TheVariants as w
use Rattle.rls_value.specs.declared.refusal.GrantFault.TheVariants as g
use Rattle.rls_value.specs.declared.refusal.Cause.TheVariants as c
use Rattle.rls_value.specs.Words.{privilege_word, kind_word, tag_text}

-- a name that is too long has a code of its own
abbrev pub limit_code : Limit → List ℕ
limit_code l.Name = codes "42622"
limit_code _ = codes "54000"

-- by what the transaction's state forbids
abbrev pub txn_code : TxnState → List ℕ
txn_code t.AlreadyInProgress = codes "25001"
txn_code t.NoneInProgress = codes "25P01"
txn_code t.Over = codes "25P02"
txn_code (t.ReadOnly tag) = codes "25006"

-- by what is not there
abbrev pub undefined_code : NameKind → List ℕ
undefined_code n.Relation = codes "42P01"
undefined_code n.Column = codes "42703"
undefined_code n.Role = codes "42704"
undefined_code n.Policy = codes "42704"

-- by what is there already
abbrev pub duplicate_code : DefinedKind → List ℕ
duplicate_code d.Relation = codes "42P07"
duplicate_code d.Role = codes "42710"
duplicate_code d.Policy = codes "42710"

-- what its name is the name of
abbrev pub name_kind_of : DefinedKind → NameKind
name_kind_of d.Relation = n.Relation
name_kind_of d.Role = n.Role
name_kind_of d.Policy = n.Policy

-- the SQLSTATE
abbrev pub code_of : Refusal → List ℕ
code_of r.NoMemory = codes "53200"
code_of r.Syntax = codes "42601"
code_of (r.Limit limit) = limit_code limit
code_of (r.TxnState state) = txn_code state
code_of (r.NoLogin role) = codes "28000"
code_of (r.Undefined kind name) = undefined_code kind
code_of (r.Duplicate kind name) = duplicate_code kind
code_of r.TypeFault = codes "42804"
code_of r.Unsupported = codes "0A000"
code_of (r.Recursion table) = codes "42P17"
code_of (r.Denied why) = codes "42501"
code_of (r.GrantOp fault) = codes "0LP01"
code_of (r.Dependent table) = codes "2BP01"
code_of (r.Range column) = codes "22003"
code_of (r.NotNull column) = codes "23502"
code_of (r.Unique table) = codes "23505"
code_of (r.Serial cause) = codes "40001"
code_of r.Foreign = []
code_of (r.BadAudit line) = []

-- which limit was passed
abbrev pub limit_text : Limit → List ℕ
limit_text l.Line = codes "limit exceeded: line"
limit_text l.Columns = codes "limit exceeded: columns"
limit_text l.Nesting = codes "limit exceeded: nesting"
limit_text l.Subqueries = codes "limit exceeded: subqueries"
limit_text l.Parentheses = codes "limit exceeded: parentheses"
limit_text l.Policies = codes "limit exceeded: policies"
limit_text l.Inserts = codes "limit exceeded: inserts"
limit_text l.Transactions = codes "limit exceeded: transactions"
limit_text l.Sessions = codes "limit exceeded: sessions"
limit_text l.Numbers = codes "limit exceeded: numbers"
limit_text l.Name = codes "name too long"

-- what the transaction's state forbids
abbrev pub txn_text : TxnState → List ℕ
txn_text t.AlreadyInProgress = codes "there is already a transaction in progress"
txn_text t.NoneInProgress = codes "there is no transaction in progress"
txn_text t.Over = codes "transaction is over, commands are ignored until COMMIT or ROLLBACK"
txn_text (t.ReadOnly tag) = codes "cannot execute " ++ (tag_text tag ++ codes " in a read-only transaction")

-- what a name is the name of
abbrev pub name_kind_text : NameKind → List ℕ
name_kind_text n.Relation = codes "relation"
name_kind_text n.Column = codes "column"
name_kind_text n.Role = codes "role"
name_kind_text n.Policy = codes "policy"

-- what a denial says is missing
abbrev pub why_text : Why → List ℕ
why_text (w.Privilege p table) = codes "permission denied for table " ++ (table ++ (codes ": " ++ (privilege_word p ++ codes " is missing")))
why_text (w.Column p table column) = codes "permission denied for table " ++ (table ++ (codes ": " ++ (privilege_word p ++ (codes " is missing on column \"" ++ (column ++ codes "\"")))))
why_text (w.Owner table) = codes "must be owner of table " ++ table
why_text (w.Admin role) = codes "permission denied to manage role \"" ++ (role ++ codes "\"")
why_text (w.SetRole role) = codes "permission denied to set role \"" ++ (role ++ codes "\"")
why_text (w.GrantOption p table) = codes "permission denied for table " ++ (table ++ (codes ": no grant option for " ++ privilege_word p))
why_text (w.NoPermissive table kind) = codes "new row violates row-level security policy for table \"" ++ (table ++ (codes "\": no permissive " ++ (kind_word kind ++ codes " policy passes")))
why_text (w.Restrictive policy table) = codes "new row violates row-level security policy \"" ++ (policy ++ (codes "\" for table \"" ++ (table ++ codes "\"")))

-- why a grant may not be
abbrev pub grant_fault_text : GrantFault → List ℕ
grant_fault_text (g.Cycle member role) = codes "role \"" ++ (member ++ (codes "\" is a member of role \"" ++ (role ++ codes "\"")))
grant_fault_text g.PublicOption = codes "grant options cannot be granted to PUBLIC"
grant_fault_text (g.Back grantee) = codes "grant options cannot be granted back to the grantor"

-- who wrote what; of two rw-antidependencies, who read what and who wrote it
abbrev pub cause_text : Cause → List ℕ
cause_text (c.Written object other) = object_text object ++ (codes " was written by " ++ decimal other)
cause_text (c.Structure first one pivot two last) = (decimal first ++ (codes " read " ++ (object_text one ++ (codes ", " ++ (decimal pivot ++ codes " wrote it; "))))) ++ (decimal pivot ++ (codes " read " ++ (object_text two ++ (codes ", " ++ (decimal last ++ codes " wrote it")))))

-- the text of a refusal
abbrev pub refusal_text : Refusal → List ℕ
refusal_text r.NoMemory = codes "out of memory"
refusal_text r.Syntax = codes "syntax error"
refusal_text (r.Limit limit) = limit_text limit
refusal_text (r.TxnState state) = txn_text state
refusal_text (r.NoLogin None) = codes "not connected"
refusal_text (r.NoLogin (Some role)) = codes "role \"" ++ (role ++ codes "\" may not log in")
refusal_text (r.Undefined kind name) = name_kind_text kind ++ (codes " \"" ++ (name ++ codes "\" does not exist"))
refusal_text (r.Duplicate kind name) = name_kind_text (name_kind_of kind) ++ (codes " \"" ++ (name ++ codes "\" already exists"))
refusal_text r.TypeFault = codes "types do not match"
refusal_text r.Unsupported = codes "not supported"
refusal_text (r.Recursion table) = codes "infinite recursion detected in policy for relation \"" ++ (table ++ codes "\"")
refusal_text (r.Denied why) = why_text why
refusal_text (r.GrantOp fault) = grant_fault_text fault
refusal_text (r.Dependent table) = codes "dependent privileges exist"
refusal_text (r.Range column) = codes "value out of range for column \"" ++ (column ++ codes "\"")
refusal_text (r.NotNull column) = codes "null value in column \"" ++ (column ++ codes "\" violates not-null constraint")
refusal_text (r.Unique table) = codes "duplicate key value violates the primary key of table \"" ++ (table ++ codes "\"")
refusal_text (r.Serial cause) = codes "could not serialize access: " ++ cause_text cause
refusal_text r.Foreign = codes "not of this engine"
refusal_text (r.BadAudit line) = codes "bad audit line " ++ decimal line
