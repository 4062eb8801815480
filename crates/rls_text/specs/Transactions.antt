-- The grammar of what begins and ends a block of statements (PostgreSQL manual, BEGIN, START TRANSACTION, SET TRANSACTION,
-- COMMIT, END, ROLLBACK, ABORT). WORK, TRANSACTION, ISOLATION LEVEL and READ WRITE aren't written.
use Rattle.std.specs.Prelude.{◌≡◌, Bool, true, false, ◌&&◌, not, List, [], ◌∷◌, ◌++◌, Option, Some, None, codes, refl}
use Rattle.std.proofs.Common.{ap}
use denote.Enum.Bare.{sameb, same_true}
use Rattle.rls_statement.specs.{declared.command.AccessMode.AccessMode, declared.command.AccessMode.TheVariants.ReadOnly, declared.command.AccessMode.TheVariants.ReadWrite, declared.command.Command.Command, contracts.command.AccessMode.the_type as access_type}
use Rattle.rls_statement.specs.declared.command.Command.TheVariants as c
use Rattle.rls_text.specs.declared.token.Symbol.TheVariants as s
use Rattle.rls_text.specs.{declared.transactions.TransactionMode.TransactionMode, declared.transactions.TransactionMode.TheVariants.Serializable, declared.transactions.TransactionMode.TheVariants.Access, Heads.Head, Heads.Keyword, Heads.Sign, Rule.Rule, Rule.Telling, Rule.word, Rule.sign, Rule.both, Rule.mapped, Rule.after, Rule.after_as, Rule.before, Rule.before_as, Rule.either, Rule.perhaps, Rule.many, Rule.checked, Rule.widened, Rule.as_list, Rule.list_law, Rule.standing_for, Rule.word_for, Writes.some_is}

-- ---- what the parts stand for

-- both say the isolation, or both the access
abbrev pub are_one_kind : TransactionMode → TransactionMode → Bool
are_one_kind Serializable Serializable = true
are_one_kind (Access _) (Access _) = true
are_one_kind _ _ = false

-- none of them is of its kind
abbrev pub lacks : TransactionMode → List TransactionMode → Bool
lacks x [] = true
lacks x (y ∷ ys) = not (are_one_kind x y) && lacks x ys

-- no two are of one kind
abbrev pub each_once : List TransactionMode → Bool
each_once [] = true
each_once (x ∷ xs) = lacks x xs && each_once xs

-- a block may write where nothing is said of it
abbrev pub access_of : List TransactionMode → AccessMode
access_of [] = ReadWrite
access_of (Access mode ∷ more) = mode
access_of (Serializable ∷ more) = access_of more

-- the same where no list is written
abbrev pub access_from : Option (List TransactionMode) → AccessMode
access_from None = ReadWrite
access_from (Some modes) = access_of modes

-- ---- of which parts a value is written

-- accesses, told apart
abbrev pub accesses : Telling AccessMode
accesses = record { are_same = sameb access_type; same_is = same_true access_type tt }

-- ISOLATION LEVEL SERIALIZABLE
abbrev pub as_isolation : TransactionMode → Option (Unit {0})
as_isolation Serializable = Some tt
as_isolation _ = None

pub isolation_law : (b : TransactionMode) (a : Unit {0}) → as_isolation b ≡ Some a → b ≡ Serializable
isolation_law Serializable a h = refl
isolation_law _ a h = cc

-- READ and what it says
abbrev pub as_access : TransactionMode → Option AccessMode
as_access (Access mode) = Some mode
as_access _ = None

pub access_law : (b : TransactionMode) (a : AccessMode) → as_access b ≡ Some a → b ≡ Access a
access_law (Access mode) a h = ap Access (some_is mode a h)
access_law _ a h = cc

-- READ ONLY, or nothing
abbrev pub as_modes : AccessMode → Option (Option (List TransactionMode))
as_modes ReadWrite = Some None
as_modes ReadOnly = Some (Some (Access ReadOnly ∷ []))

pub modes_law : (b : AccessMode) (a : Option (List TransactionMode)) → as_modes b ≡ Some a → b ≡ access_from a
modes_law ReadWrite a h = ap access_from (some_is None a h)
modes_law ReadOnly a h = ap access_from (some_is (Some (Access ReadOnly ∷ [])) a h)

-- neither WORK nor TRANSACTION
abbrev pub as_no_word : Unit {0} → Option (Option (Unit {0}))
as_no_word _ = Some None

pub no_word_law : (b : Unit {0}) (a : Option (Unit {0})) → as_no_word b ≡ Some a → b ≡ tt
no_word_law b a h = refl

-- a block that is begun
abbrev pub as_begin : Command → Option AccessMode
as_begin (c.Begin mode) = Some mode
as_begin _ = None

pub begin_law : (b : Command) (a : AccessMode) → as_begin b ≡ Some a → b ≡ c.Begin a
begin_law (c.Begin mode) a h = ap c.Begin (some_is mode a h)
begin_law _ a h = cc

-- both are Commit, or both are Rollback
abbrev pub end_alike : Command → Command → Bool
end_alike c.Commit c.Commit = true
end_alike c.Rollback c.Rollback = true
end_alike _ _ = false

pub alike_is : (x y : Command) → end_alike x y ≡ true → x ≡ y
alike_is c.Commit c.Commit h = refl
alike_is c.Rollback c.Rollback h = refl
alike_is _ _ h = cc

-- what ends a block, told apart
abbrev pub ends : Telling Command
ends = record { are_same = end_alike; same_is = alike_is }

-- ---- the rules

-- the words that begin a mode
abbrev pub mode_heads : List Head
mode_heads = Keyword (codes "isolation") ∷ Keyword (codes "read") ∷ []

-- what goes on behind a mode
abbrev pub mode_more : List Head
mode_more = Sign s.Comma ∷ mode_heads

-- WORK, TRANSACTION
abbrev pub work_heads : List Head
work_heads = Keyword (codes "work") ∷ Keyword (codes "transaction") ∷ []

-- BEGIN, START
abbrev pub begin_heads : List Head
begin_heads = Keyword (codes "begin") ∷ Keyword (codes "start") ∷ []

-- COMMIT, END
abbrev pub commit_heads : List Head
commit_heads = Keyword (codes "commit") ∷ Keyword (codes "end") ∷ []

-- ROLLBACK, ABORT
abbrev pub rollback_heads : List Head
rollback_heads = Keyword (codes "rollback") ∷ Keyword (codes "abort") ∷ []

-- the words that begin or end a block; no statement begins with one
abbrev pub transaction_heads : List Head
transaction_heads = begin_heads ++ (commit_heads ++ rollback_heads)

-- what goes on behind one
abbrev pub transaction_more : List Head
transaction_more = mode_more ++ work_heads

-- ISOLATION LEVEL SERIALIZABLE
unfoldable pub isolation : Rule TransactionMode (Keyword (codes "isolation") ∷ []) [] false
isolation = mapped (λ _. Serializable) as_isolation isolation_law (after (word (codes "isolation")) (after (word (codes "level")) (word (codes "serializable")) refl) refl)

-- READ (ONLY | WRITE)
unfoldable pub access : Rule TransactionMode (Keyword (codes "read") ∷ []) [] false
access = mapped Access as_access access_law (after (word (codes "read")) (either (word_for accesses ReadOnly (codes "only")) (word_for accesses ReadWrite (codes "write")) refl) refl)

-- isolation | access
unfoldable pub mode : Rule TransactionMode mode_heads [] false
mode = either isolation access refl

-- [","] mode; the comma isn't written
unfoldable pub next_mode : Rule TransactionMode mode_more [] false
next_mode = after_as None (perhaps (sign s.Comma)) mode refl

-- mode {[","] mode}
unfoldable pub first_and_more : Rule (List TransactionMode) mode_heads mode_more false
first_and_more = widened (mapped (λ r. r.0 ∷ r.1) as_list list_law (both mode (many next_mode refl) refl)) refl refl

-- mode {[","] mode}, no two of one kind
unfoldable pub modes : Rule (List TransactionMode) mode_heads mode_more false
modes = checked each_once first_and_more

-- [modes], as the access that they say
unfoldable pub access_mode : Rule AccessMode mode_heads transaction_more true
access_mode = widened (mapped access_from as_modes modes_law (perhaps modes)) refl refl

-- [WORK | TRANSACTION], which isn't written
unfoldable pub work : Rule (Unit {0}) work_heads work_heads true
work = mapped (λ _. tt) as_no_word no_word_law (perhaps (either (word (codes "work")) (word (codes "transaction")) refl))

-- BEGIN [WORK | TRANSACTION] [modes]
unfoldable pub begun : Rule AccessMode (Keyword (codes "begin") ∷ []) transaction_more false
begun = widened (after (word (codes "begin")) (after work access_mode refl) refl) refl refl

-- START TRANSACTION [modes]
unfoldable pub started : Rule AccessMode (Keyword (codes "start") ∷ []) transaction_more false
started = widened (after (word (codes "start")) (after (word (codes "transaction")) access_mode refl) refl) refl refl

-- begun | started
unfoldable pub begun_or_started : Rule AccessMode begin_heads transaction_more false
begun_or_started = widened (either begun started refl) refl refl

-- the same, as a command
unfoldable pub begin : Rule Command begin_heads transaction_more false
begin = mapped c.Begin as_begin begin_law begun_or_started

-- (COMMIT | END) [WORK | TRANSACTION]; COMMIT is written
unfoldable pub commit : Rule Command commit_heads work_heads false
commit = widened (standing_for ends c.Commit (before (either (word (codes "commit")) (word (codes "end")) refl) work refl)) refl refl

-- (ROLLBACK | ABORT) [WORK | TRANSACTION]; ROLLBACK is written
unfoldable pub rollback : Rule Command rollback_heads work_heads false
rollback = widened (standing_for ends c.Rollback (before (either (word (codes "rollback")) (word (codes "abort")) refl) work refl)) refl refl

-- begin | commit | rollback
unfoldable pub bare_transaction : Rule Command transaction_heads transaction_more false
bare_transaction = widened (either begin (either commit rollback refl) refl) refl refl

-- (begin | commit | rollback) [";"]; the semicolon isn't written
unfoldable pub transaction : Rule Command transaction_heads (Sign s.Semicolon ∷ transaction_more) false
transaction = widened (before_as None bare_transaction (perhaps (sign s.Semicolon)) refl) refl refl
