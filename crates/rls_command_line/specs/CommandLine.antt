-- The command line: what `clap` is told of it, and what words ask for.
use Rattle.std.specs.Prelude.{◌≡◌, ◌^◌, ℕ, Bool, true, false, List, [], Option, Some, None, map, option_map, unwrap_or, codes}
use Rattle.std.specs.List.{AllZip}
use Rattle.std.specs.Str.Parse.{digits_value}
use Rattle.rls_value.specs.{declared.row.RowId.RowId, Names.folded, Names.spells_name}
use Rattle.clap.specs.Words.{App, Row, Rule, Shape, Text, all_of, first_of, kind_of, new_app, new_rule, one_of, subcommand_of, takes, with_rule, with_subcommand}
use Rattle.clap.specs.Simple.{on_top}
use Rattle.clap.specs.declared.builder.action.ArgAction.TheVariants.{Append, SetTrue}
use Rattle.clap.specs.declared.error.kind.ErrorKind.TheVariants.{OutOfMemory}
use Rattle.rls_command_line.specs.declared.words.Request.{Request}
use Rattle.rls_command_line.specs.declared.words.Request.TheVariants as q
use Rattle.rls_command_line.specs.declared.words.ScriptFile.{ScriptFile}
use Rattle.rls_command_line.specs.declared.words.Checks.{Checks}
use Rattle.rls_command_line.specs.declared.words.Explain.{Explain}
use Rattle.rls_command_line.specs.declared.words.Shown.{Shown}
use Rattle.rls_command_line.specs.declared.words.AuditState.{AuditState}
use Rattle.rls_command_line.specs.declared.words.Graphed.{Graphed}
use Rattle.rls_command_line.specs.declared.words.GraphWanted.{GraphWanted}
use Rattle.rls_command_line.specs.declared.words.Reported.{Reported}
use Rattle.rls_command_line.specs.declared.words.Language.{Language}
use Rattle.rls_command_line.specs.declared.words.Language.TheVariants as l
use Rattle.rls_command_line.specs.declared.words.Tests.{Tests}
use Rattle.rls_command_line.specs.declared.words.Wanted.{Wanted}
use Rattle.rls_command_line.specs.declared.command_line.Mistake.{Mistake}
use Rattle.rls_command_line.specs.declared.command_line.Mistake.TheVariants as m
use Rattle.rls_command_line.specs.Words.{IsDecimal, IsRowText}

-- ---- what `clap` is told

-- a word that has to be there
abbrev pub needed : Text → Rule
needed id = record (new_rule id) { required = true }

-- --threads
abbrev pub threads_flag : Rule
threads_flag = record (new_rule (codes "threads")) { long = Some (codes "threads"); action = Some SetTrue }

-- --audit OUT
abbrev pub audit_option : Rule
audit_option = record (new_rule (codes "audit")) { long = Some (codes "audit"); value_names = 1 }

-- --attempts OUT
abbrev pub attempts_option : Rule
attempts_option = record (new_rule (codes "attempts")) { long = Some (codes "attempts"); value_names = 1 }

-- --terse-conflicts
abbrev pub terse_flag : Rule
terse_flag = record (new_rule (codes "terse-conflicts")) { long = Some (codes "terse-conflicts"); action = Some SetTrue }

-- --hints
abbrev pub hints_flag : Rule
hints_flag = record (new_rule (codes "hints")) { long = Some (codes "hints"); action = Some SetTrue }

-- --stop
abbrev pub stop_flag : Rule
stop_flag = record (new_rule (codes "stop")) { long = Some (codes "stop"); action = Some SetTrue }

-- --numbers
abbrev pub numbers_flag : Rule
numbers_flag = record (new_rule (codes "numbers")) { long = Some (codes "numbers"); action = Some SetTrue }

-- --after TXN
abbrev pub after_option : Rule
after_option = record (new_rule (codes "after")) { long = Some (codes "after"); value_names = 1 }

-- --write
abbrev pub write_flag : Rule
write_flag = record (new_rule (codes "write")) { long = Some (codes "write"); action = Some SetTrue }

-- FILE, once or more
abbrev pub transcripts_argument : Rule
transcripts_argument = record (needed (codes "FILE")) { action = Some Append }

-- AUDIT, once or more
abbrev pub audits_argument : Rule
audits_argument = record (needed (codes "AUDIT")) { action = Some Append }

-- --quiet
abbrev pub quiet_flag : Rule
quiet_flag = record (new_rule (codes "quiet")) { long = Some (codes "quiet"); action = Some SetTrue }

-- --long
abbrev pub long_flag : Rule
long_flag = record (new_rule (codes "long")) { long = Some (codes "long"); action = Some SetTrue }

-- the name, and its words
abbrev pub run_line : App
run_line = with_rule (with_rule (with_rule (with_rule (with_rule (with_rule (with_rule (with_rule (new_app (codes "run")) (needed (codes "FILE"))) threads_flag) audit_option) terse_flag) hints_flag) stop_flag) numbers_flag) attempts_option

abbrev pub test_line : App
test_line = with_rule (with_rule (new_app (codes "test")) transcripts_argument) write_flag

abbrev pub order_line : App
order_line = with_rule (with_rule (new_app (codes "order")) (needed (codes "AUDIT"))) long_flag

abbrev pub check_line : App
check_line = with_rule (with_rule (new_app (codes "check")) audits_argument) quiet_flag

abbrev pub explain_line : App
explain_line = with_rule (with_rule (with_rule (with_rule (with_rule (new_app (codes "explain")) (needed (codes "AUDIT"))) (needed (codes "TXN"))) (needed (codes "STATEMENT"))) (new_rule (codes "ROW"))) long_flag

-- an option with a value, which may be repeated
abbrev pub many_option : Text → Rule
many_option id = record (new_rule id) { long = Some id; value_names = 1; action = Some Append }

-- --denied
abbrev pub denied_flag : Rule
denied_flag = record (new_rule (codes "denied")) { long = Some (codes "denied"); action = Some SetTrue }

-- --all
abbrev pub all_flag : Rule
all_flag = record (new_rule (codes "all")) { long = Some (codes "all"); action = Some SetTrue }

-- --json
abbrev pub json_flag : Rule
json_flag = record (new_rule (codes "json")) { long = Some (codes "json"); action = Some SetTrue }

abbrev pub shown_line : App
shown_line = with_rule (with_rule (with_rule (with_rule (with_rule (with_rule (with_rule (with_rule (with_rule (with_rule (new_app (codes "shown")) (needed (codes "AUDIT"))) (many_option (codes "role"))) (many_option (codes "login"))) (many_option (codes "txn"))) (many_option (codes "table"))) (many_option (codes "row"))) denied_flag) all_flag) json_flag) attempts_option

abbrev pub lint_line : App
lint_line = with_rule (with_rule (new_app (codes "lint")) (needed (codes "AUDIT"))) after_option

abbrev pub dump_line : App
dump_line = with_rule (with_rule (new_app (codes "dump")) (needed (codes "AUDIT"))) after_option

-- --mermaid
abbrev pub mermaid_flag : Rule
mermaid_flag = record (new_rule (codes "mermaid")) { long = Some (codes "mermaid"); action = Some SetTrue }

-- --dot
abbrev pub dot_flag : Rule
dot_flag = record (new_rule (codes "dot")) { long = Some (codes "dot"); action = Some SetTrue }

abbrev pub graph_line : App
graph_line = with_rule (with_rule (with_rule (with_rule (new_app (codes "graph")) (needed (codes "AUDIT"))) mermaid_flag) dot_flag) all_flag

-- --rows N
abbrev pub rows_option : Rule
rows_option = record (new_rule (codes "rows")) { long = Some (codes "rows"); value_names = 1 }

abbrev pub report_line : App
report_line = with_rule (with_rule (with_rule (with_rule (with_rule (with_rule (with_rule (with_rule (new_app (codes "report")) (needed (codes "AUDIT"))) (needed (codes "OUT"))) (many_option (codes "role"))) (many_option (codes "login"))) (many_option (codes "txn"))) (many_option (codes "table"))) denied_flag) rows_option

abbrev pub migrate_line : App
migrate_line = with_rule (with_rule (new_app (codes "migrate")) (needed (codes "AUDIT"))) (needed (codes "OUT"))

abbrev pub parse_line : App
parse_line = with_rule (new_app (codes "parse")) (needed (codes "FILE"))

-- the program has a version, and one of the commands has to be named
abbrev pub program_line : App
program_line = on_top (λ (s : Shape). record s { has_version = true; subcommand_required = true }) (new_app (codes "rlsdb"))

abbrev pub command_line : App
command_line = with_subcommand (with_subcommand (with_subcommand (with_subcommand (with_subcommand (with_subcommand (with_subcommand (with_subcommand (with_subcommand (with_subcommand (with_subcommand (with_subcommand program_line run_line.top) test_line.top) order_line.top) check_line.top) explain_line.top) shown_line.top) lint_line.top) dump_line.top) graph_line.top) report_line.top) migrate_line.top) parse_line.top

-- ---- what words ask for

-- whether the flag is given
pub record IsFlag (id : Text) (rows : List Row) (flag : Bool) : Type 0 where
  pub given : one_of id rows ≡ Some (codes "true") → flag ≡ true
  pub none : one_of id rows ≡ Some (codes "false") → flag ≡ false
  pub absent : one_of id rows ≡ None → flag ≡ false

-- the value is a number below 2^64
abbrev pub IsNumber : Text → List Row → ℕ → Type 0
IsNumber id rows number = (text : Text) × (first_of id rows ≡ Some text) × IsDecimal (2 ^ 64) text × (number ≡ digits_value 10 text)

-- the value is a row's number, where there is one
abbrev pub IsRow : List Row → Option RowId → Type 0
IsRow rows (Some row) = (text : Text) × (first_of (codes "ROW") rows ≡ Some text) × IsRowText text row
IsRow rows None = first_of (codes "ROW") rows ≡ None

-- a script, with threads or without, the file of its audit, and how conflicts are told
pub record IsRun (rows : List Row) (it : ScriptFile) : Type 0 where
  pub file : first_of (codes "FILE") rows ≡ Some it.file.now
  pub threads : IsFlag (codes "threads") rows it.threads
  pub audit : option_map (λ name. name.now) it.audit ≡ first_of (codes "audit") rows
  pub terse : IsFlag (codes "terse-conflicts") rows it.terse
  pub hints : IsFlag (codes "hints") rows it.hints

-- transcripts, which are tested or also written again
pub record IsTest (rows : List Row) (it : Tests) : Type 0 where
  pub files : all_of (codes "FILE") rows ≡ Some (map (λ name. name.now) it.files.items)
  pub write : IsFlag (codes "write") rows it.write

-- audits, which are checked
pub record IsChecks (rows : List Row) (it : Checks) : Type 0 where
  pub audits : all_of (codes "AUDIT") rows ≡ Some (map (λ name. name.now) it.audits.items)
  pub quiet : IsFlag (codes "quiet") rows it.quiet

-- a statement of an audit
pub record IsExplain (rows : List Row) (it : Explain) : Type 0 where
  pub audit : first_of (codes "AUDIT") rows ≡ Some it.audit.now
  pub txn : IsNumber (codes "TXN") rows it.txn
  pub statement : IsNumber (codes "STATEMENT") rows it.statement
  pub row : IsRow rows it.row
  pub long : IsFlag (codes "long") rows it.long

-- the text is a name, letters of either case, and no reserved word; this is the name
abbrev pub IsNameOf : Text → List ℕ → Type 0
IsNameOf text name = (spells_name text ≡ true) × (name ≡ folded text)

-- the text is a number below 2^64, and this is the number
abbrev pub IsNumberOf : Text → ℕ → Type 0
IsNumberOf text number = IsDecimal (2 ^ 64) text × (number ≡ digits_value 10 text)

-- the values of an option, in the order of the words; none where it isn't given
abbrev pub values_in : Text → List Row → List Text
values_in id rows = unwrap_or (all_of id rows) []

-- which statements and rows are asked for
pub record IsWanted (words : List Row) (it : Wanted) : Type 0 where
  pub roles : AllZip IsNameOf (values_in (codes "role") words) it.roles
  pub logins : AllZip IsNameOf (values_in (codes "login") words) it.logins
  pub txns : AllZip IsNumberOf (values_in (codes "txn") words) it.txns
  pub tables : AllZip IsNameOf (values_in (codes "table") words) it.tables
  pub rows : AllZip IsRowText (values_in (codes "row") words) it.rows
  pub denied : IsFlag (codes "denied") words it.denied
  pub all : IsFlag (codes "all") words it.all
  pub json : IsFlag (codes "json") words it.json

-- an audit, and these
pub record IsShownLine (rows : List Row) (it : Shown) : Type 0 where
  pub audit : first_of (codes "AUDIT") rows ≡ Some it.audit.now
  pub wanted : IsWanted rows it.wanted

-- the number of a transaction, where it is given
abbrev pub IsAfter : List Row → Option ℕ → Type 0
IsAfter rows (Some txn) = IsNumber (codes "after") rows txn
IsAfter rows None = first_of (codes "after") rows ≡ None

-- an audit, and perhaps a transaction
pub record IsAuditState (rows : List Row) (it : AuditState) : Type 0 where
  pub audit : first_of (codes "AUDIT") rows ≡ Some it.audit.now
  pub after : IsAfter rows it.after

-- a picture in one of the languages, or lines
abbrev pub IsLanguage : List Row → Option Language → Type 0
IsLanguage rows None = IsFlag (codes "mermaid") rows false × IsFlag (codes "dot") rows false
IsLanguage rows (Some l.Mermaid) = IsFlag (codes "mermaid") rows true × IsFlag (codes "dot") rows false
IsLanguage rows (Some l.Dot) = IsFlag (codes "mermaid") rows false × IsFlag (codes "dot") rows true

-- how a graph is written
pub record IsGraphWanted (rows : List Row) (it : GraphWanted) : Type 0 where
  pub language : IsLanguage rows it.language
  pub all : IsFlag (codes "all") rows it.all

-- an audit, and how its graph is written
pub record IsGraph (rows : List Row) (it : Graphed) : Type 0 where
  pub audit : first_of (codes "AUDIT") rows ≡ Some it.audit.now
  pub wanted : IsGraphWanted rows it.wanted

-- as many as the value says, or 50
abbrev pub IsMostOf : Option Text → ℕ → Type 0
IsMostOf None most = most ≡ 50
IsMostOf (Some text) most = IsNumberOf text most

abbrev pub IsMost : List Row → ℕ → Type 0
IsMost rows most = IsMostOf (first_of (codes "rows") rows) most

-- which statements and rows a report has
pub record IsReportWanted (words : List Row) (it : Wanted) : Type 0 where
  pub roles : AllZip IsNameOf (values_in (codes "role") words) it.roles
  pub logins : AllZip IsNameOf (values_in (codes "login") words) it.logins
  pub txns : AllZip IsNumberOf (values_in (codes "txn") words) it.txns
  pub tables : AllZip IsNameOf (values_in (codes "table") words) it.tables
  pub rows : it.rows ≡ []
  pub denied : IsFlag (codes "denied") words it.denied
  pub all : it.all ≡ false
  pub json : it.json ≡ false

-- an audit, the file of its report, and these
pub record IsReport (rows : List Row) (it : Reported) : Type 0 where
  pub audit : first_of (codes "AUDIT") rows ≡ Some it.audit.now
  pub out : first_of (codes "OUT") rows ≡ Some it.out.now
  pub wanted : IsReportWanted rows it.wanted
  pub most : IsMost rows it.most

-- the command of that name, with these words, asks for it
abbrev pub AsksFor : Text → List Row → Request → Type 0
AsksFor name rows (q.Run it) = (name ≡ codes "run") × IsRun rows it × IsFlag (codes "stop") rows false × IsFlag (codes "numbers") rows false × (first_of (codes "attempts") rows ≡ None)
AsksFor name rows (q.RunStopping it) = (name ≡ codes "run") × IsRun rows it × IsFlag (codes "stop") rows true × IsFlag (codes "numbers") rows false × (first_of (codes "attempts") rows ≡ None)
AsksFor name rows (q.RunNumbered it) = (name ≡ codes "run") × IsRun rows it × IsFlag (codes "stop") rows false × IsFlag (codes "numbers") rows true × (first_of (codes "attempts") rows ≡ None)
AsksFor name rows (q.RunKeeping it out) = (name ≡ codes "run") × IsRun rows it × IsFlag (codes "stop") rows false × IsFlag (codes "numbers") rows false × (first_of (codes "attempts") rows ≡ Some out.now)
AsksFor name rows (q.Test it) = (name ≡ codes "test") × IsTest rows it
AsksFor name rows (q.Order audit) = (name ≡ codes "order") × (first_of (codes "AUDIT") rows ≡ Some audit.now) × IsFlag (codes "long") rows false
AsksFor name rows (q.OrderLong audit) = (name ≡ codes "order") × (first_of (codes "AUDIT") rows ≡ Some audit.now) × IsFlag (codes "long") rows true
AsksFor name rows (q.Check it) = (name ≡ codes "check") × IsChecks rows it
AsksFor name rows (q.Explain it) = (name ≡ codes "explain") × IsExplain rows it
AsksFor name rows (q.Shown it) = (name ≡ codes "shown") × IsShownLine rows it × (first_of (codes "attempts") rows ≡ None)
AsksFor name rows (q.ShownAttempts it out) = (name ≡ codes "shown") × IsShownLine rows it × (first_of (codes "attempts") rows ≡ Some out.now)
AsksFor name rows (q.Lint it) = (name ≡ codes "lint") × IsAuditState rows it
AsksFor name rows (q.Dump it) = (name ≡ codes "dump") × IsAuditState rows it
AsksFor name rows (q.Graph it) = (name ≡ codes "graph") × IsGraph rows it
AsksFor name rows (q.Report it) = (name ≡ codes "report") × IsReport rows it
AsksFor name rows (q.Parse file) = (name ≡ codes "parse") × (first_of (codes "FILE") rows ≡ Some file.now)
AsksFor name rows (q.Migrate audit out) = (name ≡ codes "migrate") × (first_of (codes "AUDIT") rows ≡ Some audit.now) × (first_of (codes "OUT") rows ≡ Some out.now)

-- the words ask for it
abbrev pub Asks : List Text → Request → Type 0
Asks words request = (name : Text) × (rows : List Row) × (subcommand_of command_line words ≡ Some (name, rows)) × AsksFor name rows request

-- what is wrong with the words isn't found by `clap`: a value isn't what is wanted, or two arguments don't go together; or memory
-- doesn't suffice
abbrev pub IsOwn : Mistake → Type 0
IsOwn (m.Words error) = kind_of error ≡ OutOfMemory
IsOwn _ = Unit {0}

-- memory doesn't suffice
abbrev pub IsOfMemory : Mistake → Type 0
IsOfMemory (m.Words error) = kind_of error ≡ OutOfMemory
IsOfMemory _ = ⊥

-- what is wrong with the words; in those that it takes `clap` finds nothing wrong
abbrev pub IsMistaken : List Text → Mistake → Type 0
IsMistaken words (m.Words error) = takes command_line words ≡ true → kind_of error ≡ OutOfMemory
IsMistaken words _ = Unit {0}
