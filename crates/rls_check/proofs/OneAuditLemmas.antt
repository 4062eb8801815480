-- What texts mean is one list of lines, where the columns of keys are told by their names; and texts that mean an audit are one.
use Rattle.std.specs.Prelude.{◌≡◌, refl, ◌≢◌, ◌+◌, ◌++◌, ◌<◌, ◌≤◌, ℕ, zero, suc, Bool, List, [], ◌∷◌, map, length, Option, Some, Result, IsUtf8}
use Rattle.std.specs.List.{All, AllByRecursion, AllZip, flat_map}
use Rattle.std.proofs.Common.{ap, sym, ◌∙◌, subst, arith, append_assoc, length-append}
use Rattle.std.proofs.lemmas.List.Elements.{All-append, All-nil, All-from_recursion, recursion_from_All}
use Rattle.rls_value.specs.declared.refusal.Refusal.{Refusal}
use Rattle.rls_value.specs.declared.object.Object.{Object}
use Rattle.rls_expr.specs.{declared.table.Column.Column, declared.table.TableDef.TableDef}
use Rattle.rls_statement.specs.declared.statement.Statement.{Statement}
use Rattle.rls_catalog.specs.declared.change.Change.{Change}
use Rattle.rls_explain.specs.rls_meaning.specs.rls_guard.specs.{declared.reply.Reply.Reply, declared.reply.Decision.Decision, declared.effect.Effect.Effect, Effects.changes_of}
use Rattle.rls_audit.specs.rls_access.specs.Transactions.{Begin}
use Rattle.rls_audit.specs.rls_core.specs.Records.{Record, record_at}
use Rattle.rls_audit.specs.rls_audit_lines.specs.declared.contents.TableShape.{TableShape}
use Rattle.rls_audit.specs.rls_audit_lines.specs.declared.changes.Changed.{Changed}
use Rattle.rls_audit.specs.rls_audit_lines.specs.declared.changes.Changed.TheVariants as c
use Rattle.rls_audit.specs.rls_audit_lines.specs.declared.lines.Answered.{Answered}
use Rattle.rls_audit.specs.rls_audit_lines.specs.declared.lines.Shown.{Shown}
use Rattle.rls_audit.specs.rls_audit_lines.specs.declared.lines.Line.{Line}
use Rattle.rls_audit.specs.rls_audit_lines.specs.declared.lines.Line.TheVariants as line
use Rattle.rls_audit.specs.Audits.{AuditHolds, AreRecords, numbers_at}
use Rattle.rls_audit.specs.rls_audit_lines.specs.ChangeCodecs as codec
use Rattle.rls_audit.specs.Lines.{Content, Written, written_by, content_of, answered, lines_from, audit_of, ordered_changes, in_object_order}
use Rattle.rls_audit.specs.Lines as lines
use Rattle.rls_audit.specs.rls_audit_lines.specs.Reading.{MeansLine}
use Rattle.rls_audit.specs.Shows.{NamesColumn, ShowsTable, ShowsContent, ShowsChanged, ShowsAnswered, ShowsTxn, ShowsLine, Means}
use Rattle.rls_check.specs.declared.transaction.Answer.{Answer}
use Rattle.rls_check.specs.declared.transaction.Put.{Put}
use Rattle.rls_check.specs.declared.transaction.Transaction.{Transaction}
use Rattle.rls_check.specs.declared.audit.Audit.{Audit}
use Rattle.rls_check.specs.Audited.{answered_of, written_of, shown_of, lines_between, lines_of}
use Rattle.rls_check.specs.Keeping.{KeepsAnswer, KeepsPut, Keeps, AreKept, lines_read, table_of}
use Rattle.rls_audit.specs.FirstKeys.{IsFirstNamed, KeyIsFirst, KeysAreFirst, place_of}
use Rattle.rls_check.specs.KeepingLaws.{asked_one, policies_one, same_begin}
use Rattle.rls_check.specs.Wholes.{StandsBehind, StandInTurn, IsTextOf, AreSomeAudit, IsAuditOf}
use Rattle.rls_check.proofs.FormLemmas.{one_line}
use Rattle.rls_check.proofs.HeadLemmas.{one_format}
use Rattle.rls_check.proofs.KeepingLemmas.{zip_push}
use Rattle.rls_check.proofs.ReadLemmas.{all_ordered}

-- ---- one transaction

abbrev answer_by : Statement → Result Reply Refusal → List Decision → lines.Answered
answer_by statement reply decisions = record { statement = statement; reply = reply; decisions = decisions }

answer_same : (x : Answered) (y : Answer) (z : lines.Answered) → KeepsAnswer x y → ShowsAnswered x z → answered_of y ≡ z
answer_same x y z h k =
    ap (λ (s : Statement). answer_by s y.reply y.decisions) (asked_one x.text y.statement z.statement h.statement k.statement)
    ∙ (ap (λ (r : Result Reply Refusal). answer_by z.statement r y.decisions) (sym h.reply ∙ k.reply) ∙ ap (answer_by z.statement z.reply) (sym h.decisions ∙ k.decisions))

answers_same : (xs : List Answered) (ys : List Answer) (zs : List lines.Answered) → AllZip KeepsAnswer xs ys → AllZip ShowsAnswered xs zs → map answered_of ys ≡ zs
answers_same [] [] [] h k = refl
answers_same [] [] (z ∷ zs) h k = absurd k
answers_same [] (y ∷ ys) zs h k = absurd h
answers_same (x ∷ xs) [] zs h k = absurd h
answers_same (x ∷ xs) (y ∷ ys) [] h k = absurd k
answers_same (x ∷ xs) (y ∷ ys) (z ∷ zs) h k =
    ap (λ (a : lines.Answered). a ∷ map answered_of ys) (answer_same x y z h.0 k.0) ∙ ap (λ (rest : List lines.Answered). z ∷ rest) (answers_same xs ys zs h.1 k.1)

some_same : (m n : List ℕ) → ◌≡◌ {A = Option (List ℕ)} (Some m) (Some n) → m ≡ n
some_same m n e = cc

-- names of columns that are the first of theirs tell where they stand
keys_same : (columns : List Column) (names : List (List ℕ)) (key : List ℕ) → AllZip (NamesColumn columns) names key → AllByRecursion (IsFirstNamed columns) key → map (place_of columns) names ≡ key
keys_same columns [] [] h k = refl
keys_same columns [] (place ∷ key) h k = absurd h
keys_same columns (name ∷ names) [] h k = absurd h
keys_same columns (name ∷ names) (place ∷ key) h k =
    let one : place_of columns name ≡ place = ap (place_of columns) (some_same name k.0.0 (sym h.0 ∙ k.0.1)) ∙ k.0.2 in
    ap (λ (p : ℕ). p ∷ map (place_of columns) names) one ∙ ap (λ (rest : List ℕ). place ∷ rest) (keys_same columns names key h.1 k.1)

abbrev table_by : List ℕ → Bool → Bool → List Column → List ℕ → TableDef
table_by owner enabled forced columns key = record { owner = owner; enabled = enabled; forced = forced; columns = columns; key = key }

table_same : (shape : TableShape) (def : TableDef) → ShowsTable shape def → All (IsFirstNamed def.columns) def.key → table_of shape ≡ def
table_same shape def h first =
    let key : map (place_of shape.columns) shape.key ≡ def.key =
    ap (λ (columns : List Column). map (place_of columns) shape.key) h.columns ∙ keys_same def.columns shape.key def.key h.key (recursion_from_All (IsFirstNamed def.columns) def.key first) in
    ap (λ (x : List ℕ). table_by x shape.enabled shape.forced shape.columns (map (place_of shape.columns) shape.key)) h.owner
    ∙ (ap (λ (x : Bool). table_by def.owner x shape.forced shape.columns (map (place_of shape.columns) shape.key)) h.enabled
    ∙ (ap (λ (x : Bool). table_by def.owner def.enabled x shape.columns (map (place_of shape.columns) shape.key)) h.forced
    ∙ (ap (λ (x : List Column). table_by def.owner def.enabled def.forced x (map (place_of shape.columns) shape.key)) h.columns
    ∙ ap (table_by def.owner def.enabled def.forced def.columns) key)))

-- the object that is kept of a change is its own
object_kept : (x : Changed) (it : Put) → KeepsPut x it → (written_of it).object ≡ codec.object_of x
object_kept (c.Role name def) it h = ap (λ (p : Put). (written_of p).object) h
object_kept (c.Members member content) it h = ap (λ (p : Put). (written_of p).object) h
object_kept (c.Table name shape) it h = ap (λ (p : Put). (written_of p).object) h
object_kept (c.Grants table content) it h = ap (λ (p : Put). (written_of p).object) h
object_kept (c.Policies table texts) it h = ap (λ (p : Put). (written_of p).object) h.1
object_kept (c.Row table id values) it h = ap (λ (p : Put). (written_of p).object) h

-- and what it has is what is shown
content_kept : (x : Changed) (it : Put) (content : Content) → KeepsPut x it → ShowsContent x content → KeyIsFirst content → (written_of it).content ≡ content
content_kept (c.Role name def) it (lines.Role content) h k first = ap (λ (p : Put). (written_of p).content) h ∙ ap lines.Role k
content_kept (c.Role name def) it other h k first = absurd k
content_kept (c.Members member memberships) it (lines.Members content) h k first = ap (λ (p : Put). (written_of p).content) h ∙ ap lines.Members k
content_kept (c.Members member memberships) it other h k first = absurd k
content_kept (c.Table name shape) it (lines.Table content) h k first = ap (λ (p : Put). (written_of p).content) h ∙ ap lines.Table (table_same shape content k first)
content_kept (c.Table name shape) it other h k first = absurd k
content_kept (c.Grants table grants) it (lines.Grants content) h k first = ap (λ (p : Put). (written_of p).content) h ∙ ap lines.Grants k
content_kept (c.Grants table grants) it other h k first = absurd k
content_kept (c.Policies table texts) it (lines.Policies content) h k first = ap (λ (p : Put). (written_of p).content) h.1 ∙ ap lines.Policies (policies_one table texts h.0 content h.2 k)
content_kept (c.Policies table texts) it other h k first = absurd k
content_kept (c.Row table id values) it (lines.Row content) h k first = ap (λ (p : Put). (written_of p).content) h ∙ ap lines.Row k
content_kept (c.Row table id values) it other h k first = absurd k

abbrev written_as : Object → Content → Written
written_as object content = record { object = object; content = content }

put_same : (x : Changed) (it : Put) (change : Change) → KeepsPut x it → ShowsChanged x (written_by change) → KeyIsFirst (content_of change) → written_of it ≡ written_by change
put_same x it change h k first =
    ap (λ (object : Object). written_as object (written_of it).content) (object_kept x it h ∙ k.object)
    ∙ ap (written_as (written_by change).object) (content_kept x it (content_of change) h k.content first)

puts_same : (xs : List Changed) (ys : List Put) (changes : List Change) → AllZip KeepsPut xs ys → AllZip ShowsChanged xs (map written_by changes) → AllByRecursion (λ (change : Change). KeyIsFirst (content_of change)) changes
    → map written_of ys ≡ map written_by changes
puts_same [] [] [] h k first = refl
puts_same [] [] (change ∷ changes) h k first = absurd k
puts_same [] (y ∷ ys) changes h k first = absurd h
puts_same (x ∷ xs) [] changes h k first = absurd h
puts_same (x ∷ xs) (y ∷ ys) [] h k first = absurd k
puts_same (x ∷ xs) (y ∷ ys) (change ∷ changes) h k first =
    ap (λ (w : Written). w ∷ map written_of ys) (put_same x y change h.0 k.0 first.0) ∙ ap (λ (rest : List Written). written_by change ∷ rest) (puts_same xs ys changes h.1 k.1 first.1)

-- the changes in the order of objects
all_first : (effects : List Effect) → AllByRecursion (λ (e : Effect). All (λ (change : Change). KeyIsFirst (content_of change)) (changes_of e)) effects
    → All (λ (change : Change). KeyIsFirst (content_of change)) (flat_map ordered_changes effects)
all_first [] h = All-nil (λ (change : Change). KeyIsFirst (content_of change))
all_first (e ∷ effects) h =
    let P : Change → Type 0 = λ change. KeyIsFirst (content_of change) in
    All-append P (ordered_changes e) (flat_map ordered_changes effects) (All-from_recursion P (in_object_order (changes_of e)) (all_ordered P (changes_of e) (recursion_from_All P (changes_of e) h.0))) (all_first effects h.1)

abbrev shown_by : ℕ → ℕ → Begin → ℕ → List lines.Answered → List Written → lines.Shown
shown_by commit txn begin snap statements changes = record { commit = commit; txn = txn; begin = begin; snap = snap; statements = statements; changes = changes }

txn_same : (commit : ℕ) (shown : Shown) (it : Transaction) (r : Record) → Keeps shown it → ShowsTxn shown (lines.shown commit r) → KeysAreFirst r → shown_of commit it ≡ lines.shown commit r
txn_same commit shown it r h k first =
    let changed : List Change = flat_map ordered_changes r.effects in
    let answers : map answered_of it.answers ≡ answered r.statements r.effects = answers_same shown.statements it.answers (answered r.statements r.effects) h.answers k.statements in
    let puts : map written_of it.puts ≡ map written_by changed =
    puts_same shown.changes it.puts changed h.puts k.changes
    (recursion_from_All (λ (change : Change). KeyIsFirst (content_of change)) changed
    (all_first r.effects (recursion_from_All (λ (e : Effect). All (λ (change : Change). KeyIsFirst (content_of change)) (changes_of e)) r.effects first))) in
    let begin : it.begin ≡ r.begin = same_begin it.begin r.begin (h.login ∙ k.login) (h.role ∙ k.role) (h.mode ∙ k.mode) in
    ap (λ (n : ℕ). shown_by commit n it.begin it.snap (map answered_of it.answers) (map written_of it.puts)) (h.txn ∙ k.txn)
    ∙ (ap (λ (b : Begin). shown_by commit r.txn b it.snap (map answered_of it.answers) (map written_of it.puts)) begin
    ∙ (ap (λ (n : ℕ). shown_by commit r.txn r.begin n (map answered_of it.answers) (map written_of it.puts)) (h.snap ∙ k.snap)
    ∙ (ap (λ (xs : List lines.Answered). shown_by commit r.txn r.begin r.snap xs (map written_of it.puts)) answers ∙ ap (shown_by commit r.txn r.begin r.snap (answered r.statements r.effects)) puts)))

-- ---- all lines

-- the transactions show the records, and the ends are one
record AreSame (commit : ℕ) (its : List Transaction) (rs : List Record) (m n : ℕ) (order numbers : List ℕ) : Type 0 where
  lines_are : lines_between commit its ≡ lines_from commit rs
  many : length its ≡ length rs
  count : m ≡ n
  named : order ≡ numbers

lines_same : (commit : ℕ) (read : List Shown) (its : List Transaction) (rs : List Record) (m n : ℕ) (order numbers : List ℕ) → AreKept commit read its
    → AllZip ShowsLine (map line.Txn read ++ line.End m order ∷ []) (lines_from commit rs ++ lines.End n numbers ∷ []) → AllByRecursion KeysAreFirst rs → AreSame commit its rs m n order numbers
lines_same commit [] [] [] m n order numbers kept shows first = record { lines_are = refl; many = refl; count = shows.0.0; named = shows.0.1 }
lines_same commit [] [] (r ∷ rs) m n order numbers kept shows first = absurd shows.0
lines_same commit [] (it ∷ its) rs m n order numbers kept shows first = absurd kept
lines_same commit (one ∷ read) [] rs m n order numbers kept shows first = absurd kept
lines_same commit (one ∷ read) (it ∷ its) [] m n order numbers kept shows first = absurd shows.0
lines_same commit (one ∷ read) (it ∷ its) (r ∷ rs) m n order numbers kept shows first =
    let rest = lines_same (suc commit) read its rs m n order numbers kept.2 shows.1 first.1 in
    record {
      lines_are = ap (λ (s : lines.Shown). lines.Txn s ∷ lines_between (suc commit) its) (txn_same commit one it r kept.1 shows.0 first.0) ∙ ap (λ (ls : List lines.Line). lines.Txn (lines.shown commit r) ∷ ls) rest.lines_are;
      many = ap suc rest.many;
      count = rest.count;
      named = rest.named;
    }

-- ---- texts

-- the lines that texts are show what they mean
texts_show : (second : Bool) (texts : List (List ℕ)) (ls : List Line) (ms : List lines.Line) → AllZip (IsTextOf second) texts ls → AllZip (Means second) texts ms → AllZip ShowsLine ls ms
texts_show second [] [] [] h k = tt
texts_show second [] [] (m ∷ ms) h k = absurd k
texts_show second [] (l ∷ ls) ms h k = absurd h
texts_show second (t ∷ texts) [] ms h k = absurd h
texts_show second (t ∷ texts) (l ∷ ls) [] h k = absurd k
texts_show second (t ∷ texts) (l ∷ ls) (m ∷ ms) h k = (subst (λ (x : Line). ShowsLine x m) (one_line second t k.0.line l k.0.reads h.0.1) k.0.shows, texts_show second texts ls ms h.1 k.1)

-- what shows the head is it
head_shown : (x : Line) → ShowsLine x lines.Head → x ≡ line.Head
head_shown line.Head h = refl
head_shown (line.Txn shown) h = absurd h
head_shown (line.End count order) h = absurd h

-- texts whose first is a head in two formats are in one
formats_one : (one other : Bool) (texts : List (List ℕ)) (ls : List Line) (ms : List lines.Line) → AllZip (IsTextOf one) texts (line.Head ∷ ls) → AllZip (Means other) texts (lines.Head ∷ ms) → other ≡ one
formats_one one other [] ls ms h k = absurd h
formats_one one other (t ∷ texts) ls ms h k = one_format t other one (subst (MeansLine other t) (head_shown k.0.line k.0.shows) k.0.reads) h.0.1

-- the lines of the audit that texts are, are those that they mean
pub lines_one : (texts : List (List ℕ)) (audit : Audit) (second : Bool) (ls : List lines.Line) (holds : AuditHolds ls) → IsAuditOf texts audit → AllZip (Means second) texts ls → All KeysAreFirst holds.records
    → lines_of audit.transactions audit.order ≡ ls
lines_one texts audit second ls holds is means first =
    let rs = holds.records in
    let numbers = numbers_at rs holds.places in
    let all : AllZip (Means second) texts (audit_of rs numbers) = subst (AllZip (Means second) texts) holds.lines_show means in
    let format : second ≡ is.second = formats_one is.second second texts (map line.Txn is.read ++ line.End (length is.read) audit.order ∷ []) (lines_from 1 rs ++ lines.End (length rs) numbers ∷ []) is.are.lines all in
    let own : AllZip (Means is.second) texts (audit_of rs numbers) = subst (λ (b : Bool). AllZip (Means b) texts (audit_of rs numbers)) format all in
    let shows : AllZip ShowsLine (lines_read is.read audit.order) (audit_of rs numbers) = texts_show is.second texts (lines_read is.read audit.order) (audit_of rs numbers) is.are.lines own in
    let same = lines_same 1 is.read audit.transactions rs (length is.read) (length rs) audit.order numbers is.kept shows.1 (recursion_from_All KeysAreFirst rs first) in
    ap (λ (x : List lines.Line). lines.Head ∷ (x ++ lines.End (length audit.transactions) audit.order ∷ [])) same.lines_are
    ∙ (ap (λ (n : ℕ). lines.Head ∷ (lines_from 1 rs ++ lines.End n audit.order ∷ [])) same.many
    ∙ (ap (λ (named : List ℕ). lines.Head ∷ (lines_from 1 rs ++ lines.End (length rs) named ∷ [])) same.named ∙ sym holds.lines_show))

-- ---- texts that mean the lines of records are an audit

-- what shows a transaction is its line, and what shows the end is the end
txn_shown : (x : Line) (it : lines.Shown) → ShowsLine x (lines.Txn it) → (one : Shown) × (x ≡ line.Txn one) × ShowsTxn one it
txn_shown line.Head it h = absurd h
txn_shown (line.Txn shown) it h = (shown, refl, h)
txn_shown (line.End count order) it h = absurd h

end_shown : (x : Line) (n : ℕ) (numbers : List ℕ) → ShowsLine x (lines.End n numbers) → x ≡ line.End n numbers
end_shown line.Head n numbers h = absurd h
end_shown (line.Txn shown) n numbers h = absurd h
end_shown (line.End count order) n numbers h = ap (λ (m : ℕ). line.End m order) h.0 ∙ ap (line.End n) h.1

-- the transactions show the records, the first of which has this commit
abbrev ShowRecords : ℕ → List Shown → List Record → Type 0
ShowRecords commit [] [] = Unit {0}
ShowRecords commit (one ∷ read) (r ∷ rs) = ShowsTxn one (lines.shown commit r) × ShowRecords (suc commit) read rs
ShowRecords commit _ _ = ⊥

-- the lines that the texts are
record AreLines (second : Bool) (texts : List (List ℕ)) (commit : ℕ) (rs : List Record) (n : ℕ) (numbers : List ℕ) : Type 0 where
  read : List Shown
  are : AllZip (IsTextOf second) texts (map line.Txn read ++ line.End n numbers ∷ [])
  show : ShowRecords commit read rs

lines_there : (second : Bool) (texts : List (List ℕ)) (commit : ℕ) (rs : List Record) (n : ℕ) (numbers : List ℕ) → AllByRecursion IsUtf8 texts → AllZip (Means second) texts (lines_from commit rs ++ lines.End n numbers ∷ []) → AreLines second texts commit rs n numbers
lines_there second [] commit [] n numbers utf8 h = absurd h
lines_there second [] commit (r ∷ rs) n numbers utf8 h = absurd h
lines_there second (t ∷ []) commit [] n numbers utf8 h = record {
  read = [];
  are = ((utf8.0, subst (MeansLine second t) (end_shown h.0.line n numbers h.0.shows) h.0.reads), tt);
  show = tt;
}
lines_there second (t ∷ (u ∷ texts)) commit [] n numbers utf8 h = absurd h.1
lines_there second (t ∷ texts) commit (r ∷ rs) n numbers utf8 h =
    let one = txn_shown h.0.line (lines.shown commit r) h.0.shows in
    let rest = lines_there second texts (suc commit) rs n numbers utf8.1 h.1 in
    record {
      read = one.0 ∷ rest.read;
      are = ((utf8.0, subst (MeansLine second t) one.1 h.0.reads), rest.are);
      show = (one.2, rest.show);
    }

-- ---- they stand in turn

at_end : (before : List Record) (r : Record) (rs : List Record) → record_at (before ++ r ∷ rs) (length before) ≡ r
at_end [] r rs = refl
at_end (b ∷ before) r rs = at_end before r rs

at_front : (before rs : List Record) (i : ℕ) → i < length before → record_at (before ++ rs) i ≡ record_at before i
at_front [] rs i l = absurd (omega (arith, l))
at_front (b ∷ before) rs zero l = refl
at_front (b ∷ before) rs (suc i) l = at_front before rs i (omega (arith, l))

abbrev HasNumber : Shown → Record → Type 0
HasNumber one r = one.txn ≡ r.txn

others_differ : (front : List Shown) (before : List Record) (n : ℕ) → AllZip HasNumber front before → ((i : ℕ) → i < length before → (record_at before i).txn ≢ n) → AllByRecursion (λ (it : Shown). it.txn ≢ n) front
others_differ [] before n h differ = tt
others_differ (one ∷ front) [] n h differ = absurd h
others_differ (one ∷ front) (b ∷ before) n h differ = ((λ same. differ 0 (omega arith) (sym h.0 ∙ same)), others_differ front before n h.1 (λ i l. differ (suc i) (omega (arith, l))))

numbers_length : (front : List Shown) (before : List Record) → AllZip HasNumber front before → length front ≡ length before
numbers_length [] [] h = refl
numbers_length [] (b ∷ before) h = absurd h
numbers_length (one ∷ front) [] h = absurd h
numbers_length (one ∷ front) (b ∷ before) h = ap suc (numbers_length front before h.1)

stands_so : (front : List Shown) (before : List Record) (one : Shown) (r : Record) (rs : List Record) (commit : ℕ) → commit ≡ length front + 1 → AllZip HasNumber front before → ShowsTxn one (lines.shown commit r) → AreRecords (before ++ r ∷ rs) → 0 < r.txn
    → StandsBehind front one
stands_so front before one r rs commit next same shows are above =
    let many = numbers_length front before same in
    let within : length before < length (before ++ r ∷ rs) = (let all = length-append before (r ∷ rs) in omega (arith, all)) in
    record {
      number = subst (λ (n : ℕ). 0 < n) (sym shows.txn) above;
      own = others_differ front before one.txn same (λ i l e.
          (let li : i < length (before ++ r ∷ rs) = omega (arith, l, within) in
          let place : i ≡ length before =
          are.differ i (length before) li within (ap (λ (it : Record). it.txn) (at_front before (r ∷ rs) i l) ∙ (e ∙ (shows.txn ∙ sym (ap (λ (it : Record). it.txn) (at_end before r rs))))) in
          absurd (omega (arith, l, place))));
      commit = shows.commit ∙ next;
      snap =
          (let began : (record_at (before ++ r ∷ rs) (length before)).snap ≤ length before = are.began (length before) within in
          let snap : r.snap ≤ length before = subst (λ (it : Record). it.snap ≤ length before) (at_end before r rs) began in
          let shown = shows.snap in omega (arith, snap, shown, many));
    }

turns_so : (front : List Shown) (before : List Record) (read : List Shown) (rs : List Record) (commit : ℕ) → commit ≡ length front + 1 → AllZip HasNumber front before → ShowRecords commit read rs → AreRecords (before ++ rs) → AllByRecursion (λ (r : Record). 0 < r.txn) rs
    → StandInTurn front read
turns_so front before [] rs commit next same shows are above = tt
turns_so front before (one ∷ read) [] commit next same shows are above = absurd shows
turns_so front before (one ∷ read) (r ∷ rs) commit next same shows are above = (
  stands_so front before one r rs commit next same shows.0 are above.0,
  turns_so (front ++ one ∷ []) (before ++ r ∷ []) read rs (suc commit) (let longer = length-append front (one ∷ []) in omega (arith, next, longer)) (zip_push HasNumber front before one r same shows.0.txn) shows.1
      (subst AreRecords (sym (append_assoc before (r ∷ []) rs)) are) above.1,
)

shown_length : (commit : ℕ) (read : List Shown) (rs : List Record) → ShowRecords commit read rs → length read ≡ length rs
shown_length commit [] [] h = refl
shown_length commit [] (r ∷ rs) h = absurd h
shown_length commit (one ∷ read) [] h = absurd h
shown_length commit (one ∷ read) (r ∷ rs) h = ap suc (shown_length (suc commit) read rs h.1)

-- so are the texts of lines of records whose numbers are above 0
pub texts_are : (second : Bool) (texts : List (List ℕ)) (ls : List lines.Line) (holds : AuditHolds ls) → All IsUtf8 texts → AllZip (Means second) texts ls → All (λ (r : Record). 0 < r.txn) holds.records
    → AreSomeAudit texts
texts_are second texts ls holds utf8 means above =
    let rs = holds.records in
    let numbers = numbers_at rs holds.places in
    let all : AllZip (Means second) texts (audit_of rs numbers) = subst (AllZip (Means second) texts) holds.lines_show means in
    go texts (recursion_from_All IsUtf8 texts utf8) rs numbers all holds.are_records (recursion_from_All (λ (r : Record). 0 < r.txn) rs above)
  where
    go : (ts : List (List ℕ)) → AllByRecursion IsUtf8 ts → (rs : List Record) (numbers : List ℕ) → AllZip (Means second) ts (audit_of rs numbers) → AreRecords rs → AllByRecursion (λ (r : Record). 0 < r.txn) rs
        → AreSomeAudit ts
    go [] utf8' rs numbers h are above' = absurd h
    go (t ∷ ts) utf8' rs numbers h are above' =
        let rest = lines_there second ts 1 rs (length rs) numbers utf8'.1 h.1 in
        let many : length rs ≡ length rest.read = sym (shown_length 1 rest.read rs rest.show) in (
          second,
          rest.read,
          numbers,
          record {
            lines = ((utf8'.0, subst (MeansLine second t) (head_shown h.0.line h.0.shows) h.0.reads), subst (λ (n : ℕ). AllZip (IsTextOf second) ts (map line.Txn rest.read ++ line.End n numbers ∷ [])) many rest.are);
            in_turn = turns_so [] [] rest.read rs 1 refl tt rest.show are above';
          },
        )
