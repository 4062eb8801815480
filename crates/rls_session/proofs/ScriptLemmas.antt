-- What is written line by line.
use Rattle.std.proofs.Common.{◌≡◌, ◌<◌, ◌≤◌, ℕ, ◌+◌, ◌-◌, Bool, true, false, cond, nat_lt, List, [], ◌∷◌, ◌++◌, length, map, refl, sym, ap, subst, ◌∙◌, Bor, append_assoc, arith, rules, Option, Result, Ok, Err, OnOk, IfOk}
use Rattle.std.specs.List.{after_first}
use Rattle.std.specs.Str.Lines.{lines}
use Rattle.std.proofs.lemmas.Grind.{common_steps}
use Rattle.rls_engine.specs.rls_core.specs.Records.{Record}
use Rattle.rls_engine.specs.rls_core.specs.Seen.{Seen, world_of}
use Rattle.rls_engine.specs.rls_core.specs.Headline.{AreExplained}
use Rattle.rls_script.specs.{Lines.IsRead, Lines.ends_line, Lines.first_line_of, Rendering.answer_text, declared.answer.Answer.Answer, declared.line.Line.Line}
use Rattle.rls_script.proofs.LinesLaws.{lines_first}
use Rattle.rls_script.specs.Streams.{GrewBy}
use Rattle.rls_script.specs.declared.line.Line.TheVariants as l
use Rattle.rls_session.specs.{Books.AreTheRecords, Books.AreTried, Parts.Notes, Parts.Tried, Parts.is_keeping}
use Rattle.rls_session.specs.Parts.{Shown, tried_by, with_end}
use Rattle.rls_session.specs.declared.script.Ran.{Ran}
use Rattle.rls_session.proofs.TriedLemmas.{ended_shown}
use Rattle.rls_session.proofs.AloneLemmas.{one_label}
use Rattle.rls_session.specs.Labels.{Entry, Script, ended_all, opening_script, sessions_of, AnswersUnder}
use Rattle.rls_session.specs.Scripts.{RunsLine, RunsLines, RunsLinesTo, RunsRead, RunsScript, RunsScriptKeeping, IsScriptRun, LeadsTo, end_by, none, next}

-- a command's line: its answer, and what is written for it
pub said : (terse : Bool) (before now : List ℕ) (line : Line) (label command : Bor (List ℕ)) (answer : Answer) (run : Script) (labels : List Entry) (middle notes : Notes) {E : Type 0} (r : Result (Unit {0}) E) → line ≡ l.Command label command → terse ≡ run.notes.terse → AnswersUnder run label.now command.now answer (record { labels = labels; notes = middle }) → notes ≡ with_end (end_by answer) middle → OnOk r (GrewBy before now (λ written. written ≡ answer_text terse label.now answer)) → OnOk r (GrewBy before now (λ written. RunsRead line run written (record { labels = labels; notes = notes })))
said terse before now line label command answer run labels middle notes (Ok x) is how answers told shown =
    let after : Script = record { labels = labels; notes = notes } in
    let fact : RunsRead (l.Command label command) run shown.more after = record {
      answer = answer;
      behind = record { labels = labels; notes = middle };
      answers = answers;
      shown = shown.fact ∙ ap (λ (b : Bool). answer_text b label.now answer) how;
      told = ap (λ (n : Notes). record { labels = labels; notes = n }) told;
    } in
    record { more = shown.more; grew = shown.grew; fact = subst (λ it. RunsRead it run shown.more after) (sym is) fact }
said terse before now line label command answer run labels middle notes (Err e) is how answers told shown = tt

-- a line's bytes, and then those of the lines behind it
pub grew_more : {before middle now line : List ℕ} {lines : List (List ℕ)} {run middle_run after : Script} → GrewBy before middle (λ written. RunsLine line run written middle_run) → GrewBy middle now (λ written. RunsLines lines middle_run written after) → GrewBy before now (λ written. RunsLines (line ∷ lines) run written after)
grew_more first rest = record { more = first.more ++ rest.more; grew = rest.grew ∙ ap (λ m. m ++ rest.more) first.grew ∙ append_assoc _ first.more rest.more; fact = next first.fact rest.fact }

-- behind the last line
pub grew_none : (now : List ℕ) (run : Script) → GrewBy now now (λ written. RunsLines [] run written run)
grew_none now run = record { more = []; grew = grind (arith, common_steps); fact = none }

-- what holds while lines are run: what the lines of the rest will write, and leave, makes the whole script's
abbrev pub MakesWhole : Bool → Bool → List ℕ → List ℕ → List ℕ → List ℕ → Script → Type 0
MakesWhole terse keeps start before script rest run = (now : List ℕ) (after : Script) → GrewBy before now (λ written. RunsLines (lines rest) run written after) → GrewBy start now (λ written. RunsLines (lines script) (opening_script terse keeps) written after)

-- whether it keeps what ends is as it began
pub keeping_is : (terse keeps : Bool) → is_keeping (opening_script terse keeps).notes ≡ keeps
keeping_is terse true = refl
keeping_is terse false = refl

-- so the notes are those of the opening, by what they say of themselves
pub fresh_as : (terse keeps : Bool) (fresh : Notes) → fresh ≡ (opening_script terse keeps).notes → fresh ≡ (opening_script fresh.terse (is_keeping fresh)).notes
fresh_as terse keeps fresh is =
    let told : terse ≡ fresh.terse = sym (ap (λ (n : Notes). n.terse) is) in
    let kept : keeps ≡ is_keeping fresh = sym (ap is_keeping is ∙ keeping_is terse keeps) in
    is ∙ (λ i. (opening_script (told i) (kept i)).notes)

opening_is : (terse keeps : Bool) (labels : List Entry) (notes : Notes) → labels ≡ [] → notes ≡ (opening_script terse keeps).notes → record { labels = labels; notes = notes } ≡ opening_script terse keeps
opening_is terse keeps labels notes none_yet fresh = λ i. record { labels = none_yet i; notes = fresh i }

-- before the first line
pub makes_all : (terse keeps : Bool) (start script : List ℕ) (labels : List Entry) (notes : Notes) → labels ≡ [] → notes ≡ (opening_script terse keeps).notes → MakesWhole terse keeps start start script script (record { labels = labels; notes = notes })
makes_all terse keeps start script labels notes none_yet fresh now after grew =
    subst (λ it. GrewBy start now (λ written. RunsLines (lines script) it written after)) (opening_is terse keeps labels notes none_yet fresh) grew

-- it holds behind the first line of the rest too
pub passed_line : (terse keeps : Bool) (start before middle script rest line behind : List ℕ) (read : Line) (run further : Script) → 0 < length rest → line ≡ first_line_of rest → behind ≡ after_first ends_line rest → IsRead line read → GrewBy before middle (λ written. RunsRead read run written further) → MakesWhole terse keeps start before script rest run → MakesWhole terse keeps start middle script behind further
passed_line terse keeps start before middle script rest line behind read run further some is_line is_behind is_read grew makes now after more =
    let fact : RunsLine line run grew.more further = record { read = read; is_read = is_read; runs = grew.fact } in
    let both : GrewBy before now (λ written. RunsLines (line ∷ lines behind) run written after) = grew_more (record { more = grew.more; grew = grew.grew; fact = fact }) more in
    let split : lines rest ≡ line ∷ lines behind = rw (is_line, is_behind) (lines_first rest some) in
    makes now after (subst (λ ls. GrewBy before now (λ written. RunsLines ls run written after)) (sym split) both)

-- behind the last line the script's text is whole
pub finished : (terse keeps : Bool) (start now script rest : List ℕ) (labels : List Entry) (notes : Notes) → length rest ≡ 0 → MakesWhole terse keeps start now script rest (record { labels = labels; notes = notes }) → GrewBy start now (λ written. RunsLinesTo terse keeps script written (record { labels = labels; notes = notes }))
finished terse keeps start now script [] labels notes none_left makes = makes now (record { labels = labels; notes = notes }) (grew_none now (record { labels = labels; notes = notes }))
finished terse keeps start now script (byte ∷ bytes) labels notes none_left makes = absurd (omega arith)

-- and the script ends
pub lines_ended : (terse keeps : Bool) (before now script : List ℕ) (labels : List Entry) (behind notes : Notes) → GrewBy before now (λ written. RunsLinesTo terse keeps script written (record { labels = labels; notes = behind })) → notes ≡ ended_all (sessions_of labels) behind → GrewBy before now (λ written. LeadsTo terse keeps script written notes)
lines_ended terse keeps before now script labels behind notes grew ends = record { more = grew.more; grew = grew.grew; fact = record { labels = labels; behind = behind; runs = grew.fact; ended = ends } }

-- what was shown are the records of the book
pub booked_text : {E : Type 0} (terse keeps : Bool) (fresh : Notes) (start now script : List ℕ) (notes : Notes) (r : Result Ran E) → fresh ≡ (opening_script terse keeps).notes → GrewBy start now (λ written. LeadsTo fresh.terse (is_keeping fresh) script written notes) → IfOk r (λ ran. AreTheRecords ran.book.seen.committed notes.shown) → IfOk r (λ ran. AreTried ran.book.seen.committed notes (map tried_by ran.attempts.items)) → IfOk r (λ ran. AreExplained (world_of ran.book.seen)) → IfOk r (λ ran. GrewBy start now (λ written. IsScriptRun terse keeps script written ran.book.seen.committed (map tried_by ran.attempts.items)))
booked_text terse keeps fresh start now script notes (Ok ran) is leads records tried explained =
    let behind : Notes = leads.fact.behind in
    let after : Script = record { labels = leads.fact.labels; notes = behind } in
    let shown : notes.shown ≡ behind.shown = ap (λ (n : Notes). n.shown) leads.fact.ended ∙ ended_shown (sessions_of leads.fact.labels) behind in
    let are : AreTheRecords ran.book.seen.committed behind.shown = subst (λ (xs : List Shown). AreTheRecords ran.book.seen.committed xs) shown records in
    let same : is_keeping fresh ≡ keeps = ap is_keeping is ∙ keeping_is terse keeps in
    let runs : RunsLines (lines script) (opening_script terse keeps) leads.more after = subst (λ (k : Bool). RunsLines (lines script) (opening_script terse k) leads.more after) same (subst (λ (b : Bool). RunsLines (lines script) (opening_script b (is_keeping fresh)) leads.more after) (ap (λ (n : Notes). n.terse) is) leads.fact.runs) in
    record {
      more = leads.more;
      grew = leads.grew;
      fact = record {
        after = after;
        runs = runs;
        records = are;
        alone = λ one. one_label terse keeps ran.book.seen.committed (lines script) one.name leads.more after explained are runs one.under;
        tried_are = subst (λ (n : Notes). AreTried ran.book.seen.committed n (map tried_by ran.attempts.items)) leads.fact.ended tried;
      };
    }
booked_text terse keeps fresh start now script notes (Err fault) is leads records tried explained = tt

-- the text of what was given
pub ran_script : {E : Type 0} (terse keeps : Bool) (given_before given_now taken_before taken_now script : List ℕ) (r : Result Ran E) → given_now ≡ given_before ++ script → IfOk r (λ ran. GrewBy taken_before taken_now (λ written. IsScriptRun terse keeps script written ran.book.seen.committed (map tried_by ran.attempts.items))) → IfOk r (λ ran. RunsScriptKeeping terse keeps given_before given_now taken_before taken_now ran.book.seen.committed (map tried_by ran.attempts.items))
ran_script terse keeps given_before given_now taken_before taken_now script (Ok ran) given text = record { script = script; given = given; text = text }
ran_script terse keeps given_before given_now taken_before taken_now script (Err fault) given text = tt

-- whatever was kept
pub ran_keeping_none : (terse keeps : Bool) (given_before given_now taken_before taken_now : List ℕ) (history : List Record) (tried : List Tried) → RunsScriptKeeping terse keeps given_before given_now taken_before taken_now history tried → RunsScript terse given_before given_now taken_before taken_now history
ran_keeping_none terse keeps given_before given_now taken_before taken_now history tried runs = record {
  script = runs.script;
  given = runs.given;
  text = record { more = runs.text.more; grew = runs.text.grew; fact = (keeps, tried, runs.text.fact) };
}
