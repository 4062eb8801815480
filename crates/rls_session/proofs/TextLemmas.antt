-- What is written for a whole script.
use Rattle.std.proofs.Common.{◌≡◌, ℕ, Bool, List, ◌++◌, map, sym, ap, subst, ◌∙◌, Result, Ok, Err, OnOk, IfOk}
use Rattle.std.specs.Str.Lines.{lines}
use Rattle.rls_engine.specs.rls_core.specs.Seen.{world_of}
use Rattle.rls_engine.specs.rls_core.specs.Headline.{AreExplained}
use Rattle.rls_engine.specs.rls_core.specs.Records.{Record}
use Rattle.rls_script.specs.Streams.{GrewBy}
use Rattle.rls_script.specs.Plans.{Plan, ReadsLines, Task, opening_plan, phases_of}
use Rattle.rls_session.proofs.PhasesAloneLemmas.{one_label_in_phases}
use Rattle.rls_session.proofs.ScriptLemmas.{keeping_is}
use Rattle.rls_session.specs.declared.script.Ran.{Ran}
use Rattle.rls_session.specs.Books.{AreTheRecords, AreTried}
use Rattle.rls_session.specs.Labels.{ended_all, opening_script}
use Rattle.rls_session.specs.Parts.{Notes, Tried, is_keeping, tried_by}
use Rattle.rls_session.specs.Phases.{RunsPhases, Seat, sessions_at}
use Rattle.rls_session.specs.Texts.{EndsPhases, IsPhasesRun, LeadsTo, RunsInPhases, RunsPhasesKeeping}

-- behind the last phase the open blocks end
pub phases_ended : (terse keeps : Bool) (names : List (List ℕ)) (phases : List (List Task)) (seats : List Seat) (behind notes : Notes) (before now : List ℕ) → GrewBy before now (λ written. RunsPhases terse keeps names phases written (record { seats = seats; notes = behind })) → notes ≡ ended_all (sessions_at seats) behind → GrewBy before now (λ written. EndsPhases terse keeps names phases written notes)
phases_ended terse keeps names phases seats behind notes before now grew ends = record { more = grew.more; grew = grew.grew; fact = record { seats = seats; behind = behind; runs = grew.fact; ended = ends } }

-- the phases of a plan
pub leads : {E : Type 0} (terse keeps : Bool) (r : Result (Unit {0}) E) (plan : Plan) (names : List (List ℕ)) (phases : List (List Task)) (notes : Notes) (before now : List ℕ) → names ≡ plan.names → phases ≡ phases_of plan → OnOk r (GrewBy before now (λ written. EndsPhases terse keeps names phases written notes)) → OnOk r (GrewBy before now (λ written. LeadsTo terse keeps plan written notes))
leads terse keeps (Ok x) plan names phases notes before now is_names are_phases grew =
    let ends = grew.fact in
    let there = subst (λ ns. RunsPhases terse keeps ns (phases_of plan) grew.more (record { seats = ends.seats; notes = ends.behind })) is_names (subst (λ ps. RunsPhases terse keeps names ps grew.more (record { seats = ends.seats; notes = ends.behind })) are_phases ends.runs) in
    record { more = grew.more; grew = grew.grew; fact = record { seats = ends.seats; behind = ends.behind; runs = there; ended = ends.ended } }
leads terse keeps (Err f) plan names phases notes before now is_names are_phases grew = tt

-- with the book
pub closed : {E : Type 0} (r : Result Ran E) (script : List ℕ) (plan : Plan) (notes : Notes) (before now : List ℕ) (terse keeps : Bool) (fresh : Notes) → fresh ≡ (opening_script terse keeps).notes → ReadsLines (lines script) opening_plan plan → GrewBy before now (λ written. LeadsTo fresh.terse (is_keeping fresh) plan written notes) → IfOk r (λ ran. AreTheRecords ran.book.seen.committed notes.shown) → IfOk r (λ ran. AreTried ran.book.seen.committed notes (map tried_by ran.attempts.items)) → IfOk r (λ ran. AreExplained (world_of ran.book.seen)) → IfOk r (λ ran. GrewBy before now (λ written. IsPhasesRun terse keeps script written ran.book.seen.committed (map tried_by ran.attempts.items)))
closed (Ok ran) script plan notes before now terse keeps fresh is reads grew records tried explained =
    let same : is_keeping fresh ≡ keeps = ap is_keeping is ∙ keeping_is terse keeps in
    let led : LeadsTo terse keeps plan grew.more notes = subst (λ (k : Bool). LeadsTo terse k plan grew.more notes) same (subst (λ (b : Bool). LeadsTo b (is_keeping fresh) plan grew.more notes) (ap (λ (n : Notes). n.terse) is) grew.fact) in
    record {
      more = grew.more;
      grew = grew.grew;
      fact = record {
        plan = plan;
        reads = reads;
        notes = notes;
        leads = led;
        records = records;
        alone = λ one. one_label_in_phases terse keeps ran.book.seen.committed script plan grew.more notes explained records reads led one;
        tried_are = tried;
      };
    }
closed (Err e) script plan notes before now terse keeps fresh is reads grew records tried explained = tt

-- the text of what was given
pub ran_in_phases : {E : Type 0} (terse keeps : Bool) (given_before given_now taken_before taken_now script : List ℕ) (r : Result Ran E) → given_now ≡ given_before ++ script → IfOk r (λ ran. GrewBy taken_before taken_now (λ written. IsPhasesRun terse keeps script written ran.book.seen.committed (map tried_by ran.attempts.items))) → IfOk r (λ ran. RunsPhasesKeeping terse keeps given_before given_now taken_before taken_now ran.book.seen.committed (map tried_by ran.attempts.items))
ran_in_phases terse keeps given_before given_now taken_before taken_now script (Ok ran) given text = record { script = script; given = given; text = text }
ran_in_phases terse keeps given_before given_now taken_before taken_now script (Err e) given text = tt

-- whatever was kept
pub ran_keeping_none : (terse keeps : Bool) (given_before given_now taken_before taken_now : List ℕ) (history : List Record) (tried : List Tried) → RunsPhasesKeeping terse keeps given_before given_now taken_before taken_now history tried → RunsInPhases terse given_before given_now taken_before taken_now history
ran_keeping_none terse keeps given_before given_now taken_before taken_now history tried runs = record {
  script = runs.script;
  given = runs.given;
  text = record { more = runs.text.more; grew = runs.text.grew; fact = (keeps, tried, runs.text.fact) };
}
