-- Answers to lines, put together from what a run of their marked script wrote.
use Rattle.std.proofs.Common.{◌≡◌, refl, ℕ, Bool, true, false, ◌&&◌, List, [], ◌∷◌, ◌++◌, length, map, take, Option, Some, None, Result, Ok, Err, IfOk, OnOk, Bor, sym, ap, subst, ◌∙◌, arith}
use Rattle.std.proofs.lemmas.Bool.{true≢false}
use Rattle.std.proofs.lemmas.List.{take-map, take_all}
use Rattle.std.proofs.lemmas.Slice.Eq.{bytes_eq-Decides}
use Rattle.std.specs.List.{All}
use Rattle.std.specs.Str.{bytes_eq}
use Rattle.rls_check.specs.rls_audit.specs.Showing.{AreTexts}
use Rattle.rls_check.specs.rls_audit.specs.rls_core.specs.Records.{Record}
use Rattle.rls_session.specs.Scripts.{IsScriptText, RunsScript}
use Rattle.rls_session.specs.rls_engine.specs.Views.{Closed}
use Rattle.rls_session.specs.rls_script.specs.Streams.{GrewBy}
use Rattle.rls_transcript.specs.Marks.{marked}
use Rattle.rls_transcript.specs.Memory.{given_of, is_ended}
use Rattle.rls_transcript.specs.Told.{Told, ended}
use Rattle.rlsdb.specs.Tests.{AreAnswered, AreAnsweredUntil, IsLastRefused, StopsAt, cut_at_marks, none_refused}
use Rattle.rlsdb.specs.declared.answering.Answered.{Answered}

no : {A : Type 0} → false ≡ true → A
no is = absurd (true≢false (sym is))

-- what was given of a script that is held in memory is all of it, once the end was reached
all_given : (script : List ℕ) (place : Option ℕ) → is_ended place ≡ true → given_of script place ≡ script
all_given script (Some place) is = no is
all_given script None is = refl

-- the text of the script that the input has
pub text_given : {E : Type 0} (r : Result Closed E) (terse : Bool) (script_old script_new old new : List ℕ) (place_old place_new : Option ℕ) → given_of script_old place_old ≡ [] → IfOk r (λ book. RunsScript terse (given_of script_old place_old) (given_of script_new place_new) old new book.seen.committed) → OnOk r (is_ended place_new ≡ true) → IfOk r (λ book. GrewBy old new (λ written. IsScriptText terse script_new written book.seen.committed))
text_given (Ok book) terse script_old script_new old new place_old place_new fresh runs is =
    let same : runs.script ≡ script_new = sym (runs.given ∙ ap (λ it. it ++ runs.script) fresh) ∙ all_given script_new place_new is in
    subst (λ it. GrewBy old new (λ written. IsScriptText terse it written book.seen.committed)) same runs.text
text_given (Err e) terse script_old script_new old new place_old place_new fresh runs is = tt

-- that of the marked script, where this is what the input has
pub marked_text : {E : Type 0} (r : Result Closed E) (terse same : Bool) (given shown script old new : List ℕ) (asked : List (List ℕ)) → shown ≡ given → same ≡ bytes_eq shown script → same ≡ true → script ≡ ended (marked asked) → IfOk r (λ book. GrewBy old new (λ written. IsScriptText terse given written book.seen.committed)) → IfOk r (λ book. GrewBy old new (λ written. IsScriptText terse (ended (marked asked)) written book.seen.committed))
marked_text (Ok book) terse same given shown script old new asked all compared is are text =
    subst (λ it. GrewBy old new (λ written. IsScriptText terse it written book.seen.committed)) (sym all ∙ ((bytes_eq-Decides shown script).0 (sym compared ∙ is) ∙ are)) text
marked_text (Err e) terse same given shown script old new asked all compared is are text = tt

-- of what was held, cut at its marks
answered_with : (terse : Bool) (asked : List (List ℕ)) (tolds : List Told) (book held : Closed) (old bytes : List ℕ) → old ≡ [] → GrewBy old bytes (λ written. IsScriptText terse (ended (marked asked)) written book.seen.committed) → tolds ≡ cut_at_marks asked bytes → held ≡ book → AreAnswered terse asked tolds held.seen.committed
answered_with terse asked tolds book held old bytes none text cut same = record {
  written = text.more;
  text = subst (λ (it : Closed). IsScriptText terse (ended (marked asked)) text.more it.seen.committed) (sym same) text.fact;
  cut = cut ∙ ap (λ it. cut_at_marks asked it) (text.grew ∙ ap (λ it. it ++ text.more) none);
}

-- the same of answers that may want memory
pub answered_by : {E : Type 0} (r : Result Answered E) (terse : Bool) (asked : List (List ℕ)) (book : Closed) (old bytes : List ℕ) → old ≡ [] → GrewBy old bytes (λ written. IsScriptText terse (ended (marked asked)) written book.seen.committed) → IfOk r (λ it. it.tolds.items ≡ cut_at_marks asked bytes) → IfOk r (λ it. it.book ≡ book) → IfOk r (λ it. AreAnswered terse asked it.tolds.items it.book.seen.committed)
answered_by (Ok it) terse asked book old bytes none text cut same = answered_with terse asked it.tolds.items book it.book old bytes none text cut same
answered_by (Err e) terse asked book old bytes none text cut same = tt

-- and the book's records stay texts
pub texts_by : {E : Type 0} (r : Result Answered E) (book : Closed) → All AreTexts book.seen.committed → IfOk r (λ it. it.book ≡ book) → IfOk r (λ it. All AreTexts it.book.seen.committed)
texts_by (Ok it) book are same = subst (λ (held : Closed). All AreTexts held.seen.committed) (sym same) are
texts_by (Err e) book are same = tt

-- all lines were run, and none was refused
pub until_all : {E : Type 0} (r : Result (Answered × Bool) E) (terse : Bool) (asked : List (List ℕ)) (book : Closed) (old bytes : List ℕ) → old ≡ [] → GrewBy old bytes (λ written. IsScriptText terse (ended (marked asked)) written book.seen.committed) → IfOk r (λ it. it.0.tolds.items ≡ cut_at_marks asked bytes) → IfOk r (λ it. it.0.book ≡ book) → IfOk r (λ it. it.1 ≡ true) → IfOk r (λ it. none_refused it.0.tolds.items ≡ true)
    → IfOk r (λ it. AreAnsweredUntil terse asked it.0.tolds.items it.0.book.seen.committed it.1)
until_all (Ok it) terse asked book old bytes none text cut same done all =
    let whole : take (length asked) asked ≡ asked = take_all (length asked) asked (omega arith) in
    let stops : StopsAt (length asked) asked it.0.tolds.items true = (omega arith, all) in
    record {
      count = length asked;
      answered = subst (λ lines. AreAnswered terse lines it.0.tolds.items it.0.book.seen.committed) (sym whole) (answered_with terse asked it.0.tolds.items book it.0.book old bytes none text cut same);
      stops = subst (λ b. StopsAt (length asked) asked it.0.tolds.items b) (sym done) stops;
    }
until_all (Err e) terse asked book old bytes none text cut same done all = tt

-- and the book's records stay texts
pub texts_until_all : {E : Type 0} (r : Result (Answered × Bool) E) (book : Closed) → All AreTexts book.seen.committed → IfOk r (λ it. it.0.book ≡ book) → IfOk r (λ it. All AreTexts it.0.book.seen.committed)
texts_until_all (Ok it) book are same = subst (λ (held : Closed). All AreTexts held.seen.committed) (sym same) are
texts_until_all (Err e) book are same = tt

-- the last of the lines that were run is the first that was refused
pub until_last : (terse : Bool) (all first : List (Bor (List ℕ))) (count : ℕ) (tolds judged : List Told) (history : List Record) (is : Bool) → first ≡ take count all → AreAnswered terse (map (λ line. line.now) first) tolds history → judged ≡ tolds → (is ≡ true → IsLastRefused judged) → is ≡ true → AreAnsweredUntil terse (map (λ line. line.now) all) tolds history false
until_last terse all first count tolds judged history is are answered same law holds =
    let now = λ (it : Bor (List ℕ)). it.now in
    record {
      count = count;
      answered = subst (λ lines. AreAnswered terse lines tolds history) (ap (map now) are ∙ sym (take-map now count all)) answered;
      stops = subst IsLastRefused same (law holds);
    }

and_left : (a b : Bool) → (a && b) ≡ true → a ≡ true
and_left true b is = refl
and_left false b is = is

and_right : (a b : Bool) → (a && b) ≡ true → b ≡ true
and_right true b is = is
and_right false b is = no is

-- the last is a refusal, and none in front of it
pub last_refused : (tolds front : List Told) (last : Told) (is none : Bool) → tolds ≡ front ++ (last ∷ []) → is ≡ last.refused → none ≡ none_refused front → (is && none) ≡ true → IsLastRefused tolds
last_refused tolds front last is none are refused judged both = record {
  front = front;
  last = last;
  are = are;
  none = sym judged ∙ and_right is none both;
  refused = sym refused ∙ and_left is none both;
}
