-- Answers behind the transactions that their lines were answered in.
use Rattle.std.proofs.Common.{◌≡◌, refl, ◌+◌, ◌-◌, ◌<◌, ◌≤◌, ◌^◌, ◌++◌, ◌∷◌, [], ℕ, Bool, true, false, not, ◌&&◌, List, Bor, length, drop, map, sym, ap, subst, ◌∙◌, arith, lt-ltb, append_assoc, append-nil}
use Rattle.std.specs.Fmt.{decimal}
use Rattle.std.specs.Int.{IsInRange}
use Rattle.std.specs.List.{after_first, list_all}
use Rattle.std.specs.Prelude.{codes, cond, get_or, nat_eq, nat_lt}
use Rattle.std.specs.Str.Lines.{lines}
use Rattle.std.specs.Str.Parse.{AllDigits, digits_value}
use Rattle.std.proofs.lemmas.Bool.Decides.{nat_tests}
use Rattle.std.proofs.lemmas.Fmt.{digits_decimal}
use Rattle.std.proofs.lemmas.List.{drop_all, drop_more}
use Rattle.std.proofs.lemmas.List.Folds.{list_all-append}
use Rattle.std.proofs.lemmas.Str.Parse.{IsNumeralModel, tells_digits}
use Rattle.rls_script.specs.declared.requesting.{Request.Request, Status.Status}
use Rattle.rls_script.specs.Lines.{ends_line, first_line_of}
use Rattle.rls_script.specs.Plans.{place_in, with_name}
use Rattle.rls_script.specs.Requests.{Requests}
use Rattle.rls_script.proofs.LinesLaws.{lines_first}
use Rattle.rls_transcript.specs.declared.numbering.{Rows.Rows, Stand.Stand, Step.Step, Where.Where}
use Rattle.rls_transcript.specs.declared.numbering.Where.TheVariants as w
use Rattle.rls_transcript.specs.Numbers.{AreNumbered, IsNumbered, IsNumberedIf, IsSmall, IsStepped, MarksEndAtTab, Run, behind_tab, is_tab, mark_text, next, none, numbered_answer, numbered_from, opening_run, rows_text, run_behind, stand_at, status_of, step_of, where_text, with_stand}
use Rattle.rls_transcript.specs.Told.{Told}

-- ---- one line more

abbrev now_of : Bor (List ℕ) → List ℕ
now_of line = line.now

-- what the lines that are left are answered in leads to the whole
pub numbered_more : (lines : List (Bor (List ℕ))) (d : Bor (List ℕ)) (whole : List (List ℕ)) (run after : Run) (told : Told) (tolds : List Told) (place : ℕ) (at : Where) (old new : List Where) → place < length lines → place < length tolds
    → told ≡ get_or tolds place told → IsNumbered (get_or lines place d).now run told at after → new ≡ old ++ at ∷ []
    → ((more : List Where) → AreNumbered (map (λ it. it.now) (drop place lines)) run (drop place tolds) more → AreNumbered whole opening_run tolds (old ++ more))
    → (more : List Where) → AreNumbered (map (λ it. it.now) (drop (place + 1) lines)) after (drop (place + 1) tolds) more → AreNumbered whole opening_run tolds (new ++ more)
numbered_more lines d whole run after told tolds place at old new there told_there told_is is grown so_far more are =
    let line : Bor (List ℕ) = get_or lines place d in
    let first : drop place lines ≡ line ∷ drop (place + 1) lines = drop_more lines place d there in
    let answer : drop place tolds ≡ told ∷ drop (place + 1) tolds = drop_more tolds place told told_there ∙ ap (λ (it : Told). it ∷ drop (place + 1) tolds) (sym told_is) in
    let all : AreNumbered (map now_of (drop place lines)) run (drop place tolds) (at ∷ more) =
    subst (λ them. AreNumbered (map now_of them) run (drop place tolds) (at ∷ more)) (sym first) (subst (λ them. AreNumbered (map now_of (line ∷ drop (place + 1) lines)) run them (at ∷ more)) (sym answer) (next is are)) in
    subst (AreNumbered whole opening_run tolds) (sym (append_assoc old (at ∷ []) more) ∙ ap (λ wheres. wheres ++ more) (sym grown)) (so_far (at ∷ more) all)

pub numbered_all : (lines : List (Bor (List ℕ))) (whole : List (List ℕ)) (run : Run) (tolds : List Told) (place : ℕ) (wheres : List Where) → length tolds ≤ place
    → ((more : List Where) → AreNumbered (map (λ it. it.now) (drop place lines)) run (drop place tolds) more → AreNumbered whole opening_run tolds (wheres ++ more)) → AreNumbered whole opening_run tolds wheres
numbered_all lines whole run tolds place wheres over so_far =
    subst (AreNumbered whole opening_run tolds) (append-nil wheres) (so_far [] (subst (λ them. AreNumbered (map now_of (drop place lines)) run them []) (sym (drop_all place tolds over)) none))

-- ---- a command

-- under one of the first 64 labels it takes the step of what it requests
pub stepped_under : (run after : Run) (name command : List ℕ) (told : Told) (at : Where) (place : ℕ) (stand : Stand) (status : Status) (request : Request) (step : Step) → place ≡ place_in run.names name → place < 64 → stand ≡ stand_at run place → status ≡ status_of stand
    → Requests status command request → step ≡ step_of run.counts stand request told → after ≡ run_behind run name step → at ≡ step.at → IsNumberedIf (nat_lt (place_in run.names name) 64) run name command told at after
stepped_under run after name command told at place stand status request step is small stands asks requests steps behind_is at_is =
    let there : stand ≡ stand_at run (place_in run.names name) = stands ∙ ap (stand_at run) is in
    let taken : step ≡ step_of run.counts (stand_at run (place_in run.names name)) request told = steps ∙ ap (λ it. step_of run.counts it request told) there in
    let first : IsStepped run name command told at after = record {
      request = request;
      requests = subst (λ it. Requests it command request) (asks ∙ ap status_of there) requests;
      at_is = at_is ∙ ap (λ it. it.at) taken;
      after_is = behind_is ∙ ap (run_behind run name) taken;
    } in
    subst (λ it. IsNumberedIf (nat_lt it 64) run name command told at after) is (subst (λ b. IsNumberedIf b run name command told at after) (sym (lt-ltb place 64 small)) first)

-- under others it is refused
pub nowhere_under : (run : Run) (name command : List ℕ) (told : Told) (place : ℕ) → place ≡ place_in run.names name → 64 ≤ place → IsNumberedIf (nat_lt (place_in run.names name) 64) run name command told w.Nowhere run
nowhere_under run name command told place is many =
    let beyond : nat_lt place 64 ≡ false = grind (arith, nat_tests) in
    subst (λ it. IsNumberedIf (nat_lt it 64) run name command told w.Nowhere run) is (subst (λ b. IsNumberedIf b run name command told w.Nowhere run) (sym beyond) (record { at_is = refl; after_is = refl }))

-- the run behind a step, by its parts
pub put_so : (run after : Run) (name : List ℕ) (step : Step) (place : ℕ) → place ≡ place_in run.names name → after.names ≡ with_name run.names name → after.stands ≡ with_stand run.stands place step.stand → after.counts ≡ step.counts → after ≡ run_behind run name step
put_so run after name step place is names stands counts = λ i. record { names = names i; stands = (stands ∙ ap (λ it. with_stand run.stands it step.stand) is) i; counts = counts i }

-- ---- what is written

-- what is written, and what is written of the answers that are left, make the whole
pub answers_more : (place : ℕ) (told : Told) (tolds : List Told) (at : Where) (wheres : List Where) (old new whole : List ℕ) → place < length tolds → place < length wheres → told ≡ get_or tolds place told → at ≡ get_or wheres place at
    → new ≡ old ++ numbered_answer (place + 1) at (lines told.text) → old ++ numbered_from (place + 1) (drop place tolds) (drop place wheres) ≡ whole → new ++ numbered_from (place + 1 + 1) (drop (place + 1) tolds) (drop (place + 1) wheres) ≡ whole
answers_more place told tolds at wheres old new whole there where_there told_is at_is grew so_far =
    let answer : drop place tolds ≡ told ∷ drop (place + 1) tolds = drop_more tolds place told there ∙ ap (λ (it : Told). it ∷ drop (place + 1) tolds) (sym told_is) in
    let first : drop place wheres ≡ at ∷ drop (place + 1) wheres = drop_more wheres place at where_there ∙ ap (λ (it : Where). it ∷ drop (place + 1) wheres) (sym at_is) in
    ap (λ bytes. bytes ++ numbered_from (place + 1 + 1) (drop (place + 1) tolds) (drop (place + 1) wheres)) grew
    ∙ append_assoc old (numbered_answer (place + 1) at (lines told.text)) (numbered_from (place + 1 + 1) (drop (place + 1) tolds) (drop (place + 1) wheres))
    ∙ (λ i. old ++ numbered_from (place + 1) (sym answer i) (sym first i)) ∙ so_far

none_from : (number : ℕ) (tolds : List Told) → numbered_from number tolds [] ≡ []
none_from number [] = refl
none_from number (told ∷ tolds) = refl

-- no answer is left
pub answers_all : (place : ℕ) (tolds : List Told) (wheres : List Where) (bytes whole : List ℕ) → length tolds ≤ place → bytes ++ numbered_from (place + 1) (drop place tolds) (drop place wheres) ≡ whole → bytes ≡ whole
answers_all place tolds wheres bytes whole over so_far =
    sym (append-nil bytes) ∙ ap (λ them. bytes ++ numbered_from (place + 1) them (drop place wheres)) (sym (drop_all place tolds over)) ∙ so_far

-- or of no further answer it is told where it was
pub wheres_all : (place : ℕ) (tolds : List Told) (wheres : List Where) (bytes whole : List ℕ) → length wheres ≤ place → bytes ++ numbered_from (place + 1) (drop place tolds) (drop place wheres) ≡ whole → bytes ≡ whole
wheres_all place tolds wheres bytes whole over so_far =
    sym (append-nil bytes) ∙ ap (λ rest. bytes ++ rest) (sym (none_from (place + 1) (drop place tolds))) ∙ ap (λ them. bytes ++ numbered_from (place + 1) (drop place tolds) them) (sym (drop_all place wheres over)) ∙ so_far

-- the same of the lines of an answer
pub lines_more : (number : ℕ) (at : Where) (mark old middle new line rest behind whole : List ℕ) → 0 < length rest → mark ≡ mark_text number at → middle ≡ old ++ mark → new ≡ middle ++ (line ++ (10 ∷ [])) → line ≡ first_line_of rest → behind ≡ after_first ends_line rest
    → old ++ numbered_answer number at (lines rest) ≡ whole → new ++ numbered_answer number at (lines behind) ≡ whole
lines_more number at mark old middle new line rest behind whole some is put ended is_line is_behind so_far =
    let split : lines rest ≡ line ∷ lines behind = rw (is_line, is_behind) (lines_first rest some) in
    let others = numbered_answer number at (lines behind) in
    ap (λ bytes. bytes ++ others) (ended ∙ ap (λ bytes. bytes ++ (line ++ (10 ∷ []))) put ∙ append_assoc old mark (line ++ (10 ∷ [])))
    ∙ append_assoc old (mark ++ (line ++ (10 ∷ []))) others
    ∙ ap (λ bytes. old ++ ((bytes ++ (line ++ (10 ∷ []))) ++ others)) is
    ∙ ap (λ all. old ++ numbered_answer number at all) (sym split) ∙ so_far

-- ---- no mark has a tab but at its end

abbrev no_tab : ℕ → Bool
no_tab byte = not (is_tab byte)

abbrev HasNoTab : List ℕ → Type 0
HasNoTab bytes = list_all no_tab bytes ≡ true

none_in_both : (first second : List ℕ) → HasNoTab first → HasNoTab second → HasNoTab (first ++ second)
none_in_both first second one other = list_all-append no_tab first second ∙ rw (one, other) refl

own : IsNumeralModel (AllDigits 10) (digits_value 10)
own = record { to = λ ds are. are; from = λ ds are. are; same = λ ds are. refl }

digit_is_no_tab : (c : ℕ) → IsInRange 48 57 c → is_tab c ≡ false
digit_is_no_tab c within = grind (arith, nat_tests)

none_in_digits : (ds : List ℕ) → AllDigits 10 ds → HasNoTab ds
none_in_digits [] are = refl
none_in_digits (d ∷ ds) are = let parts = tells_digits.parts d ds are in rw (digit_is_no_tab d parts.0, none_in_digits ds parts.1) refl

none_in_number : (n : ℕ) → n < 2 ^ 64 → HasNoTab (decimal n)
none_in_number n small = none_in_digits (decimal n) (digits_decimal own n small)

-- a row of a transaction, with this before it, and what stands behind it
none_in_row : (before : List ℕ) (txn n : ℕ) (behind : List ℕ) → HasNoTab before → txn < 2 ^ 64 → n < 2 ^ 64 → HasNoTab behind → HasNoTab (before ++ (decimal txn ++ (codes "." ++ (decimal n ++ behind))))
none_in_row before txn n behind clear small within rest =
    none_in_both before (decimal txn ++ (codes "." ++ (decimal n ++ behind))) clear
    (none_in_both (decimal txn) (codes "." ++ (decimal n ++ behind)) (none_in_number txn small)
    (none_in_both (codes ".") (decimal n ++ behind) refl (none_in_both (decimal n) behind (none_in_number n within) rest)))

none_in_one : (before : List ℕ) (txn n : ℕ) → HasNoTab before → txn < 2 ^ 64 → n < 2 ^ 64 → HasNoTab (before ++ (decimal txn ++ (codes "." ++ decimal n)))
none_in_one before txn n clear small within =
    none_in_both before (decimal txn ++ (codes "." ++ decimal n)) clear (none_in_both (decimal txn) (codes "." ++ decimal n) (none_in_number txn small) (none_in_both (codes ".") (decimal n) refl (none_in_number n within)))

none_in_some : (txn : ℕ) (rows : Rows) (empty one : Bool) → txn < 2 ^ 64 → rows.first + rows.count < 2 ^ 64
    → HasNoTab (cond empty [] (cond one (codes " rows " ++ (decimal txn ++ (codes "." ++ decimal rows.first))) (codes " rows " ++ (decimal txn ++ (codes "." ++ (decimal rows.first ++ (codes "-" ++ (decimal txn ++ (codes "." ++ decimal (rows.first + (rows.count - 1)))))))))))
none_in_some txn rows true one small within = refl
none_in_some txn rows false true small within = none_in_one (codes " rows ") txn rows.first refl small (omega (arith, within))
none_in_some txn rows false false small within =
    none_in_row (codes " rows ") txn rows.first (codes "-" ++ (decimal txn ++ (codes "." ++ decimal (rows.first + (rows.count - 1))))) refl small (omega (arith, within))
    (none_in_one (codes "-") txn (rows.first + (rows.count - 1)) refl small (omega (arith, within)))

none_in_rows : (txn : ℕ) (rows : Rows) → txn < 2 ^ 64 → rows.first + rows.count < 2 ^ 64 → HasNoTab (rows_text txn rows)
none_in_rows txn rows small within = none_in_some txn rows (nat_eq rows.count 0) (nat_eq rows.count 1) small within

none_in_where : (at : Where) → IsSmall at → HasNoTab (where_text at)
none_in_where w.Nowhere small = refl
none_in_where (w.Begun txn) small = none_in_number txn small
none_in_where (w.Posted txn number rows) small =
    none_in_both (decimal txn) (codes "." ++ (decimal number ++ rows_text txn rows)) (none_in_number txn small.0)
    (none_in_both (codes ".") (decimal number ++ rows_text txn rows) refl (none_in_both (decimal number) (rows_text txn rows) (none_in_number number small.1) (none_in_rows txn rows small.0 small.2)))
none_in_where (w.Alone txn rows commit) small =
    none_in_both (decimal txn) (codes ".1" ++ (rows_text txn rows ++ (codes " commit " ++ decimal commit))) (none_in_number txn small.0)
    (none_in_both (codes ".1") (rows_text txn rows ++ (codes " commit " ++ decimal commit)) refl
    (none_in_both (rows_text txn rows) (codes " commit " ++ decimal commit) (none_in_rows txn rows small.0 small.1) (none_in_both (codes " commit ") (decimal commit) refl (none_in_number commit small.2))))
none_in_where (w.Committed txn commit) small =
    none_in_both (decimal txn) (codes " commit " ++ decimal commit) (none_in_number txn small.0) (none_in_both (codes " commit ") (decimal commit) refl (none_in_number commit small.1))
none_in_where (w.Over txn) small = none_in_both (decimal txn) (codes " over") (none_in_number txn small) refl

-- what stands behind the first tab
behind_first : (front line : List ℕ) → HasNoTab front → behind_tab (front ++ (9 ∷ line)) ≡ line
behind_first [] line clear = refl
behind_first (byte ∷ front) line clear = go (is_tab byte) clear (λ rest. behind_first front line rest)
  where
    go : (tab : Bool) → (not tab && list_all no_tab front) ≡ true → (HasNoTab front → behind_tab (front ++ (9 ∷ line)) ≡ line) → cond tab (front ++ (9 ∷ line)) (behind_tab (front ++ (9 ∷ line))) ≡ line
    go true h again = absurd (cc)
    go false h again = again h

pub marks_end : MarksEndAtTab
marks_end number at line small within =
    ap behind_tab (append_assoc (decimal number) (codes " " ++ (where_text at ++ (9 ∷ []))) line ∙ ap (λ rest. decimal number ++ (codes " " ++ rest)) (append_assoc (where_text at) (9 ∷ []) line)
    ∙ sym (append_assoc (decimal number) (codes " " ++ where_text at) (9 ∷ line)))
    ∙ behind_first (decimal number ++ (codes " " ++ where_text at)) line
    (none_in_both (decimal number) (codes " " ++ where_text at) (none_in_number number small) (none_in_both (codes " ") (where_text at) refl (none_in_where at within)))
