-- Reports, put together line by line.
use Rattle.std.proofs.Common.{◌≡◌, ◌+◌, ◌-◌, ◌≤◌, ◌<◌, suc, ℕ, true, false, List, [], ◌∷◌, ◌++◌, length, map, take, drop, get_or, slice_index_or, Bor, refl, subst, sym, ap, ◌∙◌, append_assoc, append-nil, length-drop, arith}
use Rattle.std.proofs.lemmas.List.{take_all}
use Rattle.rls_transcript.specs.declared.difference.Step.{Step}
use Rattle.rls_transcript.specs.Reports.{IsDifference, IsReport, Reports, ReportsLine, fail, failure_text, more, none, other, pass, tally_text}
use Rattle.rls_script.specs.Streams.{GrewBy}
use Rattle.rls_transcript.specs.Told.{Told, told_lines}
use Rattle.rls_transcript.specs.Transcripts.{answers_behind, indent_of, is_command, passes}

-- nothing is written of a line that is no command
pub told_other : (name : List ℕ) (indent number : ℕ) (line : List ℕ) (lines : List (List ℕ)) (told : Told) (now : List ℕ) → is_command indent line ≡ false → GrewBy now now (λ written. ReportsLine name indent number line lines told written 0 0)
told_other name indent number line lines told now is = record { more = []; grew = sym (append-nil now); fact = other is }

-- and of a command that passes
pub told_pass : (name : List ℕ) (indent number : ℕ) (line : List ℕ) (lines expected : List (List ℕ)) (told : Told) (now : List ℕ) → is_command indent line ≡ true → expected ≡ answers_behind indent lines → passes expected told ≡ true → GrewBy now now (λ written. ReportsLine name indent number line lines told written 1 0)
told_pass name indent number line lines expected told now is these it = record { more = []; grew = sym (append-nil now); fact = pass is (ap (λ e. passes e told) (sym these) ∙ it) }

-- one that is answered otherwise, and the difference
pub told_fail : (name : List ℕ) (indent number : ℕ) (line command : List ℕ) (lines compared expected answered : List (List ℕ)) (steps : List Step) (told : Told) (before now : List ℕ) → is_command indent line ≡ true → command ≡ drop indent line → compared ≡ answers_behind indent lines → passes compared told ≡ false → expected ≡ answers_behind indent lines → answered ≡ told_lines told.text → IsDifference expected answered steps → now ≡ before ++ failure_text name number command steps
    → GrewBy before now (λ written. ReportsLine name indent number line lines told written 0 1)
told_fail name indent number line command lines compared expected answered steps told before now is text same it these those steps_are grew =
    let differ : IsDifference (answers_behind indent lines) (told_lines told.text) steps = record { of_expected = steps_are.of_expected ∙ these; of_answered = steps_are.of_answered ∙ those } in
    record {
      more = failure_text name number command steps;
      grew = grew;
      fact = subst (λ c. ReportsLine name indent number line lines told (failure_text name number c steps) 0 1) (sym text) (fail steps is (ap (λ e. passes e told) (sym same) ∙ it) differ);
    }

-- what was written and counted so far, and what the lines that are left will come to, make the whole report
pub record SoFar (name : List ℕ) (indent number : ℕ) (all : List (List ℕ)) (every : List Told) (lines : List (List ℕ)) (tolds : List Told) (before now : List ℕ) (passed failed : ℕ) : Type 0 where
  pub written : List ℕ
  pub grew : now ≡ before ++ written
  pub makes : (rest : List ℕ) (ps fs : ℕ) → Reports name indent number lines tolds rest ps fs → Reports name indent 1 all every (written ++ rest) (passed + ps) (failed + fs)

-- before the first line
pub begins : (name : List ℕ) (indent : ℕ) (all : List (List ℕ)) (every : List Told) (now : List ℕ) → SoFar name indent 1 all every all every now now 0 0
begins name indent all every now = record {
  written = [];
  grew = sym (append-nil now);
  makes = λ rest ps fs it.
      let ones : ps ≡ 0 + ps = omega arith in
      let others : fs ≡ 0 + fs = omega arith in
      subst (λ n. Reports name indent 1 all every rest n (0 + fs)) ones (subst (λ n. Reports name indent 1 all every rest ps n) others it);
}

-- a line more
pub goes_on : (name : List ℕ) (indent number : ℕ) (all : List (List ℕ)) (every : List Told) (line : List ℕ) (lines : List (List ℕ)) (told : Told) (tolds : List Told) (before middle now : List ℕ) (passed failed p f : ℕ)
    → GrewBy middle now (λ written. ReportsLine name indent number line lines told written p f) → SoFar name indent number all every (line ∷ lines) (told ∷ tolds) before middle passed failed → SoFar name indent (suc number) all every lines tolds before now (passed + p) (failed + f)
goes_on name indent number all every line lines told tolds before middle now passed failed p f here so = record {
  written = so.written ++ here.more;
  grew = here.grew ∙ (ap (λ it. it ++ here.more) so.grew ∙ append_assoc before so.written here.more);
  makes = λ rest ps fs it.
      let whole : Reports name indent 1 all every (so.written ++ (here.more ++ rest)) (passed + (p + ps)) (failed + (f + fs)) = so.makes (here.more ++ rest) (p + ps) (f + fs) (more here.fact it) in
      let texts : so.written ++ (here.more ++ rest) ≡ (so.written ++ here.more) ++ rest = sym (append_assoc so.written here.more rest) in
      let ones : passed + (p + ps) ≡ (passed + p) + ps = omega arith in
      let others : failed + (f + fs) ≡ (failed + f) + fs = omega arith in
      subst (λ w. Reports name indent 1 all every w ((passed + p) + ps) ((failed + f) + fs)) texts
      (subst (λ n. Reports name indent 1 all every (so.written ++ (here.more ++ rest)) n ((failed + f) + fs)) ones
      (subst (λ n. Reports name indent 1 all every (so.written ++ (here.more ++ rest)) (passed + (p + ps)) n) others whole));
}

-- the same of the first of slices
pub goes_on_at : (name : List ℕ) (indent : ℕ) (all : List (List ℕ)) (every : List Told) (lines rest : List (Bor (List ℕ))) (d : Bor (List ℕ)) (answers : List Told) (told : Told) (number : ℕ) (before middle now : List ℕ) (passed failed p f : ℕ) → 1 ≤ length rest → length rest ≤ length lines → 1 ≤ length answers → told ≡ get_or answers 0 told → number ≡ suc (length lines - length rest)
    → GrewBy middle now (λ written. ReportsLine name indent number (slice_index_or rest 0 d).now (map (λ line. line.now) (take (length rest - 1) (drop 1 rest))) told written p f) → SoFar name indent (suc (length lines - length rest)) all every (map (λ line. line.now) rest) answers before middle passed failed
    → SoFar name indent (suc (length lines - length (take (length rest - 1) (drop 1 rest)))) all every (map (λ line. line.now) (take (length rest - 1) (drop 1 rest))) (take (length answers - 1) (drop 1 answers)) before now (passed + p) (failed + f)
goes_on_at name indent all every lines [] d answers told number before middle now passed failed p f some within others is numbered here so = absurd (omega (arith, some))
goes_on_at name indent all every lines (line ∷ rest) d [] told number before middle now passed failed p f some within others is numbered here so = absurd (omega (arith, others))
goes_on_at name indent all every lines (line ∷ rest) d (first ∷ answers) told number before middle now passed failed p f some within others is numbered here so =
    let now_of = λ (it : Bor (List ℕ)). it.now in
    let lines_left : take (length (line ∷ rest) - 1) rest ≡ rest = take_all (length (line ∷ rest) - 1) rest (omega arith) in
    let tolds_left : take (length (first ∷ answers) - 1) answers ≡ answers = take_all (length (first ∷ answers) - 1) answers (omega arith) in
    let this : GrewBy middle now (λ written. ReportsLine name indent (suc (length lines - length (line ∷ rest))) line.now (map now_of rest) first written p f) =
    subst (λ n. GrewBy middle now (λ written. ReportsLine name indent n line.now (map now_of rest) first written p f)) numbered
    (subst (λ (o : Told). GrewBy middle now (λ written. ReportsLine name indent number line.now (map now_of rest) o written p f)) is
    (subst (λ (r : List (Bor (List ℕ))). GrewBy middle now (λ written. ReportsLine name indent number line.now (map now_of r) told written p f)) lines_left here)) in
    let behind : SoFar name indent (suc (suc (length lines - length (line ∷ rest)))) all every (map now_of rest) answers before now (passed + p) (failed + f) =
    goes_on name indent (suc (length lines - length (line ∷ rest))) all every line.now (map now_of rest) first answers before middle now passed failed p f this so in
    let next : suc (suc (length lines - length (line ∷ rest))) ≡ suc (length lines - length rest) = omega (arith, within) in
    subst (λ (r : List (Bor (List ℕ))). SoFar name indent (suc (length lines - length r)) all every (map now_of r) (take (length (first ∷ answers) - 1) answers) before now (passed + p) (failed + f)) (sym lines_left)
    (subst (λ (a : List Told). SoFar name indent (suc (length lines - length rest)) all every (map now_of rest) a before now (passed + p) (failed + f)) (sym tolds_left)
    (subst (λ n. SoFar name indent n all every (map now_of rest) answers before now (passed + p) (failed + f)) next behind))

left_len : {X : Type 0} (xs : List X) → length (take (length xs - 1) (drop 1 xs)) ≡ length xs - 1
left_len xs = ap length (take_all (length xs - 1) (drop 1 xs) (omega (arith, length-drop 1 xs))) ∙ length-drop 1 xs

-- the number of the first line of a slice
pub number_is : (lines rest : List (Bor (List ℕ))) → 1 ≤ length rest → length rest ≤ length lines → length lines - length (take (length rest - 1) (drop 1 rest)) ≡ suc (length lines - length rest)
number_is lines rest some within = omega (arith, some, within, left_len rest)

-- as many of both are left
pub same_left : {X Y : Type 0} (xs : List X) (ys : List Y) → length xs ≡ length ys → length (take (length xs - 1) (drop 1 xs)) ≡ length (take (length ys - 1) (drop 1 ys))
same_left xs ys same = left_len xs ∙ (ap (λ n. n - 1) same ∙ sym (left_len ys))

-- no more are counted than were passed
pub count_on : (lines rest : List (Bor (List ℕ))) (passed failed p f : ℕ) → 1 ≤ length rest → p + f ≤ 1 → passed + failed + length rest ≤ length lines → (passed + p) + (failed + f) + length (take (length rest - 1) (drop 1 rest)) ≤ length lines
count_on lines rest passed failed p f some one within = omega (arith, some, one, within, left_len rest)

-- behind the last line
pub ends : (name : List ℕ) (indent number : ℕ) (all : List (List ℕ)) (every : List Told) (before now : List ℕ) (passed failed : ℕ) → SoFar name indent number all every [] [] before now passed failed → GrewBy before now (λ written. Reports name indent 1 all every written passed failed)
ends name indent number all every before now passed failed so =
    let whole : Reports name indent 1 all every (so.written ++ []) (passed + 0) (failed + 0) = so.makes [] 0 0 none in
    let texts : so.written ++ [] ≡ so.written = append-nil so.written in
    let ones : passed + 0 ≡ passed = omega arith in
    let others : failed + 0 ≡ failed = omega arith in
    record {
      more = so.written;
      grew = so.grew;
      fact = subst (λ w. Reports name indent 1 all every w passed failed) texts (subst (λ n. Reports name indent 1 all every (so.written ++ []) n failed) ones (subst (λ n. Reports name indent 1 all every (so.written ++ []) (passed + 0) n) others whole));
    }

-- the same of slices
pub ends_at : (name : List ℕ) (indent number : ℕ) (all : List (List ℕ)) (every : List Told) (rest : List (Bor (List ℕ))) (answers : List Told) (before now : List ℕ) (passed failed : ℕ) → length rest < 1 → length answers ≡ length rest → SoFar name indent number all every (map (λ line. line.now) rest) answers before now passed failed → GrewBy before now (λ written. Reports name indent 1 all every written passed failed)
ends_at name indent number all every [] [] before now passed failed none_left same so = ends name indent number all every before now passed failed so
ends_at name indent number all every [] (told ∷ answers) before now passed failed none_left same so = absurd (omega (arith, same))
ends_at name indent number all every (line ∷ rest) answers before now passed failed none_left same so = absurd (omega (arith, none_left))

-- with its last line
pub whole : (name : List ℕ) (lines : List (List ℕ)) (tolds : List Told) (passed failed : ℕ) (before middle now : List ℕ) → GrewBy before middle (λ written. Reports name (indent_of lines) 1 lines tolds written passed failed) → now ≡ middle ++ tally_text name passed failed → GrewBy before now (IsReport name lines tolds failed)
whole name lines tolds passed failed before middle now here grew = record {
  more = here.more ++ tally_text name passed failed;
  grew = grew ∙ (ap (λ it. it ++ tally_text name passed failed) here.grew ∙ append_assoc before here.more (tally_text name passed failed));
  fact = record { passed = passed; told = here.more; reports = here.fact; whole = refl };
}
