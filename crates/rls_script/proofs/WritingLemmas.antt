-- What is written of an answer piece by piece, and what its writer's failures tell.
use Rattle.std.proofs.Common.{◌≡◌, ℕ, ◌+◌, ◌<◌, Bool, List, [], ◌∷◌, ◌++◌, Result, Ok, Err, IsErrOf, OnOk, codes, refl, sym, ap, subst, ◌∙◌, append_assoc, length, get_or, take, arith}
use Rattle.std.proofs.lemmas.List.{append-nil, take_more}
use Rattle.rls_value.specs.declared.value.Value.{Value}
use Rattle.rls_script.specs.Rendering.{line_of, row_line, row_lines}
use Rattle.rls_script.specs.Streams.{TellsFailures}
use Rattle.rls_script.specs.declared.fault.RunFault.{RunFault}
use Rattle.rls_script.specs.declared.fault.RunFault.TheVariants as f

-- none has failed
pub none_failed : (r : Result (Unit {0}) RunFault) (before now : ℕ) → TellsFailures r before now → OnOk r (now ≡ before)
none_failed (Ok it) before now tells = tells
none_failed (Err e) before now tells = tt

-- that of reading is no such fault
pub not_read : (r : Result (Unit {0}) RunFault) (before now : ℕ) → TellsFailures r before now → ¬ IsErrOf r f.Read
not_read r before now tells is = let tells : TellsFailures (Err f.Read) before now = subst (λ it. TellsFailures it before now) is tells in tells

-- `Write` comes of a call that failed
pub one_failed : (r : Result (Unit {0}) RunFault) (before now : ℕ) → TellsFailures r before now → IsErrOf r f.Write → before < now
one_failed r before now tells is =
    let more : now ≡ before + 1 = subst (λ it. TellsFailures it before now) is tells in
    omega arith

-- a call that failed gives `Write`
pub failed_is_told : (r : Result (Unit {0}) RunFault) (before now : ℕ) → TellsFailures r before now → before < now → IsErrOf r f.Write
failed_is_told (Ok it) before now tells grew = absurd (omega arith)
failed_is_told (Err f.Read) before now tells grew = absurd tells
failed_is_told (Err f.Write) before now tells grew = refl
failed_is_told (Err f.NoMemory) before now tells grew = absurd (omega arith)
failed_is_told (Err f.Foreign) before now tells grew = absurd tells

-- a row's line: its label, its fields and LF, of which what comes first may have been taken
pub row_whole : {E : Type 0} (r : Result (Unit {0}) E) (before taken held labelled behind ended now label text : List ℕ) → labelled ≡ held ++ (label ++ codes ": ") → taken ++ behind ≡ before ++ (labelled ++ text) → ended ≡ behind ++ 10 ∷ [] → OnOk r (now ≡ taken ++ ended) → OnOk r (now ≡ before ++ (held ++ line_of label text))
row_whole (Err e) before taken held labelled behind ended now label text begun whole is_ended is = tt
row_whole (Ok it) before taken held labelled behind ended now label text begun whole is_ended is =
    is
    ∙ ap (λ it. taken ++ it) is_ended
    ∙ sym (append_assoc taken behind (10 ∷ []))
    ∙ ap (λ it. it ++ 10 ∷ []) whole
    ∙ append_assoc before (labelled ++ text) (10 ∷ [])
    ∙ ap (λ it. before ++ it) (append_assoc labelled text (10 ∷ []) ∙ ap (λ it. it ++ (text ++ 10 ∷ [])) begun ∙ append_assoc held (label ++ codes ": ") (text ++ 10 ∷ []) ∙ ap (λ it. held ++ it) (sym (append_assoc (label ++ codes ": ") text (10 ∷ []))))

-- one more row's line behind those of some rows
lines_more : (label : List ℕ) (rows : List (List Value)) (row : List Value) → row_lines label (rows ++ row ∷ []) ≡ row_lines label rows ++ row_line label row
lines_more label [] row = append-nil (row_line label row)
lines_more label (first ∷ rows) row = ap (λ it. row_line label first ++ it) (lines_more label rows row) ∙ sym (append_assoc (row_line label first) (row_lines label rows) (row_line label row))

-- the row at a place was written behind those before it
pub rows_more : (before start so_far held taken behind label : List ℕ) (rows : List (List Value)) (i : ℕ) (row values : List Value) → i < length rows → row ≡ get_or rows i row → values ≡ row → so_far ++ held ≡ before ++ (start ++ row_lines label (take i rows)) → taken ++ behind ≡ so_far ++ (held ++ row_line label values) → taken ++ behind ≡ before ++ (start ++ row_lines label (take (i + 1) rows))
rows_more before start so_far held taken behind label rows i row values within is_row is_values whole more =
    let lines = row_lines label (take i rows) in
    let line = row_line label row in
    let next : lines ++ line ≡ row_lines label (take (i + 1) rows) = sym (lines_more label (take i rows) row) ∙ ap (λ it. row_lines label (take i rows ++ it ∷ [])) is_row ∙ ap (row_lines label) (sym (take_more rows i row within)) in
    more
    ∙ ap (λ it. so_far ++ (held ++ row_line label it)) is_values
    ∙ sym (append_assoc so_far held line)
    ∙ ap (λ it. it ++ line) whole
    ∙ append_assoc before (start ++ lines) line
    ∙ ap (λ it. before ++ it) (append_assoc start lines line ∙ ap (λ it. start ++ it) next)
