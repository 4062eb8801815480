-- A script's lines from its front.
use Rattle.std.proofs.Common.{◌≡◌, ◌<◌, ◌≤◌, ℕ, ◌+◌, ◌-◌, Bool, true, false, cond, nat_lt, List, [], ◌∷◌, ◌++◌, length, refl, ap, ◌∙◌, arith}
use Rattle.std.specs.List.{All, slice_split, position_or_len, before_first, after_first}
use Rattle.std.specs.Str.Lines.{lines, lines_of_parts}
use Rattle.std.proofs.lemmas.List.Splits.{slice_split_first, slice_split_none, length-slice_split}
use Rattle.std.proofs.lemmas.List.Sums.{fails_before_first}
use Rattle.std.proofs.lemmas.Grind.{common_steps}
use Rattle.std.proofs.lemmas.Bool.Decides.{nat_tests}
use Rattle.rls_script.specs.Lines.{ends_line, first_line_of, without_return}

-- a part in front of others is a line of its own
lines_of_more : (part : List ℕ) (parts : List (List ℕ)) → 0 < length parts → lines_of_parts (part ∷ parts) ≡ without_return part ∷ lines_of_parts parts
lines_of_more part [] h = absurd (omega arith)
lines_of_more part (behind ∷ parts) h = refl

-- a script with an LF
lines_cut : (script : List ℕ) → position_or_len ends_line script < length script → lines script ≡ without_return (before_first ends_line script) ∷ lines (after_first ends_line script)
lines_cut script h =
    let cut : slice_split ends_line script ≡ before_first ends_line script ∷ slice_split ends_line (after_first ends_line script) = slice_split_first ends_line script 0 h in
    let some : 0 < length (slice_split ends_line (after_first ends_line script)) = omega (arith, length-slice_split ends_line (after_first ends_line script)) in
    ap lines_of_parts cut ∙ lines_of_more (before_first ends_line script) (slice_split ends_line (after_first ends_line script)) some

-- one part that isn't empty
lines_of_one : (part : List ℕ) → 0 < length part → lines_of_parts (part ∷ []) ≡ part ∷ []
lines_of_one [] h = absurd (omega arith)
lines_of_one (byte ∷ bytes) h = grind (arith, common_steps)

-- a script without an LF
lines_whole : (script : List ℕ) → 0 < length script → length script ≤ position_or_len ends_line script → lines script ≡ script ∷ []
lines_whole script some h =
    let none : All (λ byte. ends_line byte ≡ false) script = λ k e m. let k' = fails_before_first ends_line script k e (grind (arith, common_steps)) in grind (arith, common_steps) in
    ap lines_of_parts (slice_split_none ends_line script none) ∙ lines_of_one script some

-- the same, with what stands behind it
lines_last : (script : List ℕ) → 0 < length script → length script ≤ position_or_len ends_line script → lines script ≡ script ∷ lines (after_first ends_line script)
lines_last script some h =
    let behind : after_first ends_line script ≡ [] = grind (arith, common_steps) in
    rw behind (lines_whole script some h)

-- the same, by whether there is an LF
lines_first_if : (script : List ℕ) (cut : Bool) → nat_lt (position_or_len ends_line script) (length script) ≡ cut → 0 < length script → lines script ≡ cond cut (without_return (before_first ends_line script)) script ∷ lines (after_first ends_line script)
lines_first_if script true e some = lines_cut script (grind (arith, nat_tests))
lines_first_if script false e some = lines_last script some (grind (arith, nat_tests))

-- a script that isn't empty begins with its first line
pub lines_first : (script : List ℕ) → 0 < length script → lines script ≡ first_line_of script ∷ lines (after_first ends_line script)
lines_first script some = lines_first_if script (nat_lt (position_or_len ends_line script) (length script)) refl some
