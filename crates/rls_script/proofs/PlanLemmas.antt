-- What is read, line by line.
use Rattle.std.proofs.Common.{◌≡◌, ◌<◌, ℕ, List, [], ◌∷◌, ◌++◌, length, refl, sym, subst, arith}
use Rattle.std.specs.List.{after_first}
use Rattle.std.specs.Str.Lines.{lines}
use Rattle.rls_script.specs.Lines.{IsRead, ends_line, first_line_of}
use Rattle.rls_script.specs.declared.line.Line.{Line}
use Rattle.rls_script.specs.Plans.{Plan, ReadsLines, none, next, with_line}
use Rattle.rls_script.proofs.LinesLaws.{lines_first}

-- what holds while lines are read: what the lines of the rest make of the plan, the whole script makes
abbrev pub MakesPlan : Plan → Plan → List ℕ → List ℕ → Type 0
MakesPlan start plan script rest = (after : Plan) → ReadsLines (lines rest) plan after → ReadsLines (lines script) start after

-- it holds behind the first line of the rest too
pub read_more : (start plan further : Plan) (script rest line behind : List ℕ) (read : Line) → 0 < length rest → line ≡ first_line_of rest → behind ≡ after_first ends_line rest → IsRead line read → further ≡ with_line read plan → MakesPlan start plan script rest → MakesPlan start further script behind
read_more start plan further script rest line behind read some is_line is_behind is_read is_further makes after more =
    let here : ReadsLines (lines behind) (with_line read plan) after = subst (λ (p : Plan). ReadsLines (lines behind) p after) is_further more in
    let both : ReadsLines (line ∷ lines behind) plan after = next read is_read here in
    let split : lines rest ≡ line ∷ lines behind = rw (is_line, is_behind) (lines_first rest some) in
    makes after (subst (λ ls. ReadsLines ls plan after) (sym split) both)

-- behind the last line
pub read_all : (start plan : Plan) (script rest : List ℕ) → length rest ≡ 0 → MakesPlan start plan script rest → ReadsLines (lines script) start plan
read_all start plan script [] none_left makes = makes plan none
read_all start plan script (byte ∷ bytes) none_left makes = absurd (omega arith)
