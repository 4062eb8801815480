-- The lines of an answer, one after another.
use Rattle.std.proofs.Common.{◌≡◌, ◌<◌, ℕ, List, [], ◌∷◌, ◌++◌, length, map, Bor, sym, ap, ◌∙◌, append_assoc}
use Rattle.std.proofs.lemmas.List.{map-append}
use Rattle.std.specs.List.{after_first}
use Rattle.std.specs.Str.Lines.{lines}
use Rattle.rls_script.specs.Lines.{ends_line, first_line_of}
use Rattle.rls_transcript.specs.Told.{behind_label, told_lines}
use Rattle.rls_script.proofs.LinesLaws.{lines_first}

-- a line more of those that were passed
pub told_more : (items more : List (Bor (List ℕ))) (told : Bor (List ℕ)) (line rest behind text : List ℕ) → 0 < length rest → more ≡ items ++ told ∷ [] → told.now ≡ behind_label line → line ≡ first_line_of rest → behind ≡ after_first ends_line rest → map (λ it. it.now) items ++ told_lines rest ≡ told_lines text → map (λ it. it.now) more ++ told_lines behind ≡ told_lines text
told_more items more told line rest behind text some grown is_told is_line is_behind before =
    let now = λ (it : Bor (List ℕ)). it.now in
    let split : lines rest ≡ line ∷ lines behind = rw (is_line, is_behind) (lines_first rest some) in
    ap (λ it. map now it ++ told_lines behind) grown ∙ (ap (λ it. it ++ told_lines behind) (map-append now items (told ∷ [])) ∙ (append_assoc (map now items) (told.now ∷ []) (told_lines behind) ∙ (ap (λ it. map now items ++ it ∷ told_lines behind) is_told ∙ (ap (λ it. map now items ++ map behind_label it) (sym split) ∙ before))))

-- a line more of those that were passed
pub passed_line : (items more : List (Bor (List ℕ))) (line : Bor (List ℕ)) (rest behind text : List ℕ) → 0 < length rest → more ≡ items ++ line ∷ [] → line.now ≡ first_line_of rest → behind ≡ after_first ends_line rest → map (λ it. it.now) items ++ lines rest ≡ lines text → map (λ it. it.now) more ++ lines behind ≡ lines text
passed_line items more line rest behind text some grown is_line is_behind before =
    let now = λ (it : Bor (List ℕ)). it.now in
    let split : lines rest ≡ line.now ∷ lines behind = rw (is_line, is_behind) (lines_first rest some) in
    ap (λ it. map now it ++ lines behind) grown ∙ (ap (λ it. it ++ lines behind) (map-append now items (line ∷ [])) ∙ (append_assoc (map now items) (line.now ∷ []) (lines behind) ∙ (ap (λ it. map now items ++ it) (sym split) ∙ before)))
