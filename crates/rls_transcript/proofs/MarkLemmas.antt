-- Answers as parts of a text.
use Rattle.std.proofs.Common.{◌≡◌, ◌+◌, ◌-◌, ℕ, List, [], length, map, take, drop, Bor, sym, ap, ◌∙◌, arith}
use Rattle.std.proofs.lemmas.List.{drop-map, drop_all, length-map, take-map, take_rest}
use Rattle.rls_transcript.specs.Marks.{answer_len, behind_answer, first_answer}

-- its first lines
pub first_lines : (text : List (Bor (List ℕ))) (len : ℕ) → len ≡ answer_len (map (λ line. line.now) text) → map (λ line. line.now) (take len text) ≡ first_answer (map (λ line. line.now) text)
first_lines text len is =
    let now = λ (it : Bor (List ℕ)). it.now in
    ap (λ n. map now (take n text)) is ∙ sym (take-map now (answer_len (map now text)) text)

-- those behind them and a mark
pub left_lines : (text : List (Bor (List ℕ))) (len : ℕ) → len ≡ answer_len (map (λ line. line.now) text) → map (λ line. line.now) (take (length text - (len + 1)) (drop (len + 1) text)) ≡ behind_answer (map (λ line. line.now) text)
left_lines text len is =
    let now = λ (it : Bor (List ℕ)). it.now in
    ap (map now) (take_rest text (len + 1)) ∙ (sym (drop-map now (len + 1) text) ∙ ap (λ n. drop (n + 1) (map now text)) is)

-- none where the answer is all
pub no_lines : (text : List (Bor (List ℕ))) (len : ℕ) → len ≡ answer_len (map (λ line. line.now) text) → len ≡ length text → [] ≡ behind_answer (map (λ line. line.now) text)
no_lines text len is whole =
    let now = λ (it : Bor (List ℕ)). it.now in
    let all : length (map now text) ≡ length text = length-map text now in
    sym (drop_all (answer_len (map now text) + 1) (map now text) (omega (arith, all, is, whole)))
