-- The JSON of attempts: transactions that ended without a commit. A file of them has a first line, and a line for each.
use Rattle.std.specs.Prelude.{◌≡◌, ℕ, List, [], ◌∷◌, true, false, Option, Some, codes}
use Rattle.std.proofs.Common.{◌⊎◌, inl, inr, refl}
use Rattle.rls_guard.specs.declared.context.Mode.{Mode}
use Rattle.rls_codec.specs.Looking.{worded}
use Rattle.rls_codec.specs.Codec.{Codec, Fields}
use Rattle.rls_codec.specs.Codecs.{natural, text, list_of, one_word, via}
use Rattle.rls_codec.specs.Objects.{field, no_fields, kind, no_kind, one_of}
use Rattle.rls_audit_lines.specs.NameCodecs.{name}
use Rattle.rls_audit_lines.specs.WordCodecs.{mode}
use Rattle.rls_audit_lines.specs.LineCodecs.{answered, format_number}
use Rattle.rls_audit_lines.specs.declared.attempts.AttemptEnd.{AttemptEnd}
use Rattle.rls_audit_lines.specs.declared.attempts.AttemptEnd.TheVariants as end
use Rattle.rls_audit_lines.specs.declared.attempts.AttemptLine.{AttemptLine}
use Rattle.rls_audit_lines.specs.declared.attempts.AttemptLine.TheVariants as line
use Rattle.rls_audit_lines.specs.declared.attempts.AttemptShown.{AttemptShown}
use Rattle.rls_audit_lines.specs.declared.attempts.EndWord.{EndWord}
use Rattle.rls_audit_lines.specs.declared.attempts.EndWord.TheVariants as w
use Rattle.rls_audit_lines.specs.declared.attempts.SerialWord.{SerialWord}
use Rattle.rls_audit_lines.specs.declared.attempts.SerialWord.TheVariants as s
use Rattle.rls_audit_lines.specs.declared.lines.Answered.{Answered}

-- ---- how it ended

-- what ended it
abbrev pub end_word : EndWord → List ℕ
end_word w.Rollback = codes "rollback"
end_word w.Connect = codes "connect"
end_word w.End = codes "end"

abbrev pub end_words : List EndWord
end_words = w.Rollback ∷ w.Connect ∷ w.End ∷ []

pub end_told : (x : EndWord) → worded end_word end_words (end_word x) ≡ Some x
end_told w.Rollback = refl
end_told w.Connect = refl
end_told w.End = refl

abbrev pub ended : Codec EndWord
ended = one_word end_word end_words end_told

-- a serialization failure did
abbrev pub serial_word : SerialWord → List ℕ
serial_word s.Serial = codes "40001"

abbrev pub serial_words : List SerialWord
serial_words = s.Serial ∷ []

pub serial_told : (x : SerialWord) → worded serial_word serial_words (serial_word x) ≡ Some x
serial_told s.Serial = refl

abbrev pub serial : Codec SerialWord
serial = one_word serial_word serial_words serial_told

-- ---- lines

-- what is shown of an attempt, by its members: those of a transaction without its commit and its changes
abbrev pub AttemptShape : Type 0
AttemptShape = List ℕ × (Mode × (List ℕ × (ℕ × (List Answered × (ℕ × Unit {0})))))

abbrev pub attempt_fields : Fields AttemptShape
attempt_fields = field (codes "login") name (field (codes "mode") mode (field (codes "role") name (field (codes "snap") natural (field (codes "statements") (list_of (answered true)) (field (codes "txn") natural no_fields refl) refl) refl) refl) refl) refl

abbrev pub attempt_to : AttemptShown → AttemptShape
attempt_to it = (it.login, (it.mode, (it.role, (it.snap, (it.statements, (it.txn, tt))))))

abbrev pub attempt_from : AttemptShape → AttemptShown
attempt_from p = record { login = p.0; mode = p.1.0; role = p.1.1.0; snap = p.1.1.1.0; statements = p.1.1.1.1.0; txn = p.1.1.1.1.1.0 }

-- with the text of the serialization failure; or with what ended it
abbrev pub conflict_fields : Fields (List ℕ × (SerialWord × AttemptShape))
conflict_fields = field (codes "cause") text (field (codes "ended") serial attempt_fields refl) refl

abbrev pub ended_fields : Fields (EndWord × AttemptShape)
ended_fields = field (codes "ended") ended attempt_fields refl

-- a line, as one of its shapes
abbrev pub AttemptLineShape : Type 0
AttemptLineShape = (List ℕ × (SerialWord × AttemptShape)) ⊎ ((EndWord × AttemptShape) ⊎ ((Unit {0} × Unit {0}) ⊎ ⊥))

abbrev pub attempt_line_to : AttemptLine → AttemptLineShape
attempt_line_to line.Head = inr (inr (inl (tt, tt)))
attempt_line_to (line.Attempt (end.Conflict cause) it) = inl (cause, (s.Serial, attempt_to it))
attempt_line_to (line.Attempt (end.By word) it) = inr (inl (word, attempt_to it))

abbrev pub attempt_line_from : AttemptLineShape → AttemptLine
attempt_line_from (inl p) = line.Attempt (end.Conflict p.0) (attempt_from p.1.1)
attempt_line_from (inr (inl p)) = line.Attempt (end.By p.0) (attempt_from p.1)
attempt_line_from (inr (inr (inl p))) = line.Head
attempt_line_from (inr (inr (inr e))) = absurd e

pub attempt_line_same : (l : AttemptLine) → attempt_line_from (attempt_line_to l) ≡ l
attempt_line_same line.Head = refl
attempt_line_same (line.Attempt (end.Conflict cause) it) = refl
attempt_line_same (line.Attempt (end.By word) it) = refl

-- an attempt, or the first line, which says the first format
abbrev pub attempt_line : Codec AttemptLine
attempt_line = via attempt_line_to attempt_line_from attempt_line_same
    (one_of (kind conflict_fields (kind ended_fields (kind (field (codes "attempts") (format_number false) no_fields refl) no_kind refl) refl) refl))
