-- What is read of an audit file, byte by byte and line by line.
use Rattle.std.proofs.Common.{◌≡◌, refl, ◌≢◌, ◌++◌, ◌∷◌, [], ℕ, Bool, true, List, All, Option, Some, None, Result, Ok, Err, OnOk, option_to_list, inl, inr, ap, sym, ◌∙◌, subst, append_assoc, append-nil, arith}
use Rattle.std.proofs.lemmas.Grind.{common_steps}
use Rattle.std.proofs.lemmas.List.Elements.{All-nil, All-cons, All-append}
use Rattle.rlsdb.specs.declared.audit_file.NextLine.TheVariants as came
use Rattle.rls_check.specs.rls_audit.specs.rls_audit_lines.specs.declared.lines.Line.{Line}
use Rattle.rls_check.specs.rls_audit.specs.rls_audit_lines.specs.Reading.{line_found, line_text}
use Rattle.rlsdb.specs.AuditLines.{AreLinesOf, IsLine, Reads, ReadsNext, WritesLine, ended_lines}

-- a line ends at its LF
pub line_read : (before middle after line : List ℕ) (given : Option ℕ) (byte : ℕ) → (middle ≡ before ++ line) × All (λ other. other ≢ 10) line → after ≡ middle ++ option_to_list given → given ≡ Some byte → byte ≡ 10
    → (after ≡ before ++ (line ++ (10 ∷ []))) × IsLine line
line_read before middle after line given byte so_far more is lf = (grind (arith, common_steps), so_far.1)

-- ---- lines behind lines

ended_push : (texts : List (List ℕ)) (line : List ℕ) → ended_lines (texts ++ line ∷ []) ≡ ended_lines texts ++ (line ++ (10 ∷ []))
ended_push [] line = append-nil (line ++ (10 ∷ []))
ended_push (t ∷ texts) line = ap (λ (rest : List ℕ). (t ++ (10 ∷ [])) ++ rest) (ended_push texts line) ∙ sym (append_assoc (t ++ (10 ∷ [])) (ended_lines texts) (line ++ (10 ∷ [])))

-- what was read so far are these lines
pub record SoFar (before now : List ℕ) (texts : List (List ℕ)) : Type 0 where
  pub grew : now ≡ before ++ ended_lines texts
  pub whole : All IsLine texts

pub none_yet : (bytes : List ℕ) → SoFar bytes bytes []
none_yet bytes = record { grew = sym (append-nil bytes); whole = All-nil IsLine }

all_push : (texts : List (List ℕ)) (line : List ℕ) → All IsLine texts → IsLine line → All IsLine (texts ++ line ∷ [])
all_push texts line h is = All-append IsLine texts (line ∷ []) h (All-cons IsLine line [] is (All-nil IsLine))

pub one_more : (before now after : List ℕ) (texts : List (List ℕ)) (line : List ℕ) → SoFar before now texts → (after ≡ now ++ (line ++ (10 ∷ []))) × IsLine line → SoFar before after (texts ++ line ∷ [])
one_more before now after texts line so_far next = record {
  grew = next.0 ∙ (ap (λ (front : List ℕ). front ++ (line ++ (10 ∷ []))) so_far.grew ∙ (append_assoc before (ended_lines texts) (line ++ (10 ∷ [])) ∙ ap (λ (rest : List ℕ). before ++ rest) (sym (ended_push texts line))));
  whole = all_push texts line so_far.whole next.1;
}

-- at the end they are all
pub all_read : (Holds : List (List ℕ) → Type 0) (before now after : List ℕ) (texts : List (List ℕ)) → SoFar before now texts → after ≡ now → Holds texts → Reads before after Holds
all_read Holds before now after texts so_far same holds = record {
  bytes = ended_lines texts;
  lines = texts;
  grew = same ∙ so_far.grew;
  are = record { whole = so_far.whole; parted = inl refl };
  holds = holds;
}

-- and so they are with a last line without an LF
pub last_read : (Holds : List (List ℕ) → Type 0) (before now after : List ℕ) (texts : List (List ℕ)) (line : List ℕ) (ended : Bool) → SoFar before now texts → ReadsNext came.Last now after ended line → Holds (texts ++ line ∷ [])
    → Reads before after Holds
last_read Holds before now after texts line ended so_far next holds = record {
  bytes = ended_lines texts ++ line;
  lines = texts ++ line ∷ [];
  grew = next.0 ∙ (ap (λ (front : List ℕ). front ++ line) so_far.grew ∙ append_assoc before (ended_lines texts) line);
  are = record { whole = all_push texts line so_far.whole next.1; parted = inr (texts, line, refl, next.2, refl) };
  holds = holds;
}

-- ---- what is written

pub written_more : (before now after : List ℕ) (written : List (List ℕ)) (line : List ℕ) → now ≡ before ++ ended_lines written → after ≡ now ++ (line ++ (10 ∷ [])) → after ≡ before ++ ended_lines (written ++ line ∷ [])
written_more before now after written line so_far next =
    next ∙ (ap (λ (front : List ℕ). front ++ (line ++ (10 ∷ []))) so_far ∙ (append_assoc before (ended_lines written) (line ++ (10 ∷ [])) ∙ ap (λ (rest : List ℕ). before ++ rest) (sym (ended_push written line))))

pub none_written : (bytes : List ℕ) → bytes ≡ bytes ++ ended_lines []
none_written bytes = sym (append-nil bytes)

-- a text that was written with its LF is the line's, and is read back as it
pub line_written : {E : Type 0} (line : Line) (r : Result (Unit {0}) E) (text lent before after : List ℕ) → lent ≡ text → text ≡ line_text line → line_found true text ≡ Some line → OnOk r (after ≡ before ++ (lent ++ (10 ∷ []))) → OnOk r (WritesLine line before after)
line_written line (Ok u) text lent before after same is found grew = record {
  grew = grew ∙ ap (λ (it : List ℕ). before ++ (it ++ (10 ∷ []))) (same ∙ is);
  found = subst (λ it. line_found true it ≡ Some line) is found;
}
line_written line (Err e) text lent before after same is found grew = tt
