use Rattle.std.proofs.Common.{◌≡◌, ◌++◌, length, string_bytes}
use Rattle.std.specs.Str.Lines.{lines}
use Rattle.rls_transcript.specs.Numbers.{mark_text, numbered_answer}
use Rattle.rls_transcript.proofs.numbered.answer_of.Given as goal

-- what is put, and what is put of the lines that are left, make the whole; the mark stays
abbrev pub invariant-loop-rest : goal.invariant-loop-rest
invariant-loop-rest l = record {
  text : l.text.items ++ numbered_answer l.number l.fn.at (lines l.rest) ≡ numbered_answer l.number l.fn.at (lines l.answer);
  mark : string_bytes l.mark ≡ mark_text l.number l.fn.at;
}

abbrev pub decreases-loop-rest : goal.decreases-loop-rest
decreases-loop-rest l = length l.rest
