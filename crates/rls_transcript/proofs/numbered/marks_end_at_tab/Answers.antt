use Rattle.rls_transcript.proofs.NumberLemmas.{marks_end}
use Rattle.rls_transcript.proofs.numbered.marks_end_at_tab.Goals as goal

pub returns : goal.returns
returns c = marks_end
