-- What `graph` writes, and what it answers.
use Rattle.std.proofs.Common.{◌≡◌, refl, ◌++◌, ℕ, Bool, List, Option, Some, None, inl, inr, subst}
use Rattle.rls_check.specs.declared.audit.Audit.{Audit}
use Rattle.rls_check.specs.declared.graph.Graph.{Graph}
use Rattle.rls_check.specs.declared.graph_form.GraphForm.{GraphForm}
use Rattle.rls_check.specs.declared.shown_texts.Ending.{Ending}
use Rattle.rls_check.specs.declared.shown_texts.Ending.TheVariants as e
use Rattle.rls_check.specs.declared.transaction.Transaction.{Transaction}
use Rattle.rls_check.specs.Checking.{IsNoOrder}
use Rattle.rls_check.specs.Graphs.{IsGraph}
use Rattle.rls_check.specs.Wholes.{IsAuditOf}
use Rattle.rls_session.specs.rls_script.specs.Streams.{GrewBy}
use Rattle.rls_command_line.specs.declared.words.Request.{Request}
use Rattle.rls_command_line.specs.declared.words.Request.TheVariants as q
use Rattle.rls_command_line.specs.declared.words.Graphed.{Graphed}
use Rattle.rlsdb.specs.Answers.{Answers, IsGraphOf, form_of, is_whole}
use Rattle.rlsdb.specs.AuditLines.{Reads}
use Rattle.rlsdb.specs.Graphing.{IsGraphed}
use Rattle.rlsdb.proofs.AnswerLemmas.{grew_more, nothing, reads_more}
use Rattle.rlsdb.proofs.CommandLemmas.{answered}

-- the text of the graph was written
pub along : (form : GraphForm) (transactions : List Transaction) (numbers : List ℕ) (graph : Graph) (ending : Ending) (old new : List ℕ) → IsGraph form transactions numbers (Some graph)
    → new ≡ old ++ graph.text.items → ending ≡ e.Walked graph.differs → GrewBy old new (λ written. IsGraphed form transactions numbers written ending)
along form transactions numbers graph ending old new is grew ends = record { more = graph.text.items; grew = grew; fact = inl (is.0, is.1, (is.2.text, (graph.differs, is.2.differs, ends))) }

-- the numbers are no order
pub unordered : (form : GraphForm) (transactions : List Transaction) (numbers old : List ℕ) → IsNoOrder transactions numbers → GrewBy old old (λ written. IsGraphed form transactions numbers written e.NoOrder)
unordered form transactions numbers old none = nothing old (λ written. IsGraphed form transactions numbers written e.NoOrder) (inr (none, refl, refl))

-- of the lines that were read
pub graphed : (before after old new : List ℕ) (audit : Audit) (form : GraphForm) (ending : Ending) → Reads before after (λ texts. IsAuditOf texts audit) → GrewBy old new (λ written. IsGraphed form audit.transactions audit.order written ending)
    → Reads before after (λ texts. GrewBy old new (λ written. IsGraphOf form texts written ending))
graphed before after old new audit form ending reads grew =
    reads_more before after (λ texts. IsAuditOf texts audit) (λ texts. GrewBy old new (λ written. IsGraphOf form texts written ending))
    (λ texts is. grew_more old new (λ written. IsGraphed form audit.transactions audit.order written ending) (λ written. IsGraphOf form texts written ending) (λ written holds. (audit, is, holds)) grew) reads

-- and how it ended, where the form is the one that is asked for
pub ended : (old new : List ℕ) (it made : GraphForm) (ending : Ending) (whole : Bool) → made ≡ it → GrewBy old new (λ written. (texts : List (List ℕ)) × IsGraphOf made texts written ending) → whole ≡ is_whole ending
    → GrewBy old new (λ written. (texts : List (List ℕ)) × (ending : Ending) × IsGraphOf it texts written ending × (whole ≡ is_whole ending))
ended old new it made ending whole is grew same =
    grew_more old new (λ written. (texts : List (List ℕ)) × IsGraphOf made texts written ending) (λ written. (texts : List (List ℕ)) × (ending : Ending) × IsGraphOf it texts written ending × (whole ≡ is_whole ending))
    (λ written holds. (holds.0, ending, subst (λ (form : GraphForm). IsGraphOf form holds.0 written ending) is holds.1, same)) grew

-- the answer
pub answered_graph : (request : Request) (asked : Graphed) (whole : Bool) (old new : List ℕ) → request ≡ q.Graph asked → GrewBy old new (λ written. (texts : List (List ℕ)) × (ending : Ending) × IsGraphOf (form_of asked.wanted) texts written ending × (whole ≡ is_whole ending))
    → GrewBy old new (λ written. Answers request written whole)
answered_graph request asked whole old new is grew =
    answered request (q.Graph asked) whole old new (λ written. (texts : List (List ℕ)) × (ending : Ending) × IsGraphOf (form_of asked.wanted) texts written ending × (whole ≡ is_whole ending)) is (λ written holds. holds) grew
