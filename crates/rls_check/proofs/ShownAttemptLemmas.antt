-- What is written of the statements of an attempt.
use Rattle.std.proofs.Common.{◌≡◌, refl, ◌++◌, ◌∷◌, [], ℕ, List, Option, Some, sym, ap, subst, ◌∙◌, append_assoc, append-nil}
use Rattle.std.specs.Prelude.{Result, Ok, Err, IfOk}
use Rattle.std.specs.declared.alloc.AllocError.{AllocError}
use Rattle.rls_audit.specs.rls_audit_lines.specs.declared.attempts.AttemptEnd.{AttemptEnd}
use Rattle.rls_check.specs.declared.filtering.ShownFilter.{ShownFilter}
use Rattle.rls_check.specs.declared.listing.Listed.{Listed}
use Rattle.rls_check.specs.declared.snapshots.Begun.{Begun}
use Rattle.rls_check.specs.declared.walking.Running.{Running}
use Rattle.rls_check.specs.declared.walking.Turn.{Turn}
use Rattle.rls_check.specs.ShownAttempts.{IsBegunShown, standings_of}
use Rattle.rls_check.specs.ShownAudits.{FirstDiffers}
use Rattle.rls_check.specs.ShownTexts.{block_text, text_of_all, text_of_turn}
use Rattle.rls_check.specs.Walking.{IsNext, IsTurn, Standing, left_alone}

-- what a turn writes is what its statement does
turn_told : (ended : Option AttemptEnd) (it : ShownFilter) (standing : Standing) (turn : Turn) → IsTurn standing turn
    → block_text ended it standing.number standing.before standing.ctx standing.shown.statement standing.effect standing.reads ≡ text_of_turn ended it turn
turn_told ended it standing turn is = λ i. block_text ended it (sym is.number i) (sym is.before i) (sym is.ctx i) (sym is.statement i) (sym is.effect i) (sym is.reads i)

next_told : (ended : Option AttemptEnd) (it : ShownFilter) (turn : Turn) (before after : List Standing) → IsNext before turn after → text_of_all ended it before ≡ text_of_turn ended it turn ++ text_of_all ended it after
next_told ended it turn [] after is = absurd is
next_told ended it turn (standing ∷ others) after is = λ i. turn_told ended it standing turn is.0 i ++ text_of_all ended it (sym is.1 i)

-- what is written, and what is written of the statements that are left, make the whole
pub written_on : (ended : Option AttemptEnd) (it : ShownFilter) (turn : Turn) (before after : List Standing) (old new whole : List ℕ) → IsNext before turn after → new ≡ old ++ text_of_turn ended it turn → old ++ text_of_all ended it before ≡ whole
    → new ++ text_of_all ended it after ≡ whole
written_on ended it turn before after old new whole is grew so_far =
    ap (λ bytes. bytes ++ text_of_all ended it after) grew ∙ append_assoc old (text_of_turn ended it turn) (text_of_all ended it after)
    ∙ ap (λ bytes. old ++ bytes) (sym (next_told ended it turn before after is)) ∙ so_far

pub written_all : (ended : Option AttemptEnd) (it : ShownFilter) (left : List Standing) (bytes whole : List ℕ) → left ≡ [] → bytes ++ text_of_all ended it left ≡ whole → bytes ≡ whole
written_all ended it left bytes whole none so_far = sym (append-nil bytes) ∙ ap (λ rest. bytes ++ text_of_all ended it rest) (sym none) ∙ so_far

-- the statements that are left of what runs are those of the attempt
pub begun_shown : (wanted : ShownFilter) (it : Begun) (running : Running) (r : Result Listed AllocError) → left_alone running ≡ standings_of it → IfOk r (λ made. made.text.items ≡ text_of_all (Some it.attempt.end) wanted (left_alone running))
    → IfOk r (λ made. FirstDiffers (left_alone running) made.differs) → IfOk r (IsBegunShown wanted it)
begun_shown wanted it running (Ok made) is text differs = record {
  text = text ∙ ap (text_of_all (Some it.attempt.end) wanted) is;
  differs = subst (λ standings. FirstDiffers standings made.differs) is differs;
}
begun_shown wanted it running (Err refused) is text differs = tt
