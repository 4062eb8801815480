-- What `order --long` writes, and what it answers.
use Rattle.std.proofs.Common.{◌≡◌, refl, ◌++◌, ◌∷◌, [], ℕ, suc, ◌<◌, Bool, List, Option, Some, None, inl, inr, sym, ap, subst, ◌∙◌, length, append_assoc, append-nil, arith}
use Rattle.std.proofs.lemmas.Grind.{flat_map-append}
use Rattle.std.specs.Borrow.{Bor}
use Rattle.rls_check.specs.rls_meaning.specs.rls_guard.specs.rls_catalog.specs.Changed.{opening}
use Rattle.rls_check.specs.rls_meaning.specs.rls_guard.specs.rls_catalog.specs.State.{State}
use Rattle.rls_check.specs.declared.audit.Audit.{Audit}
use Rattle.rls_check.specs.declared.finding.Finding.{Finding}
use Rattle.rls_check.specs.declared.listing.Listed.{Listed}
use Rattle.rls_check.specs.declared.shown_texts.Ending.{Ending}
use Rattle.rls_check.specs.declared.shown_texts.Ending.TheVariants as e
use Rattle.rls_check.specs.declared.transaction.Transaction.{Transaction}
use Rattle.rls_check.specs.Audited.{transaction_at}
use Rattle.rls_check.specs.Checking.{IsNoOrder, state_behind}
use Rattle.rls_check.specs.Listing.{IsFirstListed, IsListing, IsLong, IsNextListed, Unlisted, ended_all, first_or, lines_along, lines_at, standings_at}
use Rattle.rls_check.specs.ShownAudits.{FirstDiffers}
use Rattle.rls_check.specs.Walking.{Standing, standings_along}
use Rattle.rls_check.specs.Wholes.{IsAuditOf}
use Rattle.rls_check.specs.WhyTexts.{ended_line}
use Rattle.rls_session.specs.rls_script.specs.Streams.{GrewBy}
use Rattle.rls_command_line.specs.declared.words.Request.{Request}
use Rattle.rls_command_line.specs.declared.words.Request.TheVariants as q
use Rattle.rlsdb.specs.Answers.{Answers, IsLongOf, is_whole}
use Rattle.rlsdb.specs.AuditLines.{Reads}
use Rattle.rlsdb.specs.Listing.{FirstOfUnlisted, standings_of, text_of}
use Rattle.rlsdb.proofs.AnswerLemmas.{grew_more, nothing, reads_more}
use Rattle.rlsdb.proofs.CommandLemmas.{answered}

-- ---- transaction by transaction

-- what is written, and what is written of the transactions that are left, make the whole
pub written_on : (it : Listed) (before after : Unlisted) (old new whole : List ℕ) → IsNextListed before it after → new ≡ old ++ it.text.items → old ++ text_of before ≡ whole → new ++ text_of after ≡ whole
written_on it before after old new whole is grew so_far = go before.transactions before.state before.places is so_far
  where
    go : (ts : List Transaction) (s : State) (places : List ℕ) → IsFirstListed ts s places it after → old ++ ended_all (lines_along ts s places) ≡ whole → new ++ text_of after ≡ whole
    go ts s [] none whole_is = absurd none
    go ts s (place ∷ places) next whole_is =
        let others = lines_along ts (state_behind (transaction_at ts place) s) places in
        (λ i. grew i ++ ended_all (lines_along (next.1 i) (next.0.leaves i) (next.2 i)))
        ∙ append_assoc old it.text.items (ended_all others)
        ∙ ap (λ bytes. old ++ (bytes ++ ended_all others)) next.0.text
        ∙ ap (λ bytes. old ++ bytes) (sym (flat_map-append ended_line (lines_at ts s place) others)) ∙ whole_is

none_left : (it : Unlisted) → it.places ≡ [] → text_of it ≡ []
none_left it none = ap (λ places. ended_all (lines_along it.transactions it.state places)) none

pub written_all : (it : Unlisted) (bytes whole : List ℕ) → it.places ≡ [] → bytes ++ text_of it ≡ whole → bytes ≡ whole
written_all it bytes whole none so_far = sym (append-nil bytes) ∙ ap (λ rest. bytes ++ rest) (sym (none_left it none)) ∙ so_far

-- what differs first among some, or else among those behind them, differs first among all
pub differs_on : (front behind : List Standing) (found rest : Option Finding) → FirstDiffers front found → FirstDiffers behind rest → FirstDiffers (front ++ behind) (first_or found rest)
differs_on [] behind found rest none differs = subst (λ one. FirstDiffers behind (first_or one rest)) (sym none) differs
differs_on (it ∷ front) behind found rest first differs =
    elim first [
      | inl x ↦ inl (x.0, differs_on front behind found rest x.1 differs)
      | inr x ↦ inr (x.0, ap (λ one. first_or one rest) x.1)
    ]

or_first : (found other rest : Option Finding) → first_or (first_or found other) rest ≡ first_or found (first_or other rest)
or_first (Some found) other rest = refl
or_first None other rest = refl

or_none : (found : Option Finding) → first_or found None ≡ found
or_none (Some found) = refl
or_none None = refl

-- what is found of the transactions that are left leads to what is found of all
pub found_on : (it : Listed) (before after whole : Unlisted) (found again : Option Finding) → IsNextListed before it after → again ≡ first_or found it.differs
    → ((rest : Option Finding) → FirstOfUnlisted before rest → FirstOfUnlisted whole (first_or found rest)) → (rest : Option Finding) → FirstOfUnlisted after rest → FirstOfUnlisted whole (first_or again rest)
found_on it before after whole found again is first so_far rest differs =
    subst (FirstOfUnlisted whole) (sym (or_first found it.differs rest) ∙ ap (λ one. first_or one rest) (sym first)) (so_far (first_or it.differs rest) (go before.transactions before.state before.places is))
  where
    go : (ts : List Transaction) (s : State) (places : List ℕ) → IsFirstListed ts s places it after → FirstDiffers (standings_along ts s places) (first_or it.differs rest)
    go ts s [] none = absurd none
    go ts s (place ∷ places) next =
        differs_on (standings_at ts s place) (standings_along ts (state_behind (transaction_at ts place) s) places) it.differs rest next.0.differs
        (subst (λ standings. FirstDiffers standings rest) (λ i. standings_along (next.1 i) (next.0.leaves i) (next.2 i)) differs)

pub found_all : (it whole : Unlisted) (found : Option Finding) → it.places ≡ [] → ((rest : Option Finding) → FirstOfUnlisted it rest → FirstOfUnlisted whole (first_or found rest)) → FirstOfUnlisted whole found
found_all it whole found none so_far =
    subst (FirstOfUnlisted whole) (or_none found) (so_far None (subst (λ places. FirstDiffers (standings_along it.transactions it.state places) None) (sym none) refl))

-- one transaction fewer is left
pub fewer_left : (it : Listed) (before after : Unlisted) → IsNextListed before it after → length after.places < length before.places
fewer_left it before after is = go before.transactions before.state before.places is
  where
    go : (ts : List Transaction) (s : State) (places : List ℕ) → IsFirstListed ts s places it after → length after.places < length places
    go ts s [] none = absurd none
    go ts s (place ∷ places) next = subst (λ left. length left < suc (length places)) (sym next.2) (omega arith)

-- ---- along the order

pub along : (transactions : List Transaction) (numbers : List ℕ) (it : Unlisted) (found : Option Finding) (old new : List ℕ) → IsListing transactions numbers (Some it) → new ≡ old ++ text_of it → FirstOfUnlisted it found
    → GrewBy old new (λ written. IsLong transactions numbers written (e.Walked found))
along transactions numbers it found old new is grew differs = record {
  more = text_of it;
  grew = grew;
  fact = inl (it.places, is.0, (λ i. ended_all (lines_along (is.1 i) (is.2 i) it.places)), (found, subst (λ standings. FirstDiffers standings found) (λ i. standings_along (is.1 i) (is.2 i) it.places) differs, refl));
}

-- the numbers are no order
pub unordered : (transactions : List Transaction) (numbers old : List ℕ) → IsNoOrder transactions numbers → GrewBy old old (λ written. IsLong transactions numbers written e.NoOrder)
unordered transactions numbers old none = nothing old (λ written. IsLong transactions numbers written e.NoOrder) (inr (none, refl, refl))

-- ---- of the lines that were read

pub listed : (before after old new : List ℕ) (audit : Audit) (ending : Ending) → Reads before after (λ texts. IsAuditOf texts audit) → GrewBy old new (λ written. IsLong audit.transactions audit.order written ending)
    → Reads before after (λ texts. GrewBy old new (λ written. IsLongOf texts written ending))
listed before after old new audit ending reads grew =
    reads_more before after (λ texts. IsAuditOf texts audit) (λ texts. GrewBy old new (λ written. IsLongOf texts written ending))
    (λ texts is. grew_more old new (λ written. IsLong audit.transactions audit.order written ending) (λ written. IsLongOf texts written ending) (λ written holds. (audit, is, holds)) grew) reads

-- and how it ended
pub ended : (old new : List ℕ) (ending : Ending) (whole : Bool) → GrewBy old new (λ written. (texts : List (List ℕ)) × IsLongOf texts written ending) → whole ≡ is_whole ending
    → GrewBy old new (λ written. (texts : List (List ℕ)) × (ending : Ending) × IsLongOf texts written ending × (whole ≡ is_whole ending))
ended old new ending whole grew same =
    grew_more old new (λ written. (texts : List (List ℕ)) × IsLongOf texts written ending) (λ written. (texts : List (List ℕ)) × (ending : Ending) × IsLongOf texts written ending × (whole ≡ is_whole ending))
    (λ written holds. (holds.0, ending, holds.1, same)) grew

-- the answer
pub answered_long : (request : Request) (name : Bor (List ℕ)) (whole : Bool) (old new : List ℕ) → request ≡ q.OrderLong name → GrewBy old new (λ written. (texts : List (List ℕ)) × (ending : Ending) × IsLongOf texts written ending × (whole ≡ is_whole ending))
    → GrewBy old new (λ written. Answers request written whole)
answered_long request name whole old new is grew =
    answered request (q.OrderLong name) whole old new (λ written. (texts : List (List ℕ)) × (ending : Ending) × IsLongOf texts written ending × (whole ≡ is_whole ending)) is (λ written holds. holds) grew
