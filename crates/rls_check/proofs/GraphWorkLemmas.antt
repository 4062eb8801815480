-- What each transaction read and changed, noted statement by statement along the order.
use Rattle.std.proofs.Common.{◌≡◌, refl, ℕ, suc, ◌<◌, ◌==◌, Bool, true, false, ◌||◌, cond, List, [], ◌∷◌, ◌++◌, Option, Some, None, length, get_or, set, replicate, filter, flat_map, inl, inr, sym, ap, subst, ◌∙◌, arith}
use Rattle.std.specs.Prelude.{if◌then◌else◌, IfOk, Result}
use Rattle.std.specs.declared.alloc.AllocError.{AllocError}
use Rattle.std.specs.List.{list_any}
use Rattle.std.proofs.lemmas.Bool.{eqb-false, eqb-true, true≢false}
use Rattle.std.proofs.lemmas.List.{get_or-replicate, get_or-set_other, get_or-set_same, length-replicate, length-set}
use Rattle.std.proofs.lemmas.List.Folds.{list_any-append}
use Rattle.rls_value.specs.declared.object.Object.{Object}
use Rattle.rls_catalog.specs.Bases.{covers, covers_any}
use Rattle.rls_explain.specs.rls_meaning.specs.rls_guard.specs.Effects.{changes_of}
use Rattle.rls_explain.specs.rls_meaning.specs.rls_guard.specs.rls_source.specs.Footprints.{is_among, with_reads}
use Rattle.rls_explain.specs.rls_meaning.specs.rls_guard.specs.rls_source.specs.FootprintLaws.{among_with_reads, with_reads_more}
use Rattle.rls_audit.specs.rls_conflict.specs.Covering.{covered_of}
use Rattle.rls_audit.specs.rls_conflict.specs.rls_siread.proofs.CoveringLaws.{among_covered_of}
use Rattle.rls_check.specs.declared.finding.Finding.{Finding}
use Rattle.rls_check.specs.declared.finding.Finding.TheVariants as f
use Rattle.rls_check.specs.declared.walking.Turn.{Turn}
use Rattle.rls_check.specs.declared.works.Work.{Work}
use Rattle.rls_check.specs.GraphHistory.{changed_at, read_at, standings_at}
use Rattle.rls_check.specs.GraphSteps.{found_first, no_work, noted, noted_all, noted_turn, noted_with, with_standing}
use Rattle.rls_check.specs.ShownAudits.{FirstDiffers}
use Rattle.rls_check.specs.Walking.{IsNext, IsTurn, Standing}

-- ---- statement by statement

-- a turn is noted as its statement
turn_noted : (works : List Work) (standing : Standing) (turn : Turn) → IsTurn standing turn → noted works standing ≡ noted_turn works turn
turn_noted works standing turn is = λ i. noted_with works (sym is.place i) (sym is.reads i) (sym is.effect i)

-- what is noted, with what the statements that are left come to, is the whole
pub noted_on : (turn : Turn) (before after : List Standing) (old new whole : List Work) → IsNext before turn after → new ≡ noted_turn old turn → noted_all old before ≡ whole → noted_all new after ≡ whole
noted_on turn [] after old new whole is grew so_far = absurd is
noted_on turn (standing ∷ others) after old new whole is grew so_far =
    (λ i. noted_all ((grew ∙ sym (turn_noted old standing turn is.0)) i) (is.1 i)) ∙ so_far

pub noted_end : (left : List Standing) (works whole : List Work) → left ≡ [] → noted_all works left ≡ whole → works ≡ whole
noted_end left works whole none so_far = sym (ap (noted_all works) none) ∙ so_far

-- what was found, or else this
abbrev pub first_or : Option Finding → Option Finding → Option Finding
first_or (Some found) other = Some found
first_or None other = other

-- the statement comes to what the audit shows of it, and what differs among the others differs first; or it does
first_here : (so : Bool) (turn : Turn) (standing : Standing) (others : List Standing) (rest : Option Finding) → turn.agrees ≡ so → IsTurn standing turn → FirstDiffers others rest
    → FirstDiffers (standing ∷ others) (if so then rest else Some (f.Reply turn.ctx.txn turn.number))
first_here true turn standing others rest agrees is differs = inl (is.agrees.0 agrees, differs)
first_here false turn standing others rest agrees is differs =
    inr ((λ answers. true≢false (sym (is.agrees.1 answers) ∙ agrees)), λ i. Some (f.Reply (is.ctx i).txn (is.number i)))

-- so what was found before stays first, else this
found_by : (so : Bool) (turn : Turn) (found rest : Option Finding) (P : Option Finding → Type 0) → turn.agrees ≡ so → P (first_or found (if so then rest else Some (f.Reply turn.ctx.txn turn.number))) → P (first_or (found_first found turn) rest)
found_by so turn (Some found) rest P agrees holds = holds
found_by true turn None rest P agrees holds = subst (λ b. P (first_or (if b then None else Some (f.Reply turn.ctx.txn turn.number)) rest)) (sym agrees) holds
found_by false turn None rest P agrees holds = subst (λ b. P (first_or (if b then None else Some (f.Reply turn.ctx.txn turn.number)) rest)) (sym agrees) holds

-- what is found of the statements that are left leads to what is found of all
pub found_on : (turn : Turn) (before after whole : List Standing) (found again : Option Finding) → IsNext before turn after → again ≡ found_first found turn
    → ((rest : Option Finding) → FirstDiffers before rest → FirstDiffers whole (first_or found rest)) → (rest : Option Finding) → FirstDiffers after rest → FirstDiffers whole (first_or again rest)
found_on turn [] after whole found again is first so_far rest differs = absurd is
found_on turn (standing ∷ others) after whole found again is first so_far rest differs =
    subst (λ it. FirstDiffers whole (first_or it rest)) (sym first)
    (found_by turn.agrees turn found rest (FirstDiffers whole) refl
    (so_far (if turn.agrees then rest else Some (f.Reply turn.ctx.txn turn.number)) (first_here turn.agrees turn standing others rest refl is.0 (subst (λ standings. FirstDiffers standings rest) is.1 differs))))

or_none : (found : Option Finding) → first_or found None ≡ found
or_none (Some found) = refl
or_none None = refl

pub found_all : (left whole : List Standing) (found : Option Finding) → left ≡ [] → ((rest : Option Finding) → FirstDiffers left rest → FirstDiffers whole (first_or found rest)) → FirstDiffers whole found
found_all left whole found none so_far = subst (FirstDiffers whole) (or_none found) (so_far None (subst (λ standings. FirstDiffers standings None) (sym none) refl))

-- of the same statements the same is found
pub differs_of_same : (r : Result (Option Finding) AllocError) (xs ys : List Standing) → xs ≡ ys → IfOk r (FirstDiffers xs) → IfOk r (FirstDiffers ys)
differs_of_same r xs ys same differs = subst (λ (all : List Standing). IfOk r (FirstDiffers all)) same differs

-- one statement fewer is left
pub fewer_left : (turn : Turn) (before after : List Standing) → IsNext before turn after → length after < length before
fewer_left turn [] after is = absurd is
fewer_left turn (standing ∷ others) after is = subst (λ standings. length standings < suc (length others)) (sym is.1) (omega arith)

-- ---- of each transaction

-- the statements come to it, one after another
abbrev pub after_all : Work → List Standing → Work
after_all it [] = it
after_all it (standing ∷ more) = after_all (with_standing it standing) more

noted_if : (b : Bool) (works : List Work) (it : Standing) (place : ℕ) → (it.place == place) ≡ b → place < length works → get_or (noted works it) place no_work ≡ cond b (with_standing (get_or works place no_work) it) (get_or works place no_work)
noted_if true works it place is within =
    ap (λ at. get_or (set works at (with_standing (get_or works at no_work) it)) place no_work) (eqb-true it.place place is) ∙ get_or-set_same works place (with_standing (get_or works place no_work) it) no_work within
noted_if false works it place is within = get_or-set_other works it.place place (with_standing (get_or works it.place no_work) it) no_work (λ same. eqb-false it.place place is (sym same))

after_if : (b : Bool) (work : Work) (it : Standing) (more : List Standing) → after_all (cond b (with_standing work it) work) more ≡ after_all work (cond b (it ∷ more) more)
after_if true work it more = refl
after_if false work it more = refl

noted_at : (works : List Work) (standings : List Standing) (place : ℕ) → place < length works → get_or (noted_all works standings) place no_work ≡ after_all (get_or works place no_work) (standings_at standings place)
noted_at works [] place within = refl
noted_at works (it ∷ more) place within =
    noted_at (noted works it) more place (subst (λ n. place < n) (sym (length-set works it.place (with_standing (get_or works it.place no_work) it))) within)
    ∙ ap (λ work. after_all work (standings_at more place)) (noted_if (it.place == place) works it place refl within)
    ∙ after_if (it.place == place) (get_or works place no_work) it (standings_at more place)

reads_after : (work : Work) (standings : List Standing) → (after_all work standings).reads ≡ with_reads work.reads (flat_map (λ it. it.reads) standings)
reads_after work [] = refl
reads_after work (it ∷ more) = reads_after (with_standing work it) more ∙ with_reads_more work.reads it.reads (flat_map (λ it. it.reads) more)

or_turned : (a b c : Bool) → (a || (b || c)) ≡ ((b || a) || c)
or_turned true true c = refl
or_turned true false c = refl
or_turned false true c = refl
or_turned false false c = refl

covered_after : (work : Work) (standings : List Standing) (object : Object) → is_among (after_all work standings).covered object ≡ (covers_any object (flat_map (λ it. changes_of it.effect) standings) || is_among work.covered object)
covered_after work [] object = refl
covered_after work (it ∷ more) object =
    let rest = flat_map (λ (it : Standing). changes_of it.effect) more in
    covered_after (with_standing work it) more object
    ∙ ap (λ b. covers_any object rest || b) (among_with_reads work.covered (covered_of (changes_of it.effect)) object ∙ ap (λ b. b || is_among work.covered object) (among_covered_of (changes_of it.effect) object))
    ∙ or_turned (covers_any object rest) (covers_any object (changes_of it.effect)) (is_among work.covered object)
    ∙ ap (λ b. b || is_among work.covered object) (sym (list_any-append (covers object) (changes_of it.effect) rest))

or_false : (b : Bool) → (b || false) ≡ b
or_false true = refl
or_false false = refl

module _ (count : ℕ) (standings : List Standing) (place : ℕ) (within : place < count) where
  worked : get_or (noted_all (replicate count no_work) standings) place no_work ≡ after_all no_work (standings_at standings place)
  worked =
      noted_at (replicate count no_work) standings place (subst (λ n. place < n) (sym (length-replicate count no_work)) within)
      ∙ ap (λ work. after_all work (standings_at standings place)) (get_or-replicate count place no_work no_work within)

  -- what was noted of it is what it read
  pub reads_noted : (get_or (noted_all (replicate count no_work) standings) place no_work).reads ≡ read_at standings place
  reads_noted = ap (λ (work : Work). work.reads) worked ∙ reads_after no_work (standings_at standings place)

  -- and what its changes cover
  pub covered_noted : (object : Object) → is_among (get_or (noted_all (replicate count no_work) standings) place no_work).covered object ≡ covers_any object (changed_at standings place)
  covered_noted object =
      ap (λ (work : Work). is_among work.covered object) worked ∙ covered_after no_work (standings_at standings place) object
      ∙ or_false (covers_any object (flat_map (λ (it : Standing). changes_of it.effect) (standings_at standings place)))
