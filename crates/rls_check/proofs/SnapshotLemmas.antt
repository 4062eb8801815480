-- The states in which attempts began.
use Rattle.std.proofs.Common.{◌≡◌, refl, ℕ, zero, suc, ◌+◌, ◌<◌, ◌≤◌, ◌==◌, Bool, true, false, cond, List, [], ◌∷◌, ◌++◌, Option, Some, None, length, get_or, set, replicate, filter, flat_map, map, sym, ap, ap₂, subst, ◌∙◌, arith, append_assoc, append-nil}
use Rattle.std.proofs.lemmas.Bool.{eqb-false, eqb-true}
use Rattle.std.proofs.lemmas.List.{get_or_default, get_or-replicate, length-append, get_or-set_other, get_or-set_same, length-replicate, length-set}
use Rattle.rls_catalog.specs.declared.change.Change.{Change}
use Rattle.rls_catalog.specs.State.{State}
use Rattle.rls_catalog.specs.Changed.{opening, changed_all}
use Rattle.rls_explain.specs.rls_meaning.specs.rls_guard.specs.Effects.{changes_of}
use Rattle.rls_agreement.specs.Committing.{state_by}
use Rattle.rls_check.specs.declared.attempts.Attempt.{Attempt}
use Rattle.rls_check.specs.declared.finding.Finding.{Finding}
use Rattle.rls_check.specs.declared.snapshots.Attempts.{Attempts}
use Rattle.rls_check.specs.declared.snapshots.Begun.{Begun}
use Rattle.rls_check.specs.declared.transaction.Transaction.{Transaction}
use Rattle.rls_check.specs.declared.walking.Turn.{Turn}
use Rattle.rls_check.specs.Checking.{IsNoOrder, IsPlaced}
use Rattle.rls_check.specs.GraphHistory.{changed_at, standings_at}
use Rattle.rls_check.specs.ShownAudits.{FirstDiffers}
use Rattle.rls_check.specs.Snapshots.{AreBegun, AreBegunAlong, AreKeptAfter, begun_in, behind_first, changes_from, deltas_along, put_all, put_turn, put_with, state_if, state_next, states_on}
use Rattle.rls_check.specs.Walking.{IsNext, IsTurn, Standing, standings_along}

-- ---- statement by statement

-- a turn is put as its statement
turn_put : (deltas : List (List Change)) (standing : Standing) (turn : Turn) → IsTurn standing turn → put_with deltas standing.place standing.effect ≡ put_turn deltas turn
turn_put deltas standing turn is = λ i. put_with deltas (sym is.place i) (sym is.effect i)

-- what is put, with what the statements that are left change, is the whole
pub put_on : (turn : Turn) (before after : List Standing) (old new whole : List (List Change)) → IsNext before turn after → new ≡ put_turn old turn → put_all old before ≡ whole → put_all new after ≡ whole
put_on turn [] after old new whole is grew so_far = absurd is
put_on turn (standing ∷ others) after old new whole is grew so_far =
    (λ i. put_all ((grew ∙ sym (turn_put old standing turn is.0)) i) (is.1 i)) ∙ so_far

pub put_end : (left : List Standing) (deltas whole : List (List Change)) → left ≡ [] → put_all deltas left ≡ whole → deltas ≡ whole
put_end left deltas whole none so_far = sym (ap (put_all deltas) none) ∙ so_far

-- ---- of each transaction

put_length : (deltas : List (List Change)) (standings : List Standing) → length (put_all deltas standings) ≡ length deltas
put_length deltas [] = refl
put_length deltas (it ∷ more) = put_length (put_with deltas it.place it.effect) more ∙ length-set deltas it.place (get_or deltas it.place [] ++ changes_of it.effect)

put_if : (b : Bool) (deltas : List (List Change)) (it : Standing) (place : ℕ) → (it.place == place) ≡ b → place < length deltas
    → get_or (put_with deltas it.place it.effect) place [] ≡ cond b (get_or deltas place [] ++ changes_of it.effect) (get_or deltas place [])
put_if true deltas it place is within =
    ap (λ at. get_or (set deltas at (get_or deltas at [] ++ changes_of it.effect)) place []) (eqb-true it.place place is) ∙ get_or-set_same deltas place (get_or deltas place [] ++ changes_of it.effect) [] within
put_if false deltas it place is within = get_or-set_other deltas it.place place (get_or deltas it.place [] ++ changes_of it.effect) [] (λ same. eqb-false it.place place is (sym same))

more_if : (b : Bool) (delta : List Change) (it : Standing) (more : List Standing)
    → cond b (delta ++ changes_of it.effect) delta ++ flat_map (λ (one : Standing). changes_of one.effect) more ≡ delta ++ flat_map (λ (one : Standing). changes_of one.effect) (cond b (it ∷ more) more)
more_if true delta it more = append_assoc delta (changes_of it.effect) (flat_map (λ (one : Standing). changes_of one.effect) more)
more_if false delta it more = refl

put_at : (deltas : List (List Change)) (standings : List Standing) (place : ℕ) → place < length deltas → get_or (put_all deltas standings) place [] ≡ get_or deltas place [] ++ changed_at standings place
put_at deltas [] place within = sym (append-nil (get_or deltas place []))
put_at deltas (it ∷ more) place within =
    put_at (put_with deltas it.place it.effect) more place (subst (λ n. place < n) (sym (length-set deltas it.place (get_or deltas it.place [] ++ changes_of it.effect))) within)
    ∙ ap (λ delta. delta ++ changed_at more place) (put_if (it.place == place) deltas it place refl within)
    ∙ more_if (it.place == place) (get_or deltas place []) it (standings_at more place)

-- changes by place are those of the places
by_place : (standings : List Standing) (deltas : List (List Change)) (place : ℕ) → ((i : ℕ) → i < length deltas → get_or deltas i [] ≡ changed_at standings (place + i)) → deltas ≡ changes_from standings place (length deltas)
by_place standings [] place each = refl
by_place standings (delta ∷ deltas) place each =
    let same : place + 0 ≡ place = omega arith in
    ap₂ (λ (first : List Change) rest. first ∷ rest) (each 0 (omega arith) ∙ ap (changed_at standings) same)
    (by_place standings deltas (place + 1) (λ i lt. let next : place + suc i ≡ (place + 1) + i = omega arith in each (suc i) (omega (arith, lt)) ∙ ap (changed_at standings) next))

pub all_put : (count : ℕ) (standings : List Standing) → put_all (replicate count []) standings ≡ changes_from standings 0 count
all_put count standings =
    let size = put_length (replicate count []) standings ∙ length-replicate count [] in
    by_place standings (put_all (replicate count []) standings) 0
    (λ i lt.
    let within : i < count = subst (λ n. i < n) size lt in
    let same : i ≡ 0 + i = omega arith in
    put_at (replicate count []) standings i (subst (λ n. i < n) (sym (length-replicate count [])) within)
    ∙ ap (λ delta. delta ++ changed_at standings i) (get_or-replicate count i [] [] within)
    ∙ ap (changed_at standings) same)
    ∙ ap (changes_from standings 0) size

-- ---- states

some_same : {A : Type 0} (x y : A) → ◌≡◌ {A = Option A} (Some x) (Some y) → x ≡ y
some_same x y h = cc

none_some : {A : Type 0} (x : A) → ◌≡◌ {A = Option A} None (Some x) → ⊥
none_some x h = absurd (cc)

kept_if : (asked : Bool) (s found : State) → state_if asked s ≡ Some found → found ≡ s
kept_if true s found is = sym (some_same s found is)
kept_if false s found is = absurd (none_some found is)

-- the state with the changes of so many commits put on, or of all where there are fewer
abbrev state_after : State → List (List Change) → ℕ → State
state_after s deltas zero = s
state_after s deltas (suc commits) = state_after (state_next s deltas) (behind_first deltas) commits

state_stays : (s : State) (commits : ℕ) → state_after s [] commits ≡ s
state_stays s zero = refl
state_stays s (suc commits) = state_stays s commits

state_kept : (s : State) (deltas : List (List Change)) (asked : List Bool) (commits : ℕ) (found : State) → get_or (states_on s deltas asked) commits None ≡ Some found → found ≡ state_after s deltas commits
state_kept s deltas [] commits found is = absurd (none_some found is)
state_kept s deltas (one ∷ asked) zero found is = kept_if one s found is
state_kept s deltas (one ∷ asked) (suc commits) found is = state_kept (state_next s deltas) (behind_first deltas) asked commits found is

-- behind the last commit nothing changes
none_past : (deltas : List (List Change)) (commits : ℕ) → length deltas ≤ commits → get_or deltas commits [] ≡ []
none_past [] commits over = refl
none_past (delta ∷ deltas) zero over = absurd (omega (arith, over))
none_past (delta ∷ deltas) (suc commits) over = none_past deltas commits (omega (arith, over))

by_stays : (deltas : List (List Change)) (commits more : ℕ) → length deltas ≤ commits → state_by deltas (commits + more) ≡ state_by deltas commits
by_stays deltas commits zero over = let same : commits + 0 ≡ commits = omega arith in ap (state_by deltas) same
by_stays deltas commits (suc more) over =
    let next : commits + suc more ≡ suc (commits + more) = omega arith in
    ap (state_by deltas) next ∙ ap (changed_all (state_by deltas (commits + more))) (none_past deltas (commits + more) (omega (arith, over))) ∙ by_stays deltas commits more over

at_end : (front : List (List Change)) (delta : List Change) (deltas : List (List Change)) → get_or (front ++ delta ∷ deltas) (length front) [] ≡ delta
at_end [] delta deltas = refl
at_end (one ∷ front) delta deltas = at_end front delta deltas

-- behind some commits those that are left are put on in their order
by_front : (front deltas : List (List Change)) (commits : ℕ) → state_after (state_by (front ++ deltas) (length front)) deltas commits ≡ state_by (front ++ deltas) (length front + commits)
by_front front deltas zero = let same : length front ≡ length front + 0 = omega arith in ap (state_by (front ++ deltas)) same
by_front front [] (suc commits) =
    let size = length-append front [] in
    state_stays (state_by (front ++ []) (length front)) (suc commits) ∙ sym (by_stays (front ++ []) (length front) (suc commits) (omega (arith, size)))
by_front front (delta ∷ deltas) (suc commits) =
    let all = front ++ delta ∷ deltas in
    let whole : (front ++ delta ∷ []) ++ deltas ≡ all = append_assoc front (delta ∷ []) deltas in
    let size = length-append front (delta ∷ []) in
    let count : length (front ++ delta ∷ []) ≡ suc (length front) = omega (arith, size) in
    let last : suc (length front) + commits ≡ length front + suc commits = omega arith in
    ap (λ (one : List Change). state_after (changed_all (state_by all (length front)) one) deltas commits) (sym (at_end front delta deltas))
    ∙ (λ i. state_after (state_by (sym whole i) (sym count i)) deltas commits)
    ∙ by_front (front ++ delta ∷ []) deltas commits
    ∙ (λ i. state_by (whole i) (count i + commits)) ∙ ap (state_by all) last

after_by : (deltas : List (List Change)) (commits : ℕ) → state_after opening deltas commits ≡ state_by deltas commits
after_by deltas commits = let same : 0 + commits ≡ commits = omega arith in by_front [] deltas commits ∙ ap (state_by deltas) same

pub kept_after : (deltas : List (List Change)) (asked : List Bool) (kept : List (Option State)) → kept ≡ states_on opening deltas asked → AreKeptAfter deltas kept
kept_after deltas asked kept is = record { each = λ commits s there. state_kept opening deltas asked commits s (ap (λ states. get_or states commits None) (sym is) ∙ there) ∙ after_by deltas commits }

-- what stands at a place, and behind the last one
pub one_kept : (kept : List (Option State)) (place : ℕ) (one : Option State) → place < length kept → one ≡ get_or kept place one → one ≡ get_or kept place None
one_kept kept place one within is = is ∙ get_or_default kept place one None within

pub none_kept : (kept : List (Option State)) (place : ℕ) → length kept ≤ place → None ≡ get_or kept place None
none_kept [] place over = refl
none_kept (one ∷ kept) zero over = absurd (omega (arith, over))
none_kept (one ∷ kept) (suc place) over = none_kept kept place (omega (arith, over))

-- a copy of a state that is kept at the number of its commits
pub kept_there : (kept : List (Option State)) (commits : ℕ) (s copy : State) → Some s ≡ get_or kept commits None → copy ≡ s → (deltas : List (List Change)) → AreKeptAfter deltas kept → copy ≡ state_by deltas commits
kept_there kept commits s copy there same deltas are = same ∙ are.each commits s (sym there)

-- ---- attempts

-- those that began so far and those that are left are all
pub begun_on : (deltas : List (List Change)) (begun after : List Begun) (one : Begun) (it : Attempt) (left rest its : List Attempt) → left ≡ it ∷ rest → one ≡ begun_in deltas it → after ≡ begun ++ one ∷ []
    → begun ++ map (begun_in deltas) left ≡ map (begun_in deltas) its → after ++ map (begun_in deltas) rest ≡ map (begun_in deltas) its
begun_on deltas begun after one it left rest its next is grew so_far =
    ap (λ (them : List Begun). them ++ map (begun_in deltas) rest) grew ∙ append_assoc begun (one ∷ []) (map (begun_in deltas) rest)
    ∙ ap (λ (first : Begun). begun ++ (first ∷ map (begun_in deltas) rest)) is ∙ ap (λ (them : List Attempt). begun ++ map (begun_in deltas) them) (sym next) ∙ so_far

pub begun_whole : (kept : List (Option State)) (begun : List Begun) (left its : List Attempt) → left ≡ [] → ((deltas : List (List Change)) → AreKeptAfter deltas kept → begun ++ map (begun_in deltas) left ≡ map (begun_in deltas) its)
    → (deltas : List (List Change)) → AreKeptAfter deltas kept → begun ≡ map (begun_in deltas) its
begun_whole kept begun left its none so_far deltas are =
    sym (append-nil begun) ∙ ap (λ (them : List Attempt). begun ++ map (begun_in deltas) them) (sym none) ∙ so_far deltas are

pub begun_along : (transactions : List Transaction) (places : List ℕ) (its : List Attempt) (empty deltas lent : List (List Change)) (it : Attempts) → empty ≡ replicate (length transactions) [] → deltas ≡ put_all empty (standings_along transactions opening places) → lent ≡ deltas
    → it.begun.items ≡ map (begun_in lent) its → FirstDiffers (standings_along transactions opening places) it.differs → AreBegunAlong transactions places its it
begun_along transactions places its empty deltas lent it none put same begun differs =
    let standings = standings_along transactions opening places in
    record {
      begun = begun ∙ ap (λ changes. map (begun_in changes) its) (same ∙ put ∙ ap (λ nothing. put_all nothing standings) none ∙ all_put (length transactions) standings);
      differs = differs;
    }

pub all_begun : (transactions : List Transaction) (numbers places : List ℕ) (its : List Attempt) (it : Attempts) → IsPlaced transactions numbers places → AreBegunAlong transactions places its it → AreBegun transactions numbers its (Some it)
all_begun transactions numbers places its it placed begun = (places, placed, begun)

pub none_begun : (transactions : List Transaction) (numbers : List ℕ) (its : List Attempt) → IsNoOrder transactions numbers → AreBegun transactions numbers its None
none_begun transactions numbers its none = none
