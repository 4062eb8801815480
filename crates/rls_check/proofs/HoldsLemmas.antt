-- An audit in which all is found to hold holds: the records are those that the run along its order makes.
use Rattle.std.specs.Prelude.{◌≡◌, refl, ℕ, zero, suc, ◌+◌, ◌==◌, ◌<◌, ◌≤◌, ltb, Bool, true, false, ◌||◌, ◌&&◌, cond, List, [], ◌∷◌, ◌++◌, map, length, get_or, set, Option, Some, None}
use Rattle.std.specs.List.{flat_map}
use Rattle.std.proofs.Common.{ap, sym, ◌∙◌, subst, inl, inr, ◌⊎◌, arith, eq-eqb, eqb-true, lt-ltb}
use Rattle.std.proofs.lemmas.Bool.{cases_Bool, cases_lt, or_parts, or_cases, or_left, or_right, true≢false}
use Rattle.std.proofs.lemmas.List.{get_or-set_same, get_or-set_other, length-set}
use Rattle.rls_value.specs.declared.object.Object.{Object}
use Rattle.rls_catalog.specs.declared.change.Change.{Change}
use Rattle.rls_catalog.specs.State.{State, AgreesAt}
use Rattle.rls_catalog.specs.Changed.{opening, changed, changed_all}
use Rattle.rls_catalog.specs.Bases.{covers_any}
use Rattle.rls_statement.specs.declared.statement.Statement.{Statement}
use Rattle.rls_explain.specs.rls_meaning.specs.rls_guard.specs.{declared.context.Ctx.Ctx, declared.effect.Effect.Effect, Effects.changes_of}
use Rattle.rls_audit.specs.rls_access.specs.Transactions.{first_ctx, ctx_after}
use Rattle.rls_explain.specs.rls_meaning.specs.Meaning.{effect_of}
use Rattle.rls_history.specs.History.{History, before, rw as edge, concurrent}
use Rattle.rls_history.specs.Orders.{precedes, with_placed, none_placed, IsNext, StandInTurn, placed_by, IsOrder}
use Rattle.rls_audit.specs.rls_conflict.specs.Transactions as conflict
use Rattle.rls_audit.specs.rls_core.specs.Records.{Record, nobody, record_at, transaction_of, history_by, state_after}
use Rattle.rls_audit.specs.rls_core.specs.Alone.{effects_alone, state_alone, changes_made, Explains}
use Rattle.rls_audit.specs.Lines.{Line, Head, Txn, End, Shown, Answered, Written, written_by, ordered_changes, answered, shown, lines_from, audit_of}
use Rattle.rls_explain.specs.rls_meaning.specs.rls_guard.specs.Effects.{reply_of, decisions_of}
use Rattle.rls_audit.specs.Audits.{AreRecords, ChangesAreMade, numbers_at, AuditHolds}
use Rattle.rls_check.specs.declared.transaction.Answer.{Answer}
use Rattle.rls_check.specs.declared.transaction.Transaction.{Transaction}
use Rattle.rls_check.specs.declared.finding.Finding.{Finding}
use Rattle.rls_check.specs.declared.finding.Finding.TheVariants as f
use Rattle.rls_check.specs.declared.running.RanAlone.TheVariants as alone
use Rattle.rls_check.specs.declared.running.RanAlong.{RanAlong}
use Rattle.rls_check.specs.declared.running.RanAlong.TheVariants as along
use Rattle.rls_check.specs.Audited.{written_of, answered_of, shown_of, lines_between, lines_of, transaction_at, asked_of}
use Rattle.rls_check.specs.Checking.{FirstOther, IsRunAlone, RunsAlong, EndsAs, IsFoundAlong, IsPlaced, history_of, ctx_of, effects_in, state_behind}
use Rattle.rls_agreement.specs.Committing.{AgreeWhere, state_by, no_changes}
use Rattle.rls_check.proofs.RunningLemmas.{no_changes_many}
use Rattle.rls_check.proofs.OrderLemmas.{among, placed_among, apart, in_range, began_at, own_among, one_order, next_began}
use Rattle.rls_check.proofs.EndLemmas.{UncoveredStays, IsWide, agrees_itself, agrees_on, stays_all, uncovered_at, covers_one, agree_everywhere}

-- ---- the records

-- what the statements of the one at the place come to, in the run from the state along the places
abbrev pub effects_at : List Transaction → State → List ℕ → ℕ → List Effect
effects_at ts s [] i = []
effects_at ts s (p ∷ ps) i = cond (i == p) (effects_in (transaction_at ts p) s) (effects_at ts (state_behind (transaction_at ts p) s) ps i)

abbrev pub record_made : Transaction → List Effect → Record
record_made t effects = record { txn = t.txn; begin = t.begin; snap = t.snap; statements = asked_of t.answers; effects = effects; changes = changes_made effects; noted = [] }

abbrev pub records_from : (ℕ → List Effect) → List Transaction → List Record
records_from e [] = []
records_from e (t ∷ ts) = record_made t (e zero) ∷ records_from (λ i. e (suc i)) ts

many : (e : ℕ → List Effect) (ts : List Transaction) → length (records_from e ts) ≡ length ts
many e [] = refl
many e (t ∷ ts) = let rest = many (λ i. e (suc i)) ts in omega (arith, rest)

record_is : (e : ℕ → List Effect) (ts : List Transaction) (i : ℕ) → i < length ts → record_at (records_from e ts) i ≡ record_made (transaction_at ts i) (e i)
record_is e [] i l = absurd (omega (arith, l))
record_is e (t ∷ ts) zero l = refl
record_is e (t ∷ ts) (suc i) l = record_is (λ j. e (suc j)) ts i (omega (arith, l))

-- ---- what they show

-- the effects are shown so
pub record IsShown (t : Transaction) (effects : List Effect) : Type 0 where
  pub answers : answered (asked_of t.answers) effects ≡ map answered_of t.answers
  pub puts : map written_of t.puts ≡ map written_by (flat_map ordered_changes effects)

shown_same : (commit : ℕ) (t : Transaction) (effects : List Effect) → IsShown t effects → shown commit (record_made t effects) ≡ shown_of commit t
shown_same commit t effects h =
    ap (λ (a : List Answered). the_shown a (map written_by (flat_map ordered_changes effects))) h.answers ∙ ap (λ (w : List Written). the_shown (map answered_of t.answers) w) (sym h.puts)
  where
    the_shown : List Answered → List Written → Shown
    the_shown a w = record { commit = commit; txn = t.txn; begin = t.begin; snap = t.snap; statements = a; changes = w }

lines_same : (commit : ℕ) (e : ℕ → List Effect) (ts : List Transaction) → ((i : ℕ) → i < length ts → IsShown (transaction_at ts i) (e i)) → lines_from commit (records_from e ts) ≡ lines_between commit ts
lines_same commit e [] h = refl
lines_same commit e (t ∷ ts) h =
    ap (λ (one : Shown). Txn one ∷ lines_from (suc commit) (records_from (λ i. e (suc i)) ts)) (shown_same commit t (e zero) (h zero (omega arith)))
    ∙ ap (λ (rest : List Line). Txn (shown_of commit t) ∷ rest) (lines_same (suc commit) (λ i. e (suc i)) ts (λ i l. h (suc i) (omega (arith, l))))

audit_same : (e : ℕ → List Effect) (ts : List Transaction) (numbers : List ℕ) → ((i : ℕ) → i < length ts → IsShown (transaction_at ts i) (e i)) → lines_of ts numbers ≡ audit_of (records_from e ts) numbers
audit_same e ts numbers h =
    sym (ap (λ (between : List Line). Head ∷ (between ++ End (length (records_from e ts)) numbers ∷ [])) (lines_same 1 e ts h)
    ∙ ap (λ (n : ℕ). Head ∷ (lines_between 1 ts ++ End n numbers ∷ [])) (many e ts))

-- ---- the run

abbrev pub AreShownAlong : List Transaction → State → List ℕ → Type 0
AreShownAlong ts s [] = Unit {0}
AreShownAlong ts s (p ∷ ps) = IsShown (transaction_at ts p) (effects_in (transaction_at ts p) s) × AreShownAlong ts (state_behind (transaction_at ts p) s) ps

abbrev pub deltas_along : List Transaction → State → List (List Change) → List ℕ → List (List Change)
deltas_along ts s deltas [] = deltas
deltas_along ts s deltas (p ∷ ps) = deltas_along ts (state_behind (transaction_at ts p) s) (set deltas p (changes_made (effects_in (transaction_at ts p) s))) ps

abbrev pub end_along : List Transaction → State → List ℕ → State
end_along ts s [] = s
end_along ts s (p ∷ ps) = end_along ts (state_behind (transaction_at ts p) s) ps

pub record Ran (ts : List Transaction) (s : State) (deltas : List (List Change)) (ps : List ℕ) (left : List (List Change)) (end : State) : Type 0 where
  pub are_shown : AreShownAlong ts s ps
  pub left_is : left ≡ deltas_along ts s deltas ps
  pub end_is : end ≡ end_along ts s ps

answers_shown : (n : ℕ) (ctx : Ctx) (s : State) (answers : List Answer) → FirstOther n ctx s answers None → answered (asked_of answers) (effects_alone ctx (asked_of answers) s) ≡ map answered_of answers
answers_shown n ctx s [] h = refl
answers_shown n ctx s (a ∷ more) h =
    let effect = effect_of s ctx a.statement in
    let next = ctx_after ctx effect in
    let s' = changed_all s (changes_of effect) in
    elim h [
      | inl yes' ↦
          (ap (λ r. record { statement = a.statement; reply = r; decisions = decisions_of effect } ∷ answered (asked_of more) (effects_alone next (asked_of more) s')) (sym yes'.0.reply)
          ∙ ap (λ d. record { statement = a.statement; reply = a.reply; decisions = d } ∷ answered (asked_of more) (effects_alone next (asked_of more) s')) (sym yes'.0.decisions)
          ∙ ap (λ (rest : List Answered). answered_of a ∷ rest) (answers_shown (n + 1) next s' more yes'.1))
      | inr no' ↦ (let e : None ≡ Some n = no'.1 in absurd (cc))
    ]

run_is : (ts : List Transaction) (s : State) (deltas : List (List Change)) (ps : List ℕ) (ran : RanAlong) (left : List (List Change)) (end : State)
    → ran ≡ along.Agrees end → RunsAlong ts s deltas ps ran left → Ran ts s deltas ps left end
run_is ts s deltas [] ran left end is runs = record { are_shown = tt; left_is = runs.1; end_is = (let one : along.Agrees end ≡ along.Agrees s = sym is ∙ runs.0 in cc) }
run_is ts s deltas (p ∷ ps) ran left end is runs =
    let t = transaction_at ts p in
    elim runs [
      | inl on ↦
          (let one = on.2 in
          let moved : RunsAlong ts (state_behind t s) (set deltas p (changes_made (effects_in t s))) ps ran left =
          subst (λ (made : List Change). RunsAlong ts (state_behind t s) (set deltas p made) ps ran left) one.3 (subst (λ (x : State). RunsAlong ts x (set deltas p on.1) ps ran left) one.2 on.3) in
          let rest = run_is ts (state_behind t s) (set deltas p (changes_made (effects_in t s))) ps ran left end is moved in
          record {
            are_shown = (record { answers = answers_shown 1 (ctx_of t) s t.answers one.0; puts = one.1 }, rest.are_shown);
            left_is = rest.left_is;
            end_is = rest.end_is;
          })
      | inr off ↦ (let e : along.Agrees end ≡ along.Differs off.0 = sym is ∙ off.2 in absurd (cc))
    ]

-- what stops a run is never that all holds
never_holds : (ts : List Transaction) (s : State) (deltas : List (List Change)) (ps : List ℕ) (ran : RanAlong) (left : List (List Change)) (found : Finding)
    → ran ≡ along.Differs found → RunsAlong ts s deltas ps ran left → found ≡ f.Holds → ⊥
never_holds ts s deltas [] ran left found is runs e = (let one : along.Differs found ≡ along.Agrees s = sym is ∙ runs.0 in cc)
never_holds ts s deltas (p ∷ ps) ran left found is runs e =
    elim runs [
      | inl on ↦ never_holds ts on.0 (set deltas p on.1) ps ran left found is on.3 e
      | inr off ↦
          (let one : along.Differs found ≡ along.Differs off.0 = sym is ∙ off.2 in
          let same : off.0 ≡ f.Holds = cc in
          elim off.1 [
            | inl reply ↦ (let x : f.Holds ≡ f.Reply (transaction_at ts p).txn reply.0 = sym same ∙ reply.2 in cc)
            | inr changes ↦ (let x : f.Holds ≡ f.Changes (transaction_at ts p).txn = sym same ∙ changes.2 in cc)
          ])
    ]

-- ---- by place

other : (i p : ℕ) (rest : Bool) → ((i == p) || rest) ≡ true → (i == p) ≡ false → rest ≡ true
other i p rest is no' = elim (or_cases (i == p) rest is) [ inl here ↦ absurd (true≢false (sym here ∙ no')) | inr later ↦ later ]

shown_if : (b : Bool) (t : Transaction) (one two : List Effect) → (b ≡ true → IsShown t one) → (b ≡ false → IsShown t two) → IsShown t (cond b one two)
shown_if true t one two yes' no' = yes' refl
shown_if false t one two yes' no' = no' refl

shown_at : (ts : List Transaction) (s : State) (ps : List ℕ) (i : ℕ) → AreShownAlong ts s ps → among ps i ≡ true → IsShown (transaction_at ts i) (effects_at ts s ps i)
shown_at ts s [] i h is = absurd (true≢false (sym is))
shown_at ts s (p ∷ ps) i h is =
    let t = transaction_at ts p in
    shown_if (i == p) (transaction_at ts i) (effects_in t s) (effects_at ts (state_behind t s) ps i)
    (λ here. subst (λ (x : ℕ). IsShown (transaction_at ts x) (effects_in t s)) (sym (eqb-true i p here)) h.0)
    (λ there. shown_at ts (state_behind t s) ps i h.1 (other i p (among ps i) is there))

apart_from : (i p : ℕ) → (i == p) ≡ false → i ≡ p → ⊥
apart_from i p no' same = true≢false (sym (eq-eqb i p same) ∙ no')

delta_other : (ts : List Transaction) (s : State) (deltas : List (List Change)) (ps : List ℕ) (i : ℕ) → among ps i ≡ false → get_or (deltas_along ts s deltas ps) i [] ≡ get_or deltas i []
delta_other ts s deltas [] i is = refl
delta_other ts s deltas (p ∷ ps) i is =
    let t = transaction_at ts p in
    let parts = or_parts (i == p) (among ps i) is in
    delta_other ts (state_behind t s) (set deltas p (changes_made (effects_in t s))) ps i parts.1 ∙ get_or-set_other deltas p i (changes_made (effects_in t s)) [] (apart_from i p parts.0)

made_if : (b : Bool) (one two : List Effect) (made : List Change) → (b ≡ true → made ≡ changes_made one) → (b ≡ false → made ≡ changes_made two) → made ≡ changes_made (cond b one two)
made_if true one two made yes' no' = yes' refl
made_if false one two made yes' no' = no' refl

not_among : (h : History) (placed : ℕ → Bool) (p : ℕ) (ps : List ℕ) → StandInTurn h placed (p ∷ ps) → among ps p ≡ false
not_among h placed p ps turns =
    elim (cases_Bool (among ps p)) [ inl later ↦ absurd (true≢false (sym (eq-eqb p p refl) ∙ apart h placed p ps p turns later)) | inr no' ↦ no' ]

pub delta_at : (h : History) (placed : ℕ → Bool) (ts : List Transaction) (s : State) (deltas : List (List Change)) (ps : List ℕ) (i : ℕ)
    → h.count ≡ length deltas → StandInTurn h placed ps → among ps i ≡ true → get_or (deltas_along ts s deltas ps) i [] ≡ changes_made (effects_at ts s ps i)
delta_at h placed ts s deltas [] i room turns is = absurd (true≢false (sym is))
delta_at h placed ts s deltas (p ∷ ps) i room turns is =
    let t = transaction_at ts p in
    let made = changes_made (effects_in t s) in
    let within : p < length deltas = subst (λ (n : ℕ). p < n) room turns.0.within in
    made_if (i == p) (effects_in t s) (effects_at ts (state_behind t s) ps i) (get_or (deltas_along ts (state_behind t s) (set deltas p made) ps) i [])
    (λ here. subst (λ (x : ℕ). get_or (deltas_along ts (state_behind t s) (set deltas p made) ps) x [] ≡ made) (sym (eqb-true i p here))
    (delta_other ts (state_behind t s) (set deltas p made) ps p (not_among h placed p ps turns) ∙ get_or-set_same deltas p made [] within))
    (λ there. delta_at h (with_placed placed p) ts (state_behind t s) (set deltas p made) ps i (room ∙ sym (length-set deltas p made)) turns.1 (other i p (among ps i) is there))

-- ---- the order explains the records

pub effects_here : (ts : List Transaction) (s : State) (p : ℕ) (ps : List ℕ) → effects_at ts s (p ∷ ps) p ≡ effects_in (transaction_at ts p) s
effects_here ts s p ps = ap (λ (b : Bool). cond b (effects_in (transaction_at ts p) s) (effects_at ts (state_behind (transaction_at ts p) s) ps p)) (eq-eqb p p refl)

pub effects_later : (ts : List Transaction) (s : State) (p : ℕ) (ps : List ℕ) (i : ℕ) → (i == p) ≡ false → effects_at ts s (p ∷ ps) i ≡ effects_at ts (state_behind (transaction_at ts p) s) ps i
effects_later ts s p ps i no' = ap (λ (b : Bool). cond b (effects_in (transaction_at ts p) s) (effects_at ts (state_behind (transaction_at ts p) s) ps i)) no'

explains : (h : History) (placed : ℕ → Bool) (ts : List Transaction) (e : ℕ → List Effect) (s : State) (ps : List ℕ)
    → h.count ≡ length ts → StandInTurn h placed ps → ((i : ℕ) → among ps i ≡ true → e i ≡ effects_at ts s ps i)
    → ((object : Object) → AgreesAt (end_along ts s ps) (state_after (records_from e ts) (length (records_from e ts))) object) → Explains (records_from e ts) ps s
explains h placed ts e s [] all turns same ends = ends
explains h placed ts e s (p ∷ ps) all turns same ends =
    let t = transaction_at ts p in
    let is = record_is e ts p (subst (λ (n : ℕ). p < n) all turns.0.within) in
    let own : e p ≡ effects_in t s = same p (own_among p ps) ∙ effects_here ts s p ps in (
      subst (λ (it : Record). effects_alone (first_ctx it.txn it.begin) it.statements s ≡ it.effects) (sym is) (sym own),
      subst (λ (it : Record). Explains (records_from e ts) ps (state_alone (first_ctx it.txn it.begin) it.statements s)) (sym is)
          (explains h (with_placed placed p) ts e (state_behind t s) ps all turns.1
          (λ i later. same i (or_right (i == p) (among ps i) later) ∙ effects_later ts s p ps i (apart h placed p ps i turns later)) ends),
    )

state_same : (e : ℕ → List Effect) (ts : List Transaction) (left : List (List Change)) (n : ℕ) → n ≤ length ts → ((i : ℕ) → i < length ts → get_or left i [] ≡ changes_made (e i))
    → state_by left n ≡ state_after (records_from e ts) n
state_same e ts left zero l h = refl
state_same e ts left (suc n) l h =
    let within : n < length ts = omega (arith, l) in
    ap (λ (s : State). changed_all s (get_or left n [])) (state_same e ts left n (omega (arith, l)) h)
    ∙ ap (λ (changes : List Change). changed_all (state_after (records_from e ts) n) changes) (h n within ∙ sym (ap (λ (it : Record). it.changes) (record_is e ts n within)))

-- ---- the end

changed_more : (s : State) (changes more : List Change) → changed_all s (changes ++ more) ≡ changed_all (changed_all s changes) more
changed_more s [] more = refl
changed_more s (change ∷ changes) more = changed_more (changed s change) changes more

alone_is : (ctx : Ctx) (asked : List Statement) (s : State) → state_alone ctx asked s ≡ changed_all s (changes_made (effects_alone ctx asked s))
alone_is ctx [] s = refl
alone_is ctx (a ∷ asked) s =
    let effect = effect_of s ctx a in
    let s' = changed_all s (changes_of effect) in
    alone_is (ctx_after ctx effect) asked s' ∙ sym (changed_more s (changes_of effect) (changes_made (effects_alone (ctx_after ctx effect) asked s')))

end_stays : UncoveredStays → (h : History) (placed : ℕ → Bool) (ts : List Transaction) (s : State) (ps : List ℕ) (object : Object) → IsWide object → StandInTurn h placed ps
    → ((i : ℕ) → among ps i ≡ true → covers_any object (changes_made (effects_at ts s ps i)) ≡ false) → AgreesAt s (end_along ts s ps) object
end_stays law h placed ts s [] object w turns un = agrees_itself s object
end_stays law h placed ts s (p ∷ ps) object w turns un =
    let t = transaction_at ts p in
    let here : covers_any object (changes_made (effects_in t s)) ≡ false = subst (λ (e : List Effect). covers_any object (changes_made e) ≡ false) (effects_here ts s p ps) (un p (own_among p ps)) in
    let one : AgreesAt s (state_behind t s) object = subst (λ (x : State). AgreesAt s x object) (sym (alone_is (ctx_of t) (asked_of t.answers) s)) (stays_all law s (changes_made (effects_in t s)) object w here) in
    agrees_on s (state_behind t s) (end_along ts (state_behind t s) ps) object one
    (end_stays law h (with_placed placed p) ts (state_behind t s) ps object w turns.1
    (λ i later. subst (λ (e : List Effect). covers_any object (changes_made e) ≡ false) (effects_later ts s p ps i (apart h placed p ps i turns later)) (un i (or_right (i == p) (among ps i) later))))

-- ---- the order is one of the records

pub get_map : {X Y : Type 0} (g : X → Y) (xs : List X) (i : ℕ) (x : X) → get_or (map g xs) i (g x) ≡ g (get_or xs i x)
get_map g [] i x = refl
get_map g (y ∷ ys) zero x = refl
get_map g (y ∷ ys) (suc i) x = get_map g ys i x

pub length_map : {X Y : Type 0} (g : X → Y) (xs : List X) → length (map g xs) ≡ length xs
length_map g [] = refl
length_map g (x ∷ xs) = let rest = length_map g xs in omega (arith, rest)

known_is : (e : ℕ → List Effect) (ts : List Transaction) (i : ℕ) → i < length ts → conflict.at (map transaction_of (records_from e ts)) i ≡ transaction_of (record_made (transaction_at ts i) (e i))
known_is e ts i l = get_map transaction_of (records_from e ts) i nobody ∙ ap transaction_of (record_is e ts i l)

counted : (e : ℕ → List Effect) (ts : List Transaction) → (history_by (records_from e ts)).count ≡ length ts
counted e ts = length_map transaction_of (records_from e ts) ∙ many e ts

both_second : (a b : Bool) → (a && b) ≡ true → b ≡ true
both_second true b h = h
both_second false b h = absurd (true≢false (sym h))

nothing_read : (e : ℕ → List Effect) (ts : List Transaction) (i t : ℕ) → i < length ts → (history_by (records_from e ts)).has_read i t ≡ false
nothing_read e ts i t l =
    ap (λ (one : conflict.Transaction). conflict.reads_from one.noted (conflict.at (map transaction_of (records_from e ts)) t).changes) (known_is e ts i l)

precedes_same : (e : ℕ → List Effect) (ts : List Transaction) (i t : ℕ) → i < length ts → t < length ts → precedes (history_by (records_from e ts)) i t ≡ true → precedes (history_of ts) i t ≡ true
precedes_same e ts i t li lt is =
    let k = history_by (records_from e ts) in
    elim (or_cases (before k i t) (edge k i t) is) [
      | inl earlier ↦ or_left (before (history_of ts) i t) (edge (history_of ts) i t) (sym (ap (λ (one : conflict.Transaction). ltb i one.snap) (known_is e ts t lt)) ∙ earlier)
      | inr read' ↦ absurd (true≢false (sym (both_second (concurrent k i t) (k.has_read i t) read') ∙ nothing_read e ts i t li))
    ]

turns_same : (e : ℕ → List Effect) (ts : List Transaction) (placed : ℕ → Bool) (ps : List ℕ) → StandInTurn (history_of ts) placed ps → StandInTurn (history_by (records_from e ts)) placed ps
turns_same e ts placed [] turns = tt
turns_same e ts placed (p ∷ ps) turns =
    let count = counted e ts in (
      record {
        within = subst (λ (n : ℕ). p < n) (sym count) turns.0.within;
        is_left = turns.0.is_left;
        all_before = λ i l is. (let li = subst (λ (n : ℕ). i < n) count l in turns.0.all_before i li (precedes_same e ts i p li turns.0.within is));
      },
      turns_same e ts (with_placed placed p) ps turns.1,
    )

named_same : (e : ℕ → List Effect) (ts : List Transaction) (ps : List ℕ) → ((i : ℕ) → among ps i ≡ true → i < length ts)
    → map (λ place. (transaction_at ts place).txn) ps ≡ map (λ place. (record_at (records_from e ts) place).txn) ps
named_same e ts [] h = refl
named_same e ts (p ∷ ps) h =
    ap (λ (n : ℕ). n ∷ map (λ place. (transaction_at ts place).txn) ps) (sym (ap (λ (it : Record). it.txn) (record_is e ts p (h p (own_among p ps)))))
    ∙ ap (λ (ns : List ℕ). (record_at (records_from e ts) p).txn ∷ ns) (named_same e ts ps (λ i later. h i (or_right (i == p) (among ps i) later)))

-- ---- all together

-- what an order of all gives of them
module _ (ts : List Transaction) (places : List ℕ) (order : IsOrder (history_of ts) places) where
  pub stands : (i : ℕ) → i < length ts → among places i ≡ true
  stands i l = elim (placed_among none_placed places i (order.all i l)) [ inl none ↦ absurd (true≢false (sym none)) | inr is ↦ is ]

  are_records : ((i j : ℕ) → i < length ts → j < length ts → (transaction_at ts i).txn ≡ (transaction_at ts j).txn → i ≡ j) → AreRecords (records_from (effects_at ts opening places) ts)
  are_records differ =
      let e = effects_at ts opening places in
      let count = many e ts in
      record {
        began = λ i l.
            (let li = subst (λ (n : ℕ). i < n) count l in
            subst (λ (it : Record). it.snap ≤ i) (sym (record_is e ts i li)) (began_at (history_of ts) none_placed places i order.in_turn (stands i li)));
        differ = λ i j l m same.
            (let li = subst (λ (n : ℕ). i < n) count l in
            let lj = subst (λ (n : ℕ). j < n) count m in
            differ i j li lj (sym (ap (λ (it : Record). it.txn) (record_is e ts i li)) ∙ (same ∙ ap (λ (it : Record). it.txn) (record_is e ts j lj))));
      }

changes_made_so : (e : ℕ → List Effect) (ts : List Transaction) → ChangesAreMade (records_from e ts)
changes_made_so e ts i l = subst (λ (it : Record). it.changes ≡ changes_made it.effects) (sym (record_is e ts i (subst (λ (n : ℕ). i < n) (many e ts) l))) refl

ran_holds : UncoveredStays → (ts : List Transaction) (numbers places : List ℕ) (end : State) (left : List (List Change))
    → IsPlaced ts numbers places → Ran ts opening (no_changes (length ts)) places left end → AgreeWhere left end (state_by left (length left)) → length left ≡ length ts → AuditHolds (lines_of ts numbers)
ran_holds law ts numbers places end left placed ran agree sized =
    let e = effects_at ts opening places in
    let h = history_of ts in
    let turns = placed.in_order.in_turn in
    let all_in = stands ts places placed.in_order in
    let room : length ts ≡ length (no_changes (length ts)) = sym (no_changes_many (length ts)) in
    let delta : (i : ℕ) → among places i ≡ true → get_or left i [] ≡ changes_made (e i) =
    (λ i is. ap (λ (deltas : List (List Change)). get_or deltas i []) ran.left_is ∙ delta_at h none_placed ts opening (no_changes (length ts)) places i room turns is) in
    let ended : (object : Object) → IsWide object → covers_one object left ≡ false → AgreesAt opening end object =
    (λ object w un. subst (λ (x : State). AgreesAt opening x object) (sym ran.end_is)
    (end_stays law h none_placed ts opening places object w turns (λ i is. subst (λ (made : List Change). covers_any object made ≡ false) (delta i is) (uncovered_at left object i un)))) in
    let same_end : state_by left (length left) ≡ state_after (records_from e ts) (length (records_from e ts)) =
    ap (state_by left) sized ∙ state_same e ts left (length ts) (omega arith) (λ i l. delta i (all_in i l)) ∙ ap (state_after (records_from e ts)) (sym (many e ts)) in
    let agrees : (object : Object) → AgreesAt (end_along ts opening places) (state_after (records_from e ts) (length (records_from e ts))) object =
    (λ object. subst (λ (x : State). AgreesAt x (state_after (records_from e ts) (length (records_from e ts))) object) ran.end_is
    (subst (λ (x : State). AgreesAt end x object) same_end (agree_everywhere law left end (length left) ended agree object))) in
    record {
      records = records_from e ts;
      places = places;
      lines_show = ap (lines_of ts) (placed.named ∙ named_same e ts places (λ i is. in_range h none_placed places i turns is))
          ∙ audit_same e ts (numbers_at (records_from e ts) places) (λ i l. shown_at ts opening places i ran.are_shown (all_in i l));
      are_records = are_records ts places placed.in_order placed.differ;
      changes = changes_made_so e ts;
      in_order = record { in_turn = turns_same e ts none_placed places turns; all = λ i l. placed.in_order.all i (subst (λ (n : ℕ). i < n) (counted e ts) l) };
      explains = explains h none_placed ts e opening places refl turns (λ i is. refl) agrees;
    }

pub deltas_many : (ts : List Transaction) (s : State) (deltas : List (List Change)) (ps : List ℕ) → length (deltas_along ts s deltas ps) ≡ length deltas
deltas_many ts s deltas [] = refl
deltas_many ts s deltas (p ∷ ps) =
    let made = changes_made (effects_in (transaction_at ts p) s) in
    deltas_many ts (state_behind (transaction_at ts p) s) (set deltas p made) ps ∙ length-set deltas p made

held_so : UncoveredStays → (ts : List Transaction) (numbers places : List ℕ) (ran : RanAlong) (left : List (List Change)) (found : Finding)
    → IsPlaced ts numbers places → RunsAlong ts opening (no_changes (length ts)) places ran left → EndsAs ran left found → found ≡ f.Holds → AuditHolds (lines_of ts numbers)
held_so law ts numbers places (along.Agrees end) left found placed runs ends is =
    let ran = run_is ts opening (no_changes (length ts)) places (along.Agrees end) left end refl runs in
    let sized : length left ≡ length ts = ap (λ (deltas : List (List Change)). length deltas) ran.left_is ∙ (deltas_many ts opening (no_changes (length ts)) places ∙ no_changes_many (length ts)) in
    elim ends [
      | inl yes' ↦ ran_holds law ts numbers places end left placed ran yes'.0 sized
      | inr no' ↦ (let x : f.Holds ≡ f.FinalState = sym is ∙ no'.1 in absurd (cc))
    ]
held_so law ts numbers places (along.Differs first) left found placed runs ends is =
    absurd (never_holds ts opening (no_changes (length ts)) places (along.Differs first) left first refl runs (sym ends ∙ is))

-- where all is found to hold the audit holds
pub found_holds : UncoveredStays → (ts : List Transaction) (numbers places : List ℕ) (found : Finding) → IsPlaced ts numbers places → IsFoundAlong ts places found → found ≡ f.Holds → AuditHolds (lines_of ts numbers)
found_holds law ts numbers places found placed along' is = held_so law ts numbers places along'.0 along'.1 found placed along'.2 along'.3 is
