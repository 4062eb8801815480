-- In an audit that holds all is found to hold.
use Rattle.std.specs.Prelude.{◌≡◌, refl, ℕ, zero, suc, ◌+◌, ◌==◌, ◌<◌, ◌≤◌, ltb, Bool, true, false, ◌||◌, ◌&&◌, List, [], ◌∷◌, ◌++◌, map, length, get_or, set, Option, Some, None}
use Rattle.std.specs.List.{All, flat_map}
use Rattle.std.proofs.Common.{ap, sym, ◌∙◌, subst, inl, inr, ◌⊎◌, arith, eqb-true}
use Rattle.std.proofs.lemmas.Bool.{or_left, or_right, or_cases, true≢false}
use Rattle.std.proofs.lemmas.List.Elements.{All-nil, All-cons}
use Rattle.rls_value.specs.declared.object.Object.{Object}
use Rattle.rls_catalog.specs.declared.change.Change.{Change}
use Rattle.rls_catalog.specs.State.{State, AgreesAt, AgreesOn}
use Rattle.rls_catalog.specs.Changed.{opening, changed_all}
use Rattle.rls_explain.specs.rls_meaning.specs.rls_guard.specs.rls_source.specs.Footprints.{footprint_of}
use Rattle.rls_statement.specs.declared.statement.Statement.{Statement}
use Rattle.rls_explain.specs.rls_meaning.specs.rls_guard.specs.{declared.context.Ctx.Ctx, declared.effect.Effect.Effect, Effects.changes_of}
use Rattle.rls_audit.specs.rls_access.specs.Transactions.{first_ctx, ctx_after}
use Rattle.rls_explain.specs.rls_meaning.specs.Meaning.{effect_of}
use Rattle.rls_history.specs.History.{History, before, rw as edge, concurrent}
use Rattle.rls_history.specs.Orders.{precedes, with_placed, none_placed, IsNext, StandInTurn, placed_by, IsOrder}
use Rattle.rls_audit.specs.rls_conflict.specs.Transactions as conflict
use Rattle.rls_audit.specs.rls_core.specs.Records.{Record, nobody, record_at, transaction_of, history_by, state_after}
use Rattle.rls_audit.specs.rls_core.specs.Alone.{effects_alone, state_alone, changes_made, Explains}
use Rattle.rls_audit.specs.Lines.{Line, Head, Txn, End, Shown, Answered, Written, written_by, ordered_changes, answered, shown, lines_from, audit_of}
use Rattle.rls_explain.specs.rls_meaning.specs.rls_guard.specs.Effects.{reply_of, decisions_of}
use Rattle.rls_audit.specs.Audits.{AreRecords, ChangesAreMade, numbers_at, AuditHolds}
use Rattle.rls_check.specs.declared.transaction.Answer.{Answer}
use Rattle.rls_check.specs.declared.transaction.Transaction.{Transaction}
use Rattle.rls_check.specs.declared.finding.Finding.{Finding}
use Rattle.rls_check.specs.declared.finding.Finding.TheVariants as f
use Rattle.rls_check.specs.declared.running.RanAlone.{RanAlone}
use Rattle.rls_check.specs.declared.running.RanAlone.TheVariants as alone
use Rattle.rls_check.specs.declared.running.RanAlong.{RanAlong}
use Rattle.rls_check.specs.declared.running.RanAlong.TheVariants as along
use Rattle.rls_check.specs.Audited.{written_of, answered_of, shown_of, lines_between, lines_of, transaction_at, asked_of}
use Rattle.rls_check.specs.Checking.{IsAnswer, FirstOther, ArePuts, IsRunAlone, RunsAlong, EndsAs, IsFoundAlong, IsPlaced, history_of, numbers_of, ctx_of, effects_in, state_behind}
use Rattle.rls_agreement.specs.Committing.{AgreeWhere, state_by, no_changes, wide_of_all}
use Rattle.rls_check.proofs.OrderLemmas.{among, placed_among, apart, in_range, began_at, own_among, one_order, next_began}
use Rattle.rls_check.proofs.RunningLemmas.{no_changes_many}
use Rattle.rls_check.proofs.HoldsLemmas.{effects_at, IsShown, effects_here, effects_later, deltas_along, delta_at, deltas_many, end_along, get_map, length_map, stands}

-- ---- what the lines show

-- what is shown of each is what its record shows
abbrev pub AreShown : ℕ → List Transaction → List Record → Type 0
AreShown commit [] [] = Unit {0}
AreShown commit (t ∷ ts) (r ∷ rs) = (shown_of commit t ≡ shown commit r) × AreShown (suc commit) ts rs
AreShown commit _ _ = ⊥

lines_part : (commit : ℕ) (ts : List Transaction) (rs : List Record) (n m : ℕ) (a b : List ℕ) → lines_between commit ts ++ End n a ∷ [] ≡ lines_from commit rs ++ End m b ∷ [] → AreShown commit ts rs × (a ≡ b)
lines_part commit [] [] n m a b h = (tt, cc)
lines_part commit [] (r ∷ rs) n m a b h = absurd (cc)
lines_part commit (t ∷ ts) [] n m a b h = absurd (cc)
lines_part commit (t ∷ ts) (r ∷ rs) n m a b h =
    let one : shown_of commit t ≡ shown commit r = cc in
    let rest = lines_part (suc commit) ts rs n m a b (cc) in
    ((one, rest.0), rest.1)

pub audit_parts : (ts : List Transaction) (rs : List Record) (numbers named : List ℕ) → lines_of ts numbers ≡ audit_of rs named → AreShown 1 ts rs × (numbers ≡ named)
audit_parts ts rs numbers named h = lines_part 1 ts rs (length ts) (length rs) numbers named (cc)

same_length : (commit : ℕ) (ts : List Transaction) (rs : List Record) → AreShown commit ts rs → length ts ≡ length rs
same_length commit [] [] h = refl
same_length commit [] (r ∷ rs) h = absurd h
same_length commit (t ∷ ts) [] h = absurd h
same_length commit (t ∷ ts) (r ∷ rs) h = let rest = same_length (suc commit) ts rs h.1 in omega (arith, rest)

-- the transaction shows the record
pub record Fits (t : Transaction) (r : Record) : Type 0 where
  pub txn : t.txn ≡ r.txn
  pub begin : t.begin ≡ r.begin
  pub snap : t.snap ≡ r.snap
  pub answers : map answered_of t.answers ≡ answered r.statements r.effects
  pub puts : map written_of t.puts ≡ map written_by (flat_map ordered_changes r.effects)

pub fits_one : (commit : ℕ) (t : Transaction) (r : Record) → shown_of commit t ≡ shown commit r → Fits t r
fits_one commit t r h = record {
  txn = ap (λ (s : Shown). s.txn) h;
  begin = ap (λ (s : Shown). s.begin) h;
  snap = ap (λ (s : Shown). s.snap) h;
  answers = ap (λ (s : Shown). s.statements) h;
  puts = ap (λ (s : Shown). s.changes) h;
}

fits_at : (commit : ℕ) (ts : List Transaction) (rs : List Record) (i : ℕ) → AreShown commit ts rs → i < length ts → Fits (transaction_at ts i) (record_at rs i)
fits_at commit [] rs i h l = absurd (omega (arith, l))
fits_at commit (t ∷ ts) [] i h l = absurd h
fits_at commit (t ∷ ts) (r ∷ rs) zero h l = fits_one commit t r h.0
fits_at commit (t ∷ ts) (r ∷ rs) (suc i) h l = fits_at (suc commit) ts rs i h.1 (omega (arith, l))

-- ---- one transaction

asked_again : (ctx : Ctx) (asked : List Statement) (s : State) → map (λ (a : Answered). a.statement) (answered asked (effects_alone ctx asked s)) ≡ asked
asked_again ctx [] s = refl
asked_again ctx (a ∷ asked) s = ap (λ (rest : List Statement). a ∷ rest) (asked_again (ctx_after ctx (effect_of s ctx a)) asked (changed_all s (changes_of (effect_of s ctx a))))

asked_shown : (answers : List Answer) → map (λ (a : Answered). a.statement) (map answered_of answers) ≡ asked_of answers
asked_shown [] = refl
asked_shown (a ∷ answers) = ap (λ (rest : List Statement). a.statement ∷ rest) (asked_shown answers)

-- what was recorded is what the transaction comes to, and so is shown
same_shown : (t : Transaction) (r : Record) (s : State) → Fits t r → effects_alone (first_ctx r.txn r.begin) r.statements s ≡ r.effects
    → IsShown t (effects_in t s) × (effects_in t s ≡ r.effects)
same_shown t r s h ran =
    let ctx : ctx_of t ≡ first_ctx r.txn r.begin = ap (λ (n : ℕ). first_ctx n t.begin) h.txn ∙ ap (first_ctx r.txn) h.begin in
    let asked : asked_of t.answers ≡ r.statements =
    sym (asked_shown t.answers) ∙ (ap (map (λ (a : Answered). a.statement)) (h.answers ∙ ap (answered r.statements) (sym ran)) ∙ asked_again (first_ctx r.txn r.begin) r.statements s) in
    let same : effects_in t s ≡ r.effects =
    ap (λ (c : Ctx). effects_alone c (asked_of t.answers) s) ctx ∙ (ap (λ (x : List Statement). effects_alone (first_ctx r.txn r.begin) x s) asked ∙ ran) in (
      record {
        answers = ap (λ (x : List Statement). answered x (effects_in t s)) asked ∙ (ap (answered r.statements) same ∙ sym h.answers);
        puts = h.puts ∙ ap (λ (e : List Effect). map written_by (flat_map ordered_changes e)) (sym same);
      },
      same,
    )

-- the state that it leaves is what the record's statements leave
behind_same : (t : Transaction) (r : Record) (s : State) → Fits t r → effects_alone (first_ctx r.txn r.begin) r.statements s ≡ r.effects → state_alone (first_ctx r.txn r.begin) r.statements s ≡ state_behind t s
behind_same t r s h ran =
    let ctx : ctx_of t ≡ first_ctx r.txn r.begin = ap (λ (n : ℕ). first_ctx n t.begin) h.txn ∙ ap (first_ctx r.txn) h.begin in
    let asked : asked_of t.answers ≡ r.statements =
    sym (asked_shown t.answers) ∙ (ap (map (λ (a : Answered). a.statement)) (h.answers ∙ ap (answered r.statements) (sym ran)) ∙ asked_again (first_ctx r.txn r.begin) r.statements s) in
    sym (ap (λ (c : Ctx). state_alone c (asked_of t.answers) s) ctx ∙ ap (λ (x : List Statement). state_alone (first_ctx r.txn r.begin) x s) asked)

none_other : (n : ℕ) (ctx : Ctx) (s : State) (answers : List Answer) (found : Option ℕ) → answered (asked_of answers) (effects_alone ctx (asked_of answers) s) ≡ map answered_of answers → FirstOther n ctx s answers found → found ≡ None
none_other n ctx s [] found h first = first
none_other n ctx s (a ∷ more) found h first =
    let effect = effect_of s ctx a.statement in
    let rest : List Answered = answered (asked_of more) (effects_alone (ctx_after ctx effect) (asked_of more) (changed_all s (changes_of effect))) in
    let one : Answered = record { statement = a.statement; reply = reply_of effect; decisions = decisions_of effect } in
    let whole : one ∷ rest ≡ answered_of a ∷ map answered_of more = h in
    let heads : one ≡ answered_of a = cc in
    let tails : rest ≡ map answered_of more = cc in
    elim first [
      | inl on ↦ none_other (n + 1) (ctx_after ctx effect) (changed_all s (changes_of effect)) more found tails on.1
      | inr off ↦ absurd (off.0 (record { reply = sym (ap (λ (x : Answered). x.reply) heads); decisions = sym (ap (λ (x : Answered). x.decisions) heads) }))
    ]

-- it differs nowhere
never_differs : (t : Transaction) (s : State) (found : Finding) → IsShown t (effects_in t s) → IsRunAlone s t (alone.Differs found) → ⊥
never_differs t s found h ran =
    elim ran [
      | inl reply ↦ (let none : Some reply.0 ≡ None = none_other 1 (ctx_of t) s t.answers (Some reply.0) h.answers reply.1 in cc)
      | inr changes ↦ changes.1 h.puts
    ]

-- ---- all, in the order

run_agrees : (ts : List Transaction) (rs : List Record) (s : State) (deltas : List (List Change)) (ps : List ℕ) (ran : RanAlong) (left : List (List Change))
    → ((i : ℕ) → among ps i ≡ true → Fits (transaction_at ts i) (record_at rs i)) → Explains rs ps s → RunsAlong ts s deltas ps ran left → (ran ≡ along.Agrees (end_along ts s ps)) × (left ≡ deltas_along ts s deltas ps)
run_agrees ts rs s deltas [] ran left fits ex runs = runs
run_agrees ts rs s deltas (p ∷ ps) ran left fits ex runs =
    let t = transaction_at ts p in
    let r = record_at rs p in
    let both = same_shown t r s (fits p (own_among p ps)) ex.0 in
    let fitting = fits p (own_among p ps) in
    elim runs [
      | inl on ↦
          (let one = on.2 in
          let moved : RunsAlong ts (state_behind t s) (set deltas p (changes_made (effects_in t s))) ps ran left =
          subst (λ (c : List Change). RunsAlong ts (state_behind t s) (set deltas p c) ps ran left) one.3 (subst (λ (x : State). RunsAlong ts x (set deltas p on.1) ps ran left) one.2 on.3) in
          run_agrees ts rs (state_behind t s) (set deltas p (changes_made (effects_in t s))) ps ran left
          (λ i later. fits i (or_right (i == p) (among ps i) later))
          (subst (λ (x : State). Explains rs ps x) (behind_same t r s fitting ex.0) ex.1) moved)
      | inr off ↦ absurd (never_differs t s off.0 both.0 off.1)
    ]

-- what was recorded of each is what it comes to along the order
effects_same : (h : History) (placed : ℕ → Bool) (ts : List Transaction) (rs : List Record) (s : State) (ps : List ℕ) (i : ℕ)
    → StandInTurn h placed ps → ((j : ℕ) → among ps j ≡ true → Fits (transaction_at ts j) (record_at rs j)) → Explains rs ps s → among ps i ≡ true → effects_at ts s ps i ≡ (record_at rs i).effects
effects_same h placed ts rs s [] i turns fits ex is = absurd (true≢false (sym is))
effects_same h placed ts rs s (p ∷ ps) i turns fits ex is =
    let t = transaction_at ts p in
    let r = record_at rs p in
    let both = same_shown t r s (fits p (own_among p ps)) ex.0 in
    elim (or_cases (i == p) (among ps i) is) [
      | inl here ↦ subst (λ (x : ℕ). effects_at ts s (p ∷ ps) x ≡ (record_at rs x).effects) (sym (eqb-true i p here)) (effects_here ts s p ps ∙ both.1)
      | inr later ↦ effects_later ts s p ps i (apart h placed p ps i turns later)
          ∙ effects_same h (with_placed placed p) ts rs (state_behind t s) ps i turns.1 (λ j more. fits j (or_right (j == p) (among ps j) more))
          (subst (λ (x : State). Explains rs ps x) (behind_same t r s (fits p (own_among p ps)) ex.0) ex.1) later
    ]

-- ---- the end

state_recorded : (rs : List Record) (left : List (List Change)) (n count : ℕ) → n ≤ count → ((i : ℕ) → i < count → get_or left i [] ≡ (record_at rs i).changes) → state_by left n ≡ state_after rs n
state_recorded rs left zero count l h = refl
state_recorded rs left (suc n) count l h =
    ap (λ (s : State). changed_all s (get_or left n [])) (state_recorded rs left n count (omega (arith, l)) h) ∙ ap (λ (c : List Change). changed_all (state_after rs n) c) (h n (omega (arith, l)))

agrees_on_all : (s t : State) (objects : List Object) → ((object : Object) → AgreesAt s t object) → AgreesOn s t objects
agrees_on_all s t [] h = tt
agrees_on_all s t (object ∷ objects) h = (h object, agrees_on_all s t objects h)

ends_so : (rs : List Record) (ts : List Transaction) (s : State) (ps : List ℕ) → ((i : ℕ) → among ps i ≡ true → Fits (transaction_at ts i) (record_at rs i)) → Explains rs ps s
    → (object : Object) → AgreesAt (end_along ts s ps) (state_after rs (length rs)) object
ends_so rs ts s [] fits ex = ex
ends_so rs ts s (p ∷ ps) fits ex =
    let t = transaction_at ts p in
    ends_so rs ts (state_behind t s) ps (λ i later. fits i (or_right (i == p) (among ps i) later)) (subst (λ (x : State). Explains rs ps x) (behind_same t (record_at rs p) s (fits p (own_among p ps)) ex.0) ex.1)

found_at_end : (s : State) (left : List (List Change)) (found : Finding) → AgreeWhere left s (state_by left (length left)) → EndsAs (along.Agrees s) left found → found ≡ f.Holds
found_at_end s left found agree ends = elim ends [ inl on ↦ on.1 | inr off ↦ absurd (off.0 agree) ]

-- ---- the order of the records is one of the transactions

known_at : (rs : List Record) (i : ℕ) → conflict.at (map transaction_of rs) i ≡ transaction_of (record_at rs i)
known_at rs i = get_map transaction_of rs i nobody

precedes_more : (ts : List Transaction) (rs : List Record) (i t : ℕ) → Fits (transaction_at ts t) (record_at rs t) → precedes (history_of ts) i t ≡ true → precedes (history_by rs) i t ≡ true
precedes_more ts rs i t h is =
    let k = history_of ts in
    let same : (transaction_at ts t).snap ≡ (history_by rs).snap t = h.snap ∙ sym (ap (λ (one : conflict.Transaction). one.snap) (known_at rs t)) in
    elim (or_cases (before k i t) (edge k i t) is) [
      | inl earlier ↦ or_left (before (history_by rs) i t) (edge (history_by rs) i t) (sym (ap (λ (n : ℕ). ltb i n) same) ∙ earlier)
      | inr read' ↦ absurd (true≢false (sym (never (concurrent k i t) read')))
    ]
  where
    never : (a : Bool) → (a && false) ≡ true → false ≡ true
    never true h = h
    never false h = h

turns_more : (ts : List Transaction) (rs : List Record) (placed : ℕ → Bool) (ps : List ℕ) → length ts ≡ length rs → ((i : ℕ) → i < length ts → Fits (transaction_at ts i) (record_at rs i))
    → StandInTurn (history_by rs) placed ps → StandInTurn (history_of ts) placed ps
turns_more ts rs placed [] many fits turns = tt
turns_more ts rs placed (p ∷ ps) many fits turns =
    let count : (history_by rs).count ≡ length ts = length_map transaction_of rs ∙ sym many in
    let within : p < length ts = subst (λ (n : ℕ). p < n) count turns.0.within in (
      record {
        within = within;
        is_left = turns.0.is_left;
        all_before = λ i l is. turns.0.all_before i (subst (λ (n : ℕ). i < n) (sym count) l) (precedes_more ts rs i p (fits p within) is);
      },
      turns_more ts rs (with_placed placed p) ps many fits turns.1,
    )

named_so : (ts : List Transaction) (rs : List Record) (ps : List ℕ) → ((i : ℕ) → among ps i ≡ true → Fits (transaction_at ts i) (record_at rs i)) → numbers_of ts ps ≡ numbers_at rs ps
named_so ts rs [] fits = refl
named_so ts rs (p ∷ ps) fits =
    ap (λ (n : ℕ). n ∷ numbers_of ts ps) (fits p (own_among p ps)).txn ∙ ap (λ (ns : List ℕ). (record_at rs p).txn ∷ ns) (named_so ts rs ps (λ i later. fits i (or_right (i == p) (among ps i) later)))

all_within : (n : ℕ) (ps : List ℕ) → ((i : ℕ) → among ps i ≡ true → i < n) → All (λ (p : ℕ). p < n) ps
all_within n [] h = All-nil (λ (p : ℕ). p < n)
all_within n (p ∷ ps) h = All-cons (λ (p : ℕ). p < n) p ps (h p (own_among p ps)) (all_within n ps (λ i later. h i (or_right (i == p) (among ps i) later)))

-- ---- where an audit holds, its order is one, and nothing else is found along it

module _ (ts : List Transaction) (numbers : List ℕ) (holds : AuditHolds (lines_of ts numbers)) where
  abbrev rs : List Record
  rs = holds.records

  parts : AreShown 1 ts rs × (numbers ≡ numbers_at rs holds.places)
  parts = audit_parts ts rs numbers (numbers_at rs holds.places) holds.lines_show

  many : length ts ≡ length rs
  many = same_length 1 ts rs parts.0

  fits : (i : ℕ) → i < length ts → Fits (transaction_at ts i) (record_at rs i)
  fits i l = fits_at 1 ts rs i parts.0 l

  turns : StandInTurn (history_of ts) none_placed holds.places
  turns = turns_more ts rs none_placed holds.places many fits holds.in_order.in_turn

  in_it : (i : ℕ) → among holds.places i ≡ true → i < length ts
  in_it i is = in_range (history_of ts) none_placed holds.places i turns is

  pub placed_so : IsPlaced ts numbers holds.places
  placed_so = record {
    named = parts.1 ∙ sym (named_so ts rs holds.places (λ i is. fits i (in_it i is)));
    within = all_within (length ts) holds.places in_it;
    in_order = record {
      in_turn = turns;
      all = λ i l. holds.in_order.all i (subst (λ (n : ℕ). i < n) (many ∙ sym (length_map transaction_of rs)) l);
    };
    differ = λ i j l m same.
        holds.are_records.differ i j (subst (λ (n : ℕ). i < n) many l) (subst (λ (n : ℕ). j < n) many m) (sym (fits i l).txn ∙ (same ∙ (fits j m).txn));
  }

  made : (i : ℕ) → among holds.places i ≡ true → (record_at rs i).changes ≡ changes_made (record_at rs i).effects
  made i is = holds.changes i (subst (λ (n : ℕ). i < n) many (in_it i is))

  pub found_so : (found : Finding) → IsFoundAlong ts holds.places found → found ≡ f.Holds
  found_so found along' =
      let ps = holds.places in
      let left = along'.1 in
      let ran = run_agrees ts rs opening (no_changes (length ts)) ps along'.0 left (λ i is. fits i (in_it i is)) holds.explains along'.2 in
      let sized : length left ≡ length ts = ap (λ (deltas : List (List Change)). length deltas) ran.1 ∙ (deltas_many ts opening (no_changes (length ts)) ps ∙ no_changes_many (length ts)) in
      let here : (i : ℕ) → i < length ts → get_or left i [] ≡ (record_at rs i).changes =
      (λ i l. (let is = stands ts ps placed_so.in_order i l in
      ap (λ (deltas : List (List Change)). get_or deltas i []) ran.1
      ∙ (delta_at (history_of ts) none_placed ts opening (no_changes (length ts)) ps i (sym (no_changes_many (length ts))) turns is
      ∙ (ap changes_made (effects_same (history_of ts) none_placed ts rs opening ps i turns (λ j more. fits j (in_it j more)) holds.explains is) ∙ sym (made i is))))) in
      let same_end : state_by left (length left) ≡ state_after rs (length rs) =
      ap (state_by left) sized ∙ (state_recorded rs left (length ts) (length ts) (omega arith) here ∙ ap (state_after rs) many) in
      let everywhere : (object : Object) → AgreesAt (end_along ts opening ps) (state_by left (length left)) object =
      (λ object. subst (λ (x : State). AgreesAt (end_along ts opening ps) x object) (sym same_end) (ends_so rs ts opening ps (λ i is. fits i (in_it i is)) holds.explains object)) in
      found_at_end (end_along ts opening ps) left found (agrees_on_all (end_along ts opening ps) (state_by left (length left)) (footprint_of (wide_of_all left)) everywhere)
      (subst (λ (r : RanAlong). EndsAs r left found) ran.0 along'.3)

pub same_order : (ts : List Transaction) (numbers ps qs : List ℕ) → IsPlaced ts numbers ps → IsPlaced ts numbers qs → ps ≡ qs
same_order ts numbers ps qs a b =
    one_order ts ps qs a.differ (λ i is. in_range (history_of ts) none_placed ps i a.in_order.in_turn is) (λ i is. in_range (history_of ts) none_placed qs i b.in_order.in_turn is) (sym a.named ∙ b.named)

-- where the audit holds nothing else is found
pub holds_found : (ts : List Transaction) (numbers places : List ℕ) (found : Finding) → IsPlaced ts numbers places → IsFoundAlong ts places found → AuditHolds (lines_of ts numbers) → found ≡ f.Holds
holds_found ts numbers places found placed along' holds =
    found_so ts numbers holds found (subst (λ (ps : List ℕ). IsFoundAlong ts ps found) (same_order ts numbers places holds.places placed (placed_so ts numbers holds)) along')
