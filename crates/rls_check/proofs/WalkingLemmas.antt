-- One statement more of a walk.
use Rattle.std.specs.Prelude.{◌≡◌, refl, ◌↔◌, ◌+◌, ◌<◌, ◌≤◌, ℕ, zero, suc, true, List, [], ◌∷◌, ◌++◌, length, drop, get_or, Option, Some, None, Result, IfOk, IfSome}
use Rattle.std.specs.declared.alloc.AllocError.{AllocError}
use Rattle.std.proofs.Common.{ap, sym, ◌∙◌, subst, arith}
use Rattle.std.proofs.lemmas.List.{drop_more, drop_all}
use Rattle.rls_catalog.specs.State.{State}
use Rattle.rls_catalog.specs.Changed.{opening, changed_all}
use Rattle.rls_explain.specs.rls_meaning.specs.rls_guard.specs.{declared.context.Ctx.Ctx, declared.effect.Effect.Effect, Effects.changes_of}
use Rattle.rls_audit.specs.rls_access.specs.Statements.{role_after}
use Rattle.rls_audit.specs.rls_access.specs.Transactions.{ctx_after}
use Rattle.rls_explain.specs.rls_meaning.specs.Meaning.{effect_of}
use Rattle.rls_audit.specs.rls_core.specs.Alone.{state_alone}
use Rattle.rls_audit.specs.rls_core.specs.Theory.{read_by}
use Rattle.rls_check.specs.declared.transaction.Answer.{Answer}
use Rattle.rls_check.specs.declared.transaction.Transaction.{Transaction}
use Rattle.rls_check.specs.declared.walking.Running.{Running}
use Rattle.rls_check.specs.declared.walking.Turn.{Turn}
use Rattle.rls_check.specs.declared.walking.Walk.{Walk}
use Rattle.rls_check.specs.Audited.{nobody, transaction_at, asked_of}
use Rattle.rls_check.specs.Checking.{ctx_of, state_behind, IsAnswer, IsPlaced, IsNoOrder}
use Rattle.rls_check.specs.Walking.{Standing, standing_of, standings_alone, standings_along, IsTurn, IsNext, left, left_alone, state_to_come, state_left, IsWalk}

-- ---- the transaction that runs

-- what is left of it, by its parts
abbrev left_by : ℕ → ℕ → Ctx → State → List Answer → List Standing
left_by place given ctx s rest = standings_alone place (given + 1) ctx s rest

-- its next statement, by what is told of it
module _ (before after : Running) (turn : Turn) (it : Answer) (within : before.given < length before.answers) (here : it ≡ get_or before.answers before.given it) (answers : after.answers ≡ before.answers) (given : after.given ≡ before.given + 1)
    (ctx : after.ctx ≡ ctx_after before.ctx turn.outcome.effect) (state : after.state ≡ changed_all before.state (changes_of turn.outcome.effect))
    (effect : turn.outcome.effect ≡ effect_of before.state before.ctx it.statement) where
  rest_of : drop before.given before.answers ≡ it ∷ drop (before.given + 1) before.answers
  rest_of = drop_more before.answers before.given it within ∙ ap (λ (one : Answer). one ∷ drop (before.given + 1) before.answers) (sym here)

  ctx_then : after.ctx ≡ ctx_after before.ctx (effect_of before.state before.ctx it.statement)
  ctx_then = ctx ∙ ap (ctx_after before.ctx) effect

  state_then : after.state ≡ changed_all before.state (changes_of (effect_of before.state before.ctx it.statement))
  state_then = state ∙ ap (λ (one : Effect). changed_all before.state (changes_of one)) effect

  pub next_alone : after.place ≡ before.place → turn.place ≡ before.place → turn.number ≡ before.given + 1 → turn.before ≡ before.state → turn.ctx ≡ before.ctx
      → turn.statement ≡ it.statement → turn.outcome.footprint ≡ read_by before.ctx it.statement before.state
      → turn.outcome.role ≡ role_after before.ctx.role turn.outcome.effect → (turn.agrees ≡ true) ↔ IsAnswer it turn.outcome.effect
      → IsNext (left_alone before) turn (left_alone after)
  next_alone place turn_place number turn_before turn_ctx statement reads role agrees =
      let tells : IsTurn (standing_of before.place (before.given + 1) before.ctx before.state it) turn = record {
        place = turn_place;
        number = number;
        before = turn_before;
        ctx = turn_ctx;
        statement = statement;
        effect = effect;
        reads = reads;
        role = role ∙ ap (role_after before.ctx.role) effect;
        agrees = subst (λ (one : Effect). (turn.agrees ≡ true) ↔ IsAnswer it one) effect agrees;
      } in
      subst (λ (xs : List Answer). IsNext (left_by before.place before.given before.ctx before.state xs) turn (left_alone after)) (sym rest_of)
      (tells, (λ i. left_by (place i) (given i) (ctx_then i) (state_then i) (drop (given i) (answers i))))

  -- the state that it will leave stays
  pub same_to_come : state_to_come after ≡ state_to_come before
  same_to_come =
      (λ i. state_alone (ctx_then i) (asked_of (drop (given i) (answers i))) (state_then i)) ∙ sym (ap (λ (xs : List Answer). state_alone before.ctx (asked_of xs) before.state) rest_of)

-- ---- all

next_of_both : (xs ys more : List Standing) (turn : Turn) → IsNext xs turn ys → IsNext (xs ++ more) turn (ys ++ more)
next_of_both [] ys more turn next = elim next [ ]
next_of_both (x ∷ xs) ys more turn next = (next.0, ap (λ (zs : List Standing). zs ++ more) next.1)

-- the next statement of the transaction that runs is the next of all
pub given_next : (before after : Walk) (turn : Turn) → after.transactions.now ≡ before.transactions.now → after.places ≡ before.places → after.begun ≡ before.begun
    → IsNext (left_alone before.running) turn (left_alone after.running) → state_to_come after.running ≡ state_to_come before.running → IsNext (left before) turn (left after)
given_next before after turn transactions places begun next to_come =
    subst (λ (more : List Standing). IsNext (left before) turn (left_alone after.running ++ more))
    (λ i. standings_along (sym transactions i) (sym to_come i) (drop (sym begun i) (sym places i).items))
    (next_of_both (left_alone before.running) (left_alone after.running) (standings_along before.transactions.now (state_to_come before.running) (drop before.begun before.places.items)) turn next)

-- where the transaction is at its end, those behind it are left
ended : (walk : Walk) → length walk.running.answers ≤ walk.running.given → left walk ≡ standings_along walk.transactions.now walk.running.state (drop walk.begun walk.places.items)
ended walk end =
    ap (λ (rest : List Answer). left_by walk.running.place walk.running.given walk.running.ctx walk.running.state rest ++ standings_along walk.transactions.now (state_alone walk.running.ctx (asked_of rest) walk.running.state) (drop walk.begun walk.places.items))
    (drop_all walk.running.given walk.running.answers end)

pub nothing_left : (walk : Walk) → length walk.running.answers ≤ walk.running.given → length walk.places.items ≤ walk.begun → left walk ≡ []
nothing_left walk end all = ended walk end ∙ ap (λ (places : List ℕ). standings_along walk.transactions.now walk.running.state places) (drop_all walk.begun walk.places.items all)

-- what is left where the next transaction is at this place
opened : (walk : Walk) (place : ℕ) → length walk.running.answers ≤ walk.running.given → walk.begun < length walk.places.items → place ≡ get_or walk.places.items walk.begun 0
    → left walk ≡ standings_along walk.transactions.now walk.running.state (place ∷ drop (walk.begun + 1) walk.places.items)
opened walk place end within is =
    ended walk end ∙ ap (λ (places : List ℕ). standings_along walk.transactions.now walk.running.state places)
    (drop_more walk.places.items walk.begun 0 within ∙ ap (λ (x : ℕ). x ∷ drop (walk.begun + 1) walk.places.items) (sym is))

-- the next transaction begins
pub begun_next : (before after : Walk) (place : ℕ) (it : Transaction) → length before.running.answers ≤ before.running.given → before.begun < length before.places.items → place ≡ get_or before.places.items before.begun 0
    → it ≡ transaction_at before.transactions.now place → after.transactions.now ≡ before.transactions.now → after.places ≡ before.places → after.begun ≡ before.begun + 1
    → after.running.place ≡ place → after.running.answers ≡ it.answers → after.running.given ≡ 0 → after.running.ctx ≡ ctx_of it → after.running.state ≡ before.running.state
    → left after ≡ left before
begun_next before after place it end within is it_is transactions places begun here answers given ctx state =
    let begins : left after ≡ standings_alone place 1 (ctx_of it) before.running.state it.answers ++ standings_along before.transactions.now (state_behind it before.running.state) (drop (before.begun + 1) before.places.items) =
    (λ i. left_by (here i) (given i) (ctx i) (state i) (drop (given i) (answers i)) ++ standings_along (transactions i) (state_alone (ctx i) (asked_of (drop (given i) (answers i))) (state i)) (drop (begun i) (places i).items)) in
    begins ∙ ap (λ (x : Transaction). standings_alone place 1 (ctx_of x) before.running.state x.answers ++ standings_along before.transactions.now (state_behind x before.running.state) (drop (before.begun + 1) before.places.items)) it_is
    ∙ sym (opened before place end within is)

none_there : (ts : List Transaction) (place : ℕ) → length ts ≤ place → transaction_at ts place ≡ nobody
none_there [] place l = refl
none_there (t ∷ ts) zero l = absurd (omega (arith, l))
none_there (t ∷ ts) (suc place) l = none_there ts place (omega (arith, l))

-- none is there: it has no statement
pub begun_nobody : (before after : Walk) (place : ℕ) → length before.running.answers ≤ before.running.given → before.begun < length before.places.items → place ≡ get_or before.places.items before.begun 0
    → length before.transactions.now ≤ place → after.transactions.now ≡ before.transactions.now → after.places ≡ before.places → after.begun ≡ before.begun + 1
    → after.running ≡ before.running → left after ≡ left before
begun_nobody before after place end within is over transactions places begun running =
    let ends : length after.running.answers ≤ after.running.given = subst (λ (x : Running). length x.answers ≤ x.given) (sym running) end in
    ended after ends ∙ (λ i. standings_along (transactions i) (running i).state (drop (begun i) (places i).items))
    ∙ ap (λ (x : Transaction). standings_alone place 1 (ctx_of x) before.running.state x.answers ++ standings_along before.transactions.now (state_behind x before.running.state) (drop (before.begun + 1) before.places.items)) (sym (none_there before.transactions.now place over))
    ∙ sym (opened before place end within is)

-- ---- the beginning

pub walk_begun : (ts : List Transaction) (places : List ℕ) (walk : Walk) → walk.places.items ≡ places → walk.transactions.now ≡ ts → walk.begun ≡ 0 → walk.running.answers ≡ [] → walk.running.state ≡ opening
    → left walk ≡ standings_along ts opening places
walk_begun ts places walk along transactions begun answers state =
    ended walk (subst (λ (xs : List Answer). length xs ≤ walk.running.given) (sym answers) (omega arith)) ∙ (λ i. standings_along (transactions i) (state i) (drop (begun i) (along i)))

pub walk_found : (ts : List Transaction) (numbers places : List ℕ) (walk : Walk) → IsPlaced ts numbers places → left walk ≡ standings_along ts opening places → state_left walk ≡ opening → IsWalk ts numbers (Some walk)
walk_found ts numbers places walk placed along state = (places, placed, along, state)

-- a next one stays so
pub next_of_same : (r : Result (Option Turn) AllocError) (xs ys more : List Standing) → xs ≡ ys → IfOk r (λ found. IfSome found (λ turn. IsNext xs turn more)) → IfOk r (λ found. IfSome found (λ turn. IsNext ys turn more))
next_of_same r xs ys more same next = subst (λ (all : List Standing). IfOk r (λ found. IfSome found (λ turn. IsNext all turn more))) same next

pub no_walk : (ts : List Transaction) (numbers : List ℕ) → IsNoOrder ts numbers → IsWalk ts numbers None
no_walk ts numbers none = none
