-- Laws of commands: the first word tells what begins or ends a block from a statement, so that a text spells one command
-- at most.
use Rattle.std.specs.Prelude.{◌≡◌, ◌≤◌, Bool, true, false, List, [], ◌∷◌, ◌++◌, ◌⊎◌, Option, Some, None, Result, Ok, Err, IfOk, refl}
use Rattle.std.proofs.Common.{sym, ◌∙◌, ap, subst, inl, inr}
use Rattle.rls_text.specs.{declared.token.Token.Token, Trees.TreeWithDepth, Heights.height_of, Nested.subqueries_of, Writes.some_is, Parses.found, Parses.unseen, Heads.sees, FirstSets.body_heads, Gives.finished, Gives.whole_of, Gives.answered, Gives.unless_over, ParseResults.IsParseResult, ParseResults.IsSpelled, ParseResults.first_limit, ParseResults.limited, Transactions.transaction, Transactions.transaction_heads}
use Rattle.rls_text.specs.Commands.{SpellsCommand, IsCommandWritten, IfRun, runs, runs_none, run_is_spelled, run, limited_command, AnswersCommand, IsCommandSpelled, whole_transaction, answered_command, command_by, command_of}
use Rattle.rls_text.specs.Grammar as g
use Rattle.rls_text.proofs.Laws.{whole_found, whole_spelled, limits_kept, append_end, kept, spelled_low, spelled_few, one_statement}
use Rattle.rls_text.proofs.Printed.{statement_spelled}
use Rattle.rls_statement.specs.{declared.command.Command.Command, declared.statement.Statement.Statement}
use Rattle.rls_statement.specs.declared.command.Command.TheVariants as c
use Rattle.rls_value.specs.{declared.refusal.Limit.Limit, declared.refusal.Refusal.Refusal}
use Rattle.rls_value.specs.declared.refusal.Refusal.TheVariants as refusal

not_empty : {A : Type 0} (ts : List A) (b : Bool) → ((ts ≡ []) × (false ≡ true)) ⊎ (b ≡ true) → b ≡ true
not_empty ts b h = elim h [ inl x ↦ cc | inr x ↦ x ]

-- What begins or ends a block has one of its words in front,
pub transaction_begins : (ts : List Token) (x : Command) → transaction.spells ts x → sees transaction_heads ts ≡ true
transaction_begins ts x h = not_empty ts (sees transaction_heads ts) (transaction.parses.starts ts x h)

-- and no statement has.
pub statement_begins : (ts : List Token) (x : Statement) → g.Spells ts x → sees transaction_heads ts ≡ false
statement_begins ts x h = unseen body_heads transaction_heads ts refl (not_empty ts (sees body_heads ts) ((g.statement h.depth).rule.parses.starts ts x h.spelled))

no_limit : (x : Command) → runs x ≡ false → limited_command x ≡ Ok x
no_limit (c.Begin mode) h = refl
no_limit c.Commit h = refl
no_limit c.Rollback h = refl
no_limit (c.Run x) h = cc

-- ---- what begins or ends a block is read to the end

whole_read : (ts : List Token) (x : Command) → transaction.spells ts x → whole_transaction ts ≡ Some x
unfolding whole_transaction
whole_read ts x h = ap finished (ap transaction.parses.read (sym (append_end ts)) ∙ transaction.parses.complete ts [] x h refl)

whole_sound : (ts : List Token) (x : Command) → whole_transaction ts ≡ Some x → transaction.spells ts x
unfolding whole_transaction
whole_sound ts x h = go (transaction.parses.read ts) refl h
  where
    go : (o : Option (Command × List Token)) → transaction.parses.read ts ≡ o → finished o ≡ Some x → transaction.spells ts x
    go None e h = cc
    go (Some (y, [])) e h =
        let f = transaction.parses.sound ts [] y e in
        subst (λ z. transaction.spells ts z) (some_is y x h) (subst (λ z. transaction.spells z y) (sym (f.split ∙ append_end f.front)) f.spelled)
    go (Some (y, t ∷ rest)) e h = cc

-- ---- what is found is the answer

by_spelled : (ts : List Token) (x : Command) → SpellsCommand ts x → command_by (sees transaction_heads ts) ts ≡ limited_command x
by_spelled ts x h = elim h [
  | inl y ↦ rw (transaction_begins ts x y) (ap answered_command (whole_read ts x y) ∙ sym (no_limit x (runs_none ts x y)))
  | inr y ↦ rw (statement_begins ts y.source y.spelled) (ap (λ z. run (answered z)) (whole_spelled ts y.source y.spelled) ∙ ap run (limits_kept y.source) ∙ ap limited_command (sym y.value))
]

by_unspelled : (ts : List Token) → ((x : Command) → SpellsCommand ts x → ⊥) → (b : Bool) → command_by b ts ≡ Err refusal.Syntax
by_unspelled ts none true = ap answered_command (go (whole_transaction ts) refl)
  where
    go : (o : Option Command) → whole_transaction ts ≡ o → o ≡ None
    go None e = refl
    go (Some x) e = absurd (none x (inl (whole_sound ts x e)))
by_unspelled ts none false = ap (λ z. run (answered z)) (go (whole_of ts) refl)
  where
    go : (o : Option TreeWithDepth) → whole_of ts ≡ o → o ≡ None
    go None e = refl
    go (Some tree_with_depth) e = let f = whole_found ts tree_with_depth e in absurd (none (c.Run f.source) (inr record { source = f.source; spelled = f.spelled; value = refl }))

-- What is found is the answer.
pub is_command_answer : (ts : List Token) → AnswersCommand ts (command_of ts)
is_command_answer ts = record {
  over = λ limit h. ap (λ z. unless_over z (command_by (sees transaction_heads ts) ts)) h;
  spelled = λ x h s. ap (λ z. unless_over z (command_by (sees transaction_heads ts) ts)) h ∙ by_spelled ts x s;
  unspelled = λ h none. ap (λ z. unless_over z (command_by (sees transaction_heads ts) ts)) h ∙ by_unspelled ts none (sees transaction_heads ts);
}

-- ---- a command that is the answer is spelled

run_kept : (r : Result Statement Refusal) (x : Command) → run r ≡ Ok x → (y : Statement) × (r ≡ Ok y) × (x ≡ c.Run y)
run_kept (Ok y) x h = (y, refl, cc)
run_kept (Err e) x h = absurd (cc)

by_found : (ts : List Token) (b : Bool) (x : Command) → first_limit ts ≡ None → command_by b ts ≡ Ok x → IsCommandSpelled ts x
by_found ts true x words h = go (whole_transaction ts) refl h
  where
    go : (o : Option Command) → whole_transaction ts ≡ o → answered_command o ≡ Ok x → IsCommandSpelled ts x
    go None e h = absurd (cc)
    go (Some y) e h =
        let same : y ≡ x = cc in
        let s = subst (λ z. transaction.spells ts z) same (whole_sound ts y e) in
        record { spelled = inl s; words = words; within = no_limit x (runs_none ts x s) }
by_found ts false x words h = go (whole_of ts) refl h
  where
    go : (o : Option TreeWithDepth) → whole_of ts ≡ o → run (answered o) ≡ Ok x → IsCommandSpelled ts x
    go None e h = absurd (cc)
    go (Some tree_with_depth) e h =
        let f = whole_found ts tree_with_depth e in
        let r = run_kept (answered (Some tree_with_depth)) x h in
        let l : limited f.source ≡ Ok r.0 = sym (limits_kept f.source) ∙ ap (λ z. answered (Some z)) (sym f.kept) ∙ r.1 in
        let s = kept f.source r.0 l in
        let spelled : g.Spells ts r.0 = subst (λ z. g.Spells ts z) s f.spelled in
        let within : limited r.0 ≡ Ok r.0 = subst (λ z. limited z ≡ Ok r.0) s l in
        record { spelled = inr record { source = r.0; spelled = spelled; value = r.2 }; words = words; within = subst (λ z. limited_command z ≡ Ok z) (sym r.2) (ap run within) }

-- A command that is the answer is spelled.
pub answer_is_spelled : (ts : List Token) (x : Command) → command_of ts ≡ Ok x → IsCommandSpelled ts x
answer_is_spelled ts x h = go (first_limit ts) refl h
  where
    go : (o : Option Limit) → first_limit ts ≡ o → unless_over o (command_by (sees transaction_heads ts) ts) ≡ Ok x → IsCommandSpelled ts x
    go (Some limit) e h = absurd (cc)
    go None e h = by_found ts (sees transaction_heads ts) x e h

pub ok_is_spelled : (r : Result Command Refusal) (ts : List Token) → (¬ (r ≡ Err refusal.NoMemory) → r ≡ command_of ts) → IfOk r (λ x. IsCommandSpelled ts x)
ok_is_spelled (Ok x) ts h = answer_is_spelled ts x (sym (h (λ e. absurd (cc))))
ok_is_spelled (Err e) ts h = tt

-- ---- the statement that it runs is spelled, within the limits

run_within : (x : Statement) → limited_command (c.Run x) ≡ Ok (c.Run x) → limited x ≡ Ok x
run_within x h = go (limited x) h
  where
    go : (r : Result Statement Refusal) → run r ≡ Ok (c.Run x) → r ≡ Ok x
    go (Ok y) h = ap Ok (let e : y ≡ x = cc in e)
    go (Err e) h = absurd (cc)

-- A statement that is run is spelled as one.
pub run_spelled : (ts : List Token) (x : Statement) → IsCommandSpelled ts (c.Run x) → IsSpelled ts x
run_spelled ts x h = record { spelled = run_is_spelled ts x h.spelled; words = h.words; within = run_within x h.within }

pub command_low : (r : Result Command Refusal) (ts : List Token) → IfOk r (λ x. IsCommandSpelled ts x) → IfOk r (λ x. IfRun x (λ y. height_of y ≤ 64))
command_low (Ok (c.Run x)) ts h = spelled_low ts x (run_spelled ts x h)
command_low (Ok (c.Begin mode)) ts h = tt
command_low (Ok c.Commit) ts h = tt
command_low (Ok c.Rollback) ts h = tt
command_low (Err e) ts h = tt

pub command_few : (r : Result Command Refusal) (ts : List Token) → IfOk r (λ x. IsCommandSpelled ts x) → IfOk r (λ x. IfRun x (λ y. subqueries_of y ≤ 8))
command_few (Ok (c.Run x)) ts h = spelled_few ts x (run_spelled ts x h)
command_few (Ok (c.Begin mode)) ts h = tt
command_few (Ok c.Commit) ts h = tt
command_few (Ok c.Rollback) ts h = tt
command_few (Err e) ts h = tt

-- The tokens spell one command at most.
pub one_command : (ts : List Token) (x y : Command) → SpellsCommand ts x → SpellsCommand ts y → x ≡ y
one_command ts x y a b = elim a [
  | inl p ↦ elim b [
    | inl q ↦ some_is x y (sym (whole_read ts x p) ∙ whole_read ts y q)
    | inr q ↦ (let none : ⊥ = clash (sees transaction_heads ts) (transaction_begins ts x p) (statement_begins ts q.source q.spelled) in absurd none)
  ]
  | inr p ↦ elim b [
    | inl q ↦ (let none : ⊥ = clash (sees transaction_heads ts) (transaction_begins ts y q) (statement_begins ts p.source p.spelled) in absurd none)
    | inr q ↦ p.value ∙ ap c.Run (one_statement ts p.source q.source p.spelled q.spelled) ∙ sym q.value
  ]
]
  where
    clash : (b : Bool) → b ≡ true → b ≡ false → ⊥
    clash b p q = cc

-- What a statement is answered with, it is answered with as a command.
pub statement_answered : (ts : List Token) (x : Statement) (r : Result Statement Refusal) → g.Spells ts x → IsParseResult ts r → AnswersCommand ts (run r)
statement_answered ts x r s a = record {
  over = λ limit h. ap run (a.over limit h);
  spelled = λ y h k. ap run (a.spelled x h s) ∙ ap limited_command (one_command ts (c.Run x) y (inr record { source = x; spelled = s; value = refl }) k);
  unspelled = λ h none. absurd (none (c.Run x) (inr record { source = x; spelled = s; value = refl }));
}

-- What is written for a command spells it.
pub command_spelled : (ts : List Token) (x : Command) → IsCommandWritten ts x → SpellsCommand ts x
command_spelled ts (c.Run x) h = inr record { source = x; spelled = statement_spelled ts x h; value = refl }
command_spelled ts (c.Begin mode) h = inl (transaction.prints.wrote (c.Begin mode) ts h)
command_spelled ts c.Commit h = inl (transaction.prints.wrote c.Commit ts h)
command_spelled ts c.Rollback h = inl (transaction.prints.wrote c.Rollback ts h)
