-- Each rule of a session, from what the calls ensure.
use Rattle.std.proofs.Common.{◌≡◌, ◌⊎◌, inl, inr, ℕ, ◌+◌, max, true, false, List, [], ◌∷◌, ◌++◌, length, Option, Some, None, Result, Ok, Err, IfOk, IfErr, OnOk, OnErr, refl, sym, ap, subst, ◌∙◌, append-nil, arith}
use Rattle.rls_value.specs.declared.refusal.Refusal.{Refusal}
use Rattle.rls_value.specs.declared.refusal.Refusal.TheVariants.{NoMemory, Foreign, Serial, NoLogin}
use Rattle.rls_value.specs.declared.refusal.Cause.{Cause}
use Rattle.rls_value.specs.declared.refusal.TxnState.{TxnState}
use Rattle.rls_value.specs.declared.refusal.TxnState.TheVariants.{NoneInProgress}
use Rattle.rls_value.specs.declared.tag.Tag.{Tag}
use Rattle.rls_statement.specs.{Tags.tag_of, declared.statement.Statement.Statement}
use Rattle.rls_script.specs.rls_guard.specs.{declared.context.Mode.Mode, declared.effect.Effect.Effect, declared.reply.Reply.Reply}
use Rattle.rls_script.specs.rls_guard.specs.declared.context.Mode.TheVariants as m
use Rattle.rls_script.specs.rls_guard.specs.declared.effect.Effect.TheVariants as e
use Rattle.rls_script.specs.rls_guard.specs.declared.reply.Reply.TheVariants as p
use Rattle.rls_engine.specs.rls_access.specs.{Statements.role_after, Transactions.Begin}
use Rattle.rls_engine.specs.Drafts.{RefusesBegin, told_of}
use Rattle.rls_script.specs.Requests.{AsksOf, Requests}
use Rattle.rls_script.specs.declared.answer.Answer.{Answer}
use Rattle.rls_script.specs.declared.answer.Answer.TheVariants as a
use Rattle.rls_script.specs.declared.requesting.Ask.{Ask}
use Rattle.rls_script.specs.declared.requesting.Ask.TheVariants as ask
use Rattle.rls_script.specs.declared.requesting.Request.{Request}
use Rattle.rls_script.specs.declared.requesting.Request.TheVariants as q
use Rattle.rls_session.specs.Blocks.{answer_to, status_of, Came, CanCome, Carries, Executes, ExecutesIn, Given, RefusesLogin, Ticket, begin_of, begun, committed, given, given_in, in_block, inside, login_of, open_part, outside, over_in, posted, ran, shows, started, with_statement}
use Rattle.rls_session.specs.Parts.{Block, Part, Session, Shown, Notes, noted, unanswered, with_ended}
use Rattle.rls_session.specs.Stops.{AnswersRefused, CommitsAlone, Ended, HasCommitted, HasPosted, IsConflictAnswer, IsFault, IsStarted, WhenStopped}
use Rattle.rls_session.specs.declared.open.Stopped.{Stopped}

-- nothing was asked of the engine
abbrev pub unasked : Came
unasked = record { begin = Ok (record { txn = 0; snap = 0 }); post = Ok (e.Refused NoMemory []); commit = Ok 0 }

-- nothing is noted
pub noted_none : (notes : Notes) → notes ≡ noted notes []
noted_none notes =
    let told : notes.told ≡ notes.told + 0 = omega arith in
    λ i. record { tag = notes.tag; newest = notes.newest; told = told i; shown = sym (append-nil notes.shown) i; terse = notes.terse; ended = notes.ended; tried = notes.tried }

-- what is given without a commit, where this ends
pub carries_with : (old new : Notes) (session : Option Session) (request : Request) (came : Came) (answer : Answer) (then : Option Session) (part : Option Part) → CanCome (login_of session request) came → answer ≡ (given old.newest session request came).answer → then ≡ (given old.newest session request came).session → (given old.newest session request came).shown ≡ [] → (given old.newest session request came).ended ≡ part → new ≡ with_ended old part → Carries old session request answer new then
carries_with old new session request came answer then part can answered becomes none ends is = record {
  came = came;
  can = can;
  answered = answered;
  becomes = becomes;
  notes = is ∙ (ap (λ (n : Notes). with_ended n part) (noted_none old) ∙ (ap (λ (more : List Shown). with_ended (noted old more) part) (sym none) ∙ ap (λ (p : Option Part). with_ended (noted old (given old.newest session request came).shown) p) (sym ends)));
}

-- the same where nothing ends
pub carries_as : (notes : Notes) (session : Option Session) (request : Request) (came : Came) (answer : Answer) (then : Option Session) → CanCome (login_of session request) came → answer ≡ (given notes.newest session request came).answer → then ≡ (given notes.newest session request came).session → (given notes.newest session request came).shown ≡ [] → (given notes.newest session request came).ended ≡ None → Carries notes session request answer notes then
carries_as notes session request came answer then can answered becomes none ends = carries_with notes notes session request came answer then None can answered becomes none ends refl

-- refused at once
pub carries_nothing : (notes : Notes) (session : Option Session) (refusal : Refusal) → Carries notes session (q.Nothing refusal) (a.Refused refusal) notes session
carries_nothing notes session refusal = carries_as notes session (q.Nothing refusal) unasked (a.Refused refusal) session (record { begin = tt; post = tt; commit = tt }) refl refl refl refl

-- asked where nobody is connected
pub carries_nobody : (notes : Notes) (asked : Ask) → Carries notes None (q.Ask asked) (a.Refused (NoLogin None)) notes None
carries_nobody notes asked = carries_as notes None (q.Ask asked) unasked (a.Refused (NoLogin None)) None (record { begin = tt; post = tt; commit = tt }) refl refl refl refl

-- a connect
pub carries_connect : (old new : Notes) (session : Option Session) (role : List ℕ) (y : Session) → y ≡ outside role role → new ≡ with_ended old (open_part session) → Carries old session (q.Connect role) (a.Replied Tag.Connect p.Done) new (Some y)
carries_connect old new session role y is ends = carries_with old new session (q.Connect role) unasked (a.Replied Tag.Connect p.Done) (Some y) (open_part session) (record { begin = tt; post = tt; commit = tt }) refl (ap (λ (s : Session). Some s) is) refl refl ends

pub carries_connect_refused : (old new : Notes) (session : Option Session) (role : List ℕ) (refusal : Refusal) (answer : Answer) (then : Option Session) → answer ≡ a.Refused refusal → RefusesLogin (Some role) refusal → then ≡ None → new ≡ with_ended old (open_part session) → Carries old session (q.Connect role) answer new then
carries_connect_refused old new session role refusal answer then is refuses none ends = carries_with old new session (q.Connect role) (record unasked { begin = Err refusal }) answer then (open_part session) (record { begin = refuses; post = tt; commit = tt }) is none refl refl ends

-- a session comes in place of the old one, or a fault
pub connect_entered : {E : Type 0} (old new : Notes) (session then : Option Session) (role : List ℕ) (y : Session) (result : Result Answer E) → y ≡ outside role role → IfOk result (λ answer. answer ≡ a.Replied Tag.Connect p.Done) → OnOk result (then ≡ Some y) → OnOk result (new ≡ with_ended old (open_part session)) → IfOk result (λ answer. Carries old session (q.Connect role) answer new then)
connect_entered old new session then role y (Ok answer) is says becomes ends =
    subst (λ (z : Answer). Carries old session (q.Connect role) z new then) (sym says)
    (subst (λ (z : Option Session). Carries old session (q.Connect role) (a.Replied Tag.Connect p.Done) new z) (sym becomes) (carries_connect old new session role y is ends))
connect_entered old new session then role y (Err fault) is says becomes ends = tt

-- where it is refused, or a fault
pub connect_stopped : (old new : Notes) (session then : Option Session) (role : List ℕ) (refusal : Refusal) (result : Result Answer Refusal) → RefusesBegin (begin_of (outside role role) m.Write) refusal → AnswersRefused refusal result → OnOk result (then ≡ None) → OnOk result (new ≡ with_ended old (open_part session)) → IfOk result (λ answer. Carries old session (q.Connect role) answer new then)
connect_stopped old new session then role refusal (Ok answer) refuses answers none ends =
    let both = answers (begin_of (outside role role) m.Write) refuses in
    carries_connect_refused old new session role refusal answer then both.0 both.1 none ends
connect_stopped old new session then role refusal (Err fault) refuses answers none ends = tt

-- BEGIN
pub carries_begin : (notes : Notes) (x y : Session) (mode : Mode) (b : Block) → IsStarted notes.newest (begin_of x mode) b → y ≡ inside x.login x.role b → Carries notes (Some x) (q.Ask (ask.Begin mode)) (a.Replied Tag.Begin p.Done) notes (Some y)
carries_begin notes x y mode b is_started is =
    carries_as notes (Some x) (q.Ask (ask.Begin mode)) (record unasked { begin = Ok (record { txn = b.part.txn; snap = b.part.snap }) }) (a.Replied Tag.Begin p.Done) (Some y) (record { begin = tt; post = tt; commit = tt }) refl
    (ap (λ (s : Session). Some s) (is ∙ ap (λ (block : Block). inside x.login x.role block) is_started)) refl refl

pub begin_stopped : (notes : Notes) (x : Session) (mode : Mode) (begin : Begin) (refusal : Refusal) (result : Result Answer Refusal) → begin ≡ begin_of x mode → RefusesBegin begin refusal → AnswersRefused refusal result → IfOk result (λ answer. Carries notes (Some x) (q.Ask (ask.Begin mode)) answer notes (Some x))
begin_stopped notes x mode begin refusal (Ok answer) same refuses answers =
    let both = answers (begin_of x mode) (subst (λ (b : Begin). RefusesBegin b refusal) same refuses) in
    carries_as notes (Some x) (q.Ask (ask.Begin mode)) (record unasked { begin = Err refusal }) answer (Some x) (record { begin = both.1; post = tt; commit = tt }) both.0 refl refl refl
begin_stopped notes x mode begin refusal (Err fault) same refuses answers = tt

-- what is asked of the open block
pub in_open : (x : Session) (b : Block) (gives : Block → Given) → x ≡ inside x.login x.role b → in_block x x.block gives ≡ gives b
in_open x b gives is = ap (λ (s : Session). in_block x s.block gives) is

pub in_none : (x : Session) (gives : Block → Given) → x.block ≡ None → in_block x x.block gives ≡ record { answer = a.Refused (Refusal.TxnState NoneInProgress); session = Some x; shown = []; ended = None }
in_none x gives none = ap (λ (o : Option Block). in_block x o gives) none

-- the end of what a block is given, without a commit
abbrev pub Gives : Notes → Session → Ask → Came → Given → Type 0
Gives notes x asked came g = given_in notes.newest x asked came ≡ g

pub carries_given_with : (old new : Notes) (x : Session) (asked : Ask) (came : Came) (g : Given) (answer : Answer) (then : Option Session) (part : Option Part) → Gives old x asked came g → CanCome (Some x.login) came → answer ≡ g.answer → then ≡ g.session → g.shown ≡ [] → g.ended ≡ part → new ≡ with_ended old part → Carries old (Some x) (q.Ask asked) answer new then
carries_given_with old new x asked came g answer then part gives can answered becomes none ends is =
    carries_with old new (Some x) (q.Ask asked) came answer then part can
    (answered ∙ ap (λ (h : Given). h.answer) (sym gives)) (becomes ∙ ap (λ (h : Given). h.session) (sym gives)) (ap (λ (h : Given). h.shown) gives ∙ none) (ap (λ (h : Given). h.ended) gives ∙ ends) is

pub carries_given : (notes : Notes) (x : Session) (asked : Ask) (came : Came) (g : Given) (answer : Answer) (then : Option Session) → Gives notes x asked came g → CanCome (Some x.login) came → answer ≡ g.answer → then ≡ g.session → g.shown ≡ [] → g.ended ≡ None → Carries notes (Some x) (q.Ask asked) answer notes then
carries_given notes x asked came g answer then gives can answered becomes none ends = carries_given_with notes notes x asked came g answer then None gives can answered becomes none ends refl

-- no block is open
pub post_without : (notes : Notes) (x y : Session) (asked : Statement) (answer : Answer) → x.block ≡ None → answer ≡ a.Refused (Refusal.TxnState NoneInProgress) → y ≡ x → Carries notes (Some x) (q.Ask (ask.Post asked)) answer notes (Some y)
post_without notes x y asked answer none is same =
    carries_given notes x (ask.Post asked) unasked (record { answer = a.Refused (Refusal.TxnState NoneInProgress); session = Some x; shown = []; ended = None }) answer (Some y)
    (in_none x (λ block. posted x block asked unasked.post) none) (record { begin = tt; post = tt; commit = tt }) is (ap (λ (s : Session). Some s) same) refl refl

pub commit_without : (notes : Notes) (x y : Session) (answer : Answer) → x.block ≡ None → answer ≡ a.Refused (Refusal.TxnState NoneInProgress) → y ≡ x → Carries notes (Some x) (q.Ask ask.Commit) answer notes (Some y)
commit_without notes x y answer none is same =
    carries_given notes x ask.Commit unasked (record { answer = a.Refused (Refusal.TxnState NoneInProgress); session = Some x; shown = []; ended = None }) answer (Some y)
    (in_none x (λ block. committed x block unasked.commit) none) (record { begin = tt; post = tt; commit = tt }) is (ap (λ (s : Session). Some s) same) refl refl

-- a session that is put back into a block
pub put_in : (x x' y : Session) (b : Block) → x' ≡ outside x.login x.role → y ≡ inside x'.login x'.role b → y ≡ inside x.login x.role b
put_in x x' y b taken put = put ∙ ap (λ (s : Session). inside s.login s.role b) taken

-- the block is as it was
pub put_back : (x x' y : Session) (b b' : Block) → x ≡ inside x.login x.role b → x' ≡ outside x.login x.role → b' ≡ b → y ≡ inside x'.login x'.role b' → y ≡ x
put_back x x' y b b' is taken same put = put_in x x' y b' taken put ∙ (ap (λ (block : Block). inside x.login x.role block) same ∙ sym is)

-- a statement in a block
pub carries_post : (notes : Notes) (x x' y : Session) (b b' : Block) (asked : Statement) (told : Result Reply Refusal) (tag : Tag) (answer : Answer) → x ≡ inside x.login x.role b → x' ≡ outside x.login x.role → HasPosted b asked b' told → y ≡ inside x'.login x'.role b' → tag ≡ tag_of asked → ((effect : Effect) → told ≡ told_of effect → answer ≡ answer_to tag effect) → Carries notes (Some x) (q.Ask (ask.Post asked)) answer notes (Some y)
carries_post notes x x' y b b' asked told tag answer is taken has put same says =
    let came : Came = record unasked { post = Ok has.effect } in
    carries_given notes x (ask.Post asked) came (posted x b asked (Ok has.effect)) answer (Some y)
    (in_open x b (λ block. posted x block asked came.post) is) (record { begin = tt; post = tt; commit = tt })
    (says has.effect has.told_is ∙ ap (λ (t : Tag). answer_to t has.effect) same)
    (ap (λ (s : Session). Some s) (put_in x x' y b' taken put ∙ ap (λ (block : Block). inside x.login x.role block) has.block)) refl refl

-- one that met a conflict
pub carries_post_over : (old new : Notes) (x y : Session) (b : Block) (asked : Statement) (why : Cause) → x ≡ inside x.login x.role b → y ≡ over_in x.login x.role → new ≡ with_ended old (Some b.part) → Carries old (Some x) (q.Ask (ask.Post asked)) (a.Refused (Serial why)) new (Some y)
carries_post_over old new x y b asked why is over ends =
    let came : Came = record unasked { post = Err (Serial why) } in
    carries_given_with old new x (ask.Post asked) came (posted x b asked (Err (Serial why))) (a.Refused (Serial why)) (Some y) (Some b.part)
    (in_open x b (λ block. posted x block asked came.post) is) (record { begin = tt; post = tt; commit = tt }) refl (ap (λ (s : Session). Some s) over) refl refl ends

-- the same by what was answered
pub post_over : {E : Type 0} (old new : Notes) (x y : Session) (b : Block) (asked : Statement) (why : Cause) (result : Result Answer E) → x ≡ inside x.login x.role b → y ≡ over_in x.login x.role → IfOk result (λ answer. answer ≡ a.Refused (Serial why)) → OnOk result (new ≡ with_ended old (Some b.part)) → IfOk result (λ answer. Carries old (Some x) (q.Ask (ask.Post asked)) answer new (Some y))
post_over old new x y b asked why (Ok answer) is over says ends = subst (λ (z : Answer). Carries old (Some x) (q.Ask (ask.Post asked)) z new (Some y)) (sym says) (carries_post_over old new x y b asked why is over ends)
post_over old new x y b asked why (Err fault) is over says ends = tt

-- COMMIT
pub carries_commit : (old new : Notes) (x y : Session) (b : Block) (role : List ℕ) → x ≡ inside x.login x.role b → HasCommitted b old new role → y ≡ outside x.login role → Carries old (Some x) (q.Ask ask.Commit) (a.Replied Tag.Commit p.Done) new (Some y)
carries_commit old new x y b role is done becomes =
    let came : Came = record unasked { commit = Ok done.number } in
    let gives : given_in old.newest x ask.Commit came ≡ committed x b (Ok done.number) = in_open x b (λ block. committed x block came.commit) is in
    record {
      came = came;
      can = record { begin = tt; post = tt; commit = tt };
      answered = ap (λ (h : Given). h.answer) (sym gives);
      becomes = ap (λ (s : Session). Some s) (becomes ∙ ap (λ (r : List ℕ). outside x.login r) done.role_is) ∙ ap (λ (h : Given). h.session) (sym gives);
      notes = done.notes ∙ ap (λ (h : Given). with_ended (noted old h.shown) h.ended) (sym gives);
    }

-- one that met a conflict
pub carries_commit_over : (old new : Notes) (x y : Session) (b : Block) (why : Cause) → x ≡ inside x.login x.role b → new ≡ with_ended old (Some b.part) → y ≡ outside x.login x.role → Carries old (Some x) (q.Ask ask.Commit) (a.Refused (Serial why)) new (Some y)
carries_commit_over old new x y b why is ends becomes =
    let came : Came = record unasked { commit = Err (Serial why) } in
    carries_given_with old new x ask.Commit came (committed x b (Err (Serial why))) (a.Refused (Serial why)) (Some y) (Some b.part)
    (in_open x b (λ block. committed x block came.commit) is) (record { begin = tt; post = tt; commit = tt }) refl (ap (λ (s : Session). Some s) becomes) refl refl ends

-- the same by what was answered
pub commit_over : {E : Type 0} (old new : Notes) (x y : Session) (b : Block) (why : Cause) (result : Result Answer E) → x ≡ inside x.login x.role b → y ≡ outside x.login x.role → IfOk result (λ answer. answer ≡ a.Refused (Serial why)) → OnOk result (new ≡ with_ended old (Some b.part)) → IfOk result (λ answer. Carries old (Some x) (q.Ask ask.Commit) answer new (Some y))
commit_over old new x y b why (Ok answer) is becomes says ends = subst (λ (z : Answer). Carries old (Some x) (q.Ask ask.Commit) z new (Some y)) (sym says) (carries_commit_over old new x y b why is ends becomes)
commit_over old new x y b why (Err fault) is becomes says ends = tt

-- ROLLBACK
pub carries_rollback : (old new : Notes) (x y : Session) → y ≡ outside x.login x.role → new ≡ with_ended old (open_part (Some x)) → Carries old (Some x) (q.Ask ask.Rollback) (a.Replied Tag.Rollback p.Done) new (Some y)
carries_rollback old new x y becomes ends = carries_with old new (Some x) (q.Ask ask.Rollback) unasked (a.Replied Tag.Rollback p.Done) (Some y) (open_part (Some x)) (record { begin = tt; post = tt; commit = tt }) refl (ap (λ (s : Session). Some s) becomes) refl refl ends

-- a statement outside a block: its begin is refused
pub run_unbegun : (old new : Notes) (x y : Session) (asked : Statement) (begin : Begin) (refusal : Refusal) (result : Result Answer Refusal) → begin ≡ begin_of x m.Write → RefusesBegin begin refusal → AnswersRefused refusal result → new ≡ old → y ≡ x → IfOk result (λ answer. Carries old (Some x) (q.Ask (ask.Run asked)) answer new (Some y))
run_unbegun old new x y asked begin refusal (Ok answer) is refuses answers same becomes =
    let both = answers (begin_of x m.Write) (subst (λ (b : Begin). RefusesBegin b refusal) is refuses) in
    subst (λ (n : Notes). Carries old (Some x) (q.Ask (ask.Run asked)) answer n (Some y)) (sym same)
    (carries_as old (Some x) (q.Ask (ask.Run asked)) (record unasked { begin = Err refusal }) answer (Some y) (record { begin = both.1; post = tt; commit = tt }) both.0 (ap (λ (s : Session). Some s) becomes) refl refl)
run_unbegun old new x y asked begin refusal (Err fault) is refuses answers same becomes = tt

-- its post meets a conflict, or its commit does, which is told as that: the statement isn't answered
run_over : (old new : Notes) (x y : Session) (asked : Statement) (b : Block) (answer : Answer) → IsStarted old.newest (begin_of x m.Write) b → IsConflictAnswer answer → new ≡ with_ended old (Some (unanswered b.part)) → y ≡ x → Carries old (Some x) (q.Ask (ask.Run asked)) answer new (Some y)
run_over old new x y asked b answer is_started conflict ends becomes =
    let ticket : Ticket = record { txn = b.part.txn; snap = b.part.snap } in
    let part : unanswered b.part ≡ (started old.newest (begin_of x m.Write) ticket).part = ap (λ (it : Block). unanswered it.part) is_started in
    carries_with old new (Some x) (q.Ask (ask.Run asked)) (record { begin = Ok ticket; post = Err (Serial conflict.why); commit = Ok 0 }) answer (Some y) (Some (unanswered b.part)) (record { begin = tt; post = tt; commit = tt }) conflict.is (ap (λ (s : Session). Some s) becomes) refl (ap (λ (it : Part). Some it) (sym part)) ends

pub run_stopped : {E : Type 0} (old new : Notes) (x y : Session) (asked : Statement) (b : Block) (result : Result Answer E) → IsStarted old.newest (begin_of x m.Write) b → IfOk result IsConflictAnswer → OnOk result (new ≡ with_ended old (Some (unanswered b.part))) → y ≡ x → IfOk result (λ answer. Carries old (Some x) (q.Ask (ask.Run asked)) answer new (Some y))
run_stopped old new x y asked b (Ok answer) is_started conflict ends becomes = run_over old new x y asked b answer is_started conflict ends becomes
run_stopped old new x y asked b (Err fault) is_started conflict ends becomes = tt

-- it is committed, or its commit meets a conflict
run_ended : (old new : Notes) (x y : Session) (asked : Statement) (b b' : Block) (told : Result Reply Refusal) (tag : Tag) (answer said : Answer) → IsStarted old.newest (begin_of x m.Write) b → HasPosted b asked b' told → tag ≡ tag_of asked → ((effect : Effect) → told ≡ told_of effect → answer ≡ answer_to tag effect) → Ended b' answer old x said new y → Carries old (Some x) (q.Ask (ask.Run asked)) said new (Some y)
run_ended old new x y asked b b' told tag answer said is_started has same says ended =
    let ticket : Ticket = record { txn = b.part.txn; snap = b.part.snap } in
    let effect = has.effect in
    let block : b' ≡ with_statement (started old.newest (begin_of x m.Write) ticket) asked effect = has.block ∙ ap (λ (it : Block). with_statement it asked effect) is_started in
    record {
      came = record { begin = Ok ticket; post = Ok effect; commit = Ok ended.done.number };
      can = record { begin = tt; post = tt; commit = tt };
      answered = ended.said_is ∙ (says effect has.told_is ∙ ap (λ (t : Tag). answer_to t effect) same);
      becomes = ap (λ (s : Session). Some s) (ended.session_is ∙ ap (λ (r : List ℕ). outside x.login r) (ended.done.role_is ∙ ap (λ (it : Block). it.role) block));
      notes = ended.done.notes ∙ ap (λ (it : Block). noted old (shows it ended.done.number ∷ [])) block;
    }

pub run_committed : {E : Type 0} (old new : Notes) (x y : Session) (asked : Statement) (b b' : Block) (told : Result Reply Refusal) (tag : Tag) (answer : Answer) (result : Result Answer E) → IsStarted old.newest (begin_of x m.Write) b → HasPosted b asked b' told → tag ≡ tag_of asked → ((effect : Effect) → told ≡ told_of effect → answer ≡ answer_to tag effect) → IfOk result (λ said. CommitsAlone b' answer old x said new y) → IfOk result (λ said. Carries old (Some x) (q.Ask (ask.Run asked)) said new (Some y))
run_committed old new x y asked b b' told tag answer (Ok said) is_started has same says (inl ended) = run_ended old new x y asked b b' told tag answer said is_started has same says ended
run_committed old new x y asked b b' told tag answer (Ok said) is_started has same says (inr stopped) =
    let part : unanswered b'.part ≡ unanswered b.part = ap (λ (it : Block). unanswered it.part) has.block in
    run_over old new x y asked b said is_started stopped.0 (stopped.1 ∙ ap (λ (it : Part). with_ended old (Some it)) part) stopped.2
run_committed old new x y asked b b' told tag answer (Err fault) is_started has same says done = tt

-- a commit that meets a conflict, or a fault
pub commit_stopped : {X E : Type 0} (block : Block) (answer : Answer) (old middle new : Notes) (x y : Session) (stopped : Stopped X) (result : Result Answer E) → middle ≡ old → WhenStopped block stopped → IfOk result IsConflictAnswer → ((b : Block) → WhenStopped b stopped → OnOk result (new ≡ with_ended middle (Some (unanswered b.part)))) → y ≡ x → IfOk result (λ said. CommitsAlone block answer old x said new y)
commit_stopped block answer old middle new x y stopped (Ok said) same when conflict ends becomes = inr (conflict, ends block when ∙ ap (λ (n : Notes). with_ended n (Some (unanswered block.part))) same, becomes)
commit_stopped block answer old middle new x y stopped (Err fault) same when conflict ends becomes = tt

-- a fault that leaves the notes leaves the session too
pub stays : {A E : Type 0} (r : Result A E) (x y : Session) (old middle new : Notes) → y ≡ x → middle ≡ old → OnErr r (new ≡ middle) → OnErr r ((y ≡ x) × (new ≡ old))
stays (Ok a) x y old middle new becomes same kept = tt
stays (Err fault) x y old middle new becomes same kept = (becomes, kept ∙ same)

-- a fault that is `Foreign` is no want of memory
pub only_foreign : {A : Type 0} (P : Type 0) (r : Result A Refusal) → IfErr r (λ why. why ≡ Foreign) → IfErr r (λ why. why ≡ NoMemory → P)
only_foreign P (Ok a) is = tt
only_foreign P (Err why) is = λ same. (let no : Foreign ≡ NoMemory = sym is ∙ same in absurd cc)

pub foreign_fault : {A : Type 0} (r : Result A Refusal) → IfErr r (λ why. why ≡ Foreign) → IfErr r IsFault
foreign_fault (Ok a) is = tt
foreign_fault (Err why) is = subst IsFault (sym is) tt

pub committed_alone : (block : Block) (answer : Answer) (old new : Notes) (x y : Session) (role : List ℕ) → HasCommitted block old new role → y ≡ outside x.login role → CommitsAlone block answer old x answer new y
committed_alone block answer old new x y role done is = inl (record { role = role; done = done; said_is = refl; session_is = is })

-- a command that is refused at once, and one that is asked of the session
pub executes_nothing : (notes : Notes) (x : Session) (command : List ℕ) (refusal : Refusal) → AsksOf (status_of (Some x)) command (Err refusal) → ExecutesIn notes x command (a.Refused refusal) notes x
executes_nothing notes x command refusal asks = record { given = Err refusal; asks = asks; carries = carries_nothing notes (Some x) refusal }

pub executes_asked : {E : Type 0} (old new : Notes) (x y : Session) (command : List ℕ) (asked : Ask) (result : Result Answer E) → AsksOf (status_of (Some x)) command (Ok asked) → IfOk result (λ answer. Carries old (Some x) (q.Ask asked) answer new (Some y)) → IfOk result (λ answer. ExecutesIn old x command answer new y)
executes_asked old new x y command asked (Ok answer) asks carries = record { given = Ok asked; asks = asks; carries = carries }
executes_asked old new x y command asked (Err fault) asks carries = tt

-- a command of a label
pub executes_as : {E : Type 0} (old new : Notes) (x y : Option Session) (command : List ℕ) (request : Request) (result : Result Answer E) → Requests (status_of x) command request → IfOk result (λ answer. Carries old x request answer new y) → IfOk result (λ answer. Executes old x command answer new y)
executes_as old new x y command request (Ok answer) requests carries = record { request = request; requests = requests; carries = carries }
executes_as old new x y command request (Err fault) requests carries = tt

-- a session whose block is over now
pub over_is : (s x : Session) → s ≡ outside x.login x.role → record { login = s.login; role = s.role; block = s.block; over = true } ≡ over_in x.login x.role
over_is s x is = λ i. record { login = (is i).login; role = (is i).role; block = (is i).block; over = true }

-- a block that began, by what it began as
pub started_as : (n m : ℕ) (begin other : Begin) (b : Block) → IsStarted n begin b → n ≡ m → begin ≡ other → IsStarted m other b
started_as n m begin other b is newest same = subst (λ (z : Begin). IsStarted m z b) same (subst (λ (k : ℕ). IsStarted k begin b) newest is)
