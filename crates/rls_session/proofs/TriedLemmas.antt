-- Transactions that ended without a commit.
use Rattle.std.proofs.Common.{◌≡◌, ℕ, ◌+◌, ◌<◌, ◌≤◌, Bool, List, [], ◌∷◌, ◌++◌, map, take, drop, get_or, slice_set, length, Option, Some, None, Result, Ok, Err, IfOk, OnOk, Vec, Global, refl, sym, ap, subst, ◌∙◌, append-nil, arith, drop-set-lt, All}
use Rattle.std.specs.Prelude.{IfSome}
use Rattle.std.specs.Option.{option_map}
use Rattle.std.proofs.lemmas.List.{get_or-drop, map-append, map_more, take_all}
use Rattle.std.proofs.lemmas.Grind.{drop_more_same}
use Rattle.std.proofs.lemmas.List.Elements.{All-append, All-cons, All-nil}
use Rattle.rls_value.specs.declared.refusal.Refusal.{Refusal}
use Rattle.rls_value.specs.declared.refusal.Cause.{Cause}
use Rattle.rls_statement.specs.declared.statement.Statement.{Statement}
use Rattle.rls_engine.specs.Attempts.{IsAttemptOf}
use Rattle.rls_engine.specs.Drafts.{EndsOrStays, WhenFailed, WhenRefused, with_pending}
use Rattle.rls_engine.specs.declared.txn.CommitFault.{CommitFault}
use Rattle.rls_engine.specs.declared.txn.CommitFault.TheVariants as failed
use Rattle.rls_engine.specs.declared.txn.PostFault.{PostFault}
use Rattle.rls_engine.specs.declared.txn.PostFault.TheVariants as refused
use Rattle.rls_engine.specs.Views.{Draft}
use Rattle.rls_engine.specs.Stands.{Stand}
use Rattle.rls_engine.specs.rls_core.specs.declared.attempt.Attempt.{Attempt}
use Rattle.rls_engine.specs.rls_core.specs.Attempts.{IsShownOn}
use Rattle.rls_engine.specs.rls_core.specs.Records.{Record, state_after}
use Rattle.rls_session.specs.declared.tried.Attempted.{Attempted}
use Rattle.rls_session.specs.declared.open.Stopped.{Stopped}
use Rattle.rls_session.specs.declared.open.Stopped.TheVariants as stop
use Rattle.rls_session.specs.declared.tried.End.{End}
use Rattle.rls_session.specs.declared.tried.End.TheVariants as how_ended
use Rattle.rls_session.specs.Blocks.{open_part}
use Rattle.rls_session.specs.Books.{AreTried, IsTold}
use Rattle.rls_session.specs.Labels.{Entry, ended_all, sessions_of}
use Rattle.rls_session.specs.Phases.{sessions_at}
use Rattle.rls_session.specs.Stops.{WhenStopped}
use Rattle.rls_session.specs.Works.{Work, work_seats}
use Rattle.rls_session.specs.Parts.{Block, Notes, Part, Session, Shown, Tried, ended_then, joined_tried, part_by, part_of, told_ended, tried_by, tried_of, unanswered, with_end, with_ended}

-- the part of an attempt is that of what it stood on
pub part_of_attempt : (stand : Stand) (it : Attempt) → IsAttemptOf stand it → part_by it ≡ part_of stand.running.so_far
part_of_attempt stand it is = λ i. record { txn = is.txn i; begin = is.begin i; snap = is.snap i; statements = is.statements i; effects = is.effects i }

-- that of the block, where it is given
pub stopped_part : (stand : Stand) (block : Block) (ended : Option Attempt) → part_of stand.running.so_far ≡ block.part → IfSome ended (IsAttemptOf stand) → IfSome ended (λ it. part_by it ≡ block.part)
stopped_part stand block None is attempt = tt
stopped_part stand block (Some it) is attempt = part_of_attempt stand it attempt ∙ is

-- where a commit ended it
pub failed_part : {X : Type 0} (old : Draft) (block : Block) (fault : CommitFault X) (why : Refusal) (ended : Option Attempt) → fault ≡ failed.Over why ended → WhenFailed old fault → part_of old.stand.running.so_far ≡ block.part → IfSome ended (λ it. part_by it ≡ block.part)
failed_part {X} old block fault why ended is when same = stopped_part old.stand block ended same (subst (λ (f : CommitFault X). WhenFailed old f) is when).1

-- where a call was stopped so
pub over_part : {X : Type 0} (block : Block) (stopped : Stopped X) (why : Cause) (ended : Option Attempt) → stopped ≡ stop.Over why ended → WhenStopped block stopped → IfSome ended (λ it. part_by it ≡ block.part)
over_part {X} block stopped why ended is when = subst (λ (s : Stopped X). WhenStopped block s) is when

-- what a post that is over does
pub over_ends : (run new : Draft) (fault : PostFault) → fault ≡ refused.Over → WhenRefused run fault new → EndsOrStays run run.over run.pending new
over_ends run new fault is when = subst (λ (f : PostFault). WhenRefused run f new) is when

-- a post that ends the transaction leaves it where it stood
pub over_stand : (old run new : Draft) (asked : Statement) → run ≡ with_pending old asked → old.over ≡ None → EndsOrStays run run.over run.pending new → new.stand ≡ old.stand
over_stand old run new asked ran none ends =
    let here : EndsOrStays (with_pending old asked) old.over (Some asked) new = subst (λ (d : Draft). EndsOrStays d d.over d.pending new) ran ends in
    let ended : EndsOrStays (with_pending old asked) None (Some asked) new = subst (λ (o : Option Refusal). EndsOrStays (with_pending old asked) o (Some asked) new) none here in
    ap (λ (d : Draft). d.stand) ended.2

-- ---- kept, and told

-- what has ended is kept where such is kept
pub kept_ended : (tag newest told : ℕ) (shown : List Shown) (terse : Bool) (ended : Option Part) (tried : Option (List Tried)) (all : List Tried) (part : Part) → tried ≡ Some all → record { tag = tag; newest = newest; told = told; shown = shown; terse = terse; ended = Some part; tried = tried } ≡ with_ended (record { tag = tag; newest = newest; told = told; shown = shown; terse = terse; ended = ended; tried = tried }) (Some part)
kept_ended tag newest told shown terse ended tried all part is =
    let now : Some part ≡ ended_then (Some part) tried ended = ap (λ (t : Option (List Tried)). ended_then (Some part) t ended) (sym is) in
    λ i. record { tag = tag; newest = newest; told = told; shown = shown; terse = terse; ended = now i; tried = tried }

pub kept_none : (notes : Notes) (part : Part) → notes.tried ≡ None → notes ≡ with_ended notes (Some part)
kept_none notes part none =
    let now : notes.ended ≡ ended_then (Some part) notes.tried notes.ended = ap (λ (t : Option (List Tried)). ended_then (Some part) t notes.ended) (sym none) in
    λ i. record { tag = notes.tag; newest = notes.newest; told = notes.told; shown = notes.shown; terse = notes.terse; ended = now i; tried = notes.tried }

-- the same of an attempt whose part is known
pub keeps_some : (old new : Notes) (ended : Option Attempt) (it : Attempt) → ended ≡ Some it → new ≡ with_ended old (Some (part_by it)) → (part : Part) → IfSome ended (λ one. part_by one ≡ part) → new ≡ with_ended old (Some part)
keeps_some old new ended it is kept part same =
    let here : part_by it ≡ part = subst (λ (o : Option Attempt). IfSome o (λ one. part_by one ≡ part)) is same in
    kept ∙ ap (λ (p : Part). with_ended old (Some p)) here

pub keeps_none : {E : Type 0} (r : Result (Unit {0}) E) (notes : Notes) → OnOk r (notes.tried ≡ None) → (part : Part) → OnOk r (notes ≡ with_ended notes (Some part))
keeps_none (Ok x) notes none part = kept_none notes part none
keeps_none (Err e) notes none part = tt

-- where nothing has ended there is nothing to tell
pub untold : (notes : Notes) (how : End) → notes.ended ≡ None → notes ≡ with_end how notes
untold notes how none =
    let now : notes.tried ≡ told_ended notes.ended how notes.tried = ap (λ (o : Option Part). told_ended o how notes.tried) (sym none) in
    λ i. record { tag = notes.tag; newest = notes.newest; told = notes.told; shown = notes.shown; terse = notes.terse; ended = none i; tried = now i }

-- it is told
pub told_one : (tag newest told : ℕ) (shown : List Shown) (terse : Bool) (ended now : Option Part) (tried then : Option (List Tried)) (how : End) → now ≡ None → then ≡ told_ended ended how tried → record { tag = tag; newest = newest; told = told; shown = shown; terse = terse; ended = now; tried = then } ≡ with_end how (record { tag = tag; newest = newest; told = told; shown = shown; terse = terse; ended = ended; tried = tried })
told_one tag newest told shown terse ended now tried then how none is = λ i. record { tag = tag; newest = newest; told = told; shown = shown; terse = terse; ended = none i; tried = is i }

-- what is open is given up
pub gave_up : (old new : Notes) (block : Option Block) (open_block : Block) (ended : Option Attempt) → block ≡ Some open_block → IfSome ended (λ it. part_by it ≡ open_block.part) → ((part : Part) → IfSome ended (λ it. part_by it ≡ part) → new ≡ with_ended old (Some part)) → new ≡ with_ended old (option_map (λ it. it.part) block)
gave_up old new block open_block ended is part_is keeps = keeps open_block.part part_is ∙ ap (λ (o : Option Block). with_ended old (option_map (λ (it : Block). it.part) o)) (sym is)

-- without its statements
pub unanswered_part : (ended : Option Attempt) (it left : Attempt) → ended ≡ Some it → left ≡ record { txn = it.txn; snap = it.snap; begin = it.begin; posts = [] } → (part : Part) → IfSome ended (λ one. part_by one ≡ part) → part_by left ≡ unanswered part
unanswered_part ended it left is bare part same =
    let here : part_by it ≡ part = subst (λ (o : Option Attempt). IfSome o (λ one. part_by one ≡ part)) is same in
    ap part_by bare ∙ ap unanswered here

-- a transaction of one statement that is stopped
pub stopped_ends : {X : Type 0} (old new : Notes) (stopped : Stopped X) (why : Cause) (ended bare : Option Attempt) → stopped ≡ stop.Over why ended → ((part : Part) → IfSome ended (λ it. part_by it ≡ part) → IfSome bare (λ it. part_by it ≡ unanswered part)) → ((part : Part) → IfSome bare (λ it. part_by it ≡ part) → new ≡ with_ended old (Some part)) → (block : Block) → WhenStopped block stopped → new ≡ with_ended old (Some (unanswered block.part))
stopped_ends {X} old new stopped why ended bare is bares keeps block when = keeps (unanswered block.part) (bares block.part (subst (λ (s : Stopped X). WhenStopped block s) is when))

-- ---- without an engine

pub tried_same : (whole : Tried) (how : End) (ended it : Attempt) → record { end = how; part = part_by ended } ≡ whole → it ≡ ended → tried_by (record { end = how; attempt = it }) ≡ whole
tried_same whole how ended it view is = ap (λ (a : Attempt). record { end = how; part = part_by a }) is ∙ view

pub told_attempt : (history : List Record) (how : End) (ended it : Attempt) → ended.snap ≤ length history → IsShownOn (state_after history ended.snap) ended → it ≡ ended → IsTold history (tried_by (record { end = how; attempt = it }))
told_attempt history how ended it began shown is = subst (λ (a : Attempt). IsTold history (tried_by (record { end = how; attempt = a }))) (sym is) (record { began = began; alone = shown })

pub are_tried : {E : Type 0} (history : List Record) (notes : Notes) (tried : List Tried) (r : Result (Vec Attempted Global) E) → tried ≡ tried_of notes.tried → IfOk r (λ all. map tried_by all.items ≡ tried) → IfOk r (λ all. All (IsTold history) (map tried_by all.items)) → IfOk r (λ all. AreTried history notes (map tried_by all.items))
are_tried history notes tried (Ok all) is same told = record { are = same ∙ is; told = told }
are_tried history notes tried (Err fault) is same told = tt

-- nothing is joined
pub none_joined : (before other : Option (List Tried)) → joined_tried before (option_map (λ (xs : List Tried). []) other) ≡ before
none_joined None other = refl
none_joined (Some before) None = refl
none_joined (Some before) (Some more) = ap (λ (xs : List Tried). Some xs) (append-nil before)

-- one more
tried_more : (all : List Attempted) (one : Attempted) → map tried_by (all ++ one ∷ []) ≡ map tried_by all ++ tried_by one ∷ []
tried_more all one = map-append tried_by all (one ∷ [])

-- the same of those that were kept, by what one more is without its engine
pub attempted_more : (all now : List Attempted) (ended : Attempted) (yielded : List Tried) (one : Tried) → now ≡ all ++ ended ∷ [] → map tried_by all ≡ yielded → tried_by ended ≡ one → map tried_by now ≡ yielded ++ one ∷ []
attempted_more all now ended yielded one is same made = ap (λ (xs : List Attempted). map tried_by xs) is ∙ (tried_more all ended ∙ (ap (λ (xs : List Tried). xs ++ tried_by ended ∷ []) same ∙ ap (λ (t : Tried). yielded ++ t ∷ []) made))

pub told_also : (history : List Record) (yielded : List Tried) (ended : Attempted) (one : Tried) → All (IsTold history) yielded → tried_by ended ≡ one → IsTold history (tried_by ended) → All (IsTold history) (yielded ++ one ∷ [])
told_also history yielded ended one before made told = All-append (IsTold history) yielded (one ∷ []) before (All-cons (IsTold history) one [] (subst (λ (t : Tried). IsTold history t) made told) (All-nil (IsTold history)))

-- the end of a script shows no transaction as committed
pub ended_shown : (sessions : List (Option Session)) (notes : Notes) → (ended_all sessions notes).shown ≡ notes.shown
ended_shown [] notes = refl
ended_shown (session ∷ more) notes = ended_shown more (with_end how_ended.Script (with_ended notes (open_part session)))

-- ---- one after another

-- those behind the next one are as they were
pub kept_behind : {X : Type 0} (xs ys : List X) (i : ℕ) (y : X) → drop i ys ≡ drop i xs → drop (i + 1) (slice_set ys i y) ≡ drop (i + 1) xs
kept_behind xs ys i y same = drop-set-lt (i + 1) ys i y (omega arith) ∙ drop_more_same ys xs i same

read_first : {X : Type 0} (xs : List X) (i : ℕ) (d : X) → get_or (drop i xs) 0 d ≡ get_or xs i d
read_first {X} xs i d =
    let same : i + 0 ≡ i = omega arith in
    get_or-drop i xs 0 d ∙ ap (λ (n : ℕ). get_or xs n d) same

kept_read : {X : Type 0} (xs ys : List X) (i : ℕ) (d : X) → drop i ys ≡ drop i xs → get_or ys i d ≡ get_or xs i d
kept_read {X} xs ys i d same = sym (read_first ys i d) ∙ (ap (λ (zs : List X). get_or zs 0 d) same ∙ read_first xs i d)

ended_snoc : (sessions : List (Option Session)) (session : Option Session) (notes : Notes) → ended_all (sessions ++ session ∷ []) notes ≡ with_end how_ended.Script (with_ended (ended_all sessions notes) (open_part session))
ended_snoc [] session notes = refl
ended_snoc (x ∷ xs) session notes = ended_snoc xs session (with_end how_ended.Script (with_ended notes (open_part x)))

-- one more has ended
pub ended_more : {X : Type 0} (f : X → Option Session) (xs ys : List X) (i : ℕ) (d : X) (start before now : Notes) → i < length xs → drop i ys ≡ drop i xs → before ≡ ended_all (map f (take i xs)) start → now ≡ with_end how_ended.Script (with_ended before (open_part (f (get_or ys i d)))) → now ≡ ended_all (map f (take (i + 1) xs)) start
ended_more {X} f xs ys i d start before now within same so ends =
    ends
    ∙ (ap (λ (x : X). with_end how_ended.Script (with_ended before (open_part (f x)))) (kept_read xs ys i d same)
    ∙ (ap (λ (notes : Notes). with_end how_ended.Script (with_ended notes (open_part (f (get_or xs i d))))) so
    ∙ (sym (ended_snoc (map f (take i xs)) (f (get_or xs i d)) start)
    ∙ ap (λ (sessions : List (Option Session)). ended_all sessions start) (sym (map_more f xs i d within)))))

ended_whole : {X : Type 0} (f : X → Option Session) (xs : List X) (i : ℕ) (start now : Notes) → length xs ≤ i → now ≡ ended_all (map f (take i xs)) start → now ≡ ended_all (map f xs) start
ended_whole {X} f xs i start now le so = so ∙ ap (λ (zs : List X). ended_all (map f zs) start) (take_all i xs le)

-- all have
pub entries_ended : (xs : List Entry) (i : ℕ) (start now : Notes) → length xs ≤ i → now ≡ ended_all (map (λ (entry : Entry). entry.session) (take i xs)) start → now ≡ ended_all (sessions_of xs) start
entries_ended xs i start now le so = ended_whole (λ (entry : Entry). entry.session) xs i start now le so

works_sessions : (works : List Work) → map (λ (work : Work). work.track.seat.session) works ≡ sessions_at (work_seats works)
works_sessions [] = refl
works_sessions (work ∷ works) = ap (λ (sessions : List (Option Session)). work.track.seat.session ∷ sessions) (works_sessions works)

pub workers_ended : (xs : List Work) (i : ℕ) (start now : Notes) → length xs ≤ i → now ≡ ended_all (map (λ (work : Work). work.track.seat.session) (take i xs)) start → now ≡ ended_all (sessions_at (work_seats xs)) start
workers_ended xs i start now le so = ended_whole (λ (work : Work). work.track.seat.session) xs i start now le so ∙ ap (λ (sessions : List (Option Session)). ended_all sessions start) (works_sessions xs)
