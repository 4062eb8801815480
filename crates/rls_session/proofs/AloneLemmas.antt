-- A script of one label: each transaction comes after those that were shown before it, and since the book has no others they stand in
-- a row.
use Rattle.std.proofs.Common.{◌≡◌, ◌⊎◌, inl, inr, ℕ, zero, suc, max, Bool, true, false, not, ◌&&◌, ◌||◌, ◌==◌, ltb, ltb-true, lt-ltb, le-ltb, ne_eqb, eq-eqb, ◌+◌, ◌-◌, ◌<◌, ◌≤◌, List, [], ◌∷◌, ◌++◌, length, map, All, Option, Some, None, option_map, Result, Ok, Err, slice_get, refl, sym, ap, ◌∙◌, subst, arith, take, drop}
use Rattle.std.specs.List.{position_or_len}
use Rattle.std.specs.Str.{bytes_eq}
use Rattle.std.proofs.Math.ListN.{get_or}
use Rattle.std.proofs.lemmas.List.{get_or-map, length-map}
use Rattle.std.proofs.lemmas.List.Elements.{All-head, All-tail}
use Rattle.std.proofs.lemmas.Option.{slice_get_within, slice_get-get_or}
use Rattle.std.proofs.lemmas.Bool.{cases_lt, cases_eq, cases_Bool}
use Rattle.std.proofs.lemmas.Slice.Eq.{bytes_eq-Decides}
use Rattle.rls_engine.specs.rls_core.specs.rls_guard.specs.rls_catalog.specs.State.{State}
use Rattle.rls_engine.specs.rls_core.specs.rls_guard.specs.rls_catalog.specs.Changed.{opening}
use Rattle.rls_script.specs.rls_guard.specs.{declared.context.Mode.Mode, declared.effect.Effect.Effect}
use Rattle.rls_value.specs.declared.refusal.Refusal.{Refusal}
use Rattle.rls_statement.specs.declared.statement.Statement.{Statement}
use Rattle.rls_engine.specs.rls_access.specs.Transactions.{first_ctx}
use Rattle.rls_history.specs.History.{History, before, concurrent, rw as edge}
use Rattle.rls_history.specs.Orders.{precedes, with_placed, none_placed, IsNext, StandInTurn, placed_by, IsOrder}
use Rattle.rls_engine.specs.rls_conflict.specs.Transactions.{Transaction, at}
use Rattle.rls_engine.specs.rls_core.specs.Records.{Record, nobody, record_at, transaction_of, history_by}
use Rattle.rls_engine.specs.rls_core.specs.Alone.{Explains, effects_alone, state_alone}
use Rattle.rls_script.specs.Lines.{IsRead}
use Rattle.rls_script.specs.declared.answer.Answer.{Answer}
use Rattle.rls_script.specs.declared.line.Line.{Line}
use Rattle.rls_script.specs.declared.line.Line.TheVariants as l
use Rattle.rls_script.specs.declared.requesting.Ask.{Ask}
use Rattle.rls_script.specs.declared.requesting.Ask.TheVariants as ask
use Rattle.rls_script.specs.declared.requesting.Request.{Request}
use Rattle.rls_script.specs.declared.requesting.Request.TheVariants as q
use Rattle.rls_session.specs.Parts.{Part, Block, Session, Shown, Notes, part_of, newest_after}
use Rattle.rls_session.specs.Blocks.{Came, Given, Ticket, Executes, begun, committed, connected, given, given_as, given_in, in_block, noted_given, open_part, posted, ran, rolled_back}
use Rattle.rls_session.specs.Books.{AreTheRecords, IsBooked}
use Rattle.rls_session.specs.Labels.{Entry, Script, opening_script, place_of, session_of, with_session, AnswersIf, AnswersUnder, ExecutesUnder}
use Rattle.rls_session.specs.Scripts.{RunsLine, RunsLines, RunsRead, RunsCommand, none, next}
use Rattle.rls_session.specs.Alone.{StandsUnder, IsUnder, AreAlone}

-- ---- each began behind the newest of those before it

-- an open block began behind the newest commit
abbrev pub HearsIn : ℕ → Option Block → Type 0
HearsIn n None = Unit {0}
HearsIn n (Some block) = block.heard ≡ n

abbrev pub Hears : ℕ → Option Session → Type 0
Hears n None = Unit {0}
Hears n (Some session) = HearsIn n session.block

abbrev pub Linked : ℕ → List Shown → Type 0
Linked n [] = Unit {0}
Linked n (it ∷ more) = (it.heard ≡ n) × Linked (max n it.commit) more

abbrev pub Keeps : ℕ → Given → Type 0
Keeps n g = Hears (newest_after n g.shown) g.session × Linked n g.shown

connected_keeps : (n : ℕ) (ended : Option Part) (role : List ℕ) (came : Result Ticket Refusal) → Keeps n (connected ended role came)
connected_keeps n ended role (Ok ticket) = (tt, tt)
connected_keeps n ended role (Err why) = (tt, tt)

begun_keeps : (n : ℕ) (session : Session) (mode : Mode) (came : Result Ticket Refusal) → HearsIn n session.block → Keeps n (begun n session mode came)
begun_keeps n session mode (Ok ticket) h = (refl, tt)
begun_keeps n session mode (Err why) h = (h, tt)

posted_keeps : (n : ℕ) (session : Session) (block : Block) (asked : Statement) (came : Result Effect Refusal) → block.heard ≡ n → Keeps n (posted session block asked came)
posted_keeps n session block asked (Ok effect) h = (h, tt)
posted_keeps n session block asked (Err why) h = (tt, tt)

committed_keeps : (n : ℕ) (session : Session) (block : Block) (came : Result ℕ Refusal) → block.heard ≡ n → Keeps n (committed session block came)
committed_keeps n session block (Ok number) h = (tt, (h, tt))
committed_keeps n session block (Err why) h = (tt, tt)

ran_keeps : (n : ℕ) (session : Session) (asked : Statement) (begin : Result Ticket Refusal) (post : Result Effect Refusal) (commit : Result ℕ Refusal) → HearsIn n session.block → Keeps n (ran n session asked begin post commit)
ran_keeps n session asked (Err why) post commit h = (h, tt)
ran_keeps n session asked (Ok ticket) (Err why) commit h = (h, tt)
ran_keeps n session asked (Ok ticket) (Ok effect) (Err why) h = (h, tt)
ran_keeps n session asked (Ok ticket) (Ok effect) (Ok number) h = (tt, (refl, tt))

in_block_keeps : (n : ℕ) (session : Session) (block : Option Block) (gives : Block → Given) → HearsIn n session.block → HearsIn n block → ((b : Block) → b.heard ≡ n → Keeps n (gives b)) → Keeps n (in_block session block gives)
in_block_keeps n session None gives h hb keeps = (h, tt)
in_block_keeps n session (Some block) gives h hb keeps = keeps block hb

given_in_keeps : (n : ℕ) (session : Session) (asked : Ask) (came : Came) → HearsIn n session.block → Keeps n (given_in n session asked came)
given_in_keeps n session (ask.Begin mode) came h = begun_keeps n session mode came.begin h
given_in_keeps n session (ask.Post statement) came h = in_block_keeps n session session.block (λ block. posted session block statement came.post) h h (λ b hb. posted_keeps n session b statement came.post hb)
given_in_keeps n session (ask.Run statement) came h = ran_keeps n session statement came.begin came.post came.commit h
given_in_keeps n session ask.Commit came h = in_block_keeps n session session.block (λ block. committed session block came.commit) h h (λ b hb. committed_keeps n session b came.commit hb)
given_in_keeps n session ask.Rollback came h = (tt, tt)

given_as_keeps : (n : ℕ) (session : Option Session) (asked : Ask) (came : Came) → Hears n session → Keeps n (given_as n session asked came)
given_as_keeps n (Some session) asked came h = given_in_keeps n session asked came h
given_as_keeps n None asked came h = (tt, tt)

given_keeps : (n : ℕ) (session : Option Session) (request : Request) (came : Came) → Hears n session → Keeps n (given n session request came)
given_keeps n session (q.Nothing refusal) came h = (h, tt)
given_keeps n session (q.Connect role) came h = connected_keeps n (open_part session) role came.begin
given_keeps n session (q.Ask asked) came h = given_as_keeps n session asked came h

pub newest_append : (n : ℕ) (xs ys : List Shown) → newest_after n (xs ++ ys) ≡ newest_after (newest_after n xs) ys
newest_append n [] ys = refl
newest_append n (x ∷ xs) ys = newest_append (max n x.commit) xs ys

pub linked_append : (n : ℕ) (xs ys : List Shown) → Linked n xs → Linked (newest_after n xs) ys → Linked n (xs ++ ys)
linked_append n [] ys a b = b
linked_append n (x ∷ xs) ys a b = (a.0, linked_append (max n x.commit) xs ys a.1 b)

-- ---- the lines of one label

-- no label has come, or just this one
abbrev pub HasComeAlone : List ℕ → ℕ → List Entry → Type 0
HasComeAlone name n labels = (labels ≡ []) ⊎ ((x : Option Session) × (labels ≡ record { name = name; session = x } ∷ []) × Hears n x)

pub record Behind (name : List ℕ) (script : Script) : Type 0 where
  pub come : HasComeAlone name script.notes.newest script.labels
  pub linked : Linked 0 script.notes.shown
  pub newest : script.notes.newest ≡ newest_after 0 script.notes.shown

-- a label's place among itself alone
place_alone : (name : List ℕ) (x : Option Session) → place_of (record { name = name; session = x } ∷ []) name ≡ 0
place_alone name x =
    let is : bytes_eq name name ≡ true = (bytes_eq-Decides name name).1 refl in
    rw is refl

pub executes_keeps : (k : ℕ) (old new : Notes) (x y : Option Session) (command : List ℕ) (answer : Answer) → Executes old x command answer new y → Hears old.newest x → Linked k old.shown → old.newest ≡ newest_after k old.shown → Hears new.newest y × Linked k new.shown × (new.newest ≡ newest_after k new.shown)
executes_keeps k old new x y command answer executes hears linked newest =
    let came : Came = executes.carries.came in
    let g : Given = given old.newest x executes.request came in
    let keeps : Keeps old.newest g = given_keeps old.newest x executes.request came hears in
    let is : new ≡ noted_given old g = executes.carries.notes in
    let more : Linked (newest_after k old.shown) g.shown = subst (λ (n : ℕ). Linked n g.shown) newest keeps.1 in (
      subst (λ (n : Notes). Hears n.newest y) (sym is) (subst (λ (z : Option Session). Hears (newest_after old.newest g.shown) z) (sym executes.carries.becomes) keeps.0),
      subst (λ (n : Notes). Linked k n.shown) (sym is) (linked_append k old.shown g.shown linked more),
      subst (λ (n : Notes). n.newest ≡ newest_after k n.shown) (sym is) (ap (λ (n : ℕ). newest_after n g.shown) newest ∙ sym (newest_append k old.shown g.shown)),
    )

-- a command under a label that hasn't come, or has come alone
under_behind : (name command : List ℕ) (answer : Answer) (script after : Script) (x : Option Session) (labels : List Entry) → script.labels ≡ labels → session_of labels name ≡ x → ((y : Option Session) → with_session labels name y ≡ record { name = name; session = y } ∷ []) → Hears script.notes.newest x → Behind name script → ExecutesUnder script.notes script.labels name command answer after.notes after.labels → Behind name after
under_behind name command answer script after x labels are found with hears b under =
    let executes : Executes script.notes x command answer after.notes under.session = subst (λ (z : Option Session). Executes script.notes z command answer after.notes under.session) (ap (λ (ls : List Entry). session_of ls name) are ∙ found) under.executes in
    let kept = executes_keeps 0 script.notes after.notes x under.session command answer executes hears b.linked b.newest in
    record {
      come = inr (under.session, under.labelled ∙ (ap (λ (ls : List Entry). with_session ls name under.session) are ∙ with under.session), kept.0);
      linked = kept.1;
      newest = kept.2;
    }

first_with : (name : List ℕ) (y : Option Session) → with_session [] name y ≡ record { name = name; session = y } ∷ []
first_with name y = refl

alone_with : (name : List ℕ) (x y : Option Session) → with_session (record { name = name; session = x } ∷ []) name y ≡ record { name = name; session = y } ∷ []
alone_with name x y = rw (place_alone name x) refl

alone_found : (name : List ℕ) (x : Option Session) → session_of (record { name = name; session = x } ∷ []) name ≡ x
alone_found name x = rw (place_alone name x) refl

-- the label is among the first 64
answers_if : (b : Bool) (script after : Script) (name command : List ℕ) (answer : Answer) → b ≡ true → AnswersIf b script name command answer after → ExecutesUnder script.notes script.labels name command answer after.notes after.labels
answers_if true script after name command answer is answers = answers
answers_if false script after name command answer is answers = absurd cc

command_behind : (name command : List ℕ) (answer : Answer) (script after : Script) → AnswersUnder script name command answer after → Behind name script → Behind name after
command_behind name command answer script after answers b =
    elim b.come [
      | inl none_yet ↦
          (let place : place_of script.labels name ≡ 0 = ap (λ (ls : List Entry). place_of ls name) none_yet in
          let under = answers_if _ script after name command answer (rw place refl) answers in
          under_behind name command answer script after None [] none_yet refl (first_with name) tt b under)
      | inr come ↦
          (let place : place_of script.labels name ≡ 0 = ap (λ (ls : List Entry). place_of ls name) come.1 ∙ place_alone name come.0 in
          let under = answers_if _ script after name command answer (rw place refl) answers in
          under_behind name command answer script after come.0 (record { name = name; session = come.0 } ∷ []) come.1 (alone_found name come.0) (alone_with name come.0) come.2 b under)
    ]

read_behind : (name : List ℕ) (read : Line) (script after : Script) (written : List ℕ) → StandsUnder name read → RunsRead read script written after → Behind name script → Behind name after
read_behind name l.Skipped script after written under runs b = subst (λ (s : Script). Behind name s) (sym runs.1) b
read_behind name l.Phase script after written under runs b = subst (λ (s : Script). Behind name s) (sym runs.1) b
read_behind name (l.Command label command) script after written under runs b =
    let behind = command_behind name command.now runs.answer script runs.behind (subst (λ (z : List ℕ). AnswersUnder script z command.now runs.answer runs.behind) under runs.answers) b in
    subst (λ (s : Script). Behind name s) (sym runs.told) (record { come = behind.come; linked = behind.linked; newest = behind.newest })
read_behind name l.Unlabelled script after written under runs b = subst (λ (s : Script). Behind name s) (sym runs.1) b

lines_behind : (name : List ℕ) (lines : List (List ℕ)) (script after : Script) (written : List ℕ) → All (IsUnder name) lines → RunsLines lines script written after → Behind name script → Behind name after
lines_behind name lines script after written under none b = b
lines_behind name lines script after written under (next {line = line} {lines = more} {script = s} {middle = m} {after = z} {written = w} {more = v} runs rest) b =
    lines_behind name more m z v (All-tail (IsUnder name) line more under) rest
    (read_behind name runs.read s m w (All-head (IsUnder name) line more under runs.read runs.is_read) runs.runs b)

opening_behind : (terse keeps : Bool) (name : List ℕ) → Behind name (opening_script terse keeps)
opening_behind terse keeps name = record { come = inl refl; linked = tt; newest = refl }

-- ---- records in a row

-- from this place on the records are what was shown, each on a snapshot of all before it
abbrev pub StandInRow : List Record → ℕ → List Shown → Type 0
StandInRow history p [] = Unit {0}
StandInRow history p (it ∷ more) = (part_of (record_at history p) ≡ it.part) × (it.part.snap ≡ p) × StandInRow history (suc p) more

part_there : (history : List Record) (place : ℕ) (part : Part) → option_map part_of (slice_get history place) ≡ Some part → (o : Option Record) → slice_get history place ≡ o → (place < length history) × (part_of (record_at history place) ≡ part)
part_there history place part is None at = let no : None ≡ Some part = ap (option_map part_of) (sym at) ∙ is in absurd cc
part_there history place part is (Some it) at =
    let within : place < length history = slice_get_within history place it at in
    let here : Some (record_at history place) ≡ Some it = sym (slice_get-get_or history place nobody within) ∙ at in
    let same : record_at history place ≡ it = cc in
    let told : Some (part_of it) ≡ Some part = ap (option_map part_of) (sym at) ∙ is in
    let part_is : part_of it ≡ part = cc in
    (within, ap part_of same ∙ part_is)

-- the newest number rises with each
rises : (history : List Record) (p : ℕ) (xs : List Shown) → All (IsBooked history) xs → Linked p xs → p ≤ length history → (p + length xs ≤ newest_after p xs) × (newest_after p xs ≤ length history)
rises history p [] booked linked le = (omega arith, le)
rises history p (x ∷ xs) booked linked le =
    let b = All-head (IsBooked history) x xs booked in
    let there = part_there history (x.commit - 1) x.part b.recorded (slice_get history (x.commit - 1)) refl in
    let rest = rises history (max p x.commit) xs (All-tail (IsBooked history) x xs booked) linked.1 (omega (arith, there.0, le, b.later)) in
    (omega (arith, rest.0, b.heard, b.later, linked.0), rest.1)

in_row : (history : List Record) (p : ℕ) (xs : List Shown) → All (IsBooked history) xs → Linked p xs → p + length xs ≡ length history → StandInRow history p xs
in_row history p [] booked linked all = tt
in_row history p (x ∷ xs) booked linked all =
    let b = All-head (IsBooked history) x xs booked in
    let there = part_there history (x.commit - 1) x.part b.recorded (slice_get history (x.commit - 1)) refl in
    let rest = rises history (max p x.commit) xs (All-tail (IsBooked history) x xs booked) linked.1 (omega (arith, there.0, all, b.later)) in
    let number : x.commit ≡ suc p = omega (arith, rest.0, rest.1, b.heard, b.later, linked.0, all) in
    let snap : x.part.snap ≡ p = omega (arith, number, b.heard, b.later, linked.0) in
    let place : x.commit - 1 ≡ p = omega (arith, number) in (
      subst (λ (k : ℕ). part_of (record_at history k) ≡ x.part) place there.1,
      snap,
      in_row history (suc p) xs (All-tail (IsBooked history) x xs booked) (subst (λ (n : ℕ). Linked n xs) (omega (arith, number)) linked.1) (omega (arith, all)),
    )

row_snaps : (history : List Record) (p : ℕ) (xs : List Shown) → StandInRow history p xs → (k : ℕ) → p ≤ k → k < p + length xs → (record_at history k).snap ≡ k
row_snaps history p [] row k from below = absurd (omega (arith, from, below))
row_snaps history p (x ∷ xs) row k from below =
    elim (cases_eq k p) [
      | inl same ↦ (let here : (record_at history p).snap ≡ p = ap (λ (part : Part). part.snap) row.0 ∙ row.1 in rw same here)
      | inr other ↦ row_snaps history (suc p) xs row.2 k (omega (arith, from, other)) (omega (arith, below))
    ]

-- ---- which is an order

-- so many places in a row
abbrev pub row_from : ℕ → ℕ → List ℕ
row_from p zero = []
row_from p (suc m) = p ∷ row_from (suc p) m

-- just those below are placed
abbrev PlacedBelow : (ℕ → Bool) → ℕ → Type 0
PlacedBelow placed p = (i : ℕ) → placed i ≡ ltb i p

one_more : (placed : ℕ → Bool) (p : ℕ) → PlacedBelow placed p → PlacedBelow (with_placed placed p) (suc p)
one_more placed p are i =
    elim (cases_eq i p) [
      | inl same ↦ (let here : (i == p) ≡ true = eq-eqb _ _ same in let below : ltb i (suc p) ≡ true = lt-ltb i (suc p) (omega (arith, same)) in rw here (sym below))
      | inr other ↦
          (let there : (i == p) ≡ false = ne_eqb i p other in
          elim (cases_lt i p) [
            | inl below ↦ (let one : ltb i p ≡ true = lt-ltb i p below in let more : ltb i (suc p) ≡ true = lt-ltb i (suc p) (omega (arith, below)) in rw there (are i ∙ one ∙ sym more))
            | inr past ↦ (let one : ltb i p ≡ false = le-ltb i p past in let more : ltb i (suc p) ≡ false = le-ltb i (suc p) (omega (arith, past, other)) in rw there (are i ∙ one ∙ sym more))
          ])
    ]

-- neither committed before nor read from
apart_from : (h : History) (i p : ℕ) → before h i p ≡ false → edge h i p ≡ false → precedes h i p ≡ true → i < p
apart_from h i p later unread precedes_it =
    let both : precedes h i p ≡ false = ap (λ (b : Bool). b || edge h i p) later ∙ unread in
    let clash : true ≡ false = sym precedes_it ∙ both in
    absurd cc

-- where each began just behind those before it, only these have to stand before it
before_alone : (h : History) (i p : ℕ) → h.snap i ≡ i → h.snap p ≡ p → precedes h i p ≡ true → i < p
before_alone h i p own here precedes_it =
    elim (cases_lt i p) [
      | inl below ↦ below
      | inr past ↦
          (let later : before h i p ≡ false = le-ltb i (h.snap p) (omega (arith, past, here)) in
          elim (cases_eq i p) [
            | inl same ↦ (let eq : (i == p) ≡ true = eq-eqb _ _ same in let unread : edge h i p ≡ false = rw eq refl in apart_from h i p later unread precedes_it)
            | inr other ↦ (let back : before h p i ≡ true = lt-ltb p (h.snap i) (omega (arith, past, other, own)) in let apart : (i == p) ≡ false = ne_eqb i p other in let unread : edge h i p ≡ false = rw (apart, later, back) refl in apart_from h i p later unread precedes_it)
          ])
    ]

stand_all : (h : History) (m p : ℕ) (placed : ℕ → Bool) → PlacedBelow placed p → ((k : ℕ) → k < h.count → h.snap k ≡ k) → p + m ≡ h.count → StandInTurn h placed (row_from p m)
stand_all h zero p placed are snaps all = tt
stand_all h (suc m) p placed are snaps all =
    let within : p < h.count = omega (arith, all) in
    let left : placed p ≡ false = are p ∙ le-ltb p p (omega arith) in (
      record {
        within = within;
        is_left = left;
        all_before = λ i below precedes_it. are i ∙ lt-ltb i p (before_alone h i p (snaps i below) (snaps p within) precedes_it);
      },
      stand_all h m (suc p) (with_placed placed p) (one_more placed p are) snaps (omega (arith, all)),
    )

placed_all : (m p : ℕ) (placed : ℕ → Bool) → PlacedBelow placed p → (i : ℕ) → i < p + m → placed_by placed (row_from p m) i ≡ true
placed_all zero p placed are i below = are i ∙ lt-ltb i p (omega (arith, below))
placed_all (suc m) p placed are i below = placed_all m (suc p) (with_placed placed p) (one_more placed p are) i (omega (arith, below))

none_below : PlacedBelow none_placed 0
none_below i = sym (le-ltb i 0 (omega arith))

snap_there : (history : List Record) (k : ℕ) → k < length history → (history_by history).snap k ≡ (record_at history k).snap
snap_there history k below = ap (λ (t : Transaction). t.snap) (get_or-map transaction_of history k nobody _ below)

row_is_order : (history : List Record) (xs : List Shown) → StandInRow history 0 xs → length xs ≡ length history → IsOrder (history_by history) (row_from 0 (length history))
row_is_order history xs row same =
    let h = history_by history in
    let count : h.count ≡ length history = length-map history transaction_of in
    let snaps : (k : ℕ) → k < h.count → h.snap k ≡ k = λ k below. snap_there history k (omega (arith, below, count)) ∙ row_snaps history 0 xs row k (omega arith) (omega (arith, below, count, same)) in
    record {
      in_turn = stand_all h (length history) 0 none_placed none_below snaps (omega (arith, count));
      all = λ i below. placed_all (length history) 0 none_placed none_below i (omega (arith, below, count));
    }

-- ---- and so they ran alone

explains_alone : (history : List Record) (xs : List Shown) (p : ℕ) (s : State) → StandInRow history p xs → Explains history (row_from p (length xs)) s → AreAlone s xs
explains_alone history [] p s row explains = tt
explains_alone history (x ∷ xs) p s row explains =
    let it = record_at history p in
    let effects : effects_alone (first_ctx x.part.txn x.part.begin) x.part.statements s ≡ x.part.effects = subst (λ (part : Part). effects_alone (first_ctx part.txn part.begin) part.statements s ≡ part.effects) row.0 explains.0 in
    let rest : AreAlone (state_alone (first_ctx it.txn it.begin) it.statements s) xs = explains_alone history xs (suc p) _ row.2 explains.1 in
    (effects, subst (λ (part : Part). AreAlone (state_alone (first_ctx part.txn part.begin) part.statements s) xs) row.0 rest)

-- what came in turn
pub ran_alone : (history : List Record) (shown : List Shown) → ((order : List ℕ) → IsOrder (history_by history) order → Explains history order opening) → AreTheRecords history shown → Linked 0 shown → AreAlone opening shown
ran_alone history shown explained records linked =
    let row = in_row history 0 shown records.booked linked (omega (arith, records.count)) in
    let order = row_is_order history shown row (sym records.count) in
    explains_alone history shown 0 opening row (subst (λ (n : ℕ). Explains history (row_from 0 n) opening) records.count (explained (row_from 0 (length history)) order))

-- a script of one label
pub one_label : (terse keeps : Bool) (history : List Record) (lines : List (List ℕ)) (name written : List ℕ) (after : Script) → ((order : List ℕ) → IsOrder (history_by history) order → Explains history order opening) → AreTheRecords history after.notes.shown → RunsLines lines (opening_script terse keeps) written after → All (IsUnder name) lines → AreAlone opening after.notes.shown
one_label terse keeps history lines name written after explained records runs under =
    let b = lines_behind name lines (opening_script terse keeps) after written under runs (opening_behind terse keeps name) in
    ran_alone history after.notes.shown explained records b.linked
