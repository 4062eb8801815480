-- Each event keeps what lies under the lock.
use Rattle.std.specs.Prelude.{◌≡◌, refl, ℕ, ◌+◌, slice_index_or, true, false, Option, Some, None, List, [], ◌∷◌, ◌++◌, length, Result, Ok, Err, OnOk, OnErr}
use Rattle.std.proofs.Common.{ap, sym, subst, ◌∙◌, arith, length-append}
use Rattle.rls_value.specs.declared.refusal.Refusal.{Refusal}
use Rattle.rls_value.specs.declared.refusal.Refusal.TheVariants.{NoMemory, TxnState, Serial}
use Rattle.rls_value.specs.declared.refusal.TxnState.TheVariants.{NoneInProgress}
use Rattle.rls_value.specs.declared.refusal.Cause.TheVariants as cause
use Rattle.rls_statement.specs.declared.statement.Statement.{Statement}
use Rattle.rls_core.specs.rls_access.specs.{Transactions.Begin, Transactions.may_begin}
use Rattle.rls_history.specs.Structures.{is_dangerous}
use Rattle.rls_core.specs.Records.{Record, history_by}
use Rattle.rls_core.specs.Events.{Event, Running}
use Rattle.rls_core.specs.Opened.{Looks}
use Rattle.rls_core.specs.Seen.{Seen, runs_at, newest_state, Happens}
use Rattle.rls_core.specs.Calls.{NotPosted}
use Rattle.boxcar.specs.Table.{Shelves, Where, Shows}
use Rattle.rls_engine.specs.declared.commit.Commit.{Commit}
use Rattle.rls_engine.specs.Stands.{Stand, begun_on, posted_on}
use Rattle.rls_engine.specs.Places.{ArePlaced, HasPlace, IsPlaced}
use Rattle.rls_engine.specs.Keeps.{HaveTokens, IsKept}
use Rattle.rls_engine.specs.Steps.{Fits}
use Rattle.rls_engine.specs.Views.{Hold}
use Rattle.rls_engine.proofs.TokenLemmas.{begun_tokens, token_more, posted_tokens, left_tokens, ended_tokens, committed_tokens, begin_records, post_records, rollback_records, commit_records, placed_push}

-- where each record has its place, the last one has
pub last_placed : (commits : Shelves) (committed : List Record) (tokens : List (Where Commit)) → ArePlaced commits committed tokens → HasPlace commits (length committed)
last_placed commits committed [] placed = subst (HasPlace commits) placed.count tt
last_placed commits committed (t ∷ tokens) placed =
    let it : IsPlaced commits committed (length tokens) (slice_index_or (t ∷ tokens) (length tokens) t) = placed.each (length tokens) t (omega arith) in
    subst (HasPlace commits) placed.count (slice_index_or (t ∷ tokens) (length tokens) t, it.shows, it.index)

module _ (commits steps : Shelves) (old : Seen) (total parts amount : ℕ) (tokens : List (Where Commit)) (running : List (ℕ × Where Stand)) (kept : IsKept commits steps old total parts amount tokens running) where
  -- with the same records
  with_records : (new : Seen) (running' : List (ℕ × Where Stand)) → new.committed ≡ old.committed → HaveTokens steps new running' → IsKept commits steps new total parts amount tokens running'
  with_records new running' same stand = record {
    counted = kept.counted ∙ ap length (sym same);
    parted = kept.parted;
    none_left = kept.none_left;
    placed = subst (λ (c : List Record). ArePlaced commits c tokens) (sym same) kept.placed;
    stand = stand;
  }

  pub begun_kept : (new : Seen) (running' : List (ℕ × Where Stand)) (who : Begin) (t : Where Stand) → may_begin (newest_state old.committed) who ≡ true → Happens (Event.Begins who) old new
      → Looks old.next (Some t) running running' → Shows steps t → t.value ≡ begun_on old who → IsKept commits steps new total parts amount tokens running'
  begun_kept new running' who t may is looks shows leads =
      with_records new running' (begin_records old new who may is) (begun_tokens steps old new running running' who t kept.stand may is looks shows leads)

  -- under a number that doesn't run a token changes nothing
  pub token_kept : (running' : List (ℕ × Where Stand)) (txn : ℕ) (t : Option (Where Stand)) → runs_at old txn ≡ None → Looks txn t running running' → IsKept commits steps old total parts amount tokens running'
  token_kept running' txn t none looks = with_records old running' refl (token_more steps old running running' txn t kept.stand none looks)

  -- as one begins or is refused, its token stays
  pub begins_kept : {X Y : Type 0} (new : Seen) (running' : List (ℕ × Where Stand)) (who : Begin) (t : Where Stand) (r : Result X Y) → OnOk r (may_begin (newest_state old.committed) who ≡ true) → OnOk r (Happens (Event.Begins who) old new)
      → OnErr r (new ≡ old) → runs_at old old.next ≡ None → Looks old.next (Some t) running running' → Shows steps t → t.value ≡ begun_on old who → IsKept commits steps new total parts amount tokens running'
  begins_kept new running' who t (Ok txn) may is same none looks shows leads = begun_kept new running' who t may is looks shows leads
  begins_kept new running' who t (Err why) may is same none looks shows leads =
      subst (λ (s : Seen). IsKept commits steps s total parts amount tokens running') (sym same) (token_kept running' old.next (Some t) none looks)

  pub posted_kept : (new : Seen) (running' : List (ℕ × Where Stand)) (held : Hold) (asked : Statement) (t : Where Stand) → Fits old held → Happens (Event.Posts held.txn asked) old new
      → Looks held.txn (Some t) running running' → Shows steps t → t.value ≡ posted_on held.stand asked → IsKept commits steps new total parts amount tokens running'
  posted_kept new running' held asked t fits is looks shows leads =
      with_records new running' (post_records old new held.txn asked fits.it fits.runs is)
      (posted_tokens steps old new running running' held.txn asked fits.it t kept.stand fits.runs fits.within is looks shows (leads ∙ ap (λ (s : Stand). posted_on s asked) fits.stand))

  -- whatever refuses a post, if the tokens stay
  pub refused_kept : (new : Seen) (held : Hold) (asked : Statement) (why : Refusal) → Fits old held → NotPosted held.txn asked old new why → IsKept commits steps new total parts amount tokens running
  refused_kept new held asked NoMemory fits is = subst (λ (s : Seen). IsKept commits steps s total parts amount tokens running) (sym is) kept
  refused_kept new held asked (TxnState NoneInProgress) fits is = subst (λ (s : Seen). IsKept commits steps s total parts amount tokens running) (sym is.0) kept
  refused_kept new held asked (Serial (cause.Written object other)) fits is =
      with_records new running (post_records old new held.txn asked fits.it fits.runs is.happens) (left_tokens steps old new running held.txn asked fits.it kept.stand fits.runs is.happens is.over)
  refused_kept new held asked _ fits is = absurd is

  pub ended_kept : (new : Seen) (running' : List (ℕ × Where Stand)) (txn : ℕ) → Happens (Event.RollsBack txn) old new → Looks txn None running running' → IsKept commits steps new total parts amount tokens running'
  ended_kept new running' txn is looks = with_records new running' (rollback_records old new txn is) (ended_tokens steps old new running running' txn kept.stand is looks)

  pub committed_kept : (new : Seen) (running' : List (ℕ × Where Stand)) (txn : ℕ) (one : Running) (less left : ℕ) (t : Where Commit) → runs_at old txn ≡ Some one
      → is_dangerous (history_by (old.committed ++ one.so_far ∷ [])) (length old.committed) ≡ false → Happens (Event.Commits txn) old new → Looks txn None running running'
      → less + 1 ≡ parts → left ≡ 0 → Shows commits t → t.index ≡ length old.committed → t.value.entry ≡ one.so_far → t.value.state ≡ newest_state (old.committed ++ one.so_far ∷ [])
      → IsKept commits steps new (total + 1) less left (tokens ++ t ∷ []) running'
  committed_kept new running' txn one less left t runs safe is looks fewer none shows at entry state =
      let more : new.committed ≡ old.committed ++ one.so_far ∷ [] = commit_records old new txn one runs safe is in
      let long : length new.committed ≡ length old.committed + 1 = ap length more ∙ length-append old.committed (one.so_far ∷ []) in
      record {
        counted = (let counted = kept.counted in omega (arith, counted, long));
        parted = (let parted = kept.parted in omega (arith, parted, fewer));
        none_left = none;
        placed = subst (λ (c : List Record). ArePlaced commits c (tokens ++ t ∷ [])) (sym more) (placed_push commits old.committed one.so_far tokens t kept.placed shows at entry state);
        stand = committed_tokens steps old new running running' txn one kept.stand runs safe is looks;
      }

-- what is kept, at other numbers and tokens that are the same
pub kept_at : (commits steps : Shelves) (seen seen' : Seen) (total total' parts parts' amount amount' : ℕ) (tokens tokens' : List (Where Commit)) (running running' : List (ℕ × Where Stand)) → IsKept commits steps seen total parts amount tokens running
    → seen' ≡ seen → total' ≡ total → parts' ≡ parts → amount' ≡ amount → tokens' ≡ tokens → running' ≡ running → IsKept commits steps seen' total' parts' amount' tokens' running'
kept_at commits steps seen seen' total total' parts parts' amount amount' tokens tokens' running running' kept s t p a k r =
    subst (λ (x : Seen). IsKept commits steps x total' parts' amount' tokens' running') (sym s)
    (subst (λ (x : ℕ). IsKept commits steps seen x parts' amount' tokens' running') (sym t)
    (subst (λ (x : ℕ). IsKept commits steps seen total x amount' tokens' running') (sym p)
    (subst (λ (x : ℕ). IsKept commits steps seen total parts x tokens' running') (sym a)
    (subst (λ (x : List (Where Commit)). IsKept commits steps seen total parts amount x running') (sym k)
    (subst (λ (x : List (ℕ × Where Stand)). IsKept commits steps seen total parts amount tokens x) (sym r) kept)))))
