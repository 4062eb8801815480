-- What is listed of a transaction, and which of its lines begin with no blank.
use Rattle.std.specs.Prelude.{◌≡◌, refl, ◌+◌, ◌<◌, ◌≤◌, ◌^◌, ℕ, suc, Bool, true, false, List, [], ◌∷◌, ◌++◌, map, filter, length, drop, get_or, nat_eq, Option, Some, None, if◌then◌else◌}
use Rattle.std.specs.Fmt.{decimal}
use Rattle.std.specs.Int.{IsInRange}
use Rattle.std.specs.List.{All, flat_map}
use Rattle.std.specs.Str.Parse.{AllDigits, digits_value}
use Rattle.std.proofs.Common.{ap, sym, ◌∙◌, subst, arith, inl, inr, append_assoc, append-nil}
use Rattle.std.proofs.lemmas.Bool.{true≢false}
use Rattle.std.proofs.lemmas.Bool.Decides.{nat_tests}
use Rattle.std.proofs.lemmas.Fmt.{digits_decimal}
use Rattle.std.proofs.lemmas.Grind.{flat_map-append}
use Rattle.std.proofs.lemmas.List.{drop_all, drop_more}
use Rattle.std.proofs.lemmas.List.Elements.{All-get_or, filter-append}
use Rattle.std.proofs.lemmas.Str.Parse.{IsNumeralModel, tells_digits}
use Rattle.rls_catalog.specs.State.{State}
use Rattle.rls_audit.specs.rls_core.specs.Alone.{state_alone}
use Rattle.rls_check.specs.declared.finding.Finding.{Finding}
use Rattle.rls_check.specs.declared.finding.Finding.TheVariants as f
use Rattle.rls_check.specs.declared.listing.Listed.{Listed}
use Rattle.rls_check.specs.declared.transaction.Answer.{Answer}
use Rattle.rls_check.specs.declared.transaction.Transaction.{Transaction}
use Rattle.rls_check.specs.declared.walking.Running.{Running}
use Rattle.rls_check.specs.declared.walking.Turn.{Turn}
use Rattle.rls_check.specs.Audited.{asked_of, transaction_at}
use Rattle.rls_check.specs.Checking.{IsPlaced, ctx_of, state_behind}
use Rattle.rls_audit.specs.rls_printing.specs.Escaped.{escaped_text}
use Rattle.rls_check.specs.Listing.{IsFirstListed, IsListedAt, NumbersStandOut, begin_line, differing, ended_all, first_or, is_unindented, lines_along, lines_at, standing_lines, standings_at, statement_lines}
use Rattle.rls_check.specs.ShownAudits.{FirstDiffers}
use Rattle.rls_check.specs.WhyTexts.{ended_line}
use Rattle.rls_check.specs.Walking.{IsNext, IsTurn, Standing, left_alone, standings_alone, state_to_come}

-- ---- one statement more

-- the statement comes to what the audit shows of it, and what differs among the others differs first; or it does
first_here : (so : Bool) (turn : Turn) (standing : Standing) (others : List Standing) (rest : Option Finding) → turn.agrees ≡ so → IsTurn standing turn → FirstDiffers others rest
    → FirstDiffers (standing ∷ others) (first_or (if so then None else Some (f.Reply turn.ctx.txn turn.number)) rest)
first_here true turn standing others rest agrees is differs = inl (is.agrees.0 agrees, differs)
first_here false turn standing others rest agrees is differs =
    inr ((λ answers. true≢false (sym (is.agrees.1 answers) ∙ agrees)), λ i. Some (f.Reply (is.ctx i).txn (is.number i)))

or_first : (found other rest : Option Finding) → first_or (first_or found other) rest ≡ first_or found (first_or other rest)
or_first (Some found) other rest = refl
or_first None other rest = refl

or_none : (found : Option Finding) → first_or found None ≡ found
or_none (Some found) = refl
or_none None = refl

-- what is found of the statements that are left leads to what is found of all
pub found_on : (turn : Turn) (before after whole : List Standing) (found again : Option Finding) → IsNext before turn after → again ≡ first_or found (differing turn)
    → ((rest : Option Finding) → FirstDiffers before rest → FirstDiffers whole (first_or found rest)) → (rest : Option Finding) → FirstDiffers after rest → FirstDiffers whole (first_or again rest)
found_on turn [] after whole found again is first so_far rest differs = absurd is
found_on turn (standing ∷ others) after whole found again is first so_far rest differs =
    subst (FirstDiffers whole) (sym (or_first found (differing turn) rest) ∙ ap (λ it. first_or it rest) (sym first))
    (so_far (first_or (differing turn) rest) (first_here turn.agrees turn standing others rest refl is.0 (subst (λ standings. FirstDiffers standings rest) is.1 differs)))

pub found_all : (left whole : List Standing) (found : Option Finding) → left ≡ [] → ((rest : Option Finding) → FirstDiffers left rest → FirstDiffers whole (first_or found rest)) → FirstDiffers whole found
found_all left whole found none so_far = subst (FirstDiffers whole) (or_none found) (so_far None (subst (λ standings. FirstDiffers standings None) (sym none) refl))

-- the lines of a turn are those of its statement
turn_lines : (standing : Standing) (turn : Turn) → IsTurn standing turn → standing_lines standing ≡ statement_lines turn.number turn.ctx turn.statement turn.outcome.effect
turn_lines standing turn is = λ i. statement_lines (sym is.number i) (sym is.ctx i) (sym is.statement i) (sym is.effect i)

-- what is written, and what is written of the statements that are left, make the whole
pub written_on : (turn : Turn) (before after : List Standing) (old new whole : List ℕ) → IsNext before turn after
    → new ≡ old ++ ended_all (statement_lines turn.number turn.ctx turn.statement turn.outcome.effect) → old ++ ended_all (flat_map standing_lines before) ≡ whole
    → new ++ ended_all (flat_map standing_lines after) ≡ whole
written_on turn [] after old new whole is grew so_far = absurd is
written_on turn (standing ∷ others) after old new whole is grew so_far =
    let lines = statement_lines turn.number turn.ctx turn.statement turn.outcome.effect in
    (λ i. grew i ++ ended_all (flat_map standing_lines (is.1 i)))
    ∙ append_assoc old (ended_all lines) (ended_all (flat_map standing_lines others))
    ∙ ap (λ bytes. old ++ bytes) (sym (flat_map-append ended_line lines (flat_map standing_lines others)))
    ∙ ap (λ first. old ++ ended_all (first ++ flat_map standing_lines others)) (sym (turn_lines standing turn is.0)) ∙ so_far

pub written_all : (left : List Standing) (bytes whole : List ℕ) → left ≡ [] → bytes ++ ended_all (flat_map standing_lines left) ≡ whole → bytes ≡ whole
written_all left bytes whole none so_far = sym (append-nil bytes) ∙ ap (λ rest. bytes ++ ended_all (flat_map standing_lines rest)) (sym none) ∙ so_far

pub fewer_left : (turn : Turn) (before after : List Standing) → IsNext before turn after → length after < length before
fewer_left turn [] after is = absurd is
fewer_left turn (standing ∷ others) after is = subst (λ standings. length standings < suc (length others)) (sym is.1) (omega arith)

-- ---- the end of a transaction

pub none_alone : (it : Running) → length it.answers ≤ it.given → left_alone it ≡ []
none_alone it end = ap (λ (rest : List Answer). standings_alone it.place (it.given + 1) it.ctx it.state rest) (drop_all it.given it.answers end)

pub state_there : (it : Running) → length it.answers ≤ it.given → state_to_come it ≡ it.state
state_there it end = ap (λ (rest : List Answer). state_alone it.ctx (asked_of rest) it.state) (drop_all it.given it.answers end)

-- ---- one transaction more

-- the first two lines of a transaction at the place
abbrev first_lines : ℕ → Transaction → List (List ℕ)
first_lines place it = decimal it.txn ∷ escaped_text (begin_line (place + 1) it) ∷ []

-- what differs among the statements of a transaction that runs
pub differs_so : (running : Running) (standings : List Standing) (found : Option Finding) → left_alone running ≡ standings → FirstDiffers (left_alone running) found → FirstDiffers standings found
differs_so running standings found is differs = subst (λ them. FirstDiffers them found) is differs

-- what is put of them
pub text_so : (running : Running) (standings : List Standing) (old new : List ℕ) → left_alone running ≡ standings → new ≡ old ++ ended_all (flat_map standing_lines (left_alone running)) → new ≡ old ++ ended_all (flat_map standing_lines standings)
text_so running standings old new is grew = grew ∙ ap (λ them. old ++ ended_all (flat_map standing_lines them)) is

-- it is listed, where what is put of it and of its statements is all that is put
pub listed_at : (transactions : List Transaction) (s state : State) (place : ℕ) (transaction : Transaction) (it : Listed) (front : List ℕ) → transaction ≡ transaction_at transactions place
    → front ≡ ended_all (decimal transaction.txn ∷ escaped_text (begin_line (place + 1) transaction) ∷ []) → it.text.items ≡ front ++ ended_all (flat_map standing_lines (standings_alone place 1 (ctx_of transaction) s transaction.answers))
    → FirstDiffers (standings_alone place 1 (ctx_of transaction) s transaction.answers) it.differs → state ≡ state_behind transaction s → IsListedAt transactions s place it state
listed_at transactions s state place transaction it front is first rest differs ends =
    let own = λ (x : Transaction). standings_alone place 1 (ctx_of x) s x.answers in
    record {
      text = rest ∙ ap (λ bytes. bytes ++ ended_all (flat_map standing_lines (own transaction))) first ∙ sym (flat_map-append ended_line (first_lines place transaction) (flat_map standing_lines (own transaction)))
          ∙ ap (λ (x : Transaction). ended_all (first_lines place x ++ flat_map standing_lines (own x))) is;
      differs = subst (λ (x : Transaction). FirstDiffers (own x) it.differs) is differs;
      leaves = ends ∙ ap (λ (x : Transaction). state_behind x s) is;
    }

pub within : (transactions : List Transaction) (numbers places : List ℕ) → IsPlaced transactions numbers places → All (λ place. place < length transactions) places
within transactions numbers places placed = placed.within

-- the transaction that comes next is one of them
pub within_next : (transactions : List Transaction) (places : List ℕ) (listed place : ℕ) → All (λ place. place < length transactions) places → listed < length places → place ≡ get_or places listed 0 → place < length transactions
within_next transactions places listed place all there is = subst (λ it. it < length transactions) (sym is) (All-get_or (λ place. place < length transactions) places listed 0 there all)

-- the place that comes next, and those behind it
places_next : (places : List ℕ) (listed place : ℕ) → listed < length places → place ≡ get_or places listed 0 → drop listed places ≡ place ∷ drop (listed + 1) places
places_next places listed place there is = drop_more places listed 0 there ∙ ap (λ it. it ∷ drop (listed + 1) places) (sym is)

pub next_listed : (transactions : List Transaction) (s after : State) (places : List ℕ) (listed place : ℕ) (it : Listed) → listed < length places → place ≡ get_or places listed 0 → IsListedAt transactions s place it after
    → IsFirstListed transactions s (drop listed places) it (record { transactions = transactions; state = after; places = drop (listed + 1) places })
next_listed transactions s after places listed place it there is at =
    subst (λ left. IsFirstListed transactions s left it (record { transactions = transactions; state = after; places = drop (listed + 1) places })) (sym (places_next places listed place there is))
    (at, refl, refl)

pub none_listed : (places : List ℕ) (listed : ℕ) → length places ≤ listed → drop listed places ≡ []
none_listed places listed all = drop_all listed places all

-- ---- the lines that begin with no blank

own : IsNumeralModel (AllDigits 10) (digits_value 10)
own = record { to = λ ds are. are; from = λ ds are. are; same = λ ds are. refl }

digit_is_no_blank : (c : ℕ) → IsInRange 48 57 c → nat_eq c 32 ≡ false
digit_is_no_blank c within = grind (arith, nat_tests)

digits_stand_out : (ds : List ℕ) → AllDigits 10 ds → is_unindented ds ≡ true
digits_stand_out [] are = refl
digits_stand_out (d ∷ ds) are = rw (digit_is_no_blank d (tells_digits.parts d ds are).0) refl

number_stands_out : (n : ℕ) → n < 2 ^ 64 → is_unindented (decimal n) ≡ true
number_stands_out n small = digits_stand_out (decimal n) (digits_decimal own n small)

statements_stand_in : (standings : List Standing) → filter is_unindented (flat_map standing_lines standings) ≡ []
statements_stand_in [] = refl
statements_stand_in (standing ∷ standings) = statements_stand_in standings

transaction_stands_out : (transactions : List Transaction) (s : State) (place : ℕ) → (transaction_at transactions place).txn < 2 ^ 64
    → filter is_unindented (lines_at transactions s place) ≡ decimal (transaction_at transactions place).txn ∷ []
transaction_stands_out transactions s place small =
    rw (number_stands_out (transaction_at transactions place).txn small) (ap (λ rest. decimal (transaction_at transactions place).txn ∷ rest) (statements_stand_in (standings_at transactions s place)))

pub numbers_stand_out : NumbersStandOut
numbers_stand_out transactions s [] small = refl
numbers_stand_out transactions s (place ∷ places) small =
    let after = state_behind (transaction_at transactions place) s in
    filter-append is_unindented (lines_at transactions s place) (lines_along transactions after places)
    ∙ (λ i. transaction_stands_out transactions s place small.0 i ++ numbers_stand_out transactions after places small.1 i)
