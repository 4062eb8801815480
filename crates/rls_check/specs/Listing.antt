-- What `order --long` writes: the transactions of an audit along its order, each with what its statements come to where all run alone.
use Rattle.std.specs.Prelude.{◌≡◌, refl, ◌⊎◌, ◌<◌, ◌+◌, ◌^◌, ℕ, Bool, true, not, nat_eq, List, [], ◌∷◌, ◌++◌, map, filter, codes, if◌then◌else◌, Option, Some, None}
use Rattle.std.specs.Coded.{Coded, code_by, coded×, coded_list, coded_ℕ}
use Rattle.std.specs.Fmt.{decimal}
use Rattle.std.specs.List.{AllByRecursion, flat_map}
use Rattle.rls_catalog.specs.State.{State}
use Rattle.rls_catalog.specs.StateCode.{state_code}
use Rattle.rls_catalog.specs.Changed.{opening}
use Rattle.rls_statement.specs.{declared.statement.Statement.Statement, Tags.tag_of}
use Rattle.rls_explain.specs.rls_meaning.specs.rls_guard.specs.{declared.context.Ctx.Ctx, declared.context.Mode.Mode, declared.effect.Effect.Effect}
use Rattle.rls_explain.specs.rls_meaning.specs.rls_guard.specs.declared.context.Mode.TheVariants as m
use Rattle.rls_audit.specs.Printed.{printed_text}
use Rattle.rls_check.specs.declared.finding.Finding.{Finding}
use Rattle.rls_check.specs.declared.finding.Finding.TheVariants as f
use Rattle.rls_check.specs.declared.listing.Listed.{Listed}
use Rattle.rls_check.specs.declared.shown_texts.Ending.{Ending}
use Rattle.rls_check.specs.declared.shown_texts.Ending.TheVariants as e
use Rattle.rls_check.specs.contracts.transaction.Transaction as transaction
use Rattle.rls_check.specs.declared.transaction.Transaction.{Transaction}
use Rattle.rls_check.specs.declared.walking.Turn.{Turn}
use Rattle.rls_check.specs.Audited.{transaction_at}
use Rattle.rls_check.specs.Checking.{ctx_of, state_behind, numbers_of, IsNoOrder, IsPlaced}
use Rattle.rls_audit.specs.rls_printing.specs.Escaped.{escaped_text}
use Rattle.rls_check.specs.ShownAudits.{FirstDiffers}
use Rattle.rls_check.specs.Walking.{Standing, standings_alone, standings_along}
use Rattle.rls_check.specs.WhyTexts.{came_text, ended_line}

-- ---- lines

-- whether it may write
abbrev pub mode_word : Mode → List ℕ
mode_word m.Read = codes "read"
mode_word m.Write = codes "write"

-- the number of a transaction's commit, how many had committed when it began, as whom it began, and whether it may write
abbrev pub begin_line : ℕ → Transaction → List ℕ
begin_line commit it =
    codes "  commit " ++ (decimal commit ++ (codes " snap " ++ (decimal it.snap ++ (codes " login " ++ (it.begin.login ++ (codes " role " ++ (it.begin.role ++ (codes " " ++ mode_word it.begin.mode))))))))

-- the number of a statement, the role that it is run in, and the statement
abbrev pub asked_line : ℕ → Ctx → Statement → List ℕ
asked_line number ctx asked = codes "  " ++ (decimal number ++ (codes " " ++ (ctx.role ++ (codes ": " ++ printed_text asked))))

-- what it comes to
abbrev pub came_line : Statement → Effect → List ℕ
came_line asked effect = codes "    " ++ came_text (tag_of asked) effect

-- the lines of a statement
abbrev pub statement_lines : ℕ → Ctx → Statement → Effect → List (List ℕ)
statement_lines number ctx asked effect = escaped_text (asked_line number ctx asked) ∷ escaped_text (came_line asked effect) ∷ []

abbrev pub standing_lines : Standing → List (List ℕ)
standing_lines it = statement_lines it.number it.ctx it.shown.statement it.effect

-- those of a transaction, with these statements; the first is its number, as `order` writes it
abbrev pub transaction_lines : ℕ → Transaction → List Standing → List (List ℕ)
transaction_lines place it standings = decimal it.txn ∷ escaped_text (begin_line (place + 1) it) ∷ flat_map standing_lines standings

-- its statements, run alone from the state
abbrev pub standings_at : List Transaction → State → ℕ → List Standing
standings_at transactions s place = let it = transaction_at transactions place in standings_alone place 1 (ctx_of it) s it.answers

abbrev pub lines_at : List Transaction → State → ℕ → List (List ℕ)
lines_at transactions s place = transaction_lines place (transaction_at transactions place) (standings_at transactions s place)

-- those of the transactions at the places, run alone one after another from the state
abbrev pub lines_along : List Transaction → State → List ℕ → List (List ℕ)
lines_along transactions s [] = []
lines_along transactions s (place ∷ places) = lines_at transactions s place ++ lines_along transactions (state_behind (transaction_at transactions place) s) places

-- lines, each with its end
abbrev pub ended_all : List (List ℕ) → List ℕ
ended_all lines = flat_map ended_line lines

-- ---- a listing

-- what is still to be listed: the transactions at these places, along the order, and the state that those before them leave
pub record Unlisted : Type 0 where
  pub transactions : List Transaction
  pub state : State
  pub places : List ℕ

-- the code of these
abbrev pub unlisted_code : Coded Unlisted
unlisted_code =
    code_by (List Transaction × (State × List ℕ)) (coded× (coded_list transaction.the_row.coded) (coded× state_code (coded_list coded_ℕ))) (λ it. (it.transactions, (it.state, it.places)))
    (λ p. record { transactions = p.0; state = p.1.0; places = p.1.1 }) (λ _. refl)

-- what was found before, or else this
abbrev pub first_or : Option Finding → Option Finding → Option Finding
first_or (Some found) other = Some found
first_or None other = other

-- that the turn's statement comes to another answer than the audit shows, unless it agrees
abbrev pub differing : Turn → Option Finding
differing turn = if turn.agrees then None else Some (f.Reply turn.ctx.txn turn.number)

-- the transaction at the place, run from the state, and the state that it leaves
pub record IsListedAt (transactions : List Transaction) (s : State) (place : ℕ) (it : Listed) (after : State) : Type 0 where
  pub text : it.text.items ≡ ended_all (lines_at transactions s place)
  pub differs : FirstDiffers (standings_at transactions s place) it.differs
  pub leaves : after ≡ state_behind (transaction_at transactions place) s

-- the first of the transactions at the places is listed, and the others are left
abbrev pub IsFirstListed : List Transaction → State → List ℕ → Listed → Unlisted → Type 0
IsFirstListed transactions s [] it after = ⊥
IsFirstListed transactions s (place ∷ places) it after =
    IsListedAt transactions s place it after.state × (after.transactions ≡ transactions) × (after.places ≡ places)

-- the same of what is still to be listed
abbrev pub IsNextListed : Unlisted → Listed → Unlisted → Type 0
IsNextListed before it after = IsFirstListed before.transactions before.state before.places it after

-- those along an order of these numbers, from the opening state; none where they are no order
abbrev pub IsListing : List Transaction → List ℕ → Option Unlisted → Type 0
IsListing transactions numbers None = IsNoOrder transactions numbers
IsListing transactions numbers (Some it) = IsPlaced transactions numbers it.places × (it.transactions ≡ transactions) × (it.state ≡ opening)

-- ---- an audit

-- what is written of an audit, and how it ends; nothing where the numbers are no order
abbrev pub IsLong : List Transaction → List ℕ → List ℕ → Ending → Type 0
IsLong transactions numbers written ending =
    ((places : List ℕ) × IsPlaced transactions numbers places × (written ≡ ended_all (lines_along transactions opening places))
    × ((found : Option Finding) × FirstDiffers (standings_along transactions opening places) found × (ending ≡ e.Walked found)))
    ⊎ (IsNoOrder transactions numbers × (written ≡ []) × (ending ≡ e.NoOrder))

-- ---- a law

-- a line begins with no blank
abbrev pub is_unindented : List ℕ → Bool
is_unindented [] = true
is_unindented (byte ∷ bytes) = not (nat_eq byte 32)

-- the lines that begin with no blank are the numbers of the transactions, in their order
abbrev pub NumbersStandOut : Type 0
NumbersStandOut =
    (transactions : List Transaction) (s : State) (places : List ℕ) → AllByRecursion (λ place. (transaction_at transactions place).txn < 2 ^ 64) places
    → filter is_unindented (lines_along transactions s places) ≡ map decimal (numbers_of transactions places)
