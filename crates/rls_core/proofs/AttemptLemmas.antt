-- What is left of a transaction that is taken away.
use Rattle.std.specs.Prelude.{◌≡◌, refl, ℕ, true, Bool, Option, Some, None, List, map}
use Rattle.std.specs.Option.{option_map, is_some}
use Rattle.std.proofs.Common.{ap, sym, subst, ◌∙◌, true≢false}
use Rattle.rls_value.specs.declared.refusal.Refusal.{Refusal}
use Rattle.rls_value.specs.declared.refusal.Refusal.TheVariants.{Serial}
use Rattle.rls_conflict.specs.Begun.{at_number}
use Rattle.rls_conflict.specs.Known.{Known, running_at, is_running}
use Rattle.rls_core.specs.declared.attempt.Remains.{Remains}
use Rattle.rls_core.specs.Attempts.{LeftBy, Leaves, remains_of}
use Rattle.rls_core.specs.Calls.{is_serial}
use Rattle.rls_core.specs.Events.{Running}
use Rattle.rls_core.specs.Opened.{Opened, joined}
use Rattle.rls_core.specs.Kept.{joined_in}
use Rattle.rls_core.proofs.JoinedLemmas.{joined_there, runs_number}

-- what was kept of the one that ran
pub is_left : (known : Known) (txn : ℕ) (opens : List (ℕ × Opened)) (taken : Option Opened) → is_some (at_number txn opens) ≡ is_running known txn → taken ≡ at_number txn opens → Leaves txn (at_number txn (map (joined_in known) opens)) (option_map remains_of taken)
is_left known txn opens taken runs is = subst (λ (ran : Option Running). Leaves txn ran (option_map remains_of taken)) (sym (joined_there known txn opens taken (sym is))) (by_taken taken is)
  where
    by_taken : (it : Option Opened) → it ≡ at_number txn opens → Leaves txn (option_map (joined (running_at known txn)) it) (option_map remains_of it)
    by_taken None is_it = tt
    by_taken (Some it) is_it = record { number = runs_number known txn (sym runs ∙ ap is_some (sym is_it)); begin = refl; statements = refl; effects = refl }

-- a serialization failure leaves it
pub left_serial : (txn : ℕ) (ran : Option Running) (why : Refusal) (left : Option Remains) → is_serial why ≡ true → Leaves txn ran left → LeftBy txn ran why left
left_serial txn ran (Serial cause) left serial leaves = leaves
left_serial txn ran _ left serial leaves = absurd (true≢false (sym serial))
