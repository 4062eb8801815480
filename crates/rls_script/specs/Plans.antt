-- A script in phases: its labels in the order in which they first appear, and the lines of each phase that are answered.
use Rattle.std.specs.Prelude.{◌≡◌, ℕ, Bool, true, false, cond, nat_eq, nat_lt, List, [], ◌∷◌, ◌++◌, Option, Some, None, length, codes}
use Rattle.std.specs.List.{position_or_len}
use Rattle.std.specs.Str.{bytes_eq}
use Rattle.rls_value.specs.{declared.refusal.Refusal.Refusal, declared.refusal.Limit.Limit}
use Rattle.rls_script.specs.Lines.{IsRead}
use Rattle.rls_script.specs.declared.line.Line.{Line}
use Rattle.rls_script.specs.declared.line.Line.TheVariants as l
use Rattle.rls_script.specs.declared.standing.Standing.{Standing}
use Rattle.rls_script.specs.declared.standing.Standing.TheVariants as s

-- a line that is answered: the place of its label among the script's labels, from 0, and its command
pub record Task : Type 0 where
  pub place : ℕ
  pub command : List ℕ

-- what was read: the labels in the order in which they first came, the phases before this one, and this one's lines
pub record Plan : Type 0 where
  pub names : List (List ℕ)
  pub before : List (List Task)
  pub now : List Task

-- nothing was read
abbrev pub opening_plan : Plan
opening_plan = record { names = []; before = []; now = [] }

-- all phases
abbrev pub phases_of : Plan → List (List Task)
phases_of plan = plan.before ++ plan.now ∷ []

-- the place of a label; one that hasn't come is behind them all
abbrev pub place_in : List (List ℕ) → List ℕ → ℕ
place_in names name = position_or_len (λ other. bytes_eq other name) names

-- whether it has come, at a place
abbrev pub found_at : ℕ → ℕ → Option ℕ
found_at count place = cond (nat_lt place count) (Some place) None

-- the same label twice has one place
abbrev pub with_name : List (List ℕ) → List ℕ → List (List ℕ)
with_name names name = cond (nat_lt (place_in names name) (length names)) names (names ++ name ∷ [])

-- a line under a label, behind the others of its phase
abbrev pub with_task : Plan → List ℕ → List ℕ → Plan
with_task plan name command = record { names = with_name plan.names name; before = plan.before; now = plan.now ++ record { place = place_in plan.names name; command = command } ∷ [] }

-- the next phase; where this one has no line, it is the same
abbrev pub next_phase : Plan → Plan
next_phase plan = cond (nat_eq (length plan.now) 0) plan (record { names = plan.names; before = plan.before ++ plan.now ∷ []; now = [] })

-- a line more; one without a label stands under `?`, with no command
abbrev pub with_line : Line → Plan → Plan
with_line l.Skipped plan = plan
with_line l.Phase plan = next_phase plan
with_line (l.Command label command) plan = with_task plan label.now command.now
with_line l.Unlabelled plan = with_task plan (codes "?") []

-- lines one after another
pub data ReadsLines : List (List ℕ) → Plan → Plan → Type 0 where
  none : {plan : Plan} → ReadsLines [] plan plan
  next : {line : List ℕ} {lines : List (List ℕ)} {plan after : Plan} (read : Line) → IsRead line read → ReadsLines lines (with_line read plan) after → ReadsLines (line ∷ lines) plan after

-- The standing of a label by its place, and that of `?`: `?` has no session, and of the others the first 64 have one each.
abbrev pub standing_of : (unlabelled place : ℕ) → Standing
standing_of unlabelled place = cond (nat_eq place unlabelled) s.Unlabelled (cond (nat_lt place (cond (nat_lt unlabelled place) 65 64)) s.Served s.Beyond)

-- every line under a label without a session is refused so
abbrev pub refusal_of : Standing → Refusal
refusal_of s.Unlabelled = Refusal.Syntax
refusal_of standing = Refusal.Limit Limit.Sessions
