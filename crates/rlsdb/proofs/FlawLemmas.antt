-- Which lines are none, by what a read of them says.
use Rattle.std.proofs.Common.{◌≡◌, ℕ, Bool, true, false, List, Option, Some, None, inl, inr}
use Rattle.rls_check.specs.rls_audit.specs.rls_audit_lines.specs.declared.lines.Line.{Line}
use Rattle.rls_check.specs.rls_audit.specs.rls_audit_lines.specs.Reading.{MeansLine}
use Rattle.rlsdb.specs.Flaws.{IsLineIn, SaysWhether, SaysWhetherLine}

-- a bad line of the format is none
pub bad_is_none : (second : Bool) (text : List ℕ) (n number : ℕ) → (n ≡ number) × ((it : Line) → MeansLine second text it → ⊥) → SaysWhether second text (Some false)
bad_is_none second text n number bad = λ line. bad.1 line.0 line.1

-- of both formats, where it is none of the second
pub in_either : (text : List ℕ) (n number : ℕ) (old : Option Bool) → (n ≡ number) × ((it : Line) → MeansLine true text it → ⊥) → SaysWhether false text old → SaysWhetherLine text old
in_either text n number (Some true) bad says = inr says
in_either text n number (Some false) bad says = (λ line. bad.1 line.0 line.1, says)
in_either text n number None bad says = tt
