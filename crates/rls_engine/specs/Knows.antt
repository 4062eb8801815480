-- What receipts and callers' knowledge say.
use Rattle.std.specs.Prelude.{◌≡◌, ℕ, ◌+◌, ◌==◌, true, false, max, if◌then◌else◌, MatchBool}
use Rattle.rls_core.specs.Records.{Record}
use Rattle.boxcar.specs.Table.{Shelves, Where, Shows}
use Rattle.rls_engine.specs.declared.commit.Commit.{Commit}
use Rattle.rls_engine.specs.Views.{Watch, Proof}

-- the token is of the number's place
abbrev pub IsOf : Shelves → ℕ → Where Commit → Type 0
IsOf commits number t = Shows commits t × (t.index + 1 ≡ number)

-- the receipt without its share
abbrev pub spent : Proof → Proof
spent r = record { tag = r.tag; number = r.number; role = r.role; entry = r.entry; fresh = false }

-- a receipt of this tag raises the number, and counts once; one of another tag changes nothing
abbrev pub Learns : Watch → Proof → Watch → Proof → Type 0
Learns old r new left =
    MatchBool (old.tag == r.tag)
    ((new ≡ record { tag = old.tag; number = max old.number r.number; told = old.told + (if r.fresh then 1 else 0) }) × (left ≡ spent r))
    ((new ≡ old) × (left ≡ r))

-- the number is the greater of both, and the counts are added up here; of another tag nothing changes
abbrev pub Joins : Watch → Watch → Watch → Watch → Type 0
Joins old other new left =
    MatchBool (old.tag == other.tag)
    ((new ≡ record { tag = old.tag; number = max old.number other.number; told = old.told + other.told }) × (left ≡ record { tag = other.tag; number = other.number; told = 0 }))
    ((new ≡ old) × (left ≡ other))
