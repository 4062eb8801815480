-- What a reader of JSON gives.
use Rattle.std.specs.Prelude.{◌≡◌, Option, Some, None, Result, Ok, Err}
use Rattle.rls_codec.specs.declared.coded.Unread.{Unread}
use Rattle.rls_codec.specs.declared.coded.Unread.TheVariants.{NoMemory, Bad}

-- it gives what is meant, seen in this way, and `Bad` exactly where nothing is, unless memory ran out
abbrev pub ReadsAs : {A B : Type 0} → (A → B) → Result A Unread → Option B → Type 0
ReadsAs seen (Ok a) meant = meant ≡ Some (seen a)
ReadsAs seen (Err Bad) meant = meant ≡ None
ReadsAs seen (Err NoMemory) meant = Unit {0}

-- it gives what is meant, and `Bad` exactly where nothing is, unless memory ran out
abbrev pub Reads : {A : Type 0} → Result A Unread → Option A → Type 0
Reads (Ok a) meant = meant ≡ Some a
Reads (Err Bad) meant = meant ≡ None
Reads (Err NoMemory) meant = Unit {0}
