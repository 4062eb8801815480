-- Numbers, parts and objects in texts.
use Rattle.std.specs.Prelude.{ℕ, Bool, ◌+◌, ◌*◌, ◌-◌, ◌^◌, List, [], ◌∷◌, length, nat_lt, ◌&&◌, ◌==◌, Option, Some, None, option_map, option_and_then, codes, if◌then◌else◌}
use Rattle.std.specs.Char.{is_ascii_digit}
use Rattle.std.specs.List.{list_all}
use Rattle.rls_value.specs.declared.object.Object.{Object}
use Rattle.rls_value.specs.declared.object.Object.TheVariants as o
use Rattle.rls_value.specs.declared.row.RowId.{RowId}
use Rattle.rls_codec.specs.Looking.{found_where, below}
use Rattle.rls_audit_lines.specs.NamesFound.{name_found}

-- ---- numbers

-- digits alone
abbrev pub are_digits : List ℕ → Bool
are_digits ds = list_all is_ascii_digit ds

-- with the digits behind what was read
abbrev pub read_on : ℕ → List ℕ → ℕ
read_on n [] = n
read_on n (c ∷ cs) = read_on (10 * n + (c - 48)) cs

-- the number of 64 bits that the digits write
abbrev pub number_found : List ℕ → Option ℕ
number_found ds = found_where (are_digits ds && (nat_lt 0 (length ds) && nat_lt (read_on 0 ds) (2 ^ 64))) (Some (read_on 0 ds))

-- ---- parts

-- behind one more byte
abbrev pub behind_byte : ℕ → List ℕ × List ℕ → List ℕ × List ℕ
behind_byte b p = (b ∷ p.0, p.1)

-- what stands before the first such byte, and behind it
abbrev pub cut_at : ℕ → List ℕ → Option (List ℕ × List ℕ)
cut_at c [] = None
cut_at c (b ∷ bs) = if b == c then Some ([], bs) else option_map (behind_byte b) (cut_at c bs)

-- what stands behind the prefix
abbrev pub stripped : List ℕ → List ℕ → Option (List ℕ)
stripped [] t = Some t
stripped (p ∷ ps) [] = None
stripped (p ∷ ps) (b ∷ bs) = if b == p then stripped ps bs else None

-- the number of a row, once its parts are read
abbrev pub id_of : Option ℕ → Option ℕ → Option RowId
id_of (Some txn) (Some n) = option_map (λ m. record { txn = txn; n = m }) (below (2 ^ 32) n)
id_of _ _ = None

-- the number of a row
abbrev pub row_id_found : List ℕ → Option RowId
row_id_found t = option_and_then (λ p. id_of (number_found p.0) (number_found p.1)) (cut_at 46 t)

-- ---- objects

-- a row of a table
abbrev pub row_named : Option (List ℕ) → Option RowId → Option Object
row_named (Some table) (Some id) = Some (o.RowOf table id)
row_named _ _ = None

-- the number, and behind a blank and `of` the table
abbrev pub row_behind : ℕ → List ℕ × List ℕ → Option Object
row_behind txn p = row_named (option_and_then name_found (stripped (codes "of ") p.1)) (id_of (Some txn) (number_found p.0))

-- the number's two parts, and the table
abbrev pub row_found : List ℕ → Option Object
row_found t = option_and_then (λ p. option_and_then (λ txn. option_and_then (row_behind txn) (cut_at 32 p.1)) (number_found p.0)) (cut_at 46 t)

-- an object of that name
abbrev pub named : (List ℕ → Object) → List ℕ → Option Object
named kind t = option_map kind (name_found t)

-- what is made of what stands behind the prefix, where it stands there
abbrev pub or_else : {B : Type 0} → Option (List ℕ) → (List ℕ → Option B) → Option B → Option B
or_else None f other = other
or_else (Some rest) f other = f rest

-- the object of a change
abbrev pub object_found : List ℕ → Option Object
object_found t = or_else (stripped (codes "role ") t) (named (λ n. o.Role n)) (or_else (stripped (codes "members of ") t) (named (λ n. o.Members n)) (or_else (stripped (codes "table ") t) (named (λ n. o.Table n)) (or_else (stripped (codes "grants on ") t) (named (λ n. o.Grants n)) (or_else (stripped (codes "policies on ") t) (named (λ n. o.Policies n)) (or_else (stripped (codes "row ") t) row_found None)))))
