-- Worked examples of footprints. Each is a theorem that computes.
use Rattle.std.specs.Prelude.{◌≡◌, refl, pos, List, [], ◌∷◌, false, codes}
use Rattle.rls_catalog.specs.rls_value.specs.declared.object.Object.{Object}
use Rattle.rls_catalog.specs.rls_value.specs.declared.object.Object.TheVariants as o
use Rattle.rls_catalog.specs.rls_value.specs.declared.value.Value.TheVariants as v
use Rattle.rls_source.specs.Footprints.{footprint_of, is_among}

-- the rows of t, the role alice, the key 2 of t, the rows of t once more, the key 1 of t
abbrev reads : List Object
reads = o.Rows (codes "t") ∷ o.Role (codes "alice") ∷ o.Key (codes "t") (v.Int (pos 2) ∷ []) ∷ o.Rows (codes "t") ∷ o.Key (codes "t") (v.Int (pos 1) ∷ []) ∷ []

-- each once: roles before rows, rows before keys, keys by their values
each_once_in_order : footprint_of reads ≡ o.Role (codes "alice") ∷ o.Rows (codes "t") ∷ o.Key (codes "t") (v.Int (pos 1) ∷ []) ∷ o.Key (codes "t") (v.Int (pos 2) ∷ []) ∷ []
each_once_in_order = refl

-- a key that wasn't read isn't in it, although the rows of its table are
unread_key : is_among (footprint_of reads) (o.Key (codes "t") (v.Int (pos 3) ∷ [])) ≡ false
unread_key = refl
