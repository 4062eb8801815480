-- What could stand in a place.
use Rattle.std.specs.Prelude.{Bool, true, false, List, [], ◌∷◌}
use denote.Enum.Bare.{sameb}
use Rattle.rls_hints.specs.contracts.token.Mark.{the_type as mark_type}
use Rattle.rls_hints.specs.contracts.keyword.Keyword.{the_type as keyword_type}
use Rattle.rls_hints.specs.declared.grammar.Item.{Item}
use Rattle.rls_hints.specs.declared.grammar.Item.TheVariants as i

-- the same keyword, the same sign, or a word of the same kind
abbrev pub are_same : Item → Item → Bool
are_same (i.Word keyword) (i.Word second) = sameb keyword_type keyword second
are_same (i.Sign mark) (i.Sign second) = sameb mark_type mark second
are_same i.Name i.Name = true
are_same i.Number i.Number = true
are_same i.Text i.Text = true
are_same _ _ = false

-- it stands on top
abbrev pub has_on_top : Item → List Item → Bool
has_on_top item [] = false
has_on_top item (first ∷ rest) = are_same item first
