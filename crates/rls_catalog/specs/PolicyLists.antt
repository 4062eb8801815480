-- The policies of a table: in byte order of their names, each name once; with one more, with one exchanged, without one.
use Rattle.std.specs.Prelude.{ℕ, List, Bool, not, map, filter, if◌then◌else◌}
use Rattle.std.specs.List.{insert, list_any, position_or_len}
use Rattle.std.specs.List.Sorted.{IsStrictlySortedBy}
use Rattle.std.specs.Ordering.{is_lt}
use Rattle.std.specs.Str.{bytes_eq}
use Rattle.rls_expr.specs.declared.policy.Policy.{Policy}
use Rattle.shared_map.specs.Lists.{with_item}
use Rattle.rls_catalog.specs.State.{name_order}

-- their names ascend
abbrev pub InNameOrder : List Policy → Type 0
InNameOrder policies = IsStrictlySortedBy name_order (map (λ policy. policy.name) policies)

-- it is the policy of that name
abbrev pub is_named : List ℕ → Policy → Bool
is_named name policy = bytes_eq policy.name name

-- whether a policy of that name is there
abbrev pub has_policy : List Policy → List ℕ → Bool
has_policy policies name = list_any (is_named name) policies

-- its name is the greater one
abbrev pub is_after : Policy → Policy → Bool
is_after policy other = is_lt (name_order policy.name other.name)

-- the policies with one more, in its place by the bytes of its name
abbrev pub with_policy : List Policy → Policy → List Policy
with_policy policies policy = insert policies (position_or_len (is_after policy) policies) policy

-- the policies but for that one, in their order
abbrev pub without_policy : List Policy → List ℕ → List Policy
without_policy policies name = filter (λ policy. not (is_named name policy)) policies

abbrev pub replaced_if_named : Policy → Policy → Policy
replaced_if_named policy other = if is_named policy.name other then policy else other

-- the policies with this one where that of its name stood
abbrev pub with_replaced : List Policy → Policy → List Policy
with_replaced policies policy = map (replaced_if_named policy) policies

-- the policies with this one in its place, or where that of its name stood
abbrev pub with_one : List Policy → Policy → List Policy
with_one policies policy = with_item name_order (λ p. p.name) policies policy
