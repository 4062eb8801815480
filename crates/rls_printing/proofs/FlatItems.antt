-- What a statement selects or returns is no higher than a leaf, where some text spells the statement.
use Rattle.std.proofs.Common.{ℕ, ◌≤◌, false, List, [], ◌∷◌, Option, Some, None, sym, subst, arith}
use Rattle.std.specs.Prelude.{codes}
use Rattle.rls_expr.specs.Terms.{Term, Literal, Column, CurrentUser, terms_of}
use Rattle.rls_statement.specs.{declared.changing.Update.Update, declared.changing.Delete.Delete, declared.statement.Insert.Insert, declared.statement.Select.Select, declared.statement.Selected.Selected, declared.statement.Statement.Statement}
use Rattle.rls_statement.specs.declared.statement.Selected.TheVariants as chosen
use Rattle.rls_statement.specs.declared.statement.Statement.TheVariants as st
use Rattle.rls_text.specs.declared.token.Symbol.TheVariants as s
use Rattle.rls_text.specs.{declared.token.Token.Token, Cut.Cut, Cutting.tree_of, Grammar.Spells, Rule.with_comma, FirstSets.expr_heads, FirstSets.expr_more, Heights.height, Heights.heights, Writes.joined, Writes.or_else, Writes.many_writes}
use Rattle.rls_text.specs.declared.token.Token.TheVariants as t
use Rattle.rls_text.specs.Grammar as g
use Rattle.rls_printing.proofs.{Writing.There, Writing.there_parts, SpelledStatements.spelled_written}

-- the highest of the items
abbrev pub chosen_height : Selected → ℕ
chosen_height chosen.All = 0
chosen_height chosen.Count = 0
chosen_height (chosen.Items xs) = heights (terms_of xs)

-- the same of what is returned
abbrev pub returned_height : Option Selected → ℕ
returned_height None = 0
returned_height (Some x) = chosen_height x

-- of what the statement selects or returns
abbrev pub items_height : Statement → ℕ
items_height (st.Select x) = chosen_height x.items
items_height (st.Insert x) = returned_height x.returning
items_height (st.Update x) = returned_height x.returning
items_height (st.Delete x) = returned_height x.returning
items_height _ = 0

-- ---- what is written has flat items

item_flat : (x : Term) → There (g.item.prints.writes x) → height x ≤ 1
unfolding g.item
item_flat (Literal x) h = omega arith
item_flat (Column x) h = omega arith
item_flat CurrentUser h = omega arith
item_flat _ h = absurd h

more_flat : (xs : List Term) → There (many_writes (with_comma g.item).spells (with_comma g.item).prints xs) → heights (terms_of xs) ≤ 1
unfolding with_comma
more_flat [] h = omega arith
more_flat (x ∷ xs) h =
    let a = there_parts (joined (Some (t.Symbol s.Comma ∷ [])) (g.item.prints.writes x)) (many_writes (with_comma g.item).spells (with_comma g.item).prints xs) h in
    let one = item_flat x (there_parts (Some (t.Symbol s.Comma ∷ [])) (g.item.prints.writes x) a.0).1 in
    let others = more_flat xs a.1 in
    omega (arith, one, others)

list_flat : (xs : List Term) → There (g.item_list.prints.writes xs) → heights (terms_of xs) ≤ 1
unfolding g.item_list
list_flat [] h = absurd h
list_flat (x ∷ xs) h =
    let a = there_parts (g.item.prints.writes x) (many_writes (with_comma g.item).spells (with_comma g.item).prints xs) h in
    let one = item_flat x a.0 in
    let others = more_flat xs a.1 in
    omega (arith, one, others)

chosen_flat : (x : Selected) → There (g.items.prints.writes x) → chosen_height x ≤ 1
unfolding g.items g.count g.selected_items
chosen_flat chosen.All h = omega arith
chosen_flat chosen.Count h = omega arith
chosen_flat (chosen.Items xs) h = list_flat xs h

returned_flat : (x : Selected) → There (g.returned.prints.writes x) → chosen_height x ≤ 1
unfolding g.returned
returned_flat chosen.All h = omega arith
returned_flat chosen.Count h = omega arith
returned_flat (chosen.Items xs) h = list_flat xs h

returning_flat : (x : Option Selected) → There (g.returning.prints.writes x) → returned_height x ≤ 1
unfolding g.returning
returning_flat None h = omega arith
returning_flat (Some x) h = returned_flat x (there_parts (Some (t.Word (codes "returning") ∷ [])) (g.returned.prints.writes x) h).1

there_alone : (o : Option (List Token)) → There (or_else o None) → There o
there_alone None h = h
there_alone (Some x) h = h

module _ (inner : Cut tree_of expr_heads expr_more false) where
  select_flat : (x : Select) → There ((g.select inner).rule.prints.writes (st.Select x)) → chosen_height x.items ≤ 1
  unfolding g.select g.select_parts
  select_flat x h =
      let a = there_parts (Some (t.Word (codes "select") ∷ [])) (joined (g.items.prints.writes x.items) (joined (g.from_table.prints.writes (x.table, x.alias)) ((g.condition inner).rule.prints.writes x.condition))) h in
      chosen_flat x.items (there_parts (g.items.prints.writes x.items) (joined (g.from_table.prints.writes (x.table, x.alias)) ((g.condition inner).rule.prints.writes x.condition)) a.1).0

  insert_flat : (x : Insert) → There ((g.insert inner).rule.prints.writes (st.Insert x)) → returned_height x.returning ≤ 1
  unfolding g.insert
  insert_flat x h =
      let rows = (g.proper_rows inner).rule.prints.writes (x.columns, x.tuples) in
      let returned = g.returning.prints.writes x.returning in
      let a = there_parts (Some (t.Word (codes "insert") ∷ [])) (joined (Some (t.Word (codes "into") ∷ [])) (joined (g.name.prints.writes x.table) (joined rows returned))) h in
      let b = there_parts (Some (t.Word (codes "into") ∷ [])) (joined (g.name.prints.writes x.table) (joined rows returned)) a.1 in
      let c = there_parts (g.name.prints.writes x.table) (joined rows returned) b.1 in
      returning_flat x.returning (there_parts rows returned c.1).1

  ending_flat : (x : Option Term) (y : Option Selected) → There ((g.ending inner).rule.prints.writes (x, y)) → returned_height y ≤ 1
  unfolding g.ending
  ending_flat x y h = returning_flat y (there_parts ((g.condition inner).rule.prints.writes x) (g.returning.prints.writes y) h).1

  update_flat : (x : Update) → There ((g.update inner).rule.prints.writes (st.Update x)) → returned_height x.returning ≤ 1
  unfolding g.update
  update_flat x h =
      let sets = (g.set_columns inner).rule.prints.writes x.assignments in
      let ending = (g.ending inner).rule.prints.writes (x.condition, x.returning) in
      let a = there_parts (Some (t.Word (codes "update") ∷ [])) (joined (g.name.prints.writes x.table) (joined (Some (t.Word (codes "set") ∷ [])) (joined sets ending))) h in
      let b = there_parts (g.name.prints.writes x.table) (joined (Some (t.Word (codes "set") ∷ [])) (joined sets ending)) a.1 in
      let c = there_parts (Some (t.Word (codes "set") ∷ [])) (joined sets ending) b.1 in
      ending_flat x.condition x.returning (there_parts sets ending c.1).1

  delete_flat : (x : Delete) → There ((g.delete inner).rule.prints.writes (st.Delete x)) → returned_height x.returning ≤ 1
  unfolding g.delete
  delete_flat x h =
      let ending = (g.ending inner).rule.prints.writes (x.condition, x.returning) in
      let a = there_parts (Some (t.Word (codes "delete") ∷ [])) (joined (Some (t.Word (codes "from") ∷ [])) (joined (g.name.prints.writes x.table) ending)) h in
      let b = there_parts (Some (t.Word (codes "from") ∷ [])) (joined (g.name.prints.writes x.table) ending) a.1 in
      ending_flat x.condition x.returning (there_parts (g.name.prints.writes x.table) ending b.1).1

  from_select : (x : Select) → There ((g.body inner).rule.prints.writes (st.Select x)) → chosen_height x.items ≤ 1
  unfolding g.body g.insert g.update g.delete g.create g.alter g.flat_body g.role g.table g.policy g.altered_role g.altered_table g.altered_policy g.dropped_policy g.grant g.granted_privileges g.granted_roles g.revoke g.revoked_privileges g.revoked_memberships g.revoked_option g.revoked_roles g.set_role
  from_select x h = select_flat x (there_alone ((g.select inner).rule.prints.writes (st.Select x)) h)

  from_insert : (x : Insert) → There ((g.body inner).rule.prints.writes (st.Insert x)) → returned_height x.returning ≤ 1
  unfolding g.body g.select g.update g.delete g.create g.alter g.flat_body g.role g.table g.policy g.altered_role g.altered_table g.altered_policy g.dropped_policy g.grant g.granted_privileges g.granted_roles g.revoke g.revoked_privileges g.revoked_memberships g.revoked_option g.revoked_roles g.set_role
  from_insert x h = insert_flat x (there_alone ((g.insert inner).rule.prints.writes (st.Insert x)) h)

  from_update : (x : Update) → There ((g.body inner).rule.prints.writes (st.Update x)) → returned_height x.returning ≤ 1
  unfolding g.body g.select g.insert g.delete g.create g.alter g.flat_body g.role g.table g.policy g.altered_role g.altered_table g.altered_policy g.dropped_policy g.grant g.granted_privileges g.granted_roles g.revoke g.revoked_privileges g.revoked_memberships g.revoked_option g.revoked_roles g.set_role
  from_update x h = update_flat x (there_alone ((g.update inner).rule.prints.writes (st.Update x)) h)

  from_delete : (x : Delete) → There ((g.body inner).rule.prints.writes (st.Delete x)) → returned_height x.returning ≤ 1
  unfolding g.body g.select g.insert g.update g.create g.alter g.flat_body g.role g.table g.policy g.altered_role g.altered_table g.altered_policy g.dropped_policy g.grant g.granted_privileges g.granted_roles g.revoke g.revoked_privileges g.revoked_memberships g.revoked_option g.revoked_roles g.set_role
  from_delete x h = delete_flat x (there_alone ((g.delete inner).rule.prints.writes (st.Delete x)) h)

  body_flat : (x : Statement) → There ((g.body inner).rule.prints.writes x) → items_height x ≤ 1
  body_flat (st.Select x) h = from_select x h
  body_flat (st.Insert x) h = from_insert x h
  body_flat (st.Update x) h = from_update x h
  body_flat (st.Delete x) h = from_delete x h
  body_flat _ h = omega arith

written_flat : (depth : ℕ) (x : Statement) → There ((g.statement depth).rule.prints.writes x) → items_height x ≤ 1
unfolding g.statement
written_flat depth x h = body_flat (g.expr depth) x (there_parts ((g.body (g.expr depth)).rule.prints.writes x) (Some []) h).0

-- What some text spells has flat items.
pub items_flat : (x : Statement) (tokens : List Token) → Spells tokens x → items_height x ≤ 1
items_flat x tokens h =
    let y = spelled_written tokens x h in
    written_flat y.written.depth x (subst (λ z. There z) (sym y.written.written) tt)
