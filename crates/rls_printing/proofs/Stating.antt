-- What the grammar writes for a statement are the tokens of the words of which it is printed.
use Rattle.std.{proofs.Common.◌≡◌, proofs.Common.ℕ, proofs.Common.Bool, proofs.Common.true, proofs.Common.false, proofs.Common.if◌then◌else◌, proofs.Common.List, proofs.Common.[], proofs.Common.◌∷◌, proofs.Common.◌++◌, proofs.Common.map, proofs.Common.Option, proofs.Common.Some, proofs.Common.None, proofs.Common.refl, proofs.Common.ap, proofs.Common.sym, proofs.Common.◌∙◌, proofs.Common.append_assoc, proofs.Common.append-nil, proofs.Common.subst, specs.Prelude.codes, specs.Prelude.is_some}
use Rattle.rls_value.specs.{declared.value.ColType.ColType, declared.verb.PolicyKind.PolicyKind, declared.verb.Privilege.Privilege, declared.verb.Kind.Kind}
use Rattle.rls_expr.specs.{Terms.Term, Terms.terms_of, Terms.maybe_term, declared.policy.Grantee.Grantee}
use Rattle.rls_statement.specs.{declared.changing.Assignment.Assignment, declared.statement.AlterPolicy.AlterPolicy, declared.statement.AlterRole.AlterRole, declared.statement.AlterTable.AlterTable, declared.statement.CreatePolicy.CreatePolicy, declared.statement.CreateRole.CreateRole, declared.statement.CreateTable.CreateTable, declared.statement.DropPolicy.DropPolicy, declared.statement.GrantPrivileges.GrantPrivileges, declared.statement.GrantRoles.GrantRoles, declared.statement.Insert.Insert, declared.changing.Update.Update, declared.changing.Delete.Delete, declared.statement.MarkedColumn.MarkedColumn, declared.statement.MembershipOption.MembershipOption, declared.privileges.Privileges.Privileges, declared.statement.RevokePrivileges.RevokePrivileges, declared.statement.RevokeRoles.RevokeRoles, declared.statement.RowSecurity.RowSecurity, declared.statement.Select.Select, declared.statement.Selected.Selected, declared.statement.SetRole.SetRole, declared.statement.Statement.Statement}
use Rattle.rls_statement.specs.declared.command.TransactionCommand.{TransactionCommand}
use Rattle.rls_text.specs.{Values.NamedPrivilege, declared.token.Symbol.Symbol, declared.token.Token.Token, Cut.Cut, Cutting.tree_of, Elements.key_if, Printing.IsWritten, Rule.with_comma, Rule.given_if, Rule.word, Rule.word_for, Rule.after, Rule.after_as, Rule.perhaps, FirstSets.expr_heads, FirstSets.expr_more, Writes.Writer, Writes.joined, Writes.or_else, Writes.many_writes, Writes.written_if, declared.tables.TableElement.TableElement, WaysBack.list_of as way_back_of_list}
use Rattle.rls_text.specs.Cut as cut
use Rattle.rls_text.specs.Grammar as g
use Rattle.rls_text.specs.Values as values
use Rattle.rls_text.specs.TablesBack as tables
use Rattle.rls_text.specs.WaysBack as back
use Rattle.rls_printing.{specs.declared.buffer.Mark.Mark, specs.OutputTokens.OutputToken, specs.OutputTokens.Word, specs.OutputTokens.Marked, specs.OutputTokens.tokens_of, proofs.Writing.HasTokens, proofs.Writing.none_tells, proofs.Writing.both_tell, proofs.Writing.either_tells, proofs.Writing.if_tells, proofs.Writing.enclosed_tells, proofs.Writing.parens, proofs.Writing.name_tells, proofs.Writing.item_list_tells, proofs.Writing.condition_tells, proofs.Writing.select_tells, proofs.Writing.tuple_tells, proofs.Writing.parenthesized_tells, proofs.Writing.expr_tells}
use Rattle.rls_printing.specs.ExprForms as expr_form
use Rattle.rls_printing.specs.StatementForms as form

-- ---- output tokens of rules

behind_none : (u : Option (List Token)) (ps : List OutputToken) → HasTokens u ps → HasTokens (joined u (Some [])) ps
behind_none None ps h = λ ts e. cc
behind_none (Some x) ps h = λ ts e. h x refl ∙ ap (λ z. Some z) (sym (append-nil x)) ∙ e

before_none : (u : Option (List Token)) (ps : List OutputToken) → HasTokens u ps → HasTokens (joined (Some []) u) ps
before_none u ps h = both_tell (Some []) u [] ps (λ ts e. e) h

never_tells : (u : Option (List Token)) (ps : List OutputToken) → HasTokens (joined u None) ps
never_tells None ps = λ ts e. cc
never_tells (Some x) ps = λ ts e. cc

last_tells : (u : Option (List Token)) (ps : List OutputToken) → HasTokens u ps → HasTokens (or_else u None) ps
last_tells u ps h = either_tells u None ps h (none_tells ps)

-- words in the other grouping
regroup : (u : Option (List Token)) (ps qs : List OutputToken) → ps ≡ qs → HasTokens u ps → HasTokens u qs
regroup u ps qs e h = subst (λ z. HasTokens u z) e h

-- ---- lists

also_tells : {A : Type 0} (p : List Token → A → Type 0) (W : Writer p) (item : A → List OutputToken) → ((x : A) → HasTokens (W.writes x) (Marked Mark.Comma ∷ item x)) → (xs : List A) → HasTokens (many_writes p W xs) (form.also item xs)
also_tells p W item h [] = λ ts e. e
also_tells p W item h (x ∷ xs) = both_tell (W.writes x) (many_writes p W xs) (Marked Mark.Comma ∷ item x) (form.also item xs) (h x) (also_tells p W item h xs)

comma_tells : (u : Option (List Token)) (ps : List OutputToken) → HasTokens u ps → HasTokens (joined (Some (Token.Symbol Symbol.Comma ∷ [])) u) (Marked Mark.Comma ∷ ps)
comma_tells u ps h = both_tell (Some (Token.Symbol Symbol.Comma ∷ [])) u (Marked Mark.Comma ∷ []) ps (λ ts e. e) h

comma_name : (x : List ℕ) → HasTokens ((with_comma g.name).prints.writes x) (Marked Mark.Comma ∷ form.name x)
unfolding with_comma
comma_name x = comma_tells (g.name.prints.writes x) (form.name x) (name_tells x)

names_tell : (xs : List (List ℕ)) → HasTokens (g.names.prints.writes xs) (form.listed form.name xs)
unfolding g.names
names_tell [] = λ ts e. cc
names_tell (x ∷ xs) = both_tell (g.name.prints.writes x) (many_writes (with_comma g.name).spells (with_comma g.name).prints xs) (form.name x) (form.also form.name xs) (name_tells x) (also_tells (with_comma g.name).spells (with_comma g.name).prints form.name comma_name xs)

distinct_tell : (xs : List (List ℕ)) → HasTokens (g.distinct_names.prints.writes xs) (form.listed form.name xs)
unfolding g.distinct_names
distinct_tell xs = if_tells (values.are_distinct xs) (g.names.prints.writes xs) (form.listed form.name xs) (names_tell xs)

grantee_tells : (x : Grantee) → HasTokens (g.grantee.prints.writes x) (form.grantee x)
unfolding g.grantee
grantee_tells Grantee.Public = λ ts e. e
grantee_tells (Grantee.Role x) = name_tells x

comma_grantee : (x : Grantee) → HasTokens ((with_comma g.grantee).prints.writes x) (Marked Mark.Comma ∷ form.grantee x)
unfolding with_comma
comma_grantee x = comma_tells (g.grantee.prints.writes x) (form.grantee x) (grantee_tells x)

grantees_tell : (xs : List Grantee) → HasTokens (g.grantees.prints.writes xs) (form.listed form.grantee xs)
unfolding g.grantees
grantees_tell [] = λ ts e. cc
grantees_tell (x ∷ xs) =
    both_tell (g.grantee.prints.writes x) (many_writes (with_comma g.grantee).spells (with_comma g.grantee).prints xs) (form.grantee x) (form.also form.grantee xs) (grantee_tells x)
    (also_tells (with_comma g.grantee).spells (with_comma g.grantee).prints form.grantee comma_grantee xs)

-- a list of names between parentheses
enclosed_names : (xs : List (List ℕ)) → HasTokens (parens (g.distinct_names.prints.writes xs)) (expr_form.enclosed (form.listed form.name xs))
enclosed_names xs = enclosed_tells (g.distinct_names.prints.writes xs) (form.listed form.name xs) (distinct_tell xs)

-- ---- SELECT, INSERT, UPDATE, DELETE

returned_tells : (x : Selected) → HasTokens (g.returned.prints.writes x) (form.selected_items x)
unfolding g.returned
returned_tells Selected.All = λ ts e. e
returned_tells (Selected.Items xs) = item_list_tells xs
returned_tells Selected.Count = λ ts e. cc

returning_tells : (x : Option Selected) → HasTokens (g.returning.prints.writes x) (form.returning x)
unfolding g.returning
returning_tells None = λ ts e. e
returning_tells (Some x) = both_tell (Some (Token.Word (codes "returning") ∷ [])) (g.returned.prints.writes x) (Word (codes "RETURNING") ∷ []) (form.selected_items x) (λ ts e. e) (returned_tells x)

columns_tell : (x : Option (List (List ℕ))) → HasTokens (g.columns_if_any.prints.writes x) (form.columns_if_any x)
unfolding g.columns_if_any
columns_tell None = λ ts e. e
columns_tell (Some xs) = enclosed_names xs

list_back : (xs : List Term) → way_back_of_list (terms_of xs) ≡ xs
list_back [] = refl
list_back (x ∷ xs) = ap (λ z. x ∷ z) (list_back xs)

module _ (inner : Cut tree_of expr_heads expr_more false) (ih : (x : Term) → HasTokens (inner.rule.prints.writes x) (expr_form.expr x)) where
  row_tells : (xs : List Term) → HasTokens ((g.tuple inner).rule.prints.writes xs) (form.tuple xs)
  row_tells xs = subst (λ z. HasTokens ((g.tuple inner).rule.prints.writes z) (form.tuple xs)) (list_back xs) (tuple_tells inner ih (terms_of xs))

  comma_row : (xs : List Term) → HasTokens ((cut.with_comma (g.tuple inner)).rule.prints.writes xs) (Marked Mark.Comma ∷ form.tuple xs)
  unfolding cut.with_comma
  comma_row xs = comma_tells ((g.tuple inner).rule.prints.writes xs) (form.tuple xs) (row_tells xs)

  tuples_tell : (xs : List (List Term)) → HasTokens ((g.tuples inner).rule.prints.writes xs) (form.listed form.tuple xs)
  unfolding g.tuples
  tuples_tell [] = λ ts e. cc
  tuples_tell (x ∷ xs) =
      both_tell ((g.tuple inner).rule.prints.writes x) (many_writes (cut.with_comma (g.tuple inner)).rule.spells (cut.with_comma (g.tuple inner)).rule.prints xs) (form.tuple x) (form.also form.tuple xs) (row_tells x)
      (also_tells (cut.with_comma (g.tuple inner)).rule.spells (cut.with_comma (g.tuple inner)).rule.prints form.tuple comma_row xs)

  even_tell : (xs : List (List Term)) → HasTokens ((g.even_tuples inner).rule.prints.writes xs) (form.listed form.tuple xs)
  unfolding g.even_tuples
  even_tell xs = if_tells (values.are_even xs) ((g.tuples inner).rule.prints.writes xs) (form.listed form.tuple xs) (tuples_tell xs)

  rows_tell : (names : Option (List (List ℕ))) (xs : List (List Term)) → HasTokens ((g.proper_rows inner).rule.prints.writes (names, xs)) (form.columns_if_any names ++ Word (codes "VALUES") ∷ form.listed form.tuple xs)
  unfolding g.proper_rows g.rows
  rows_tell names xs =
      if_tells (values.are_as_long names xs) (joined (g.columns_if_any.prints.writes names) (joined (Some (Token.Word (codes "values") ∷ [])) ((g.even_tuples inner).rule.prints.writes xs))) (form.columns_if_any names ++ Word (codes "VALUES") ∷ form.listed form.tuple xs)
      (both_tell (g.columns_if_any.prints.writes names) (joined (Some (Token.Word (codes "values") ∷ [])) ((g.even_tuples inner).rule.prints.writes xs)) (form.columns_if_any names) (Word (codes "VALUES") ∷ form.listed form.tuple xs) (columns_tell names)
      (both_tell (Some (Token.Word (codes "values") ∷ [])) ((g.even_tuples inner).rule.prints.writes xs) (Word (codes "VALUES") ∷ []) (form.listed form.tuple xs) (λ ts e. e) (even_tell xs)))

  insert_tells : (x : Insert) → HasTokens ((g.insert inner).rule.prints.writes (Statement.Insert x)) (form.statement (Statement.Insert x))
  unfolding g.insert
  insert_tells x =
      both_tell (Some (Token.Word (codes "insert") ∷ [])) (joined (Some (Token.Word (codes "into") ∷ [])) (joined (g.name.prints.writes x.table) (joined ((g.proper_rows inner).rule.prints.writes (x.columns, x.tuples)) (g.returning.prints.writes x.returning))))
      (Word (codes "INSERT") ∷ []) (Word (codes "INTO") ∷ Word x.table ∷ (form.columns_if_any x.columns ++ Word (codes "VALUES") ∷ (form.listed form.tuple x.tuples ++ form.returning x.returning))) (λ ts e. e)
      (both_tell (Some (Token.Word (codes "into") ∷ [])) (joined (g.name.prints.writes x.table) (joined ((g.proper_rows inner).rule.prints.writes (x.columns, x.tuples)) (g.returning.prints.writes x.returning)))
      (Word (codes "INTO") ∷ []) (Word x.table ∷ (form.columns_if_any x.columns ++ Word (codes "VALUES") ∷ (form.listed form.tuple x.tuples ++ form.returning x.returning))) (λ ts e. e)
      (both_tell (g.name.prints.writes x.table) (joined ((g.proper_rows inner).rule.prints.writes (x.columns, x.tuples)) (g.returning.prints.writes x.returning))
      (Word x.table ∷ []) (form.columns_if_any x.columns ++ Word (codes "VALUES") ∷ (form.listed form.tuple x.tuples ++ form.returning x.returning)) (name_tells x.table)
      (regroup (joined ((g.proper_rows inner).rule.prints.writes (x.columns, x.tuples)) (g.returning.prints.writes x.returning))
      ((form.columns_if_any x.columns ++ Word (codes "VALUES") ∷ form.listed form.tuple x.tuples) ++ form.returning x.returning) (form.columns_if_any x.columns ++ Word (codes "VALUES") ∷ (form.listed form.tuple x.tuples ++ form.returning x.returning))
      (append_assoc (form.columns_if_any x.columns) (Word (codes "VALUES") ∷ form.listed form.tuple x.tuples) (form.returning x.returning))
      (both_tell ((g.proper_rows inner).rule.prints.writes (x.columns, x.tuples)) (g.returning.prints.writes x.returning) (form.columns_if_any x.columns ++ Word (codes "VALUES") ∷ form.listed form.tuple x.tuples) (form.returning x.returning)
      (rows_tell x.columns x.tuples) (returning_tells x.returning)))))

  assignment_tells : (x : Assignment) → HasTokens ((g.set_column inner).rule.prints.writes x) (form.assignment x)
  unfolding g.set_column
  assignment_tells x =
      both_tell (g.name.prints.writes x.column) (joined (Some (Token.Symbol Symbol.Equal ∷ [])) (inner.rule.prints.writes x.value)) (Word x.column ∷ []) (Marked Mark.Equal ∷ expr_form.expr x.value) (name_tells x.column)
      (both_tell (Some (Token.Symbol Symbol.Equal ∷ [])) (inner.rule.prints.writes x.value) (Marked Mark.Equal ∷ []) (expr_form.expr x.value) (λ ts e. e) (ih x.value))

  comma_assignment : (x : Assignment) → HasTokens ((cut.with_comma (g.set_column inner)).rule.prints.writes x) (Marked Mark.Comma ∷ form.assignment x)
  unfolding cut.with_comma
  comma_assignment x = comma_tells ((g.set_column inner).rule.prints.writes x) (form.assignment x) (assignment_tells x)

  all_assignments_tell : (xs : List Assignment) → HasTokens ((g.all_set_columns inner).rule.prints.writes xs) (form.listed form.assignment xs)
  unfolding g.all_set_columns
  all_assignments_tell [] = λ ts e. cc
  all_assignments_tell (x ∷ xs) =
      both_tell ((g.set_column inner).rule.prints.writes x) (many_writes (cut.with_comma (g.set_column inner)).rule.spells (cut.with_comma (g.set_column inner)).rule.prints xs) (form.assignment x) (form.also form.assignment xs) (assignment_tells x)
      (also_tells (cut.with_comma (g.set_column inner)).rule.spells (cut.with_comma (g.set_column inner)).rule.prints form.assignment comma_assignment xs)

  assignments_tell : (xs : List Assignment) → HasTokens ((g.set_columns inner).rule.prints.writes xs) (form.listed form.assignment xs)
  unfolding g.set_columns
  assignments_tell xs = if_tells (values.are_distinct (values.set_names xs)) ((g.all_set_columns inner).rule.prints.writes xs) (form.listed form.assignment xs) (all_assignments_tell xs)

  ending_tells : (x : Option Term) (y : Option Selected) → HasTokens ((g.ending inner).rule.prints.writes (x, y)) (expr_form.where_ (maybe_term x) ++ form.returning y)
  unfolding g.ending
  ending_tells x y = both_tell ((g.condition inner).rule.prints.writes x) (g.returning.prints.writes y) (expr_form.where_ (maybe_term x)) (form.returning y) (condition_tells inner ih x) (returning_tells y)

  update_tells : (x : Update) → HasTokens ((g.update inner).rule.prints.writes (Statement.Update x)) (form.statement (Statement.Update x))
  unfolding g.update
  update_tells x =
      both_tell (Some (Token.Word (codes "update") ∷ [])) (joined (g.name.prints.writes x.table) (joined (Some (Token.Word (codes "set") ∷ [])) (joined ((g.set_columns inner).rule.prints.writes x.assignments) ((g.ending inner).rule.prints.writes (x.condition, x.returning)))))
      (Word (codes "UPDATE") ∷ []) (Word x.table ∷ Word (codes "SET") ∷ (form.listed form.assignment x.assignments ++ (expr_form.where_ (maybe_term x.condition) ++ form.returning x.returning))) (λ ts e. e)
      (both_tell (g.name.prints.writes x.table) (joined (Some (Token.Word (codes "set") ∷ [])) (joined ((g.set_columns inner).rule.prints.writes x.assignments) ((g.ending inner).rule.prints.writes (x.condition, x.returning))))
      (Word x.table ∷ []) (Word (codes "SET") ∷ (form.listed form.assignment x.assignments ++ (expr_form.where_ (maybe_term x.condition) ++ form.returning x.returning))) (name_tells x.table)
      (both_tell (Some (Token.Word (codes "set") ∷ [])) (joined ((g.set_columns inner).rule.prints.writes x.assignments) ((g.ending inner).rule.prints.writes (x.condition, x.returning)))
      (Word (codes "SET") ∷ []) (form.listed form.assignment x.assignments ++ (expr_form.where_ (maybe_term x.condition) ++ form.returning x.returning)) (λ ts e. e)
      (both_tell ((g.set_columns inner).rule.prints.writes x.assignments) ((g.ending inner).rule.prints.writes (x.condition, x.returning)) (form.listed form.assignment x.assignments) (expr_form.where_ (maybe_term x.condition) ++ form.returning x.returning)
      (assignments_tell x.assignments) (ending_tells x.condition x.returning))))

  delete_tells : (x : Delete) → HasTokens ((g.delete inner).rule.prints.writes (Statement.Delete x)) (form.statement (Statement.Delete x))
  unfolding g.delete
  delete_tells x =
      both_tell (Some (Token.Word (codes "delete") ∷ [])) (joined (Some (Token.Word (codes "from") ∷ [])) (joined (g.name.prints.writes x.table) ((g.ending inner).rule.prints.writes (x.condition, x.returning))))
      (Word (codes "DELETE") ∷ []) (Word (codes "FROM") ∷ Word x.table ∷ (expr_form.where_ (maybe_term x.condition) ++ form.returning x.returning)) (λ ts e. e)
      (both_tell (Some (Token.Word (codes "from") ∷ [])) (joined (g.name.prints.writes x.table) ((g.ending inner).rule.prints.writes (x.condition, x.returning)))
      (Word (codes "FROM") ∷ []) (Word x.table ∷ (expr_form.where_ (maybe_term x.condition) ++ form.returning x.returning)) (λ ts e. e)
      (both_tell (g.name.prints.writes x.table) ((g.ending inner).rule.prints.writes (x.condition, x.returning)) (Word x.table ∷ []) (expr_form.where_ (maybe_term x.condition) ++ form.returning x.returning)
      (name_tells x.table) (ending_tells x.condition x.returning)))

  statement_select : (x : Select) → HasTokens ((g.select inner).rule.prints.writes (Statement.Select x)) (form.statement (Statement.Select x))
  unfolding g.select
  statement_select x = select_tells inner ih x.items x.table x.alias x.condition

-- ---- roles

attributes_tell : (x y z : Option Bool) → HasTokens ((g.attributes_of_role false).prints.writes record { superuser = x; login = y; bypass_rls = z }) (form.attributes record { superuser = x; login = y; bypass_rls = z })
unfolding g.attributes_of_role g.attributes_if_any g.attributes g.first_and_more g.attribute
attributes_tell None None None = λ ts e. e
attributes_tell None None (Some true) = λ ts e. e
attributes_tell None None (Some false) = λ ts e. e
attributes_tell None (Some true) None = λ ts e. e
attributes_tell None (Some true) (Some true) = λ ts e. e
attributes_tell None (Some true) (Some false) = λ ts e. e
attributes_tell None (Some false) None = λ ts e. e
attributes_tell None (Some false) (Some true) = λ ts e. e
attributes_tell None (Some false) (Some false) = λ ts e. e
attributes_tell (Some true) None None = λ ts e. e
attributes_tell (Some true) None (Some true) = λ ts e. e
attributes_tell (Some true) None (Some false) = λ ts e. e
attributes_tell (Some true) (Some true) None = λ ts e. e
attributes_tell (Some true) (Some true) (Some true) = λ ts e. e
attributes_tell (Some true) (Some true) (Some false) = λ ts e. e
attributes_tell (Some true) (Some false) None = λ ts e. e
attributes_tell (Some true) (Some false) (Some true) = λ ts e. e
attributes_tell (Some true) (Some false) (Some false) = λ ts e. e
attributes_tell (Some false) None None = λ ts e. e
attributes_tell (Some false) None (Some true) = λ ts e. e
attributes_tell (Some false) None (Some false) = λ ts e. e
attributes_tell (Some false) (Some true) None = λ ts e. e
attributes_tell (Some false) (Some true) (Some true) = λ ts e. e
attributes_tell (Some false) (Some true) (Some false) = λ ts e. e
attributes_tell (Some false) (Some false) None = λ ts e. e
attributes_tell (Some false) (Some false) (Some true) = λ ts e. e
attributes_tell (Some false) (Some false) (Some false) = λ ts e. e

written_tell : (x y z : Option Bool) → HasTokens (g.written_attributes.prints.writes record { superuser = x; login = y; bypass_rls = z }) (form.attributes record { superuser = x; login = y; bypass_rls = z })
unfolding g.written_attributes g.attributes g.first_and_more g.attribute
written_tell None None None = λ ts e. cc
written_tell None None (Some true) = λ ts e. e
written_tell None None (Some false) = λ ts e. e
written_tell None (Some true) None = λ ts e. e
written_tell None (Some true) (Some true) = λ ts e. e
written_tell None (Some true) (Some false) = λ ts e. e
written_tell None (Some false) None = λ ts e. e
written_tell None (Some false) (Some true) = λ ts e. e
written_tell None (Some false) (Some false) = λ ts e. e
written_tell (Some true) None None = λ ts e. e
written_tell (Some true) None (Some true) = λ ts e. e
written_tell (Some true) None (Some false) = λ ts e. e
written_tell (Some true) (Some true) None = λ ts e. e
written_tell (Some true) (Some true) (Some true) = λ ts e. e
written_tell (Some true) (Some true) (Some false) = λ ts e. e
written_tell (Some true) (Some false) None = λ ts e. e
written_tell (Some true) (Some false) (Some true) = λ ts e. e
written_tell (Some true) (Some false) (Some false) = λ ts e. e
written_tell (Some false) None None = λ ts e. e
written_tell (Some false) None (Some true) = λ ts e. e
written_tell (Some false) None (Some false) = λ ts e. e
written_tell (Some false) (Some true) None = λ ts e. e
written_tell (Some false) (Some true) (Some true) = λ ts e. e
written_tell (Some false) (Some true) (Some false) = λ ts e. e
written_tell (Some false) (Some false) None = λ ts e. e
written_tell (Some false) (Some false) (Some true) = λ ts e. e
written_tell (Some false) (Some false) (Some false) = λ ts e. e

role_tells : (x : CreateRole) → HasTokens ((g.role false).prints.writes (Statement.CreateRole x)) (Word x.name ∷ form.attributes x.attributes)
unfolding g.role
role_tells x =
    both_tell (g.name.prints.writes x.name) ((g.attributes_of_role false).prints.writes x.attributes) (Word x.name ∷ []) (form.attributes x.attributes) (name_tells x.name)
    (attributes_tell x.attributes.superuser x.attributes.login x.attributes.bypass_rls)

-- CREATE USER isn't written
user_case : (x : CreateRole) (ps : List OutputToken) → HasTokens (joined (Some (Token.Word (codes "user") ∷ [])) ((g.role true).prints.writes (Statement.CreateRole x))) ps
unfolding g.role g.attributes_of_role
user_case x ps = go (g.name.prints.writes x.name)
  where
    go : (u : Option (List Token)) → HasTokens (joined (Some (Token.Word (codes "user") ∷ [])) (joined u None)) ps
    go None = λ ts e. cc
    go (Some y) = λ ts e. cc

altered_role_tells : (x : AlterRole) → HasTokens (g.altered_role.prints.writes (Statement.AlterRole x)) (Word x.name ∷ form.attributes x.attributes)
unfolding g.altered_role
altered_role_tells x =
    both_tell (g.name.prints.writes x.name) (g.written_attributes.prints.writes x.attributes) (Word x.name ∷ []) (form.attributes x.attributes) (name_tells x.name)
    (written_tell x.attributes.superuser x.attributes.login x.attributes.bypass_rls)

-- ---- tables

type_tells : (x : ColType) → HasTokens (g.column_type.prints.writes x) (form.column_type x ∷ [])
unfolding g.column_type
type_tells ColType.Integer = λ ts e. e
type_tells ColType.BigInt = λ ts e. e
type_tells ColType.Text = λ ts e. e
type_tells ColType.Boolean = λ ts e. e

marks_tell : (x y : Bool) → HasTokens (g.column_marks.prints.writes (tables.as_marks x y)) (form.not_null x ++ form.is_key y)
unfolding g.column_marks g.all_marks g.column_mark
marks_tell true true = λ ts e. e
marks_tell true false = λ ts e. e
marks_tell false true = λ ts e. e
marks_tell false false = λ ts e. e

column_tells : (x : MarkedColumn) → HasTokens (g.column_definition.prints.writes x) (form.column x)
unfolding g.column_definition
column_tells x =
    both_tell (joined (g.name.prints.writes x.column.name) (g.column_type.prints.writes x.column.kind)) (g.column_marks.prints.writes (tables.as_marks x.column.not_null x.is_key))
    (Word x.column.name ∷ form.column_type x.column.kind ∷ []) (form.not_null x.column.not_null ++ form.is_key x.is_key)
    (both_tell (g.name.prints.writes x.column.name) (g.column_type.prints.writes x.column.kind) (Word x.column.name ∷ []) (form.column_type x.column.kind ∷ []) (name_tells x.column.name) (type_tells x.column.kind))
    (marks_tell x.column.not_null x.is_key)

key_tells : (xs : List (List ℕ)) → HasTokens (g.primary_key.prints.writes xs) (Word (codes "PRIMARY") ∷ Word (codes "KEY") ∷ expr_form.enclosed (form.listed form.name xs))
unfolding g.primary_key
key_tells xs =
    both_tell (Some (Token.Word (codes "primary") ∷ [])) (joined (Some (Token.Word (codes "key") ∷ [])) (parens (g.distinct_names.prints.writes xs))) (Word (codes "PRIMARY") ∷ []) (Word (codes "KEY") ∷ expr_form.enclosed (form.listed form.name xs)) (λ ts e. e)
    (both_tell (Some (Token.Word (codes "key") ∷ [])) (parens (g.distinct_names.prints.writes xs)) (Word (codes "KEY") ∷ []) (expr_form.enclosed (form.listed form.name xs)) (λ ts e. e) (enclosed_names xs))

elements_tell : (xs : List MarkedColumn) (key : Option (List (List ℕ))) → HasTokens (many_writes (with_comma g.table_element).spells (with_comma g.table_element).prints (map TableElement.Column xs ++ key_if key)) (form.also form.column xs ++ form.key key)
unfolding with_comma g.table_element
elements_tell [] None = λ ts e. e
elements_tell [] (Some names) = behind_none (joined (Some (Token.Symbol Symbol.Comma ∷ [])) (g.primary_key.prints.writes names)) (form.key (Some names)) (comma_tells (g.primary_key.prints.writes names) (Word (codes "PRIMARY") ∷ Word (codes "KEY") ∷ expr_form.enclosed (form.listed form.name names)) (key_tells names))
elements_tell (x ∷ xs) key =
    regroup (joined (joined (Some (Token.Symbol Symbol.Comma ∷ [])) (or_else (g.column_definition.prints.writes x) None)) (many_writes (with_comma g.table_element).spells (with_comma g.table_element).prints (map TableElement.Column xs ++ key_if key)))
    ((Marked Mark.Comma ∷ form.column x) ++ (form.also form.column xs ++ form.key key)) (form.also form.column (x ∷ xs) ++ form.key key) (sym (append_assoc (Marked Mark.Comma ∷ form.column x) (form.also form.column xs) (form.key key)))
    (both_tell (joined (Some (Token.Symbol Symbol.Comma ∷ [])) (or_else (g.column_definition.prints.writes x) None)) (many_writes (with_comma g.table_element).spells (with_comma g.table_element).prints (map TableElement.Column xs ++ key_if key))
    (Marked Mark.Comma ∷ form.column x) (form.also form.column xs ++ form.key key)
    (comma_tells (or_else (g.column_definition.prints.writes x) None) (form.column x) (last_tells (g.column_definition.prints.writes x) (form.column x) (column_tells x))) (elements_tell xs key))

all_elements_tell : (xs : List MarkedColumn) (key : Option (List (List ℕ))) → HasTokens (g.table_elements.prints.writes (values.elements_with (xs, key))) (form.listed form.column xs ++ form.key key)
unfolding g.table_elements
all_elements_tell [] key = λ ts e. cc
all_elements_tell (x ∷ xs) key =
    regroup (joined (g.column_definition.prints.writes x) (many_writes (with_comma g.table_element).spells (with_comma g.table_element).prints (map TableElement.Column xs ++ key_if key)))
    (form.column x ++ (form.also form.column xs ++ form.key key)) (form.listed form.column (x ∷ xs) ++ form.key key) (sym (append_assoc (form.column x) (form.also form.column xs) (form.key key)))
    (both_tell (g.column_definition.prints.writes x) (many_writes (with_comma g.table_element).spells (with_comma g.table_element).prints (map TableElement.Column xs ++ key_if key)) (form.column x) (form.also form.column xs ++ form.key key) (column_tells x) (elements_tell xs key))

proper_tell : (xs : List MarkedColumn) (key : Option (List (List ℕ))) → HasTokens (g.proper_elements.prints.writes (values.elements_with (xs, key))) (form.listed form.column xs ++ form.key key)
unfolding g.proper_elements g.columns_and_key g.listed_elements
proper_tell xs key = if_tells (values.is_table (values.elements_with (xs, key))) (g.table_elements.prints.writes (values.elements_with (xs, key))) (form.listed form.column xs ++ form.key key) (all_elements_tell xs key)

table_tells : (x : CreateTable) → HasTokens (g.table.prints.writes (Statement.CreateTable x)) (Word x.name ∷ expr_form.enclosed (form.listed form.column x.columns ++ form.key x.key))
unfolding g.table
table_tells x =
    both_tell (g.name.prints.writes x.name) (parens (g.proper_elements.prints.writes (values.elements_with (x.columns, x.key)))) (Word x.name ∷ []) (expr_form.enclosed (form.listed form.column x.columns ++ form.key x.key)) (name_tells x.name)
    (enclosed_tells (g.proper_elements.prints.writes (values.elements_with (x.columns, x.key))) (form.listed form.column x.columns ++ form.key x.key) (proper_tell x.columns x.key))

change_tells : (x : RowSecurity) → HasTokens (g.row_change.prints.writes x) (form.row_change x)
unfolding g.row_change
change_tells RowSecurity.Enable = λ ts e. e
change_tells RowSecurity.Disable = λ ts e. e
change_tells RowSecurity.Force = λ ts e. e
change_tells RowSecurity.NoForce = λ ts e. e

altered_table_tells : (x : AlterTable) → HasTokens (g.altered_table.prints.writes (Statement.AlterTable x)) (Word x.table ∷ (form.row_change x.change ++ Word (codes "ROW") ∷ Word (codes "LEVEL") ∷ Word (codes "SECURITY") ∷ []))
unfolding g.altered_table
altered_table_tells x =
    both_tell (g.name.prints.writes x.table) (joined (g.row_change.prints.writes x.change) (Some (Token.Word (codes "row") ∷ Token.Word (codes "level") ∷ Token.Word (codes "security") ∷ []))) (Word x.table ∷ []) (form.row_change x.change ++ Word (codes "ROW") ∷ Word (codes "LEVEL") ∷ Word (codes "SECURITY") ∷ []) (name_tells x.table)
    (both_tell (g.row_change.prints.writes x.change) (Some (Token.Word (codes "row") ∷ Token.Word (codes "level") ∷ Token.Word (codes "security") ∷ [])) (form.row_change x.change) (Word (codes "ROW") ∷ Word (codes "LEVEL") ∷ Word (codes "SECURITY") ∷ []) (change_tells x.change) (λ ts e. e))

-- ---- policies

on_tells : (policy table : List ℕ) → HasTokens (g.policy_on.prints.writes (policy, table)) (form.policy_on policy table)
unfolding g.policy_on
on_tells policy table =
    both_tell (g.name.prints.writes policy) (joined (Some (Token.Word (codes "on") ∷ [])) (g.name.prints.writes table)) (Word policy ∷ []) (Word (codes "ON") ∷ Word table ∷ []) (name_tells policy)
    (both_tell (Some (Token.Word (codes "on") ∷ [])) (g.name.prints.writes table) (Word (codes "ON") ∷ []) (Word table ∷ []) (λ ts e. e) (name_tells table))

permissive_tells : (x : Bool) → HasTokens (g.permissive.prints.writes x) (Word (codes "AS") ∷ form.permissive x ∷ [])
unfolding g.permissive
permissive_tells true = λ ts e. e
permissive_tells false = λ ts e. e

kind_tells : (x : PolicyKind) → HasTokens (g.for_commands.prints.writes x) (Word (codes "FOR") ∷ form.policy_kind x ∷ [])
unfolding g.for_commands g.policy_kind g.command_type
kind_tells PolicyKind.All = λ ts e. e
kind_tells (PolicyKind.Only Kind.Select) = λ ts e. e
kind_tells (PolicyKind.Only Kind.Insert) = λ ts e. e
kind_tells (PolicyKind.Only Kind.Update) = λ ts e. e
kind_tells (PolicyKind.Only Kind.Delete) = λ ts e. e

policy_options_tell : (x : Bool) (y : PolicyKind) → HasTokens (g.policy_options.prints.writes (x, y)) (Word (codes "AS") ∷ form.permissive x ∷ Word (codes "FOR") ∷ form.policy_kind y ∷ [])
unfolding g.policy_options
policy_options_tell x y = both_tell (g.permissive.prints.writes x) (g.for_commands.prints.writes y) (Word (codes "AS") ∷ form.permissive x ∷ []) (Word (codes "FOR") ∷ form.policy_kind y ∷ []) (permissive_tells x) (kind_tells y)

to_tells : (xs : List Grantee) → HasTokens (g.to_grantees.prints.writes xs) (Word (codes "TO") ∷ form.listed form.grantee xs)
unfolding g.to_grantees
to_tells xs = both_tell (Some (Token.Word (codes "to") ∷ [])) (g.grantees.prints.writes xs) (Word (codes "TO") ∷ []) (form.listed form.grantee xs) (λ ts e. e) (grantees_tell xs)

for_tells : (xs : List Grantee) → HasTokens (g.for_grantees.prints.writes xs) (Word (codes "TO") ∷ form.listed form.grantee xs)
unfolding g.for_grantees
for_tells xs = to_tells xs

to_if_tells : (x : Option (List Grantee)) → HasTokens (g.grantees_if_any.prints.writes x) (form.to_if_any x)
unfolding g.grantees_if_any
to_if_tells None = λ ts e. e
to_if_tells (Some xs) = to_tells xs

dropped_tells : (x : DropPolicy) → HasTokens (g.dropped_policy.prints.writes (Statement.DropPolicy x)) (form.statement (Statement.DropPolicy x))
unfolding g.dropped_policy
dropped_tells x =
    both_tell (Some (Token.Word (codes "drop") ∷ [])) (joined (Some (Token.Word (codes "policy") ∷ [])) (g.policy_on.prints.writes (x.name, x.table))) (Word (codes "DROP") ∷ []) (Word (codes "POLICY") ∷ form.policy_on x.name x.table) (λ ts e. e)
    (both_tell (Some (Token.Word (codes "policy") ∷ [])) (g.policy_on.prints.writes (x.name, x.table)) (Word (codes "POLICY") ∷ []) (form.policy_on x.name x.table) (λ ts e. e) (on_tells x.name x.table))

module _ (inner : Cut tree_of expr_heads expr_more false) (ih : (x : Term) → HasTokens (inner.rule.prints.writes x) (expr_form.expr x)) where
  using_tells : (x : Option Term) → HasTokens ((g.using inner).rule.prints.writes x) (form.using_ x)
  unfolding g.using
  using_tells None = λ ts e. e
  using_tells (Some x) = both_tell (Some (Token.Word (codes "using") ∷ [])) ((g.parenthesized inner).rule.prints.writes x) (Word (codes "USING") ∷ []) (expr_form.enclosed (expr_form.expr x)) (λ ts e. e) (parenthesized_tells inner ih x)

  check_tells : (x : Option Term) → HasTokens ((g.check inner).rule.prints.writes x) (form.check_ x)
  unfolding g.check
  check_tells None = λ ts e. e
  check_tells (Some x) =
      both_tell (Some (Token.Word (codes "with") ∷ [])) (joined (Some (Token.Word (codes "check") ∷ [])) ((g.parenthesized inner).rule.prints.writes x)) (Word (codes "WITH") ∷ []) (Word (codes "CHECK") ∷ expr_form.enclosed (expr_form.expr x)) (λ ts e. e)
      (both_tell (Some (Token.Word (codes "check") ∷ [])) ((g.parenthesized inner).rule.prints.writes x) (Word (codes "CHECK") ∷ []) (expr_form.enclosed (expr_form.expr x)) (λ ts e. e) (parenthesized_tells inner ih x))

  conditions_tell : (x y : Option Term) → HasTokens ((g.conditions inner).rule.prints.writes (x, y)) (form.using_ x ++ form.check_ y)
  unfolding g.conditions
  conditions_tell x y = both_tell ((g.using inner).rule.prints.writes x) ((g.check inner).rule.prints.writes y) (form.using_ x) (form.check_ y) (using_tells x) (check_tells y)

  described_tells : (a : Bool) (b : PolicyKind) (xs : List Grantee) (x y : Option Term) → HasTokens ((g.proper_description inner).rule.prints.writes ((a, b), (xs, (x, y))))
      (Word (codes "AS") ∷ form.permissive a ∷ Word (codes "FOR") ∷ form.policy_kind b ∷ Word (codes "TO") ∷ (form.listed form.grantee xs ++ (form.using_ x ++ form.check_ y)))
  unfolding g.proper_description g.description
  described_tells a b xs x y =
      if_tells (values.may_have b (is_some x) (is_some y)) (joined (g.policy_options.prints.writes (a, b)) (joined (g.for_grantees.prints.writes xs) ((g.conditions inner).rule.prints.writes (x, y))))
      (Word (codes "AS") ∷ form.permissive a ∷ Word (codes "FOR") ∷ form.policy_kind b ∷ Word (codes "TO") ∷ (form.listed form.grantee xs ++ (form.using_ x ++ form.check_ y)))
      (both_tell (g.policy_options.prints.writes (a, b)) (joined (g.for_grantees.prints.writes xs) ((g.conditions inner).rule.prints.writes (x, y))) (Word (codes "AS") ∷ form.permissive a ∷ Word (codes "FOR") ∷ form.policy_kind b ∷ []) (Word (codes "TO") ∷ (form.listed form.grantee xs ++ (form.using_ x ++ form.check_ y))) (policy_options_tell a b)
      (both_tell (g.for_grantees.prints.writes xs) ((g.conditions inner).rule.prints.writes (x, y)) (Word (codes "TO") ∷ form.listed form.grantee xs) (form.using_ x ++ form.check_ y) (for_tells xs) (conditions_tell x y)))

  policy_tells : (x : CreatePolicy) → HasTokens ((g.policy inner).rule.prints.writes (Statement.CreatePolicy x)) (form.policy_on x.policy.name x.table ++ form.description x.policy)
  unfolding g.policy
  policy_tells x =
      both_tell (g.policy_on.prints.writes (x.policy.name, x.table)) ((g.proper_description inner).rule.prints.writes ((x.policy.permissive, x.policy.kind), (x.policy.to, (x.policy.using, x.policy.check)))) (form.policy_on x.policy.name x.table) (form.description x.policy)
      (on_tells x.policy.name x.table) (described_tells x.policy.permissive x.policy.kind x.policy.to x.policy.using x.policy.check)

  altered_tells : (a : Option (List Grantee)) (x y : Option Term) → HasTokens ((g.proper_change inner).rule.prints.writes (a, (x, y))) (form.to_if_any a ++ (form.using_ x ++ form.check_ y))
  unfolding g.proper_change g.policy_change
  altered_tells a x y =
      if_tells (values.is_change (a, (x, y))) (joined (g.grantees_if_any.prints.writes a) ((g.conditions inner).rule.prints.writes (x, y))) (form.to_if_any a ++ (form.using_ x ++ form.check_ y))
      (both_tell (g.grantees_if_any.prints.writes a) ((g.conditions inner).rule.prints.writes (x, y)) (form.to_if_any a) (form.using_ x ++ form.check_ y) (to_if_tells a) (conditions_tell x y))

  altered_policy_tells : (x : AlterPolicy) → HasTokens ((g.altered_policy inner).rule.prints.writes (Statement.AlterPolicy x)) (form.policy_on x.name x.table ++ (form.to_if_any x.to ++ (form.using_ x.using ++ form.check_ x.check)))
  unfolding g.altered_policy
  altered_policy_tells x =
      both_tell (g.policy_on.prints.writes (x.name, x.table)) ((g.proper_change inner).rule.prints.writes (x.to, (x.using, x.check))) (form.policy_on x.name x.table) (form.to_if_any x.to ++ (form.using_ x.using ++ form.check_ x.check))
      (on_tells x.name x.table) (altered_tells x.to x.using x.check)

-- ---- GRANT and REVOKE

column_list_tells : (x : Option (List (List ℕ))) → HasTokens (g.column_list.prints.writes x) (form.columns_if_any x)
unfolding g.column_list
column_list_tells None = λ ts e. e
column_list_tells (Some xs) = enclosed_tells (g.names.prints.writes xs) (form.listed form.name xs) (names_tell xs)

column_privilege_tells : (x : Privilege) → HasTokens (g.column_privilege.prints.writes x) (form.privilege_word x ∷ [])
unfolding g.column_privilege
column_privilege_tells Privilege.Select = λ ts e. e
column_privilege_tells Privilege.Insert = λ ts e. e
column_privilege_tells Privilege.Update = λ ts e. e
column_privilege_tells Privilege.Delete = λ ts e. cc

-- DELETE
abbrev deletes : Privilege → Option (List Token)
deletes x = (word_for back.privilege_names Privilege.Delete (codes "delete")).prints.writes x

delete_word_tells : (x : Privilege) → HasTokens (deletes x) (form.privilege_word x ∷ [])
delete_word_tells Privilege.Select = λ ts e. cc
delete_word_tells Privilege.Insert = λ ts e. cc
delete_word_tells Privilege.Update = λ ts e. cc
delete_word_tells Privilege.Delete = λ ts e. e

delete_privilege_tells : (x : NamedPrivilege) → HasTokens (written_if deletes (back.as_on_whole x)) (form.named_privilege x)
delete_privilege_tells (privilege, None) = delete_word_tells privilege
delete_privilege_tells (privilege, Some columns) = none_tells (form.named_privilege (privilege, Some columns))

privilege_tells : (x : NamedPrivilege) → HasTokens (g.privilege.prints.writes x) (form.named_privilege x)
unfolding g.privilege
privilege_tells x =
    either_tells (joined (g.column_privilege.prints.writes x.0) (g.column_list.prints.writes x.1)) (written_if deletes (back.as_on_whole x)) (form.named_privilege x)
    (both_tell (g.column_privilege.prints.writes x.0) (g.column_list.prints.writes x.1) (form.privilege_word x.0 ∷ []) (form.columns_if_any x.1) (column_privilege_tells x.0) (column_list_tells x.1)) (delete_privilege_tells x)

comma_privilege : (x : NamedPrivilege) → HasTokens ((with_comma g.privilege).prints.writes x) (Marked Mark.Comma ∷ form.named_privilege x)
unfolding with_comma
comma_privilege x = comma_tells (g.privilege.prints.writes x) (form.named_privilege x) (privilege_tells x)

named_tell : (xs : List NamedPrivilege) → HasTokens (g.privilege_list.prints.writes xs) (form.listed form.named_privilege xs)
unfolding g.privilege_list
named_tell [] = λ ts e. cc
named_tell (x ∷ xs) =
    both_tell (g.privilege.prints.writes x) (many_writes (with_comma g.privilege).spells (with_comma g.privilege).prints xs) (form.named_privilege x) (form.also form.named_privilege xs) (privilege_tells x)
    (also_tells (with_comma g.privilege).spells (with_comma g.privilege).prints form.named_privilege comma_privilege xs)

privileges_tell : (p : Privileges) → HasTokens (g.privileges.prints.writes p) (form.privileges p)
unfolding g.privileges g.table_privileges g.all_privileges g.named_privileges g.column_list
privileges_tell p = if_tells (values.columns_are_distinct p) (g.table_privileges.prints.writes p) (form.privileges p) (go (back.are_all p))
  where
    go : (b : Bool) → HasTokens (or_else (written_if (after (word (codes "all")) (after_as None (perhaps (word (codes "privileges"))) g.column_list refl) refl).prints.writes (given_if b None)) (g.privilege_list.prints.writes (back.named_of p)))
        (if b then Word (codes "ALL") ∷ [] else form.listed form.named_privilege (back.named_of p))
    go true = λ ts e. e
    go false = named_tell (back.named_of p)

privileges_on_tell : (p : Privileges) (table : List ℕ) → HasTokens (g.privileges_on.prints.writes (p, table)) (form.privileges p ++ Word (codes "ON") ∷ Word table ∷ [])
unfolding g.privileges_on g.table_name
privileges_on_tell p table =
    both_tell (g.privileges.prints.writes p) (joined (Some (Token.Word (codes "on") ∷ [])) (joined (Some []) (g.name.prints.writes table))) (form.privileges p) (Word (codes "ON") ∷ Word table ∷ []) (privileges_tell p)
    (both_tell (Some (Token.Word (codes "on") ∷ [])) (joined (Some []) (g.name.prints.writes table)) (Word (codes "ON") ∷ []) (Word table ∷ []) (λ ts e. e) (before_none (g.name.prints.writes table) (Word table ∷ []) (name_tells table)))

with_tells : (x : Bool) → HasTokens (g.with_option.prints.writes x) (form.with_option x)
unfolding g.with_option
with_tells true = λ ts e. e
with_tells false = λ ts e. e

only_tells : (x : Bool) → HasTokens (g.option_only.prints.writes x) (form.option_only x)
unfolding g.option_only
only_tells true = λ ts e. e
only_tells false = λ ts e. e

cascade_tells : (x : Bool) → HasTokens (g.cascade.prints.writes x) (form.cascade x)
unfolding g.cascade
cascade_tells true = λ ts e. e
cascade_tells false = λ ts e. e

granted_to_tells : (xs : List Grantee) (b : Bool) → HasTokens (g.granted_to.prints.writes (xs, b)) (Word (codes "TO") ∷ (form.listed form.grantee xs ++ form.with_option b))
unfolding g.granted_to
granted_to_tells xs b = both_tell (g.to_grantees.prints.writes xs) (g.with_option.prints.writes b) (Word (codes "TO") ∷ form.listed form.grantee xs) (form.with_option b) (to_tells xs) (with_tells b)

revoked_from_tells : (xs : List Grantee) (b : Bool) → HasTokens (g.revoked_from.prints.writes (xs, b)) (Word (codes "FROM") ∷ (form.listed form.grantee xs ++ form.cascade b))
unfolding g.revoked_from
revoked_from_tells xs b =
    both_tell (Some (Token.Word (codes "from") ∷ [])) (joined (g.grantees.prints.writes xs) (g.cascade.prints.writes b)) (Word (codes "FROM") ∷ []) (form.listed form.grantee xs ++ form.cascade b) (λ ts e. e)
    (both_tell (g.grantees.prints.writes xs) (g.cascade.prints.writes b) (form.listed form.grantee xs) (form.cascade b) (grantees_tell xs) (cascade_tells b))

granted_tells : (x : GrantPrivileges) → HasTokens (g.granted_privileges.prints.writes (Statement.Grant x)) (form.privileges x.privileges ++ Word (codes "ON") ∷ Word x.table ∷ Word (codes "TO") ∷ (form.listed form.grantee x.to ++ form.with_option x.with_option))
unfolding g.granted_privileges
granted_tells x =
    regroup (joined (g.privileges_on.prints.writes (x.privileges, x.table)) (g.granted_to.prints.writes (x.to, x.with_option)))
    ((form.privileges x.privileges ++ Word (codes "ON") ∷ Word x.table ∷ []) ++ Word (codes "TO") ∷ (form.listed form.grantee x.to ++ form.with_option x.with_option))
    (form.privileges x.privileges ++ Word (codes "ON") ∷ Word x.table ∷ Word (codes "TO") ∷ (form.listed form.grantee x.to ++ form.with_option x.with_option))
    (append_assoc (form.privileges x.privileges) (Word (codes "ON") ∷ Word x.table ∷ []) (Word (codes "TO") ∷ (form.listed form.grantee x.to ++ form.with_option x.with_option)))
    (both_tell (g.privileges_on.prints.writes (x.privileges, x.table)) (g.granted_to.prints.writes (x.to, x.with_option)) (form.privileges x.privileges ++ Word (codes "ON") ∷ Word x.table ∷ []) (Word (codes "TO") ∷ (form.listed form.grantee x.to ++ form.with_option x.with_option))
    (privileges_on_tell x.privileges x.table) (granted_to_tells x.to x.with_option))

revoked_tells : (x : RevokePrivileges) → HasTokens (g.revoked_privileges.prints.writes (Statement.Revoke x))
    (form.option_only x.option_only ++ (form.privileges x.privileges ++ Word (codes "ON") ∷ Word x.table ∷ Word (codes "FROM") ∷ (form.listed form.grantee x.from ++ form.cascade x.cascade)))
unfolding g.revoked_privileges
revoked_tells x =
    both_tell (g.option_only.prints.writes x.option_only) (joined (g.privileges_on.prints.writes (x.privileges, x.table)) (g.revoked_from.prints.writes (x.from, x.cascade))) (form.option_only x.option_only)
    (form.privileges x.privileges ++ Word (codes "ON") ∷ Word x.table ∷ Word (codes "FROM") ∷ (form.listed form.grantee x.from ++ form.cascade x.cascade)) (only_tells x.option_only)
    (regroup (joined (g.privileges_on.prints.writes (x.privileges, x.table)) (g.revoked_from.prints.writes (x.from, x.cascade)))
    ((form.privileges x.privileges ++ Word (codes "ON") ∷ Word x.table ∷ []) ++ Word (codes "FROM") ∷ (form.listed form.grantee x.from ++ form.cascade x.cascade))
    (form.privileges x.privileges ++ Word (codes "ON") ∷ Word x.table ∷ Word (codes "FROM") ∷ (form.listed form.grantee x.from ++ form.cascade x.cascade))
    (append_assoc (form.privileges x.privileges) (Word (codes "ON") ∷ Word x.table ∷ []) (Word (codes "FROM") ∷ (form.listed form.grantee x.from ++ form.cascade x.cascade)))
    (both_tell (g.privileges_on.prints.writes (x.privileges, x.table)) (g.revoked_from.prints.writes (x.from, x.cascade)) (form.privileges x.privileges ++ Word (codes "ON") ∷ Word x.table ∷ []) (Word (codes "FROM") ∷ (form.listed form.grantee x.from ++ form.cascade x.cascade))
    (privileges_on_tell x.privileges x.table) (revoked_from_tells x.from x.cascade)))

-- ---- memberships

options_tell : (x y z : Option Bool) → HasTokens (g.options.prints.writes record { admin = x; inherit = y; set = z }) (form.options record { admin = x; inherit = y; set = z })
unfolding g.options g.settings_if_any g.settings g.all_settings g.setting g.option g.flag with_comma
options_tell None None None = λ ts e. e
options_tell None None (Some true) = λ ts e. e
options_tell None None (Some false) = λ ts e. e
options_tell None (Some true) None = λ ts e. e
options_tell None (Some true) (Some true) = λ ts e. e
options_tell None (Some true) (Some false) = λ ts e. e
options_tell None (Some false) None = λ ts e. e
options_tell None (Some false) (Some true) = λ ts e. e
options_tell None (Some false) (Some false) = λ ts e. e
options_tell (Some true) None None = λ ts e. e
options_tell (Some true) None (Some true) = λ ts e. e
options_tell (Some true) None (Some false) = λ ts e. e
options_tell (Some true) (Some true) None = λ ts e. e
options_tell (Some true) (Some true) (Some true) = λ ts e. e
options_tell (Some true) (Some true) (Some false) = λ ts e. e
options_tell (Some true) (Some false) None = λ ts e. e
options_tell (Some true) (Some false) (Some true) = λ ts e. e
options_tell (Some true) (Some false) (Some false) = λ ts e. e
options_tell (Some false) None None = λ ts e. e
options_tell (Some false) None (Some true) = λ ts e. e
options_tell (Some false) None (Some false) = λ ts e. e
options_tell (Some false) (Some true) None = λ ts e. e
options_tell (Some false) (Some true) (Some true) = λ ts e. e
options_tell (Some false) (Some true) (Some false) = λ ts e. e
options_tell (Some false) (Some false) None = λ ts e. e
options_tell (Some false) (Some false) (Some true) = λ ts e. e
options_tell (Some false) (Some false) (Some false) = λ ts e. e

granted_roles_tell : (x : GrantRoles) → HasTokens (g.granted_roles.prints.writes (Statement.GrantRoles x)) (form.listed form.name x.roles ++ Word (codes "TO") ∷ (form.listed form.name x.to ++ form.options x.options))
unfolding g.granted_roles
granted_roles_tell x =
    both_tell (g.names.prints.writes x.roles) (joined (Some (Token.Word (codes "to") ∷ [])) (joined (g.names.prints.writes x.to) (g.options.prints.writes x.options))) (form.listed form.name x.roles) (Word (codes "TO") ∷ (form.listed form.name x.to ++ form.options x.options)) (names_tell x.roles)
    (both_tell (Some (Token.Word (codes "to") ∷ [])) (joined (g.names.prints.writes x.to) (g.options.prints.writes x.options)) (Word (codes "TO") ∷ []) (form.listed form.name x.to ++ form.options x.options) (λ ts e. e)
    (both_tell (g.names.prints.writes x.to) (g.options.prints.writes x.options) (form.listed form.name x.to) (form.options x.options) (names_tell x.to) (options_tell x.options.admin x.options.inherit x.options.set)))

roles_from_tell : (xs ys : List (List ℕ)) (b : Bool) → HasTokens (g.roles_from.prints.writes (xs, (ys, b))) (form.listed form.name xs ++ Word (codes "FROM") ∷ (form.listed form.name ys ++ form.cascade b))
unfolding g.roles_from
roles_from_tell xs ys b =
    both_tell (g.names.prints.writes xs) (joined (Some (Token.Word (codes "from") ∷ [])) (joined (g.names.prints.writes ys) (g.cascade.prints.writes b))) (form.listed form.name xs) (Word (codes "FROM") ∷ (form.listed form.name ys ++ form.cascade b)) (names_tell xs)
    (both_tell (Some (Token.Word (codes "from") ∷ [])) (joined (g.names.prints.writes ys) (g.cascade.prints.writes b)) (Word (codes "FROM") ∷ []) (form.listed form.name ys ++ form.cascade b) (λ ts e. e)
    (both_tell (g.names.prints.writes ys) (g.cascade.prints.writes b) (form.listed form.name ys) (form.cascade b) (names_tell ys) (cascade_tells b)))

option_for_tells : (x : MembershipOption) → HasTokens (g.option_for.prints.writes x) (form.option_for (Some x))
unfolding g.option_for g.option
option_for_tells MembershipOption.Admin = λ ts e. e
option_for_tells MembershipOption.Inherit = λ ts e. e
option_for_tells MembershipOption.Set = λ ts e. e

memberships_tell : (option : Option MembershipOption) (xs ys : List (List ℕ)) (b : Bool) → HasTokens (g.revoked_memberships.prints.writes (Statement.RevokeRoles record { option = option; roles = xs; from = ys; cascade = b }))
    (form.option_for option ++ (form.listed form.name xs ++ Word (codes "FROM") ∷ (form.listed form.name ys ++ form.cascade b)))
unfolding g.revoked_memberships g.revoked_option g.revoked_roles
memberships_tell None xs ys b = roles_from_tell xs ys b
memberships_tell (Some x) xs ys b =
    last_tells (joined (g.option_for.prints.writes x) (g.roles_from.prints.writes (xs, (ys, b)))) (form.option_for (Some x) ++ (form.listed form.name xs ++ Word (codes "FROM") ∷ (form.listed form.name ys ++ form.cascade b)))
    (both_tell (g.option_for.prints.writes x) (g.roles_from.prints.writes (xs, (ys, b))) (form.option_for (Some x)) (form.listed form.name xs ++ Word (codes "FROM") ∷ (form.listed form.name ys ++ form.cascade b)) (option_for_tells x) (roles_from_tell xs ys b))

grant_tells : (x : GrantPrivileges) → HasTokens (g.grant.prints.writes (Statement.Grant x)) (form.statement (Statement.Grant x))
unfolding g.grant g.granted_roles
grant_tells x =
    both_tell (Some (Token.Word (codes "grant") ∷ [])) (or_else (g.granted_privileges.prints.writes (Statement.Grant x)) None) (Word (codes "GRANT") ∷ []) (form.privileges x.privileges ++ Word (codes "ON") ∷ Word x.table ∷ Word (codes "TO") ∷ (form.listed form.grantee x.to ++ form.with_option x.with_option)) (λ ts e. e)
    (last_tells (g.granted_privileges.prints.writes (Statement.Grant x)) (form.privileges x.privileges ++ Word (codes "ON") ∷ Word x.table ∷ Word (codes "TO") ∷ (form.listed form.grantee x.to ++ form.with_option x.with_option)) (granted_tells x))

grant_roles_tell : (x : GrantRoles) → HasTokens (g.grant.prints.writes (Statement.GrantRoles x)) (form.statement (Statement.GrantRoles x))
unfolding g.grant g.granted_privileges
grant_roles_tell x =
    both_tell (Some (Token.Word (codes "grant") ∷ [])) (g.granted_roles.prints.writes (Statement.GrantRoles x)) (Word (codes "GRANT") ∷ []) (form.listed form.name x.roles ++ Word (codes "TO") ∷ (form.listed form.name x.to ++ form.options x.options)) (λ ts e. e) (granted_roles_tell x)

revoke_tells : (x : RevokePrivileges) → HasTokens (g.revoke.prints.writes (Statement.Revoke x)) (form.statement (Statement.Revoke x))
unfolding g.revoke g.revoked_memberships g.revoked_option g.revoked_roles
revoke_tells x =
    both_tell (Some (Token.Word (codes "revoke") ∷ [])) (or_else (g.revoked_privileges.prints.writes (Statement.Revoke x)) None) (Word (codes "REVOKE") ∷ [])
    (form.option_only x.option_only ++ (form.privileges x.privileges ++ Word (codes "ON") ∷ Word x.table ∷ Word (codes "FROM") ∷ (form.listed form.grantee x.from ++ form.cascade x.cascade))) (λ ts e. e)
    (last_tells (g.revoked_privileges.prints.writes (Statement.Revoke x)) (form.option_only x.option_only ++ (form.privileges x.privileges ++ Word (codes "ON") ∷ Word x.table ∷ Word (codes "FROM") ∷ (form.listed form.grantee x.from ++ form.cascade x.cascade))) (revoked_tells x))

revoke_roles_tell : (x : RevokeRoles) → HasTokens (g.revoke.prints.writes (Statement.RevokeRoles x)) (form.statement (Statement.RevokeRoles x))
unfolding g.revoke g.revoked_privileges
revoke_roles_tell x =
    both_tell (Some (Token.Word (codes "revoke") ∷ [])) (g.revoked_memberships.prints.writes (Statement.RevokeRoles x)) (Word (codes "REVOKE") ∷ []) (form.option_for x.option ++ (form.listed form.name x.roles ++ Word (codes "FROM") ∷ (form.listed form.name x.from ++ form.cascade x.cascade))) (λ ts e. e)
    (memberships_tell x.option x.roles x.from x.cascade)

-- ---- SET ROLE

set_tells : (x : SetRole) → HasTokens (g.set_role.prints.writes (Statement.SetRole x)) (form.set_role x)
unfolding g.set_role g.role_change g.role_set g.role_reset g.chosen_role
set_tells (SetRole.To x) =
    last_tells (joined (Some (Token.Word (codes "set") ∷ [])) (joined (Some (Token.Word (codes "role") ∷ [])) (g.name.prints.writes x))) (Word (codes "SET") ∷ Word (codes "ROLE") ∷ Word x ∷ [])
    (both_tell (Some (Token.Word (codes "set") ∷ [])) (joined (Some (Token.Word (codes "role") ∷ [])) (g.name.prints.writes x)) (Word (codes "SET") ∷ []) (Word (codes "ROLE") ∷ Word x ∷ []) (λ ts e. e)
    (both_tell (Some (Token.Word (codes "role") ∷ [])) (g.name.prints.writes x) (Word (codes "ROLE") ∷ []) (Word x ∷ []) (λ ts e. e) (name_tells x)))
set_tells SetRole.None = λ ts e. e
set_tells SetRole.Reset = λ ts e. e

-- ---- statements

module _ (inner : Cut tree_of expr_heads expr_more false) (ih : (x : Term) → HasTokens (inner.rule.prints.writes x) (expr_form.expr x)) where
  body_select : (x : Select) → HasTokens ((g.body inner).rule.prints.writes (Statement.Select x)) (form.statement (Statement.Select x))
  unfolding g.body g.insert g.update g.delete g.create g.alter g.flat_body g.role g.table g.policy g.altered_role g.altered_table g.altered_policy g.dropped_policy g.grant g.granted_privileges g.granted_roles g.revoke g.revoked_privileges g.revoked_memberships g.revoked_option g.revoked_roles g.set_role
  body_select x = last_tells ((g.select inner).rule.prints.writes (Statement.Select x)) (form.statement (Statement.Select x)) (statement_select inner ih x)

  body_insert : (x : Insert) → HasTokens ((g.body inner).rule.prints.writes (Statement.Insert x)) (form.statement (Statement.Insert x))
  unfolding g.body g.select g.update g.delete g.create g.alter g.flat_body g.role g.table g.policy g.altered_role g.altered_table g.altered_policy g.dropped_policy g.grant g.granted_privileges g.granted_roles g.revoke g.revoked_privileges g.revoked_memberships g.revoked_option g.revoked_roles g.set_role
  body_insert x = last_tells ((g.insert inner).rule.prints.writes (Statement.Insert x)) (form.statement (Statement.Insert x)) (insert_tells inner ih x)

  body_update : (x : Update) → HasTokens ((g.body inner).rule.prints.writes (Statement.Update x)) (form.statement (Statement.Update x))
  unfolding g.body g.select g.insert g.delete g.create g.alter g.flat_body g.role g.table g.policy g.altered_role g.altered_table g.altered_policy g.dropped_policy g.grant g.granted_privileges g.granted_roles g.revoke g.revoked_privileges g.revoked_memberships g.revoked_option g.revoked_roles g.set_role
  body_update x = last_tells ((g.update inner).rule.prints.writes (Statement.Update x)) (form.statement (Statement.Update x)) (update_tells inner ih x)

  body_delete : (x : Delete) → HasTokens ((g.body inner).rule.prints.writes (Statement.Delete x)) (form.statement (Statement.Delete x))
  unfolding g.body g.select g.insert g.update g.create g.alter g.flat_body g.role g.table g.policy g.altered_role g.altered_table g.altered_policy g.dropped_policy g.grant g.granted_privileges g.granted_roles g.revoke g.revoked_privileges g.revoked_memberships g.revoked_option g.revoked_roles g.set_role
  body_delete x = last_tells ((g.delete inner).rule.prints.writes (Statement.Delete x)) (form.statement (Statement.Delete x)) (delete_tells inner ih x)

  body_role : (x : CreateRole) → HasTokens ((g.body inner).rule.prints.writes (Statement.CreateRole x)) (form.statement (Statement.CreateRole x))
  unfolding g.body g.select g.insert g.update g.delete g.create g.alter g.flat_body g.table g.policy g.altered_role g.altered_table g.altered_policy g.dropped_policy g.grant g.granted_privileges g.granted_roles g.revoke g.revoked_privileges g.revoked_memberships g.revoked_option g.revoked_roles g.set_role
  body_role x =
      last_tells (joined (Some (Token.Word (codes "create") ∷ [])) (or_else (joined (Some (Token.Word (codes "role") ∷ [])) ((g.role false).prints.writes (Statement.CreateRole x))) (or_else (joined (Some (Token.Word (codes "user") ∷ [])) ((g.role true).prints.writes (Statement.CreateRole x))) None))) (form.statement (Statement.CreateRole x))
      (both_tell (Some (Token.Word (codes "create") ∷ [])) (or_else (joined (Some (Token.Word (codes "role") ∷ [])) ((g.role false).prints.writes (Statement.CreateRole x))) (or_else (joined (Some (Token.Word (codes "user") ∷ [])) ((g.role true).prints.writes (Statement.CreateRole x))) None)) (Word (codes "CREATE") ∷ []) (Word (codes "ROLE") ∷ (Word x.name ∷ form.attributes x.attributes)) (λ ts e. e)
      (either_tells (joined (Some (Token.Word (codes "role") ∷ [])) ((g.role false).prints.writes (Statement.CreateRole x))) (or_else (joined (Some (Token.Word (codes "user") ∷ [])) ((g.role true).prints.writes (Statement.CreateRole x))) None) (Word (codes "ROLE") ∷ (Word x.name ∷ form.attributes x.attributes)) (both_tell (Some (Token.Word (codes "role") ∷ [])) ((g.role false).prints.writes (Statement.CreateRole x)) (Word (codes "ROLE") ∷ []) (Word x.name ∷ form.attributes x.attributes) (λ ts e. e) (role_tells x)) (last_tells (joined (Some (Token.Word (codes "user") ∷ [])) ((g.role true).prints.writes (Statement.CreateRole x))) (Word (codes "ROLE") ∷ (Word x.name ∷ form.attributes x.attributes)) (user_case x (Word (codes "ROLE") ∷ (Word x.name ∷ form.attributes x.attributes))))))

  body_table : (x : CreateTable) → HasTokens ((g.body inner).rule.prints.writes (Statement.CreateTable x)) (form.statement (Statement.CreateTable x))
  unfolding g.body g.select g.insert g.update g.delete g.create g.alter g.flat_body g.role g.policy g.altered_role g.altered_table g.altered_policy g.dropped_policy g.grant g.granted_privileges g.granted_roles g.revoke g.revoked_privileges g.revoked_memberships g.revoked_option g.revoked_roles g.set_role
  body_table x =
      last_tells (joined (Some (Token.Word (codes "create") ∷ [])) (or_else (joined (Some (Token.Word (codes "table") ∷ [])) (g.table.prints.writes (Statement.CreateTable x))) None)) (form.statement (Statement.CreateTable x))
      (both_tell (Some (Token.Word (codes "create") ∷ [])) (or_else (joined (Some (Token.Word (codes "table") ∷ [])) (g.table.prints.writes (Statement.CreateTable x))) None) (Word (codes "CREATE") ∷ []) (Word (codes "TABLE") ∷ (Word x.name ∷ expr_form.enclosed (form.listed form.column x.columns ++ form.key x.key))) (λ ts e. e)
      (last_tells (joined (Some (Token.Word (codes "table") ∷ [])) (g.table.prints.writes (Statement.CreateTable x))) (Word (codes "TABLE") ∷ (Word x.name ∷ expr_form.enclosed (form.listed form.column x.columns ++ form.key x.key))) (both_tell (Some (Token.Word (codes "table") ∷ [])) (g.table.prints.writes (Statement.CreateTable x)) (Word (codes "TABLE") ∷ []) (Word x.name ∷ expr_form.enclosed (form.listed form.column x.columns ++ form.key x.key)) (λ ts e. e) (table_tells x))))

  body_policy : (x : CreatePolicy) → HasTokens ((g.body inner).rule.prints.writes (Statement.CreatePolicy x)) (form.statement (Statement.CreatePolicy x))
  unfolding g.body g.select g.insert g.update g.delete g.create g.alter g.flat_body g.role g.table g.altered_role g.altered_table g.altered_policy g.dropped_policy g.grant g.granted_privileges g.granted_roles g.revoke g.revoked_privileges g.revoked_memberships g.revoked_option g.revoked_roles g.set_role
  body_policy x =
      last_tells (joined (Some (Token.Word (codes "create") ∷ [])) (joined (Some (Token.Word (codes "policy") ∷ [])) ((g.policy inner).rule.prints.writes (Statement.CreatePolicy x)))) (form.statement (Statement.CreatePolicy x))
      (both_tell (Some (Token.Word (codes "create") ∷ [])) (joined (Some (Token.Word (codes "policy") ∷ [])) ((g.policy inner).rule.prints.writes (Statement.CreatePolicy x))) (Word (codes "CREATE") ∷ []) (Word (codes "POLICY") ∷ (form.policy_on x.policy.name x.table ++ form.description x.policy)) (λ ts e. e)
      (both_tell (Some (Token.Word (codes "policy") ∷ [])) ((g.policy inner).rule.prints.writes (Statement.CreatePolicy x)) (Word (codes "POLICY") ∷ []) (form.policy_on x.policy.name x.table ++ form.description x.policy) (λ ts e. e) (policy_tells inner ih x)))

  body_alter_role : (x : AlterRole) → HasTokens ((g.body inner).rule.prints.writes (Statement.AlterRole x)) (form.statement (Statement.AlterRole x))
  unfolding g.body g.select g.insert g.update g.delete g.create g.alter g.flat_body g.role g.table g.policy g.altered_table g.altered_policy g.dropped_policy g.grant g.granted_privileges g.granted_roles g.revoke g.revoked_privileges g.revoked_memberships g.revoked_option g.revoked_roles g.set_role
  body_alter_role x =
      last_tells (joined (Some (Token.Word (codes "alter") ∷ [])) (or_else (joined (Some (Token.Word (codes "role") ∷ [])) (g.altered_role.prints.writes (Statement.AlterRole x))) None)) (form.statement (Statement.AlterRole x))
      (both_tell (Some (Token.Word (codes "alter") ∷ [])) (or_else (joined (Some (Token.Word (codes "role") ∷ [])) (g.altered_role.prints.writes (Statement.AlterRole x))) None) (Word (codes "ALTER") ∷ []) (Word (codes "ROLE") ∷ (Word x.name ∷ form.attributes x.attributes)) (λ ts e. e)
      (last_tells (joined (Some (Token.Word (codes "role") ∷ [])) (g.altered_role.prints.writes (Statement.AlterRole x))) (Word (codes "ROLE") ∷ (Word x.name ∷ form.attributes x.attributes)) (both_tell (Some (Token.Word (codes "role") ∷ [])) (g.altered_role.prints.writes (Statement.AlterRole x)) (Word (codes "ROLE") ∷ []) (Word x.name ∷ form.attributes x.attributes) (λ ts e. e) (altered_role_tells x))))

  body_alter_table : (x : AlterTable) → HasTokens ((g.body inner).rule.prints.writes (Statement.AlterTable x)) (form.statement (Statement.AlterTable x))
  unfolding g.body g.select g.insert g.update g.delete g.create g.alter g.flat_body g.role g.table g.policy g.altered_role g.altered_policy g.dropped_policy g.grant g.granted_privileges g.granted_roles g.revoke g.revoked_privileges g.revoked_memberships g.revoked_option g.revoked_roles g.set_role
  body_alter_table x =
      last_tells (joined (Some (Token.Word (codes "alter") ∷ [])) (or_else (joined (Some (Token.Word (codes "table") ∷ [])) (g.altered_table.prints.writes (Statement.AlterTable x))) None)) (form.statement (Statement.AlterTable x))
      (both_tell (Some (Token.Word (codes "alter") ∷ [])) (or_else (joined (Some (Token.Word (codes "table") ∷ [])) (g.altered_table.prints.writes (Statement.AlterTable x))) None) (Word (codes "ALTER") ∷ []) (Word (codes "TABLE") ∷ (Word x.table ∷ (form.row_change x.change ++ Word (codes "ROW") ∷ Word (codes "LEVEL") ∷ Word (codes "SECURITY") ∷ []))) (λ ts e. e)
      (last_tells (joined (Some (Token.Word (codes "table") ∷ [])) (g.altered_table.prints.writes (Statement.AlterTable x))) (Word (codes "TABLE") ∷ (Word x.table ∷ (form.row_change x.change ++ Word (codes "ROW") ∷ Word (codes "LEVEL") ∷ Word (codes "SECURITY") ∷ []))) (both_tell (Some (Token.Word (codes "table") ∷ [])) (g.altered_table.prints.writes (Statement.AlterTable x)) (Word (codes "TABLE") ∷ []) (Word x.table ∷ (form.row_change x.change ++ Word (codes "ROW") ∷ Word (codes "LEVEL") ∷ Word (codes "SECURITY") ∷ [])) (λ ts e. e) (altered_table_tells x))))

  body_alter_policy : (x : AlterPolicy) → HasTokens ((g.body inner).rule.prints.writes (Statement.AlterPolicy x)) (form.statement (Statement.AlterPolicy x))
  unfolding g.body g.select g.insert g.update g.delete g.create g.alter g.flat_body g.role g.table g.policy g.altered_role g.altered_table g.dropped_policy g.grant g.granted_privileges g.granted_roles g.revoke g.revoked_privileges g.revoked_memberships g.revoked_option g.revoked_roles g.set_role
  body_alter_policy x =
      last_tells (joined (Some (Token.Word (codes "alter") ∷ [])) (joined (Some (Token.Word (codes "policy") ∷ [])) ((g.altered_policy inner).rule.prints.writes (Statement.AlterPolicy x)))) (form.statement (Statement.AlterPolicy x))
      (both_tell (Some (Token.Word (codes "alter") ∷ [])) (joined (Some (Token.Word (codes "policy") ∷ [])) ((g.altered_policy inner).rule.prints.writes (Statement.AlterPolicy x))) (Word (codes "ALTER") ∷ []) (Word (codes "POLICY") ∷ (form.policy_on x.name x.table ++ (form.to_if_any x.to ++ (form.using_ x.using ++ form.check_ x.check)))) (λ ts e. e)
      (both_tell (Some (Token.Word (codes "policy") ∷ [])) ((g.altered_policy inner).rule.prints.writes (Statement.AlterPolicy x)) (Word (codes "POLICY") ∷ []) (form.policy_on x.name x.table ++ (form.to_if_any x.to ++ (form.using_ x.using ++ form.check_ x.check))) (λ ts e. e) (altered_policy_tells inner ih x)))

  body_drop : (x : DropPolicy) → HasTokens ((g.body inner).rule.prints.writes (Statement.DropPolicy x)) (form.statement (Statement.DropPolicy x))
  unfolding g.body g.select g.insert g.update g.delete g.create g.alter g.flat_body g.role g.table g.policy g.altered_role g.altered_table g.altered_policy g.grant g.granted_privileges g.granted_roles g.revoke g.revoked_privileges g.revoked_memberships g.revoked_option g.revoked_roles g.set_role
  body_drop x = last_tells (g.dropped_policy.prints.writes (Statement.DropPolicy x)) (form.statement (Statement.DropPolicy x)) (dropped_tells x)

  body_grant : (x : GrantPrivileges) → HasTokens ((g.body inner).rule.prints.writes (Statement.Grant x)) (form.statement (Statement.Grant x))
  unfolding g.body g.select g.insert g.update g.delete g.create g.alter g.flat_body g.role g.table g.policy g.altered_role g.altered_table g.altered_policy g.dropped_policy g.granted_privileges g.granted_roles g.revoke g.revoked_privileges g.revoked_memberships g.revoked_option g.revoked_roles g.set_role
  body_grant x = last_tells (g.grant.prints.writes (Statement.Grant x)) (form.statement (Statement.Grant x)) (grant_tells x)

  body_grant_roles : (x : GrantRoles) → HasTokens ((g.body inner).rule.prints.writes (Statement.GrantRoles x)) (form.statement (Statement.GrantRoles x))
  unfolding g.body g.select g.insert g.update g.delete g.create g.alter g.flat_body g.role g.table g.policy g.altered_role g.altered_table g.altered_policy g.dropped_policy g.granted_privileges g.granted_roles g.revoke g.revoked_privileges g.revoked_memberships g.revoked_option g.revoked_roles g.set_role
  body_grant_roles x = last_tells (g.grant.prints.writes (Statement.GrantRoles x)) (form.statement (Statement.GrantRoles x)) (grant_roles_tell x)

  body_revoke : (x : RevokePrivileges) → HasTokens ((g.body inner).rule.prints.writes (Statement.Revoke x)) (form.statement (Statement.Revoke x))
  unfolding g.body g.select g.insert g.update g.delete g.create g.alter g.flat_body g.role g.table g.policy g.altered_role g.altered_table g.altered_policy g.dropped_policy g.grant g.granted_privileges g.granted_roles g.revoked_privileges g.revoked_memberships g.revoked_option g.revoked_roles g.set_role
  body_revoke x = last_tells (g.revoke.prints.writes (Statement.Revoke x)) (form.statement (Statement.Revoke x)) (revoke_tells x)

  body_revoke_roles : (x : RevokeRoles) → HasTokens ((g.body inner).rule.prints.writes (Statement.RevokeRoles x)) (form.statement (Statement.RevokeRoles x))
  unfolding g.body g.select g.insert g.update g.delete g.create g.alter g.flat_body g.role g.table g.policy g.altered_role g.altered_table g.altered_policy g.dropped_policy g.grant g.granted_privileges g.granted_roles g.revoked_privileges g.revoked_memberships g.revoked_option g.revoked_roles g.set_role
  body_revoke_roles x = last_tells (g.revoke.prints.writes (Statement.RevokeRoles x)) (form.statement (Statement.RevokeRoles x)) (revoke_roles_tell x)

  body_set : (x : SetRole) → HasTokens ((g.body inner).rule.prints.writes (Statement.SetRole x)) (form.statement (Statement.SetRole x))
  unfolding g.body g.select g.insert g.update g.delete g.create g.alter g.flat_body g.role g.table g.policy g.altered_role g.altered_table g.altered_policy g.dropped_policy g.grant g.granted_privileges g.granted_roles g.revoke g.revoked_privileges g.revoked_memberships g.revoked_option g.revoked_roles
  body_set x = set_tells x

  body_transaction : (x : TransactionCommand) → HasTokens ((g.body inner).rule.prints.writes (Statement.Transaction x)) (form.statement (Statement.Transaction x))
  unfolding g.body g.select g.insert g.update g.delete g.create g.alter g.flat_body g.role g.table g.policy g.altered_role g.altered_table g.altered_policy g.dropped_policy g.grant g.granted_privileges g.granted_roles g.revoke g.revoked_privileges g.revoked_memberships g.revoked_option g.revoked_roles g.set_role
  body_transaction x ts e = cc

  body_tells : (x : Statement) → HasTokens ((g.body inner).rule.prints.writes x) (form.statement x)
  body_tells (Statement.Select x) = body_select x
  body_tells (Statement.Insert x) = body_insert x
  body_tells (Statement.Update x) = body_update x
  body_tells (Statement.Delete x) = body_delete x
  body_tells (Statement.CreateRole x) = body_role x
  body_tells (Statement.CreateTable x) = body_table x
  body_tells (Statement.CreatePolicy x) = body_policy x
  body_tells (Statement.AlterRole x) = body_alter_role x
  body_tells (Statement.AlterTable x) = body_alter_table x
  body_tells (Statement.AlterPolicy x) = body_alter_policy x
  body_tells (Statement.DropPolicy x) = body_drop x
  body_tells (Statement.Grant x) = body_grant x
  body_tells (Statement.GrantRoles x) = body_grant_roles x
  body_tells (Statement.Revoke x) = body_revoke x
  body_tells (Statement.RevokeRoles x) = body_revoke_roles x
  body_tells (Statement.SetRole x) = body_set x
  body_tells (Statement.Transaction x) = body_transaction x

-- What is written for a statement are the tokens of its words.
pub statement_tells : (depth : ℕ) (x : Statement) → HasTokens ((g.statement depth).rule.prints.writes x) (form.statement x)
unfolding g.statement
statement_tells depth x = behind_none ((g.body (g.expr depth)).rule.prints.writes x) (form.statement x) (body_tells (g.expr depth) (expr_tells depth) x)

pub written_told : (x : Statement) (ts : List Token) → IsWritten ts x → tokens_of (form.statement x) ≡ Some ts
written_told x ts h = statement_tells h.depth x ts h.written
