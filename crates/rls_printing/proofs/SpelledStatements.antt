-- What is spelled as a statement is written, within as many parentheses as its highest expression is high.
use Rattle.std.proofs.Common.{◌≡◌, ℕ, ◌≤◌, true, false, List, [], ◌∷◌, Option, Some, None, refl, sym, inl, inr, subst, arith, le_refl}
use Rattle.std.specs.Prelude.{codes, max}
use Rattle.rls_expr.specs.Terms.{Term, terms_of}
use Rattle.rls_statement.specs.{declared.changing.Assignment.Assignment, declared.statement.Statement.Statement}
use Rattle.rls_text.specs.declared.token.Symbol.TheVariants as s
use Rattle.rls_text.specs.{declared.token.Token.Token, Cut.Cut, Cutting.tree_of, Printing.IsWritten, FirstSets.expr_heads, FirstSets.expr_more, Lang.only, Lang.After, Writes.joined, Writes.or_else, Writes.many_writes, Heights.height, Heights.heights, Heights.height_if, Heights.highest, Heights.set_values, Heights.height_of}
use Rattle.rls_text.specs.declared.token.Token.TheVariants as t
use Rattle.rls_text.specs.Cut as cut
use Rattle.rls_text.specs.Grammar as g
use Rattle.rls_text.specs.Values as values
use Rattle.rls_printing.proofs.{Writing.There, Writing.there_both, Writing.parens, Writing.w, Spelled.there_first, Spelled.there_last, Spelled.there_if, Spelled.name_full, Spelled.returning_full, Spelled.columns_full, SpelledExprs.Says, SpelledExprs.If, SpelledExprs.Each, SpelledExprs.Reached, SpelledExprs.PartsReached, SpelledExprs.both_say, SpelledExprs.after_says, SpelledExprs.before_says, SpelledExprs.either_says, SpelledExprs.mapped_says, SpelledExprs.many_say, SpelledExprs.perhaps_says, SpelledExprs.enclosed_says, SpelledExprs.there_parens, SpelledExprs.parts_there, SpelledExprs.condition_there, SpelledExprs.condition_says, SpelledExprs.select_says, SpelledExprs.parts_say, SpelledExprs.expr_says, SpelledParts.role_full, SpelledParts.altered_role_full, SpelledParts.table_full, SpelledParts.altered_table_full, SpelledParts.policy_on_full, SpelledParts.options_full, SpelledParts.for_full, SpelledParts.grantees_if_any_full, SpelledParts.flat_full}

-- a value that is as high is written so
pub record WrittenFrom {A : Type 0} (high : A → ℕ) (w : ℕ → A → Option (List Token)) (a : A) : Type 0 where
  pub within : (n : ℕ) → high a ≤ n → There (w n a)

-- ---- INSERT

tuple_there : (xs : List Term) (n : ℕ) → heights (terms_of xs) ≤ n → PartsReached xs → There ((g.tuple (g.expr n)).rule.prints.writes xs)
unfolding g.tuple
tuple_there xs n h r = there_parens ((g.parts (g.expr n)).rule.prints.writes xs) (parts_there xs n h r)

more_tuples : (xs : List (List Term)) (n : ℕ) → highest xs ≤ n → Each PartsReached xs → There (many_writes (cut.with_comma (g.tuple (g.expr n))).rule.spells (cut.with_comma (g.tuple (g.expr n))).rule.prints xs)
unfolding cut.with_comma
more_tuples [] n h r = tt
more_tuples (x ∷ xs) n h r =
    there_both (joined (Some (t.Symbol s.Comma ∷ [])) ((g.tuple (g.expr n)).rule.prints.writes x)) (many_writes (cut.with_comma (g.tuple (g.expr n))).rule.spells (cut.with_comma (g.tuple (g.expr n))).rule.prints xs)
    (there_both (Some (t.Symbol s.Comma ∷ [])) ((g.tuple (g.expr n)).rule.prints.writes x) tt (tuple_there x n (omega (arith, h)) r.0)) (more_tuples xs n (omega (arith, h)) r.1)

tuples_there : (x : List Term) (xs : List (List Term)) (n : ℕ) → highest (x ∷ xs) ≤ n → PartsReached x → Each PartsReached xs → There ((g.tuples (g.expr n)).rule.prints.writes (x ∷ xs))
unfolding g.tuples
tuples_there x xs n h r more =
    there_both ((g.tuple (g.expr n)).rule.prints.writes x) (many_writes (cut.with_comma (g.tuple (g.expr n))).rule.spells (cut.with_comma (g.tuple (g.expr n))).rule.prints xs)
    (tuple_there x n (omega (arith, h)) r) (more_tuples xs n (omega (arith, h)) more)

-- ---- UPDATE

-- a column that is set, and its expression
abbrev AssignmentReached : Assignment → Type 0
AssignmentReached = WrittenFrom (λ x. height x.value) (λ n. (g.set_column (g.expr n)).rule.prints.writes)

assignment_there : (r : List ℕ × Term) → There (g.name.prints.writes r.0) → Reached r.1 → AssignmentReached (values.set_column_of r)
unfolding g.set_column
assignment_there r named h = record {
  within = λ n k.
      there_both (g.name.prints.writes r.0) (joined (Some (t.Symbol s.Equal ∷ [])) (w (g.expr n) r.1)) named (there_both (Some (t.Symbol s.Equal ∷ [])) (w (g.expr n) r.1) tt (h.within n k));
}

more_assignments : (xs : List Assignment) (n : ℕ) → heights (terms_of (set_values xs)) ≤ n → Each AssignmentReached xs → There (many_writes (cut.with_comma (g.set_column (g.expr n))).rule.spells (cut.with_comma (g.set_column (g.expr n))).rule.prints xs)
unfolding cut.with_comma
more_assignments [] n h r = tt
more_assignments (x ∷ xs) n h r =
    there_both (joined (Some (t.Symbol s.Comma ∷ [])) ((g.set_column (g.expr n)).rule.prints.writes x)) (many_writes (cut.with_comma (g.set_column (g.expr n))).rule.spells (cut.with_comma (g.set_column (g.expr n))).rule.prints xs)
    (there_both (Some (t.Symbol s.Comma ∷ [])) ((g.set_column (g.expr n)).rule.prints.writes x) tt (r.0.within n (omega (arith, h)))) (more_assignments xs n (omega (arith, h)) r.1)

assignments_there : (x : Assignment) (xs : List Assignment) (n : ℕ) → heights (terms_of (set_values (x ∷ xs))) ≤ n → AssignmentReached x → Each AssignmentReached xs → There ((g.all_set_columns (g.expr n)).rule.prints.writes (x ∷ xs))
unfolding g.all_set_columns
assignments_there x xs n h r more =
    there_both ((g.set_column (g.expr n)).rule.prints.writes x) (many_writes (cut.with_comma (g.set_column (g.expr n))).rule.spells (cut.with_comma (g.set_column (g.expr n))).rule.prints xs)
    (r.within n (omega (arith, h))) (more_assignments xs n (omega (arith, h)) more)

-- ---- policies

using_there : (a : Option Term) (n : ℕ) → height_if a ≤ n → If Reached a → There ((g.using (g.expr n)).rule.prints.writes a)
unfolding g.using g.parenthesized
using_there None n h r = tt
using_there (Some x) n h r = there_both (Some (t.Word (codes "using") ∷ [])) (parens (w (g.expr n) x)) tt (there_parens (w (g.expr n) x) (r.within n h))

check_there : (a : Option Term) (n : ℕ) → height_if a ≤ n → If Reached a → There ((g.check (g.expr n)).rule.prints.writes a)
unfolding g.check g.parenthesized
check_there None n h r = tt
check_there (Some x) n h r =
    there_both (Some (t.Word (codes "with") ∷ [])) (joined (Some (t.Word (codes "check") ∷ [])) (parens (w (g.expr n) x))) tt
    (there_both (Some (t.Word (codes "check") ∷ [])) (parens (w (g.expr n) x)) tt (there_parens (w (g.expr n) x) (r.within n h)))

conditions_there : (r : Option Term × Option Term) (n : ℕ) → height_if r.0 ≤ n → height_if r.1 ≤ n → If Reached r.0 → If Reached r.1 → There ((g.conditions (g.expr n)).rule.prints.writes r)
unfolding g.conditions
conditions_there r n h k x y = there_both ((g.using (g.expr n)).rule.prints.writes r.0) ((g.check (g.expr n)).rule.prints.writes r.1) (using_there r.0 n h x) (check_there r.1 n k y)

-- ---- what is spelled

module _ (inner : Cut tree_of expr_heads expr_more false) (ih : Says inner.rule.spells Reached) where
  -- SELECT
  select_full : Says (g.select inner).rule.spells (WrittenFrom height_of (λ n. (g.select (g.expr n)).rule.prints.writes))
  unfolding g.select
  select_full = record {
    says = λ ts x h.
        let r = (select_says inner ih).says ts h.source h.spelled in
        let all : WrittenFrom height_of (λ n. (g.select (g.expr n)).rule.prints.writes) (values.select_of h.source) = record { within = λ n k. r.within n k } in
        subst (λ z. WrittenFrom height_of (λ n. (g.select (g.expr n)).rule.prints.writes) z) (sym h.value) all;
  }

  tuple_says : Says (g.tuple inner).rule.spells PartsReached
  unfolding g.tuple
  tuple_says = enclosed_says (g.parts inner).rule.spells PartsReached (parts_say inner ih)

  tuples_say : Says (g.tuples inner).rule.spells (WrittenFrom highest (λ n. (g.tuples (g.expr n)).rule.prints.writes))
  unfolding g.tuples cut.with_comma
  tuples_say = record {
    says = λ ts xs h.
        let r = h.source in
        let x = tuple_says.says h.spelled.front r.0 h.spelled.one in
        let more = (many_say (After (only (t.Symbol s.Comma)) (g.tuple inner).rule.spells) PartsReached (after_says (only (t.Symbol s.Comma)) (g.tuple inner).rule.spells PartsReached tuple_says)).says h.spelled.rest r.1 h.spelled.other in
        let all : WrittenFrom highest (λ n. (g.tuples (g.expr n)).rule.prints.writes) (r.0 ∷ r.1) = record { within = λ n k. tuples_there r.0 r.1 n k x more } in
        subst (λ z. WrittenFrom highest (λ n. (g.tuples (g.expr n)).rule.prints.writes) z) (sym h.value) all;
  }

  even_say : Says (g.even_tuples inner).rule.spells (WrittenFrom highest (λ n. (g.even_tuples (g.expr n)).rule.prints.writes))
  unfolding g.even_tuples
  even_say = record { says = λ ts x h. record { within = λ n k. there_if (values.are_even x) ((g.tuples (g.expr n)).rule.prints.writes x) h.passes ((tuples_say.says ts x h.spelled).within n k) } }

  rows_say : Says (g.proper_rows inner).rule.spells (WrittenFrom (λ r. highest r.1) (λ n. (g.proper_rows (g.expr n)).rule.prints.writes))
  unfolding g.proper_rows g.rows
  rows_say = record {
    says = λ ts r h.
        let y = h.spelled in
        let tuples = (after_says (only (t.Word (codes "values"))) (g.even_tuples inner).rule.spells (WrittenFrom highest (λ n. (g.even_tuples (g.expr n)).rule.prints.writes)) even_say).says y.rest r.1 y.other in
        record {
          within = λ n k.
              there_if (values.are_as_long r.0 r.1) (joined (g.columns_if_any.prints.writes r.0) (joined (Some (t.Word (codes "values") ∷ [])) ((g.even_tuples (g.expr n)).rule.prints.writes r.1))) h.passes
              (there_both (g.columns_if_any.prints.writes r.0) (joined (Some (t.Word (codes "values") ∷ [])) ((g.even_tuples (g.expr n)).rule.prints.writes r.1)) (columns_full.written y.front r.0 y.one)
              (there_both (Some (t.Word (codes "values") ∷ [])) ((g.even_tuples (g.expr n)).rule.prints.writes r.1) tt (tuples.within n k)));
        };
  }

  -- INSERT
  insert_full : Says (g.insert inner).rule.spells (WrittenFrom height_of (λ n. (g.insert (g.expr n)).rule.prints.writes))
  unfolding g.insert
  insert_full =
      mapped_says values.insert_of _ (λ r. There (g.name.prints.writes r.0) × (WrittenFrom (λ z. highest z.1) (λ n. (g.proper_rows (g.expr n)).rule.prints.writes) r.1.0 × There (g.returning.prints.writes r.1.1)))
      (WrittenFrom height_of (λ n. (g.insert (g.expr n)).rule.prints.writes))
      (λ r h. record {
        within = λ n k.
            there_both (Some (t.Word (codes "insert") ∷ [])) (joined (Some (t.Word (codes "into") ∷ [])) (joined (g.name.prints.writes r.0) (joined ((g.proper_rows (g.expr n)).rule.prints.writes r.1.0) (g.returning.prints.writes r.1.1)))) tt
            (there_both (Some (t.Word (codes "into") ∷ [])) (joined (g.name.prints.writes r.0) (joined ((g.proper_rows (g.expr n)).rule.prints.writes r.1.0) (g.returning.prints.writes r.1.1))) tt
            (there_both (g.name.prints.writes r.0) (joined ((g.proper_rows (g.expr n)).rule.prints.writes r.1.0) (g.returning.prints.writes r.1.1)) h.0
            (there_both ((g.proper_rows (g.expr n)).rule.prints.writes r.1.0) (g.returning.prints.writes r.1.1) (h.1.0.within n k) h.1.1)));
      })
      (after_says (only (t.Word (codes "insert"))) _ _ (after_says (only (t.Word (codes "into"))) _ _
      (both_say g.name.spells _ (λ z. There (g.name.prints.writes z)) _ (record { says = λ ts z x. name_full.written ts z x })
      (both_say (g.proper_rows inner).rule.spells g.returning.spells (WrittenFrom (λ z. highest z.1) (λ n. (g.proper_rows (g.expr n)).rule.prints.writes)) (λ z. There (g.returning.prints.writes z)) rows_say (record { says = λ ts z x. returning_full.written ts z x })))))

  assignment_says : Says (g.set_column inner).rule.spells AssignmentReached
  unfolding g.set_column
  assignment_says =
      mapped_says values.set_column_of _ (λ r. There (g.name.prints.writes r.0) × Reached r.1) AssignmentReached (λ r h. assignment_there r h.0 h.1)
      (both_say g.name.spells _ (λ z. There (g.name.prints.writes z)) Reached (record { says = λ ts z x. name_full.written ts z x }) (after_says (only (t.Symbol s.Equal)) inner.rule.spells Reached ih))

  all_assignments_say : Says (g.all_set_columns inner).rule.spells (WrittenFrom (λ xs. heights (terms_of (set_values xs))) (λ n. (g.all_set_columns (g.expr n)).rule.prints.writes))
  unfolding g.all_set_columns cut.with_comma
  all_assignments_say =
      mapped_says (λ r. r.0 ∷ r.1) _ (λ r. AssignmentReached r.0 × Each AssignmentReached r.1) (WrittenFrom (λ xs. heights (terms_of (set_values xs))) (λ n. (g.all_set_columns (g.expr n)).rule.prints.writes))
      (λ r h. record { within = λ n k. assignments_there r.0 r.1 n k h.0 h.1 })
      (both_say (g.set_column inner).rule.spells _ AssignmentReached (Each AssignmentReached) assignment_says
      (many_say (After (only (t.Symbol s.Comma)) (g.set_column inner).rule.spells) AssignmentReached (after_says (only (t.Symbol s.Comma)) (g.set_column inner).rule.spells AssignmentReached assignment_says)))

  assignments_say : Says (g.set_columns inner).rule.spells (WrittenFrom (λ xs. heights (terms_of (set_values xs))) (λ n. (g.set_columns (g.expr n)).rule.prints.writes))
  unfolding g.set_columns
  assignments_say = record {
    says = λ ts xs h. record {
      within = λ n k. there_if (values.are_distinct (values.set_names xs)) ((g.all_set_columns (g.expr n)).rule.prints.writes xs) h.passes ((all_assignments_say.says ts xs h.spelled).within n k);
    };
  }

  ending_says : Says (g.ending inner).rule.spells (WrittenFrom (λ r. height_if r.0) (λ n. (g.ending (g.expr n)).rule.prints.writes))
  unfolding g.ending
  ending_says = record {
    says = λ ts r h. record {
      within = λ n k.
          there_both ((g.condition (g.expr n)).rule.prints.writes r.0) (g.returning.prints.writes r.1) (condition_there r.0 n k ((condition_says inner ih).says h.front r.0 h.one)) (returning_full.written h.rest r.1 h.other);
    };
  }

  -- UPDATE
  update_full : Says (g.update inner).rule.spells (WrittenFrom height_of (λ n. (g.update (g.expr n)).rule.prints.writes))
  unfolding g.update
  update_full =
      mapped_says values.update_of _
      (λ r. There (g.name.prints.writes r.0) × (WrittenFrom (λ xs. heights (terms_of (set_values xs))) (λ n. (g.set_columns (g.expr n)).rule.prints.writes) r.1.0 × WrittenFrom (λ z. height_if z.0) (λ n. (g.ending (g.expr n)).rule.prints.writes) r.1.1))
      (WrittenFrom height_of (λ n. (g.update (g.expr n)).rule.prints.writes))
      (λ r h. record {
        within = λ n k.
            there_both (Some (t.Word (codes "update") ∷ [])) (joined (g.name.prints.writes r.0) (joined (Some (t.Word (codes "set") ∷ [])) (joined ((g.set_columns (g.expr n)).rule.prints.writes r.1.0) ((g.ending (g.expr n)).rule.prints.writes r.1.1)))) tt
            (there_both (g.name.prints.writes r.0) (joined (Some (t.Word (codes "set") ∷ [])) (joined ((g.set_columns (g.expr n)).rule.prints.writes r.1.0) ((g.ending (g.expr n)).rule.prints.writes r.1.1))) h.0
            (there_both (Some (t.Word (codes "set") ∷ [])) (joined ((g.set_columns (g.expr n)).rule.prints.writes r.1.0) ((g.ending (g.expr n)).rule.prints.writes r.1.1)) tt
            (there_both ((g.set_columns (g.expr n)).rule.prints.writes r.1.0) ((g.ending (g.expr n)).rule.prints.writes r.1.1) (h.1.0.within n (omega (arith, k))) (h.1.1.within n (omega (arith, k))))));
      })
      (after_says (only (t.Word (codes "update"))) _ _
      (both_say g.name.spells _ (λ z. There (g.name.prints.writes z)) _ (record { says = λ ts z x. name_full.written ts z x })
      (after_says (only (t.Word (codes "set"))) _ _
      (both_say (g.set_columns inner).rule.spells (g.ending inner).rule.spells (WrittenFrom (λ xs. heights (terms_of (set_values xs))) (λ n. (g.set_columns (g.expr n)).rule.prints.writes)) (WrittenFrom (λ z. height_if z.0) (λ n. (g.ending (g.expr n)).rule.prints.writes)) assignments_say ending_says))))

  -- DELETE
  delete_full : Says (g.delete inner).rule.spells (WrittenFrom height_of (λ n. (g.delete (g.expr n)).rule.prints.writes))
  unfolding g.delete
  delete_full =
      mapped_says values.delete_of _ (λ r. There (g.name.prints.writes r.0) × WrittenFrom (λ z. height_if z.0) (λ n. (g.ending (g.expr n)).rule.prints.writes) r.1) (WrittenFrom height_of (λ n. (g.delete (g.expr n)).rule.prints.writes))
      (λ r h. record {
        within = λ n k.
            there_both (Some (t.Word (codes "delete") ∷ [])) (joined (Some (t.Word (codes "from") ∷ [])) (joined (g.name.prints.writes r.0) ((g.ending (g.expr n)).rule.prints.writes r.1))) tt
            (there_both (Some (t.Word (codes "from") ∷ [])) (joined (g.name.prints.writes r.0) ((g.ending (g.expr n)).rule.prints.writes r.1)) tt
            (there_both (g.name.prints.writes r.0) ((g.ending (g.expr n)).rule.prints.writes r.1) h.0 (h.1.within n k)));
      })
      (after_says (only (t.Word (codes "delete"))) _ _ (after_says (only (t.Word (codes "from"))) _ _
      (both_say g.name.spells (g.ending inner).rule.spells (λ z. There (g.name.prints.writes z)) (WrittenFrom (λ z. height_if z.0) (λ n. (g.ending (g.expr n)).rule.prints.writes)) (record { says = λ ts z x. name_full.written ts z x }) ending_says)))

  parenthesized_says : Says (g.parenthesized inner).rule.spells Reached
  unfolding g.parenthesized
  parenthesized_says = enclosed_says inner.rule.spells Reached ih

  using_says : Says (g.using inner).rule.spells (If Reached)
  unfolding g.using
  using_says = perhaps_says _ Reached (after_says (only (t.Word (codes "using"))) (g.parenthesized inner).rule.spells Reached parenthesized_says)

  check_says : Says (g.check inner).rule.spells (If Reached)
  unfolding g.check
  check_says = perhaps_says _ Reached (after_says (only (t.Word (codes "with"))) _ Reached (after_says (only (t.Word (codes "check"))) (g.parenthesized inner).rule.spells Reached parenthesized_says))

  conditions_say : Says (g.conditions inner).rule.spells (λ r. If Reached r.0 × If Reached r.1)
  unfolding g.conditions
  conditions_say = both_say (g.using inner).rule.spells (g.check inner).rule.spells (If Reached) (If Reached) using_says check_says

  description_says : Says (g.proper_description inner).rule.spells (WrittenFrom (λ r. max (height_if r.1.1.0) (height_if r.1.1.1)) (λ n. (g.proper_description (g.expr n)).rule.prints.writes))
  unfolding g.proper_description g.description
  description_says = record {
    says = λ ts r h.
        let y = h.spelled in
        let z = y.other in
        let c = conditions_say.says z.rest r.1.1 z.other in
        record {
          within = λ n k.
              there_if (values.is_policy r) (joined (g.policy_options.prints.writes r.0) (joined (g.for_grantees.prints.writes r.1.0) ((g.conditions (g.expr n)).rule.prints.writes r.1.1))) h.passes
              (there_both (g.policy_options.prints.writes r.0) (joined (g.for_grantees.prints.writes r.1.0) ((g.conditions (g.expr n)).rule.prints.writes r.1.1)) (options_full.written y.front r.0 y.one)
              (there_both (g.for_grantees.prints.writes r.1.0) ((g.conditions (g.expr n)).rule.prints.writes r.1.1) (for_full.written z.front r.1.0 z.one) (conditions_there r.1.1 n (omega (arith, k)) (omega (arith, k)) c.0 c.1)));
        };
  }

  -- CREATE POLICY
  policy_full : Says (g.policy inner).rule.spells (WrittenFrom height_of (λ n. (g.policy (g.expr n)).rule.prints.writes))
  unfolding g.policy
  policy_full =
      mapped_says values.policy_of _
      (λ r. There (g.policy_on.prints.writes r.0) × WrittenFrom (λ z. max (height_if z.1.1.0) (height_if z.1.1.1)) (λ n. (g.proper_description (g.expr n)).rule.prints.writes) r.1) (WrittenFrom height_of (λ n. (g.policy (g.expr n)).rule.prints.writes))
      (λ r h. record { within = λ n k. there_both (g.policy_on.prints.writes r.0) ((g.proper_description (g.expr n)).rule.prints.writes r.1) h.0 (h.1.within n k) })
      (both_say g.policy_on.spells (g.proper_description inner).rule.spells (λ z. There (g.policy_on.prints.writes z)) (WrittenFrom (λ z. max (height_if z.1.1.0) (height_if z.1.1.1)) (λ n. (g.proper_description (g.expr n)).rule.prints.writes))
      (record { says = λ ts z x. policy_on_full.written ts z x }) description_says)

  change_says : Says (g.proper_change inner).rule.spells (WrittenFrom (λ r. max (height_if r.1.0) (height_if r.1.1)) (λ n. (g.proper_change (g.expr n)).rule.prints.writes))
  unfolding g.proper_change g.policy_change
  change_says = record {
    says = λ ts r h.
        let y = h.spelled in
        let c = conditions_say.says y.rest r.1 y.other in
        record {
          within = λ n k.
              there_if (values.is_change r) (joined (g.grantees_if_any.prints.writes r.0) ((g.conditions (g.expr n)).rule.prints.writes r.1)) h.passes
              (there_both (g.grantees_if_any.prints.writes r.0) ((g.conditions (g.expr n)).rule.prints.writes r.1) (grantees_if_any_full.written y.front r.0 y.one) (conditions_there r.1 n (omega (arith, k)) (omega (arith, k)) c.0 c.1));
        };
  }

  -- ALTER POLICY
  altered_policy_full : Says (g.altered_policy inner).rule.spells (WrittenFrom height_of (λ n. (g.altered_policy (g.expr n)).rule.prints.writes))
  unfolding g.altered_policy
  altered_policy_full =
      mapped_says values.altering_policy_of _
      (λ r. There (g.policy_on.prints.writes r.0) × WrittenFrom (λ z. max (height_if z.1.0) (height_if z.1.1)) (λ n. (g.proper_change (g.expr n)).rule.prints.writes) r.1) (WrittenFrom height_of (λ n. (g.altered_policy (g.expr n)).rule.prints.writes))
      (λ r h. record { within = λ n k. there_both (g.policy_on.prints.writes r.0) ((g.proper_change (g.expr n)).rule.prints.writes r.1) h.0 (h.1.within n k) })
      (both_say g.policy_on.spells (g.proper_change inner).rule.spells (λ z. There (g.policy_on.prints.writes z)) (WrittenFrom (λ z. max (height_if z.1.0) (height_if z.1.1)) (λ n. (g.proper_change (g.expr n)).rule.prints.writes))
      (record { says = λ ts z x. policy_on_full.written ts z x }) change_says)

-- ---- CREATE, ALTER, and all statements

-- written by one of the ways of CREATE
abbrev created : ℕ → Statement → Option (List Token)
created n x =
    or_else (joined (Some (t.Word (codes "role") ∷ [])) ((g.role false).prints.writes x))
    (or_else (joined (Some (t.Word (codes "user") ∷ [])) ((g.role true).prints.writes x))
    (or_else (joined (Some (t.Word (codes "table") ∷ [])) (g.table.prints.writes x)) (joined (Some (t.Word (codes "policy") ∷ [])) ((g.policy (g.expr n)).rule.prints.writes x))))

create_there : (n : ℕ) (x : Statement) → There (created n x) → There ((g.create (g.expr n)).rule.prints.writes x)
unfolding g.create
create_there n x h = there_both (Some (t.Word (codes "create") ∷ [])) (created n x) tt h

-- written by one of the ways of ALTER
abbrev altered : ℕ → Statement → Option (List Token)
altered n x =
    or_else (joined (Some (t.Word (codes "role") ∷ [])) (g.altered_role.prints.writes x))
    (or_else (joined (Some (t.Word (codes "table") ∷ [])) (g.altered_table.prints.writes x)) (joined (Some (t.Word (codes "policy") ∷ [])) ((g.altered_policy (g.expr n)).rule.prints.writes x)))

alter_there : (n : ℕ) (x : Statement) → There (altered n x) → There ((g.alter (g.expr n)).rule.prints.writes x)
unfolding g.alter
alter_there n x h = there_both (Some (t.Word (codes "alter") ∷ [])) (altered n x) tt h

-- behind a keyword
behind_word : (word : List ℕ) (o : Option (List Token)) → There o → There (joined (Some (t.Word word ∷ [])) o)
behind_word word o h = there_both (Some (t.Word word ∷ [])) o tt h

module _ (n : ℕ) (x : Statement) where
  abbrev role_way : Option (List Token)
  role_way = joined (Some (t.Word (codes "role") ∷ [])) ((g.role false).prints.writes x)

  abbrev user_way : Option (List Token)
  user_way = joined (Some (t.Word (codes "user") ∷ [])) ((g.role true).prints.writes x)

  abbrev table_way : Option (List Token)
  table_way = joined (Some (t.Word (codes "table") ∷ [])) (g.table.prints.writes x)

  abbrev policy_way : Option (List Token)
  policy_way = joined (Some (t.Word (codes "policy") ∷ [])) ((g.policy (g.expr n)).rule.prints.writes x)

  role_created : There ((g.role false).prints.writes x) → There ((g.create (g.expr n)).rule.prints.writes x)
  role_created h = create_there n x (there_first role_way (or_else user_way (or_else table_way policy_way)) (behind_word (codes "role") ((g.role false).prints.writes x) h))

  table_created : There (g.table.prints.writes x) → There ((g.create (g.expr n)).rule.prints.writes x)
  table_created h =
      create_there n x (there_last role_way (or_else user_way (or_else table_way policy_way))
      (there_last user_way (or_else table_way policy_way) (there_first table_way policy_way (behind_word (codes "table") (g.table.prints.writes x) h))))

  policy_created : There ((g.policy (g.expr n)).rule.prints.writes x) → There ((g.create (g.expr n)).rule.prints.writes x)
  policy_created h =
      create_there n x (there_last role_way (or_else user_way (or_else table_way policy_way))
      (there_last user_way (or_else table_way policy_way) (there_last table_way policy_way (behind_word (codes "policy") ((g.policy (g.expr n)).rule.prints.writes x) h))))

  abbrev altered_role_way : Option (List Token)
  altered_role_way = joined (Some (t.Word (codes "role") ∷ [])) (g.altered_role.prints.writes x)

  abbrev altered_table_way : Option (List Token)
  altered_table_way = joined (Some (t.Word (codes "table") ∷ [])) (g.altered_table.prints.writes x)

  abbrev altered_policy_way : Option (List Token)
  altered_policy_way = joined (Some (t.Word (codes "policy") ∷ [])) ((g.altered_policy (g.expr n)).rule.prints.writes x)

  role_altered : There (g.altered_role.prints.writes x) → There ((g.alter (g.expr n)).rule.prints.writes x)
  role_altered h = alter_there n x (there_first altered_role_way (or_else altered_table_way altered_policy_way) (behind_word (codes "role") (g.altered_role.prints.writes x) h))

  table_altered : There (g.altered_table.prints.writes x) → There ((g.alter (g.expr n)).rule.prints.writes x)
  table_altered h =
      alter_there n x (there_last altered_role_way (or_else altered_table_way altered_policy_way) (there_first altered_table_way altered_policy_way (behind_word (codes "table") (g.altered_table.prints.writes x) h)))

  policy_altered : There ((g.altered_policy (g.expr n)).rule.prints.writes x) → There ((g.alter (g.expr n)).rule.prints.writes x)
  policy_altered h =
      alter_there n x (there_last altered_role_way (or_else altered_table_way altered_policy_way)
      (there_last altered_table_way altered_policy_way (behind_word (codes "policy") ((g.altered_policy (g.expr n)).rule.prints.writes x) h)))

module _ (inner : Cut tree_of expr_heads expr_more false) (ih : Says inner.rule.spells Reached) where
  create_full : Says (g.create inner).rule.spells (WrittenFrom height_of (λ n. (g.create (g.expr n)).rule.prints.writes))
  unfolding g.create
  create_full =
      after_says (only (t.Word (codes "create"))) _ (WrittenFrom height_of (λ n. (g.create (g.expr n)).rule.prints.writes))
      (either_says _ _ (WrittenFrom height_of (λ n. (g.create (g.expr n)).rule.prints.writes))
      (after_says (only (t.Word (codes "role"))) (g.role false).spells (WrittenFrom height_of (λ n. (g.create (g.expr n)).rule.prints.writes)) (record { says = λ ts x h. record { within = λ n k. role_created n x ((role_full false).written ts x h) } }))
      (either_says _ _ (WrittenFrom height_of (λ n. (g.create (g.expr n)).rule.prints.writes))
      (after_says (only (t.Word (codes "user"))) (g.role true).spells (WrittenFrom height_of (λ n. (g.create (g.expr n)).rule.prints.writes)) (record { says = λ ts x h. record { within = λ n k. role_created n x ((role_full true).written ts x h) } }))
      (either_says _ _ (WrittenFrom height_of (λ n. (g.create (g.expr n)).rule.prints.writes))
      (after_says (only (t.Word (codes "table"))) g.table.spells (WrittenFrom height_of (λ n. (g.create (g.expr n)).rule.prints.writes)) (record { says = λ ts x h. record { within = λ n k. table_created n x (table_full.written ts x h) } }))
      (after_says (only (t.Word (codes "policy"))) (g.policy inner).rule.spells (WrittenFrom height_of (λ n. (g.create (g.expr n)).rule.prints.writes)) (record { says = λ ts x h. record { within = λ n k. policy_created n x (((policy_full inner ih).says ts x h).within n k) } })))))

  alter_full : Says (g.alter inner).rule.spells (WrittenFrom height_of (λ n. (g.alter (g.expr n)).rule.prints.writes))
  unfolding g.alter
  alter_full =
      after_says (only (t.Word (codes "alter"))) _ (WrittenFrom height_of (λ n. (g.alter (g.expr n)).rule.prints.writes))
      (either_says _ _ (WrittenFrom height_of (λ n. (g.alter (g.expr n)).rule.prints.writes))
      (after_says (only (t.Word (codes "role"))) g.altered_role.spells (WrittenFrom height_of (λ n. (g.alter (g.expr n)).rule.prints.writes)) (record { says = λ ts x h. record { within = λ n k. role_altered n x (altered_role_full.written ts x h) } }))
      (either_says _ _ (WrittenFrom height_of (λ n. (g.alter (g.expr n)).rule.prints.writes))
      (after_says (only (t.Word (codes "table"))) g.altered_table.spells (WrittenFrom height_of (λ n. (g.alter (g.expr n)).rule.prints.writes)) (record { says = λ ts x h. record { within = λ n k. table_altered n x (altered_table_full.written ts x h) } }))
      (after_says (only (t.Word (codes "policy"))) (g.altered_policy inner).rule.spells (WrittenFrom height_of (λ n. (g.alter (g.expr n)).rule.prints.writes)) (record { says = λ ts x h. record { within = λ n k. policy_altered n x (((altered_policy_full inner ih).says ts x h).within n k) } }))))

  -- written by one of the ways, from the first on
  abbrev from_alter : ℕ → Statement → Option (List Token)
  from_alter n x = or_else ((g.alter (g.expr n)).rule.prints.writes x) (g.flat_body.prints.writes x)

  abbrev from_create : ℕ → Statement → Option (List Token)
  from_create n x = or_else ((g.create (g.expr n)).rule.prints.writes x) (from_alter n x)

  abbrev from_delete : ℕ → Statement → Option (List Token)
  from_delete n x = or_else ((g.delete (g.expr n)).rule.prints.writes x) (from_create n x)

  abbrev from_update : ℕ → Statement → Option (List Token)
  from_update n x = or_else ((g.update (g.expr n)).rule.prints.writes x) (from_delete n x)

  abbrev from_insert : ℕ → Statement → Option (List Token)
  from_insert n x = or_else ((g.insert (g.expr n)).rule.prints.writes x) (from_update n x)

  abbrev from_select : ℕ → Statement → Option (List Token)
  from_select n x = or_else ((g.select (g.expr n)).rule.prints.writes x) (from_insert n x)

  body_there : (ts : List Token) (x : Statement) (n : ℕ) → height_of x ≤ n → (g.body inner).rule.spells ts x → There (from_select n x)
  unfolding g.body
  body_there ts x n k h = elim h [
    | inl y ↦ there_first ((g.select (g.expr n)).rule.prints.writes x) (from_insert n x) (((select_full inner ih).says ts x y).within n k)
    | inr y ↦ there_last ((g.select (g.expr n)).rule.prints.writes x) (from_insert n x) (elim y [
      | inl z ↦ there_first ((g.insert (g.expr n)).rule.prints.writes x) (from_update n x) (((insert_full inner ih).says ts x z).within n k)
      | inr z ↦ there_last ((g.insert (g.expr n)).rule.prints.writes x) (from_update n x) (elim z [
        | inl u ↦ there_first ((g.update (g.expr n)).rule.prints.writes x) (from_delete n x) (((update_full inner ih).says ts x u).within n k)
        | inr u ↦ there_last ((g.update (g.expr n)).rule.prints.writes x) (from_delete n x) (elim u [
          | inl v ↦ there_first ((g.delete (g.expr n)).rule.prints.writes x) (from_create n x) (((delete_full inner ih).says ts x v).within n k)
          | inr v ↦ there_last ((g.delete (g.expr n)).rule.prints.writes x) (from_create n x) (elim v [
            | inl a ↦ there_first ((g.create (g.expr n)).rule.prints.writes x) (from_alter n x) ((create_full.says ts x a).within n k)
            | inr a ↦ there_last ((g.create (g.expr n)).rule.prints.writes x) (from_alter n x) (elim a [
              | inl b ↦ there_first ((g.alter (g.expr n)).rule.prints.writes x) (g.flat_body.prints.writes x) ((alter_full.says ts x b).within n k)
              | inr b ↦ there_last ((g.alter (g.expr n)).rule.prints.writes x) (g.flat_body.prints.writes x) (flat_full.written ts x b)
            ])
          ])
        ])
      ])
    ])
  ]

  body_full : Says (g.body inner).rule.spells (WrittenFrom height_of (λ n. (g.body (g.expr n)).rule.prints.writes))
  unfolding g.body
  body_full = record { says = λ ts x h. record { within = λ n k. body_there ts x n k h } }

statement_full : (d : ℕ) → Says (g.statement d).rule.spells (WrittenFrom height_of (λ n. (g.statement n).rule.prints.writes))
unfolding g.statement
statement_full d = record {
  says = λ ts x h.
      let y = (before_says (g.body (g.expr d)).rule.spells _ (WrittenFrom height_of (λ n. (g.body (g.expr n)).rule.prints.writes)) (body_full (g.expr d) (expr_says d))).says ts x h in
      record { within = λ n k. there_both ((g.body (g.expr n)).rule.prints.writes x) (Some []) (y.within n k) tt };
}

-- tokens that are written for the statement
pub record Written (x : Statement) : Type 0 where
  pub tokens : List Token
  pub written : IsWritten tokens x

-- What some text spells is written.
pub spelled_written : (ts : List Token) (x : Statement) → g.Spells ts x → Written x
spelled_written ts x h = go ((g.statement (height_of x)).rule.prints.writes x) refl (((statement_full h.depth).says ts x h.spelled).within (height_of x) (le_refl (height_of x)))
  where
    go : (o : Option (List Token)) → (g.statement (height_of x)).rule.prints.writes x ≡ o → There o → Written x
    go None e k = absurd k
    go (Some us) e k = record { tokens = us; written = record { depth = height_of x; written = e } }
