-- The code of terms, by which proofs tell them apart.
use Rattle.std.specs.Prelude.{◌≡◌}
use Rattle.std.proofs.Common.{ap, arith}
use base.Stored.{Coded, Gv, gnil, gnum, gcons, num, coded_list, coded_ℕ}
use Rattle.rls_value.specs.contracts.value.Value as value
use Rattle.rls_expr.specs.contracts.column_name.ColumnName as column
use Rattle.rls_expr.specs.contracts.expr.Comparison as comparison
use Rattle.rls_expr.specs.contracts.expr.Sign as sign
use Rattle.rls_expr.specs.contracts.expr.FromItem as from_item
use Rattle.rls_expr.specs.contracts.expr.Var as var
use Rattle.rls_expr.specs.contracts.expr.Selects as selects
use Rattle.rls_expr.specs.Terms.{Term, Terms, Literal, Column, Var, CurrentUser, Compare, And, Or, Not, IsNull, IsNotNull, InList, NotInList, Exists, InSubquery, NotInSubquery, Scalar, Sum, End, More, Query, Select}

-- the first part of a pair
abbrev pub first : Gv → Gv
first gnil = gnil
first (gnum n) = gnil
first (gcons a b) = a

-- the second part of a pair
abbrev pub rest : Gv → Gv
rest gnil = gnil
rest (gnum n) = gnil
rest (gcons a b) = b

abbrev mutual
  pub code_t : Term → Gv
  code_t (Literal v) = gcons (gnum 0) (value.the_row.coded.code v)
  code_t (Column name) = gcons (gnum 1) (column.the_row.coded.code name)
  code_t (Var at) = gcons (gnum 2) (var.the_row.coded.code at)
  code_t CurrentUser = gcons (gnum 3) gnil
  code_t (Compare how a b) = gcons (gnum 4) (gcons (comparison.the_row.coded.code how) (gcons (code_t a) (code_t b)))
  code_t (And ts) = gcons (gnum 5) (code_ts ts)
  code_t (Or ts) = gcons (gnum 6) (code_ts ts)
  code_t (Not t) = gcons (gnum 7) (code_t t)
  code_t (IsNull t) = gcons (gnum 8) (code_t t)
  code_t (IsNotNull t) = gcons (gnum 9) (code_t t)
  code_t (InList t ts) = gcons (gnum 10) (gcons (code_t t) (code_ts ts))
  code_t (NotInList t ts) = gcons (gnum 11) (gcons (code_t t) (code_ts ts))
  code_t (Sum signs ts) = gcons (gnum 12) (gcons ((coded_list sign.the_row.coded).code signs) (code_ts ts))
  code_t (Exists q) = gcons (gnum 13) (code_q q)
  code_t (InSubquery t q) = gcons (gnum 14) (gcons (code_t t) (code_q q))
  code_t (NotInSubquery t q) = gcons (gnum 15) (gcons (code_t t) (code_q q))
  code_t (Scalar q) = gcons (gnum 16) (code_q q)

  pub code_q : Query → Gv
  code_q (Select from key what items condition) =
      gcons (from_item.the_row.coded.code from) (gcons ((coded_list coded_ℕ).code key) (gcons (selects.the_row.coded.code what) (gcons (code_ts items) (code_ts condition))))

  pub code_ts : Terms → Gv
  code_ts End = gcons (gnum 0) gnil
  code_ts (More t ts) = gcons (gnum 1) (gcons (code_t t) (code_ts ts))

mutual
  pub inj_t : (x y : Term) → code_t x ≡ code_t y → x ≡ y
  inj_t (Literal v) (Literal w) p = λ i. Literal (value.the_row.coded.inj v w (ap rest p) i)
  inj_t (Column a) (Column b) p = λ i. Column (column.the_row.coded.inj a b (ap rest p) i)
  inj_t (Var a) (Var b) p = λ i. Var (var.the_row.coded.inj a b (ap rest p) i)
  inj_t CurrentUser CurrentUser p = λ i. CurrentUser
  inj_t (Compare h a b) (Compare k c d) p = λ i. Compare (comparison.the_row.coded.inj h k (ap (λ g. first (rest g)) p) i) (inj_t a c (ap (λ g. first (rest (rest g))) p) i) (inj_t b d (ap (λ g. rest (rest (rest g))) p) i)
  inj_t (And ts) (And us) p = λ i. And (inj_ts ts us (ap rest p) i)
  inj_t (Or ts) (Or us) p = λ i. Or (inj_ts ts us (ap rest p) i)
  inj_t (Not t) (Not u) p = λ i. Not (inj_t t u (ap rest p) i)
  inj_t (IsNull t) (IsNull u) p = λ i. IsNull (inj_t t u (ap rest p) i)
  inj_t (IsNotNull t) (IsNotNull u) p = λ i. IsNotNull (inj_t t u (ap rest p) i)
  inj_t (InList t ts) (InList u us) p = λ i. InList (inj_t t u (ap (λ g. first (rest g)) p) i) (inj_ts ts us (ap (λ g. rest (rest g)) p) i)
  inj_t (NotInList t ts) (NotInList u us) p = λ i. NotInList (inj_t t u (ap (λ g. first (rest g)) p) i) (inj_ts ts us (ap (λ g. rest (rest g)) p) i)
  inj_t (Sum signs ts) (Sum others us) p = λ i. Sum ((coded_list sign.the_row.coded).inj signs others (ap (λ g. first (rest g)) p) i) (inj_ts ts us (ap (λ g. rest (rest g)) p) i)
  inj_t (Exists q) (Exists r) p = λ i. Exists (inj_q q r (ap rest p) i)
  inj_t (InSubquery t q) (InSubquery u r) p = λ i. InSubquery (inj_t t u (ap (λ g. first (rest g)) p) i) (inj_q q r (ap (λ g. rest (rest g)) p) i)
  inj_t (NotInSubquery t q) (NotInSubquery u r) p = λ i. NotInSubquery (inj_t t u (ap (λ g. first (rest g)) p) i) (inj_q q r (ap (λ g. rest (rest g)) p) i)
  inj_t (Scalar q) (Scalar r) p = λ i. Scalar (inj_q q r (ap rest p) i)
  inj_t x y p = absurd (omega (arith, ap (λ g. num (first g)) p))

  pub inj_q : (x y : Query) → code_q x ≡ code_q y → x ≡ y
  inj_q (Select a k b c d) (Select e l f g h) p = λ i. Select
      (from_item.the_row.coded.inj a e (ap first p) i)
      ((coded_list coded_ℕ).inj k l (ap (λ x. first (rest x)) p) i)
      (selects.the_row.coded.inj b f (ap (λ x. first (rest (rest x))) p) i)
      (inj_ts c g (ap (λ x. first (rest (rest (rest x)))) p) i)
      (inj_ts d h (ap (λ x. rest (rest (rest (rest x)))) p) i)

  pub inj_ts : (x y : Terms) → code_ts x ≡ code_ts y → x ≡ y
  inj_ts End End p = λ i. End
  inj_ts (More t ts) (More u us) p = λ i. More (inj_t t u (ap (λ g. first (rest g)) p) i) (inj_ts ts us (ap (λ g. rest (rest g)) p) i)
  inj_ts x y p = absurd (omega (arith, ap (λ g. num (first g)) p))

-- the code of terms
abbrev pub term_code : Coded Term
term_code = record { code = code_t; inj = inj_t }
