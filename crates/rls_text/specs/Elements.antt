-- A new table's elements as the parser puts them together, one by one: any list of columns and keys that begins with a
-- column, and whether a key came last. Where it did, or there is none, they are columns with a key behind them or none.
use Rattle.std.specs.Prelude.{◌≡◌, ℕ, Bool, true, false, ◌&&◌, not, List, [], ◌∷◌, ◌++◌, map, Option, Some, None, is_some, refl}
use Rattle.std.proofs.Common.{sym, ap, subst, ◌∙◌, append_assoc, inl, inr}
use Rattle.rls_statement.specs.declared.statement.MarkedColumn.{MarkedColumn}
use Rattle.rls_text.specs.declared.tables.TableElement.{TableElement}
use Rattle.rls_text.specs.declared.tables.TableElement.TheVariants.{Column, Key}
use Rattle.rls_text.specs.declared.tables.TableElements.{TableElements}
use Rattle.rls_text.specs.declared.token.Symbol.TheVariants as s
use Rattle.rls_text.specs.declared.token.Token.{Token}
use Rattle.rls_text.specs.declared.token.Token.TheVariants as tokens
use Rattle.rls_text.specs.Lang.{only, Both, Mapped, Either, Perhaps, Many, Checked, After, put_in}
use Rattle.rls_text.specs.Values.{elements_with}
use Rattle.rls_text.specs.Writes.{append_end}

-- with a further element; nothing may follow the key
unfoldable pub with_element : TableElements → TableElement → TableElements
with_element all (Column column) = record { columns = all.columns ++ column ∷ []; key = all.key; key_last = all.key_last && not (is_some all.key) }
with_element all (Key names) = record { columns = all.columns; key = Some names; key_last = all.key_last && not (is_some all.key) }

-- columns alone
abbrev pub only_columns : List MarkedColumn → TableElements
only_columns columns = elements_with (columns, None)

-- a first column, and the further elements
abbrev pub elements_of : MarkedColumn × List TableElement → TableElements
elements_of r = put_in with_element (only_columns (r.0 ∷ [])) r.1

-- the key, if there is one
abbrev pub key_if : Option (List (List ℕ)) → List TableElement
key_if None = []
key_if (Some names) = Key names ∷ []

-- columns that are put behind columns, and a key behind them
pub put_behind : (front xs : List MarkedColumn) (key : Option (List (List ℕ))) → put_in with_element (only_columns front) (map Column xs ++ key_if key) ≡ elements_with (front ++ xs, key)
unfolding with_element
put_behind front [] None = ap (λ z. elements_with (z, None)) (sym (append_end front))
put_behind front [] (Some names) = ap (λ z. elements_with (z, Some names)) (sym (append_end front))
put_behind front (x ∷ xs) key = put_behind (front ++ x ∷ []) xs key ∙ ap (λ z. elements_with (z, key)) (append_assoc front (x ∷ []) xs)

stays_with : (all : TableElements) (x : TableElement) → all.key_last ≡ false → (with_element all x).key_last ≡ false
unfolding with_element
stays_with all (Column column) h = rw h refl
stays_with all (Key names) h = rw h refl

-- what came behind a key stays there
stays : (all : TableElements) (xs : List TableElement) → all.key_last ≡ false → (put_in with_element all xs).key_last ≡ false
stays all [] h = h
stays all (x ∷ xs) h = stays (with_element all x) xs (stays_with all x h)

behind_key : (columns : List MarkedColumn) (names : List (List ℕ)) (x : TableElement) → (with_element (elements_with (columns, Some names)) x).key_last ≡ false
unfolding with_element
behind_key columns names (Column column) = refl
behind_key columns names (Key others) = refl

never_both : (b : Bool) → b ≡ true → b ≡ false → ⊥
never_both b h k = cc

column_is : (x y : MarkedColumn) → Column x ≡ Column y → y ≡ x
column_is x y h = cc

key_is : (x y : List (List ℕ)) → Key x ≡ Key y → y ≡ x
key_is x y h = cc

module _ (p : List Token → MarkedColumn → Type 0) (q : List Token → List (List ℕ) → Type 0) where
  -- an element
  abbrev pub Element : List Token → TableElement → Type 0
  Element = Either (Mapped Column p) (Mapped Key q)

  -- "," and what it spells
  abbrev pub Further : {A : Type 0} → (List Token → A → Type 0) → List Token → A → Type 0
  Further r = After (only (tokens.Symbol s.Comma)) r

  -- column {"," element}, where a key comes last, as it is read
  abbrev pub Listed : List Token → TableElements → Type 0
  Listed = Checked (λ x. x.key_last) (Mapped elements_of (Both p (Many (Further Element))))

  -- column {"," column} ["," key]
  abbrev pub Columns : List Token → TableElements → Type 0
  Columns = Mapped elements_with (Both (Mapped (λ r. r.0 ∷ r.1) (Both p (Many (Further p)))) (Perhaps (Further q)))

  -- ---- what is listed is columns, and a key or none

  record Parts (ts : List Token) (front : List MarkedColumn) (x : TableElements) : Type 0 where
    columns : List Token
    rest : List Token
    split : ts ≡ columns ++ rest
    more : List MarkedColumn
    key : Option (List (List ℕ))
    listed : Many (Further p) columns more
    last : Perhaps (Further q) rest key
    value : x ≡ elements_with (front ++ more, key)

  column_there : (ts : List Token) (x : MarkedColumn) → Further Element ts (Column x) → Further p ts x
  column_there ts x h =
      let y = h.spelled in
      let z : Element y.rest (Column x) = subst (λ e. Element y.rest e) (sym h.value) y.other in
      let other : p y.rest x = elim z [ inl u ↦ subst (λ c. p y.rest c) (column_is x u.source u.value) u.spelled | inr u ↦ absurd (cc) ] in
      record { source = (tt, x); spelled = record { front = y.front; rest = y.rest; split = y.split; one = y.one; other = other }; value = refl }

  key_there : (ts : List Token) (x : List (List ℕ)) → Further Element ts (Key x) → Further q ts x
  key_there ts x h =
      let y = h.spelled in
      let z : Element y.rest (Key x) = subst (λ e. Element y.rest e) (sym h.value) y.other in
      let other : q y.rest x = elim z [ inl u ↦ absurd (cc) | inr u ↦ subst (λ c. q y.rest c) (key_is x u.source u.value) u.spelled ] in
      record { source = (tt, x); spelled = record { front = y.front; rest = y.rest; split = y.split; one = y.one; other = other }; value = refl }

  parts : (front : List MarkedColumn) (xs : List TableElement) (ts : List Token) → Many (Further Element) ts xs → (put_in with_element (only_columns front) xs).key_last ≡ true
      → Parts ts front (put_in with_element (only_columns front) xs)
  unfolding with_element
  parts front [] ts h last = record { columns = []; rest = ts; split = refl; more = []; key = None; listed = refl; last = h; value = ap (λ z. elements_with (z, None)) (sym (append_end front)) }
  parts front (Column x ∷ xs) ts h last =
      let again = parts (front ++ x ∷ []) xs h.1 h.4 last in
      record {
        columns = h.0 ++ again.columns;
        rest = again.rest;
        split = h.2 ∙ ap (λ z. h.0 ++ z) again.split ∙ sym (append_assoc h.0 again.columns again.rest);
        more = x ∷ again.more;
        key = again.key;
        listed = (h.0, again.columns, refl, column_there h.0 x h.3, again.listed);
        last = again.last;
        value = again.value ∙ ap (λ z. elements_with (z, again.key)) (append_assoc front (x ∷ []) again.more);
      }
  parts front (Key x ∷ []) ts h last =
      let whole : ts ≡ h.0 = h.2 ∙ ap (λ z. h.0 ++ z) h.4 ∙ append_end h.0 in
      record { columns = []; rest = ts; split = refl; more = []; key = Some x; listed = refl; last = subst (λ z. Further q z x) (sym whole) (key_there h.0 x h.3); value = ap (λ z. elements_with (z, Some x)) (sym (append_end front)) }
  parts front (Key x ∷ y ∷ xs) ts h last = absurd (never_both _ last (stays (with_element (elements_with (front, Some x)) y) xs (behind_key front x y)))

  pub are_columns : (ts : List Token) (x : TableElements) → Listed ts x → Columns ts x
  are_columns ts x h =
      let y = h.spelled in
      let z = y.spelled in
      let r = parts (y.source.0 ∷ []) y.source.1 z.rest z.other (ap (λ e. e.key_last) (sym y.value) ∙ h.passes) in
      record {
        source = (y.source.0 ∷ r.more, r.key);
        spelled = record {
          front = z.front ++ r.columns;
          rest = r.rest;
          split = z.split ∙ ap (λ e. z.front ++ e) r.split ∙ sym (append_assoc z.front r.columns r.rest);
          one = record { source = (y.source.0, r.more); spelled = record { front = z.front; rest = r.columns; split = refl; one = z.one; other = r.listed }; value = refl };
          other = r.last;
        };
        value = y.value ∙ r.value;
      }

  -- ---- and the other way round

  column_listed : (ts : List Token) (x : MarkedColumn) → Further p ts x → Further Element ts (Column x)
  column_listed ts x h =
      let y = h.spelled in
      record {
        source = (tt, Column x);
        spelled = record { front = y.front; rest = y.rest; split = y.split; one = y.one; other = inl record { source = h.source.1; spelled = y.other; value = ap Column h.value } };
        value = refl;
      }

  key_listed : (ts : List Token) (x : List (List ℕ)) → Further q ts x → Further Element ts (Key x)
  key_listed ts x h =
      let y = h.spelled in
      record {
        source = (tt, Key x);
        spelled = record { front = y.front; rest = y.rest; split = y.split; one = y.one; other = inr record { source = h.source.1; spelled = y.other; value = ap Key h.value } };
        value = refl;
      }

  all_listed : (xs : List MarkedColumn) (key : Option (List (List ℕ))) (ts us : List Token) → Many (Further p) ts xs → Perhaps (Further q) us key → Many (Further Element) (ts ++ us) (map Column xs ++ key_if key)
  all_listed [] None ts us h k = rw h k
  all_listed [] (Some names) ts us h k = (us, [], ap (λ z. z ++ us) h ∙ sym (append_end us), key_listed us names k, refl)
  all_listed (x ∷ xs) key ts us h k = (h.0, h.1 ++ us, ap (λ z. z ++ us) h.2 ∙ append_assoc h.0 h.1 us, column_listed h.0 x h.3, all_listed xs key h.1 us h.4 k)

  pub are_listed : (ts : List Token) (x : TableElements) → Columns ts x → Listed ts x
  are_listed ts x h =
      let y = h.spelled in
      let z = y.one in
      let first = z.source.0 in
      let more = z.source.1 in
      let key = h.source.1 in
      let same : x ≡ elements_of (first, map Column more ++ key_if key) = h.value ∙ ap (λ e. elements_with (e, key)) z.value ∙ sym (put_behind (first ∷ []) more key) in
      record {
        spelled = record {
          source = (first, map Column more ++ key_if key);
          spelled = record {
            front = z.spelled.front;
            rest = z.spelled.rest ++ y.rest;
            split = y.split ∙ ap (λ e. e ++ y.rest) z.spelled.split ∙ append_assoc z.spelled.front z.spelled.rest y.rest;
            one = z.spelled.one;
            other = all_listed more key z.spelled.rest y.rest z.spelled.other y.other;
          };
          value = same;
        };
        passes = ap (λ e. e.key_last) h.value;
      }
