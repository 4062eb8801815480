-- What texts and names say is kept.
use Rattle.std.specs.Prelude.{◌≡◌, refl, ◌+◌, ◌++◌, ◌<◌, ◌≤◌, ℕ, suc, Bool, true, false, not, cond, List, [], ◌∷◌, length, map, take, get_or, slice_get, zero, Option, Some, None, option_map, Result, Ok, Err, IfOk}
use Rattle.std.specs.List.{All, AllZip, position_or_len}
use Rattle.std.specs.Str.{bytes_eq}
use Rattle.std.proofs.Common.{ap, sym, ◌∙◌, subst, arith, inl, inr, ◌⊎◌}
use Rattle.std.proofs.Math.Seq.{take-suc}
use Rattle.std.proofs.lemmas.Bool.{true≢false}
use Rattle.std.proofs.lemmas.List.{take_all}
use Rattle.std.proofs.lemmas.List.Elements.{All-head, All-tail}
use Rattle.std.proofs.lemmas.Slice.Eq.{bytes_eq-Decides}
use Rattle.rls_value.specs.declared.refusal.Refusal.{Refusal}
use Rattle.rls_value.specs.declared.refusal.Refusal.TheVariants.{NoMemory}
use Rattle.rls_expr.specs.declared.policy.Policy.{Policy}
use Rattle.rls_expr.specs.declared.table.Column.{Column}
use Rattle.rls_expr.specs.declared.table.TableDef.{TableDef}
use Rattle.rls_catalog.specs.declared.change.Change.{Change}
use Rattle.rls_catalog.specs.declared.change.Change.TheVariants as c
use Rattle.rls_statement.specs.{declared.command.Command.Command, declared.statement.Statement.Statement}
use Rattle.rls_statement.specs.declared.statement.Statement.TheVariants as st
use Rattle.rls_audit.specs.rls_audit_lines.specs.rls_text.specs.{ParseResults.IsParseResult, ParseResults.IsSpelled, Words.words_of, declared.token.Token.Token}
use Rattle.rls_audit.specs.rls_audit_lines.specs.rls_text.specs.Commands.{AnswersCommand}
use Rattle.rls_audit.specs.rls_audit_lines.specs.Reading.{IsStatementText, IsPolicyText}
use Rattle.rls_audit.specs.Shows.{NamesColumn, SpellsPolicy, ShowsChanged}
use Rattle.rls_audit.specs.Showing.{HasKey, CanTell}
use Rattle.rls_audit.specs.Lines.{Content, Written, grant_shape, written_by}
use Rattle.rls_audit.specs.Lines as content
use Rattle.rls_audit.specs.rls_audit_lines.specs.declared.contents.TableShape.{TableShape}
use Rattle.rls_audit.specs.rls_audit_lines.specs.declared.changes.Changed.{Changed}
use Rattle.rls_audit.specs.rls_audit_lines.specs.declared.changes.Changed.TheVariants as changed
use Rattle.rls_check.specs.declared.transaction.Put.{Put}
use Rattle.rls_check.specs.declared.transaction.Put.TheVariants as put
use Rattle.rls_check.specs.Audited.{written_of}
use Rattle.rls_check.specs.Keeping.{IsMade, IsSpelledText, KeepsPut, NamesKey, NamesKeys, policy_in, table_of}
use Rattle.rls_audit.specs.FirstKeys.{place_of}

-- ---- lists that belong together

pub zip_push : {A B : Type 0} (R : A → B → Type 0) (xs : List A) (ys : List B) (x : A) (y : B) → AllZip R xs ys → R x y → AllZip R (xs ++ x ∷ []) (ys ++ y ∷ [])
zip_push R [] [] x y h r = (r, tt)
zip_push R [] (b ∷ ys) x y h r = absurd h
zip_push R (a ∷ xs) [] x y h r = absurd h
zip_push R (a ∷ xs) (b ∷ ys) x y h r = (h.0, zip_push R xs ys x y h.1 r)

-- one more of the first, as a loop finds it
pub zip_more : {A B : Type 0} (R : A → B → Type 0) (xs : List A) (ys : List B) (i : ℕ) (x : A) (y : B) → i < length xs → x ≡ get_or xs i x → AllZip R (take i xs) ys → R x y → AllZip R (take (i + 1) xs) (ys ++ y ∷ [])
zip_more R xs ys i x y lt is all r =
    let next : suc i ≡ i + 1 = omega arith in
    subst (λ n. AllZip R (take n xs) (ys ++ y ∷ [])) next
    (subst (λ zs. AllZip R zs (ys ++ y ∷ [])) (sym (take-suc xs i x lt ∙ ap (λ z. take i xs ++ (z ∷ [])) (sym is))) (zip_push R (take i xs) ys x y all r))

pub zip_whole : {A B : Type 0} (R : A → B → Type 0) (xs : List A) (ys : List B) (i : ℕ) → length xs ≤ i → AllZip R (take i xs) ys → AllZip R xs ys
zip_whole R xs ys i over all = subst (λ zs. AllZip R zs ys) (take_all i xs over) all

-- the first of a list is such, and the rest are
pub first_is : {X : Type 0} (P : X → Type 0) (x : X) (xs all : List X) → all ≡ x ∷ xs → All P all → P x
first_is P x xs all is h = All-head P x xs (subst (All P) is h)

pub rest_are : {X : Type 0} (P : X → Type 0) (x : X) (xs all : List X) → all ≡ x ∷ xs → All P all → All P xs
rest_are P x xs all is h = All-tail P x xs (subst (All P) is h)

-- one of a list is such
pub one_of : {X : Type 0} (P : X → Type 0) (xs : List X) (i : ℕ) (x : X) → i < length xs → x ≡ get_or xs i x → All P xs → P x
one_of P xs i x lt is all = subst P (sym is) (all i x lt)

-- ---- what texts spell

err_same : (x y : Refusal) → ◌≡◌ {A = Result Statement Refusal} (Err x) (Err y) → x ≡ y
err_same x y h = cc

clash : (refusal : Refusal) (x : Statement) → ◌≡◌ {A = Result Statement Refusal} (Err refusal) (Ok x) → ⊥
clash refusal x h = cc

is_memory : (refusal : Refusal) → (refusal ≡ NoMemory) ⊎ (refusal ≡ NoMemory → ⊥)
is_memory NoMemory = inl refl
is_memory other = inr (λ h. cc)

pub statement_made : (text : List ℕ) (r : Result Statement Refusal) → IsSpelledText text → IfOk r (IsSpelled (words_of text)) → (¬ (r ≡ Err NoMemory) → IsParseResult (words_of text) r) → IsMade (IsSpelled (words_of text)) r
statement_made text (Ok x) has ok answer = ok
statement_made text (Err refusal) has ok answer =
    elim (is_memory refusal) [
      | inl memory ↦ memory
      | inr other ↦
          (let a : IsParseResult (words_of text) (Err refusal) = answer (λ h. other (err_same refusal NoMemory h)) in
          absurd (clash refusal has.0 (a.spelled has.0 has.1.words has.1.spelled ∙ has.1.within)))
    ]

command_err : (x y : Refusal) → ◌≡◌ {A = Result Command Refusal} (Err x) (Err y) → x ≡ y
command_err x y h = cc

command_clash : (refusal : Refusal) (x : Command) → ◌≡◌ {A = Result Command Refusal} (Err refusal) (Ok x) → ⊥
command_clash refusal x h = cc

-- a text of a command is answered with it, unless memory ran out
pub command_made : (text : List ℕ) (refusal : Refusal) → IsStatementText text → (¬ (◌≡◌ {A = Result Command Refusal} (Err refusal) (Err NoMemory)) → AnswersCommand (words_of text) (Err refusal)) → refusal ≡ NoMemory
command_made text refusal has answer =
    elim (is_memory refusal) [
      | inl memory ↦ memory
      | inr other ↦
          (let it = has.1 in
          let a : AnswersCommand (words_of text) (Err refusal) = answer (λ h. other (command_err refusal NoMemory h)) in
          absurd (command_clash refusal it.command (a.spelled it.command it.spelled.words it.spelled.spelled ∙ it.spelled.within)))
    ]

ok_same : (x y : Statement) → ◌≡◌ {A = Result Statement Refusal} (Ok x) (Ok y) → x ≡ y
ok_same x y h = cc

-- the answer is the one statement that the text spells
pub statement_alone : (text : List ℕ) (x : Statement) → (¬ (◌≡◌ {A = Result Statement Refusal} (Ok x) (Err NoMemory)) → IsParseResult (words_of text) (Ok x)) → (y : Statement) → IsSpelled (words_of text) y → y ≡ x
statement_alone text x answer y h =
    let a : IsParseResult (words_of text) (Ok x) = answer (λ e. clash NoMemory x (sym e)) in
    ok_same y x (sym (a.spelled y h.words h.spelled ∙ h.within))

pub statement_one : (text : List ℕ) (r : Result Statement Refusal) → (¬ (r ≡ Err NoMemory) → IsParseResult (words_of text) r) → IfOk r (λ x. (y : Statement) → IsSpelled (words_of text) y → y ≡ x)
statement_one text (Ok x) answer = statement_alone text x answer
statement_one text (Err refusal) answer = tt

-- ---- policies

policy_there : (table text : List ℕ) (x : Statement) (has : IsPolicyText table text) → ((y : Statement) → IsSpelled (words_of text) y → y ≡ x) → Some has.0 ≡ policy_in x
policy_there table text x has alone = ap policy_in (alone (st.CreatePolicy record { table = table; policy = has.0 }) has.1)

pub policy_kept : (table text : List ℕ) (x : Statement) (policy : Policy) → IsPolicyText table text → ((y : Statement) → IsSpelled (words_of text) y → y ≡ x) → policy_in x ≡ Some policy → SpellsPolicy table text policy
policy_kept table text x policy has alone is =
    let e : Some has.0 ≡ Some policy = policy_there table text x has alone ∙ is in
    let same : has.0 ≡ policy = cc in
    subst (SpellsPolicy table text) same has.1

pub no_other : (table text : List ℕ) (x : Statement) (refusal : Refusal) → IsPolicyText table text → ((y : Statement) → IsSpelled (words_of text) y → y ≡ x) → policy_in x ≡ None → IsMade (SpellsPolicy table text) (Err refusal)
no_other table text x refusal has alone is = let e : Some has.0 ≡ None = policy_there table text x has alone ∙ is in absurd (cc)

-- ---- names of columns

one_on : (column : Column) (columns : List Column) (name : List ℕ) (n : ℕ) → NamesColumn columns name n → NamesColumn (column ∷ columns) name (1 + n)
one_on column columns name n h =
    let next : suc n ≡ 1 + n = omega arith in
    subst (λ (p : ℕ). NamesColumn (column ∷ columns) name p) next h

names_first : (columns : List Column) (name : List ℕ) (place : ℕ) → NamesColumn columns name place → NamesColumn columns name (place_of columns name)
names_first [] name place h = h
names_first (column ∷ columns) name place h = go (bytes_eq column.name name) refl (names_first columns name) place h
  where
    go : (b : Bool) → bytes_eq column.name name ≡ b → ((place : ℕ) → NamesColumn columns name place → NamesColumn columns name (place_of columns name)) → (place : ℕ) → NamesColumn (column ∷ columns) name place
        → NamesColumn (column ∷ columns) name (cond (not b) (1 + position_or_len (λ (other : Column). bytes_eq other.name name) columns) 0)
    go true e rest place h = ap (λ (n : List ℕ). Some n) ((bytes_eq-Decides column.name name).0 e)
    go false e rest zero h = absurd (true≢false (sym ((bytes_eq-Decides column.name name).1 (cc)) ∙ e))
    go false e rest (suc place) h = one_on column columns name (place_of columns name) (rest place h)

pub key_named : (columns : List Column) (key : List (List ℕ)) (places : List ℕ) → AllZip (NamesColumn columns) key places → AllZip (NamesColumn columns) key (map (place_of columns) key)
key_named columns [] places h = tt
key_named columns (name ∷ key) [] h = absurd h
key_named columns (name ∷ key) (place ∷ places) h = (names_first columns name place h.0, key_named columns key places h.1)

-- a place that is there is that of a column of the name
place_there : (columns : List Column) (name : List ℕ) → place_of columns name < length columns → NamesColumn columns name (place_of columns name)
place_there [] name h = absurd (omega (arith, h))
place_there (column ∷ columns) name h = go (bytes_eq column.name name) refl (place_there columns name) h
  where
    go : (b : Bool) → bytes_eq column.name name ≡ b → (place_of columns name < length columns → NamesColumn columns name (place_of columns name))
        → cond (not b) (1 + position_or_len (λ (other : Column). bytes_eq other.name name) columns) 0 < length (column ∷ columns)
        → NamesColumn (column ∷ columns) name (cond (not b) (1 + position_or_len (λ (other : Column). bytes_eq other.name name) columns) 0)
    go true e rest lt = ap (λ (n : List ℕ). Some n) ((bytes_eq-Decides column.name name).0 e)
    go false e rest lt =
        let less : 1 + place_of columns name < suc (length columns) = lt in
        one_on column columns name (place_of columns name) (rest (omega (arith, less)))

-- where the places are there each name is that of a column
pub key_there : (columns : List Column) (key : List (List ℕ)) → All (λ place. place < length columns) (map (place_of columns) key) → AllZip (NamesColumn columns) key (map (place_of columns) key)
key_there columns [] h = tt
key_there columns (name ∷ key) h =
    let P : ℕ → Type 0 = λ place. place < length columns in (
      place_there columns name (All-head P (place_of columns name) (map (place_of columns) key) h),
      key_there columns key (All-tail P (place_of columns name) (map (place_of columns) key) h),
    )

-- ---- what is kept of a change

same_table : (d def : TableDef) → ◌≡◌ {A = Content} (content.Table d) (content.Table def) → d ≡ def
same_table d def h = cc

-- no other change leaves a table
told_table : (name : List ℕ) (def : TableDef) (change : Change) → CanTell change → written_by change ≡ written_of (put.Table name def) → HasKey def
told_table name def (c.Table n d) can is = subst HasKey (same_table d def (ap (λ (w : Written). w.content) is)) can
told_table name def (c.Role n d) can is = let e : ◌≡◌ {A = Content} (content.Role d) (content.Table def) = ap (λ (w : Written). w.content) is in absurd (cc)
told_table name def (c.Members n d) can is = let e : ◌≡◌ {A = Content} (content.Members d) (content.Table def) = ap (λ (w : Written). w.content) is in absurd (cc)
told_table name def (c.Grants n d) can is = let e : ◌≡◌ {A = Content} (content.Grants (map grant_shape d)) (content.Table def) = ap (λ (w : Written). w.content) is in absurd (cc)
told_table name def (c.Policies n d) can is = let e : ◌≡◌ {A = Content} (content.Policies d) (content.Table def) = ap (λ (w : Written). w.content) is in absurd (cc)
told_table name def (c.Row row) can is = let e : ◌≡◌ {A = Content} (content.Row (option_map (λ keyed. keyed.row) row.after)) (content.Table def) = ap (λ (w : Written). w.content) is in absurd (cc)

-- a table whose key's columns are there has a key that names columns
pub there_named : (shape : TableShape) → HasKey (table_of shape) → NamesKey shape
there_named shape has = (map (place_of shape.columns) shape.key, key_there shape.columns shape.key has)

-- what an audit can tell of a table has a key that names columns
pub put_told : (x : Changed) (it : Put) → KeepsPut x it → (change : Change) → CanTell change → written_by change ≡ written_of it → NamesKeys x
put_told (changed.Role name def) it h change can is = tt
put_told (changed.Members member memberships) it h change can is = tt
put_told (changed.Table name shape) it h change can is = there_named shape (told_table name (table_of shape) change can (is ∙ ap written_of h))
put_told (changed.Grants table grants) it h change can is = tt
put_told (changed.Policies table texts) it h change can is = tt
put_told (changed.Row table id values) it h change can is = tt

-- what is kept of a change is shown by it, where its key names columns
put_shown : (x : Changed) (it : Put) → KeepsPut x it → NamesKeys x → ShowsChanged x (written_of it)
put_shown (changed.Role name def) it h named = subst (λ (p : Put). ShowsChanged (changed.Role name def) (written_of p)) (sym h) (record { object = refl; content = refl })
put_shown (changed.Members member memberships) it h named = subst (λ (p : Put). ShowsChanged (changed.Members member memberships) (written_of p)) (sym h) (record { object = refl; content = refl })
put_shown (changed.Table name shape) it h named =
    subst (λ (p : Put). ShowsChanged (changed.Table name shape) (written_of p)) (sym h)
    (record { object = refl; content = record { owner = refl; enabled = refl; forced = refl; columns = refl; key = key_named shape.columns shape.key named.0 named.1 } })
put_shown (changed.Grants table grants) it h named = subst (λ (p : Put). ShowsChanged (changed.Grants table grants) (written_of p)) (sym h) (record { object = refl; content = refl })
put_shown (changed.Policies table texts) it h named = subst (λ (p : Put). ShowsChanged (changed.Policies table texts) (written_of p)) (sym h.1) (record { object = refl; content = h.2 })
put_shown (changed.Row table id values) it h named = subst (λ (p : Put). ShowsChanged (changed.Row table id values) (written_of p)) (sym h) (record { object = refl; content = refl })

pub put_shows : (x : Changed) (it : Put) → KeepsPut x it → (change : Change) → CanTell change → written_by change ≡ written_of it → ShowsChanged x (written_of it)
put_shows x it h change can is = put_shown x it h (put_told x it h change can is)
