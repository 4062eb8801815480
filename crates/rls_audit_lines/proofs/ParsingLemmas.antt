-- What the parser's answer says of a text.
use Rattle.std.specs.Prelude.{◌≡◌, ℕ, List, Bool, true, false, Result, Ok, Err, IfOk}
use Rattle.std.specs.Str.{bytes_eq}
use Rattle.std.proofs.Common.{refl, sym, ap, subst, ◌∙◌}
use Rattle.std.proofs.lemmas.Slice.Eq.{bytes_eq-Decides}
use Rattle.rls_value.specs.declared.refusal.Refusal.{Refusal}
use Rattle.rls_value.specs.declared.refusal.Refusal.TheVariants.{NoMemory}
use Rattle.rls_expr.specs.declared.policy.Policy.{Policy}
use Rattle.rls_statement.specs.declared.statement.Statement.{Statement}
use Rattle.rls_statement.specs.declared.statement.CreatePolicy.{CreatePolicy}
use Rattle.rls_statement.specs.declared.statement.Statement.TheVariants as st
use Rattle.rls_text.specs.{ParseResults.IsParseResult, ParseResults.IsSpelled, Words.words_of, declared.token.Token.Token}
use Rattle.rls_audit_lines.specs.Reading.{TellsWhether, IsPolicyText, creates_on}

-- a statement that is spelled within the limits is answered
answered_with : (words : List Token) (r : Result Statement Refusal) (x : Statement) → IsParseResult words r → IsSpelled words x → r ≡ Ok x
answered_with words r x a h = a.spelled x h.words h.spelled ∙ h.within

err_same : (x y : Refusal) → ◌≡◌ {A = Result Statement Refusal} (Err x) (Err y) → x ≡ y
err_same x y h = cc

clash : (refusal : Refusal) (x : Statement) → ◌≡◌ {A = Result Statement Refusal} (Err refusal) (Ok x) → ⊥
clash refusal x h = cc

-- a refusal that isn't of memory is what the grammar and the limits say
pub refused : (text : List ℕ) (refusal : Refusal) → (¬ (◌≡◌ {A = Result Statement Refusal} (Err refusal) (Err NoMemory)) → IsParseResult (words_of text) (Err refusal)) → ¬ (refusal ≡ NoMemory) → IsParseResult (words_of text) (Err refusal)
refused text refusal a other = a (λ h. other (err_same refusal NoMemory h))

-- so is a statement
pub answered : (text : List ℕ) (x : Statement) → (¬ (◌≡◌ {A = Result Statement Refusal} (Ok x) (Err NoMemory)) → IsParseResult (words_of text) (Ok x)) → IsParseResult (words_of text) (Ok x)
answered text x a = a (λ h. clash NoMemory x (sym h))

same_bytes : (t : List ℕ) → bytes_eq t t ≡ true
same_bytes t = (bytes_eq-Decides t t).1 refl

no_true : false ≡ true → ⊥
no_true h = cc

never_policy : (table text : List ℕ) (r : Result Statement Refusal) → IsParseResult (words_of text) r → creates_on table r ≡ false → IsPolicyText table text → ⊥
never_policy table text r a off h =
    let e : r ≡ Ok (st.CreatePolicy record { table = table; policy = h.0 }) = answered_with (words_of text) r (st.CreatePolicy record { table = table; policy = h.0 }) a h.1 in
    no_true (sym off ∙ ap (creates_on table) e ∙ same_bytes table)

own_policy : (table text : List ℕ) (r : Result Statement Refusal) → IfOk r (λ x. IsSpelled (words_of text) x) → creates_on table r ≡ true → IsPolicyText table text
own_policy table text (Err refusal) h e = absurd (no_true e)
own_policy table text (Ok (st.CreatePolicy create)) h e =
    (create.policy, subst (λ t. IsSpelled (words_of text) (st.CreatePolicy record { table = t; policy = create.policy })) ((bytes_eq-Decides create.table table).0 e) h)
own_policy table text (Ok (st.CreateRole x)) h e = absurd (no_true e)
own_policy table text (Ok (st.AlterRole x)) h e = absurd (no_true e)
own_policy table text (Ok (st.CreateTable x)) h e = absurd (no_true e)
own_policy table text (Ok (st.AlterTable x)) h e = absurd (no_true e)
own_policy table text (Ok (st.AlterPolicy x)) h e = absurd (no_true e)
own_policy table text (Ok (st.DropPolicy x)) h e = absurd (no_true e)
own_policy table text (Ok (st.Grant x)) h e = absurd (no_true e)
own_policy table text (Ok (st.GrantRoles x)) h e = absurd (no_true e)
own_policy table text (Ok (st.Revoke x)) h e = absurd (no_true e)
own_policy table text (Ok (st.RevokeRoles x)) h e = absurd (no_true e)
own_policy table text (Ok (st.SetRole x)) h e = absurd (no_true e)
own_policy table text (Ok (st.Insert x)) h e = absurd (no_true e)
own_policy table text (Ok (st.Update x)) h e = absurd (no_true e)
own_policy table text (Ok (st.Delete x)) h e = absurd (no_true e)
own_policy table text (Ok (st.Select x)) h e = absurd (no_true e)
own_policy table text (Ok (st.Transaction x)) h e = absurd (no_true e)

pub policy_told : (table text : List ℕ) (r : Result Statement Refusal) → IsParseResult (words_of text) r → IfOk r (λ x. IsSpelled (words_of text) x) → TellsWhether (creates_on table r) (IsPolicyText table text)
policy_told table text r a h = go (creates_on table r) refl
  where
    go : (b : Bool) → creates_on table r ≡ b → TellsWhether b (IsPolicyText table text)
    go true e = own_policy table text r h e
    go false e = never_policy table text r a e

-- what tells the second of two facts tells both, where the first one holds
pub both_told : {E : Type 0} (P Q : Type 0) (r : Result Bool E) → P → IfOk r (λ b. TellsWhether b Q) → IfOk r (λ b. TellsWhether b (P × Q))
both_told P Q (Ok true) p q = (p, q)
both_told P Q (Ok false) p q = λ both. q both.1
both_told P Q (Err e) p q = tt
