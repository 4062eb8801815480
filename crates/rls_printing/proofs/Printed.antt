-- What is in the buffer at the end, and what it is read as.
use Rattle.std.proofs.Common.{◌≡◌, ℕ, Bool, true, false, nat_lt, if◌then◌else◌, List, ◌++◌, Option, Some, None, Result, Ok, Err, String, Global, string_bytes, refl, ap, sym, subst, ◌∙◌}
use Rattle.std.specs.Str.{chars}
use Rattle.rls_value.specs.{declared.refusal.Limit.Limit, declared.refusal.Refusal.Refusal}
use Rattle.rls_value.specs.declared.refusal.Limit.TheVariants as l
use Rattle.rls_value.specs.declared.refusal.Refusal.TheVariants as refusal
use Rattle.rls_statement.specs.declared.statement.Statement.{Statement}
use Rattle.rls_text.specs.{declared.token.Token.Token, Grammar.Spells, Nested.subqueries_of, Printing.IsWritten, Words.words_of, Writes.some_is, ParseResults.IsParseResult, ParseResults.IsSpelled, ParseResults.first_limit, ParseResults.limited, ParseResults.columns_of, Heights.height, Heights.height_of}
use Rattle.rls_expr.specs.Terms.{Term}
use Rattle.rls_text.specs.Grammar as g
use Rattle.rls_printing.specs.{OutputTokens.OutputToken, OutputTokens.tokens_of, ReadBack.IsReadAs, Outputs.Output, Outputs.blank, Outputs.are_fit, Outputs.output_tokens_text, Outputs.put_all, Outputs.text_of}
use Rattle.rls_printing.specs.StatementForms as form
use Rattle.rls_printing.proofs.{Reading.put_text, Reading.words_told, Reading.fit_tokens, Shallow.within_words, SpelledExprs.expr_written, SpelledStatements.spelled_written, Stating.written_told}

-- the text of the words that were put into an empty buffer
pub text_is : (ps : List OutputToken) (a b : Output) (text : String Global) → a ≡ blank → put_all (Some a) ps ≡ Some b → text_of text ≡ b.0 → chars (string_bytes text) ≡ output_tokens_text true ps
unfolding text_of
text_is ps a b text e h t = t ∙ (put_text ps a b h).text ∙ ap (λ z. z.0 ++ output_tokens_text z.1 ps) e

-- and its words
pub words_are : (ps : List OutputToken) (a b : Output) (text : String Global) (tokens : List Token) → a ≡ blank → put_all (Some a) ps ≡ Some b → text_of text ≡ b.0 → tokens_of ps ≡ Some tokens → words_of (string_bytes text) ≡ tokens
words_are ps a b text tokens e h t k = words_told (string_bytes text) ps tokens (text_is ps a b text e h t) (put_text ps a b h).fit k

-- which are tokens of what was put
pub tokens_are : (ps : List OutputToken) (a b : Output) (text : String Global) → a ≡ blank → put_all (Some a) ps ≡ Some b → text_of text ≡ b.0 → tokens_of ps ≡ Some (words_of (string_bytes text))
tokens_are ps a b text e h t =
    let fit = (put_text ps a b h).fit in
    let x = fit_tokens ps fit in
    x.1 ∙ ap Some (sym (words_told (string_bytes text) ps x.0 (text_is ps a b text e h t) fit x.1))

pub limited_read : (x : Statement) → IsReadAs x (limited x)
limited_read x = go (nat_lt 64 (columns_of x)) (nat_lt 64 (height_of x)) (nat_lt 8 (subqueries_of x))
  where
    go : (a b c : Bool) → IsReadAs x (if◌then◌else◌ {A = Result Statement Refusal} a (Err (refusal.Limit l.Columns)) (if◌then◌else◌ {A = Result Statement Refusal} b (Err (refusal.Limit l.Nesting)) (if◌then◌else◌ {A = Result Statement Refusal} c (Err (refusal.Limit l.Subqueries)) (Ok x))))
    go true b c = tt
    go false true c = tt
    go false false true = tt
    go false false false = refl

-- words that spell a statement are answered with it, or with a limit
pub spelled_read : (tokens : List Token) (x : Statement) (answer : Result Statement Refusal) → Spells tokens x → IsParseResult tokens answer → IsReadAs x answer
spelled_read tokens x answer h k = go (first_limit tokens) refl
  where
    go : (o : Option Limit) → first_limit tokens ≡ o → IsReadAs x answer
    go (Some limit) e = subst (λ z. IsReadAs x z) (sym (k.over limit e)) tt
    go None e = subst (λ z. IsReadAs x z) (sym (k.spelled x e h)) (limited_read x)

-- where some text spells a statement, the words that are written for it spell it too
pub spelled_again : (x : Statement) (words tokens : List Token) → ((ts : List Token) → IsWritten ts x → words ≡ ts) → Spells tokens x → Spells words x
spelled_again x words tokens are h =
    let y = spelled_written tokens x h in
    subst (λ z. Spells z x) (sym (are y.tokens y.written)) (record { depth = y.written.depth; spelled = (g.statement y.written.depth).rule.prints.wrote x y.tokens y.written.written })

-- so do those of an expression
pub expr_again : (x : Term) (words tokens : List Token) (depth : ℕ) → ((d : ℕ) (ts : List Token) → (g.expr d).rule.prints.writes x ≡ Some ts → words ≡ ts) → (g.expr depth).rule.spells tokens x → (g.expr (height x)).rule.spells words x
expr_again x words tokens depth are h =
    let y = expr_written depth x tokens h in
    subst (λ z. (g.expr (height x)).rule.spells z x) (sym (are (height x) y.tokens y.written)) ((g.expr (height x)).rule.prints.wrote x y.tokens y.written)

-- the tokens of what is printed for a statement that some text spells spell it
pub tokens_spell : (x : Statement) (original words : List Token) → Spells original x → tokens_of (form.statement x) ≡ Some words → Spells words x
tokens_spell x original words h e = spelled_again x words original (λ ts k. some_is words ts (sym e ∙ written_told x ts k)) h

-- Where a text within the limits spells a statement, what is printed for it is answered with it.
pub read_again : (x : Statement) (original words : List Token) (answer : Result Statement Refusal) → IsSpelled original x → Spells words x → are_fit (form.statement x) ≡ true → tokens_of (form.statement x) ≡ Some words → IsParseResult words answer → answer ≡ Ok x
read_again x original words answer h again fit e k = k.spelled x (within_words x original words h.spelled h.within fit e) again ∙ h.within
