-- What the grammar's answer tells of the limits on words: they are two, and none of those on statements.
use Rattle.std.proofs.Common.{◌≡◌, ℕ, List, [], ◌∷◌, Option, Some, None, Result, Ok, Err, nat_lt, nat_le, Bool, true, false, refl, sym, subst, if◌then◌else◌, length}
use Rattle.rls_value.specs.{declared.refusal.Limit.Limit, declared.refusal.Refusal.Refusal}
use Rattle.rls_value.specs.declared.refusal.Limit.TheVariants as l
use Rattle.rls_value.specs.declared.refusal.Refusal.TheVariants as r
use Rattle.rls_statement.specs.declared.statement.Statement.{Statement}
use Rattle.rls_text.specs.ParseResults.{IsParseResult, columns_of, first_limit, limit_from, limit_at, open_behind, or_next}
use Rattle.rls_text.specs.{Heights.height_of, Nested.subqueries_of, declared.token.Token.Token}
use Rattle.rls_script.specs.Connects.{limit_on_words}
use Rattle.rls_text.specs.declared.token.Token.TheVariants as t
use Rattle.rls_text.specs.declared.token.Symbol.TheVariants as s

-- none, or a limit on words
abbrev IsOnWords : Option Limit → Type 0
IsOnWords (Some l.Columns) = ⊥
IsOnWords (Some l.Nesting) = ⊥
IsOnWords (Some l.Subqueries) = ⊥
IsOnWords _ = Unit {0}

-- the first of two such
or_next_on_words : (a b : Option Limit) → IsOnWords a → IsOnWords b → IsOnWords (or_next a b)
or_next_on_words (Some limit) b on _ = on
or_next_on_words None b _ on = on

-- one by a test
if_on_words : (test : Bool) (limit : Option Limit) → IsOnWords limit → IsOnWords (if test then limit else None)
if_on_words true limit on = on
if_on_words false limit on = tt

-- that of one word
limit_at_on_words : (unclosed : ℕ) (token : Token) → IsOnWords (limit_at unclosed token)
limit_at_on_words unclosed (t.Word w) = if_on_words (nat_lt 63 (length w)) (Some l.Name) tt
limit_at_on_words unclosed (t.Symbol s.LParen) = if_on_words (nat_le 256 unclosed) (Some l.Parentheses) tt
limit_at_on_words unclosed _ = tt

-- that of all
limit_from_on_words : (unclosed : ℕ) (tokens : List Token) → IsOnWords (limit_from unclosed tokens)
limit_from_on_words unclosed [] = tt
limit_from_on_words unclosed (token ∷ tokens) = or_next_on_words (limit_at unclosed token) (limit_from (open_behind unclosed token) tokens) (limit_at_on_words unclosed token) (limit_from_on_words (open_behind unclosed token) tokens)

-- a limit on words is told as it is
told_as_it_is : (limit : Limit) → IsOnWords (Some limit) → limit_on_words limit ≡ Some limit
told_as_it_is l.Columns on = absurd on
told_as_it_is l.Nesting on = absurd on
told_as_it_is l.Line on = refl
told_as_it_is l.Subqueries on = absurd on
told_as_it_is l.Parentheses on = refl
told_as_it_is l.Policies on = refl
told_as_it_is l.Inserts on = refl
told_as_it_is l.Transactions on = refl
told_as_it_is l.Sessions on = refl
told_as_it_is l.Numbers on = refl
told_as_it_is l.Name on = refl

-- no statement within or over its own limits is refused for one on words
not_limited : (over_columns over_height over_subqueries : Bool) (x : Statement) (limit : Limit) → (limit ≡ l.Columns → ⊥) → (limit ≡ l.Nesting → ⊥) → (limit ≡ l.Subqueries → ⊥)
    → ◌≡◌ {A = Result Statement Refusal} (Err (r.Limit limit)) (if over_columns then Err (r.Limit l.Columns) else (if over_height then Err (r.Limit l.Nesting) else (if over_subqueries then Err (r.Limit l.Subqueries) else Ok x))) → ⊥
not_limited true over_height over_subqueries x limit columns nesting subqueries is = columns cc
not_limited false true over_subqueries x limit columns nesting subqueries is = nesting cc
not_limited false false true x limit columns nesting subqueries is = subqueries cc
not_limited false false false x limit columns nesting subqueries is = cc

-- where the words pass no limit, none on words is answered
none_on_words : (tokens : List Token) (limit : Limit) → first_limit tokens ≡ None → (limit ≡ l.Columns → ⊥) → (limit ≡ l.Nesting → ⊥) → (limit ≡ l.Subqueries → ⊥) → IsParseResult tokens (Err (r.Limit limit)) → ⊥
none_on_words tokens limit none columns nesting subqueries answer =
    let refused : ◌≡◌ {A = Result Statement Refusal} (Err (r.Limit limit)) (Err r.Syntax) =
    answer.unspelled none (λ x spelled. not_limited (nat_lt 64 (columns_of x)) (nat_lt 64 (height_of x)) (nat_lt 8 (subqueries_of x)) x limit columns nesting subqueries (answer.spelled x none spelled)) in
    cc

off_words : (tokens : List Token) (limit : Limit) → first_limit tokens ≡ None → IsParseResult tokens (Err (r.Limit limit)) → limit_on_words limit ≡ None
off_words tokens l.Columns none answer = refl
off_words tokens l.Nesting none answer = refl
off_words tokens l.Line none answer = absurd (none_on_words tokens l.Line none (λ e. cc) (λ e. cc) (λ e. cc) answer)
off_words tokens l.Subqueries none answer = refl
off_words tokens l.Parentheses none answer = absurd (none_on_words tokens l.Parentheses none (λ e. cc) (λ e. cc) (λ e. cc) answer)
off_words tokens l.Policies none answer = absurd (none_on_words tokens l.Policies none (λ e. cc) (λ e. cc) (λ e. cc) answer)
off_words tokens l.Inserts none answer = absurd (none_on_words tokens l.Inserts none (λ e. cc) (λ e. cc) (λ e. cc) answer)
off_words tokens l.Transactions none answer = absurd (none_on_words tokens l.Transactions none (λ e. cc) (λ e. cc) (λ e. cc) answer)
off_words tokens l.Sessions none answer = absurd (none_on_words tokens l.Sessions none (λ e. cc) (λ e. cc) (λ e. cc) answer)
off_words tokens l.Numbers none answer = absurd (none_on_words tokens l.Numbers none (λ e. cc) (λ e. cc) (λ e. cc) answer)
off_words tokens l.Name none answer = absurd (none_on_words tokens l.Name none (λ e. cc) (λ e. cc) (λ e. cc) answer)

by_passed : (passed : Option Limit) (limit : Limit) (tokens : List Token) → first_limit tokens ≡ passed → IsParseResult tokens (Err (r.Limit limit)) → limit_on_words limit ≡ passed
by_passed None limit tokens is answer = off_words tokens limit is answer
by_passed (Some other) limit tokens is answer =
    let refused : ◌≡◌ {A = Result Statement Refusal} (Err (r.Limit limit)) (Err (r.Limit other)) = answer.over other is in
    let same : limit ≡ other = cc in
    subst (λ it. limit_on_words it ≡ Some other) (sym same) (told_as_it_is other (subst IsOnWords is (limit_from_on_words 0 tokens)))

-- the limit that is answered is the one that the words pass, where it is on words
pub words_limit : (tokens : List Token) (answer : Result Statement Refusal) (limit : Limit) → answer ≡ Err (r.Limit limit) → IsParseResult tokens answer → limit_on_words limit ≡ first_limit tokens
words_limit tokens answer limit is answers = by_passed (first_limit tokens) limit tokens refl (subst (IsParseResult tokens) is answers)
