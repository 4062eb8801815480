-- The words that are printed for a statement pass no limit: no word is too long, and never are too many parentheses open at one time.
use Rattle.std.proofs.{Common.◌≡◌, Common.ℕ, Common.◌+◌, Common.◌-◌, Common.◌*◌, Common.◌≤◌, Common.Bool, Common.true, Common.false, Common.◌&&◌, Common.length, Common.nat_le, Common.nat_lt, Common.if◌then◌else◌, Common.List, Common.[], Common.◌∷◌, Common.◌++◌, Common.Option, Common.Some, Common.None, Common.Result, Common.Ok, Common.Err, Common.refl, Common.ap, Common.sym, Common.◌∙◌, Common.append_assoc, Common.append-nil, Common.arith, lemmas.Bool.and_parts, lemmas.Bool.and_from, lemmas.Bool.leb-true, lemmas.Bool.ltb-false, lemmas.Bool.le-ltb, lemmas.Bool.lt-leb, lemmas.List.length-map}
use Rattle.std.specs.Prelude.{codes, is_some, max, ℤ, pos, negsuc, suc, ◌^◌, ◌||◌}
use Rattle.std.specs.Char.{to_ascii_lowercase}
use Rattle.rls_value.specs.{Names.folded, Names.is_name_text, Names.is_word, declared.refusal.Limit.Limit, declared.refusal.Refusal.Refusal, declared.value.ColType.ColType, declared.value.Value.Value, declared.verb.PolicyKind.PolicyKind, declared.verb.Privilege.Privilege, declared.verb.Kind.Kind}
use Rattle.rls_expr.specs.{Terms.Term, Terms.Terms, Terms.Query, Terms.Literal, Terms.Column, Terms.Var, Terms.CurrentUser, Terms.Compare, Terms.And, Terms.Or, Terms.Not, Terms.IsNull, Terms.IsNotNull, Terms.InList, Terms.NotInList, Terms.Exists, Terms.InSubquery, Terms.NotInSubquery, Terms.Scalar, Terms.Sum, Terms.End, Terms.More, Terms.Select, Terms.terms_of, Terms.maybe_term, declared.expr.Comparison.Comparison, declared.expr.Selects.Selects, declared.expr.Sign.Sign, declared.policy.Grantee.Grantee, declared.policy.Policy.Policy}
use Rattle.rls_statement.specs.{declared.changing.Assignment.Assignment, declared.statement.Attributes.Attributes, declared.statement.MarkedColumn.MarkedColumn, declared.statement.MembershipOption.MembershipOption, declared.statement.MembershipOptions.MembershipOptions, declared.privileges.Privileges.Privileges, declared.statement.RowSecurity.RowSecurity, declared.statement.Selected.Selected, declared.statement.SetRole.SetRole, declared.statement.Statement.Statement}
use Rattle.rls_statement.specs.declared.command.AccessMode.TheVariants as mode
use Rattle.rls_statement.specs.declared.command.TransactionCommand.{TransactionCommand}
use Rattle.rls_statement.specs.declared.command.TransactionCommand.TheVariants as tc
use Rattle.rls_text.specs.{Values.NamedPrivilege, WaysBack.are_all, WaysBack.named_of, declared.token.Symbol.Symbol, declared.token.Token.Token, Grammar.Spells, Nested.subqueries_of, Writes.joined, Writes.some_is, ParseResults.limit_from, ParseResults.first_limit, ParseResults.or_next, ParseResults.limited, ParseResults.columns_of, Heights.height, Heights.heights, Heights.query_height, Heights.height_if, Heights.highest, Heights.set_values, Heights.height_of}
use Rattle.rls_printing.specs.{declared.buffer.Mark.Mark, Outputs.is_fit, Outputs.are_fit, OutputTokens.OutputToken, OutputTokens.Word, OutputTokens.Qualified, OutputTokens.Number, OutputTokens.Text, OutputTokens.Marked, OutputTokens.Count, OutputTokens.tokens_read_of, OutputTokens.tokens_of, OutputTokens.word_token}
use Rattle.rls_printing.specs.ExprForms as expr_form
use Rattle.rls_printing.specs.StatementForms as form
use Rattle.rls_printing.proofs.FlatItems.{chosen_height, returned_height, items_height, items_flat}

-- The words pass no limit where so many more parentheses may be open, and close those that they open.
pub record StaysLow (room : ℕ) (ps : List OutputToken) : Type 0 where
  pub passes : (unclosed : ℕ) (tokens rest : List Token) → unclosed + room ≤ 256 → are_fit ps ≡ true → tokens_of ps ≡ Some tokens → limit_from unclosed (tokens ++ rest) ≡ limit_from unclosed rest

-- ---- what is joined

-- what two were joined of
record Parts (o u : Option (List Token)) (ts : List Token) : Type 0 where
  front : List Token
  behind : List Token
  first : o ≡ Some front
  second : u ≡ Some behind
  whole : front ++ behind ≡ ts

parts : (o u : Option (List Token)) (ts : List Token) → joined o u ≡ Some ts → Parts o u ts
parts None u ts h = cc
parts (Some x) None ts h = cc
parts (Some x) (Some y) ts h = record { front = x; behind = y; first = refl; second = refl; whole = some_is (x ++ y) ts h }

joined_are : (o u : Option (List Token)) (x y : List Token) → o ≡ Some x → u ≡ Some y → joined o u ≡ Some (x ++ y)
joined_are o u x y h k = rw (h, k) refl

tokens_parts : (ps qs : List OutputToken) (ts : List Token) → tokens_of (ps ++ qs) ≡ Some ts → Parts (tokens_of ps) (tokens_of qs) ts
tokens_parts [] qs ts h = record { front = []; behind = ts; first = refl; second = h; whole = refl }
tokens_parts (p ∷ ps) qs ts h =
    let a = parts (tokens_read_of p) (tokens_of (ps ++ qs)) ts h in
    let b = tokens_parts ps qs a.behind a.second in
    record {
      front = a.front ++ b.front;
      behind = b.behind;
      first = joined_are (tokens_read_of p) (tokens_of ps) a.front b.front a.first b.first;
      second = b.second;
      whole = append_assoc a.front b.front b.behind ∙ ap (λ z. a.front ++ z) b.whole ∙ a.whole;
    }

fit_parts : (ps qs : List OutputToken) → are_fit (ps ++ qs) ≡ true → (are_fit ps ≡ true) × (are_fit qs ≡ true)
fit_parts [] qs h = (refl, h)
fit_parts (p ∷ ps) qs h =
    let a = and_parts (is_fit p) (are_fit (ps ++ qs)) h in
    let b = fit_parts ps qs a.1 in
    (and_from (is_fit p) (are_fit ps) a.0 b.0, b.1)

joined_alone : (o : Option (List Token)) (ts : List Token) → joined o (Some []) ≡ Some ts → o ≡ Some ts
joined_alone None ts h = cc
joined_alone (Some x) ts h = ap (λ z. Some z) (sym (append-nil x)) ∙ h

-- ---- the limits of tokens

-- tokens of two parts
moved : (unclosed : ℕ) (front behind whole rest : List Token) → front ++ behind ≡ whole → limit_from unclosed (whole ++ rest) ≡ limit_from unclosed (front ++ (behind ++ rest))
moved unclosed front behind whole rest h = ap (λ z. limit_from unclosed (z ++ rest)) (sym h) ∙ ap (λ z. limit_from unclosed z) (append_assoc front behind rest)

-- tokens that are these
given : (unclosed : ℕ) (these tokens rest : List Token) → ◌≡◌ {A = Option (List Token)} (Some these) (Some tokens) → limit_from unclosed (tokens ++ rest) ≡ limit_from unclosed (these ++ rest)
given unclosed these tokens rest h = ap (λ z. limit_from unclosed (z ++ rest)) (sym (some_is these tokens h))

-- a limit that isn't passed
skipped : (b : Bool) (limit : Limit) (further : Option Limit) → b ≡ false → or_next (if b then Some limit else None) further ≡ further
skipped true limit further h = cc
skipped false limit further h = refl

if_passes : (b : Bool) (unclosed : ℕ) (these tokens rest : List Token) → (if b then Some these else None) ≡ Some tokens → limit_from unclosed (these ++ rest) ≡ limit_from unclosed rest → limit_from unclosed (tokens ++ rest) ≡ limit_from unclosed rest
if_passes true unclosed these tokens rest h k = given unclosed these tokens rest h ∙ k
if_passes false unclosed these tokens rest h k = cc

word_passes : (w : List ℕ) (unclosed : ℕ) (tokens rest : List Token) → is_word w ≡ true → word_token w ≡ Some tokens → limit_from unclosed (tokens ++ rest) ≡ limit_from unclosed rest
word_passes w unclosed tokens rest h e =
    if_passes (is_name_text w) unclosed (Token.Word (folded w) ∷ []) tokens rest e (skipped (nat_lt 63 (length (folded w))) Limit.Name (limit_from unclosed rest) short)
  where
    short : nat_lt 63 (length (folded w)) ≡ false
    short = le-ltb 63 (length (folded w)) (omega (arith, length-map w to_ascii_lowercase, leb-true (length w) 63 (and_parts (is_name_text w) (nat_le (length w) 63) h).1))

room_left : (unclosed : ℕ) → unclosed + 1 ≤ 256 → nat_le 256 unclosed ≡ false
room_left unclosed h = lt-leb 256 unclosed (omega (arith, h))

closed_again : (unclosed : ℕ) (rest : List Token) → limit_from (unclosed + 1 - 1) rest ≡ limit_from unclosed rest
closed_again unclosed rest = ap (λ z. limit_from z rest) (omega arith)

-- ---- words

none_low : (room : ℕ) → StaysLow room []
none_low room = record { passes = λ unclosed tokens rest low f e. given unclosed [] tokens rest e }

-- one behind the other
pub both_low : (room : ℕ) (ps qs : List OutputToken) → StaysLow room ps → StaysLow room qs → StaysLow room (ps ++ qs)
both_low room ps qs h k = record {
  passes = λ unclosed tokens rest low f e.
      let a = tokens_parts ps qs tokens e in
      let fit = fit_parts ps qs f in
      moved unclosed a.front a.behind tokens rest a.whole ∙ h.passes unclosed a.front (a.behind ++ rest) low fit.0 a.first ∙ k.passes unclosed a.behind rest low fit.1 a.second;
}

-- where there is more room
pub roomier : (less more : ℕ) (ps : List OutputToken) → less ≤ more → StaysLow less ps → StaysLow more ps
roomier less more ps le h = record { passes = λ unclosed tokens rest low f e. h.passes unclosed tokens rest (omega (arith, le, low)) f e }

-- between parentheses
pub enclosed_low : (inner room : ℕ) (ps : List OutputToken) → inner + 1 ≤ room → StaysLow inner ps → StaysLow room (expr_form.enclosed ps)
enclosed_low inner room ps le h = record { passes = λ unclosed tokens rest low f e. go unclosed tokens rest low f e }
  where
    go : (unclosed : ℕ) (tokens rest : List Token) → unclosed + room ≤ 256 → are_fit (expr_form.enclosed ps) ≡ true → tokens_of (expr_form.enclosed ps) ≡ Some tokens → limit_from unclosed (tokens ++ rest) ≡ limit_from unclosed rest
    go unclosed tokens rest low f e =
        let a = parts (Some (Token.Symbol Symbol.LParen ∷ [])) (tokens_of (ps ++ Marked Mark.Close ∷ [])) tokens e in
        let b = tokens_parts ps (Marked Mark.Close ∷ []) a.behind a.second in
        let fit = fit_parts ps (Marked Mark.Close ∷ []) f in
        moved unclosed a.front a.behind tokens rest a.whole
        ∙ given unclosed (Token.Symbol Symbol.LParen ∷ []) a.front (a.behind ++ rest) a.first
        ∙ skipped (nat_le 256 unclosed) Limit.Parentheses (limit_from (unclosed + 1) (a.behind ++ rest)) (room_left unclosed (omega (arith, le, low)))
        ∙ moved (unclosed + 1) b.front b.behind a.behind rest b.whole
        ∙ h.passes (unclosed + 1) b.front (b.behind ++ rest) (omega (arith, le, low)) fit.0 b.first
        ∙ given (unclosed + 1) (Token.Symbol Symbol.RParen ∷ []) b.behind rest b.second
        ∙ closed_again unclosed rest

-- one word
one_low : (room : ℕ) (p : OutputToken) → ((unclosed : ℕ) (tokens rest : List Token) → unclosed + room ≤ 256 → is_fit p ≡ true → tokens_read_of p ≡ Some tokens → limit_from unclosed (tokens ++ rest) ≡ limit_from unclosed rest) → StaysLow room (p ∷ [])
one_low room p h = record { passes = λ unclosed tokens rest low f e. h unclosed tokens rest low (and_parts (is_fit p) true f).0 (joined_alone (tokens_read_of p) tokens e) }

word_low : (room : ℕ) (w : List ℕ) → StaysLow room (Word w ∷ [])
word_low room w = one_low room (Word w) (λ unclosed tokens rest low f e. word_passes w unclosed tokens rest f e)

qualified_low : (room : ℕ) (q n : List ℕ) → StaysLow room (Qualified q n ∷ [])
qualified_low room q n = one_low room (Qualified q n) (λ unclosed tokens rest low f e. go unclosed tokens rest f e)
  where
    go : (unclosed : ℕ) (tokens rest : List Token) → (is_word q && is_word n) ≡ true → joined (word_token q) (joined (Some (Token.Symbol Symbol.Dot ∷ [])) (word_token n)) ≡ Some tokens → limit_from unclosed (tokens ++ rest) ≡ limit_from unclosed rest
    go unclosed tokens rest f e =
        let fit = and_parts (is_word q) (is_word n) f in
        let a = parts (word_token q) (joined (Some (Token.Symbol Symbol.Dot ∷ [])) (word_token n)) tokens e in
        let b = parts (Some (Token.Symbol Symbol.Dot ∷ [])) (word_token n) a.behind a.second in
        moved unclosed a.front a.behind tokens rest a.whole
        ∙ word_passes q unclosed a.front (a.behind ++ rest) fit.0 a.first
        ∙ moved unclosed b.front b.behind a.behind rest b.whole
        ∙ given unclosed (Token.Symbol Symbol.Dot ∷ []) b.front (b.behind ++ rest) b.first
        ∙ word_passes n unclosed b.behind rest fit.1 b.second

number_low : (room : ℕ) (z : ℤ) → StaysLow room (Number z ∷ [])
number_low room (pos n) = one_low room (Number (pos n)) (λ unclosed tokens rest low f e. if_passes (nat_le n (2 ^ 63 - 1)) unclosed (Token.Number n ∷ []) tokens rest e refl)
number_low room (negsuc n) = one_low room (Number (negsuc n)) (λ unclosed tokens rest low f e. if_passes (nat_le (suc n) (2 ^ 63)) unclosed (Token.Symbol Symbol.Minus ∷ Token.Number (suc n) ∷ []) tokens rest e refl)

text_low : (room : ℕ) (x : List ℕ) → StaysLow room (Text x ∷ [])
text_low room x = one_low room (Text x) (λ unclosed tokens rest low f e. given unclosed (Token.Text x ∷ []) tokens rest e)

-- a mark that is no parenthesis
abbrev is_flat : Mark → Bool
is_flat Mark.Open = false
is_flat Mark.Close = false
is_flat _ = true

mark_low : (room : ℕ) (x : Mark) → is_flat x ≡ true → StaysLow room (Marked x ∷ [])
mark_low room Mark.Open h = cc
mark_low room Mark.Close h = cc
mark_low room Mark.Comma h = one_low room (Marked Mark.Comma) (λ unclosed tokens rest low f e. given unclosed (Token.Symbol Symbol.Comma ∷ []) tokens rest e)
mark_low room Mark.Star h = one_low room (Marked Mark.Star) (λ unclosed tokens rest low f e. given unclosed (Token.Symbol Symbol.Star ∷ []) tokens rest e)
mark_low room Mark.Plus h = one_low room (Marked Mark.Plus) (λ unclosed tokens rest low f e. given unclosed (Token.Symbol Symbol.Plus ∷ []) tokens rest e)
mark_low room Mark.Minus h = one_low room (Marked Mark.Minus) (λ unclosed tokens rest low f e. given unclosed (Token.Symbol Symbol.Minus ∷ []) tokens rest e)
mark_low room Mark.Equal h = one_low room (Marked Mark.Equal) (λ unclosed tokens rest low f e. given unclosed (Token.Symbol Symbol.Equal ∷ []) tokens rest e)
mark_low room Mark.NotEqual h = one_low room (Marked Mark.NotEqual) (λ unclosed tokens rest low f e. given unclosed (Token.Symbol Symbol.NotEqual ∷ []) tokens rest e)
mark_low room Mark.Less h = one_low room (Marked Mark.Less) (λ unclosed tokens rest low f e. given unclosed (Token.Symbol Symbol.Less ∷ []) tokens rest e)
mark_low room Mark.LessOrEqual h = one_low room (Marked Mark.LessOrEqual) (λ unclosed tokens rest low f e. given unclosed (Token.Symbol Symbol.LessOrEqual ∷ []) tokens rest e)
mark_low room Mark.Greater h = one_low room (Marked Mark.Greater) (λ unclosed tokens rest low f e. given unclosed (Token.Symbol Symbol.Greater ∷ []) tokens rest e)
mark_low room Mark.GreaterOrEqual h = one_low room (Marked Mark.GreaterOrEqual) (λ unclosed tokens rest low f e. given unclosed (Token.Symbol Symbol.GreaterOrEqual ∷ []) tokens rest e)

-- COUNT(*)
count_low : (room : ℕ) → 1 ≤ room → StaysLow room (Count ∷ [])
count_low room le = one_low room Count (λ unclosed tokens rest low f e.
    given unclosed (Token.Word (codes "count") ∷ Token.Symbol Symbol.LParen ∷ Token.Symbol Symbol.Star ∷ Token.Symbol Symbol.RParen ∷ []) tokens rest e
    ∙ skipped (nat_le 256 unclosed) Limit.Parentheses (limit_from (unclosed + 1 - 1) rest) (room_left unclosed (omega (arith, le, low)))
    ∙ closed_again unclosed rest)

-- behind a word
behind_word : (room : ℕ) (w : List ℕ) (ps : List OutputToken) → StaysLow room ps → StaysLow room (Word w ∷ ps)
behind_word room w ps h = both_low room (Word w ∷ []) ps (word_low room w) h

-- behind a mark
behind_mark : (room : ℕ) (x : Mark) (ps : List OutputToken) → is_flat x ≡ true → StaysLow room ps → StaysLow room (Marked x ∷ ps)
behind_mark room x ps e h = both_low room (Marked x ∷ []) ps (mark_low room x e) h

-- ---- expressions

literal_low : (room : ℕ) (x : Value) → StaysLow room (expr_form.literal x ∷ [])
literal_low room Value.Null = word_low room (codes "NULL")
literal_low room (Value.Int z) = number_low room z
literal_low room (Value.Text x) = text_low room x
literal_low room (Value.Bool true) = word_low room (codes "TRUE")
literal_low room (Value.Bool false) = word_low room (codes "FALSE")

named_low : (room : ℕ) (q : Option (List ℕ)) (n : List ℕ) → StaysLow room (expr_form.named q n ∷ [])
named_low room None n = word_low room n
named_low room (Some q) n = qualified_low room q n

comparison_flat : (x : Comparison) → is_flat (expr_form.comparison x) ≡ true
comparison_flat Comparison.Equal = refl
comparison_flat Comparison.NotEqual = refl
comparison_flat Comparison.Less = refl
comparison_flat Comparison.LessOrEqual = refl
comparison_flat Comparison.Greater = refl
comparison_flat Comparison.GreaterOrEqual = refl

sign_flat : (x : Sign) → is_flat (expr_form.sign x) ≡ true
sign_flat Sign.Plus = refl
sign_flat Sign.Minus = refl

bare_low : (b : Bool) (inner room : ℕ) (ps : List OutputToken) → inner + 1 ≤ room → StaysLow inner ps → StaysLow room (expr_form.bare_if b ps)
bare_low true inner room ps le h = roomier inner room ps (omega (arith, le)) h
bare_low false inner room ps le h = enclosed_low inner room ps le h

alias_low : (room : ℕ) (x : Option (List ℕ)) → StaysLow room (expr_form.alias x)
alias_low room None = none_low room
alias_low room (Some x) = behind_word room (codes "AS") (Word x ∷ []) (word_low room x)

from_low : (room : ℕ) (table : List ℕ) (x : Option (List ℕ)) → StaysLow room (expr_form.from_ table x)
from_low room table x = behind_word room (codes "FROM") (Word table ∷ expr_form.alias x) (behind_word room table (expr_form.alias x) (alias_low room x))

selected_low : (room : ℕ) (x : Selects) (items : List OutputToken) → 1 ≤ room → StaysLow room items → StaysLow room (expr_form.selected x items)
selected_low room Selects.All items le h = mark_low room Mark.Star refl
selected_low room Selects.Count items le h = count_low room le
selected_low room Selects.Items items le h = h

-- where an expression stays low, so do it as an operand, the list between parentheses, and the subquery
abbrev operand : Term → List OutputToken
operand x = expr_form.bare_if (expr_form.stands_alone x) (expr_form.expr x)

operand_low : (x : Term) (room : ℕ) → ((inner : ℕ) → 2 * height x + 1 ≤ inner → StaysLow inner (expr_form.expr x)) → 2 * height x + 2 ≤ room → StaysLow room (operand x)
operand_low x room h le = bare_low (expr_form.stands_alone x) (2 * height x + 1) room (expr_form.expr x) (omega (arith, le)) (h (2 * height x + 1) (omega arith))

choices_low : (ts : Terms) (room : ℕ) → ((inner : ℕ) → 2 * heights ts + 1 ≤ inner → StaysLow inner (expr_form.list ts)) → 2 * heights ts + 2 ≤ room → StaysLow room (expr_form.enclosed (expr_form.list ts))
choices_low ts room h le = enclosed_low (2 * heights ts + 1) room (expr_form.list ts) (omega (arith, le)) (h (2 * heights ts + 1) (omega arith))

subquery_low : (q : Query) (room : ℕ) → ((inner : ℕ) → 2 * query_height q ≤ inner → StaysLow inner (expr_form.query q)) → 2 * query_height q + 1 ≤ room → StaysLow room (expr_form.enclosed (expr_form.query q))
subquery_low q room h le = enclosed_low (2 * query_height q) room (expr_form.query q) le (h (2 * query_height q) (omega arith))

mutual
  -- an expression
  pub expr_low : (x : Term) (room : ℕ) → 2 * height x + 1 ≤ room → StaysLow room (expr_form.expr x)
  expr_low (Literal x) room le = literal_low room x
  expr_low (Column x) room le = named_low room x.qualifier x.name
  expr_low (Var x) room le = none_low room
  expr_low CurrentUser room le = word_low room (codes "CURRENT_USER")
  expr_low (Compare how a b) room le =
      both_low room (operand a) (Marked (expr_form.comparison how) ∷ operand b) (operand_low a room (expr_low a) (omega (arith, le)))
      (behind_mark room (expr_form.comparison how) (operand b) (comparison_flat how) (operand_low b room (expr_low b) (omega (arith, le))))
  expr_low (And ts) room le = operands_low (codes "AND") ts room (omega (arith, le))
  expr_low (Or ts) room le = operands_low (codes "OR") ts room (omega (arith, le))
  expr_low (Not a) room le = behind_word room (codes "NOT") (operand a) (operand_low a room (expr_low a) (omega (arith, le)))
  expr_low (IsNull a) room le =
      both_low room (operand a) (Word (codes "IS") ∷ Word (codes "NULL") ∷ []) (operand_low a room (expr_low a) (omega (arith, le))) (behind_word room (codes "IS") (Word (codes "NULL") ∷ []) (word_low room (codes "NULL")))
  expr_low (IsNotNull a) room le =
      both_low room (operand a) (Word (codes "IS") ∷ Word (codes "NOT") ∷ Word (codes "NULL") ∷ []) (operand_low a room (expr_low a) (omega (arith, le)))
      (behind_word room (codes "IS") (Word (codes "NOT") ∷ Word (codes "NULL") ∷ []) (behind_word room (codes "NOT") (Word (codes "NULL") ∷ []) (word_low room (codes "NULL"))))
  expr_low (InList a ts) room le =
      both_low room (operand a) (Word (codes "IN") ∷ expr_form.enclosed (expr_form.list ts)) (operand_low a room (expr_low a) (omega (arith, le)))
      (behind_word room (codes "IN") (expr_form.enclosed (expr_form.list ts)) (choices_low ts room (list_low ts) (omega (arith, le))))
  expr_low (NotInList a ts) room le =
      both_low room (operand a) (Word (codes "NOT") ∷ Word (codes "IN") ∷ expr_form.enclosed (expr_form.list ts)) (operand_low a room (expr_low a) (omega (arith, le)))
      (behind_word room (codes "NOT") (Word (codes "IN") ∷ expr_form.enclosed (expr_form.list ts))
      (behind_word room (codes "IN") (expr_form.enclosed (expr_form.list ts)) (choices_low ts room (list_low ts) (omega (arith, le)))))
  expr_low (Exists q) room le = behind_word room (codes "EXISTS") (expr_form.enclosed (expr_form.query q)) (subquery_low q room (query_low q) (omega (arith, le)))
  expr_low (InSubquery a q) room le =
      both_low room (operand a) (Word (codes "IN") ∷ expr_form.enclosed (expr_form.query q)) (operand_low a room (expr_low a) (omega (arith, le)))
      (behind_word room (codes "IN") (expr_form.enclosed (expr_form.query q)) (subquery_low q room (query_low q) (omega (arith, le))))
  expr_low (NotInSubquery a q) room le =
      both_low room (operand a) (Word (codes "NOT") ∷ Word (codes "IN") ∷ expr_form.enclosed (expr_form.query q)) (operand_low a room (expr_low a) (omega (arith, le)))
      (behind_word room (codes "NOT") (Word (codes "IN") ∷ expr_form.enclosed (expr_form.query q))
      (behind_word room (codes "IN") (expr_form.enclosed (expr_form.query q)) (subquery_low q room (query_low q) (omega (arith, le)))))
  expr_low (Scalar q) room le = subquery_low q room (query_low q) le
  expr_low (Sum signs ts) room le = sum_low signs ts room (omega (arith, le))

  operands_low : (w : List ℕ) (ts : Terms) (room : ℕ) → 2 * heights ts + 2 ≤ room → StaysLow room (expr_form.operands (Word w) ts)
  operands_low w End room le = none_low room
  operands_low w (More x ts) room le = both_low room (operand x) (expr_form.further (Word w) ts) (operand_low x room (expr_low x) (omega (arith, le))) (further_low w ts room (omega (arith, le)))

  further_low : (w : List ℕ) (ts : Terms) (room : ℕ) → 2 * heights ts + 2 ≤ room → StaysLow room (expr_form.further (Word w) ts)
  further_low w End room le = none_low room
  further_low w (More x ts) room le =
      behind_word room w (operand x ++ expr_form.further (Word w) ts)
      (both_low room (operand x) (expr_form.further (Word w) ts) (operand_low x room (expr_low x) (omega (arith, le))) (further_low w ts room (omega (arith, le))))

  sum_low : (signs : List Sign) (ts : Terms) (room : ℕ) → 2 * heights ts + 2 ≤ room → StaysLow room (expr_form.sum signs ts)
  sum_low signs End room le = none_low room
  sum_low signs (More x ts) room le = both_low room (operand x) (expr_form.summands signs ts) (operand_low x room (expr_low x) (omega (arith, le))) (summands_low signs ts room (omega (arith, le)))

  summands_low : (signs : List Sign) (ts : Terms) (room : ℕ) → 2 * heights ts + 2 ≤ room → StaysLow room (expr_form.summands signs ts)
  summands_low signs End room le = none_low room
  summands_low [] (More x ts) room le = none_low room
  summands_low (y ∷ ys) (More x ts) room le =
      behind_mark room (expr_form.sign y) (operand x ++ expr_form.summands ys ts) (sign_flat y)
      (both_low room (operand x) (expr_form.summands ys ts) (operand_low x room (expr_low x) (omega (arith, le))) (summands_low ys ts room (omega (arith, le))))

  -- expressions with commas between them
  pub list_low : (ts : Terms) (room : ℕ) → 2 * heights ts + 1 ≤ room → StaysLow room (expr_form.list ts)
  list_low End room le = none_low room
  list_low (More x ts) room le = both_low room (expr_form.expr x) (expr_form.more ts) (expr_low x room (omega (arith, le))) (more_low ts room (omega (arith, le)))

  more_low : (ts : Terms) (room : ℕ) → 2 * heights ts + 1 ≤ room → StaysLow room (expr_form.more ts)
  more_low End room le = none_low room
  more_low (More x ts) room le =
      behind_mark room Mark.Comma (expr_form.expr x ++ expr_form.more ts) refl (both_low room (expr_form.expr x) (expr_form.more ts) (expr_low x room (omega (arith, le))) (more_low ts room (omega (arith, le))))

  query_low : (q : Query) (room : ℕ) → 2 * query_height q ≤ room → StaysLow room (expr_form.query q)
  query_low (Select from key chosen items condition) room le =
      behind_word room (codes "SELECT") (expr_form.selected chosen (expr_form.list items) ++ (expr_form.from_ from.table from.alias ++ expr_form.where_ condition))
      (both_low room (expr_form.selected chosen (expr_form.list items)) (expr_form.from_ from.table from.alias ++ expr_form.where_ condition)
      (selected_low room chosen (expr_form.list items) (omega (arith, le)) (list_low items room (omega (arith, le))))
      (both_low room (expr_form.from_ from.table from.alias) (expr_form.where_ condition) (from_low room from.table from.alias) (where_low condition room (omega (arith, le)))))

  where_low : (ts : Terms) (room : ℕ) → 2 * heights ts + 1 ≤ room → StaysLow room (expr_form.where_ ts)
  where_low End room le = none_low room
  where_low (More x ts) room le = behind_word room (codes "WHERE") (expr_form.expr x) (expr_low x room (omega (arith, le)))

-- a condition
condition_low : (x : Option Term) (room : ℕ) → 2 * height_if x + 1 ≤ room → StaysLow room (expr_form.where_ (maybe_term x))
condition_low None room le = none_low room
condition_low (Some x) room le = behind_word room (codes "WHERE") (expr_form.expr x) (expr_low x room le)

-- ---- lists

also_low : {A : Type 0} (room : ℕ) (item : A → List OutputToken) → ((x : A) → StaysLow room (item x)) → (xs : List A) → StaysLow room (form.also item xs)
also_low room item h [] = none_low room
also_low room item h (x ∷ xs) = behind_mark room Mark.Comma (item x ++ form.also item xs) refl (both_low room (item x) (form.also item xs) (h x) (also_low room item h xs))

listed_low : {A : Type 0} (room : ℕ) (item : A → List OutputToken) → ((x : A) → StaysLow room (item x)) → (xs : List A) → StaysLow room (form.listed item xs)
listed_low room item h [] = none_low room
listed_low room item h (x ∷ xs) = both_low room (item x) (form.also item xs) (h x) (also_low room item h xs)

names_low : (room : ℕ) (xs : List (List ℕ)) → StaysLow room (form.listed form.name xs)
names_low room xs = listed_low room form.name (λ x. word_low room x) xs

grantee_low : (room : ℕ) (x : Grantee) → StaysLow room (form.grantee x)
grantee_low room Grantee.Public = word_low room (codes "PUBLIC")
grantee_low room (Grantee.Role x) = word_low room x

grantees_low : (room : ℕ) (xs : List Grantee) → StaysLow room (form.listed form.grantee xs)
grantees_low room xs = listed_low room form.grantee (λ x. grantee_low room x) xs

-- names between parentheses
enclosed_names : (room : ℕ) (xs : List (List ℕ)) → 1 ≤ room → StaysLow room (expr_form.enclosed (form.listed form.name xs))
enclosed_names room xs le = enclosed_low 0 room (form.listed form.name xs) (omega (arith, le)) (names_low 0 xs)

-- ---- SELECT, INSERT, UPDATE, DELETE

tuple_low : (xs : List Term) (room : ℕ) → 2 * heights (terms_of xs) + 2 ≤ room → StaysLow room (form.tuple xs)
tuple_low xs room le = choices_low (terms_of xs) room (list_low (terms_of xs)) le

more_tuples : (xs : List (List Term)) (room : ℕ) → 2 * highest xs + 2 ≤ room → StaysLow room (form.also form.tuple xs)
more_tuples [] room le = none_low room
more_tuples (x ∷ xs) room le =
    behind_mark room Mark.Comma (form.tuple x ++ form.also form.tuple xs) refl (both_low room (form.tuple x) (form.also form.tuple xs) (tuple_low x room (omega (arith, le))) (more_tuples xs room (omega (arith, le))))

tuples_low : (xs : List (List Term)) (room : ℕ) → 2 * highest xs + 2 ≤ room → StaysLow room (form.listed form.tuple xs)
tuples_low [] room le = none_low room
tuples_low (x ∷ xs) room le = both_low room (form.tuple x) (form.also form.tuple xs) (tuple_low x room (omega (arith, le))) (more_tuples xs room (omega (arith, le)))

assignment_low : (x : Assignment) (room : ℕ) → 2 * height x.value + 1 ≤ room → StaysLow room (form.assignment x)
assignment_low x room le = behind_word room x.column (Marked Mark.Equal ∷ expr_form.expr x.value) (behind_mark room Mark.Equal (expr_form.expr x.value) refl (expr_low x.value room le))

more_assignments : (xs : List Assignment) (room : ℕ) → 2 * heights (terms_of (set_values xs)) + 1 ≤ room → StaysLow room (form.also form.assignment xs)
more_assignments [] room le = none_low room
more_assignments (x ∷ xs) room le =
    behind_mark room Mark.Comma (form.assignment x ++ form.also form.assignment xs) refl (both_low room (form.assignment x) (form.also form.assignment xs) (assignment_low x room (omega (arith, le))) (more_assignments xs room (omega (arith, le))))

assignments_low : (xs : List Assignment) (room : ℕ) → 2 * heights (terms_of (set_values xs)) + 1 ≤ room → StaysLow room (form.listed form.assignment xs)
assignments_low [] room le = none_low room
assignments_low (x ∷ xs) room le = both_low room (form.assignment x) (form.also form.assignment xs) (assignment_low x room (omega (arith, le))) (more_assignments xs room (omega (arith, le)))

items_low : (x : Selected) (room : ℕ) → 2 * chosen_height x + 1 ≤ room → StaysLow room (form.selected_items x)
items_low Selected.All room le = mark_low room Mark.Star refl
items_low (Selected.Items xs) room le = list_low (terms_of xs) room le
items_low Selected.Count room le = count_low room (omega (arith, le))

returning_low : (x : Option Selected) (room : ℕ) → 2 * returned_height x + 1 ≤ room → StaysLow room (form.returning x)
returning_low None room le = none_low room
returning_low (Some x) room le = behind_word room (codes "RETURNING") (form.selected_items x) (items_low x room le)

columns_low : (room : ℕ) (x : Option (List (List ℕ))) → 1 ≤ room → StaysLow room (form.columns_if_any x)
columns_low room None le = none_low room
columns_low room (Some xs) le = enclosed_names room xs le

-- ---- roles

flag_low : (room : ℕ) (x : Option Bool) (on off : List ℕ) → StaysLow room (form.flag x on off)
flag_low room None on off = none_low room
flag_low room (Some true) on off = word_low room on
flag_low room (Some false) on off = word_low room off

attributes_low : (room : ℕ) (x : Attributes) → StaysLow room (form.attributes x)
attributes_low room x =
    both_low room (form.flag x.superuser (codes "SUPERUSER") (codes "NOSUPERUSER")) (form.flag x.login (codes "LOGIN") (codes "NOLOGIN") ++ form.flag x.bypass_rls (codes "BYPASSRLS") (codes "NOBYPASSRLS"))
    (flag_low room x.superuser (codes "SUPERUSER") (codes "NOSUPERUSER"))
    (both_low room (form.flag x.login (codes "LOGIN") (codes "NOLOGIN")) (form.flag x.bypass_rls (codes "BYPASSRLS") (codes "NOBYPASSRLS"))
    (flag_low room x.login (codes "LOGIN") (codes "NOLOGIN")) (flag_low room x.bypass_rls (codes "BYPASSRLS") (codes "NOBYPASSRLS")))

-- ---- tables

type_low : (room : ℕ) (x : ColType) → StaysLow room (form.column_type x ∷ [])
type_low room ColType.Integer = word_low room (codes "INTEGER")
type_low room ColType.BigInt = word_low room (codes "BIGINT")
type_low room ColType.Text = word_low room (codes "TEXT")
type_low room ColType.Boolean = word_low room (codes "BOOLEAN")

not_null_low : (room : ℕ) (x : Bool) → StaysLow room (form.not_null x)
not_null_low room true = behind_word room (codes "NOT") (Word (codes "NULL") ∷ []) (word_low room (codes "NULL"))
not_null_low room false = none_low room

is_key_low : (room : ℕ) (x : Bool) → StaysLow room (form.is_key x)
is_key_low room true = behind_word room (codes "PRIMARY") (Word (codes "KEY") ∷ []) (word_low room (codes "KEY"))
is_key_low room false = none_low room

column_low : (room : ℕ) (x : MarkedColumn) → StaysLow room (form.column x)
column_low room x =
    behind_word room x.column.name (form.column_type x.column.kind ∷ (form.not_null x.column.not_null ++ form.is_key x.is_key))
    (both_low room (form.column_type x.column.kind ∷ []) (form.not_null x.column.not_null ++ form.is_key x.is_key) (type_low room x.column.kind)
    (both_low room (form.not_null x.column.not_null) (form.is_key x.is_key) (not_null_low room x.column.not_null) (is_key_low room x.is_key)))

key_low : (room : ℕ) (x : Option (List (List ℕ))) → 1 ≤ room → StaysLow room (form.key x)
key_low room None le = none_low room
key_low room (Some names) le =
    behind_mark room Mark.Comma (Word (codes "PRIMARY") ∷ Word (codes "KEY") ∷ expr_form.enclosed (form.listed form.name names)) refl
    (behind_word room (codes "PRIMARY") (Word (codes "KEY") ∷ expr_form.enclosed (form.listed form.name names))
    (behind_word room (codes "KEY") (expr_form.enclosed (form.listed form.name names)) (enclosed_names room names le)))

change_low : (room : ℕ) (x : RowSecurity) → StaysLow room (form.row_change x)
change_low room RowSecurity.Enable = word_low room (codes "ENABLE")
change_low room RowSecurity.Disable = word_low room (codes "DISABLE")
change_low room RowSecurity.Force = word_low room (codes "FORCE")
change_low room RowSecurity.NoForce = behind_word room (codes "NO") (Word (codes "FORCE") ∷ []) (word_low room (codes "FORCE"))

-- ---- policies

policy_on_low : (room : ℕ) (policy table : List ℕ) → StaysLow room (form.policy_on policy table)
policy_on_low room policy table = behind_word room policy (Word (codes "ON") ∷ Word table ∷ []) (behind_word room (codes "ON") (Word table ∷ []) (word_low room table))

permissive_low : (room : ℕ) (x : Bool) → StaysLow room (form.permissive x ∷ [])
permissive_low room true = word_low room (codes "PERMISSIVE")
permissive_low room false = word_low room (codes "RESTRICTIVE")

kind_low : (room : ℕ) (x : PolicyKind) → StaysLow room (form.policy_kind x ∷ [])
kind_low room PolicyKind.All = word_low room (codes "ALL")
kind_low room (PolicyKind.Only Kind.Select) = word_low room (codes "SELECT")
kind_low room (PolicyKind.Only Kind.Insert) = word_low room (codes "INSERT")
kind_low room (PolicyKind.Only Kind.Update) = word_low room (codes "UPDATE")
kind_low room (PolicyKind.Only Kind.Delete) = word_low room (codes "DELETE")

-- an expression between parentheses
enclosed_expr : (x : Term) (room : ℕ) → 2 * height x + 2 ≤ room → StaysLow room (expr_form.enclosed (expr_form.expr x))
enclosed_expr x room le = enclosed_low (2 * height x + 1) room (expr_form.expr x) (omega (arith, le)) (expr_low x (2 * height x + 1) (omega arith))

using_low : (x : Option Term) (room : ℕ) → 2 * height_if x + 2 ≤ room → StaysLow room (form.using_ x)
using_low None room le = none_low room
using_low (Some x) room le = behind_word room (codes "USING") (expr_form.enclosed (expr_form.expr x)) (enclosed_expr x room le)

check_low : (x : Option Term) (room : ℕ) → 2 * height_if x + 2 ≤ room → StaysLow room (form.check_ x)
check_low None room le = none_low room
check_low (Some x) room le =
    behind_word room (codes "WITH") (Word (codes "CHECK") ∷ expr_form.enclosed (expr_form.expr x)) (behind_word room (codes "CHECK") (expr_form.enclosed (expr_form.expr x)) (enclosed_expr x room le))

conditions_low : (using check : Option Term) (room : ℕ) → 2 * max (height_if using) (height_if check) + 2 ≤ room → StaysLow room (form.using_ using ++ form.check_ check)
conditions_low using check room le = both_low room (form.using_ using) (form.check_ check) (using_low using room (omega (arith, le))) (check_low check room (omega (arith, le)))

to_low : (room : ℕ) (x : Option (List Grantee)) → StaysLow room (form.to_if_any x)
to_low room None = none_low room
to_low room (Some xs) = behind_word room (codes "TO") (form.listed form.grantee xs) (grantees_low room xs)

description_low : (x : Policy) (room : ℕ) → 2 * max (height_if x.using) (height_if x.check) + 2 ≤ room → StaysLow room (form.description x)
description_low x room le =
    behind_word room (codes "AS") (form.permissive x.permissive ∷ Word (codes "FOR") ∷ form.policy_kind x.kind ∷ Word (codes "TO") ∷ (form.listed form.grantee x.to ++ (form.using_ x.using ++ form.check_ x.check)))
    (both_low room (form.permissive x.permissive ∷ []) (Word (codes "FOR") ∷ form.policy_kind x.kind ∷ Word (codes "TO") ∷ (form.listed form.grantee x.to ++ (form.using_ x.using ++ form.check_ x.check))) (permissive_low room x.permissive)
    (behind_word room (codes "FOR") (form.policy_kind x.kind ∷ Word (codes "TO") ∷ (form.listed form.grantee x.to ++ (form.using_ x.using ++ form.check_ x.check)))
    (both_low room (form.policy_kind x.kind ∷ []) (Word (codes "TO") ∷ (form.listed form.grantee x.to ++ (form.using_ x.using ++ form.check_ x.check))) (kind_low room x.kind)
    (behind_word room (codes "TO") (form.listed form.grantee x.to ++ (form.using_ x.using ++ form.check_ x.check))
    (both_low room (form.listed form.grantee x.to) (form.using_ x.using ++ form.check_ x.check) (grantees_low room x.to) (conditions_low x.using x.check room le))))))

-- ---- GRANT and REVOKE

comma_low : (room : ℕ) (x : Bool) → StaysLow room (form.comma_if x)
comma_low room true = mark_low room Mark.Comma refl
comma_low room false = none_low room

privilege_low : (room : ℕ) (x : Privilege) → StaysLow room (form.privilege_word x ∷ [])
privilege_low room Privilege.Select = word_low room (codes "SELECT")
privilege_low room Privilege.Insert = word_low room (codes "INSERT")
privilege_low room Privilege.Update = word_low room (codes "UPDATE")
privilege_low room Privilege.Delete = word_low room (codes "DELETE")

named_privilege_low : (room : ℕ) → 1 ≤ room → (x : NamedPrivilege) → StaysLow room (form.named_privilege x)
named_privilege_low room le (privilege, columns) = both_low room (form.privilege_word privilege ∷ []) (form.columns_if_any columns) (privilege_low room privilege) (columns_low room columns le)

-- one of two, by a test
if_low : (room : ℕ) (b : Bool) (ps qs : List OutputToken) → StaysLow room ps → StaysLow room qs → StaysLow room (if b then ps else qs)
if_low room true ps qs h k = h
if_low room false ps qs h k = k

privileges_low : (room : ℕ) (x : Privileges) → 1 ≤ room → StaysLow room (form.privileges x)
privileges_low room x le =
    if_low room (are_all x) (Word (codes "ALL") ∷ []) (form.listed form.named_privilege (named_of x)) (word_low room (codes "ALL")) (listed_low room form.named_privilege (named_privilege_low room le) (named_of x))

with_option_low : (room : ℕ) (x : Bool) → StaysLow room (form.with_option x)
with_option_low room true = behind_word room (codes "WITH") (Word (codes "GRANT") ∷ Word (codes "OPTION") ∷ []) (behind_word room (codes "GRANT") (Word (codes "OPTION") ∷ []) (word_low room (codes "OPTION")))
with_option_low room false = none_low room

option_only_low : (room : ℕ) (x : Bool) → StaysLow room (form.option_only x)
option_only_low room true = behind_word room (codes "GRANT") (Word (codes "OPTION") ∷ Word (codes "FOR") ∷ []) (behind_word room (codes "OPTION") (Word (codes "FOR") ∷ []) (word_low room (codes "FOR")))
option_only_low room false = none_low room

cascade_low : (room : ℕ) (x : Bool) → StaysLow room (form.cascade x)
cascade_low room true = word_low room (codes "CASCADE")
cascade_low room false = none_low room

option_low : (room : ℕ) (x : Option Bool) (before : Bool) (w : List ℕ) → StaysLow room (form.option_if x before w)
option_low room None before w = none_low room
option_low room (Some on) before w =
    both_low room (form.comma_if before) (Word w ∷ form.flag (Some on) (codes "TRUE") (codes "FALSE")) (comma_low room before)
    (behind_word room w (form.flag (Some on) (codes "TRUE") (codes "FALSE")) (flag_low room (Some on) (codes "TRUE") (codes "FALSE")))

some_options_low : (room : ℕ) (x : MembershipOptions) → StaysLow room (form.some_options x)
some_options_low room x =
    both_low room (form.option_if x.admin false (codes "ADMIN")) (form.option_if x.inherit (is_some x.admin) (codes "INHERIT") ++ form.option_if x.set (is_some x.admin || is_some x.inherit) (codes "SET"))
    (option_low room x.admin false (codes "ADMIN"))
    (both_low room (form.option_if x.inherit (is_some x.admin) (codes "INHERIT")) (form.option_if x.set (is_some x.admin || is_some x.inherit) (codes "SET"))
    (option_low room x.inherit (is_some x.admin) (codes "INHERIT")) (option_low room x.set (is_some x.admin || is_some x.inherit) (codes "SET")))

options_low : (room : ℕ) (x : MembershipOptions) → StaysLow room (form.options x)
options_low room x =
    if_low room (is_some x.admin || (is_some x.inherit || is_some x.set)) (Word (codes "WITH") ∷ form.some_options x) [] (behind_word room (codes "WITH") (form.some_options x) (some_options_low room x)) (none_low room)

option_word_low : (room : ℕ) (x : MembershipOption) → StaysLow room (form.option_word x ∷ [])
option_word_low room MembershipOption.Admin = word_low room (codes "ADMIN")
option_word_low room MembershipOption.Inherit = word_low room (codes "INHERIT")
option_word_low room MembershipOption.Set = word_low room (codes "SET")

option_for_low : (room : ℕ) (x : Option MembershipOption) → StaysLow room (form.option_for x)
option_for_low room None = none_low room
option_for_low room (Some x) =
    both_low room (form.option_word x ∷ []) (Word (codes "OPTION") ∷ Word (codes "FOR") ∷ []) (option_word_low room x) (behind_word room (codes "OPTION") (Word (codes "FOR") ∷ []) (word_low room (codes "FOR")))

set_role_low : (room : ℕ) (x : SetRole) → StaysLow room (form.set_role x)
set_role_low room (SetRole.To x) = behind_word room (codes "SET") (Word (codes "ROLE") ∷ Word x ∷ []) (behind_word room (codes "ROLE") (Word x ∷ []) (word_low room x))
set_role_low room SetRole.None = behind_word room (codes "SET") (Word (codes "ROLE") ∷ Word (codes "NONE") ∷ []) (behind_word room (codes "ROLE") (Word (codes "NONE") ∷ []) (word_low room (codes "NONE")))
set_role_low room SetRole.Reset = behind_word room (codes "RESET") (Word (codes "ROLE") ∷ []) (word_low room (codes "ROLE"))

transaction_low : (room : ℕ) (x : TransactionCommand) → StaysLow room (form.transaction x)
transaction_low room (tc.Begin mode.ReadWrite) = word_low room (codes "BEGIN")
transaction_low room (tc.Begin mode.ReadOnly) =
    behind_word room (codes "BEGIN") (Word (codes "READ") ∷ Word (codes "ONLY") ∷ []) (behind_word room (codes "READ") (Word (codes "ONLY") ∷ []) (word_low room (codes "ONLY")))
transaction_low room tc.Commit = word_low room (codes "COMMIT")
transaction_low room tc.Rollback = word_low room (codes "ROLLBACK")

-- ---- statements

-- two words before others
behind_two : (room : ℕ) (w u : List ℕ) (ps : List OutputToken) → StaysLow room ps → StaysLow room (Word w ∷ Word u ∷ ps)
behind_two room w u ps h = behind_word room w (Word u ∷ ps) (behind_word room u ps h)

-- three words before others
behind_three : (room : ℕ) (w u x : List ℕ) (ps : List OutputToken) → StaysLow room ps → StaysLow room (Word w ∷ Word u ∷ Word x ∷ ps)
behind_three room w u x ps h = behind_word room w (Word u ∷ Word x ∷ ps) (behind_two room u x ps h)

-- The words of a statement whose expressions are no higher than 64, and whose items are leaves.
pub statement_low : (x : Statement) (room : ℕ) → 2 * height_of x + 3 ≤ room → items_height x ≤ 1 → StaysLow room (form.statement x)
statement_low (Statement.Select x) room le flat =
    behind_word room (codes "SELECT") (form.selected_items x.items ++ (expr_form.from_ x.table x.alias ++ expr_form.where_ (maybe_term x.condition)))
    (both_low room (form.selected_items x.items) (expr_form.from_ x.table x.alias ++ expr_form.where_ (maybe_term x.condition)) (items_low x.items room (omega (arith, le, flat)))
    (both_low room (expr_form.from_ x.table x.alias) (expr_form.where_ (maybe_term x.condition)) (from_low room x.table x.alias) (condition_low x.condition room (omega (arith, le)))))
statement_low (Statement.Insert x) room le flat =
    behind_three room (codes "INSERT") (codes "INTO") x.table (form.columns_if_any x.columns ++ Word (codes "VALUES") ∷ (form.listed form.tuple x.tuples ++ form.returning x.returning))
    (both_low room (form.columns_if_any x.columns) (Word (codes "VALUES") ∷ (form.listed form.tuple x.tuples ++ form.returning x.returning)) (columns_low room x.columns (omega (arith, le)))
    (behind_word room (codes "VALUES") (form.listed form.tuple x.tuples ++ form.returning x.returning)
    (both_low room (form.listed form.tuple x.tuples) (form.returning x.returning) (tuples_low x.tuples room (omega (arith, le))) (returning_low x.returning room (omega (arith, le, flat))))))
statement_low (Statement.Update x) room le flat =
    behind_three room (codes "UPDATE") x.table (codes "SET") (form.listed form.assignment x.assignments ++ (expr_form.where_ (maybe_term x.condition) ++ form.returning x.returning))
    (both_low room (form.listed form.assignment x.assignments) (expr_form.where_ (maybe_term x.condition) ++ form.returning x.returning) (assignments_low x.assignments room (omega (arith, le)))
    (both_low room (expr_form.where_ (maybe_term x.condition)) (form.returning x.returning) (condition_low x.condition room (omega (arith, le))) (returning_low x.returning room (omega (arith, le, flat)))))
statement_low (Statement.Delete x) room le flat =
    behind_three room (codes "DELETE") (codes "FROM") x.table (expr_form.where_ (maybe_term x.condition) ++ form.returning x.returning)
    (both_low room (expr_form.where_ (maybe_term x.condition)) (form.returning x.returning) (condition_low x.condition room (omega (arith, le))) (returning_low x.returning room (omega (arith, le, flat))))
statement_low (Statement.CreateRole x) room le flat = behind_three room (codes "CREATE") (codes "ROLE") x.name (form.attributes x.attributes) (attributes_low room x.attributes)
statement_low (Statement.AlterRole x) room le flat = behind_three room (codes "ALTER") (codes "ROLE") x.name (form.attributes x.attributes) (attributes_low room x.attributes)
statement_low (Statement.CreateTable x) room le flat =
    behind_three room (codes "CREATE") (codes "TABLE") x.name (expr_form.enclosed (form.listed form.column x.columns ++ form.key x.key))
    (enclosed_low 1 room (form.listed form.column x.columns ++ form.key x.key) (omega (arith, le))
    (both_low 1 (form.listed form.column x.columns) (form.key x.key) (listed_low 1 form.column (λ y. column_low 1 y) x.columns) (key_low 1 x.key (omega arith))))
statement_low (Statement.AlterTable x) room le flat =
    behind_three room (codes "ALTER") (codes "TABLE") x.table (form.row_change x.change ++ Word (codes "ROW") ∷ Word (codes "LEVEL") ∷ Word (codes "SECURITY") ∷ [])
    (both_low room (form.row_change x.change) (Word (codes "ROW") ∷ Word (codes "LEVEL") ∷ Word (codes "SECURITY") ∷ []) (change_low room x.change)
    (behind_three room (codes "ROW") (codes "LEVEL") (codes "SECURITY") [] (none_low room)))
statement_low (Statement.CreatePolicy x) room le flat =
    behind_two room (codes "CREATE") (codes "POLICY") (form.policy_on x.policy.name x.table ++ form.description x.policy)
    (both_low room (form.policy_on x.policy.name x.table) (form.description x.policy) (policy_on_low room x.policy.name x.table) (description_low x.policy room (omega (arith, le))))
statement_low (Statement.AlterPolicy x) room le flat =
    behind_two room (codes "ALTER") (codes "POLICY") (form.policy_on x.name x.table ++ (form.to_if_any x.to ++ (form.using_ x.using ++ form.check_ x.check)))
    (both_low room (form.policy_on x.name x.table) (form.to_if_any x.to ++ (form.using_ x.using ++ form.check_ x.check)) (policy_on_low room x.name x.table)
    (both_low room (form.to_if_any x.to) (form.using_ x.using ++ form.check_ x.check) (to_low room x.to) (conditions_low x.using x.check room (omega (arith, le)))))
statement_low (Statement.DropPolicy x) room le flat = behind_two room (codes "DROP") (codes "POLICY") (form.policy_on x.name x.table) (policy_on_low room x.name x.table)
statement_low (Statement.Grant x) room le flat =
    behind_word room (codes "GRANT") (form.privileges x.privileges ++ Word (codes "ON") ∷ Word x.table ∷ Word (codes "TO") ∷ (form.listed form.grantee x.to ++ form.with_option x.with_option))
    (both_low room (form.privileges x.privileges) (Word (codes "ON") ∷ Word x.table ∷ Word (codes "TO") ∷ (form.listed form.grantee x.to ++ form.with_option x.with_option)) (privileges_low room x.privileges (omega (arith, le)))
    (behind_three room (codes "ON") x.table (codes "TO") (form.listed form.grantee x.to ++ form.with_option x.with_option)
    (both_low room (form.listed form.grantee x.to) (form.with_option x.with_option) (grantees_low room x.to) (with_option_low room x.with_option))))
statement_low (Statement.Revoke x) room le flat =
    behind_word room (codes "REVOKE") (form.option_only x.option_only ++ (form.privileges x.privileges ++ Word (codes "ON") ∷ Word x.table ∷ Word (codes "FROM") ∷ (form.listed form.grantee x.from ++ form.cascade x.cascade)))
    (both_low room (form.option_only x.option_only) (form.privileges x.privileges ++ Word (codes "ON") ∷ Word x.table ∷ Word (codes "FROM") ∷ (form.listed form.grantee x.from ++ form.cascade x.cascade)) (option_only_low room x.option_only)
    (both_low room (form.privileges x.privileges) (Word (codes "ON") ∷ Word x.table ∷ Word (codes "FROM") ∷ (form.listed form.grantee x.from ++ form.cascade x.cascade)) (privileges_low room x.privileges (omega (arith, le)))
    (behind_three room (codes "ON") x.table (codes "FROM") (form.listed form.grantee x.from ++ form.cascade x.cascade)
    (both_low room (form.listed form.grantee x.from) (form.cascade x.cascade) (grantees_low room x.from) (cascade_low room x.cascade)))))
statement_low (Statement.GrantRoles x) room le flat =
    behind_word room (codes "GRANT") (form.listed form.name x.roles ++ Word (codes "TO") ∷ (form.listed form.name x.to ++ form.options x.options))
    (both_low room (form.listed form.name x.roles) (Word (codes "TO") ∷ (form.listed form.name x.to ++ form.options x.options)) (names_low room x.roles)
    (behind_word room (codes "TO") (form.listed form.name x.to ++ form.options x.options) (both_low room (form.listed form.name x.to) (form.options x.options) (names_low room x.to) (options_low room x.options))))
statement_low (Statement.RevokeRoles x) room le flat =
    behind_word room (codes "REVOKE") (form.option_for x.option ++ (form.listed form.name x.roles ++ Word (codes "FROM") ∷ (form.listed form.name x.from ++ form.cascade x.cascade)))
    (both_low room (form.option_for x.option) (form.listed form.name x.roles ++ Word (codes "FROM") ∷ (form.listed form.name x.from ++ form.cascade x.cascade)) (option_for_low room x.option)
    (both_low room (form.listed form.name x.roles) (Word (codes "FROM") ∷ (form.listed form.name x.from ++ form.cascade x.cascade)) (names_low room x.roles)
    (behind_word room (codes "FROM") (form.listed form.name x.from ++ form.cascade x.cascade) (both_low room (form.listed form.name x.from) (form.cascade x.cascade) (names_low room x.from) (cascade_low room x.cascade)))))
statement_low (Statement.SetRole x) room le flat = set_role_low room x
statement_low (Statement.Transaction x) room le flat = transaction_low room x

-- a statement within the limits is no higher than 64
height_within : (x : Statement) → limited x ≡ Ok x → height_of x ≤ 64
height_within x h = go (nat_lt 64 (columns_of x)) (nat_lt 64 (height_of x)) refl (nat_lt 8 (subqueries_of x)) h
  where
    go : (a b : Bool) → nat_lt 64 (height_of x) ≡ b → (c : Bool)
        → if◌then◌else◌ {A = Result Statement Refusal} a (Err (Refusal.Limit Limit.Columns)) (if◌then◌else◌ {A = Result Statement Refusal} b (Err (Refusal.Limit Limit.Nesting)) (if◌then◌else◌ {A = Result Statement Refusal} c (Err (Refusal.Limit Limit.Subqueries)) (Ok x))) ≡ Ok x → height_of x ≤ 64
    go true b e c k = cc
    go false true e c k = cc
    go false false e c k = ltb-false 64 (height_of x) e

-- The words that are printed for a statement that some text spells pass no limit, where the statement passes none.
pub within_words : (x : Statement) (original tokens : List Token) → Spells original x → limited x ≡ Ok x → are_fit (form.statement x) ≡ true → tokens_of (form.statement x) ≡ Some tokens → first_limit tokens ≡ None
within_words x original tokens h within f e =
    let low : 2 * height_of x + 3 ≤ 256 = omega (arith, height_within x within) in
    let full : 0 + 256 ≤ 256 = omega arith in
    ap (λ z. limit_from 0 z) (sym (append-nil tokens)) ∙ (statement_low x 256 low (items_flat x original h)).passes 0 tokens [] full f e
