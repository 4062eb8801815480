-- By which tokens a phrase begins, and which may not follow it.
use Rattle.std.specs.Prelude.{ℕ, Bool, true, false, ◌&&◌, ◌||◌, not, List, [], ◌∷◌}
use Rattle.std.specs.Str.{bytes_eq}
use denote.Enum.Bare.{sameb}
use Rattle.rls_text.specs.contracts.token.Symbol.{the_type}
use Rattle.rls_text.specs.declared.token.Symbol.{Symbol}
use Rattle.rls_text.specs.declared.token.Token.{Token}
use Rattle.rls_text.specs.declared.token.Token.TheVariants.{Word, Number, Text, Bad}
use Rattle.rls_text.specs.declared.token.Token.TheVariants as t
pub use Rattle.rls_value.specs.Names.{reserved}

-- one sign
abbrev pub same_symbol : Symbol → Symbol → Bool
same_symbol = sameb the_type

-- one token, of words and signs
abbrev pub same : Token → Token → Bool
same (Word a) (Word b) = bytes_eq a b
same (t.Symbol a) (t.Symbol b) = same_symbol a b
same _ _ = false

-- a kind of first token
pub data Head : Type 0 where
  Exact : Token → Head
  Names : Head
  Numbers : Head
  Texts : Head

-- this keyword
abbrev pub Keyword : List ℕ → Head
Keyword w = Exact (Word w)

-- this sign
abbrev pub Sign : Symbol → Head
Sign x = Exact (t.Symbol x)

-- the token is of that kind
abbrev pub fits : Head → Token → Bool
fits (Exact u) t = same u t
fits Names (Word w) = not (reserved w)
fits Numbers (Number n) = true
fits Texts (Text x) = true
fits _ _ = false

-- it is of one of these kinds
abbrev pub begins : List Head → Token → Bool
begins [] t = false
begins (h ∷ hs) t = fits h t || begins hs t

-- the next token is one of these
abbrev pub sees : List Head → List Token → Bool
sees hs [] = false
sees hs (t ∷ ts) = begins hs t

-- a token may be of both kinds
abbrev pub clash : Head → Head → Bool
clash (Exact u) k = fits k u
clash Names (Exact u) = fits Names u
clash Numbers (Exact u) = fits Numbers u
clash Texts (Exact u) = fits Texts u
clash Names Names = true
clash Numbers Numbers = true
clash Texts Texts = true
clash _ _ = false

-- a token may be of that kind and of one of these
abbrev pub clash_any : Head → List Head → Bool
clash_any h [] = false
clash_any h (k ∷ ks) = clash h k || clash_any h ks

-- no token is of both
abbrev pub apart : List Head → List Head → Bool
apart [] ks = true
apart (h ∷ hs) ks = not (clash_any h ks) && apart hs ks

-- one kind
abbrev pub same_head : Head → Head → Bool
same_head (Exact t) (Exact u) = same t u
same_head Names Names = true
same_head Numbers Numbers = true
same_head Texts Texts = true
same_head _ _ = false

-- it is one of these
abbrev pub has_head : Head → List Head → Bool
has_head h [] = false
has_head h (k ∷ ks) = same_head h k || has_head h ks

-- each of these is one of those
abbrev pub within : List Head → List Head → Bool
within [] ks = true
within (h ∷ hs) ks = has_head h ks && within hs ks
