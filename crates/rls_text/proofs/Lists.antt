-- Lists of phrases, read one by one.
use Rattle.std.proofs.Common.{◌≡◌, ℕ, ◌+◌, ◌-◌, ◌<◌, true, List, [], ◌∷◌, ◌++◌, length, Some, None, refl, arith}
use Rattle.rls_text.specs.declared.token.Token.{Token}
use Rattle.rls_text.specs.declared.token.Token.TheVariants as t
use Rattle.rls_text.specs.declared.token.Symbol.TheVariants as s
use Rattle.rls_text.specs.Heads.{Sign, sees}
use Rattle.rls_text.specs.Parses.{Outcome, and_then, read_token, read_many, read_listed, behind_comma}
use Rattle.rls_text.specs.Gives.{with_front}
use Rattle.rls_text.proofs.Loops.{loop_fails, loop_goes_on}

module _ {A : Type 0} (p : List Token → Outcome A) where
  -- what so many more turns read behind these
  abbrev pub goes_on : List A → ℕ → List Token → Outcome (List A)
  goes_on front left rest = with_front front (read_many (Sign s.Comma ∷ []) (behind_comma p) left rest)

  pub list_begins : (ts rest : List Token) (a : A) → p ts ≡ Some (a, rest) → read_listed p ts ≡ goes_on (a ∷ []) (length rest - 0) rest
  unfolding read_listed with_front
  list_begins ts rest a h = let e : length rest - 0 ≡ length rest = omega arith in rw (e, h) (go (read_many (Sign s.Comma ∷ []) (behind_comma p) (length rest) rest))
    where
      go : (o : Outcome (List A)) → and_then {A = A × List A} (and_then o (λ more behind. Some ((a, more), behind))) (λ r behind. Some (r.0 ∷ r.1, behind)) ≡ and_then o (λ more behind. Some ((a ∷ []) ++ more, behind))
      go None = refl
      go (Some x) = refl

  pub list_fails : (ts : List Token) → p ts ≡ None → read_listed p ts ≡ None
  unfolding read_listed
  list_fails ts h = rw h refl

  pub next_fails : (front : List A) (turn end : ℕ) (rest behind : List Token) → turn < end → sees (Sign s.Comma ∷ []) rest ≡ true → read_token (t.Symbol s.Comma) rest ≡ Some (tt, behind) → p behind ≡ None
      → goes_on front (end - turn) rest ≡ None
  unfolding behind_comma
  next_fails front turn end rest behind h e k n = loop_fails _ (behind_comma p) front turn end rest h e (rw (k, n) refl)

  pub next_goes_on : (front : List A) (turn end : ℕ) (rest behind after : List Token) (a : A) → turn < end → sees (Sign s.Comma ∷ []) rest ≡ true → read_token (t.Symbol s.Comma) rest ≡ Some (tt, behind) → p behind ≡ Some (a, after)
      → goes_on front (end - turn) rest ≡ goes_on (front ++ a ∷ []) (end - (turn + 1)) after
  unfolding behind_comma
  next_goes_on front turn end rest behind after a h e k n = loop_goes_on _ (behind_comma p) front turn end rest after a h e (rw (k, n) refl)
