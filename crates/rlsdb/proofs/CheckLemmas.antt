-- Checks of audits one after another.
use Rattle.std.proofs.Common.{◌≡◌, ◌≤◌, ◌<◌, ◌-◌, length, take, drop, slice_index_or, arith, refl, ℕ, Bool, true, false, ◌&&◌, not, List, [], ◌∷◌, ◌++◌, Bor, map, nat_lt, sym, ap, subst, ◌∙◌, append_assoc, append-nil}
use Rattle.std.proofs.lemmas.List.{take_all}
use Rattle.rls_session.specs.rls_script.specs.Streams.{GrewBy}
use Rattle.rls_command_line.specs.declared.words.Request.{Request}
use Rattle.rls_command_line.specs.declared.words.Request.TheVariants as q
use Rattle.rls_command_line.specs.declared.words.Checks.{Checks}
use Rattle.rlsdb.specs.Answers.{Answers, answered_part, AreChecked, IsCheckOfOne, more, none}
use Rattle.rlsdb.proofs.AnswerLemmas.{nothing}
use Rattle.rlsdb.proofs.CommandLemmas.{answered}

-- what was written so far, and what the audits that are left will come to, make the whole
pub record SoFar (named : Bool) (names left : List (List ℕ)) (before now : List ℕ) (hold : Bool) : Type 0 where
  pub written : List ℕ
  pub grew : now ≡ before ++ written
  pub makes : (rest : List ℕ) (all : Bool) → AreChecked named left rest all → AreChecked named names (written ++ rest) (hold && all)

-- before the first one
pub begins : (named : Bool) (names : List (List ℕ)) (now : List ℕ) → SoFar named names names now now true
begins named names now = record { written = []; grew = sym (append-nil now); makes = λ rest all it. it }

and_assoc : (a b c : Bool) → (a && (b && c)) ≡ ((a && b) && c)
and_assoc true b c = refl
and_assoc false b c = refl

-- one more
pub goes_on : (named : Bool) (names : List (List ℕ)) (name : List ℕ) (left : List (List ℕ)) (before middle now : List ℕ) (hold holds : Bool) → GrewBy middle now (λ written. (texts : List (List ℕ)) × IsCheckOfOne named name texts written holds) → SoFar named names (name ∷ left) before middle hold → SoFar named names left before now (hold && holds)
goes_on named names name left before middle now hold holds here so = record {
  written = so.written ++ here.more;
  grew = here.grew ∙ (ap (λ it. it ++ here.more) so.grew ∙ append_assoc before so.written here.more);
  makes = λ rest all it.
      let whole : AreChecked named names (so.written ++ (here.more ++ rest)) (hold && (holds && all)) = so.makes (here.more ++ rest) (holds && all) (more here.fact.1 it) in
      subst (λ w. AreChecked named names w ((hold && holds) && all)) (sym (append_assoc so.written here.more rest)) (subst (λ b. AreChecked named names (so.written ++ (here.more ++ rest)) b) (and_assoc hold holds all) whole);
}

-- the same of the first of a slice
pub goes_on_at : (named : Bool) (names : List (List ℕ)) (rest : List (Bor (List ℕ))) (d : Bor (List ℕ)) (before middle now : List ℕ) (hold still holds : Bool) → 1 ≤ length rest → still ≡ (hold && holds) → GrewBy middle now (λ written. (texts : List (List ℕ)) × IsCheckOfOne named (slice_index_or rest 0 d).now texts written holds) → SoFar named names (map (λ name. name.now) rest) before middle hold
    → SoFar named names (map (λ name. name.now) (take (length rest - 1) (drop 1 rest))) before now still
goes_on_at named names [] d before middle now hold still holds some is here so = absurd (omega (arith, some))
goes_on_at named names (name ∷ rest) d before middle now hold still holds some is here so =
    subst (λ (r : List (Bor (List ℕ))). SoFar named names (map (λ it. it.now) r) before now still) (sym (take_all (length (name ∷ rest) - 1) rest (omega arith)))
    (subst (λ b. SoFar named names (map (λ (it : Bor (List ℕ)). it.now) rest) before now b) (sym is) (goes_on named names name.now (map (λ it. it.now) rest) before middle now hold holds here so))

and_true : (a : Bool) → (a && true) ≡ a
and_true true = refl
and_true false = refl

-- behind the last one
pub ends : (named : Bool) (names : List (List ℕ)) (before now : List ℕ) (hold : Bool) → SoFar named names [] before now hold → GrewBy before now (λ written. AreChecked named names written hold)
ends named names before now hold so = record {
  more = so.written;
  grew = so.grew;
  fact = subst (λ w. AreChecked named names w hold) (append-nil so.written) (subst (λ b. AreChecked named names (so.written ++ []) b) (and_true hold) (so.makes [] true none));
}

-- the same where none is left of a slice
pub ends_at : (named : Bool) (names : List (List ℕ)) (rest : List (Bor (List ℕ))) (before now : List ℕ) (hold : Bool) → length rest < 1 → SoFar named names (map (λ name. name.now) rest) before now hold → GrewBy before now (λ written. AreChecked named names written hold)
ends_at named names [] before now hold none_left so = ends named names before now hold so
ends_at named names (name ∷ rest) before now hold none_left so = absurd (omega (arith, none_left))

-- ---- the answer of the command

-- the findings are written
pub told : (it : Checks) (names : List (Bor (List ℕ))) (hold : Bool) (old new : List ℕ) → it.quiet ≡ false → names ≡ it.audits.items → GrewBy old new (λ written. AreChecked (nat_lt 1 (length names)) (map (λ name. name.now) names) written hold) → GrewBy old new (λ written. Answers (q.Check it) written hold)
told it names hold old new loud same grew = record {
  more = grew.more;
  grew = grew.grew;
  fact = (
    grew.more,
    subst (λ (them : List (Bor (List ℕ))). AreChecked (nat_lt 1 (length them)) (map (λ name. name.now) them) grew.more hold) same grew.fact,
    ap (λ (b : Bool). answered_part (not b) grew.more) (sym loud),
  );
}

-- nothing is
pub untold : (it : Checks) (names : List (Bor (List ℕ))) (hold : Bool) (from to bytes : List ℕ) → it.quiet ≡ true → names ≡ it.audits.items → GrewBy from to (λ written. AreChecked (nat_lt 1 (length names)) (map (λ name. name.now) names) written hold) → GrewBy bytes bytes (λ written. Answers (q.Check it) written hold)
untold it names hold from to bytes quiet same grew =
    nothing bytes (λ written. Answers (q.Check it) written hold) (
      grew.more,
      subst (λ (them : List (Bor (List ℕ))). AreChecked (nat_lt 1 (length them)) (map (λ name. name.now) them) grew.more hold) same grew.fact,
      ap (λ (b : Bool). answered_part (not b) grew.more) (sym quiet),
    )
