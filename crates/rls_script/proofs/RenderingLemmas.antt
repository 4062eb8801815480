-- Plain bytes are written as they are.
use Rattle.std.proofs.Common.{◌≡◌, ℕ, ◌+◌, Bool, true, false, cond, List, [], ◌∷◌, ◌++◌, take, drop, refl, sym, ap, ◌∙◌, append_assoc, arith}
use Rattle.std.specs.List.{prefix_len}
use Rattle.std.proofs.lemmas.Grind.{common_steps}
use Rattle.std.proofs.lemmas.Bool.Decides.{nat_tests}
use Rattle.rls_script.specs.Rendering.{escaped, escaped_byte, is_plain}

-- a plain byte stands for itself
plain_byte : (byte : ℕ) → is_plain byte ≡ true → escaped_byte byte ≡ byte ∷ []
plain_byte byte plain = grind (arith, nat_tests)

-- one more byte in front, plain or not
run_if : (byte : ℕ) (bytes : List ℕ) (plain : Bool) → is_plain byte ≡ plain → escaped bytes ≡ take (prefix_len is_plain bytes) bytes ++ escaped (drop (prefix_len is_plain bytes) bytes) → escaped (byte ∷ bytes) ≡ take (cond plain (1 + prefix_len is_plain bytes) 0) (byte ∷ bytes) ++ escaped (drop (cond plain (1 + prefix_len is_plain bytes) 0) (byte ∷ bytes))
run_if byte bytes true is whole = let one = plain_byte byte is in grind (arith, common_steps)
run_if byte bytes false is whole = grind (arith, common_steps)

-- the plain bytes at the front, and what is behind them
pub escaped_run : (bytes : List ℕ) → escaped bytes ≡ take (prefix_len is_plain bytes) bytes ++ escaped (drop (prefix_len is_plain bytes) bytes)
escaped_run [] = refl
escaped_run (byte ∷ bytes) = run_if byte bytes (is_plain byte) refl (escaped_run bytes)

-- behind the plain bytes at the front, which are written
pub run_written : (before now bytes plain behind : List ℕ) → plain ≡ take (prefix_len is_plain bytes) bytes → behind ≡ drop (prefix_len is_plain bytes) bytes → now ≡ before ++ plain → now ++ escaped behind ≡ before ++ escaped bytes
run_written before now bytes plain behind is_plain_part is_behind written =
    let whole : escaped bytes ≡ plain ++ escaped behind = rw (is_plain_part, is_behind) (escaped_run bytes) in
    ap (λ it. it ++ escaped behind) written ∙ append_assoc before plain (escaped behind) ∙ ap (λ it. before ++ it) (sym whole)
