-- What a way through the entries has left.
use Rattle.std.proofs.Common.{◌≡◌, suc, List, [], ◌∷◌, ◌++◌, length, drop, slice_get, Some, Bool, true, false, cond, refl, sym, ap, subst, ◌∙◌, append_assoc}
use Rattle.std.proofs.lemmas.Cmp.{tied_itself}
use Rattle.std.specs.declared.cmp.Ordering.{Ordering}
use Rattle.std.specs.Cmp.{IsTotalOrder}
use Rattle.shared_map.specs.Entries.{Ascend, IsFirstRun, entries_from, is_reached}
use Rattle.shared_map.specs.Left.{entries_after, entries_left}
use Rattle.shared_map.proofs.Flat.{ascend_after}
use Rattle.shared_map.proofs.Runs.{hit_after}

module _ {A : Type 0} where
  at_middle : (pre rest : List A) (e : A) → slice_get (pre ++ e ∷ rest) (length pre) ≡ Some e
  at_middle [] rest e = refl
  at_middle (f ∷ pre) rest e = at_middle pre rest e

  past_middle : (pre rest : List A) (e : A) → drop (suc (length pre)) (pre ++ e ∷ rest) ≡ rest
  past_middle [] rest e = refl
  past_middle (f ∷ pre) rest e = past_middle pre rest e

module _ {K X : Type 0} (test : K → Bool) where
  -- the entries from a key on end the list
  pub from_ends : (es : List (K × X)) → (pre : List (K × X)) × (es ≡ pre ++ entries_from test es)
  from_ends [] = ([], refl)
  from_ends (e ∷ es) =
      elim (test e.0) as (λ t. (pre : List (K × X)) × (e ∷ es ≡ pre ++ cond t (e ∷ es) (entries_from test es)))
      [ true ↦ ([], refl) | false ↦ (e ∷ (from_ends es).0, ap (λ l. e ∷ l) (from_ends es).1) ]

module _ {K X : Type 0} {cmp : K → K → Ordering} (o : IsTotalOrder cmp) (es : List (K × X)) (s : Ascend cmp es) where
  after_last : (pre rest : List (K × X)) (e : K × X) → es ≡ pre ++ e ∷ rest → entries_from (is_reached (cmp e.0) true) es ≡ rest
  after_last pre rest e q =
      hit_after o es s e.0 (length pre) (e, ap (λ l. slice_get l (length pre)) q ∙ at_middle pre rest e, tied_itself o e.0)
      ∙ ap (drop (suc (length pre))) q ∙ past_middle pre rest e

  after_run : (pre run rest : List (K × X)) (e : K × X) → es ≡ pre ++ e ∷ (run ++ rest) → entries_after cmp es e run ≡ run ++ rest
  after_run pre [] rest e q = after_last pre rest e q
  after_run pre (f ∷ run) rest e q = ap (λ l. f ∷ l) (after_run (pre ++ e ∷ []) run rest f (q ∙ sym (append_assoc pre (e ∷ []) (f ∷ (run ++ rest)))))

  -- at a first run of what ends the entries, just that is left
  left_at : (pre l run : List (K × X)) → es ≡ pre ++ l → IsFirstRun l run → entries_left cmp es run ≡ l
  left_at pre l [] q r = sym (r.2 refl)
  left_at pre l (e ∷ run) q r = ap (λ l. e ∷ l) (after_run pre run r.0 e (q ∙ ap (λ l. pre ++ l) r.1)) ∙ sym r.1

  pub left_at_first : (run : List (K × X)) → IsFirstRun es run → entries_left cmp es run ≡ es
  left_at_first run r = left_at [] es run refl r

  pub left_from : (test : K → Bool) (run : List (K × X)) → IsFirstRun (entries_from test es) run → entries_left cmp es run ≡ entries_from test es
  left_from test run r = left_at (from_ends test es).0 (entries_from test es) run (from_ends test es).1 r

  pub ascend_from : (test : K → Bool) → Ascend cmp (entries_from test es)
  ascend_from test = ascend_after cmp (from_ends test es).0 (entries_from test es) (subst (Ascend cmp) (from_ends test es).1 s)
