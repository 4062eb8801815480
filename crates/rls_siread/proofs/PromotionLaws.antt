-- The objects that aren't among others, found one after another.
use Rattle.std.specs.Prelude.{◌≡◌, refl, List, ◌∷◌, Bool, true, false, not, ◌||◌, ◌&&◌}
use Rattle.std.proofs.Common.{ap, sym, ◌∙◌}
use Rattle.std.proofs.lemmas.Bool.{true≢false}
use Rattle.rls_value.specs.declared.object.Object.{Object}
use Rattle.rls_source.specs.Footprints.{with_object, is_object, is_among}
use Rattle.rls_source.specs.FootprintLaws.{is_object_same, among_with_object}

added_case : (same so_far rest out : Bool) → (same ≡ true → out ≡ false) → ((same || so_far) || (rest && not out)) ≡ (so_far || ((same || rest) && not out))
added_case true true rest out is = refl
added_case true false rest out is = sym (ap not (is refl))
added_case false so_far rest out is = refl

-- one that isn't among the others is found
pub missing_next : (missing others rest : List Object) (x object : Object) → is_among others x ≡ false
    → (is_among (with_object missing x) object || (is_among rest object && not (is_among others object))) ≡ (is_among missing object || (is_among (x ∷ rest) object && not (is_among others object)))
missing_next missing others rest x object out =
    ap (λ b. b || (is_among rest object && not (is_among others object))) (among_with_object missing x object)
    ∙ added_case (is_object object x) (is_among missing object) (is_among rest object) (is_among others object)
    (λ same. ap (is_among others) ((is_object_same object x).0 same) ∙ out)

passed_case : (same so_far rest out : Bool) → (same ≡ true → out ≡ true) → (so_far || (rest && not out)) ≡ (so_far || ((same || rest) && not out))
passed_case true so_far true true is = refl
passed_case true so_far false true is = refl
passed_case true so_far rest false is = absurd (true≢false (sym (is refl)))
passed_case false so_far rest out is = refl

-- one that is among them is passed over
pub missing_passed : (missing others rest : List Object) (x object : Object) → is_among others x ≡ true
    → (is_among missing object || (is_among rest object && not (is_among others object))) ≡ (is_among missing object || (is_among (x ∷ rest) object && not (is_among others object)))
missing_passed missing others rest x object there =
    passed_case (is_object object x) (is_among missing object) (is_among rest object) (is_among others object) (λ same. ap (is_among others) ((is_object_same object x).0 same) ∙ there)
