use Rattle.std.specs.Prelude.{◌≡◌, [], ◌∷◌, ◌++◌, ◌||◌, ◌&&◌, not, true, false}
use Rattle.std.specs.Map.Iter.{deref}
use Rattle.std.proofs.Common.{ap, sym, ◌∙◌, arith}
use Rattle.std.proofs.lemmas.Map.Iter.{rest_more}
use Rattle.rls_value.specs.declared.object.Object.{Object}
use Rattle.rls_source.specs.{Footprints.with_object, Footprints.footprint_of, Footprints.is_among, FootprintLaws.with_reads_more}
use Rattle.rls_siread.proofs.PromotionLaws.{missing_next, missing_passed}
use Rattle.rls_siread.proofs.promotion.missing.Goals as goal

pub loop-object-preserved-in_ok-note : goal.loop-object-preserved-in_ok-note
loop-object-preserved-in_ok-note c = λ object.
    let first : c.loop-object.object-iterator ≡ c.in-Some.object.now ∷ c.next.new.self = rest_more deref c.loop-object.object-iterator c.next.new.self c.next.result c.in-Some.object c.in-Some.is c.next.ensures.steps in
    let found : footprint_of c.note.new.self ≡ with_object (footprint_of c.loop-object.missing) c.in-Some.object.now =
    ap footprint_of (c.in_ok-note.ensures.ok ∙ ap (λ (x : Object). c.loop-object.missing ++ x ∷ []) c.in_ok-copy.ensures) ∙ sym (with_reads_more [] c.loop-object.missing (c.in-Some.object.now ∷ [])) in
    let out : is_among c.args.others.now c.in-Some.object.now ≡ false = grind arith in
    ap (λ list. is_among list object || (is_among c.next.new.self object && not (is_among c.args.others.now object))) found
    ∙ missing_next (footprint_of c.loop-object.missing) c.args.others.now c.next.new.self c.in-Some.object.now object out
    ∙ ap (λ rest. is_among (footprint_of c.loop-object.missing) object || (is_among rest object && not (is_among c.args.others.now object))) (sym first)
    ∙ c.loop-object.invariant object

pub loop-object-preserved : goal.loop-object-preserved
loop-object-preserved c = λ object.
    let first : c.loop-object.object-iterator ≡ c.in-Some.object.now ∷ c.next.new.self = rest_more deref c.loop-object.object-iterator c.next.new.self c.next.result c.in-Some.object c.in-Some.is c.next.ensures.steps in
    let there : is_among c.args.others.now c.in-Some.object.now ≡ true = grind arith in
    missing_passed (footprint_of c.loop-object.missing) c.args.others.now c.next.new.self c.in-Some.object.now object there
    ∙ ap (λ rest. is_among (footprint_of c.loop-object.missing) object || (is_among rest object && not (is_among c.args.others.now object))) (sym first)
    ∙ c.loop-object.invariant object
