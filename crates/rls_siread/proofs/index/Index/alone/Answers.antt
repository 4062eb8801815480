use Rattle.std.specs.Prelude.{◌≡◌, [], ◌∷◌, if◌then◌else◌}
use Rattle.std.specs.BTreeMap.{IsFromIterResult}
use Rattle.std.specs.Map.Iter.{deref}
use Rattle.std.proofs.Common.{List, ap, sym, subst, ◌∙◌}
use Rattle.std.proofs.IntoIterSteps.{All-taken}
use Rattle.std.proofs.lemmas.Map.Iter.{rest_more, rest_all}
use Rattle.rls_value.specs.declared.object.Object.{Object}
use Rattle.rls_value.specs.Objects.{object_order}
use Rattle.rls_source.specs.Footprints.{is_among}
use Rattle.rls_siread.specs.Index.{HolderList}
use Rattle.rls_siread.proofs.IndexLaws.{txns_in, found_in, alone_next, alone_found}
use Rattle.rls_siread.proofs.index.Index.alone.Goals as goal

pub loop-object-preserved : goal.loop-object-preserved
loop-object-preserved c = λ object.
    let first : c.loop-object.object-iterator ≡ c.in-Some.object.now ∷ c.next.new.self = rest_more deref c.loop-object.object-iterator c.next.new.self c.next.result c.in-Some.object c.in-Some.is c.next.ensures.steps in
    ap (λ (places : List (Object × HolderList)). if is_among c.next.new.self object then c.args.txn ∷ [] else txns_in (found_in places object)) c.in_ok-push.ensures.items
    ∙ alone_next c.loop-object.places.items c.in_ok-place_of.field-0 c.in-Some.object.now c.next.new.self c.args.txn c.in_ok-place_of.ensures.object c.in_ok-place_of.ensures.held object
    ∙ ap (λ (rest : List Object). if is_among rest object then c.args.txn ∷ [] else txns_in (found_in c.loop-object.places.items object)) (sym first)
    ∙ c.loop-object.invariant object

pub returns : goal.returns
returns c = λ object.
    let h = c.in_ok-from_iter.ensures.ran in
    let taken = All-taken h.0 h.1 ((h.3.2 tt).0, (h.3.0, h.3.1, (h.3.2 tt).1)) ∙ h.2.0 in
    let made : IsFromIterResult object_order c.loop-object.places.items c.in_ok-from_iter.field-0 = subst (λ places. IsFromIterResult object_order places c.in_ok-from_iter.field-0) taken h.4 in
    let last : c.loop-object.object-iterator ≡ [] = rest_all deref c.loop-object.object-iterator c.next.new.self c.next.result c.in-None.is c.next.ensures.steps in
    alone_found c.loop-object.places.items c.in_ok-from_iter.field-0.entries made.1 made.0 object
    ∙ ap (λ (rest : List Object). if is_among rest object then c.args.txn ∷ [] else txns_in (found_in c.loop-object.places.items object)) (sym last)
    ∙ c.loop-object.invariant object
