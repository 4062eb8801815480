use Rattle.std.specs.Prelude.{◌≡◌, ◌∷◌, List}
use Rattle.std.specs.Map.{keys_of}
use Rattle.std.proofs.Common.{ap, sym, ◌∙◌}
use Rattle.std.specs.Map.Iter.{deref}
use Rattle.std.proofs.lemmas.Map.Iter.{rest_more}
use Rattle.rls_value.specs.declared.object.Object.{Object}
use Rattle.rls_source.specs.Footprints.{is_among}
use Rattle.rls_siread.specs.Index.{HolderList, held_at}
use Rattle.rls_siread.proofs.IndexLaws.{nobody_at}
use Rattle.rls_siread.proofs.CopyLaws.{no_entry, copied_object}
use Rattle.rls_siread.proofs.index.Index.copy.Goals as goal

pub loop-object-init : goal.loop-object-init
loop-object-init c = λ object none.
    let it : c.into_iter-object-iterator.result ≡ keys_of c.args.self.now.holders.entries = c.into_iter-object-iterator.ensures.into_iter_gives ∙ c.keys-object-items.ensures.rest in
    ap (λ (places : List (Object × HolderList)). held_at places object) c.new-copied.ensures
    ∙ sym (nobody_at c.args.self.now.holders.entries object c.keys-object-items.ensures.ordered (no_entry c.args.self.now.holders.entries object (ap (λ list. is_among list object) (sym it) ∙ none)))

pub loop-object-preserved : goal.loop-object-preserved
loop-object-preserved c =
    let first : c.loop-object.object-iterator ≡ c.in-Some.object.now ∷ c.next.new.self = rest_more deref c.loop-object.object-iterator c.next.new.self c.next.result c.in-Some.object c.in-Some.is c.next.ensures.steps in
    copied_object c.loop-object.copied.holders.entries c.put.new.self.holders.entries c.args.self.now.holders.entries c.in-Some.object.now c.next.new.self c.in_ok-held.held.txns c.in_ok-held.ensures c.in_ok-put.ensures
    (λ object none. c.loop-object.invariant object (ap (λ list. is_among list object) first ∙ none))
