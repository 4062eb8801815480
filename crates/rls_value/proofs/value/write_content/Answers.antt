use Rattle.std.proofs.Common.{rules, flat_map, [], ◌∷◌, ◌++◌, sym, ap, ◌∙◌, map-id, append-nil}
use Rattle.std.proofs.lemmas.Iterator.{YieldsList-from_chars}
use Rattle.std.proofs.lemmas.Iterator.Consumers.{YieldsList-end}
use Rattle.std.proofs.lemmas.Grind.{flat_map-append}
use Rattle.std.proofs.Output.{has_written_of_eq, has_written_append}
use Rattle.rls_value.specs.Values.{within_quotes}
use Rattle.rls_value.proofs.value.write_content.Goals as goal

pub returns : goal.returns
returns g c plain ok =
    let end = YieldsList-end (YieldsList-from_chars c.args.text.now c.utf8.text cc) c.loop-c.yielded _ c.loop-c.yielded_by _ _ c.in-None.is c.next.ensures.steps in
    has_written_of_eq _ _ _ _ _ (ap (flat_map within_quotes) (sym (map-id c.loop-c.yielded) ∙ end.0)) (c.loop-c.invariant plain)

pub loop-c-preserved : goal.loop-c-preserved
loop-c-preserved g c plain =
    let before = c.loop-c.invariant plain in
    has_written_of_eq _ _ _ _ _ (sym (flat_map-append within_quotes c.loop-c.yielded (c.in-Some.c ∷ []) ∙ ap (λ t. flat_map within_quotes c.loop-c.yielded ++ t) (append-nil (within_quotes c.in-Some.c)))) (has_written_append _ _ _ _ _ _ before (c.write_within_quotes.ensures before.plain (search rules)))
