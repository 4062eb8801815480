use Rattle.std.proofs.Common.{ap, sym, subst, ◌∙◌}
use Rattle.rls_value.specs.Names.{reserved, IsName}
use Rattle.rls_value.proofs.NameLemmas.{name_of_text}
use Rattle.rls_value.proofs.name.Name.new.Goals as goal

pub invariant_of-result : goal.invariant_of-result
invariant_of-result c =
    let is = c.in_ok-from_string.ensures.ok ∙ c.in_ok-letters.ensures.ok in
    let letters = c.as_bytes-2.ensures.value ∙ c.in_ok-letters.ensures.ok in
    let name = subst IsName (sym is) (name_of_text c.args.text.now (search c) (search c) (ap reserved (sym letters) ∙ sym c.if-is_reserved.ensures)) in
    (name, search c)
