use Rattle.std.proofs.Common.{◌≡◌, ◌++◌, Bool, List, OnOk, length, replicate, rules, subst}
use Rattle.rls_check.specs.GraphSteps.{drawn_with, is_at}
use Rattle.rls_check.specs.GraphTexts.{picture_text}
use Rattle.rls_check.proofs.pictures.push_picture.Goals as goal

-- those that are marked are drawn
pub returns : goal.returns
returns c =
    let marked : c.mark.new.drawn.items ≡ drawn_with (replicate (length c.args.transactions.now) c.args.all) c.args.conflicts.now = search rules in
    subst (λ (drawn : List Bool). OnOk c.push-pushed.result (c.push-pushed.new.text.items ≡ c.args.text.now.items ++ picture_text c.args.picture (is_at drawn) c.args.transactions.now c.args.places.now c.args.befores.now c.args.conflicts.now))
    marked c.push-pushed.ensures
