use Rattle.std.proofs.Common.{◌∙◌, ◌≡◌, Some, cond, ◌++◌, ◌∷◌, []}
use Rattle.std.specs.BTreeMap.{is_at}
use Rattle.std.specs.Map.{lookup}
use Rattle.rls_verdict.specs.rls_catalog.specs.State.{name_order}
use Rattle.rls_grant.proofs.HandedLemmas.{added_first}
use Rattle.rls_grant.proofs.optioning.add_first.Goals as goal

pub returns : goal.returns
returns c =
    let key_is : c.in_ok-copy.field-0 ≡ c.args.grantor.now = c.in_ok-copy.ensures in
    let names_are : c.push.new.self ≡ c.args.grantee ∷ [] = c.in_ok-push.ensures.ok ∙ (λ i. c.new-grantees.ensures i ++ c.args.grantee ∷ []) in
    added_first c.args.grantor.now c.args.grantee c.args.index.now.entries c.insert.new.self.entries c.requires
    (λ name. c.in_ok-insert.ensures.updates.0 name ∙ (λ i. cond (is_at (name_order (key_is i)) name) (Some (names_are i)) (lookup (is_at (name_order name)) c.args.index.now.entries)))
