use Rattle.std.proofs.Common.{rules, ◌≡◌, ◌++◌, ◌∷◌, []}
use Rattle.rls_grant.proofs.SeenNames.{set_put}
use Rattle.rls_grant.proofs.optioning.add_unseen.Goals as goal

pub returns-in_ok-push-clause-seen : goal.returns-in_ok-push-clause-seen
returns-in_ok-push-clause-seen c =
    let grows : c.push.new.self.items ≡ c.args.names.now.items ++ c.args.name.now ∷ [] = search rules in
    set_put c.args.seen.now c.insert.new.self c.args.names.now.items c.push.new.self.items c.args.name.now c.in_ok-copy.field-0 c.in_ok-copy.ensures grows c.requires c.in_ok-insert.ensures.updates.0
