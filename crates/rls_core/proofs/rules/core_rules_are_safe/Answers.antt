use Rattle.rls_core.proofs.rules.core_rules_are_safe.Goals as goal

pub returns : goal.returns
returns c = record { widens = λ noted read object given. c.notes_only_widen.ensures 256 noted read object given; finds = c.structures_are_found.ensures.finds }
