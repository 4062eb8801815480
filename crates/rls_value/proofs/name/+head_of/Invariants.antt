use Rattle.rls_value.proofs.name.+head_of.Given as goal

-- proposed from what the function passes where it calls itself
abbrev pub decreases-head_of : goal.decreases-head_of
decreases-head_of l = l.count
