-- How much there is to evaluate.
use Rattle.std.specs.Prelude.{ℕ, ◌+◌, ◌*◌, List, [], ◌∷◌}
use Rattle.rls_source.specs.rls_catalog.specs.rls_expr.specs.declared.policy.Policy.{Policy}
use Rattle.rls_source.specs.rls_catalog.specs.rls_expr.specs.Terms.{Term, term_size}
use Rattle.rls_evaluation.specs.declared.relation.SecurityQuals.{SecurityQuals}
use Rattle.rls_evaluation.specs.declared.relation.SecurityQuals.TheVariants.{Exempt, Policies}
use Rattle.rls_evaluation.specs.declared.relation.SecuredRelation.{SecuredRelation}

abbrev pub conditions_size : List (Policy × Term) → ℕ
conditions_size [] = 0
conditions_size (condition ∷ conditions) = term_size condition.1 + conditions_size conditions

abbrev pub quals_size : SecurityQuals → ℕ
quals_size Exempt = 0
quals_size (Policies conditions) = conditions_size conditions

abbrev pub relations_size : List SecuredRelation → ℕ
relations_size [] = 0
relations_size (relation ∷ relations) = 8 * quals_size relation.quals + relations_size relations + 8
