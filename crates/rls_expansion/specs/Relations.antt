-- The relations that subqueries look through: each table that the statement reaches, with its security quals: the policies for
-- SELECT that apply to the role.
use Rattle.std.specs.Prelude.{ℕ, List, [], ◌∷◌, ◌++◌, Option, Some, None}
use Rattle.rls_value.specs.declared.verb.Kind.TheVariants as k
use Rattle.rls_guard.specs.rls_catalog.specs.rls_expr.specs.declared.policy.Policy.{Policy}
use Rattle.rls_guard.specs.rls_catalog.specs.rls_expr.specs.declared.table.TableDef.{TableDef}
use Rattle.rls_guard.specs.rls_catalog.specs.rls_expr.specs.Scopes.{InScope, known_table}
use Rattle.rls_recursion.specs.rls_catalog.specs.declared.verdict.Side.TheVariants as side
use Rattle.rls_guard.specs.rls_evaluation.specs.declared.relation.SecuredRelation.{SecuredRelation}
use Rattle.rls_guard.specs.rls_evaluation.specs.declared.relation.SecurityQuals.{SecurityQuals}
use Rattle.rls_guard.specs.rls_evaluation.specs.declared.relation.SecurityQuals.TheVariants.{Exempt, Policies}
use Rattle.rls_guard.specs.SecurityQuals.{conditions_of}
use Rattle.rls_recursion.specs.declared.dependency.PolicyDependency.{PolicyDependency}
use Rattle.rls_recursion.specs.Searching.{dependency_in}

-- the table of a dependency in front of the others, if it is there
abbrev pub with_known : Option InScope → List InScope → List InScope
with_known None tables = tables
with_known (Some table) tables = table ∷ tables

-- the tables of the dependencies that are there
abbrev pub known_in : List PolicyDependency → List InScope
known_in [] = []
known_in (dependency ∷ dependencies) = with_known dependency.known (known_in dependencies)

-- the policies that apply, with their conditions; none counts where the role is exempt
abbrev pub quals_of : List InScope → InScope → Option (List Policy) → SecurityQuals
quals_of found from None = Exempt
quals_of found from (Some policies) = Policies (conditions_of k.Select side.Old from found policies)

-- the relation of a table that is there
abbrev pub relation_for : List InScope → List ℕ → Option TableDef → Option PolicyDependency → List SecuredRelation
relation_for found name (Some table) (Some dependency) = record { table = name; quals = quals_of found (name, table) dependency.policies } ∷ []
relation_for found name (Some table) None = []
relation_for found name None dependency = []

-- the relations of the tables, in their order
abbrev pub relations_of : List InScope → List PolicyDependency → List (List ℕ) → List SecuredRelation
relations_of found dependencies [] = []
relations_of found dependencies (name ∷ names) = relation_for found name (known_table found name) (dependency_in dependencies name) ++ relations_of found dependencies names
