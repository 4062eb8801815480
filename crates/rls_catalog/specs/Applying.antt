-- Which policies apply to a role on a table, the whole rule (PostgreSQL manual, 5.8 and CREATE POLICY): none where row
-- security doesn't apply to the role, else those for the type of command that are TO it, with the expression asked for.
use Rattle.std.specs.Prelude.{ℕ, List, [], ◌∷◌, ◌++◌, Option, Some, None, if◌then◌else◌}
use Rattle.rls_expr.specs.rls_value.specs.declared.verb.Kind.{Kind}
use Rattle.rls_expr.specs.rls_value.specs.declared.object.Object.{Object}
use Rattle.rls_expr.specs.rls_value.specs.declared.object.Object.TheVariants as o
use Rattle.rls_expr.specs.declared.table.TableDef.{TableDef}
use Rattle.rls_expr.specs.declared.policy.Policy.{Policy}
use Rattle.rls_catalog.specs.declared.verdict.Side.{Side}
use Rattle.rls_catalog.specs.State.{State, table_of}
use Rattle.rls_catalog.specs.Verdict.{is_exempt, exempt_reads, applying_of, applying_reads}

-- on a table of that definition; there are none where there is no table
abbrev pub applying_on : Option TableDef → State → List ℕ → List ℕ → Kind → Side → List Policy
applying_on None s role table kind which = []
applying_on (Some def) s role table kind which = if is_exempt s role def then [] else applying_of s role table kind which

-- the policies that apply, in byte order of their names
abbrev pub applying_to : State → List ℕ → List ℕ → Kind → Side → List Policy
applying_to s role table kind which = applying_on (table_of s table) s role table kind which

-- what it reads to tell them, the definition being known
abbrev pub applying_on_reads : Option TableDef → State → List ℕ → List ℕ → Kind → Side → List Object
applying_on_reads None s role table kind which = []
applying_on_reads (Some def) s role table kind which = exempt_reads s role def ++ (if is_exempt s role def then [] else applying_reads s role table kind which)

-- what it reads to tell them: the table, who is exempt, and the policies where the role isn't
abbrev pub applying_to_reads : State → List ℕ → List ℕ → Kind → Side → List Object
applying_to_reads s role table kind which = o.Table table ∷ applying_on_reads (table_of s table) s role table kind which
