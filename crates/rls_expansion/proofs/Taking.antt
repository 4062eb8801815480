-- The expression that a policy is asked for, and which of its two it is.
use Rattle.std.specs.Prelude.{◌≡◌, refl, Option, Some, None, is_some}
use Rattle.rls_value.specs.declared.verb.Kind.{Kind}
use Rattle.rls_value.specs.declared.verb.Kind.TheVariants as k
use Rattle.rls_value.specs.declared.verb.PolicyKind.{PolicyKind}
use Rattle.rls_value.specs.declared.verb.PolicyKind.TheVariants as pk
use Rattle.rls_guard.specs.rls_catalog.specs.rls_expr.specs.declared.policy.Policy.{Policy}
use Rattle.rls_guard.specs.rls_catalog.specs.rls_expr.specs.Terms.{Term}
use Rattle.rls_recursion.specs.rls_catalog.specs.declared.verdict.Side.{Side}
use Rattle.rls_recursion.specs.rls_catalog.specs.declared.verdict.Side.TheVariants as side
use Rattle.rls_recursion.specs.rls_catalog.specs.Verdict.{expression_of, check_or_using}
use Rattle.rls_expansion.specs.Used.{using_stands_in, takes_using, takes_check, expression_by}
use Rattle.std.specs.Prelude.{if◌then◌else◌}

checked : (kind : PolicyKind) (check using : Option Term) → check_or_using kind check using ≡ (if using_stands_in kind check then using else (if is_some check then check else None))
checked kind (Some check) using = refl
checked pk.All None using = refl
checked (pk.Only k.Select) None using = refl
checked (pk.Only k.Insert) None using = refl
checked (pk.Only k.Update) None using = refl
checked (pk.Only k.Delete) None using = refl

pub taken : (policy : Policy) (kind : Kind) (which : Side) → expression_of policy kind which ≡ expression_by policy (takes_using policy kind which) (takes_check policy kind which)
taken policy k.Select which = refl
taken policy k.Insert which = checked policy.kind policy.check policy.using
taken policy k.Update side.Old = refl
taken policy k.Update side.New = checked policy.kind policy.check policy.using
taken policy k.Delete which = refl
