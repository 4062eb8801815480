use Rattle.std.proofs.Common.{rules, refl, ap, ◌∙◌, ◌≡◌, Some, None, []}
use Rattle.std.specs.Prelude.{slice_get}
use Rattle.rls_recursion.specs.rls_catalog.specs.Membership.{fresh}
use Rattle.rls_expansion.specs.Leading.{named}
use Rattle.rls_expansion.specs.Dependencies.{dependency_of, dependencies_of, dependencies_lead}
use Rattle.rls_expansion.proofs.Collecting.{collect_first, collect_next, collect_told}
use Rattle.rls_expansion.proofs.dependencies.dependencies_of.Goals as goal

pub loop-name-init : goal.loop-name-init
loop-name-init c =
    let names : c.add_fresh.new.names.items ≡ fresh [] c.args.tables.now = search rules in
    let none : c.new-dependencies.result ≡ [] = search rules in
    record {
      state = refl;
      leads = collect_first (dependency_of c.args.role_privileges.now) (λ dependency. dependency.subquery_tables) c.args.asker.now.state (fresh [] c.args.tables.now) c.add_fresh.new.names.items c.new-dependencies.result c.args.asker.now.reads names none;
    }

pub loop-name-preserved : goal.loop-name-preserved
loop-name-preserved c =
    let found : slice_get c.loop-name.names.items c.loop-name.next ≡ Some c.in-Some.name.now = search rules in
    record {
      state = ap (λ asked. asked.state) c.in_ok-dependency.ensures.noted ∙ c.loop-name.invariant.state;
      leads = collect_next (dependency_of c.args.role_privileges.now) (λ dependency. dependency.subquery_tables) c.args.asker.now.state (fresh [] c.args.tables.now) c.loop-name.names.items c.keep.new.names.items c.loop-name.next c.in-Some.name.now c.in_ok-dependency.dependency c.loop-name.dependencies c.keep.new.dependencies c.args.asker.now.reads c.loop-name.asker c.dependency_of.new.asker
          found c.in_ok-keep.ensures.names c.in_ok-keep.ensures.dependencies c.loop-name.invariant.state c.loop-name.invariant.leads c.in_ok-dependency.ensures;
    }

pub returns : goal.returns
unfolding dependencies_of
returns c =
    let past : slice_get c.loop-name.names.items c.loop-name.next ≡ None = search rules in
    collect_told (dependency_of c.args.role_privileges.now) (λ dependency. dependency.subquery_tables) named (dependencies_lead c.args.role_privileges.now) (fresh [] c.args.tables.now) c.loop-name.names.items c.loop-name.next c.loop-name.dependencies c.args.asker.now c.loop-name.asker past c.loop-name.invariant.state c.loop-name.invariant.leads
