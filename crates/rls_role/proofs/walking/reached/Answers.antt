use Rattle.std.proofs.Common.{rules, ap, ◌∙◌, ◌≡◌, Some, None}
use Rattle.std.specs.Prelude.{slice_get}
use Rattle.rls_source.specs.rls_catalog.specs.State.{State}
use Rattle.rls_source.specs.rls_catalog.specs.Membership.{reached_of}
use Rattle.rls_source.specs.rls_catalog.specs.Paths.{inheriting}
use Rattle.rls_role.specs.Holdings.{with_held}
use Rattle.rls_role.specs.Steps.{takes}
use Rattle.rls_source.specs.rls_catalog.proofs.Walks.{reached_is}
use Rattle.rls_role.proofs.Visits.{leads_next, reads_next, reads_end}
use Rattle.rls_role.proofs.walking.reached.Goals as goal

pub loop-name-preserved : goal.loop-name-preserved
loop-name-preserved c =
    let now : State = c.args.asker.now.state in
    let found : slice_get c.loop-name.names c.loop-name.next ≡ Some c.in_ok-name.name = search rules in
    record {
      state = ap (λ a. a.state) c.in_ok-visit.ensures.noted ∙ c.loop-name.invariant.state;
      leads = leads_next c.args.step c.args.held.now now c.loop-name.asker.state c.args.role.now c.loop-name.names c.visit.new.names c.loop-name.next c.in_ok-name.name c.loop-name.invariant.state found c.in_ok-visit.ensures.names c.loop-name.invariant.leads;
      reads = reads_next c.args.asker.now.reads c.loop-name.asker.reads c.visit.new.asker.reads c.loop-name.names c.visit.new.names _ c.loop-name.next c.in_ok-name.name found c.in_ok-visit.ensures.names c.loop-name.invariant.reads (ap (λ a. a.reads) c.in_ok-visit.ensures.noted);
    }

pub returns-clause-names : goal.returns-clause-names
returns-clause-names c =
    let past : slice_get c.loop-name.names c.loop-name.next ≡ None = search rules in
    c.in_ok-items.ensures ∙ reached_is (inheriting (takes c.args.step) (with_held c.args.held.now c.args.asker.now.state)) c.args.role.now c.loop-name.names c.loop-name.next c.loop-name.invariant.leads past

pub returns-clause-noted : goal.returns-clause-noted
returns-clause-noted c =
    let past : slice_get c.loop-name.names c.loop-name.next ≡ None = search rules in
    let marked : State = inheriting (takes c.args.step) (with_held c.args.held.now c.args.asker.now.state) in
    let reads = reads_end c.args.asker.now.reads c.loop-name.asker.reads c.loop-name.names (reached_of marked c.args.role.now) c.loop-name.next past
    (reached_is marked c.args.role.now c.loop-name.names c.loop-name.next c.loop-name.invariant.leads past) c.loop-name.invariant.reads in
    λ i. record { state = c.loop-name.invariant.state i; reads = reads i }
