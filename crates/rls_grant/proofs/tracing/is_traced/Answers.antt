use Rattle.std.proofs.Common.{rules, ◌≡◌, ◌<◌, ◌++◌, Some, None, true, [], ◌∷◌, length, ap, sym, subst, ◌∙◌}
use Rattle.std.proofs.lemmas.Bool.{true≢false}
use Rattle.std.proofs.lemmas.Option.{slice_get_within}
use Rattle.std.specs.Option.{option_copied}
use Rattle.std.specs.Prelude.{slice_get}
use Rattle.rls_value.specs.Names.{one_of}
use Rattle.rls_verdict.specs.rls_catalog.specs.Membership.{fresh}
use Rattle.rls_verdict.specs.rls_catalog.proofs.Walks.{among_first}
use Rattle.rls_grant.specs.Considered.{considered}
use Rattle.rls_grant.specs.Origins.{origins}
use Rattle.rls_grant.proofs.OriginLaws.{AreOrigins, Leads, apart_next, leads_alone, leads_next, on_next, origins_are, own_role, owner_met, owner_not_met}
use Rattle.rls_grant.proofs.tracing.is_traced.Goals as goal

pub loop-name-init : goal.loop-name-init
loop-name-init c =
    let these = considered (option_copied c.args.without) c.args.grants.now in
    let start : c.add_unseen.new.names.items ≡ c.args.role.now ∷ [] = c.in_ok-add_unseen.ensures.names ∙ ap (λ names. names ++ fresh names (c.args.role.now ∷ [])) c.new-names.ensures.items in
    record {
      leads = subst (Leads c.args.owner.now these c.args.privilege c.args.role.now) (sym start) (leads_alone c.args.owner.now these c.args.privilege c.args.role.now);
      on = λ name grantor is granted. absurd (true≢false (sym is));
      apart = search rules;
      itself = ap (λ names. one_of names c.args.role.now) start ∙ own_role c.args.role.now;
      seen = c.in_ok-add_unseen.ensures.seen;
    }

pub overflow_add-next : goal.overflow_add-next
overflow_add-next c =
    let found : slice_get c.loop-name.names.items c.loop-name.next ≡ Some c.in_ok-name.name = search rules in
    let within : c.loop-name.next < length c.loop-name.names.items = slice_get_within c.loop-name.names.items c.loop-name.next c.in_ok-name.name found in
    search rules

pub loop-name-preserved : goal.loop-name-preserved
loop-name-preserved c =
    let these = considered (option_copied c.args.without) c.args.grants.now in
    let name = c.in_ok-name.name in
    let names = c.loop-name.names.items in
    let grown = c.add_origins.new.names.items in
    let more = origins (option_copied c.args.without) c.args.privilege name c.args.grants.now in
    let found : slice_get names c.loop-name.next ≡ Some name = search rules in
    let all : AreOrigins these c.args.privilege name more = λ grantor. origins_are (option_copied c.args.without) c.args.privilege name grantor c.args.grants.now c.in_order-ordered.ensures.ordered in
    record {
      leads = leads_next c.args.owner.now these c.args.privilege c.args.role.now names grown more c.loop-name.next name found c.in_ok-add_origins.ensures.names all c.loop-name.invariant.leads;
      on = on_next these c.args.privilege names grown more c.loop-name.next name found c.in_ok-add_origins.ensures.names all c.loop-name.invariant.on;
      apart = apart_next c.args.owner.now names grown (fresh names more) c.loop-name.next name found c.in_ok-add_origins.ensures.names (search rules) c.loop-name.invariant.apart;
      itself = ap (λ ns. one_of ns c.args.role.now) c.in_ok-add_origins.ensures.names ∙ among_first names (fresh names more) c.args.role.now c.loop-name.invariant.itself;
      seen = c.in_ok-add_origins.ensures.seen;
    }

pub returns : goal.returns
returns c =
    let past : slice_get c.loop-name.names.items c.loop-name.next ≡ None = search rules in
    owner_not_met c.args.owner.now (considered (option_copied c.args.without) c.args.grants.now) c.args.privilege c.args.role.now c.loop-name.names.items c.loop-name.next past
    c.loop-name.invariant.itself c.loop-name.invariant.on c.loop-name.invariant.apart

pub returns-then-is : goal.returns-then-is
returns-then-is c =
    let found : slice_get c.loop-name.names.items c.loop-name.next ≡ Some c.in-Some.name.now = search rules in
    owner_met c.args.owner.now (considered (option_copied c.args.without) c.args.grants.now) c.args.privilege c.args.role.now c.loop-name.names.items c.loop-name.next c.in-Some.name.now found
    (sym c.is.ensures ∙ c.if-is.true) c.loop-name.invariant.leads
