use Rattle.std.specs.Prelude.{List, ℕ}
use Rattle.rls_value.specs.declared.verb.Kind.TheVariants.{Select}
use Rattle.rls_guard.specs.rls_evaluation.specs.Showing.{shows}
use Rattle.rls_meaning.specs.Deep.{shows_deep, state_quals}
use Rattle.rls_meaning.proofs.Agreeing.{value_same}
use Rattle.rls_meaning.proofs.ExpansionLaws.{IsMade, is_made, made_new, made_new_alike, made_old, made_old_alike, made_queries, made_shows, made_target, own_of}
use Rattle.rls_meaning.proofs.depth.policy_expansion_means.Goals as goal

pub returns-clause-old : goal.returns-clause-old
returns-clause-old c role_privileges s name table kind reads queries expansion is =
    made_old s role_privileges name table kind reads queries expansion (is_made s role_privileges name table kind reads queries expansion is) c.expression_taken.ensures

pub returns-clause-new : goal.returns-clause-new
returns-clause-new c role_privileges s name table kind reads queries expansion is =
    made_new s role_privileges name table kind reads queries expansion (is_made s role_privileges name table kind reads queries expansion is) c.expression_taken.ensures

pub returns-clause-tables : goal.returns-clause-tables
returns-clause-tables c role_privileges s name table kind reads queries expansion is =
    let made : IsMade s role_privileges name table kind reads queries expansion = is_made s role_privileges name table kind reads queries expansion is in
    let own : List (List ℕ) = own_of s role_privileges name table kind reads in
    made_queries s role_privileges name table kind reads queries expansion made (record {
      order = c.search_means.ensures.ordered made.dependencies name own queries made.reached made.ordered;
      own_in = c.search_means.ensures.own made.dependencies name own queries made.reached made.ordered;
      queries_in = c.search_means.ensures.queries made.dependencies name own queries made.reached made.ordered;
      asks = c.search_means.ensures.tables made.dependencies name own queries made.reached made.ordered;
    })

pub returns-clause-shows : goal.returns-clause-shows
returns-clause-shows c role_privileges s name table kind reads queries expansion n user is enough =
    let made : IsMade s role_privileges name table kind reads queries expansion = is_made s role_privileges name table kind reads queries expansion is in
    let own : List (List ℕ) = own_of s role_privileges name table kind reads in
    made_shows s role_privileges name table kind reads queries expansion made (record {
      order = c.search_means.ensures.ordered made.dependencies name own queries made.reached made.ordered;
      own_in = c.search_means.ensures.own made.dependencies name own queries made.reached made.ordered;
      queries_in = c.search_means.ensures.queries made.dependencies name own queries made.reached made.ordered;
      asks = c.search_means.ensures.tables made.dependencies name own queries made.reached made.ordered;
    }) n user enough

pub returns-clause-value : goal.returns-clause-value
returns-clause-value c role_privileges s name table kind reads queries expansion n user is enough t env within =
    value_same t (shows expansion.relations user) (shows_deep n (state_quals s role_privileges) user) expansion.tables env s
    (returns-clause-shows c role_privileges s name table kind reads queries expansion n user is enough) within

pub returns-clause-judged_old : goal.returns-clause-judged_old
returns-clause-judged_old c role_privileges s name table kind reads queries expansion n user is enough =
    let made : IsMade s role_privileges name table kind reads queries expansion = is_made s role_privileges name table kind reads queries expansion is in
    let own : List (List ℕ) = own_of s role_privileges name table kind reads in
    made_old_alike s role_privileges name table kind reads queries expansion made c.expression_taken.ensures (record {
      order = c.search_means.ensures.ordered made.dependencies name own queries made.reached made.ordered;
      own_in = c.search_means.ensures.own made.dependencies name own queries made.reached made.ordered;
      queries_in = c.search_means.ensures.queries made.dependencies name own queries made.reached made.ordered;
      asks = c.search_means.ensures.tables made.dependencies name own queries made.reached made.ordered;
    }) n user enough

pub returns-clause-judged_new : goal.returns-clause-judged_new
returns-clause-judged_new c role_privileges s name table kind reads queries expansion n user is enough =
    let made : IsMade s role_privileges name table kind reads queries expansion = is_made s role_privileges name table kind reads queries expansion is in
    let own : List (List ℕ) = own_of s role_privileges name table kind reads in
    made_new_alike s role_privileges name table kind reads queries expansion made c.expression_taken.ensures (record {
      order = c.search_means.ensures.ordered made.dependencies name own queries made.reached made.ordered;
      own_in = c.search_means.ensures.own made.dependencies name own queries made.reached made.ordered;
      queries_in = c.search_means.ensures.queries made.dependencies name own queries made.reached made.ordered;
      asks = c.search_means.ensures.tables made.dependencies name own queries made.reached made.ordered;
    }) n user enough

pub returns-clause-target : goal.returns-clause-target
returns-clause-target c role_privileges s name table reads queries expansion n user is there enough =
    let made : IsMade s role_privileges name table Select reads queries expansion = is_made s role_privileges name table Select reads queries expansion is in
    let own : List (List ℕ) = own_of s role_privileges name table Select reads in
    made_target s role_privileges name table reads queries expansion made c.expression_taken.ensures (record {
      order = c.search_means.ensures.ordered made.dependencies name own queries made.reached made.ordered;
      own_in = c.search_means.ensures.own made.dependencies name own queries made.reached made.ordered;
      queries_in = c.search_means.ensures.queries made.dependencies name own queries made.reached made.ordered;
      asks = c.search_means.ensures.tables made.dependencies name own queries made.reached made.ordered;
    }) n user there enough
