use Rattle.std.proofs.Common.{rules, arith, ap, sym, subst, ◌∙◌, ◌+◌, refl, ◌≡◌, ◌∷◌, ◌++◌, [], ◌||◌, true, ◌≤◌, drop, false, length, slice_index_or, Ok, List}
use Rattle.std.specs.Prelude.{Option, Some, None, IfOk}
use Rattle.std.proofs.Math.Bool.{or_assoc}
use Rattle.rls_value.specs.{declared.value.Value.Value, declared.truth.Truth.Truth, declared.value.Value.TheVariants.Null, declared.value.Value.TheVariants.Bool as Flag, declared.truth.Truth.TheVariants.True, declared.truth.Truth.TheVariants.False, Truths.conjunction_of, Truths.disjunction_of, Values.equal_values, Values.truth_in, Values.value_of_truth}
use Rattle.rls_source.specs.rls_catalog.specs.rls_expr.specs.{declared.expr.Sign.TheVariants.Plus, ExprTerms.query_of, Terms.maybe_term, Terms.terms_of}
use Rattle.rls_source.specs.rls_catalog.specs.rls_expr.specs.Terms as terms
use Rattle.rls_source.specs.rls_catalog.specs.rls_expr.proofs.TermSizes.{size_at}
use Rattle.rls_source.specs.{Readings.unread, Askings.Asking, Askings.known, Askings.followed_by}
use Rattle.rls_evaluation.specs.{Environments.inside, Environments.compared, Environments.over, Environments.number_or_null, Environments.joined, Gathering.gathered, Gathering.kept, Gathering.with_row, Showing.shows, Showing.judgements_on, Showing.is_allowed, Showing.is_exempt, Showing.with_judgement, Holding.Holds, Holding.Evaluates, Holding.shown_at, Holding.object_for, Items.any_equal, Items.items_seen, Items.with_item, ValueSets.IsSetOf, Eval.value_of, Eval.together, Eval.and_value, Eval.or_value, Eval.or_equal, Eval.turned, Eval.turned_value, Eval.among_items, Eval.item_equals, Eval.item_if, Eval.item_of, Eval.item_or, Eval.meets, Eval.or_item, Eval.ranged_over, Eval.first_item, Eval.has_row, Eval.sum_from, Scoping.env_of, Scoping.datum_value, Scoping.datum_now, Scoping.maybe_datum, Scoping.maybe_now, Scoping.number_value}
use Rattle.rls_evaluation.specs.declared.cached_subplan.Asks.TheVariants as a
use Rattle.rls_evaluation.specs.CachedSubplans.{IsKnown}
use Rattle.rls_evaluation.proofs.{Telling.leads_whole, Telling.tells_then, Telling.tells_as, Telling.tells_same, Telling.tells_unread, Telling.tells_item, Telling.tells_given, Telling.on_ok_then, Telling.drop_at, NarrowingLemmas.item_out, NarrowingLemmas.narrows_all, NarrowingLemmas.narrows_some, NarrowingLemmas.tells_narrowed, CachedSubplanLemmas.at_some, CachedSubplanLemmas.comes_of, CachedSubplanLemmas.known_told, CachedSubplanLemmas.set_told, CachedSubplanLemmas.tells_known_again, CachedSubplanLemmas.told_between, CachedSubplanLemmas.within_told, Absorbing.holds_shown, Exempting.given_as, Exempting.tells_exempt, RelationLemmas.shows_found, RelationLemmas.shows_none, RelationLemmas.size_found, RelationLemmas.condition_at, LoopLemmas.and_again, LoopLemmas.or_again, LoopLemmas.and_none, LoopLemmas.or_none, LoopLemmas.and_last, LoopLemmas.or_last, LoopLemmas.terms_turn, LoopLemmas.terms_end, LoopLemmas.rows_turn, LoopLemmas.item_again, LoopLemmas.item_added, LoopLemmas.row_added, LoopLemmas.judgement_added, LoopLemmas.sum_told, LoopLemmas.sum_on}
use Rattle.std.proofs.lemmas.Result.{IfOk-weaker}
use Rattle.rls_evaluation.proofs.evaluation.+eval.Goals as goal

pub conjunction-loop-part-init : goal.conjunction-loop-part-init
conjunction-loop-part-init g t c =
    record { stands = refl; leads = leads_whole (together and_value True (terms_of c.args.parts.now) (shows (drop c.args.visible.from c.args.visible.relations.now) c.args.env.now.user.now) (env_of c.args.env.now)) (conjunction_of True) _ _ and_none; holds = c.requires }

pub conjunction-condition_value-requires : goal.conjunction-condition_value-requires
conjunction-condition_value-requires g t c κs within = (omega (arith, size_at _ _ _ c.loop-part-test.true c.part-item.is), search rules)

pub conjunction-loop-part-preserved : goal.conjunction-loop-part-preserved
conjunction-loop-part-preserved g t c =
    record {
      stands = c.in_ok-datum.ensures.tells.stands ∙ c.loop-part.invariant.stands;
      leads = terms_turn conjunction_of and_again truth_in True (shows (drop c.args.visible.from c.args.visible.relations.now) c.args.env.now.user.now) (env_of c.args.env.now)
          c.args.parts.now c.loop-part.part-index c.part-item.result (datum_value c.in_ok-datum.datum) c.loop-part.so_far c.and-so_far.result _ _ _ _ _ _
          c.loop-part-test.true c.part-item.is (c.and-so_far.ensures ∙ ap (conjunction_of c.loop-part.so_far) c.truth.ensures) c.loop-part.invariant.stands c.loop-part.invariant.leads c.in_ok-datum.ensures.tells;
      holds = c.in_ok-datum.ensures.holds;
    }

pub conjunction-returns-clause-tells : goal.conjunction-returns-clause-tells
conjunction-returns-clause-tells g t c =
    tells_as (together and_value True (terms_of c.args.parts.now) (shows (drop c.args.visible.from c.args.visible.relations.now) c.args.env.now.user.now) (env_of c.args.env.now)) value_of_truth _ _ _ _ c.loop-part.so_far (datum_value c.datum_truth.result)
    (terms_end conjunction_of truth_in True (shows (drop c.args.visible.from c.args.visible.relations.now) c.args.env.now.user.now) (env_of c.args.env.now) c.args.parts.now c.loop-part.part-index c.loop-part.so_far _ _ _ _ c.loop-part-test.false (and_last c.loop-part.so_far) c.loop-part.invariant.stands c.loop-part.invariant.leads)
    (search rules)

pub disjunction-loop-part-init : goal.disjunction-loop-part-init
disjunction-loop-part-init g t c =
    record { stands = refl; leads = leads_whole (together or_value False (terms_of c.args.parts.now) (shows (drop c.args.visible.from c.args.visible.relations.now) c.args.env.now.user.now) (env_of c.args.env.now)) (disjunction_of False) _ _ or_none; holds = c.requires }

pub disjunction-condition_value-requires : goal.disjunction-condition_value-requires
disjunction-condition_value-requires g t c κs within = (omega (arith, size_at _ _ _ c.loop-part-test.true c.part-item.is), search rules)

pub disjunction-loop-part-preserved : goal.disjunction-loop-part-preserved
disjunction-loop-part-preserved g t c =
    record {
      stands = c.in_ok-datum.ensures.tells.stands ∙ c.loop-part.invariant.stands;
      leads = terms_turn disjunction_of or_again truth_in False (shows (drop c.args.visible.from c.args.visible.relations.now) c.args.env.now.user.now) (env_of c.args.env.now)
          c.args.parts.now c.loop-part.part-index c.part-item.result (datum_value c.in_ok-datum.datum) c.loop-part.so_far c.or-so_far.result _ _ _ _ _ _
          c.loop-part-test.true c.part-item.is (c.or-so_far.ensures ∙ ap (disjunction_of c.loop-part.so_far) c.truth.ensures) c.loop-part.invariant.stands c.loop-part.invariant.leads c.in_ok-datum.ensures.tells;
      holds = c.in_ok-datum.ensures.holds;
    }

pub disjunction-returns-clause-tells : goal.disjunction-returns-clause-tells
disjunction-returns-clause-tells g t c =
    tells_as (together or_value False (terms_of c.args.parts.now) (shows (drop c.args.visible.from c.args.visible.relations.now) c.args.env.now.user.now) (env_of c.args.env.now)) value_of_truth _ _ _ _ c.loop-part.so_far (datum_value c.datum_truth.result)
    (terms_end disjunction_of truth_in False (shows (drop c.args.visible.from c.args.visible.relations.now) c.args.env.now.user.now) (env_of c.args.env.now) c.args.parts.now c.loop-part.part-index c.loop-part.so_far _ _ _ _ c.loop-part-test.false (or_last c.loop-part.so_far) c.loop-part.invariant.stands c.loop-part.invariant.leads)
    (search rules)

pub is_one_of-loop-part-init : goal.is_one_of-loop-part-init
is_one_of-loop-part-init g t c =
    record { stands = refl; leads = leads_whole (together (or_equal (datum_value c.args.value.now)) False (terms_of c.args.list.now) (shows (drop c.args.visible.from c.args.visible.relations.now) c.args.env.now.user.now) (env_of c.args.env.now)) (disjunction_of False) _ _ or_none; holds = c.requires }

pub is_one_of-eval-requires : goal.is_one_of-eval-requires
is_one_of-eval-requires g t c κs within = (omega (arith, size_at _ _ _ c.loop-part-test.true c.part-item.is), search rules)

pub is_one_of-loop-part-preserved : goal.is_one_of-loop-part-preserved
is_one_of-loop-part-preserved g t c =
    record {
      stands = c.in_ok-datum.ensures.tells.stands ∙ c.loop-part.invariant.stands;
      leads = terms_turn disjunction_of or_again (equal_values (datum_value c.args.value.now)) False (shows (drop c.args.visible.from c.args.visible.relations.now) c.args.env.now.user.now) (env_of c.args.env.now)
          c.args.list.now c.loop-part.part-index c.part-item.result (datum_value c.in_ok-datum.datum) c.loop-part.so_far c.or-so_far.result _ _ _ _ _ _
          c.loop-part-test.true c.part-item.is (c.or-so_far.ensures ∙ ap (disjunction_of c.loop-part.so_far) c.equals.ensures) c.loop-part.invariant.stands c.loop-part.invariant.leads c.in_ok-datum.ensures.tells;
      holds = c.in_ok-datum.ensures.holds;
    }

pub among-returns-clause-tells : goal.among-returns-clause-tells
among-returns-clause-tells g t c =
    tells_then (value_of c.args.operand.now (shows (drop c.args.visible.from c.args.visible.relations.now) c.args.env.now.user.now) (env_of c.args.env.now)) (λ x. turned_value c.args.is_negated (together (or_equal x) False (terms_of c.args.list.now) (shows (drop c.args.visible.from c.args.visible.relations.now) c.args.env.now.user.now) (env_of c.args.env.now)))
    _ _ _ _ _ _ (datum_value c.in_ok-datum.datum) (datum_value c.datum_truth.result) c.in_ok-datum.ensures.tells
    (tells_as (together (or_equal (datum_value c.in_ok-datum.datum)) False (terms_of c.args.list.now) (shows (drop c.args.visible.from c.args.visible.relations.now) c.args.env.now.user.now) (env_of c.args.env.now)) (λ truth. value_of_truth (turned c.args.is_negated truth)) _ _ _ _ c.in_ok-truth.truth (datum_value c.datum_truth.result) c.in_ok-truth.ensures.tells (search rules))

pub within-returns-clause-tells : goal.within-returns-clause-tells
within-returns-clause-tells g t c =
    tells_then (value_of c.args.operand.now (shows (drop c.args.visible.from c.args.visible.relations.now) c.args.env.now.user.now) (env_of c.args.env.now)) (λ x. turned_value c.args.is_negated (among_items x (query_of c.args.query.now) (shows (drop c.args.visible.from c.args.visible.relations.now) c.args.env.now.user.now) (env_of c.args.env.now)))
    _ _ _ _ _ _ (datum_value c.in_ok-datum.datum) (datum_value c.datum_truth.result) c.in_ok-datum.ensures.tells
    (tells_as (among_items (datum_value c.in_ok-datum.datum) (query_of c.args.query.now) (shows (drop c.args.visible.from c.args.visible.relations.now) c.args.env.now.user.now) (env_of c.args.env.now)) (λ truth. value_of_truth (turned c.args.is_negated truth)) _ _ _ _ c.in_ok-truth.truth (datum_value c.datum_truth.result) c.in_ok-truth.ensures.tells (search rules))

pub comparison-returns-clause-tells : goal.comparison-returns-clause-tells
comparison-returns-clause-tells g t c =
    tells_then (value_of c.args.left.now (shows (drop c.args.visible.from c.args.visible.relations.now) c.args.env.now.user.now) (env_of c.args.env.now)) (λ x. followed_by (value_of c.args.right.now (shows (drop c.args.visible.from c.args.visible.relations.now) c.args.env.now.user.now) (env_of c.args.env.now)) (λ y. known (Ok (value_of_truth (compared c.args.how x y)))))
    _ _ _ _ _ _ (datum_value c.in_ok-left.left) (datum_value c.datum_truth.result) c.in_ok-left.ensures.tells
    (tells_as (value_of c.args.right.now (shows (drop c.args.visible.from c.args.visible.relations.now) c.args.env.now.user.now) (env_of c.args.env.now)) (λ y. value_of_truth (compared c.args.how (datum_value c.in_ok-left.left) y)) _ _ _ _ (datum_value c.in_ok-right.right) (datum_value c.datum_truth.result) c.in_ok-right.ensures.tells (search rules))

pub eval-returns-in-Compare-clause-tells : goal.eval-returns-in-Compare-clause-tells
eval-returns-in-Compare-clause-tells g t c =
    let same : terms.Compare c.in-Compare.how c.deref.result.now c.deref-in-Compare.result.now ≡ c.args.expr.now = search rules in
    subst (λ k. Evaluates (value_of k (shows (drop c.args.visible.from c.args.visible.relations.now) c.args.env.now.user.now) (env_of c.args.env.now)) (g.S.Tables.state c.args.source.now) (g.S.Tables.state c.comparison.new.source) c.args.execution.now.read_set c.comparison.new.execution.read_set (datum_now c.comparison.result)) same c.comparison.ensures.tells

pub eval-returns-in-InList-clause-tells : goal.eval-returns-in-InList-clause-tells
eval-returns-in-InList-clause-tells g t c =
    let same : terms.InList c.deref-in-InList.result.now (terms_of c.deref-in-InList-2.result.now) ≡ c.args.expr.now = search rules in
    subst (λ k. Evaluates (value_of k (shows (drop c.args.visible.from c.args.visible.relations.now) c.args.env.now.user.now) (env_of c.args.env.now)) (g.S.Tables.state c.args.source.now) (g.S.Tables.state c.among.new.source) c.args.execution.now.read_set c.among.new.execution.read_set (datum_now c.among.result)) same c.among.ensures.tells

pub eval-returns-in-NotInList-clause-tells : goal.eval-returns-in-NotInList-clause-tells
eval-returns-in-NotInList-clause-tells g t c =
    let same : terms.NotInList c.deref-in-NotInList.result.now (terms_of c.deref-in-NotInList-2.result.now) ≡ c.args.expr.now = search rules in
    subst (λ k. Evaluates (value_of k (shows (drop c.args.visible.from c.args.visible.relations.now) c.args.env.now.user.now) (env_of c.args.env.now)) (g.S.Tables.state c.args.source.now) (g.S.Tables.state c.among-in-NotInList.new.source) c.args.execution.now.read_set c.among-in-NotInList.new.execution.read_set (datum_now c.among-in-NotInList.result)) same c.among-in-NotInList.ensures.tells

pub eval-returns-in-Exists-clause-tells : goal.eval-returns-in-Exists-clause-tells
eval-returns-in-Exists-clause-tells g t c =
    let same : terms.Exists (query_of c.deref-in-Exists.result.now) ≡ c.args.expr.now = search rules in
    subst (λ k. Evaluates (value_of k (shows (drop c.args.visible.from c.args.visible.relations.now) c.args.env.now.user.now) (env_of c.args.env.now)) (g.S.Tables.state c.args.source.now) (g.S.Tables.state c.exists.new.source) c.args.execution.now.read_set c.exists.new.execution.read_set (datum_now c.exists.result)) same c.exists.ensures.tells

pub eval-returns-in-InSubquery-clause-tells : goal.eval-returns-in-InSubquery-clause-tells
eval-returns-in-InSubquery-clause-tells g t c =
    let same : terms.InSubquery c.deref-in-InSubquery.result.now (query_of c.deref-in-InSubquery-2.result.now) ≡ c.args.expr.now = search rules in
    subst (λ k. Evaluates (value_of k (shows (drop c.args.visible.from c.args.visible.relations.now) c.args.env.now.user.now) (env_of c.args.env.now)) (g.S.Tables.state c.args.source.now) (g.S.Tables.state c.within.new.source) c.args.execution.now.read_set c.within.new.execution.read_set (datum_now c.within.result)) same c.within.ensures.tells

pub eval-returns-in-NotInSubquery-clause-tells : goal.eval-returns-in-NotInSubquery-clause-tells
eval-returns-in-NotInSubquery-clause-tells g t c =
    let same : terms.NotInSubquery c.deref-in-NotInSubquery.result.now (query_of c.deref-in-NotInSubquery-2.result.now) ≡ c.args.expr.now = search rules in
    subst (λ k. Evaluates (value_of k (shows (drop c.args.visible.from c.args.visible.relations.now) c.args.env.now.user.now) (env_of c.args.env.now)) (g.S.Tables.state c.args.source.now) (g.S.Tables.state c.within-in-NotInSubquery.new.source) c.args.execution.now.read_set c.within-in-NotInSubquery.new.execution.read_set (datum_now c.within-in-NotInSubquery.result)) same c.within-in-NotInSubquery.ensures.tells

pub eval-returns-in-Scalar-clause-tells : goal.eval-returns-in-Scalar-clause-tells
eval-returns-in-Scalar-clause-tells g t c =
    let same : terms.Scalar (query_of c.deref-in-Scalar.result.now) ≡ c.args.expr.now = search rules in
    subst (λ k. Evaluates (value_of k (shows (drop c.args.visible.from c.args.visible.relations.now) c.args.env.now.user.now) (env_of c.args.env.now)) (g.S.Tables.state c.args.source.now) (g.S.Tables.state c.scalar.new.source) c.args.execution.now.read_set c.scalar.new.execution.read_set (datum_now c.scalar.result)) same c.scalar.ensures.tells

pub exists-has_row-requires : goal.exists-has_row-requires
exists-has_row-requires g t c κs within = (omega arith, (search rules, c.in_ok-place.ensures.holds c.args.visible.relations.now c.args.env.now.user.now (g.S.Tables.state c.args.source.now) c.requires))

pub is_within-is_within_anew-requires : goal.is_within-is_within_anew-requires
is_within-is_within_anew-requires g t c κs within = (omega arith, (search rules, c.in_ok-place.ensures.holds c.args.visible.relations.now c.args.env.now.user.now (g.S.Tables.state c.args.source.now) c.requires))

pub is_within-item_set-requires : goal.is_within-item_set-requires
is_within-item_set-requires g t c κs within = (omega arith, (search rules, c.in_ok-place.ensures.holds c.args.visible.relations.now c.args.env.now.user.now (g.S.Tables.state c.args.source.now) c.requires))

pub scalar-scalar_anew-requires : goal.scalar-scalar_anew-requires
scalar-scalar_anew-requires g t c κs within = (omega arith, (search rules, c.in_ok-place.ensures.holds c.args.visible.relations.now c.args.env.now.user.now (g.S.Tables.state c.args.source.now) c.requires))

pub exists-returns-in-Some-clause-tells : goal.exists-returns-in-Some-clause-tells
exists-returns-in-Some-clause-tells g t c =
    tells_as (has_row (query_of c.args.query.now) (shows (drop c.args.visible.from c.args.visible.relations.now) c.args.env.now.user.now) (env_of c.args.env.now)) Flag _ _ _ _ c.in-Some.met (Flag c.in-Some.met)
    (tells_known_again (has_row (query_of c.args.query.now) (shows (drop c.args.visible.from c.args.visible.relations.now) c.args.env.now.user.now) (env_of c.args.env.now)) (g.S.Tables.state c.args.source.now) c.args.execution.now.read_set c.place_of.new.self.read_set c.in-Some.met c.place_of.ensures.read_set (at_some c.in_ok-known.known c.in-Some.met (λ known. IsKnown (has_row (query_of c.args.query.now) (shows (drop c.args.visible.from c.args.visible.relations.now) c.args.env.now.user.now) (env_of c.args.env.now)) (g.S.Tables.state c.args.source.now) c.place_of.new.self.read_set known) c.in-Some.is (c.in_ok-known.ensures c.args.visible.relations.now (g.S.Tables.state c.args.source.now) c.args.visible.from a.Exists (query_of c.args.query.now) (c.in_ok-place.ensures.holds c.args.visible.relations.now c.args.env.now.user.now (g.S.Tables.state c.args.source.now) c.requires) c.in_ok-place.ensures.found))) refl

pub exists-returns-clause-tells : goal.exists-returns-clause-tells
exists-returns-clause-tells g t c =
    tells_as (has_row (query_of c.args.query.now) (shows (drop c.args.visible.from c.args.visible.relations.now) c.args.env.now.user.now) (env_of c.args.env.now)) Flag _ _ _ _ c.in_ok-met.met (Flag c.in_ok-met.met)
    (told_between (has_row (query_of c.args.query.now) (shows (drop c.args.visible.from c.args.visible.relations.now) c.args.env.now.user.now) (env_of c.args.env.now)) (g.S.Tables.state c.args.source.now) (g.S.Tables.state c.has_row.new.source) c.args.execution.now.read_set c.place_of.new.self.read_set c.has_row.new.execution.read_set c.keep.new.self.read_set (Ok c.in_ok-met.met) c.place_of.ensures.read_set c.keep.ensures.read_set c.in_ok-met.ensures.tells) refl

pub exists-returns-clause-holds : goal.exists-returns-clause-holds
exists-returns-clause-holds g t c =
    c.in_ok-keep.ensures.holds c.args.visible.relations.now (g.S.Tables.state c.has_row.new.source)
    (known_told (has_row (query_of c.args.query.now) (shows (drop c.args.visible.from c.args.visible.relations.now) c.args.env.now.user.now) (env_of c.args.env.now)) (g.S.Tables.state c.args.source.now) (g.S.Tables.state c.has_row.new.source) c.place_of.new.self.read_set c.has_row.new.execution.read_set c.in_ok-met.met c.in_ok-met.ensures.tells c.in_ok-met.ensures.holds.ordered) c.in_ok-met.ensures.holds

pub is_within-returns-then-is_none-clause-tells : goal.is_within-returns-then-is_none-clause-tells
is_within-returns-then-is_none-clause-tells g t c =
    told_between (among_items (datum_value c.args.value.now) (query_of c.args.query.now) (shows (drop c.args.visible.from c.args.visible.relations.now) c.args.env.now.user.now) (env_of c.args.env.now)) (g.S.Tables.state c.args.source.now) (g.S.Tables.state c.is_within_anew.new.source) c.args.execution.now.read_set c.place_of.new.self.read_set c.is_within_anew.new.execution.read_set c.is_within_anew.new.execution.read_set c.is_within_anew.result c.place_of.ensures.read_set refl c.is_within_anew.ensures.tells

pub is_within-returns-in-Some-clause-tells : goal.is_within-returns-in-Some-clause-tells
is_within-returns-in-Some-clause-tells g t c =
    (tells_known_again (among_items (datum_value c.args.value.now) (query_of c.args.query.now) (shows (drop c.args.visible.from c.args.visible.relations.now) c.args.env.now.user.now) (env_of c.args.env.now)) (g.S.Tables.state c.args.source.now) c.args.execution.now.read_set c.place_of.new.self.read_set c.in-Some.truth c.place_of.ensures.read_set (at_some c.in_ok-known.known c.in-Some.truth (λ known. IsKnown (among_items (datum_value c.args.value.now) (query_of c.args.query.now) (shows (drop c.args.visible.from c.args.visible.relations.now) c.args.env.now.user.now) (env_of c.args.env.now)) (g.S.Tables.state c.args.source.now) c.place_of.new.self.read_set known) c.in-Some.is (c.in_ok-known.ensures c.args.visible.relations.now (g.S.Tables.state c.args.source.now) c.args.visible.from a.Items (query_of c.args.query.now) (c.in_ok-place.ensures.holds c.args.visible.relations.now c.args.env.now.user.now (g.S.Tables.state c.args.source.now) c.requires) c.in_ok-place.ensures.found)))

pub is_within-returns-clause-tells : goal.is_within-returns-clause-tells
is_within-returns-clause-tells g t c =
    told_between (among_items (datum_value c.args.value.now) (query_of c.args.query.now) (shows (drop c.args.visible.from c.args.visible.relations.now) c.args.env.now.user.now) (env_of c.args.env.now)) (g.S.Tables.state c.args.source.now) (g.S.Tables.state c.item_set.new.source) c.args.execution.now.read_set c.place_of.new.self.read_set c.item_set.new.execution.read_set c.keep.new.self.read_set (Ok c.in_ok-truth.truth) c.place_of.ensures.read_set c.keep.ensures.read_set
    (within_told (datum_value c.args.value.now) (query_of c.args.query.now) (shows (drop c.args.visible.from c.args.visible.relations.now) c.args.env.now.user.now) (env_of c.args.env.now) (g.S.Tables.state c.args.source.now) (g.S.Tables.state c.item_set.new.source) c.place_of.new.self.read_set c.item_set.new.execution.read_set c.in_ok-values.values c.in_ok-truth.truth c.in_ok-values.ensures.stands c.in_ok-values.ensures.comes
    (subst (λ result. (items : List Value) → IsSetOf c.in_ok-values.values items → IfOk result (λ truth. truth ≡ any_equal (datum_value c.args.value.now) items)) c.in_ok-truth.was c.equals_any.ensures))

pub is_within-returns-clause-holds : goal.is_within-returns-clause-holds
is_within-returns-clause-holds g t c =
    c.in_ok-keep.ensures.holds c.args.visible.relations.now (g.S.Tables.state c.item_set.new.source)
    (set_told (items_seen (query_of c.args.query.now) (shows (drop c.args.visible.from c.args.visible.relations.now) c.args.env.now.user.now) (env_of c.args.env.now)) (g.S.Tables.state c.args.source.now) (g.S.Tables.state c.item_set.new.source) c.place_of.new.self.read_set c.item_set.new.execution.read_set c.in_ok-values.values c.in_ok-values.ensures.stands c.in_ok-values.ensures.comes c.in_ok-values.ensures.holds.ordered) c.in_ok-values.ensures.holds

pub scalar-returns-in-Some-clause-tells : goal.scalar-returns-in-Some-clause-tells
scalar-returns-in-Some-clause-tells g t c =
    (tells_known_again (first_item (query_of c.args.query.now) (shows (drop c.args.visible.from c.args.visible.relations.now) c.args.env.now.user.now) (env_of c.args.env.now)) (g.S.Tables.state c.args.source.now) c.args.execution.now.read_set c.place_of.new.self.read_set (datum_value c.in-Some.item) c.place_of.ensures.read_set (at_some c.in_ok-known.known c.in-Some.item (λ known. IsKnown (first_item (query_of c.args.query.now) (shows (drop c.args.visible.from c.args.visible.relations.now) c.args.env.now.user.now) (env_of c.args.env.now)) (g.S.Tables.state c.args.source.now) c.place_of.new.self.read_set (datum_value known)) c.in-Some.is (c.in_ok-known.ensures c.args.visible.relations.now (g.S.Tables.state c.args.source.now) c.args.visible.from a.First (query_of c.args.query.now) (c.in_ok-place.ensures.holds c.args.visible.relations.now c.args.env.now.user.now (g.S.Tables.state c.args.source.now) c.requires) c.in_ok-place.ensures.found)))

pub scalar-returns-then-is_none-clause-tells : goal.scalar-returns-then-is_none-clause-tells
scalar-returns-then-is_none-clause-tells g t c =
    told_between (first_item (query_of c.args.query.now) (shows (drop c.args.visible.from c.args.visible.relations.now) c.args.env.now.user.now) (env_of c.args.env.now)) (g.S.Tables.state c.args.source.now) (g.S.Tables.state c.scalar_anew.new.source) c.args.execution.now.read_set c.place_of.new.self.read_set c.scalar_anew.new.execution.read_set c.scalar_anew.new.execution.read_set (Ok (datum_value c.in_ok-item.item)) c.place_of.ensures.read_set refl c.in_ok-item.ensures.tells

pub scalar-returns-clause-tells : goal.scalar-returns-clause-tells
scalar-returns-clause-tells g t c =
    told_between (first_item (query_of c.args.query.now) (shows (drop c.args.visible.from c.args.visible.relations.now) c.args.env.now.user.now) (env_of c.args.env.now)) (g.S.Tables.state c.args.source.now) (g.S.Tables.state c.scalar_anew.new.source) c.args.execution.now.read_set c.place_of.new.self.read_set c.scalar_anew.new.execution.read_set c.keep.new.self.read_set (Ok (datum_value c.in_ok-item.item)) c.place_of.ensures.read_set c.keep.ensures.read_set c.in_ok-item.ensures.tells

pub scalar-returns-clause-holds : goal.scalar-returns-clause-holds
scalar-returns-clause-holds g t c =
    c.in_ok-keep.ensures.holds c.args.visible.relations.now (g.S.Tables.state c.scalar_anew.new.source)
    (subst (IsKnown (first_item (query_of c.args.query.now) (shows (drop c.args.visible.from c.args.visible.relations.now) c.args.env.now.user.now) (env_of c.args.env.now)) (g.S.Tables.state c.scalar_anew.new.source) c.scalar_anew.new.execution.read_set) (sym c.in_ok-value.ensures) (known_told (first_item (query_of c.args.query.now) (shows (drop c.args.visible.from c.args.visible.relations.now) c.args.env.now.user.now) (env_of c.args.env.now)) (g.S.Tables.state c.args.source.now) (g.S.Tables.state c.scalar_anew.new.source) c.place_of.new.self.read_set c.scalar_anew.new.execution.read_set (datum_value c.in_ok-item.item) c.in_ok-item.ensures.tells c.in_ok-item.ensures.holds.ordered)) c.in_ok-item.ensures.holds

pub exists-returns-in-Some-clause-holds : goal.exists-returns-in-Some-clause-holds
exists-returns-in-Some-clause-holds g t c = c.in_ok-place.ensures.holds c.args.visible.relations.now c.args.env.now.user.now (g.S.Tables.state c.args.source.now) c.requires

pub is_within-returns-in-Some-clause-holds : goal.is_within-returns-in-Some-clause-holds
is_within-returns-in-Some-clause-holds g t c = c.in_ok-place.ensures.holds c.args.visible.relations.now c.args.env.now.user.now (g.S.Tables.state c.args.source.now) c.requires

pub scalar-returns-in-Some-clause-holds : goal.scalar-returns-in-Some-clause-holds
scalar-returns-in-Some-clause-holds g t c = c.in_ok-place.ensures.holds c.args.visible.relations.now c.args.env.now.user.now (g.S.Tables.state c.args.source.now) c.requires

pub has_row-returns-clause-tells : goal.has_row-returns-clause-tells
has_row-returns-clause-tells g t c =
    tells_narrowed (ranged_over (query_of c.args.query.now) (shows (drop c.args.visible.from c.args.visible.relations.now) c.args.env.now.user.now) (env_of c.args.env.now)) (maybe_term c.args.query.now.condition) (env_of c.args.env.now) (λ row is rest. is || rest) false (λ row. meets (maybe_term c.args.query.now.condition) (shows (drop c.args.visible.from c.args.visible.relations.now) c.args.env.now.user.now) (inside row (env_of c.args.env.now))) false _ _ _ _ _ _ c.in_ok-rows.rows c.as_slice.result.now c.is_met-met.result c.as_slice.ensures c.in_ok-rows.ensures.stands c.in_ok-rows.ensures.narrows
    (λ row s un. un (shows (drop c.args.visible.from c.args.visible.relations.now) c.args.env.now.user.now) s) (λ row rest. refl) c.is_met-met.ensures.tells

pub is_within_anew-returns-clause-tells : goal.is_within_anew-returns-clause-tells
is_within_anew-returns-clause-tells g t c =
    tells_narrowed (ranged_over (query_of c.args.query.now) (shows (drop c.args.visible.from c.args.visible.relations.now) c.args.env.now.user.now) (env_of c.args.env.now)) (maybe_term c.args.query.now.condition) (env_of c.args.env.now) (λ row item rest. or_item (datum_value c.args.value.now) item rest) False (λ row. item_if (meets (maybe_term c.args.query.now.condition) (shows (drop c.args.visible.from c.args.visible.relations.now) c.args.env.now.user.now) (inside row (env_of c.args.env.now))) (item_of (terms_of c.args.query.now.items.items) (shows (drop c.args.visible.from c.args.visible.relations.now) c.args.env.now.user.now) (inside row (env_of c.args.env.now)))) None _ _ _ _ _ _ c.in_ok-rows.rows c.as_slice.result.now c.is_item-truth.result c.as_slice.ensures c.in_ok-rows.ensures.stands c.in_ok-rows.ensures.narrows
    (λ row s un. item_out (meets (maybe_term c.args.query.now.condition) (shows (drop c.args.visible.from c.args.visible.relations.now) c.args.env.now.user.now) (inside row (env_of c.args.env.now))) (item_of (terms_of c.args.query.now.items.items) (shows (drop c.args.visible.from c.args.visible.relations.now) c.args.env.now.user.now) (inside row (env_of c.args.env.now))) s (un (shows (drop c.args.visible.from c.args.visible.relations.now) c.args.env.now.user.now) s)) (λ row rest. or_none rest) c.is_item-truth.ensures.tells

pub scalar_anew-returns-clause-tells : goal.scalar_anew-returns-clause-tells
scalar_anew-returns-clause-tells g t c =
    tells_narrowed (ranged_over (query_of c.args.query.now) (shows (drop c.args.visible.from c.args.visible.relations.now) c.args.env.now.user.now) (env_of c.args.env.now)) (maybe_term c.args.query.now.condition) (env_of c.args.env.now) (λ row item rest. item_or item rest) Null (λ row. item_if (meets (maybe_term c.args.query.now.condition) (shows (drop c.args.visible.from c.args.visible.relations.now) c.args.env.now.user.now) (inside row (env_of c.args.env.now))) (item_of (terms_of c.args.query.now.items.items) (shows (drop c.args.visible.from c.args.visible.relations.now) c.args.env.now.user.now) (inside row (env_of c.args.env.now)))) None _ _ _ _ _ _ c.in_ok-rows.rows c.as_slice.result.now (datum_now c.first_item-item.result) c.as_slice.ensures c.in_ok-rows.ensures.stands c.in_ok-rows.ensures.narrows
    (λ row s un. item_out (meets (maybe_term c.args.query.now.condition) (shows (drop c.args.visible.from c.args.visible.relations.now) c.args.env.now.user.now) (inside row (env_of c.args.env.now))) (item_of (terms_of c.args.query.now.items.items) (shows (drop c.args.visible.from c.args.visible.relations.now) c.args.env.now.user.now) (inside row (env_of c.args.env.now))) s (un (shows (drop c.args.visible.from c.args.visible.relations.now) c.args.env.now.user.now) s)) (λ row rest. refl) c.first_item-item.ensures.tells

pub first_item-loop-row-preserved : goal.first_item-loop-row-preserved
first_item-loop-row-preserved g t c =
    record {
      stands = c.in_ok-item.ensures.tells.stands ∙ c.loop-row.invariant.stands;
      leads = rows_turn (gathered (λ row item rest. item_or item rest) Null (λ row. item_if (meets (maybe_term c.args.query.now.condition) (shows (drop c.args.visible.from c.args.visible.relations.now) c.args.env.now.user.now) (inside row (env_of c.args.env.now))) (item_of (terms_of c.args.query.now.items.items) (shows (drop c.args.visible.from c.args.visible.relations.now) c.args.env.now.user.now) (inside row (env_of c.args.env.now)))) c.args.rows.now) (item_or (maybe_datum c.loop-row.first)) (item_or (maybe_datum c.in_ok-first.first)) (λ row item rest. item_or item rest) Null (λ row. item_if (meets (maybe_term c.args.query.now.condition) (shows (drop c.args.visible.from c.args.visible.relations.now) c.args.env.now.user.now) (inside row (env_of c.args.env.now))) (item_of (terms_of c.args.query.now.items.items) (shows (drop c.args.visible.from c.args.visible.relations.now) c.args.env.now.user.now) (inside row (env_of c.args.env.now))))
          c.args.rows.now c.loop-row.row-index c.row-item.result (maybe_datum c.in_ok-item.item) _ _ _ _ _ _ c.loop-row-test.true c.row-item.is
          (λ rest. item_again (maybe_datum c.loop-row.first) (maybe_datum c.in_ok-item.item) (maybe_datum c.in_ok-first.first) rest c.in_ok-first.ensures)
          c.loop-row.invariant.stands c.loop-row.invariant.leads c.in_ok-item.ensures.tells;
      holds = c.in_ok-item.ensures.holds;
    }

pub is_item-loop-row-preserved : goal.is_item-loop-row-preserved
is_item-loop-row-preserved g t c =
    record {
      stands = c.in_ok-item.ensures.tells.stands ∙ c.loop-row.invariant.stands;
      leads = rows_turn (gathered (λ row item rest. or_item (datum_value c.args.value.now) item rest) False (λ row. item_if (meets (maybe_term c.args.query.now.condition) (shows (drop c.args.visible.from c.args.visible.relations.now) c.args.env.now.user.now) (inside row (env_of c.args.env.now))) (item_of (terms_of c.args.query.now.items.items) (shows (drop c.args.visible.from c.args.visible.relations.now) c.args.env.now.user.now) (inside row (env_of c.args.env.now)))) c.args.rows.now) (disjunction_of c.loop-row.so_far) (disjunction_of c.or_equal-so_far.result) (λ row item rest. or_item (datum_value c.args.value.now) item rest) False (λ row. item_if (meets (maybe_term c.args.query.now.condition) (shows (drop c.args.visible.from c.args.visible.relations.now) c.args.env.now.user.now) (inside row (env_of c.args.env.now))) (item_of (terms_of c.args.query.now.items.items) (shows (drop c.args.visible.from c.args.visible.relations.now) c.args.env.now.user.now) (inside row (env_of c.args.env.now))))
          c.args.rows.now c.loop-row.row-index c.row-item.result (maybe_datum c.in_ok-item.item) _ _ _ _ _ _ c.loop-row-test.true c.row-item.is
          (λ rest. ap (λ t. disjunction_of t rest) c.or_equal-so_far.ensures ∙ or_again c.loop-row.so_far (item_equals (datum_value c.args.value.now) (maybe_datum c.in_ok-item.item)) rest)
          c.loop-row.invariant.stands c.loop-row.invariant.leads c.in_ok-item.ensures.tells;
      holds = c.in_ok-item.ensures.holds;
    }

pub is_met-loop-row-preserved : goal.is_met-loop-row-preserved
is_met-loop-row-preserved g t c =
    record {
      stands = c.in_ok-is.ensures.tells.stands ∙ c.loop-row.invariant.stands;
      leads = rows_turn (gathered (λ row is rest. is || rest) false (λ row. meets (maybe_term c.args.condition.now) (shows (drop c.args.visible.from c.args.visible.relations.now) c.args.env.now.user.now) (inside row (env_of c.args.env.now))) c.args.rows.now) (λ rest. c.loop-row.so_far || rest) (λ rest. c.either-so_far.result || rest) (λ row is rest. is || rest) false (λ row. meets (maybe_term c.args.condition.now) (shows (drop c.args.visible.from c.args.visible.relations.now) c.args.env.now.user.now) (inside row (env_of c.args.env.now)))
          c.args.rows.now c.loop-row.row-index c.row-item.result c.in_ok-is.is' _ _ _ _ _ _ c.loop-row-test.true c.row-item.is
          (λ rest. ap (λ b. b || rest) c.either-so_far.ensures ∙ or_assoc c.loop-row.so_far c.in_ok-is.is' rest)
          c.loop-row.invariant.stands c.loop-row.invariant.leads c.in_ok-is.ensures.tells;
      holds = c.in_ok-is.ensures.holds;
    }

pub item_if-returns-clause-tells : goal.item_if-returns-clause-tells
item_if-returns-clause-tells g t c =
    tells_item (meets (maybe_term c.args.query.now.condition) (shows (drop c.args.visible.from c.args.visible.relations.now) c.args.env.now.user.now) (env_of c.args.env.now)) (item_of (terms_of c.args.query.now.items.items) (shows (drop c.args.visible.from c.args.visible.relations.now) c.args.env.now.user.now) (env_of c.args.env.now)) _ _ _ _ _ _ c.in_ok-is.is' (datum_value c.in_ok-datum.datum) (search rules) c.in_ok-is.ensures.tells
    (subst (λ items. Evaluates (item_of (terms_of items) (shows (drop c.args.visible.from c.args.visible.relations.now) c.args.env.now.user.now) (env_of c.args.env.now)) (g.S.Tables.state c.meets_condition.new.source) (g.S.Tables.state c.item.new.source) c.meets_condition.new.execution.read_set c.item.new.execution.read_set (Ok (datum_value c.in_ok-datum.datum))) c.deref.ensures.value c.in_ok-datum.ensures.tells)

pub kept_rows-loop-row-preserved : goal.kept_rows-loop-row-preserved
kept_rows-loop-row-preserved g t c =
    record {
      stands = c.in_ok-is.ensures.tells.stands ∙ c.loop-row.invariant.stands;
      leads = rows_turn (kept (is_allowed c.args.quals.now (shows (drop c.args.visible.from c.args.visible.relations.now) c.args.user.now) c.args.user.now) c.args.rows.now) (λ rest. c.loop-row.kept ++ rest) (λ rest. c.push_if.new.rows ++ rest) with_row [] (is_allowed c.args.quals.now (shows (drop c.args.visible.from c.args.visible.relations.now) c.args.user.now) c.args.user.now)
          c.args.rows.now c.loop-row.row-index c.row-item.result c.in_ok-is.is' _ _ _ _ _ _ c.loop-row-test.true c.row-item.is
          (λ rest. row_added c.push_if.new.rows c.loop-row.kept rest c.in_ok-is.is' c.row-item.result c.in_ok-push_if.ensures)
          c.loop-row.invariant.stands c.loop-row.invariant.leads c.in_ok-is.ensures.tells;
      holds = c.in_ok-is.ensures.holds;
    }

pub put_judgements-condition_value-requires : goal.put_judgements-condition_value-requires
put_judgements-condition_value-requires g t c κs within = (omega (arith, condition_at _ _ _ c.loop-policy-test.true c.loop-policy-item.is), search rules)

pub put_judgements-loop-policy-preserved : goal.put_judgements-loop-policy-preserved
put_judgements-loop-policy-preserved g t c =
    let added : c.push.new.self.items ≡ c.loop-policy.judgements.items ++ (c.loop-policy-item.result.0, truth_in (datum_value c.in_ok-datum.datum)) ∷ [] = search rules in
    record {
      stands = c.in_ok-datum.ensures.tells.stands ∙ c.loop-policy.invariant.stands;
      leads = rows_turn (judgements_on c.args.conditions.now (shows (drop c.args.visible.from c.args.visible.relations.now) c.args.user.now) c.args.user.now c.args.row.now) (λ rest. c.loop-policy.judgements.items ++ rest) (λ rest. c.push.new.self.items ++ rest) with_judgement [] (λ condition. value_of condition.1 (shows (drop c.args.visible.from c.args.visible.relations.now) c.args.user.now) (over c.args.user.now c.args.row.now))
          c.args.conditions.now c.loop-policy.policy-index c.loop-policy-item.result (datum_value c.in_ok-datum.datum) _ _ _ _ _ _ c.loop-policy-test.true c.loop-policy-item.is
          (λ rest. judgement_added c.push.new.self.items c.loop-policy.judgements.items rest c.loop-policy-item.result.0 (truth_in (datum_value c.in_ok-datum.datum)) added)
          c.loop-policy.invariant.stands c.loop-policy.invariant.leads c.in_ok-datum.ensures.tells;
      holds = c.in_ok-datum.ensures.holds;
    }

pub seen-shown_once-requires : goal.seen-shown_once-requires
seen-shown_once-requires g t c κs within = (omega (arith, c.decreases, size_found c.args.visible.relations.now (drop c.args.visible.from c.args.visible.relations.now) c.args.visible.from c.in-Some.place c.args.table.now refl (sym c.in-Some.ensures)), search rules)

pub seen-returns-in-None-clause-tells : goal.seen-returns-in-None-clause-tells
seen-returns-in-None-clause-tells g t c =
    tells_unread ((shows (drop c.args.visible.from c.args.visible.relations.now) c.args.user.now) c.args.table.now c.args.key) (g.S.Tables.state c.args.source.now) _ c.args.execution.now.read_set [] c.new-in-None.result
    (shows_none (drop c.args.visible.from c.args.visible.relations.now) c.args.visible.from c.args.user.now c.args.table.now c.args.key (g.S.Tables.state c.args.source.now) (sym c.in-None.ensures)) refl
    (subst (λ xs. IfOk c.new-in-None.result (λ found. found ≡ xs)) c.new.ensures.items c.new-in-None.ensures)

pub seen-returns-in_ok-object-in-Some-clause-tells : goal.seen-returns-in_ok-object-in-Some-clause-tells
seen-returns-in_ok-object-in-Some-clause-tells g t c =
    tells_same ((shows (drop c.args.visible.from c.args.visible.relations.now) c.args.user.now) c.args.table.now c.args.key) (shown_at c.args.visible.relations.now c.args.user.now c.in-Some.place c.in_ok-object-in-Some.object) _ _ _ _ _
    (shows_found c.args.visible.relations.now c.args.visible.from c.in-Some.place c.args.user.now c.args.table.now c.args.key (g.S.Tables.state c.args.source.now) (sym c.in-Some.ensures)
    ∙ ap (λ object. (shown_at c.args.visible.relations.now c.args.user.now c.in-Some.place object).in_state (g.S.Tables.state c.args.source.now)) (sym c.in_ok-object-in-Some.ensures)) c.shown_once.ensures.tells

pub shown_once-returns-in-Ok-clause-tells : goal.shown_once-returns-in-Ok-clause-tells
shown_once-returns-in-Ok-clause-tells g t c =
    tells_given (shown_at c.args.visible.relations.now c.args.user.now c.args.visible.from c.args.object) _ _ _ _ c.in-Ok.rows c.remembered.result c.in-Ok.ensures.tells c.remembered.ensures.gives

pub shown_once-returns-in-Ok-clause-holds : goal.shown_once-returns-in-Ok-clause-holds
shown_once-returns-in-Ok-clause-holds g t c =
    on_ok_then c.remembered.result _ _
    (holds_shown c.args.visible.relations.now c.args.user.now (g.S.Tables.state c.args.source.now) (g.S.Tables.state c.shown.new.source) c.args.execution.now.read_set c.shown.new.execution (record { read_set = c.shown.new.execution.read_set; cached_rows = c.remembered.new.cached_rows; cached_subplans = c.shown.new.execution.cached_subplans; cached_indexes = c.shown.new.execution.cached_indexes; next = c.shown.new.execution.next }) c.args.visible.from c.args.object c.in-Ok.rows
    c.in-Ok.ensures.tells c.in-Ok.ensures.holds refl refl refl) c.remembered.ensures.kept

pub sum-returns-in_ok-datum-in-len1-up-clause-tells : goal.sum-returns-in_ok-datum-in-len1-up-clause-tells
sum-returns-in_ok-datum-in-len1-up-clause-tells g t c =
    sum_told (shows (drop c.args.visible.from c.args.visible.relations.now) c.args.env.now.user.now) (env_of c.args.env.now) c.args.signs.now c.args.parts.now c.first-item.result _ _ _ _ _ _ (datum_value c.in_ok-datum-in-len1-up.datum) (number_value c.number-number.result) (datum_now c.sum_from.result) c.in-len1-up.len_at_least c.first-item.is
    c.in_ok-datum-in-len1-up.ensures.tells c.number-number.ensures c.sum_from.ensures.tells

pub sum_from-returns-in-Ok-clause-tells : goal.sum_from-returns-in-Ok-clause-tells
sum_from-returns-in-Ok-clause-tells g t c =
    let some : 1 ≤ length c.args.signs.now = search rules in
    let many : 1 ≤ length c.args.parts.now = search rules in
    let same : number_value c.in-Ok.so_far ≡ joined (slice_index_or c.args.signs.now 0 Plus) (number_value c.args.first) (datum_value c.in_ok-datum-in-len1-up-len1-up.datum) = search rules in
    sum_on (shows (drop c.args.visible.from c.args.visible.relations.now) c.args.env.now.user.now) (env_of c.args.env.now) (number_value c.args.first) c.args.signs.now c.args.parts.now c.part-item.result _ _ _ _ _ _ (datum_value c.in_ok-datum-in-len1-up-len1-up.datum) (number_value c.in-Ok.so_far) (datum_now c.sum_from.result) some many c.part-item.is
    c.in_ok-datum-in-len1-up-len1-up.ensures.tells same c.sum_from.ensures.tells

pub items_over-loop-row-preserved : goal.items_over-loop-row-preserved
items_over-loop-row-preserved g t c =
    record {
      stands = c.in_ok-item.ensures.tells.stands ∙ c.loop-row.invariant.stands;
      leads = rows_turn (gathered with_item [] (λ row. item_if (meets (maybe_term c.args.query.now.condition) (shows (drop c.args.visible.from c.args.visible.relations.now) c.args.env.now.user.now) (inside row (env_of c.args.env.now))) (item_of (terms_of c.args.query.now.items.items) (shows (drop c.args.visible.from c.args.visible.relations.now) c.args.env.now.user.now) (inside row (env_of c.args.env.now)))) c.args.rows.now) (λ rest. c.loop-row.values ++ rest) (λ rest. c.push_item.new.values ++ rest) with_item [] (λ row. item_if (meets (maybe_term c.args.query.now.condition) (shows (drop c.args.visible.from c.args.visible.relations.now) c.args.env.now.user.now) (inside row (env_of c.args.env.now))) (item_of (terms_of c.args.query.now.items.items) (shows (drop c.args.visible.from c.args.visible.relations.now) c.args.env.now.user.now) (inside row (env_of c.args.env.now))))
          c.args.rows.now c.loop-row.row-index c.row-item.result (maybe_datum c.in_ok-item.item) _ _ _ _ _ _ c.loop-row-test.true c.row-item.is
          (λ rest. item_added c.push_item.new.values c.loop-row.values rest c.row-item.result (maybe_datum c.in_ok-item.item) c.in_ok-push_item.ensures)
          c.loop-row.invariant.stands c.loop-row.invariant.leads c.in_ok-item.ensures.tells;
      holds = c.in_ok-item.ensures.holds;
    }

pub item_set-returns-in-Ok-clause-comes : goal.item_set-returns-in-Ok-clause-comes
item_set-returns-in-Ok-clause-comes g t c =
    comes_of (items_seen (query_of c.args.query.now) (shows (drop c.args.visible.from c.args.visible.relations.now) c.args.env.now.user.now) (env_of c.args.env.now)) _ _ _ _ c.in-Ok.values c.of.result
    (tells_narrowed (ranged_over (query_of c.args.query.now) (shows (drop c.args.visible.from c.args.visible.relations.now) c.args.env.now.user.now) (env_of c.args.env.now)) (maybe_term c.args.query.now.condition) (env_of c.args.env.now) with_item [] (λ row. item_if (meets (maybe_term c.args.query.now.condition) (shows (drop c.args.visible.from c.args.visible.relations.now) c.args.env.now.user.now) (inside row (env_of c.args.env.now))) (item_of (terms_of c.args.query.now.items.items) (shows (drop c.args.visible.from c.args.visible.relations.now) c.args.env.now.user.now) (inside row (env_of c.args.env.now)))) None _ _ _ _ _ _ c.in_ok-rows.rows c.as_slice.result.now (Ok c.in-Ok.values) c.as_slice.ensures c.in_ok-rows.ensures.stands c.in_ok-rows.ensures.narrows
    (λ row s un. item_out (meets (maybe_term c.args.query.now.condition) (shows (drop c.args.visible.from c.args.visible.relations.now) c.args.env.now.user.now) (inside row (env_of c.args.env.now))) (item_of (terms_of c.args.query.now.items.items) (shows (drop c.args.visible.from c.args.visible.relations.now) c.args.env.now.user.now) (inside row (env_of c.args.env.now))) s (un (shows (drop c.args.visible.from c.args.visible.relations.now) c.args.env.now.user.now) s)) (λ row rest. refl) c.in-Ok.ensures.tells) c.of.ensures

pub shown-returns-then-is_exempt-clause-tells : goal.shown-returns-then-is_exempt-clause-tells
shown-returns-then-is_exempt-clause-tells g t c =
    tells_exempt c.args.visible.relations.now (drop (c.args.visible.from + 1) c.args.visible.relations.now) c.index-visible-visible.result c.args.user.now c.args.visible.from c.args.object.now
    _ _ _ _ c.in_ok-rows.rows c.new-then-is_exempt.result
    (drop_at c.args.visible.relations.now c.args.visible.from c.index-visible-visible.result (omega (arith, c.if-visible.false)) c.index-visible-visible.is)
    (ap (λ relation. is_exempt relation.quals) c.index-visible-visible.is ∙ sym c.is_exempt.ensures ∙ c.if-is_exempt.true) c.in_ok-rows.ensures.tells
    (given_as c.new-then-is_exempt.result _ _ c.new-then-is_exempt.ensures c.into_vec.ensures)

pub rows_for-returns-in-Some-clause-narrows : goal.rows_for-returns-in-Some-clause-narrows
rows_for-returns-in-Some-clause-narrows g t c =
    narrows_all (ranged_over (query_of c.args.query.now) (shows (drop c.args.visible.from c.args.visible.relations.now) c.args.env.now.user.now) (env_of c.args.env.now)) (shows (drop c.args.visible.from c.args.visible.relations.now) c.args.env.now.user.now c.args.query.now.from.table (Some c.in-Some.key)) (maybe_term c.args.query.now.condition) (env_of c.args.env.now) _ _ _ _ c.seen.result (search rules) c.seen.ensures.tells

pub rows_for-returns-in_ok-all-in-None-clause-narrows : goal.rows_for-returns-in_ok-all-in-None-clause-narrows
rows_for-returns-in_ok-all-in-None-clause-narrows g t c =
    narrows_some (ranged_over (query_of c.args.query.now) (shows (drop c.args.visible.from c.args.visible.relations.now) c.args.env.now.user.now) (env_of c.args.env.now)) (shows (drop c.args.visible.from c.args.visible.relations.now) c.args.env.now.user.now c.args.query.now.from.table None) (maybe_term c.args.query.now.condition) (env_of c.args.env.now) _ _ _ _ c.in_ok-all-in-None.all c.narrowed-rows.result (search rules) c.in_ok-all-in-None.ensures.tells
    (IfOk-weaker c.narrowed-rows.result _ _ (λ it left. left c.args.visible.relations.now c.args.env.now.user.now (g.S.Tables.state c.seen-in-None.new.source) c.in_ok-all-in-None.ensures.holds.indexed (ap (λ s. ((shows (drop c.args.visible.from c.args.visible.relations.now) c.args.env.now.user.now c.args.query.now.from.table None).in_state s).gives) c.in_ok-all-in-None.ensures.tells.stands ∙ c.in_ok-all-in-None.ensures.tells.given)) c.narrowed-rows.ensures.left)

pub rows_for-returns-in_ok-all-in-None-clause-holds : goal.rows_for-returns-in_ok-all-in-None-clause-holds
rows_for-returns-in_ok-all-in-None-clause-holds g t c =
    on_ok_then c.narrowed-rows.result _ _
    (λ indexed. record { ordered = c.in_ok-all-in-None.ensures.holds.ordered; kept = c.in_ok-all-in-None.ensures.holds.kept; cached = c.in_ok-all-in-None.ensures.holds.cached; indexed = indexed c.args.visible.relations.now c.args.env.now.user.now (g.S.Tables.state c.seen-in-None.new.source) c.in_ok-all-in-None.ensures.holds.indexed (ap (λ s. ((shows (drop c.args.visible.from c.args.visible.relations.now) c.args.env.now.user.now c.args.query.now.from.table None).in_state s).gives) c.in_ok-all-in-None.ensures.tells.stands ∙ c.in_ok-all-in-None.ensures.tells.given) }) c.narrowed-rows.ensures.indexed
