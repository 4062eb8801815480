use Rattle.std.proofs.Common.{◌≡◌, [], ◌++◌, ◌||◌, ◌+◌, ◌*◌, drop, false, List}
use Rattle.rls_value.specs.{declared.value.Value.Value, declared.value.Value.TheVariants.Null, declared.truth.Truth.Truth}
use Rattle.rls_value.specs.{declared.truth.Truth.TheVariants.True, declared.truth.Truth.TheVariants.False, Truths.conjunction_of, Truths.disjunction_of}
use Rattle.rls_source.specs.rls_catalog.specs.rls_expr.specs.Terms.{maybe_term, terms_of, term_size, terms_size, query_size}
use Rattle.rls_source.specs.rls_catalog.specs.rls_expr.specs.ExprTerms.{query_of}
use Rattle.rls_evaluation.specs.{Items.with_item, Environments.inside, Holding.Holds, Gathering.gathered, Gathering.kept}
use Rattle.rls_evaluation.specs.Eval.{together, and_value, or_value, or_equal, meets, item_of, item_if, item_or, or_item}
use Rattle.rls_evaluation.specs.Showing.{shows, is_allowed, judgements_on}
use Rattle.rls_evaluation.specs.Sizes.{conditions_size, quals_size, relations_size}
use Rattle.rls_evaluation.specs.Scoping.{env_of, datum_value, maybe_datum}
use Rattle.rls_evaluation.proofs.Telling.{Leads}
use Rattle.rls_evaluation.proofs.evaluation.+eval.Given as goal

-- the relations that are left, then what is left of the term; a list of parts stands above its parts
abbrev pub decreases-eval : goal.decreases-eval
decreases-eval g l = relations_size (drop l.visible.from l.visible.relations.now) + 8 * term_size l.expr.now

abbrev pub decreases-condition_value : goal.decreases-condition_value
decreases-condition_value g l = relations_size (drop l.visible.from l.visible.relations.now) + 8 * term_size l.condition.now + 1

abbrev pub decreases-comparison : goal.decreases-comparison
decreases-comparison g l = relations_size (drop l.visible.from l.visible.relations.now) + 8 * (term_size l.left.now + term_size l.right.now) + 1

abbrev pub decreases-conjunction : goal.decreases-conjunction
decreases-conjunction g l = relations_size (drop l.visible.from l.visible.relations.now) + 8 * terms_size (terms_of l.parts.now) + 2

abbrev pub decreases-disjunction : goal.decreases-disjunction
decreases-disjunction g l = relations_size (drop l.visible.from l.visible.relations.now) + 8 * terms_size (terms_of l.parts.now) + 2

abbrev pub decreases-negation : goal.decreases-negation
decreases-negation g l = relations_size (drop l.visible.from l.visible.relations.now) + 8 * term_size l.operand.now + 1

abbrev pub decreases-null_test : goal.decreases-null_test
decreases-null_test g l = relations_size (drop l.visible.from l.visible.relations.now) + 8 * term_size l.operand.now + 1

abbrev pub decreases-not_null_test : goal.decreases-not_null_test
decreases-not_null_test g l = relations_size (drop l.visible.from l.visible.relations.now) + 8 * term_size l.operand.now + 1

abbrev pub decreases-among : goal.decreases-among
decreases-among g l = relations_size (drop l.visible.from l.visible.relations.now) + 8 * (term_size l.operand.now + terms_size (terms_of l.list.now)) + 2

abbrev pub decreases-is_one_of : goal.decreases-is_one_of
decreases-is_one_of g l = relations_size (drop l.visible.from l.visible.relations.now) + 8 * terms_size (terms_of l.list.now) + 1

abbrev pub decreases-sum : goal.decreases-sum
decreases-sum g l = relations_size (drop l.visible.from l.visible.relations.now) + 8 * terms_size (terms_of l.parts.now) + 4

abbrev pub decreases-sum_from : goal.decreases-sum_from
decreases-sum_from g l = relations_size (drop l.visible.from l.visible.relations.now) + 8 * terms_size (terms_of l.parts.now) + 3

abbrev pub decreases-exists : goal.decreases-exists
decreases-exists g l = relations_size (drop l.visible.from l.visible.relations.now) + 8 * query_size (query_of l.query.now) + 7

abbrev pub decreases-has_row : goal.decreases-has_row
decreases-has_row g l = relations_size (drop l.visible.from l.visible.relations.now) + 8 * query_size (query_of l.query.now) + 6

abbrev pub decreases-is_within_anew : goal.decreases-is_within_anew
decreases-is_within_anew g l = relations_size (drop l.visible.from l.visible.relations.now) + 8 * query_size (query_of l.query.now) + 5

abbrev pub decreases-item_set : goal.decreases-item_set
decreases-item_set g l = relations_size (drop l.visible.from l.visible.relations.now) + 8 * query_size (query_of l.query.now) + 4

abbrev pub decreases-items_over : goal.decreases-items_over
decreases-items_over g l = relations_size (drop l.visible.from l.visible.relations.now) + 8 * query_size (query_of l.query.now) + 2

abbrev pub decreases-scalar_anew : goal.decreases-scalar_anew
decreases-scalar_anew g l = relations_size (drop l.visible.from l.visible.relations.now) + 8 * query_size (query_of l.query.now) + 6

abbrev pub decreases-is_met : goal.decreases-is_met
decreases-is_met g l = relations_size (drop l.visible.from l.visible.relations.now) + 8 * terms_size (maybe_term l.condition.now) + 3

abbrev pub decreases-within : goal.decreases-within
decreases-within g l = relations_size (drop l.visible.from l.visible.relations.now) + 8 * (term_size l.operand.now + query_size (query_of l.query.now)) + 7

abbrev pub decreases-is_within : goal.decreases-is_within
decreases-is_within g l = relations_size (drop l.visible.from l.visible.relations.now) + 8 * query_size (query_of l.query.now) + 6

abbrev pub decreases-is_item : goal.decreases-is_item
decreases-is_item g l = relations_size (drop l.visible.from l.visible.relations.now) + 8 * query_size (query_of l.query.now) + 1

abbrev pub decreases-scalar : goal.decreases-scalar
decreases-scalar g l = relations_size (drop l.visible.from l.visible.relations.now) + 8 * query_size (query_of l.query.now) + 7

abbrev pub decreases-first_item : goal.decreases-first_item
decreases-first_item g l = relations_size (drop l.visible.from l.visible.relations.now) + 8 * query_size (query_of l.query.now) + 1

abbrev pub decreases-item_if : goal.decreases-item_if
decreases-item_if g l = relations_size (drop l.visible.from l.visible.relations.now) + 8 * query_size (query_of l.query.now)

abbrev pub decreases-item : goal.decreases-item
decreases-item g l = relations_size (drop l.visible.from l.visible.relations.now) + 8 * terms_size (terms_of l.items.now) + 1

abbrev pub decreases-meets_condition : goal.decreases-meets_condition
decreases-meets_condition g l = relations_size (drop l.visible.from l.visible.relations.now) + 8 * terms_size (maybe_term l.condition.now) + 2

abbrev pub decreases-rows_for : goal.decreases-rows_for
decreases-rows_for g l = relations_size (drop l.visible.from l.visible.relations.now) + 8 * query_size (query_of l.query.now)

abbrev pub decreases-seen : goal.decreases-seen
decreases-seen g l = relations_size (drop l.visible.from l.visible.relations.now) + 7

abbrev pub decreases-shown_once : goal.decreases-shown_once
decreases-shown_once g l = relations_size (drop l.visible.from l.visible.relations.now) + 6

abbrev pub decreases-shown : goal.decreases-shown
decreases-shown g l = relations_size (drop l.visible.from l.visible.relations.now) + 5

abbrev pub decreases-kept_rows : goal.decreases-kept_rows
decreases-kept_rows g l = relations_size (drop l.visible.from l.visible.relations.now) + 8 * quals_size l.quals.now + 5

abbrev pub decreases-is_allowed : goal.decreases-is_allowed
decreases-is_allowed g l = relations_size (drop l.visible.from l.visible.relations.now) + 8 * quals_size l.quals.now + 4

abbrev pub decreases-verdict_on : goal.decreases-verdict_on
decreases-verdict_on g l = relations_size (drop l.visible.from l.visible.relations.now) + 8 * quals_size l.quals.now + 3

abbrev pub decreases-put_judgements : goal.decreases-put_judgements
decreases-put_judgements g l = relations_size (drop l.visible.from l.visible.relations.now) + 8 * conditions_size l.conditions.now + 2

-- the source stands as it did, what is left leads to the whole, and what was shown is kept
abbrev pub invariant-conjunction-loop-part : goal.invariant-conjunction-loop-part
invariant-conjunction-loop-part g l =
    let sees = shows (drop l.visible.from l.visible.relations.now) l.env.user.now in
    let now = g.S.Tables.state l.fn.source in
    record {
      stands : g.S.Tables.state l.source ≡ now;
      leads : Leads (together and_value True (terms_of l.parts) sees (env_of l.env)) (together and_value True (terms_of (drop l.part-index l.parts)) sees (env_of l.env)) (conjunction_of l.so_far) now l.fn.execution.read_set l.execution.read_set;
      holds : Holds l.visible.relations.now l.env.user.now (g.S.Tables.state l.source) l.execution;
    }

abbrev pub invariant-disjunction-loop-part : goal.invariant-disjunction-loop-part
invariant-disjunction-loop-part g l =
    let sees = shows (drop l.visible.from l.visible.relations.now) l.env.user.now in
    let now = g.S.Tables.state l.fn.source in
    record {
      stands : g.S.Tables.state l.source ≡ now;
      leads : Leads (together or_value False (terms_of l.parts) sees (env_of l.env)) (together or_value False (terms_of (drop l.part-index l.parts)) sees (env_of l.env)) (disjunction_of l.so_far) now l.fn.execution.read_set l.execution.read_set;
      holds : Holds l.visible.relations.now l.env.user.now (g.S.Tables.state l.source) l.execution;
    }

abbrev pub invariant-is_one_of-loop-part : goal.invariant-is_one_of-loop-part
invariant-is_one_of-loop-part g l =
    let sees = shows (drop l.visible.from l.visible.relations.now) l.env.user.now in
    let now = g.S.Tables.state l.fn.source in
    record {
      stands : g.S.Tables.state l.source ≡ now;
      leads : Leads (together (or_equal (datum_value l.value)) False (terms_of l.list) sees (env_of l.env)) (together (or_equal (datum_value l.value)) False (terms_of (drop l.part-index l.list)) sees (env_of l.env)) (disjunction_of l.so_far) now l.fn.execution.read_set l.execution.read_set;
      holds : Holds l.visible.relations.now l.env.user.now (g.S.Tables.state l.source) l.execution;
    }

abbrev pub invariant-is_met-loop-row : goal.invariant-is_met-loop-row
invariant-is_met-loop-row g l =
    let sees = shows (drop l.visible.from l.visible.relations.now) l.env.user.now in
    let asked = λ (rows : List (List Value)). gathered (λ row is rest. is || rest) false (λ row. meets (maybe_term l.condition) sees (inside row (env_of l.env))) rows in
    let now = g.S.Tables.state l.fn.source in
    record {
      stands : g.S.Tables.state l.source ≡ now;
      leads : Leads (asked l.rows) (asked (drop l.row-index l.rows)) (λ rest. l.so_far || rest) now l.fn.execution.read_set l.execution.read_set;
      holds : Holds l.visible.relations.now l.env.user.now (g.S.Tables.state l.source) l.execution;
    }

abbrev pub invariant-is_item-loop-row : goal.invariant-is_item-loop-row
invariant-is_item-loop-row g l =
    let sees = shows (drop l.visible.from l.visible.relations.now) l.env.user.now in
    let asked = λ (rows : List (List Value)). gathered (λ row item rest. or_item (datum_value l.value) item rest) False (λ row. item_if (meets (maybe_term l.query.condition) sees (inside row (env_of l.env))) (item_of (terms_of l.query.items.items) sees (inside row (env_of l.env)))) rows in
    let now = g.S.Tables.state l.fn.source in
    record {
      stands : g.S.Tables.state l.source ≡ now;
      leads : Leads (asked l.rows) (asked (drop l.row-index l.rows)) (disjunction_of l.so_far) now l.fn.execution.read_set l.execution.read_set;
      holds : Holds l.visible.relations.now l.env.user.now (g.S.Tables.state l.source) l.execution;
    }

abbrev pub invariant-first_item-loop-row : goal.invariant-first_item-loop-row
invariant-first_item-loop-row g l =
    let sees = shows (drop l.visible.from l.visible.relations.now) l.env.user.now in
    let asked = λ (rows : List (List Value)). gathered (λ row item rest. item_or item rest) Null (λ row. item_if (meets (maybe_term l.query.condition) sees (inside row (env_of l.env))) (item_of (terms_of l.query.items.items) sees (inside row (env_of l.env)))) rows in
    let now = g.S.Tables.state l.fn.source in
    record {
      stands : g.S.Tables.state l.source ≡ now;
      leads : Leads (asked l.rows) (asked (drop l.row-index l.rows)) (item_or (maybe_datum l.first)) now l.fn.execution.read_set l.execution.read_set;
      holds : Holds l.visible.relations.now l.env.user.now (g.S.Tables.state l.source) l.execution;
    }

abbrev pub invariant-kept_rows-loop-row : goal.invariant-kept_rows-loop-row
invariant-kept_rows-loop-row g l =
    let sees = shows (drop l.visible.from l.visible.relations.now) l.user in
    let asked = λ (rows : List (List Value)). kept (is_allowed l.quals sees l.user) rows in
    let now = g.S.Tables.state l.fn.source in
    record {
      stands : g.S.Tables.state l.source ≡ now;
      leads : Leads (asked l.rows) (asked (drop l.row-index l.rows)) (λ rest. l.kept ++ rest) now l.fn.execution.read_set l.execution.read_set;
      holds : Holds l.visible.relations.now l.user (g.S.Tables.state l.source) l.execution;
    }

abbrev pub invariant-put_judgements-loop-policy : goal.invariant-put_judgements-loop-policy
invariant-put_judgements-loop-policy g l =
    let sees = shows (drop l.visible.from l.visible.relations.now) l.user in
    let now = g.S.Tables.state l.fn.source in
    record {
      stands : g.S.Tables.state l.source ≡ now;
      leads : Leads (judgements_on l.conditions sees l.user l.row) (judgements_on (drop l.policy-index l.conditions) sees l.user l.row) (λ rest. l.judgements.items ++ rest) now l.fn.execution.read_set l.execution.read_set;
      holds : Holds l.visible.relations.now l.user (g.S.Tables.state l.source) l.execution;
    }

abbrev pub invariant-items_over-loop-row : goal.invariant-items_over-loop-row
invariant-items_over-loop-row g l =
    let sees = shows (drop l.visible.from l.visible.relations.now) l.env.user.now in
    let asked = λ (rows : List (List Value)). gathered with_item [] (λ row. item_if (meets (maybe_term l.query.condition) sees (inside row (env_of l.env))) (item_of (terms_of l.query.items.items) sees (inside row (env_of l.env)))) rows in
    let now = g.S.Tables.state l.fn.source in
    record {
      stands : g.S.Tables.state l.source ≡ now;
      leads : Leads (asked l.rows) (asked (drop l.row-index l.rows)) (λ rest. l.values ++ rest) now l.fn.execution.read_set l.execution.read_set;
      holds : Holds l.visible.relations.now l.env.user.now (g.S.Tables.state l.source) l.execution;
    }
