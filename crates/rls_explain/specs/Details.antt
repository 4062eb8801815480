-- What is told of a decision at length (PostgreSQL manual, 5.8, "Row Security Policies", and CREATE POLICY): why a role is exempt,
-- which policies are asked and why others aren't, and what each part of a condition comes to.
use Rattle.std.specs.Prelude.{◌≡◌, ℕ, suc, ◌-◌, List, [], ◌∷◌, ◌++◌, Option, Some, None, Bool, true, false, ◌&&◌, ◌||◌, not, filter, is_some, length, map, take, if◌then◌else◌}
use Rattle.std.specs.List.{flat_map}
use Rattle.std.specs.Option.{option_map, option_map_or}
use Rattle.std.specs.Str.{bytes_eq}
use Rattle.rls_value.specs.{declared.truth.Truth.Truth, declared.value.Value.Value, declared.verb.Kind.Kind, Truths.is_true, Values.truth_in}
use Rattle.rls_value.specs.declared.truth.Truth.TheVariants.{True}
use Rattle.rls_value.specs.declared.value.Value.TheVariants.{Null}
use Rattle.rls_value.specs.declared.verb.Kind.TheVariants as k
use Rattle.rls_expr.specs.{declared.policy.Policy.Policy, declared.table.Column.Column, declared.table.TableDef.TableDef, Scopes.InScope}
use Rattle.rls_expr.specs.Terms.{Term, Terms, Query, Literal, Compare, And, Or, Not, IsNull, IsNotNull, InList, NotInList, Exists, InSubquery, NotInSubquery, Scalar, End, More, Select, terms_of}
use Rattle.rls_meaning.specs.rls_guard.specs.rls_catalog.specs.{declared.role.RoleDef.RoleDef, declared.stored.Stored.Stored, declared.verdict.Side.Side, Membership.attributes_of, Membership.has_privileges_of, State.State, State.policies_of, State.table_of, Verdict.expression_of, Verdict.is_for_kind, Verdict.is_to}
use Rattle.rls_meaning.specs.rls_guard.specs.rls_catalog.specs.declared.verdict.Side.TheVariants as side
use Rattle.rls_meaning.specs.rls_guard.specs.rls_evaluation.specs.{Environments.Environment, Environments.inside, Environments.over, Keys.key_of}
use Rattle.rls_meaning.specs.{Commands.Command, Commands.closing_in, Evaluating.value, Resolving.resolved, Rows.shown_to, Showing.rows_at_key}
use Rattle.rls_explain.specs.declared.details.{Asking.Asking, Consulted.Consulted, Consulting.Consulting, Details.Details, Exemption.Exemption, Part.Part, Seen.Seen, SeenRow.SeenRow}
use Rattle.rls_explain.specs.declared.details.Asking.TheVariants as asking
use Rattle.rls_explain.specs.declared.details.Consulting.TheVariants as consulting
use Rattle.rls_explain.specs.declared.details.Exemption.TheVariants as exemption
use Rattle.rls_explain.specs.Seen.{is_shown, look}

-- ---- why no policy is asked

-- of the role itself, or of one whose privileges it has
abbrev pub of_owner : List ℕ → TableDef → Exemption
of_owner role table = if bytes_eq role table.owner then exemption.Owner else exemption.OwnersPrivileges

-- the first reason that holds, in the order in which it is asked whether a role is exempt
abbrev pub exemption_by : RoleDef → Bool → List ℕ → TableDef → Option Exemption
exemption_by attributes has_owner role table =
    if not table.enabled then Some exemption.Disabled
    else (if attributes.superuser then Some exemption.Superuser
    else (if attributes.bypass_rls then Some exemption.BypassRls
    else (if has_owner && not table.forced then Some (of_owner role table) else None)))

-- why row security doesn't apply to the role on the table; none where it does
abbrev pub exemption_of : State → List ℕ → TableDef → Option Exemption
exemption_of s role table = exemption_by (attributes_of s role) (has_privileges_of s role table.owner) role table

-- ---- which policies are asked

-- the row is judged as a new one: WITH CHECK is asked for
abbrev pub is_judged_new : Kind → Side → Bool
is_judged_new k.Select which = false
is_judged_new k.Insert which = true
is_judged_new k.Update side.Old = false
is_judged_new k.Update side.New = true
is_judged_new k.Delete which = false

-- the expression that is asked for is WITH CHECK, and not a USING that stands in for it
abbrev pub is_with_check : Policy → Kind → Side → Bool
is_with_check policy kind which = is_judged_new kind which && (is_some policy.check || not (is_some (expression_of policy kind which)))

-- whether the policy is asked, by whether it is to the role, and what is told by its expression
abbrev pub asking_by : Bool → (Term → Asking) → Policy → Kind → Side → Asking
asking_by to told policy kind which =
    if not (is_for_kind policy.kind kind) then asking.OtherCommand
    else (if not to then asking.OtherRoles
    else option_map_or told (expression_of policy kind which) asking.NoExpression)

-- the policy, and whether it is asked
abbrev pub consulted_by : Bool → (Term → Asking) → Kind → Side → Policy → Consulted
consulted_by to told kind which policy = record {
  policy = policy.name;
  permissive = policy.permissive;
  kind = policy.kind;
  to = policy.to;
  with_check = is_with_check policy kind which;
  asking = asking_by to told policy kind which;
}

-- ---- the parts of a condition

-- a side of a comparison is a part where it is a subquery
abbrev pub side_at : ℕ → Term → List (ℕ × Term)
side_at level (Scalar q) = (level, Scalar q) ∷ []
side_at level t = []

abbrev pub sides_at : ℕ → Terms → List (ℕ × Term)
sides_at level End = []
sides_at level (More t ts) = side_at level t ++ sides_at level ts

abbrev mutual
  -- the parts in text order, each with the number of those that it stands in: those of AND, OR and NOT, and subqueries that are
  -- compared
  pub parts_at : ℕ → Term → List (ℕ × Term)
  parts_at level (And ts) = (level, And ts) ∷ parts_each (suc level) ts
  parts_at level (Or ts) = (level, Or ts) ∷ parts_each (suc level) ts
  parts_at level (Not t) = (level, Not t) ∷ parts_at (suc level) t
  parts_at level (Compare how a b) = (level, Compare how a b) ∷ (side_at (suc level) a ++ side_at (suc level) b)
  parts_at level (IsNull t) = (level, IsNull t) ∷ side_at (suc level) t
  parts_at level (IsNotNull t) = (level, IsNotNull t) ∷ side_at (suc level) t
  parts_at level (InList t ts) = (level, InList t ts) ∷ (side_at (suc level) t ++ sides_at (suc level) ts)
  parts_at level (NotInList t ts) = (level, NotInList t ts) ∷ (side_at (suc level) t ++ sides_at (suc level) ts)
  parts_at level (InSubquery t q) = (level, InSubquery t q) ∷ side_at (suc level) t
  parts_at level (NotInSubquery t q) = (level, NotInSubquery t q) ∷ side_at (suc level) t
  parts_at level t = (level, t) ∷ []

  -- of each of them
  pub parts_each : ℕ → Terms → List (ℕ × Term)
  parts_each level End = []
  parts_each level (More t ts) = parts_at level t ++ parts_each level ts

-- ---- what a part comes to

-- what expressions come to, and which rows of a table subqueries see: all or, with a key, those that have it
pub record Sight : Type 0 where
  pub value : Environment → Term → Value
  pub seen : List ℕ → Option (List Value) → List Stored

-- the value of each
abbrev pub values_by : Sight → Environment → Terms → List Value
values_by sight env End = []
values_by sight env (More t ts) = sight.value env t ∷ values_by sight env ts

-- the value of an item or, where there is none, null
abbrev pub item_by : Sight → Environment → Terms → Value
item_by sight env End = Null
item_by sight env (More t ts) = sight.value env t

-- what WHERE says; it is true where it is left out
abbrev pub where_by : Sight → Environment → Terms → Truth
where_by sight env End = True
where_by sight env (More t ts) = truth_in (sight.value env t)

-- the rows that a subquery sees
abbrev pub rows_by : Sight → Environment → Query → List Stored
rows_by sight env (Select from key selects items condition) = sight.seen from.table (key_of key condition env)

-- what it selects of a row: its item, where the row meets its WHERE
abbrev pub selected_of : Sight → Environment → Query → Stored → List Value
selected_of sight env (Select from key selects items condition) stored =
    if is_true (where_by sight (inside stored.row env) condition) then item_by sight (inside stored.row env) items ∷ [] else []

-- and of rows
abbrev pub selected_from : Sight → Environment → Query → List Stored → List Value
selected_from sight env q rows = flat_map (selected_of sight env q) rows

-- what it selects
abbrev pub selected_by : Sight → Environment → Query → List Value
selected_by sight env q = selected_from sight env q (rows_by sight env q)

-- the values as an expression
abbrev pub literals : List Value → Terms
literals values = terms_of (map Literal values)

-- the value of an expression as one
abbrev pub literal_by : Sight → Environment → Term → Term
literal_by sight env t = Literal (sight.value env t)

-- IS NULL or IS NOT NULL
abbrev pub null_test : Bool → Term → Term
null_test true t = IsNotNull t
null_test false t = IsNull t

-- IN or NOT IN
abbrev pub among : Bool → Term → Terms → Term
among true t ts = NotInList t ts
among false t ts = InList t ts

-- a comparison with the values in place of its sides
abbrev pub with_values : Sight → Environment → Term → Option Term
with_values sight env (Compare how a b) = Some (Compare how (Literal (sight.value env a)) (Literal (sight.value env b)))
with_values sight env (IsNull t) = Some (IsNull (Literal (sight.value env t)))
with_values sight env (IsNotNull t) = Some (IsNotNull (Literal (sight.value env t)))
with_values sight env (InList t ts) = Some (InList (Literal (sight.value env t)) (literals (values_by sight env ts)))
with_values sight env (NotInList t ts) = Some (NotInList (Literal (sight.value env t)) (literals (values_by sight env ts)))
with_values sight env (InSubquery t q) = Some (InList (Literal (sight.value env t)) (literals (selected_by sight env q)))
with_values sight env (NotInSubquery t q) = Some (NotInList (Literal (sight.value env t)) (literals (selected_by sight env q)))
with_values sight env t = None

-- the columns of a table that is there
abbrev pub columns_of : Option TableDef → List Column
columns_of (Some table) = table.columns
columns_of None = []

-- a row that is seen, and what WHERE says of it
abbrev pub seen_row : Sight → Environment → Terms → Stored → SeenRow
seen_row sight env condition stored = record { id = stored.id; row = stored.row; truth = where_by sight (inside stored.row env) condition }

-- so many rows are told one by one
abbrev pub MAX_SEEN : ℕ
MAX_SEEN = 20

-- the rows that a subquery sees of so many, the first of them one by one, and how many it doesn't
abbrev pub seen_from : State → Sight → Environment → Query → ℕ → List Stored → Seen
seen_from s sight env (Select from key selects items condition) all rows = record {
  table = from.table;
  columns = columns_of (table_of s from.table);
  rows = map (seen_row sight env condition) (take MAX_SEEN rows);
  more = length rows - MAX_SEEN;
  hidden = all - length rows;
}

-- the rows that it ranges over, the hidden ones too
abbrev pub ranged_over : State → Environment → Query → List Stored
ranged_over s env (Select from key selects items condition) = rows_at_key s from.table (key_of key condition env)

-- the rows that it sees
abbrev pub seen_by : State → Sight → Environment → Query → Seen
seen_by s sight env q = seen_from s sight env q (length (ranged_over s env q)) (rows_by sight env q)

-- the subquery that a part has itself
abbrev pub query_in : Term → Option Query
query_in (Exists q) = Some q
query_in (InSubquery t q) = Some q
query_in (NotInSubquery t q) = Some q
query_in (Scalar q) = Some q
query_in t = None

-- a part as it is written, and what it comes to once its columns are resolved
abbrev pub part_by : State → Sight → Environment → ℕ → Term → Term → Part
part_by s sight env level written t = record {
  level = level;
  value = sight.value env t;
  expression = written;
  values = with_values sight env t;
  sees = option_map (seen_by s sight env) (query_in t);
}

-- the parts as they are written, each with what it comes to
abbrev pub parts_by : State → Sight → Environment → List (ℕ × Term) → List (ℕ × Term) → List Part
parts_by s sight env ((level, written) ∷ more) ((depth, t) ∷ ts) = part_by s sight env level written t ∷ parts_by s sight env more ts
parts_by s sight env _ _ = []

-- what the condition says, and its parts
abbrev pub asked_by : State → Sight → Environment → Term → Term → Asking
asked_by s sight env written t = asking.Asked (truth_in (sight.value env t)) (parts_by s sight env (parts_at 0 written) (parts_at 0 t))

-- ---- a decision

-- why none of the policies is asked, or whether each is
abbrev pub consulting_by : Option Exemption → List Consulted → Consulting
consulting_by (Some reason) policies = consulting.Exempt reason
consulting_by None policies = consulting.Policies policies

-- what a policy's expression over the table says of a row, and its parts
abbrev pub asked_in : State → Sight → List ℕ → InScope → List Value → Term → Asking
asked_in s sight role from row term = asked_by s sight (over role row) term (resolved s (from ∷ []) term)

-- a policy of the table, and whether it is asked about a row
abbrev pub consulted_in : State → Sight → List ℕ → InScope → Side → Kind → List Value → Policy → Consulted
consulted_in s sight role from which kind row policy = consulted_by (is_to s role policy) (asked_in s sight role from row) kind which policy

-- which policies of the table are asked about a row
abbrev pub consulting_in : State → Sight → List ℕ → InScope → Side → Kind → List Value → Consulting
consulting_in s sight role from which kind row = consulting_by (exemption_of s role from.1) (map (consulted_in s sight role from which kind row) (policies_of s from.0))

-- what is told of the decision on a row of the table, by what is seen
abbrev pub details_by : State → Sight → List ℕ → InScope → Side → Kind → List Value → Details
details_by s sight role from which kind row = record {
  table = from.0;
  owner = from.1.owner;
  columns = from.1.columns;
  consulting = consulting_in s sight role from which kind row;
}

-- ---- by the meaning

-- those of the rows that the role is shown; none where the table's policies lead back to it
abbrev pub shown_of : State → List ℕ → List ℕ → Option TableDef → List Stored → List Stored
shown_of s role name None rows = []
shown_of s role name (Some table) rows =
    option_map_or (λ closed. []) (closing_in s (look role (name, table))) (filter (is_shown s (look role (name, table))) rows)

-- those of the table, or those with the key
abbrev pub shown_in : State → List ℕ → List ℕ → Option (List Value) → List Stored
shown_in s role name key = shown_of s role name (table_of s name) (rows_at_key s name key)

-- what the command's subqueries and those of policies come to
abbrev pub sight_of : State → Command → Sight
sight_of s c = record { value = λ env t. value t (shown_to s c) env; seen = shown_in s c.role }

-- what is told of a decision of the command
abbrev pub details_of : State → Command → Side → Kind → List Value → Details
details_of s c which kind row = details_by s (sight_of s c) c.role (c.name, c.table) which kind row
