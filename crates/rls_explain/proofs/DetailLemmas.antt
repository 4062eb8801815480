-- What is told of decisions at length, through the relations of a policy expansion, is what is meant.
use Rattle.std.specs.Prelude.{◌≡◌, refl, ℕ, suc, ◌-◌, List, [], ◌∷◌, ◌++◌, Bool, true, false, ◌&&◌, cond, not, Option, Some, None, Result, Ok, Err, IfOk, filter, is_some, length, map, take, if◌then◌else◌}
use Rattle.std.specs.List.{flat_map, list_all, list_any}
use Rattle.std.specs.declared.vec.Vec.{Vec}
use Rattle.std.specs.Option.{option_map, option_map_or}
use Rattle.std.proofs.{Common.Global, Common.ap, Common.sym, Common.◌∙◌, Common.subst, Math.Bool.and-true, lemmas.Bool.true≢false, lemmas.List.map-append}
use Rattle.rls_value.specs.{declared.value.Value.Value, declared.verb.Kind.Kind, Truths.is_true, Values.is_null, Values.truth_in}
use Rattle.rls_value.specs.declared.verb.Kind.TheVariants as k
use Rattle.rls_expr.specs.{declared.policy.Policy.Policy, declared.table.TableDef.TableDef, Naming.names_of, Naming.query_names, Naming.names_all, Resolving.resolved as resolved_over, Scopes.InScope}
use Rattle.rls_expr.specs.Terms.{Term, Terms, Query, Literal, Column, Var, CurrentUser, Compare, And, Or, Not, IsNull, IsNotNull, InList, NotInList, Exists, InSubquery, NotInSubquery, Scalar, Sum, End, More, Select, terms_of}
use Rattle.rls_meaning.specs.rls_guard.specs.rls_catalog.specs.{declared.stored.Stored.Stored, declared.verdict.Side.Side, Membership.Within, State.State, State.policies_of, State.rows_with_key, State.table_of, Verdict.applying_of, Verdict.expression_of, Verdict.is_asked, Verdict.is_exempt, Verdict.is_for_kind, Verdict.is_to}
use Rattle.rls_meaning.specs.rls_guard.specs.rls_catalog.specs.declared.verdict.Side.TheVariants as side
use Rattle.rls_meaning.specs.rls_guard.specs.rls_evaluation.specs.{declared.relation.SecuredRelation.SecuredRelation, declared.relation.SecurityQuals.TheVariants.Exempt, declared.relation.SecurityQuals.TheVariants.Policies, Environments.Environment, Environments.inside, Environments.over, Keys.key_of, Showing.allows, Tableless.value_given}
use Rattle.rls_meaning.specs.rls_guard.specs.{Naming.names_over, SecurityQuals.conditions_of, SecurityQuals.with_condition}
use Rattle.rls_meaning.{specs.Leading.condition_tables, specs.Leading.quals_tables, proofs.Tables.first_part, proofs.Tables.last_part, proofs.Tables.query_condition, proofs.Tables.query_items, proofs.Tables.within_first, proofs.Tables.within_last}
use Rattle.rls_meaning.specs.rls_expansion.specs.{declared.expansion.PolicyExpansion.PolicyExpansion, Used.entered, Used.tables_of}
use Rattle.rls_meaning.proofs.Using.{IsAsk}
use Rattle.rls_meaning.specs.rls_expansion.specs.Expanding.{asks_of}
use Rattle.rls_meaning.specs.{Commands.Command, Commands.closing_in, Commands.reads, Evaluating.value, Expanding.IsExpanded, Expanding.IsExpansionIn, Expanding.Made, Expanding.Refused, Expanding.expansion_in, Expanding.sees, Resolving.resolved, Rows.kinds_of, Rows.shown_to, Rows.verdict, Showing.rows_at_key}
use Rattle.rls_meaning.proofs.{Resolving.state_resolved_told, Showing.sees_told}
use Rattle.rls_explain.specs.declared.details.{Asking.Asking, Consulted.Consulted, Details.Details, Exemption.Exemption}
use Rattle.rls_explain.specs.declared.details.Asking.TheVariants as asking
use Rattle.rls_explain.specs.declared.details.Consulting.TheVariants as consulting
use Rattle.rls_explain.specs.declared.explanation.Explained.{Explained}
use Rattle.rls_explain.specs.Details.{MAX_SEEN, Sight, asked_by, columns_of, consulted_in, consulting_by, details_by, details_of, exemption_of, is_with_check, item_by, literals, part_by, parts_at, parts_by, parts_each, query_in, seen_by, shown_of, selected_by, selected_from, selected_of, side_at, sides_at, sight_of, values_by, where_by, with_values}
use Rattle.rls_explain.specs.Explaining.{detailed, explained_on, explained_rows, with_details}
use Rattle.rls_explain.specs.Seen.{look}
use Rattle.rls_explain.specs.Found.{detailed_found, literals_of, rows_shown_found, shown_under, sight_found, unless_closing, with_details_found}
use Rattle.rls_explain.proofs.{CheckLemmas.IsAskedOn, CheckLemmas.Laws, CheckLemmas.old_meant, CheckLemmas.ruled_looked, CheckLemmas.value_meant, Lists.mapped, ReasonLemmas.exempt_by_reason}

-- ---- what calls give

-- a key without a null is looked up
pub rows_keyed : {E : Type 0} (r : Result (List Stored) E) (s : State) (name : List ℕ) (key : List Value) → list_any is_null key ≡ false → IfOk r (λ rows. rows ≡ rows_with_key s name key) → IfOk r (λ rows. rows ≡ rows_at_key s name (Some key))
rows_keyed (Ok rows) s name key none is = is ∙ ap (λ (null : Bool). if null then [] else rows_with_key s name key) (sym none)
rows_keyed (Err e) s name key none is = tt

-- what is selected of rows, as literals
literals_selected : (sight : Sight) (env : Environment) (q : Query) (rows : List Stored) → flat_map (literals_of sight env q) rows ≡ map Literal (flat_map (selected_of sight env q) rows)
literals_selected sight env q [] = refl
literals_selected sight env q (stored ∷ rows) =
    ap (λ rest. map Literal (selected_of sight env q stored) ++ rest) (literals_selected sight env q rows) ∙ sym (map-append Literal (selected_of sight env q stored) (flat_map (selected_of sight env q) rows))

pub selected_literals : {E : Type 0} (r : Result (Vec Term Global) E) (s t : State) (relations : List SecuredRelation) (role : List ℕ) (env : Environment) (q : Query) (rows : List Stored) → t ≡ s
    → IfOk r (λ it. it.items ≡ flat_map (literals_of (sight_found t relations role) env q) rows) → IfOk r (λ it. terms_of it.items ≡ literals (selected_from (sight_found s relations role) env q rows))
selected_literals (Ok it) s t relations role env q rows same is =
    ap terms_of (is ∙ (λ i. flat_map (literals_of (sight_found (same i) relations role) env q) rows) ∙ literals_selected (sight_found s relations role) env q rows)
selected_literals (Err e) s t relations role env q rows same is = tt

-- in the state that stands
pub selected_later : {E : Type 0} (r : Result (Vec Term Global) E) (s t : State) (relations : List SecuredRelation) (role : List ℕ) (env : Environment) (q : Query) (seen rows : List Stored) → t ≡ s → seen ≡ rows
    → IfOk r (λ it. terms_of it.items ≡ literals (selected_from (sight_found t relations role) env q seen)) → IfOk r (λ it. terms_of it.items ≡ literals (selected_from (sight_found s relations role) env q rows))
selected_later (Ok it) s t relations role env q seen rows same are is = is ∙ (λ i. literals (selected_from (sight_found (same i) relations role) env q (are i)))
selected_later (Err e) s t relations role env q seen rows same are is = tt

-- each of the policies, in the state that stands
pub consulted_all : {E : Type 0} (r : Result (List Consulted) E) (s t : State) (relations : List SecuredRelation) (role : List ℕ) (from : InScope) (which : Side) (kind : Kind) (row : List Value) (policies : List Policy) → t ≡ s → policies ≡ policies_of s from.0
    → IfOk r (λ all. all ≡ map (consulted_in t (sight_found t relations role) role from which kind row) policies)
    → IfOk r (λ all. all ≡ map (consulted_in s (sight_found s relations role) role from which kind row) (policies_of s from.0))
consulted_all (Ok all) s t relations role from which kind row policies same named is = is ∙ (λ i. map (consulted_in (same i) (sight_found (same i) relations role) role from which kind row) (named i))
consulted_all (Err e) s t relations role from which kind row policies same named is = tt

-- ---- the rows that are seen

-- under the expansion of who reads the table the rows are seen that the meaning shows
under_look : Laws → (s : State) (role name : List ℕ) (table : TableDef) (rows : List Stored) → IsExpanded s (look role (name, table))
    → shown_under s role rows (unless_closing (expansion_in s (look role (name, table))))
    ≡ option_map_or (λ closed. []) (closing_in s (look role (name, table))) (filter (λ stored. allows (verdict s (look role (name, table)) side.Old stored.row k.Select)) rows)
under_look laws s role name table rows (Refused t gives closed) =
    let c : Command = look role (name, table) in
    ap (λ given. shown_under s role rows (unless_closing given)) gives
    ∙ sym (ap (λ found. option_map_or (λ closed. []) found (filter (λ stored. allows (verdict s c side.Old stored.row k.Select)) rows)) closed)
under_look laws s role name table rows (Made p gives never expands) =
    let c : Command = look role (name, table) in
    ap (λ given. shown_under s role rows (unless_closing given)) gives
    ∙ (λ i. filter (λ stored. (ap (list_all (λ one. allows one.decision.verdict)) (old_meant laws s c p expands refl stored.id stored.row) ∙ and-true (allows (verdict s c side.Old stored.row k.Select))) i) rows)
    ∙ sym (ap (λ found. option_map_or (λ closed. []) found (filter (λ stored. allows (verdict s c side.Old stored.row k.Select)) rows)) never)

seen_meant : Laws → (s : State) (role name : List ℕ) (found : Option TableDef) (rows : List Stored) → rows_shown_found s role name found rows ≡ shown_of s role name found rows
seen_meant laws s role name None rows = refl
seen_meant laws s role name (Some table) rows = under_look laws s role name table rows (laws.expanded s (look role (name, table)))

-- ---- two sights that are alike on tables

record AreAlike (one other : Sight) (tables : List (List ℕ)) : Type 0 where
  value : (env : Environment) (t : Term) → Within (tables_of t) tables → one.value env t ≡ other.value env t
  seen : (name : List ℕ) (key : Option (List Value)) → one.seen name key ≡ other.seen name key

values_alike : (one other : Sight) (tables : List (List ℕ)) → AreAlike one other tables → (env : Environment) (ts : Terms) → Within (entered (names_all ts)) tables → values_by one env ts ≡ values_by other env ts
values_alike one other tables alike env End within = refl
values_alike one other tables alike env (More t ts) within =
    λ i. alike.value env t (first_part (names_of t) (names_all ts) tables within) i ∷ values_alike one other tables alike env ts (last_part (names_of t) (names_all ts) tables within) i

item_alike : (one other : Sight) (tables : List (List ℕ)) → AreAlike one other tables → (env : Environment) (ts : Terms) → Within (entered (names_all ts)) tables → item_by one env ts ≡ item_by other env ts
item_alike one other tables alike env End within = refl
item_alike one other tables alike env (More t ts) within = alike.value env t (first_part (names_of t) (names_all ts) tables within)

where_alike : (one other : Sight) (tables : List (List ℕ)) → AreAlike one other tables → (env : Environment) (ts : Terms) → Within (entered (names_all ts)) tables → where_by one env ts ≡ where_by other env ts
where_alike one other tables alike env End within = refl
where_alike one other tables alike env (More t ts) within = ap truth_in (alike.value env t (first_part (names_of t) (names_all ts) tables within))

selected_alike : (one other : Sight) (tables : List (List ℕ)) → AreAlike one other tables → (env : Environment) (q : Query) → Within (entered (query_names q)) tables → selected_by one env q ≡ selected_by other env q
selected_alike one other tables alike env (Select from key selects items condition) within =
    λ i. flat_map (λ stored. if is_true (where_alike one other tables alike (inside stored.row env) condition (query_condition from key selects items condition tables within) i)
    then item_alike one other tables alike (inside stored.row env) items (query_items from key selects items condition tables within) i ∷ [] else [])
    (alike.seen from.table (key_of key condition env) i)

seen_alike : (s : State) (one other : Sight) (tables : List (List ℕ)) → AreAlike one other tables → (env : Environment) (q : Query) → Within (entered (query_names q)) tables → seen_by s one env q ≡ seen_by s other env q
seen_alike s one other tables alike env (Select from key selects items condition) within =
    λ i. record {
      table = from.table;
      columns = columns_of (table_of s from.table);
      rows = map (λ stored. record { id = stored.id; row = stored.row; truth = where_alike one other tables alike (inside stored.row env) condition (query_condition from key selects items condition tables within) i })
          (take MAX_SEEN (alike.seen from.table (key_of key condition env) i));
      more = length (alike.seen from.table (key_of key condition env) i) - MAX_SEEN;
      hidden = length (rows_at_key s from.table (key_of key condition env)) - length (alike.seen from.table (key_of key condition env) i);
    }

query_alike : (s : State) (one other : Sight) (tables : List (List ℕ)) → AreAlike one other tables → (env : Environment) (t : Term) → Within (tables_of t) tables
    → option_map (seen_by s one env) (query_in t) ≡ option_map (seen_by s other env) (query_in t)
query_alike s one other tables alike env (Exists q) within = ap Some (seen_alike s one other tables alike env q within)
query_alike s one other tables alike env (InSubquery t q) within = ap Some (seen_alike s one other tables alike env q (last_part (names_of t) (query_names q) tables within))
query_alike s one other tables alike env (NotInSubquery t q) within = ap Some (seen_alike s one other tables alike env q (last_part (names_of t) (query_names q) tables within))
query_alike s one other tables alike env (Scalar q) within = ap Some (seen_alike s one other tables alike env q within)
query_alike s one other tables alike env (Literal v) within = refl
query_alike s one other tables alike env (Column name) within = refl
query_alike s one other tables alike env (Var at) within = refl
query_alike s one other tables alike env CurrentUser within = refl
query_alike s one other tables alike env (Compare how a b) within = refl
query_alike s one other tables alike env (And ts) within = refl
query_alike s one other tables alike env (Or ts) within = refl
query_alike s one other tables alike env (Not t) within = refl
query_alike s one other tables alike env (IsNull t) within = refl
query_alike s one other tables alike env (IsNotNull t) within = refl
query_alike s one other tables alike env (InList t ts) within = refl
query_alike s one other tables alike env (NotInList t ts) within = refl
query_alike s one other tables alike env (Sum signs ts) within = refl

with_values_alike : (one other : Sight) (tables : List (List ℕ)) → AreAlike one other tables → (env : Environment) (t : Term) → Within (tables_of t) tables → with_values one env t ≡ with_values other env t
with_values_alike one other tables alike env (Compare how a b) within =
    λ i. Some (Compare how (Literal (alike.value env a (first_part (names_of a) (names_of b) tables within) i)) (Literal (alike.value env b (last_part (names_of a) (names_of b) tables within) i)))
with_values_alike one other tables alike env (IsNull t) within = λ i. Some (IsNull (Literal (alike.value env t within i)))
with_values_alike one other tables alike env (IsNotNull t) within = λ i. Some (IsNotNull (Literal (alike.value env t within i)))
with_values_alike one other tables alike env (InList t ts) within =
    λ i. Some (InList (Literal (alike.value env t (first_part (names_of t) (names_all ts) tables within) i)) (literals (values_alike one other tables alike env ts (last_part (names_of t) (names_all ts) tables within) i)))
with_values_alike one other tables alike env (NotInList t ts) within =
    λ i. Some (NotInList (Literal (alike.value env t (first_part (names_of t) (names_all ts) tables within) i)) (literals (values_alike one other tables alike env ts (last_part (names_of t) (names_all ts) tables within) i)))
with_values_alike one other tables alike env (InSubquery t q) within =
    λ i. Some (InList (Literal (alike.value env t (first_part (names_of t) (query_names q) tables within) i)) (literals (selected_alike one other tables alike env q (last_part (names_of t) (query_names q) tables within) i)))
with_values_alike one other tables alike env (NotInSubquery t q) within =
    λ i. Some (NotInList (Literal (alike.value env t (first_part (names_of t) (query_names q) tables within) i)) (literals (selected_alike one other tables alike env q (last_part (names_of t) (query_names q) tables within) i)))
with_values_alike one other tables alike env (Literal v) within = refl
with_values_alike one other tables alike env (Column name) within = refl
with_values_alike one other tables alike env (Var at) within = refl
with_values_alike one other tables alike env CurrentUser within = refl
with_values_alike one other tables alike env (And ts) within = refl
with_values_alike one other tables alike env (Or ts) within = refl
with_values_alike one other tables alike env (Not t) within = refl
with_values_alike one other tables alike env (Exists q) within = refl
with_values_alike one other tables alike env (Scalar q) within = refl
with_values_alike one other tables alike env (Sum signs ts) within = refl

-- ---- parts

-- each part's tables are among these
abbrev EachWithin : List (List ℕ) → List (ℕ × Term) → Type 0
EachWithin tables [] = Unit {0}
EachWithin tables (part ∷ parts) = Within (tables_of part.1) tables × EachWithin tables parts

both_within : (tables : List (List ℕ)) (xs ys : List (ℕ × Term)) → EachWithin tables xs → EachWithin tables ys → EachWithin tables (xs ++ ys)
both_within tables [] ys one two = two
both_within tables (x ∷ xs) ys one two = (one.0, both_within tables xs ys one.1 two)

side_within : (tables : List (List ℕ)) (level : ℕ) (t : Term) → Within (tables_of t) tables → EachWithin tables (side_at level t)
side_within tables level (Scalar q) within = (within, tt)
side_within tables level (Literal v) within = tt
side_within tables level (Column name) within = tt
side_within tables level (Var at) within = tt
side_within tables level CurrentUser within = tt
side_within tables level (Compare how a b) within = tt
side_within tables level (And ts) within = tt
side_within tables level (Or ts) within = tt
side_within tables level (Not t) within = tt
side_within tables level (IsNull t) within = tt
side_within tables level (IsNotNull t) within = tt
side_within tables level (InList t ts) within = tt
side_within tables level (NotInList t ts) within = tt
side_within tables level (Exists q) within = tt
side_within tables level (InSubquery t q) within = tt
side_within tables level (NotInSubquery t q) within = tt
side_within tables level (Sum signs ts) within = tt

sides_within : (tables : List (List ℕ)) (level : ℕ) (ts : Terms) → Within (entered (names_all ts)) tables → EachWithin tables (sides_at level ts)
sides_within tables level End within = tt
sides_within tables level (More t ts) within =
    both_within tables (side_at level t) (sides_at level ts) (side_within tables level t (first_part (names_of t) (names_all ts) tables within)) (sides_within tables level ts (last_part (names_of t) (names_all ts) tables within))

mutual
  parts_within : (tables : List (List ℕ)) (level : ℕ) (t : Term) → Within (tables_of t) tables → EachWithin tables (parts_at level t)
  parts_within tables level (And ts) within = (within, each_within tables (suc level) ts within)
  parts_within tables level (Or ts) within = (within, each_within tables (suc level) ts within)
  parts_within tables level (Not t) within = (within, parts_within tables (suc level) t within)
  parts_within tables level (Compare how a b) within =
      (within, both_within tables (side_at (suc level) a) (side_at (suc level) b) (side_within tables (suc level) a (first_part (names_of a) (names_of b) tables within)) (side_within tables (suc level) b (last_part (names_of a) (names_of b) tables within)))
  parts_within tables level (IsNull t) within = (within, side_within tables (suc level) t within)
  parts_within tables level (IsNotNull t) within = (within, side_within tables (suc level) t within)
  parts_within tables level (InList t ts) within =
      (within, both_within tables (side_at (suc level) t) (sides_at (suc level) ts) (side_within tables (suc level) t (first_part (names_of t) (names_all ts) tables within)) (sides_within tables (suc level) ts (last_part (names_of t) (names_all ts) tables within)))
  parts_within tables level (NotInList t ts) within =
      (within, both_within tables (side_at (suc level) t) (sides_at (suc level) ts) (side_within tables (suc level) t (first_part (names_of t) (names_all ts) tables within)) (sides_within tables (suc level) ts (last_part (names_of t) (names_all ts) tables within)))
  parts_within tables level (InSubquery t q) within = (within, side_within tables (suc level) t (first_part (names_of t) (query_names q) tables within))
  parts_within tables level (NotInSubquery t q) within = (within, side_within tables (suc level) t (first_part (names_of t) (query_names q) tables within))
  parts_within tables level (Literal v) within = (within, tt)
  parts_within tables level (Column name) within = (within, tt)
  parts_within tables level (Var at) within = (within, tt)
  parts_within tables level CurrentUser within = (within, tt)
  parts_within tables level (Exists q) within = (within, tt)
  parts_within tables level (Scalar q) within = (within, tt)
  parts_within tables level (Sum signs ts) within = (within, tt)

  each_within : (tables : List (List ℕ)) (level : ℕ) (ts : Terms) → Within (entered (names_all ts)) tables → EachWithin tables (parts_each level ts)
  each_within tables level End within = tt
  each_within tables level (More t ts) within =
      both_within tables (parts_at level t) (parts_each level ts) (parts_within tables level t (first_part (names_of t) (names_all ts) tables within)) (each_within tables level ts (last_part (names_of t) (names_all ts) tables within))

part_alike : (s : State) (one other : Sight) (tables : List (List ℕ)) → AreAlike one other tables → (env : Environment) (level : ℕ) (written t : Term) → Within (tables_of t) tables → part_by s one env level written t ≡ part_by s other env level written t
part_alike s one other tables alike env level written t within =
    λ i. record {
      level = level;
      value = alike.value env t within i;
      expression = written;
      values = with_values_alike one other tables alike env t within i;
      sees = query_alike s one other tables alike env t within i;
    }

parts_alike : (s : State) (one other : Sight) (tables : List (List ℕ)) → AreAlike one other tables → (env : Environment) (written parts : List (ℕ × Term)) → EachWithin tables parts → parts_by s one env written parts ≡ parts_by s other env written parts
parts_alike s one other tables alike env [] parts within = refl
parts_alike s one other tables alike env (part ∷ written) [] within = refl
parts_alike s one other tables alike env ((level, written) ∷ more) ((depth, t) ∷ ts) within =
    λ i. part_alike s one other tables alike env level written t within.0 i ∷ parts_alike s one other tables alike env more ts within.1 i

asked_alike : (s : State) (one other : Sight) (tables : List (List ℕ)) → AreAlike one other tables → (env : Environment) (written t : Term) → Within (tables_of t) tables → asked_by s one env written t ≡ asked_by s other env written t
asked_alike s one other tables alike env written t within =
    λ i. asking.Asked (truth_in (alike.value env t within i)) (parts_alike s one other tables alike env (parts_at 0 written) (parts_at 0 t) (parts_within tables 0 t within) i)

-- ---- policies

asking_alike : (for to : Bool) (found : Option Term) (one other : Term → Asking) → (for ≡ true → to ≡ true → (term : Term) → found ≡ Some term → one term ≡ other term)
    → (if not for then asking.OtherCommand else (if not to then asking.OtherRoles else option_map_or one found asking.NoExpression))
    ≡ (if not for then asking.OtherCommand else (if not to then asking.OtherRoles else option_map_or other found asking.NoExpression))
asking_alike false to found one other same = refl
asking_alike true false found one other same = refl
asking_alike true true None one other same = refl
asking_alike true true (Some term) one other same = same refl refl term refl

-- the tables in what these policies are asked for
abbrev asked_tables : State → InScope → Kind → Side → List Policy → List (List ℕ)
asked_tables s from kind which policies = flat_map condition_tables (conditions_of kind which from s.tables policies)

-- those of the policy's expression are among these
abbrev TermWithin : State → InScope → Option Term → List (List ℕ) → Type 0
TermWithin s from found tables = (term : Term) → found ≡ Some term → Within (tables_of (resolved s (from ∷ []) term)) tables

none_some : (t : Term) → ◌≡◌ {A = Option Term} None (Some t) → ⊥
none_some t same = true≢false (sym (ap is_some same))

some_same : (one other : Term) → ◌≡◌ {A = Option Term} (Some one) (Some other) → one ≡ other
some_same one other same = ap (λ found. option_map_or (λ t. t) found one) same

condition_within : (s : State) (from : InScope) (policy : Policy) (tables : List (List ℕ)) (found : Option Term) (rest : List (Policy × Term)) → Within (flat_map condition_tables (with_condition from s.tables policy found rest)) tables
    → TermWithin s from found tables × Within (flat_map condition_tables rest) tables
condition_within s from policy tables None rest within = (λ term same. absurd (none_some term same), within)
condition_within s from policy tables (Some t) rest within = (
  λ term same. subst (λ it. Within (tables_of (resolved s (from ∷ []) it)) tables) (some_same t term same)
      (subst (λ it. Within (tables_of it) tables) (state_resolved_told s (from ∷ []) t) (within_first (tables_of (resolved_over t (names_over from s.tables))) (flat_map condition_tables rest) tables within)),
  within_last (tables_of (resolved_over t (names_over from s.tables))) (flat_map condition_tables rest) tables within,
)

to_within : (b : Bool) (s : State) (from : InScope) (kind : Kind) (which : Side) (policy : Policy) (rest : List Policy) (tables : List (List ℕ)) → Within (asked_tables s from kind which (cond b (policy ∷ rest) rest)) tables
    → (b ≡ true → TermWithin s from (expression_of policy kind which) tables) × Within (asked_tables s from kind which rest) tables
to_within true s from kind which policy rest tables within =
    let parts = condition_within s from policy tables (expression_of policy kind which) (conditions_of kind which from s.tables rest) within in
    (λ is. parts.0, parts.1)
to_within false s from kind which policy rest tables within = (λ is. absurd (true≢false (sym is)), within)

for_within : (b : Bool) (s : State) (role : List ℕ) (from : InScope) (kind : Kind) (which : Side) (policy : Policy) (rest : List Policy) (tables : List (List ℕ)) → Within (asked_tables s from kind which (filter (is_to s role) (cond b (policy ∷ rest) rest))) tables
    → (b ≡ true → is_to s role policy ≡ true → TermWithin s from (expression_of policy kind which) tables) × Within (asked_tables s from kind which (filter (is_to s role) rest)) tables
for_within true s role from kind which policy rest tables within =
    let parts = to_within (is_to s role policy) s from kind which policy (filter (is_to s role) rest) tables within in
    (λ is. parts.0, parts.1)
for_within false s role from kind which policy rest tables within = (λ is. absurd (true≢false (sym is)), within)

is_asked_by : (for : Bool) (found : Option Term) (term : Term) → for ≡ true → found ≡ Some term → (for && is_some found) ≡ true
is_asked_by for found term is same = (λ i. is i && is_some (same i))

-- each policy, with what two sights tell of it
policies_alike : (s : State) (one other : Sight) (role : List ℕ) (from : InScope) (kind : Kind) (which : Side) (row : List Value) (tables : List (List ℕ)) → AreAlike one other tables → (policies : List Policy)
    → Within (asked_tables s from kind which (filter (is_to s role) (filter (is_asked kind which) policies))) tables
    → map (consulted_in s one role from which kind row) policies ≡ map (consulted_in s other role from which kind row) policies
policies_alike s one other role from kind which row tables alike [] within = refl
policies_alike s one other role from kind which row tables alike (policy ∷ policies) within =
    let parts = for_within (is_asked kind which policy) s role from kind which policy (filter (is_asked kind which) policies) tables within in
    λ i. record {
      policy = policy.name;
      permissive = policy.permissive;
      kind = policy.kind;
      to = policy.to;
      with_check = is_with_check policy kind which;
      asking = asking_alike (is_for_kind policy.kind kind) (is_to s role policy) (expression_of policy kind which)
          (λ term. asked_by s one (over role row) term (resolved s (from ∷ []) term)) (λ term. asked_by s other (over role row) term (resolved s (from ∷ []) term))
          (λ for to term same. asked_alike s one other tables alike (over role row) term (resolved s (from ∷ []) term)
          (parts.0 (is_asked_by (is_for_kind policy.kind kind) (expression_of policy kind which) term for same) to term same)) i;
    }
    ∷ policies_alike s one other role from kind which row tables alike policies parts.1 i

-- ---- a decision

consulting_alike : (reason : Option Exemption) (one other : List Consulted) → (reason ≡ None → one ≡ other) → consulting_by reason one ≡ consulting_by reason other
consulting_alike (Some reason) one other same = refl
consulting_alike None one other same = ap consulting.Policies (same refl)

ruled_tables : (b : Bool) (conditions : List (Policy × Term)) (tables : List (List ℕ)) → b ≡ false → Within (quals_tables (if b then Exempt else Policies conditions)) tables → Within (flat_map condition_tables conditions) tables
ruled_tables true conditions tables is within = absurd (true≢false is)
ruled_tables false conditions tables is within = within

sights_alike : Laws → (s : State) (c : Command) (p : PolicyExpansion) → IsExpansionIn s c p → AreAlike (sight_found s p.relations c.role) (sight_of s c) p.tables
sights_alike laws s c p expands = record {
  value = λ env t within. ap (λ reading. value_given reading.gives) (expands.value t env within) ∙ value_meant s (sees s c) (shown_to s c) (sees_told s c) env t;
  seen = λ name key. seen_meant laws s c.role name (table_of s name) (rows_at_key s name key);
}

details_meant : Laws → (s : State) (c : Command) (p : PolicyExpansion) → IsExpansionIn s c p → (kind : Kind) (which : Side) → IsAsk (kind, which) (asks_of c.kind (reads c)) → (row : List Value)
    → details_by s (sight_found s p.relations c.role) c.role (c.name, c.table) which kind row ≡ details_of s c which kind row
details_meant laws s c p expands kind which ask row =
    let from : InScope = (c.name, c.table) in
    λ i. record {
      table = c.name;
      owner = c.table.owner;
      columns = c.table.columns;
      consulting = consulting_alike (exemption_of s c.role c.table)
          (map (consulted_in s (sight_found s p.relations c.role) c.role from which kind row) (policies_of s c.name))
          (map (consulted_in s (sight_of s c) c.role from which kind row) (policies_of s c.name))
          (λ none. policies_alike s (sight_found s p.relations c.role) (sight_of s c) c.role from kind which row p.tables (sights_alike laws s c p expands) (policies_of s c.name)
          (ruled_tables (is_exempt s c.role c.table) (conditions_of kind which from s.tables (applying_of s c.role c.name kind which)) p.tables
          (sym (exempt_by_reason s c.role c.table) ∙ ap is_some none)
          (ruled_looked laws s c kind which p expands ask))) i;
    }

-- ---- the decisions on rows

each_told : {A C : Type 0} (b : Bool) (f g : A → C) (own other : A) → f own ≡ g own → (b ≡ true → f other ≡ g other) → map f (own ∷ (if b then other ∷ [] else [])) ≡ map g (own ∷ (if b then other ∷ [] else []))
each_told true f g own other first second = λ i. first i ∷ second refl i ∷ []
each_told false f g own other first second = λ i. first i ∷ []

row_detailed : Laws → (s : State) (c : Command) (p : PolicyExpansion) → IsExpansionIn s c p → (which : Side) → IsAskedOn c which → (stored : Stored)
    → map (with_details_found s p.relations c.role (c.name, c.table)) (map (explained_on s c which stored.id stored.row) (kinds_of c)) ≡ map (with_details s c) (map (explained_on s c which stored.id stored.row) (kinds_of c))
row_detailed laws s c p expands which asked stored =
    let on : Kind → Explained = explained_on s c which stored.id stored.row in
    let told : Kind → Details → Explained = λ kind details. record { decision = (on kind).decision; policies = (on kind).policies; row = stored.row; details = Some details } in
    mapped (with_details_found s p.relations c.role (c.name, c.table)) on (kinds_of c)
    ∙ each_told (reads c) (λ kind. with_details_found s p.relations c.role (c.name, c.table) (on kind)) (λ kind. with_details s c (on kind)) c.kind k.Select
    (ap (told c.kind) (details_meant laws s c p expands c.kind which asked.0 stored.row))
    (λ read. ap (told k.Select) (details_meant laws s c p expands k.Select which (asked.1 read) stored.row))
    ∙ sym (mapped (with_details s c) on (kinds_of c))

rows_detailed : Laws → (s : State) (c : Command) (p : PolicyExpansion) → IsExpansionIn s c p → (which : Side) → IsAskedOn c which → (rows : List Stored)
    → map (with_details_found s p.relations c.role (c.name, c.table)) (explained_rows s c which rows) ≡ map (with_details s c) (explained_rows s c which rows)
rows_detailed laws s c p expands which asked [] = refl
rows_detailed laws s c p expands which asked (stored ∷ rows) =
    let on : List Explained = map (explained_on s c which stored.id stored.row) (kinds_of c) in
    map-append (with_details_found s p.relations c.role (c.name, c.table)) on (explained_rows s c which rows)
    ∙ (λ i. row_detailed laws s c p expands which asked stored i ++ rows_detailed laws s c p expands which asked rows i)
    ∙ sym (map-append (with_details s c) on (explained_rows s c which rows))

-- at length or not
pub detailed_meant : Laws → (s : State) (c : Command) (p : PolicyExpansion) → IsExpansionIn s c p → (which : Side) → IsAskedOn c which → (long : Bool) (rows : List Stored)
    → detailed_found s p.relations c.role (c.name, c.table) long (explained_rows s c which rows) ≡ detailed long s c (explained_rows s c which rows)
detailed_meant laws s c p expands which asked true rows = rows_detailed laws s c p expands which asked rows
detailed_meant laws s c p expands which asked false rows = refl

-- of rows of both sides
pub both_detailed : Laws → (s : State) (c : Command) (p : PolicyExpansion) → IsExpansionIn s c p → IsAskedOn c side.Old → IsAskedOn c side.New → (long : Bool) (old new : List Stored)
    → detailed_found s p.relations c.role (c.name, c.table) long (explained_rows s c side.Old old ++ explained_rows s c side.New new) ≡ detailed long s c (explained_rows s c side.Old old ++ explained_rows s c side.New new)
both_detailed laws s c p expands asked_old asked_new true old new =
    let before : List Explained = explained_rows s c side.Old old in
    let after : List Explained = explained_rows s c side.New new in
    map-append (with_details_found s p.relations c.role (c.name, c.table)) before after
    ∙ (λ i. rows_detailed laws s c p expands side.Old asked_old old i ++ rows_detailed laws s c p expands side.New asked_new new i)
    ∙ sym (map-append (with_details s c) before after)
both_detailed laws s c p expands asked_old asked_new false old new = refl
