-- A change that doesn't cover an object leaves its content.
use Rattle.std.specs.Prelude.{◌≡◌, refl, ℕ, List, [], ◌∷◌, Option, Some, None, Bool, true, false, ◌&&◌, ◌||◌, cond, map}
use Rattle.std.specs.Str.{bytes_eq}
use Rattle.std.proofs.Common.{ap, sym, ◌∙◌, subst}
use Rattle.std.proofs.lemmas.Bool.{true≢false}
use Rattle.std.proofs.lemmas.Cmp.{nat_eq_equiv}
use Rattle.std.proofs.lemmas.Map.Text.{is_eq-slice_cmp}
use Rattle.rls_expr.specs.rls_value.specs.{declared.row.RowId.RowId, declared.value.Value.Value, declared.object.Object.Object}
use Rattle.rls_expr.specs.rls_value.specs.declared.object.Object.TheVariants as o
use Rattle.rls_expr.specs.{declared.table.TableDef.TableDef, declared.policy.Policy.Policy}
use Rattle.rls_catalog.specs.{declared.role.RoleDef.RoleDef, declared.role.Membership.Membership, declared.grant.Grant.Grant, declared.stored.Keyed.Keyed, declared.change.Change.Change, declared.change.RowChange.RowChange, Changed.changed, Changed.changed_all, Changed.with_row, Bases.has_key, Bases.is_number, Bases.covers, Bases.Fits, Bases.FitsAll, Bases.covers_any, State.State, State.id_order, State.stored_of, State.role_of, State.members_of, State.table_of, State.grants_of, State.policies_of, State.rows_of, State.is_same_row, State.is_same_id, State.AgreesAt, State.entries_of}
use Rattle.rls_catalog.specs.declared.change.Change.TheVariants as c
use Rattle.rls_catalog.proofs.{ContentsLaws.is_name, ContentsLaws.role_of_changed, ContentsLaws.members_of_changed, ContentsLaws.table_of_changed, ContentsLaws.grants_of_changed, ContentsLaws.policies_of_changed, RowsChanged.entries_of_changed, RowsChanged.passes, RowsChanged.same_id, RowsChanged.equal_if, RowsChanged.rows_kept}

neither_left : (a b : Bool) → (a || b) ≡ false → a ≡ false
neither_left true b is = is
neither_left false b is = refl

neither_right : (a b : Bool) → (a || b) ≡ false → b ≡ false
neither_right true b is = absurd (true≢false is)
neither_right false b is = is

second_not : (a b : Bool) → (a && b) ≡ false → a ≡ true → b ≡ false
second_not true b is here = is
second_not false b is here = absurd (true≢false (sym here))

other_name : (name other : List ℕ) (more : Bool) → (bytes_eq name other || more) ≡ false → is_name name other ≡ false
other_name name other more not = is_eq-slice_cmp name other ∙ neither_left (bytes_eq name other) more not

named : (name other : List ℕ) → is_name name other ≡ true → bytes_eq name other ≡ true
named name other is = sym (is_eq-slice_cmp name other) ∙ is

-- the content that a name had, where the change puts it under another
untouched : {X : Type 0} (name other : List ℕ) (new stood found : X) → (bytes_eq name other || bytes_eq name other) ≡ false → found ≡ cond (is_name name other) new stood → stood ≡ found
untouched name other new stood found not is = sym (is ∙ ap (λ b. cond b new stood) (other_name name other (bytes_eq name other) not))

key_passes : (key : List Value) (id : RowId) (content : Option Keyed) → has_key content key ≡ false → passes (λ stored. is_same_row stored.key key) id content ≡ false
key_passes key id (Some keyed) not = not
key_passes key id None not = refl

id_passes : (number id : RowId) (content : Option Keyed) → is_same_id number id ≡ false → passes (λ stored. is_same_id number stored.id) id content ≡ false
id_passes number id (Some keyed) not = not
id_passes number id None not = refl

rows_same : (s : State) (change : RowChange) (q : List ℕ) → is_name q change.table ≡ false → rows_of s q ≡ rows_of (changed s (c.Row change)) q
rows_same s change q not =
    ap (map stored_of) (sym (entries_of_changed s change q ∙ ap (λ b. cond b (with_row change.id change.after (entries_of s q)) (entries_of s q)) not))

key_same : (s : State) (change : RowChange) (table : List ℕ) (key : List Value) → Fits s (c.Row change) → covers (o.Key table key) (c.Row change) ≡ false
    → AgreesAt s (changed s (c.Row change)) (o.Key table key)
key_same s change table key fits not =
    rows_kept s change table (λ stored. is_same_row stored.key key) fits (λ here. (
      key_passes key change.id change.before (second_not (bytes_eq table change.table) (has_key change.before key) (neither_left (bytes_eq table change.table && has_key change.before key) (bytes_eq table change.table && has_key change.after key) not) (named table change.table here)),
      key_passes key change.id change.after (second_not (bytes_eq table change.table) (has_key change.after key) (neither_right (bytes_eq table change.table && has_key change.before key) (bytes_eq table change.table && has_key change.after key) not) (named table change.table here)),
    ))

own_number : (id other : RowId) → id ≡ other → is_number id other ≡ true
own_number id other same = subst (λ number. is_number id number ≡ true) same (λ i. nat_eq_equiv.refl id.txn i && nat_eq_equiv.refl id.n i)

not_if : (b : Bool) → (b ≡ true → ⊥) → b ≡ false
not_if true never = absurd (never refl)
not_if false never = refl

other_number : (id other : RowId) → is_number id other ≡ false → is_same_id id other ≡ false
other_number id other not =
    not_if (is_same_id id other) (λ same. true≢false (sym (own_number id other (same_id id other (equal_if (id_order id other) same))) ∙ not))

row_same : (s : State) (change : RowChange) (table : List ℕ) (number : RowId) → Fits s (c.Row change) → covers (o.RowOf table number) (c.Row change) ≡ false
    → AgreesAt s (changed s (c.Row change)) (o.RowOf table number)
row_same s change table number fits not =
    let other : bytes_eq table change.table ≡ true → is_same_id number change.id ≡ false =
    λ here. other_number number change.id (second_not (bytes_eq table change.table) (is_number number change.id) (neither_left (bytes_eq table change.table && is_number number change.id) (bytes_eq table change.table && is_number number change.id) not) here) in
    rows_kept s change table (λ stored. is_same_id number stored.id) fits (λ here. (
      id_passes number change.id change.before (other (named table change.table here)),
      id_passes number change.id change.after (other (named table change.table here)),
    ))

-- a change that names as before what stands at its place, and doesn't cover an object, leaves its content
pub uncovered_agrees : (s : State) (change : Change) (object : Object) → Fits s change → covers object change ≡ false → AgreesAt s (changed s change) object
uncovered_agrees s (c.Role other def) (o.Role name) fits not = untouched name other (Some def) (role_of s name) (role_of (changed s (c.Role other def)) name) not (role_of_changed s other def name)
uncovered_agrees s (c.Role other def) (o.Members name) fits not = refl
uncovered_agrees s (c.Role other def) (o.Table name) fits not = refl
uncovered_agrees s (c.Role other def) (o.Grants name) fits not = refl
uncovered_agrees s (c.Role other def) (o.Policies name) fits not = refl
uncovered_agrees s (c.Role other def) (o.Rows table) fits not = refl
uncovered_agrees s (c.Role other def) (o.Key table key) fits not = refl
uncovered_agrees s (c.Role other def) (o.RowOf table number) fits not = refl
uncovered_agrees s (c.Members other content) (o.Role name) fits not = refl
uncovered_agrees s (c.Members other content) (o.Members name) fits not = untouched name other content (members_of s name) (members_of (changed s (c.Members other content)) name) not (members_of_changed s other content name)
uncovered_agrees s (c.Members other content) (o.Table name) fits not = refl
uncovered_agrees s (c.Members other content) (o.Grants name) fits not = refl
uncovered_agrees s (c.Members other content) (o.Policies name) fits not = refl
uncovered_agrees s (c.Members other content) (o.Rows table) fits not = refl
uncovered_agrees s (c.Members other content) (o.Key table key) fits not = refl
uncovered_agrees s (c.Members other content) (o.RowOf table number) fits not = refl
uncovered_agrees s (c.Table other def) (o.Role name) fits not = refl
uncovered_agrees s (c.Table other def) (o.Members name) fits not = refl
uncovered_agrees s (c.Table other def) (o.Table name) fits not = untouched name other (Some def) (table_of s name) (table_of (changed s (c.Table other def)) name) not (table_of_changed s other def name)
uncovered_agrees s (c.Table other def) (o.Grants name) fits not = refl
uncovered_agrees s (c.Table other def) (o.Policies name) fits not = refl
uncovered_agrees s (c.Table other def) (o.Rows table) fits not = refl
uncovered_agrees s (c.Table other def) (o.Key table key) fits not = refl
uncovered_agrees s (c.Table other def) (o.RowOf table number) fits not = refl
uncovered_agrees s (c.Grants other content) (o.Role name) fits not = refl
uncovered_agrees s (c.Grants other content) (o.Members name) fits not = refl
uncovered_agrees s (c.Grants other content) (o.Table name) fits not = refl
uncovered_agrees s (c.Grants other content) (o.Grants name) fits not = untouched name other content (grants_of s name) (grants_of (changed s (c.Grants other content)) name) not (grants_of_changed s other content name)
uncovered_agrees s (c.Grants other content) (o.Policies name) fits not = refl
uncovered_agrees s (c.Grants other content) (o.Rows table) fits not = refl
uncovered_agrees s (c.Grants other content) (o.Key table key) fits not = refl
uncovered_agrees s (c.Grants other content) (o.RowOf table number) fits not = refl
uncovered_agrees s (c.Policies other content) (o.Role name) fits not = refl
uncovered_agrees s (c.Policies other content) (o.Members name) fits not = refl
uncovered_agrees s (c.Policies other content) (o.Table name) fits not = refl
uncovered_agrees s (c.Policies other content) (o.Grants name) fits not = refl
uncovered_agrees s (c.Policies other content) (o.Policies name) fits not = untouched name other content (policies_of s name) (policies_of (changed s (c.Policies other content)) name) not (policies_of_changed s other content name)
uncovered_agrees s (c.Policies other content) (o.Rows table) fits not = refl
uncovered_agrees s (c.Policies other content) (o.Key table key) fits not = refl
uncovered_agrees s (c.Policies other content) (o.RowOf table number) fits not = refl
uncovered_agrees s (c.Row change) (o.Role name) fits not = refl
uncovered_agrees s (c.Row change) (o.Members name) fits not = refl
uncovered_agrees s (c.Row change) (o.Table name) fits not = refl
uncovered_agrees s (c.Row change) (o.Grants name) fits not = refl
uncovered_agrees s (c.Row change) (o.Policies name) fits not = refl
uncovered_agrees s (c.Row change) (o.Rows table) fits not = rows_same s change table (other_name table change.table (bytes_eq table change.table) not)
uncovered_agrees s (c.Row change) (o.Key table key) fits not = key_same s change table key fits not
uncovered_agrees s (c.Row change) (o.RowOf table number) fits not = row_same s change table number fits not

agrees_itself : (s : State) (object : Object) → AgreesAt s s object
agrees_itself s (o.Role name) = refl
agrees_itself s (o.Members name) = refl
agrees_itself s (o.Table name) = refl
agrees_itself s (o.Grants name) = refl
agrees_itself s (o.Policies name) = refl
agrees_itself s (o.Rows table) = refl
agrees_itself s (o.Key table key) = refl
agrees_itself s (o.RowOf table number) = refl

agrees_further : (s between other : State) (object : Object) → AgreesAt s between object → AgreesAt between other object → AgreesAt s other object
agrees_further s between other (o.Role name) first second = first ∙ second
agrees_further s between other (o.Members name) first second = first ∙ second
agrees_further s between other (o.Table name) first second = first ∙ second
agrees_further s between other (o.Grants name) first second = first ∙ second
agrees_further s between other (o.Policies name) first second = first ∙ second
agrees_further s between other (o.Rows table) first second = first ∙ second
agrees_further s between other (o.Key table key) first second = first ∙ second
agrees_further s between other (o.RowOf table number) first second = first ∙ second

-- so do several changes, each of which names as before what the earlier ones leave at its place
pub uncovered_all_agrees : (s : State) (changes : List Change) (object : Object) → FitsAll s changes → covers_any object changes ≡ false → AgreesAt s (changed_all s changes) object
uncovered_all_agrees s [] object fits not = agrees_itself s object
uncovered_all_agrees s (change ∷ more) object fits not =
    agrees_further s (changed s change) (changed_all (changed s change) more) object
    (uncovered_agrees s change object fits.0 (neither_left (covers object change) (covers_any object more) not))
    (uncovered_all_agrees (changed s change) more object fits.1 (neither_right (covers object change) (covers_any object more) not))

-- ---- what a change leaves of a catalogue object that it covers: its new content

either_same : (b : Bool) → (b || b) ≡ b
either_same true = refl
either_same false = refl

overwritten : {X : Type 0} (name other : List ℕ) (new stood found : X) → (bytes_eq name other || bytes_eq name other) ≡ true → found ≡ cond (is_name name other) new stood → found ≡ new
overwritten name other new stood found covered is =
    is ∙ ap (λ b. cond b new stood) (is_eq-slice_cmp name other ∙ sym (either_same (bytes_eq name other)) ∙ covered)

-- the role has the new attributes
pub covered_role : (s : State) (name other : List ℕ) (def : RoleDef) → covers (o.Role name) (c.Role other def) ≡ true → role_of (changed s (c.Role other def)) name ≡ Some def
covered_role s name other def covered = overwritten name other (Some def) (role_of s name) (role_of (changed s (c.Role other def)) name) covered (role_of_changed s other def name)

-- the role has the new memberships
pub covered_members : (s : State) (name other : List ℕ) (content : List Membership) → covers (o.Members name) (c.Members other content) ≡ true
    → members_of (changed s (c.Members other content)) name ≡ content
covered_members s name other content covered =
    overwritten name other content (members_of s name) (members_of (changed s (c.Members other content)) name) covered (members_of_changed s other content name)

-- the table has the new definition
pub covered_table : (s : State) (name other : List ℕ) (def : TableDef) → covers (o.Table name) (c.Table other def) ≡ true → table_of (changed s (c.Table other def)) name ≡ Some def
covered_table s name other def covered = overwritten name other (Some def) (table_of s name) (table_of (changed s (c.Table other def)) name) covered (table_of_changed s other def name)

-- the table has the new grants
pub covered_grants : (s : State) (name other : List ℕ) (content : List Grant) → covers (o.Grants name) (c.Grants other content) ≡ true
    → grants_of (changed s (c.Grants other content)) name ≡ content
covered_grants s name other content covered =
    overwritten name other content (grants_of s name) (grants_of (changed s (c.Grants other content)) name) covered (grants_of_changed s other content name)

-- the table has the new policies
pub covered_policies : (s : State) (name other : List ℕ) (content : List Policy) → covers (o.Policies name) (c.Policies other content) ≡ true
    → policies_of (changed s (c.Policies other content)) name ≡ content
covered_policies s name other content covered =
    overwritten name other content (policies_of s name) (policies_of (changed s (c.Policies other content)) name) covered (policies_of_changed s other content name)
