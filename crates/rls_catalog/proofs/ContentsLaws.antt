-- What a change of a catalogue object leaves as the contents.
use Rattle.std.specs.Prelude.{◌≡◌, refl, ℕ, List, [], ◌∷◌, Option, Some, Bool, true, false, cond}
use Rattle.std.specs.BTreeMap.{is_at, insert_entry}
use Rattle.std.specs.Ordering.{is_eq, match_ordering}
use Rattle.std.specs.declared.cmp.Ordering.{Ordering}
use Rattle.std.specs.declared.cmp.Ordering.TheVariants.{Less, Equal, Greater}
use Rattle.std.specs.FinMap.{nat_cmp-IsAntisymmetric, slice_cmp-IsAntisymmetric}
use Rattle.std.proofs.Common.{ap, sym, ◌∙◌}
use Rattle.std.proofs.lemmas.Bool.{true≢false}
use Rattle.std.proofs.lemmas.Map.Text.{is_eq-slice_cmp}
use Rattle.std.proofs.lemmas.Slice.Eq.{bytes_eq-Decides}
use Rattle.rls_expr.specs.{declared.table.TableDef.TableDef, declared.policy.Policy.Policy}
use Rattle.rls_catalog.specs.{declared.role.RoleDef.RoleDef, declared.role.Membership.Membership, declared.grant.Grant.Grant, Changed.changed, State.State, State.name_order, State.at, State.or_none, State.role_of, State.members_of, State.table_of, State.grants_of, State.policies_of, declared.change.Change.Change}

-- whether the names are the same
abbrev pub is_name : List ℕ → List ℕ → Bool
is_name name other = is_at (name_order name) other

equal_if : (o : Ordering) → is_eq o ≡ true → o ≡ Equal
equal_if Less is = absurd (true≢false (sym is))
equal_if Equal is = refl
equal_if Greater is = absurd (true≢false (sym is))

pub same_name : (name other : List ℕ) → is_name name other ≡ true → name ≡ other
same_name name other is = slice_cmp-IsAntisymmetric nat_cmp-IsAntisymmetric name other (equal_if (name_order name other) is)

twice : {X : Type 0} (b d : Bool) (v w rest : X) → b ≡ d → cond d v rest ≡ cond b v (cond d w rest)
twice true true v w rest same = refl
twice true false v w rest same = absurd (true≢false same)
twice false true v w rest same = absurd (true≢false (sym same))
twice false false v w rest same = refl

turned : {X : Type 0} (b d : Bool) (v w rest : X) → (b ≡ true → d ≡ true → v ≡ w) → cond d w (cond b v rest) ≡ cond b v (cond d w rest)
turned true true v w rest same = sym (same refl refl)
turned true false v w rest same = refl
turned false true v w rest same = refl
turned false false v w rest same = refl

pub own_name : (name other : List ℕ) → name ≡ other → is_name name other ≡ true
own_name name other same = is_eq-slice_cmp name other ∙ (bytes_eq-Decides name other).1 same

put_if : {X : Type 0} (o : Ordering) (q k : List ℕ) (v : X) (e : List ℕ × X) (es more : List (List ℕ × X)) → name_order k e.0 ≡ o
    → at q more ≡ cond (is_name q k) (Some v) (at q es)
    → at q (match_ordering o ((k, v) ∷ e ∷ es) ((e.0, v) ∷ es) (e ∷ more)) ≡ cond (is_name q k) (Some v) (at q (e ∷ es))
put_if Less q k v e es more order further = refl
put_if Equal q k v e es more order further = twice (is_name q k) (is_name q e.0) (Some v) (Some e.1) (at q es) (ap (is_name q) (same_name k e.0 (ap is_eq order)))
put_if Greater q k v e es more order further =
    ap (cond (is_name q e.0) (Some e.1)) further
    ∙ turned (is_name q k) (is_name q e.0) (Some v) (Some e.1) (at q es) (λ here there. absurd (true≢false (sym (own_name k e.0 (sym (same_name q k here) ∙ same_name q e.0 there)) ∙ ap is_eq order)))

-- what stands under a name after a content was put under a name
pub at_put : {X : Type 0} (q k : List ℕ) (v : X) (es : List (List ℕ × X)) → at q (insert_entry name_order es k v) ≡ cond (is_name q k) (Some v) (at q es)
at_put q k v [] = refl
at_put q k v (e ∷ es) = put_if (name_order k e.0) q k v e es (insert_entry name_order es k v) refl (at_put q k v es)

or_none_if : {X : Type 0} (b : Bool) (v : List X) (rest : Option (List X)) → or_none (cond b (Some v) rest) ≡ cond b v (or_none rest)
or_none_if true v rest = refl
or_none_if false v rest = refl

pub role_of_changed : (s : State) (name : List ℕ) (def : RoleDef) (q : List ℕ) → role_of (changed s (Change.Role name def)) q ≡ cond (is_name q name) (Some def) (role_of s q)
role_of_changed s name def q = at_put q name def s.roles

pub members_of_changed : (s : State) (name : List ℕ) (content : List Membership) (q : List ℕ) → members_of (changed s (Change.Members name content)) q ≡ cond (is_name q name) content (members_of s q)
members_of_changed s name content q = ap or_none (at_put q name content s.members) ∙ or_none_if (is_name q name) content (at q s.members)

pub table_of_changed : (s : State) (name : List ℕ) (def : TableDef) (q : List ℕ) → table_of (changed s (Change.Table name def)) q ≡ cond (is_name q name) (Some def) (table_of s q)
table_of_changed s name def q = at_put q name def s.tables

pub grants_of_changed : (s : State) (name : List ℕ) (content : List Grant) (q : List ℕ) → grants_of (changed s (Change.Grants name content)) q ≡ cond (is_name q name) content (grants_of s q)
grants_of_changed s name content q = ap or_none (at_put q name content s.grants) ∙ or_none_if (is_name q name) content (at q s.grants)

pub policies_of_changed : (s : State) (name : List ℕ) (content : List Policy) (q : List ℕ) → policies_of (changed s (Change.Policies name content)) q ≡ cond (is_name q name) content (policies_of s q)
policies_of_changed s name content q = ap or_none (at_put q name content s.policies) ∙ or_none_if (is_name q name) content (at q s.policies)
