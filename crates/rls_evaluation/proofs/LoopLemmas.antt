-- One turn of each loop: what was evaluated and what is left lead to the whole.
use Rattle.std.specs.Prelude.{◌≡◌, refl, ℕ, zero, suc, ◌+◌, ◌-◌, ◌≤◌, ◌<◌, List, [], ◌∷◌, ◌++◌, Bool, true, false, Option, Some, None, Result, Ok, length, take, drop, get_or, slice_index_or}
use Rattle.std.proofs.Common.{arith, ap, sym, subst, ◌∙◌, append-nil, append_assoc}
use Rattle.std.proofs.lemmas.List.{drop_all, take_all}
use native.Mathlib.Numerals.{unary_clauses}
use Rattle.rls_value.specs.{declared.value.Value.Value, declared.object.Object.Object, declared.truth.Truth.Truth, declared.truth.Truth.TheVariants.True, declared.truth.Truth.TheVariants.False, declared.truth.Truth.TheVariants.Unknown, Truths.conjunction_of, Truths.disjunction_of}
use Rattle.std.specs.declared.alloc.AllocError.{AllocError}
use Rattle.rls_source.specs.rls_catalog.specs.rls_expr.specs.{declared.expr.Sign.Sign, declared.expr.Sign.TheVariants.Plus, declared.policy.Policy.Policy, Terms.Term, Terms.More, Terms.terms_of}
use Rattle.rls_verdict.specs.rls_catalog.specs.State.{State}
use Rattle.rls_source.specs.Askings.{Asking, followed_by}
use Rattle.rls_evaluation.specs.{Items.with_item, Keys.or_else, Holding.Evaluates, Environments.Environment, Environments.joined, Environments.number_or_null, Gathering.gathered, Gathering.with_row}
use Rattle.rls_evaluation.specs.Eval.{Shows, value_of, together, item_or, sum_of, sum_from}
use Rattle.rls_evaluation.proofs.Telling.{Leads, leads_end, turn, tells_on, drop_at}

-- AND is associative
pub and_again : (a b c : Truth) → conjunction_of (conjunction_of a b) c ≡ conjunction_of a (conjunction_of b c)
and_again False b c = refl
and_again Unknown False c = refl
and_again Unknown Unknown False = refl
and_again Unknown Unknown Unknown = refl
and_again Unknown Unknown True = refl
and_again Unknown True c = refl
and_again True b c = refl

-- OR is associative
pub or_again : (a b c : Truth) → disjunction_of (disjunction_of a b) c ≡ disjunction_of a (disjunction_of b c)
or_again True b c = refl
or_again Unknown True c = refl
or_again Unknown Unknown False = refl
or_again Unknown Unknown Unknown = refl
or_again Unknown Unknown True = refl
or_again Unknown False c = refl
or_again False b c = refl

-- AND of all, before the first
pub and_none : (a : Truth) → conjunction_of True a ≡ a
and_none False = refl
and_none Unknown = refl
and_none True = refl

-- OR of none
pub or_none : (a : Truth) → disjunction_of False a ≡ a
or_none False = refl
or_none Unknown = refl
or_none True = refl

-- AND with none further
pub and_last : (a : Truth) → a ≡ conjunction_of a True
and_last False = refl
and_last Unknown = refl
and_last True = refl

-- OR with none further
pub or_last : (a : Truth) → a ≡ disjunction_of a False
or_last False = refl
or_last Unknown = refl
or_last True = refl

-- what is left begins with the part at the index
terms_from : (es : List Term) (i : ℕ) (e : Term) → i < length es → e ≡ get_or es i e → terms_of (drop i es) ≡ More e (terms_of (drop (suc i) es))
terms_from [] i e h is = absurd (omega arith)
terms_from (x ∷ es) zero e h is = ap (λ y. More y (terms_of es)) (sym is)
terms_from (x ∷ es) (suc i) e h is = terms_from es i e (omega arith) is

-- the same, with the next index as code writes it
terms_left : (es : List Term) (i : ℕ) (e : Term) → i < length es → e ≡ get_or es i e → terms_of (drop i es) ≡ More e (terms_of (drop (i + 1) es))
terms_left es i e h is = simp unary_clauses (terms_from es i e h is)

-- a turn over parts, whose truths are put together by AND or by OR
pub terms_turn : (op : Truth → Truth → Truth) (again : (a b c : Truth) → op (op a b) c ≡ op a (op b c)) (truth : Value → Truth) (none : Truth) (sees : Shows) (env : Environment)
    (es : List Term) (i : ℕ) (e : Term) (v : Value) (so_far next : Truth) (now mid after : State) (old read_set new : List Object)
    → i < length es → e ≡ get_or es i e → next ≡ op so_far (truth v) → mid ≡ now
    → Leads (together (λ v rest. op (truth v) rest) none (terms_of es) sees env) (together (λ v rest. op (truth v) rest) none (terms_of (drop i es)) sees env) (op so_far) now old read_set
    → Evaluates (value_of e sees env) mid after read_set new (Ok v)
    → Leads (together (λ v rest. op (truth v) rest) none (terms_of es) sees env) (together (λ v rest. op (truth v) rest) none (terms_of (drop (i + 1) es)) sees env) (op next) now old new
terms_turn op again truth none sees env es i e v so_far next now mid after old read_set new below is step same leads told =
    turn (together (λ v rest. op (truth v) rest) none (terms_of es) sees env) (op so_far) (op next) (λ v rest. op (truth v) rest)
    (together (λ v rest. op (truth v) rest) none (terms_of (drop i es)) sees env) (value_of e sees env) (together (λ v rest. op (truth v) rest) none (terms_of (drop (i + 1) es)) sees env)
    now mid after old read_set new v (ap (λ ts. together (λ v rest. op (truth v) rest) none ts sees env) (terms_left es i e below is))
    (λ rest. ap (λ t. op t rest) step ∙ again so_far (truth v) rest) same leads told

-- the end of the parts
pub terms_end : (op : Truth → Truth → Truth) (truth : Value → Truth) (none : Truth) (sees : Shows) (env : Environment) (es : List Term) (i : ℕ) (so_far : Truth) (now after : State) (old read_set : List Object)
    → length es ≤ i → so_far ≡ op so_far none → after ≡ now
    → Leads (together (λ v rest. op (truth v) rest) none (terms_of es) sees env) (together (λ v rest. op (truth v) rest) none (terms_of (drop i es)) sees env) (op so_far) now old read_set
    → Evaluates (together (λ v rest. op (truth v) rest) none (terms_of es) sees env) now after old read_set (Ok so_far)
terms_end op truth none sees env es i so_far now after old read_set past is same leads =
    leads_end (together (λ v rest. op (truth v) rest) none (terms_of es) sees env) (together (λ v rest. op (truth v) rest) none (terms_of (drop i es)) sees env) (op so_far) now after old read_set none so_far
    (ap (λ ts. together (λ v rest. op (truth v) rest) none (terms_of ts) sees env) (drop_all i es past)) is same leads

-- a turn over a list
pub rows_turn : {A B R V : Type 0} (whole : Asking V) (join next : R → V) (put : A → B → R → R) (none : R) (ask : A → Asking B) (xs : List A) (i : ℕ) (x : A) (y : B)
    (now mid after : State) (old read_set new : List Object)
    → i < length xs → x ≡ get_or xs i x → ((rest : R) → next rest ≡ join (put x y rest)) → mid ≡ now
    → Leads whole (gathered put none ask (drop i xs)) join now old read_set → Evaluates (ask x) mid after read_set new (Ok y)
    → Leads whole (gathered put none ask (drop (i + 1) xs)) next now old new
rows_turn whole join next put none ask xs i x y now mid after old read_set new below is step same leads told =
    turn whole join next (put x) (gathered put none ask (drop i xs)) (ask x) (gathered put none ask (drop (i + 1) xs)) now mid after old read_set new y
    (ap (gathered put none ask) (drop_at xs i x below is)) step same leads told

-- the first item stays the first
pub item_again : (first item next : Option Value) (rest : Value) → next ≡ or_else first item → item_or next rest ≡ item_or first (item_or item rest)
item_again None item next rest is = ap (λ item. item_or item rest) is
item_again (Some v) item next rest is = ap (λ item. item_or item rest) is

-- a row more, if it is kept
pub row_added : (next rows rest : List (List Value)) (is : Bool) (row : List Value) → next ≡ rows ++ with_row row is [] → next ++ rest ≡ rows ++ with_row row is rest
row_added next rows rest true row added = ap (λ n. n ++ rest) added ∙ append_assoc rows (row ∷ []) rest
row_added next rows rest false row added = ap (λ n. n ++ rest) added ∙ ap (λ n. n ++ rest) (append-nil rows)

-- an item more, if there is one
pub item_added : (next values rest : List Value) (row : List Value) (item : Option Value) → next ≡ values ++ with_item [] item [] → next ++ rest ≡ values ++ with_item row item rest
item_added next values rest row (Some v) added = ap (λ n. n ++ rest) added ∙ append_assoc values (v ∷ []) rest
item_added next values rest row None added = ap (λ n. n ++ rest) added ∙ ap (λ n. n ++ rest) (append-nil values)

-- a judgement more
pub judgement_added : (next first rest : List (Policy × Truth)) (policy : Policy) (truth : Truth) → next ≡ first ++ (policy, truth) ∷ [] → next ++ rest ≡ first ++ (policy, truth) ∷ rest
judgement_added next first rest policy truth added = ap (λ n. n ++ rest) added ∙ append_assoc first ((policy, truth) ∷ []) rest

-- all behind the first
behind_first : {A : Type 0} (x : A) (xs : List A) → take (length (x ∷ xs) - 1) xs ≡ xs
behind_first x xs = take_all (length (x ∷ xs) - 1) xs (omega arith)

-- the first part of a sum, then the others
pub sum_told : (sees : Shows) (env : Environment) (signs : List Sign) (parts : List Term) (e : Term) (before mid after : State) (old between new : List Object) (v number : Value) (result : Result Value AllocError)
    → 1 ≤ length parts → e ≡ get_or parts 0 e → Evaluates (value_of e sees env) before mid old between (Ok v) → number ≡ number_or_null v
    → Evaluates (sum_from number signs (terms_of (take (length parts - 1) (drop 1 parts))) sees env) mid after between new result → Evaluates (sum_of signs (terms_of parts) sees env) before after old new result
sum_told sees env signs [] e before mid after old between new v number result some is first same rest = absurd (omega (arith, some))
sum_told sees env signs (x ∷ xs) e before mid after old between new v number result some is first same rest =
    tells_on (value_of x sees env) (λ v. sum_from (number_or_null v) signs (terms_of xs) sees env) before mid after old between new v result
    (subst (λ e. Evaluates (value_of e sees env) before mid old between (Ok v)) is first)
    (subst (λ es. Evaluates (sum_from (number_or_null v) signs (terms_of es) sees env) mid after between new result) (behind_first x xs)
    (subst (λ n. Evaluates (sum_from n signs (terms_of (take (length (x ∷ xs) - 1) xs)) sees env) mid after between new result) same rest))

-- one part more of a sum, then the others
pub sum_on : (sees : Shows) (env : Environment) (so_far : Value) (signs : List Sign) (parts : List Term) (e : Term) (before mid after : State) (old between new : List Object) (v next : Value) (result : Result Value AllocError)
    → 1 ≤ length signs → 1 ≤ length parts → e ≡ get_or parts 0 e → Evaluates (value_of e sees env) before mid old between (Ok v) → next ≡ joined (slice_index_or signs 0 Plus) so_far v
    → Evaluates (sum_from next (take (length signs - 1) (drop 1 signs)) (terms_of (take (length parts - 1) (drop 1 parts))) sees env) mid after between new result → Evaluates (sum_from so_far signs (terms_of parts) sees env) before after old new result
sum_on sees env so_far [] parts e before mid after old between new v next result some many is first same rest = absurd (omega (arith, some))
sum_on sees env so_far (y ∷ ys) [] e before mid after old between new v next result some many is first same rest = absurd (omega (arith, many))
sum_on sees env so_far (y ∷ ys) (x ∷ xs) e before mid after old between new v next result some many is first same rest =
    tells_on (value_of x sees env) (λ v. sum_from (joined y so_far v) ys (terms_of xs) sees env) before mid after old between new v result
    (subst (λ e. Evaluates (value_of e sees env) before mid old between (Ok v)) is first)
    (subst (λ ys. Evaluates (sum_from (joined y so_far v) ys (terms_of xs) sees env) mid after between new result) (behind_first y ys)
    (subst (λ es. Evaluates (sum_from (joined y so_far v) (take (length (y ∷ ys) - 1) ys) (terms_of es) sees env) mid after between new result) (behind_first x xs)
    (subst (λ n. Evaluates (sum_from n (take (length (y ∷ ys) - 1) ys) (terms_of (take (length (x ∷ xs) - 1) xs)) sees env) mid after between new result) same rest)))
