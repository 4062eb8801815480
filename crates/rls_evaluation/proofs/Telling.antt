-- Calls that note what they read in a set, one after another and in loops.
use Rattle.std.specs.Prelude.{◌≡◌, refl, ℕ, List, [], ◌∷◌, ◌++◌, Bool, true, false, Option, Some, None, Result, Ok, Err, IfOk, OnOk, drop, length, get_or, ◌<◌, ◌+◌, if◌then◌else◌}
use Rattle.std.proofs.Common.{ap, sym, ◌∙◌, subst, append-nil}
use Rattle.std.proofs.lemmas.List.{drop_more}
use Rattle.std.specs.declared.alloc.AllocError.{AllocError}
use Rattle.std.specs.List.{list_any}
use Rattle.rls_value.specs.{declared.refusal.Refusal.Refusal, declared.value.Value.Value, Values.is_null, declared.object.Object.Object, Giving.and_then}
use Rattle.rls_value.specs.declared.object.Object.TheVariants as o
use Rattle.rls_verdict.specs.rls_catalog.specs.State.{State, rows_of, rows_with_key}
use Rattle.rls_source.specs.Asked.{rows_at, keyed_at, asked_key}
use Rattle.rls_evaluation.specs.{Eval.item_if, Showing.values_of, Holding.Evaluates, Holding.asked_of}
use Rattle.rls_source.specs.{Footprints.with_object, Footprints.with_reads, FootprintLaws.with_reads_more, Readings.unread, Readings.next_reads}
use Rattle.rls_source.specs.Askings.{Asking, known, asked_if, followed_by}

-- one call after another
pub tells_then : {A B : Type 0} (first : Asking A) (next : A → Asking B) (before mid after : State) (old between new : List Object) (a : A) (b : B)
    → Evaluates first before mid old between (Ok a) → Evaluates (next a) mid after between new (Ok b) → Evaluates (followed_by first next) before after old new (Ok b)
tells_then first next before mid after old between new a b x y = record {
  given = ap (λ r. and_then r (λ a. ((next a).in_state before).gives)) x.given ∙ subst (λ s. ((next a).in_state s).gives ≡ Ok b) x.stands y.given;
  noted = y.noted ∙ (λ i. with_reads (x.noted i) ((next a).in_state (x.stands i)).reads)
      ∙ with_reads_more old (first.in_state before).reads ((next a).in_state before).reads
      ∙ ap (λ r. with_reads old ((first.in_state before).reads ++ next_reads r (λ a. (next a).in_state before))) (sym x.given);
  stands = y.stands ∙ x.stands;
}

-- what takes no read
pub tells_known : {A : Type 0} (now after : State) (read_set : List Object) (a : A) → after ≡ now → Evaluates (known (Ok a)) now after read_set read_set (Ok a)
tells_known now after read_set a same = record { given = refl; noted = refl; stands = same }

-- a function of what is told
pub tells_map : {A B : Type 0} (asking : Asking A) (f : A → B) (before after : State) (old new : List Object) (a : A)
    → Evaluates asking before after old new (Ok a) → Evaluates (followed_by asking (λ a. known (Ok (f a)))) before after old new (Ok (f a))
tells_map asking f before after old new a x = tells_then asking (λ a. known (Ok (f a))) before after after old new new a (f a) x (tells_known after after new (f a) refl)

-- the same result by its own name
pub tells_result : {A : Type 0} (asking : Asking A) (before after : State) (old new : List Object) (a b : A) → Evaluates asking before after old new (Ok a) → b ≡ a → Evaluates asking before after old new (Ok b)
tells_result asking before after old new a b told same = subst (λ x. Evaluates asking before after old new (Ok x)) (sym same) told

-- the same of a call that gives what was told
pub tells_given : {A : Type 0} (asking : Asking A) (before after : State) (old new : List Object) (a : A) (result : Result A AllocError)
    → Evaluates asking before after old new (Ok a) → IfOk result (λ b. b ≡ a) → Evaluates asking before after old new result
tells_given asking before after old new a (Ok b) told same = tells_result asking before after old new a b told same
tells_given asking before after old new a (Err refused) told same = record { given = tt; noted = tt; stands = told.stands }

-- the same, what comes of it being named
pub tells_as : {A B : Type 0} (asking : Asking A) (f : A → B) (before after : State) (old new : List Object) (a : A) (b : B)
    → Evaluates asking before after old new (Ok a) → b ≡ f a → Evaluates (followed_by asking (λ a. known (Ok (f a)))) before after old new (Ok b)
tells_as asking f before after old new a b x is = tells_result (followed_by asking (λ a. known (Ok (f a)))) before after old new (f a) b (tells_map asking f before after old new a x) is

-- what tells the same reading
pub tells_same : {A : Type 0} (asking other : Asking A) (before after : State) (old new : List Object) (result : Result A AllocError) → asking.in_state before ≡ other.in_state before
    → Evaluates other before after old new result → Evaluates asking before after old new result
tells_same asking other before after old new (Ok a) same told = record {
  given = ap (λ r. r.gives) same ∙ told.given;
  noted = told.noted ∙ ap (λ r. with_reads old r.reads) (sym same);
  stands = told.stands;
}
tells_same asking other before after old new (Err refused) same told = record { given = tt; noted = tt; stands = told.stands }

-- what takes no read here
pub tells_unread : {A : Type 0} (asking : Asking A) (now after : State) (read_set : List Object) (a : A) (result : Result A AllocError) → asking.in_state now ≡ unread (Ok a) → after ≡ now
    → IfOk result (λ found. found ≡ a) → Evaluates asking now after read_set read_set result
tells_unread asking now after read_set a (Ok found) none stays same = record { given = ap (λ r. r.gives) none ∙ ap Ok (sym same); noted = ap (λ r. with_reads read_set r.reads) (sym none); stands = stays }
tells_unread asking now after read_set a (Err refused) none stays same = record { given = tt; noted = tt; stands = stays }

-- one call after another, whatever the last comes to
pub tells_on : {A B : Type 0} (first : Asking A) (next : A → Asking B) (before mid after : State) (old between new : List Object) (a : A) (result : Result B AllocError)
    → Evaluates first before mid old between (Ok a) → Evaluates (next a) mid after between new result → Evaluates (followed_by first next) before after old new result
tells_on first next before mid after old between new a (Ok b) x y = tells_then first next before mid after old between new a b x y
tells_on first next before mid after old between new a (Err refused) x y = record { given = tt; noted = tt; stands = y.stands ∙ x.stands }

-- an item, the row meeting WHERE
pub tells_item : (meets : Asking Bool) (item : Asking Value) (before mid after : State) (old between new : List Object) (is : Bool) (v : Value) → is ≡ true
    → Evaluates meets before mid old between (Ok is) → Evaluates item mid after between new (Ok v) → Evaluates (item_if meets item) before after old new (Ok (Some v))
tells_item meets item before mid after old between new is v true_is x y =
    tells_then meets (λ is. asked_if is (followed_by item (λ v. known (Ok (Some v)))) (known (Ok None))) before mid after old between new true (Some v)
    (subst (λ b. Evaluates meets before mid old between (Ok b)) true_is x)
    (tells_same (asked_if true (followed_by item (λ v. known (Ok (Some v)))) (known (Ok None))) (followed_by item (λ v. known (Ok (Some v)))) mid after between new (Ok (Some v)) refl
    (tells_map item Some mid after between new v y))

-- what holds anyhow holds where a call succeeds
pub on_ok : {A : Type 0} (result : Result A AllocError) (fact : Type 0) → fact → OnOk result fact
on_ok (Ok a) fact holds = holds
on_ok (Err refused) fact holds = tt

-- what follows from it there
pub on_ok_then : {A : Type 0} (result : Result A AllocError) (fact further : Type 0) → (fact → further) → OnOk result fact → OnOk result further
on_ok_then (Ok a) fact further follows holds = follows holds
on_ok_then (Err refused) fact further follows holds = tt

-- the rows of a table
pub rows_told : (object read : Object) (table : List ℕ) (before after : State) (read_set new : List Object) (result : Result (List (List Value)) AllocError)
    → object ≡ o.Rows table → read ≡ object → IfOk result (λ found. found ≡ values_of (rows_of before table)) → new ≡ with_object read_set read → after ≡ before
    → Evaluates (asked_of object) before after read_set new result
unfolding rows_at
rows_told object read table before after read_set new (Ok found) is copy rows grown same = record {
  given = ap (λ o. ((asked_of o).in_state before).gives) is ∙ ap Ok (sym rows);
  noted = grown ∙ ap (with_object read_set) (copy ∙ is) ∙ ap (λ o. with_reads read_set ((asked_of o).in_state before).reads) (sym is);
  stands = same;
}
rows_told object read table before after read_set new (Err refused) is copy rows grown same = record { given = tt; noted = tt; stands = same }

-- those of a key without a null
abbrev of_key : List ℕ → List Value → Asking (List (List Value))
of_key table key = followed_by (asked_key table key) (λ rows. known (Ok (values_of rows)))

pub key_told : (object read : Object) (table : List ℕ) (key : List Value) (before after : State) (read_set new : List Object) (result : Result (List (List Value)) AllocError)
    → object ≡ o.Key table key → list_any is_null key ≡ false → read ≡ object → IfOk result (λ found. found ≡ values_of (rows_with_key before table key)) → new ≡ with_object read_set read → after ≡ before
    → Evaluates (asked_of object) before after read_set new result
unfolding keyed_at
key_told object read table key before after read_set new (Ok found) is none copy rows grown same =
    let reading : (asked_of object).in_state before ≡ (of_key table key).in_state before =
    ap (λ o. (asked_of o).in_state before) is ∙ ap (λ b. if b then unread (Ok []) else (of_key table key).in_state before) none in
    record {
      given = ap (λ r. r.gives) reading ∙ ap Ok (sym rows);
      noted = grown ∙ ap (with_object read_set) (copy ∙ is) ∙ ap (λ r. with_reads read_set r.reads) (sym reading);
      stands = same;
    }
key_told object read table key before after read_set new (Err refused) is none copy rows grown same = record { given = tt; noted = tt; stands = same }

-- ---- loops

-- what is left to ask leads to the whole
pub record Leads {A B : Type 0} (whole : Asking A) (rest : Asking B) (join : B → A) (now : State) (old new : List Object) : Type 0 where
  pub given : (whole.in_state now).gives ≡ and_then (rest.in_state now).gives (λ b. Ok (join b))
  pub noted : with_reads new (rest.in_state now).reads ≡ with_reads old (whole.in_state now).reads

and_all : {A : Type 0} (r : Result A Refusal) → r ≡ and_then r (λ a. Ok a)
and_all (Ok a) = refl
and_all (Err refusal) = refl

-- the whole leads to itself
pub leads_whole : {A : Type 0} (whole : Asking A) (join : A → A) (now : State) (old : List Object) → ((a : A) → join a ≡ a) → Leads whole whole join now old old
leads_whole whole join now old same = record {
  given = and_all (whole.in_state now).gives ∙ (λ i. and_then (whole.in_state now).gives (λ a. Ok (sym (same a) i)));
  noted = refl;
}

-- nothing is left
pub leads_end : {A B : Type 0} (whole : Asking A) (rest : Asking B) (join : B → A) (now after : State) (old new : List Object) (b : B) (a : A)
    → rest ≡ known (Ok b) → a ≡ join b → after ≡ now → Leads whole rest join now old new → Evaluates whole now after old new (Ok a)
leads_end whole rest join now after old new b a none is same leads = record {
  given = leads.given ∙ ap (λ asking. and_then (asking.in_state now).gives (λ b. Ok (join b))) none ∙ ap Ok (sym is);
  noted = ap (λ asking. with_reads new (asking.in_state now).reads) (sym none) ∙ leads.noted;
  stands = same;
}

-- the first of what is left is asked
pub leads_on : {A B C : Type 0} (whole : Asking A) (first : Asking C) (next : C → Asking B) (join : B → A) (now mid after : State) (old read_set new : List Object) (c : C)
    → mid ≡ now → Leads whole (followed_by first next) join now old read_set → Evaluates first mid after read_set new (Ok c) → Leads whole (next c) join now old new
leads_on whole first next join now mid after old read_set new c same leads told =
    let given : (first.in_state now).gives ≡ Ok c = subst (λ s. (first.in_state s).gives ≡ Ok c) same told.given in
    let noted : new ≡ with_reads read_set (first.in_state now).reads = subst (λ s. new ≡ with_reads read_set (first.in_state s).reads) same told.noted in
    record {
      given = leads.given ∙ ap (λ r. and_then (and_then r (λ a. ((next a).in_state now).gives)) (λ b. Ok (join b))) given;
      noted = ap (λ n. with_reads n ((next c).in_state now).reads) noted
          ∙ with_reads_more read_set (first.in_state now).reads ((next c).in_state now).reads
          ∙ ap (λ r. with_reads read_set ((first.in_state now).reads ++ next_reads r (λ a. (next a).in_state now))) (sym given)
          ∙ leads.noted;
    }

and_twice : {A B C : Type 0} (r : Result C Refusal) (f : C → B) (join : B → A) → and_then (and_then r (λ c. Ok (f c))) (λ b. Ok (join b)) ≡ and_then r (λ c. Ok (join (f c)))
and_twice (Ok c) f join = refl
and_twice (Err refusal) f join = refl

none_next : {B C : Type 0} (r : Result C Refusal) (f : C → B) → next_reads r (λ c. unread (Ok (f c))) ≡ []
none_next (Ok c) f = refl
none_next (Err refusal) f = refl

-- and a function of what is told next
pub leads_map : {A B C : Type 0} (whole : Asking A) (rest : Asking C) (f : C → B) (join : B → A) (now : State) (old read_set : List Object)
    → Leads whole (followed_by rest (λ c. known (Ok (f c)))) join now old read_set → Leads whole rest (λ c. join (f c)) now old read_set
leads_map whole rest f join now old read_set leads = record {
  given = leads.given ∙ and_twice (rest.in_state now).gives f join;
  noted = ap (with_reads read_set) (sym (append-nil (rest.in_state now).reads) ∙ ap (λ more. (rest.in_state now).reads ++ more) (sym (none_next (rest.in_state now).gives f))) ∙ leads.noted;
}

-- one turn of a loop: what the first tells is put to what those behind it come to
pub turn : {B R V : Type 0} (whole : Asking V) (join next : R → V) (put : B → R → R) (left : Asking R) (first : Asking B) (further : Asking R) (now mid after : State) (old read_set new : List Object) (y : B)
    → left ≡ followed_by first (λ y. followed_by further (λ rest. known (Ok (put y rest)))) → ((rest : R) → next rest ≡ join (put y rest))
    → mid ≡ now → Leads whole left join now old read_set → Evaluates first mid after read_set new (Ok y) → Leads whole further next now old new
turn whole join next put left first further now mid after old read_set new y here is same leads told =
    subst (λ join. Leads whole further join now old new) (λ i. λ rest. sym (is rest) i)
    (leads_map whole further (put y) join now old new
    (leads_on whole first (λ y. followed_by further (λ rest. known (Ok (put y rest)))) join now mid after old read_set new y same
    (subst (λ asking. Leads whole asking join now old read_set) here leads) told))

pub drop_at : {A : Type 0} (xs : List A) (i : ℕ) (x : A) → i < length xs → x ≡ get_or xs i x → drop i xs ≡ x ∷ drop (i + 1) xs
drop_at xs i x below is = drop_more xs i x below ∙ ap (λ y. y ∷ drop (i + 1) xs) (sym is)
