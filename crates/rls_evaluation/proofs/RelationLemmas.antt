-- The relation that a place names shows what the relations from one on show.
use Rattle.std.specs.Prelude.{◌≡◌, refl, ℕ, zero, suc, ◌+◌, ◌*◌, ◌≤◌, ◌<◌, List, [], ◌∷◌, Bool, true, false, Option, Some, None, Ok, drop, length, get_or, if◌then◌else◌}
use Rattle.std.specs.Str.{bytes_eq}
use Rattle.std.proofs.Common.{arith, ap, sym, ◌∙◌}
use Rattle.std.proofs.lemmas.Bool.{true≢false}
use Rattle.rls_value.specs.declared.value.Value.{Value}
use Rattle.rls_source.specs.rls_catalog.specs.rls_expr.specs.{declared.policy.Policy.Policy, Terms.Term, Terms.term_size}
use Rattle.rls_verdict.specs.rls_catalog.specs.State.{State}
use Rattle.rls_source.specs.Readings.{Reading, unread}
use Rattle.rls_evaluation.specs.declared.relation.SecuredRelation.{SecuredRelation}
use Rattle.rls_evaluation.specs.Showing.{shown, shows, shown_first, place_from}
use Rattle.rls_evaluation.specs.Sizes.{conditions_size, quals_size, relations_size}
use Rattle.rls_evaluation.specs.Holding.{shown_at, shown_of, object_for}

abbrev place_or : ℕ → Option ℕ → ℕ
place_or d (Some n) = n
place_or d None = d

abbrev is_there : Option ℕ → Bool
is_there (Some n) = true
is_there None = false

tail_of : (all fs : List SecuredRelation) (n : ℕ) (f : SecuredRelation) → drop n all ≡ f ∷ fs → drop (suc n) all ≡ fs
tail_of [] fs zero f is = ap (drop 1) is
tail_of [] fs (suc n) f is = ap (drop 1) is
tail_of (x ∷ all) fs zero f is = ap (drop 1) is
tail_of (x ∷ all) fs (suc n) f is = tail_of all fs n f is

found_if : (b : Bool) (all fs : List SecuredRelation) (f : SecuredRelation) (n place : ℕ) (user table : List ℕ) (key : Option (List Value)) (s : State) (further : Reading (List (List Value)))
    → drop n all ≡ f ∷ fs → (b ≡ true → n ≡ place) → (b ≡ false → further ≡ (shown_first (drop place all) user table key).in_state s)
    → (if b then (shown f.quals (shows fs user) user table key).in_state s else further) ≡ (shown_first (drop place all) user table key).in_state s
found_if true all fs f n place user table key s further here now later =
    ap (λ relations. (shown_first relations user table key).in_state s) (sym here) ∙ ap (λ n. (shown_first (drop n all) user table key).in_state s) (now refl)
found_if false all fs f n place user table key s further here now later = later refl

taken : (b : Bool) (n place : ℕ) (rest : Option ℕ) → (if b then Some n else rest) ≡ Some place → b ≡ true → n ≡ place
taken true n place rest found is = ap (place_or n) found
taken false n place rest found is = absurd (true≢false (sym is))

left_out : (b : Bool) (n place : ℕ) (rest : Option ℕ) → (if b then Some n else rest) ≡ Some place → b ≡ false → rest ≡ Some place
left_out true n place rest found is = absurd (true≢false is)
left_out false n place rest found is = found

nowhere : {place : ℕ} → None ≡ Some place → ⊥
nowhere is = true≢false (sym (ap is_there is))

shows_first : (all fs : List SecuredRelation) (n place : ℕ) (user table : List ℕ) (key : Option (List Value)) (s : State) → drop n all ≡ fs → place_from n fs table ≡ Some place
    → (shows fs user table key).in_state s ≡ (shown_first (drop place all) user table key).in_state s
shows_first all [] n place user table key s here found = absurd (nowhere found)
shows_first all (f ∷ fs) n place user table key s here found =
    found_if (bytes_eq f.table table) all fs f n place user table key s ((shows fs user table key).in_state s) here
    (taken (bytes_eq f.table table) n place (place_from (suc n) fs table) found)
    (λ is. shows_first all fs (suc n) place user table key s (tail_of all fs n f here) (left_out (bytes_eq f.table table) n place (place_from (suc n) fs table) found is))

of_object : (relations : List SecuredRelation) (user table : List ℕ) (key : Option (List Value)) → shown_first relations user table key ≡ shown_of relations user (object_for table key)
of_object relations user table None = refl
of_object relations user table (Some key) = refl

-- the relation that is found shows it
pub shows_found : (all : List SecuredRelation) (n place : ℕ) (user table : List ℕ) (key : Option (List Value)) (s : State) → place_from n (drop n all) table ≡ Some place
    → (shows (drop n all) user table key).in_state s ≡ (shown_at all user place (object_for table key)).in_state s
shows_found all n place user table key s found =
    shows_first all (drop n all) n place user table key s refl found ∙ ap (λ asking. asking.in_state s) (of_object (drop place all) user table key)

none_if : (b : Bool) (n : ℕ) (here further : Reading (List (List Value))) (rest : Option ℕ) → (if b then Some n else rest) ≡ None → (rest ≡ None → further ≡ unread (Ok [])) → (if b then here else further) ≡ unread (Ok [])
none_if true n here further rest none later = absurd (nowhere (sym none))
none_if false n here further rest none later = later none

-- a table without a relation shows nothing
pub shows_none : (fs : List SecuredRelation) (n : ℕ) (user table : List ℕ) (key : Option (List Value)) (s : State) → place_from n fs table ≡ None → (shows fs user table key).in_state s ≡ unread (Ok [])
shows_none [] n user table key s none = refl
shows_none (f ∷ fs) n user table key s none =
    none_if (bytes_eq f.table table) n ((shown f.quals (shows fs user) user table key).in_state s) ((shows fs user table key).in_state s) (place_from (suc n) fs table) none
    (λ later. shows_none fs (suc n) user table key s later)

-- ---- sizes

size_if : (b : Bool) (all fs : List SecuredRelation) (f : SecuredRelation) (n place : ℕ) → drop n all ≡ f ∷ fs → (b ≡ true → n ≡ place) → (b ≡ false → relations_size (drop place all) ≤ relations_size fs)
    → relations_size (drop place all) ≤ relations_size (f ∷ fs)
size_if true all fs f n place here now later = omega (arith, ap relations_size here, ap (λ n. relations_size (drop n all)) (now refl))
size_if false all fs f n place here now later = omega (arith, later refl)

-- a relation further on leaves no more
pub size_found : (all fs : List SecuredRelation) (n place : ℕ) (table : List ℕ) → drop n all ≡ fs → place_from n fs table ≡ Some place → relations_size (drop place all) ≤ relations_size fs
size_found all [] n place table here found = absurd (nowhere found)
size_found all (f ∷ fs) n place table here found =
    size_if (bytes_eq f.table table) all fs f n place here (taken (bytes_eq f.table table) n place (place_from (suc n) fs table) found)
    (λ is. size_found all fs (suc n) place table (tail_of all fs n f here) (left_out (bytes_eq f.table table) n place (place_from (suc n) fs table) found is))

condition_get : (cs : List (Policy × Term)) (i : ℕ) (d : Policy × Term) → i < length cs → term_size (get_or cs i d).1 ≤ conditions_size cs
condition_get [] i d h = absurd (omega arith)
condition_get (c ∷ cs) zero d h = omega arith
condition_get (c ∷ cs) (suc i) d h = omega (arith, condition_get cs i d (omega arith))

-- a condition is no larger than the list
pub condition_at : (cs : List (Policy × Term)) (i : ℕ) (c : Policy × Term) → i < length cs → c ≡ get_or cs i c → term_size c.1 ≤ conditions_size cs
condition_at cs i c h is = omega (arith, condition_get cs i c h, ap (λ c. term_size c.1) is)
