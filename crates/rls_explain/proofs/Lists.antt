-- Lists of decisions and of rows, cut down to those of one number; and what calls give.
use Rattle.std.specs.Prelude.{◌≡◌, refl, List, [], ◌∷◌, ◌++◌, Bool, true, false, ◌||◌, cond, Result, Ok, Err, filter, map, if◌then◌else◌}
use Rattle.std.specs.List.{flat_map, list_any}
use Rattle.std.proofs.{Common.ap, Common.append_assoc, Common.sym, Common.◌∙◌, lemmas.Bool.or_parts, lemmas.Bool.true≢false, lemmas.List.Elements.filter-append}
use Rattle.rls_value.specs.{declared.refusal.Refusal.Refusal, Giving.and_then}
use Rattle.rls_explain.specs.Explaining.{unless_refused}

-- ---- what passes a test

pub any_map : {A B : Type 0} (test : B → Bool) (f : A → B) (xs : List A) → list_any test (map f xs) ≡ list_any (λ x. test (f x)) xs
any_map test f [] = refl
any_map test f (x ∷ xs) = ap (λ rest. test (f x) || rest) (any_map test f xs)

pub none_kept : {A : Type 0} (test : A → Bool) (xs : List A) → list_any test xs ≡ false → filter test xs ≡ []
none_kept test [] none = refl
none_kept test (x ∷ xs) none =
    let parts = or_parts (test x) (list_any test xs) none in
    ap (λ b. cond b (x ∷ filter test xs) (filter test xs)) parts.0 ∙ none_kept test xs parts.1

-- a flat list is cut down list by list
flat_kept : {A B : Type 0} (test : B → Bool) (f : A → List B) (xs : List A) → filter test (flat_map f xs) ≡ flat_map (λ x. filter test (f x)) xs
flat_kept test f [] = refl
flat_kept test f (x ∷ xs) = filter-append test (f x) (flat_map f xs) ∙ ap (λ rest. filter test (f x) ++ rest) (flat_kept test f xs)

-- all of a list are kept, or none
all_kept : {A B : Type 0} (test : B → Bool) (f : A → B) (b : Bool) → ((x : A) → test (f x) ≡ b) → (xs : List A) → filter test (map f xs) ≡ (if b then map f xs else [])
all_kept test f true same [] = refl
all_kept test f false same [] = refl
all_kept test f true same (x ∷ xs) = ap (λ b. cond b (f x ∷ filter test (map f xs)) (filter test (map f xs))) (same x) ∙ ap (λ rest. f x ∷ rest) (all_kept test f true same xs)
all_kept test f false same (x ∷ xs) = ap (λ b. cond b (f x ∷ filter test (map f xs)) (filter test (map f xs))) (same x) ∙ all_kept test f false same xs

flat_cond : {A B : Type 0} (b : Bool) (f : A → List B) (x : A) (rest : List A) → (if b then f x else []) ++ flat_map f rest ≡ flat_map f (cond b (x ∷ rest) rest)
flat_cond true f x rest = refl
flat_cond false f x rest = refl

map_cond : {A B : Type 0} (b : Bool) (f : A → B) (x : A) (xs : List A) → cond b (f x ∷ map f xs) (map f xs) ≡ map f (cond b (x ∷ xs) xs)
map_cond true f x xs = refl
map_cond false f x xs = refl

-- the lists of those that pass
pub flat_where : {A B : Type 0} (f : A → List B) (test : A → Bool) (xs : List A) → flat_map (λ x. if test x then f x else []) xs ≡ flat_map f (filter test xs)
flat_where f test [] = refl
flat_where f test (x ∷ xs) = ap (λ rest. (if test x then f x else []) ++ rest) (flat_where f test xs) ∙ flat_cond (test x) f x (filter test xs)

-- of each list that is put together, all are kept or none, as the one says that it is made of
pub kept_by : {A B C : Type 0} (test : C → Bool) (is : A → Bool) (f : A → B → C) → ((x : A) (y : B) → test (f x y) ≡ is x) → (ys : List B) (xs : List A)
    → filter test (flat_map (λ x. map (f x) ys) xs) ≡ flat_map (λ x. map (f x) ys) (filter is xs)
kept_by test is f same ys xs =
    flat_kept test (λ x. map (f x) ys) xs
    ∙ (λ i. flat_map (λ x. all_kept test (f x) (is x) (same x) ys i) xs)
    ∙ flat_where (λ x. map (f x) ys) is xs

pub mapped : {A B C : Type 0} (g : B → C) (f : A → B) (xs : List A) → map g (map f xs) ≡ map (λ x. g (f x)) xs
mapped g f [] = refl
mapped g f (x ∷ xs) = ap (λ rest. g (f x) ∷ rest) (mapped g f xs)

-- those that pass, of what is made of a list
pub kept_map : {A B : Type 0} (test : B → Bool) (f : A → B) (xs : List A) → filter test (map f xs) ≡ map f (filter (λ x. test (f x)) xs)
kept_map test f [] = refl
kept_map test f (x ∷ xs) = ap (λ rest. cond (test (f x)) (f x ∷ rest) rest) (kept_map test f xs) ∙ map_cond (test (f x)) f x (filter (λ x. test (f x)) xs)

-- where what is put, and what those that are left give, make the whole, they do so once the next one is put
pub put_on : {A B : Type 0} (f : A → List B) (x : A) (before rest : List A) (old new whole : List B) → before ≡ x ∷ rest → new ≡ old ++ f x → old ++ flat_map f before ≡ whole → new ++ flat_map f rest ≡ whole
put_on f x before rest old new whole is put so_far = ap (λ all. all ++ flat_map f rest) put ∙ append_assoc old (f x) (flat_map f rest) ∙ ap (λ left. old ++ flat_map f left) (sym is) ∙ so_far

-- the same of what is made of each
pub pushed_on : {A B : Type 0} (f : A → B) (x : A) (before rest : List A) (y : B) (old new whole : List B) → before ≡ x ∷ rest → y ≡ f x → new ≡ old ++ y ∷ [] → old ++ map f before ≡ whole → new ++ map f rest ≡ whole
pushed_on f x before rest y old new whole is made put so_far =
    ap (λ all. all ++ map f rest) put ∙ append_assoc old (y ∷ []) (map f rest) ∙ (λ i. old ++ made i ∷ map f rest) ∙ ap (λ left. old ++ map f left) (sym is) ∙ so_far

-- ---- what calls give

-- something is given where something passes
pub given_all : {A : Type 0} (test : A → Bool) (given : Result (List A) Refusal) → list_any test (unless_refused given) ≡ true → given ≡ Ok (unless_refused given)
given_all test (Ok xs) is = refl
given_all test (Err refusal) is = absurd (true≢false (sym is))

-- nothing is where the first is refused
pub refused_first : {A B : Type 0} (test : B → Bool) (first : Result A Refusal) (given : Result (List B) Refusal) → given ≡ Ok [] → [] ≡ filter test (unless_refused (and_then first (λ _. given)))
refused_first test (Ok a) given none = ap (λ it. filter test (unless_refused it)) (sym none)
refused_first test (Err refusal) given none = refl
