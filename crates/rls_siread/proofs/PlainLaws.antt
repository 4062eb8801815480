-- Where there is no key, or there are few and no rows of a table, nothing is promoted.
use Rattle.std.specs.Prelude.{◌≡◌, ◌≤◌, ◌<◌, refl, ℕ, List, [], ◌∷◌, Bool, true, false, not, ◌||◌, ◌&&◌, nat_lt, nat_le, map, filter, length, suc, if◌then◌else◌}
use Rattle.std.specs.List.{list_any}
use Rattle.std.specs.Str.{bytes_eq}
use Rattle.std.proofs.Common.{ap, sym, ◌∙◌, arith}
use Rattle.std.specs.Ordering.{match_ordering}
use Rattle.std.specs.declared.cmp.Ordering.{Ordering}
use Rattle.std.specs.declared.cmp.Ordering.TheVariants.{Less, Equal, Greater}
use Rattle.std.proofs.lemmas.Bool.{true≢false, leb-true, le-leb, le-ltb}
use Rattle.rls_value.specs.Objects.{object_order}
use Rattle.rls_value.specs.declared.object.Object.{Object}
use Rattle.rls_value.specs.declared.object.Object.TheVariants as o
use Rattle.rls_source.specs.Footprints.{with_object, with_reads, is_object, is_among, IsInOrder}
use Rattle.rls_source.specs.FootprintLaws.{is_object_same, among_with_reads}
use Rattle.rls_source.proofs.FootprintOrderLaws.{footprint_ordered, with_reads_in_order, same_in_order}
use Rattle.rls_siread.specs.Promotion.{is_key, is_key_of, is_rows, is_plain, is_crowded, stands_for, promoted, noted_with}

-- ---- no table is crowded

apart_case : (same other : Bool) (table : List ℕ) (x : Object) → is_object (o.Rows table) x ≡ same → (is_rows x || other) ≡ false → same ≡ false
apart_case true other table x is none =
    absurd (true≢false (ap (λ y. is_rows y || other) ((is_object_same (o.Rows table) x).0 is) ∙ none))
apart_case false other table x is none = refl

or_right_false : (a b : Bool) → (a || b) ≡ false → b ≡ false
or_right_false true b is = absurd (true≢false is)
or_right_false false b is = is

no_rows : (objects : List Object) (table : List ℕ) → list_any is_rows objects ≡ false → is_among objects (o.Rows table) ≡ false
no_rows [] table none = refl
no_rows (x ∷ objects) table none =
    ap (λ b. b || is_among objects (o.Rows table)) (apart_case (is_object (o.Rows table) x) (list_any is_rows objects) table x refl none)
    ∙ no_rows objects table (or_right_false (is_rows x) (list_any is_rows objects) none)

fewer_case : (passes : Bool) (x : Object) (some all : List Object) → length some ≤ length all → length (if passes then x ∷ some else some) ≤ suc (length all)
fewer_case true x some all less = omega (arith, less)
fewer_case false x some all less = omega (arith, less)

fewer : (table : List ℕ) (objects : List Object) → length (filter (is_key_of table) objects) ≤ length (filter is_key objects)
fewer table [] = omega arith
fewer table (o.Key other key ∷ objects) = fewer_case (bytes_eq table other) (o.Key other key) (filter (is_key_of table) objects) (filter is_key objects) (fewer table objects)
fewer table (o.Role n ∷ objects) = fewer table objects
fewer table (o.Members n ∷ objects) = fewer table objects
fewer table (o.Table n ∷ objects) = fewer table objects
fewer table (o.Grants n ∷ objects) = fewer table objects
fewer table (o.Policies n ∷ objects) = fewer table objects
fewer table (o.Rows n ∷ objects) = fewer table objects
fewer table (o.RowOf n id ∷ objects) = fewer table objects

and_both : (a b : Bool) → (a && not b) ≡ true → (a ≡ true) × (b ≡ false)
and_both true true is = absurd (true≢false (sym is))
and_both true false is = (refl, refl)
and_both false b is = absurd (true≢false (sym is))

or_none : (a b : Bool) → a ≡ false → b ≡ false → (a || b) ≡ false
or_none true b is other = absurd (true≢false is)
or_none false b is other = other

-- few keys, and no rows of a table
abbrev has_few : ℕ → List Object → Bool
has_few limit objects = nat_le (length (filter is_key objects)) limit && not (list_any is_rows objects)

not_crowded : (limit : ℕ) (objects : List Object) (table : List ℕ) → has_few limit objects ≡ true → is_crowded limit objects table ≡ false
not_crowded limit objects table few =
    let both = and_both (nat_le (length (filter is_key objects)) limit) (list_any is_rows objects) few in
    let most : length (filter is_key objects) ≤ limit = leb-true (length (filter is_key objects)) limit both.0 in
    let less : length (filter (is_key_of table) objects) ≤ length (filter is_key objects) = fewer table objects in
    or_none (is_among objects (o.Rows table)) (nat_lt limit (length (filter (is_key_of table) objects))) (no_rows objects table both.1)
    (le-ltb limit (length (filter (is_key_of table) objects)) (omega (arith, most, less)))

-- ---- nothing is promoted

itself : (limit : ℕ) (objects : List Object) → has_few limit objects ≡ true → (x : Object) → stands_for limit objects x ≡ x
itself limit objects few (o.Key table key) = ap (λ b. if b then o.Rows table else o.Key table key) (not_crowded limit objects table few)
itself limit objects few (o.Role n) = refl
itself limit objects few (o.Members n) = refl
itself limit objects few (o.Table n) = refl
itself limit objects few (o.Grants n) = refl
itself limit objects few (o.Policies n) = refl
itself limit objects few (o.Rows n) = refl
itself limit objects few (o.RowOf n id) = refl

all_themselves : (f : Object → Object) → ((x : Object) → f x ≡ x) → (objects : List Object) → map f objects ≡ objects
all_themselves f is [] = refl
all_themselves f is (x ∷ objects) = ap (λ y. y ∷ map f objects) (is x) ∙ ap (λ rest. x ∷ rest) (all_themselves f is objects)

-- what isn't a key stands for itself
no_keys : (limit : ℕ) (all objects : List Object) → list_any is_key objects ≡ false → map (stands_for limit all) objects ≡ objects
no_keys limit all [] none = refl
no_keys limit all (o.Key table key ∷ objects) none = absurd (true≢false none)
no_keys limit all (o.Role n ∷ objects) none = ap (λ rest. o.Role n ∷ rest) (no_keys limit all objects none)
no_keys limit all (o.Members n ∷ objects) none = ap (λ rest. o.Members n ∷ rest) (no_keys limit all objects none)
no_keys limit all (o.Table n ∷ objects) none = ap (λ rest. o.Table n ∷ rest) (no_keys limit all objects none)
no_keys limit all (o.Grants n ∷ objects) none = ap (λ rest. o.Grants n ∷ rest) (no_keys limit all objects none)
no_keys limit all (o.Policies n ∷ objects) none = ap (λ rest. o.Policies n ∷ rest) (no_keys limit all objects none)
no_keys limit all (o.Rows n ∷ objects) none = ap (λ rest. o.Rows n ∷ rest) (no_keys limit all objects none)
no_keys limit all (o.RowOf n id ∷ objects) none = ap (λ rest. o.RowOf n id ∷ rest) (no_keys limit all objects none)

themselves_case : (keys : Bool) (limit : ℕ) (objects : List Object) → list_any is_key objects ≡ keys → (not keys || has_few limit objects) ≡ true → map (stands_for limit objects) objects ≡ objects
themselves_case true limit objects are few = all_themselves (stands_for limit objects) (itself limit objects few) objects
themselves_case false limit objects are plain = no_keys limit objects objects are

-- plain objects stand for themselves
pub plain_promoted : (limit : ℕ) (objects : List Object) → is_plain limit objects ≡ true → IsInOrder objects → promoted limit objects ≡ objects
plain_promoted limit objects plain ordered =
    ap (with_reads []) (themselves_case (list_any is_key objects) limit objects refl plain) ∙ footprint_ordered objects ordered

-- ---- keys are counted

-- one key more
pub key_next : (x : Object) (rest : List Object) → is_key x ≡ true → length (filter is_key (x ∷ rest)) ≡ suc (length (filter is_key rest))
key_next x rest is = ap (λ b. length (if b then x ∷ filter is_key rest else filter is_key rest)) is

-- one object more that is no key
pub other_next : (x : Object) (rest : List Object) → is_key x ≡ false → length (filter is_key (x ∷ rest)) ≡ length (filter is_key rest)
other_next x rest is = ap (λ b. length (if b then x ∷ filter is_key rest else filter is_key rest)) is

-- ---- with what is fresh of the reads

fresh_case : (read noted fresh : Bool) → fresh ≡ (read && not noted) → (fresh || noted) ≡ (read || noted)
fresh_case true true fresh is = ap (λ b. b || true) is
fresh_case true false fresh is = ap (λ b. b || false) is
fresh_case false noted fresh is = ap (λ b. b || noted) is

-- what is fresh of the reads leads to the same objects as the reads
pub with_fresh_reads : (noted reads fresh : List Object) → IsInOrder noted → ((object : Object) → is_among fresh object ≡ (is_among reads object && not (is_among noted object)))
    → with_reads noted fresh ≡ with_reads noted reads
with_fresh_reads noted reads fresh ordered are =
    same_in_order (with_reads noted fresh) (with_reads noted reads) (with_reads_in_order noted fresh ordered) (with_reads_in_order noted reads ordered) (λ object.
    among_with_reads noted fresh object ∙ fresh_case (is_among reads object) (is_among noted object) (is_among fresh object) (are object) ∙ sym (among_with_reads noted reads object))

-- plain reads are all that is noted, where nothing was
pub first_noted : (limit : ℕ) (noted reads : List Object) → noted ≡ [] → is_plain limit reads ≡ true → IsInOrder reads → noted_with limit noted reads ≡ reads
first_noted limit noted reads nothing plain ordered =
    ap (λ (list : List Object). noted_with limit list reads) nothing
    ∙ ap (promoted limit) (footprint_ordered reads ordered)
    ∙ plain_promoted limit reads plain ordered

-- what is fresh of the reads comes to what was noted, where that is plain then
pub fresh_noted : (limit : ℕ) (noted reads fresh : List Object) → IsInOrder noted → ((object : Object) → is_among fresh object ≡ (is_among reads object && not (is_among noted object)))
    → is_plain limit (with_reads noted fresh) ≡ true → noted_with limit noted reads ≡ with_reads noted fresh
fresh_noted limit noted reads fresh ordered are plain =
    ap (promoted limit) (sym (with_fresh_reads noted reads fresh ordered are))
    ∙ plain_promoted limit (with_reads noted fresh) plain (with_reads_in_order noted fresh ordered)

new_case : (read noted : Bool) → (read && not noted) ≡ ((read || noted) && not noted)
new_case true noted = refl
new_case false true = refl
new_case false false = refl

-- what is fresh of the reads is what is new then
pub fresh_is_new : (noted reads fresh all : List Object) → all ≡ with_reads noted reads → ((object : Object) → is_among fresh object ≡ (is_among reads object && not (is_among noted object)))
    → (object : Object) → is_among fresh object ≡ (is_among all object && not (is_among noted object))
fresh_is_new noted reads fresh all all_are are object =
    are object ∙ new_case (is_among reads object) (is_among noted object)
    ∙ ap (λ b. b && not (is_among noted object)) (sym (among_with_reads noted reads object) ∙ ap (λ list. is_among list object) (sym all_are))

gone_case : (read noted : Bool) → false ≡ (noted && not (read || noted))
gone_case true true = refl
gone_case true false = refl
gone_case false true = refl
gone_case false false = refl

-- reads leave all that was there
pub nothing_is_gone : (noted reads all : List Object) → all ≡ with_reads noted reads → (object : Object) → false ≡ (is_among noted object && not (is_among all object))
nothing_is_gone noted reads all all_are object =
    gone_case (is_among reads object) (is_among noted object) ∙ ap (λ b. is_among noted object && not b) (sym (among_with_reads noted reads object) ∙ ap (λ list. is_among list object) (sym all_are))

-- ---- one object more leaves them plain

both_case : (passes : Bool) (x : Object) (more objects : List Object) → length more ≤ suc (length objects) → length (if passes then x ∷ more else more) ≤ suc (length (if passes then x ∷ objects else objects))
both_case true x more objects most = omega (arith, most)
both_case false x more objects most = most

one_more_if : (order : Ordering) (x read : Object) (objects more : List Object) → length (filter is_key more) ≤ suc (length (filter is_key objects))
    → length (filter is_key (match_ordering order (read ∷ x ∷ objects) (x ∷ objects) (x ∷ more))) ≤ suc (length (filter is_key (x ∷ objects)))
one_more_if Less x read objects more most = fewer_case (is_key read) read (filter is_key (x ∷ objects)) (filter is_key (x ∷ objects)) (omega arith)
one_more_if Equal x read objects more most = omega arith
one_more_if Greater x read objects more most = both_case (is_key x) x (filter is_key more) (filter is_key objects) most

one_more : (objects : List Object) (read : Object) → length (filter is_key (with_object objects read)) ≤ suc (length (filter is_key objects))
one_more [] read = fewer_case (is_key read) read [] [] (omega arith)
one_more (x ∷ objects) read = one_more_if (object_order read x) x read objects (with_object objects read) (one_more objects read)

or_both_false : (a b : Bool) → (a || b) ≡ false → (a ≡ false) × (b ≡ false)
or_both_false true b is = absurd (true≢false is)
or_both_false false b is = (refl, is)

none_if : (p : Object → Bool) (order : Ordering) (x read : Object) (objects more : List Object) → p x ≡ false → p read ≡ false → list_any p objects ≡ false → list_any p more ≡ false
    → list_any p (match_ordering order (read ∷ x ∷ objects) (x ∷ objects) (x ∷ more)) ≡ false
none_if p Less x read objects more one other none further = or_none (p read) (p x || list_any p objects) other (or_none (p x) (list_any p objects) one none)
none_if p Equal x read objects more one other none further = or_none (p x) (list_any p objects) one none
none_if p Greater x read objects more one other none further = or_none (p x) (list_any p more) one further

none_more : (p : Object → Bool) (objects : List Object) (read : Object) → list_any p objects ≡ false → p read ≡ false → list_any p (with_object objects read) ≡ false
none_more p [] read none other = or_none (p read) false other refl
none_more p (x ∷ objects) read none other =
    let both = or_both_false (p x) (list_any p objects) none in
    none_if p (object_order read x) x read objects (with_object objects read) both.0 other both.1 (none_more p objects read both.1 other)

or_true : (a b : Bool) → b ≡ true → (a || b) ≡ true
or_true true b is = refl
or_true false b is = is

-- few keys, and no rows of a table, are plain
pub plain_of : (limit : ℕ) (objects : List Object) → length (filter is_key objects) ≤ limit → list_any is_rows objects ≡ false → is_plain limit objects ≡ true
plain_of limit objects most none =
    or_true (not (list_any is_key objects)) (has_few limit objects)
    (ap (λ (b : Bool). b && not (list_any is_rows objects)) (le-leb (length (filter is_key objects)) limit most) ∙ ap not none)

-- at most one object more leaves plain objects plain, where it fits and is no rows of a table
pub plain_with_few : (limit : ℕ) (objects fresh : List Object) → length fresh ≤ 1 → length (filter is_key objects) < limit → list_any is_rows objects ≡ false → list_any is_rows fresh ≡ false
    → is_plain limit (with_reads objects fresh) ≡ true
plain_with_few limit objects [] few fits none other = plain_of limit objects (omega (arith, fits)) none
plain_with_few limit objects (read ∷ []) few fits none other =
    let most : length (filter is_key (with_object objects read)) ≤ suc (length (filter is_key objects)) = one_more objects read in
    plain_of limit (with_object objects read) (omega (arith, fits, most)) (none_more is_rows objects read none (or_both_false (is_rows read) false other).0)
plain_with_few limit objects (read ∷ other_read ∷ more) few fits none other = absurd (omega (arith, few))

keyless : (objects fresh : List Object) → list_any is_key objects ≡ false → list_any is_key fresh ≡ false → list_any is_key (with_reads objects fresh) ≡ false
keyless objects [] none other = none
keyless objects (read ∷ fresh) none other =
    let both = or_both_false (is_key read) (list_any is_key fresh) other in
    keyless (with_object objects read) fresh (none_more is_key objects read none both.0) both.1

-- objects without a key are plain
pub plain_without_keys : (limit : ℕ) (objects fresh : List Object) → list_any is_key objects ≡ false → list_any is_key fresh ≡ false → is_plain limit (with_reads objects fresh) ≡ true
plain_without_keys limit objects fresh none other = ap (λ b. not b || has_few limit (with_reads objects fresh)) (keyless objects fresh none other)
