-- What stands for an object shows what it shows, and is noted.
use Rattle.std.specs.Prelude.{◌≡◌, refl, ℕ, List, [], ◌∷◌, Bool, true, false, ◌||◌, ◌&&◌, map, if◌then◌else◌}
use Rattle.std.proofs.Common.{ap, sym, ◌∙◌}
use Rattle.std.proofs.lemmas.Bool.{true≢false, or_left, or_right}
use Rattle.std.specs.Str.{bytes_eq}
use Rattle.rls_value.specs.declared.value.Value.{Value}
use Rattle.rls_value.specs.declared.object.Object.{Object}
use Rattle.rls_value.specs.declared.object.Object.TheVariants as o
use Rattle.rls_catalog.specs.Bases.{Base, has_key}
use Rattle.rls_source.specs.Footprints.{with_reads, is_object, is_among}
use Rattle.rls_source.specs.FootprintLaws.{is_object_same, among_with_reads, among_footprint}
use Rattle.rls_siread.specs.Promotion.{is_crowded, stands_for, noted_with}
use Rattle.rls_siread.specs.Widening.{LiesIn, NotesWiden}

first_of : (same has : Bool) → (same && has) ≡ true → same ≡ true
first_of true has both = refl
first_of false has both = both

-- a key's rows are rows of its table
key_lies : (table : List ℕ) (key : List Value) → LiesIn (o.Key table key) (o.Rows table)
key_lies table key (Base.Row other id) content is = first_of (bytes_eq table other) (has_key content key) is
key_lies table key (Base.Role n) content is = absurd (true≢false (sym is))
key_lies table key (Base.Members n) content is = absurd (true≢false (sym is))
key_lies table key (Base.Table n) content is = absurd (true≢false (sym is))
key_lies table key (Base.Grants n) content is = absurd (true≢false (sym is))
key_lies table key (Base.Policies n) content is = absurd (true≢false (sym is))

crowded_case : (crowded : Bool) (table : List ℕ) (key : List Value) → LiesIn (o.Key table key) (if crowded then o.Rows table else o.Key table key)
crowded_case true table key = key_lies table key
crowded_case false table key = λ place content is. is

-- an object lies in what stands for it
lies_in : (limit : ℕ) (objects : List Object) (object : Object) → LiesIn object (stands_for limit objects object)
lies_in limit objects (o.Key table key) = crowded_case (is_crowded limit objects table) table key
lies_in limit objects (o.Role n) = λ place content is. is
lies_in limit objects (o.Members n) = λ place content is. is
lies_in limit objects (o.Table n) = λ place content is. is
lies_in limit objects (o.Grants n) = λ place content is. is
lies_in limit objects (o.Policies n) = λ place content is. is
lies_in limit objects (o.Rows n) = λ place content is. is
lies_in limit objects (o.RowOf n id) = λ place content is. is

map_case : (f : Object → Object) (x object : Object) (rest more same : Bool) → is_object object x ≡ same → (rest ≡ true → more ≡ true) → (same || rest) ≡ true
    → (is_object (f object) (f x) || more) ≡ true
map_case f x object rest more true is further there = or_left (is_object (f object) (f x)) more ((is_object_same (f object) (f x)).1 (ap f ((is_object_same object x).0 is)))
map_case f x object rest more false is further there = or_right (is_object (f object) (f x)) more (further there)

-- what a function makes of one of the objects is one of those that it makes
among_map : (f : Object → Object) (objects : List Object) (object : Object) → is_among objects object ≡ true → is_among (map f objects) (f object) ≡ true
among_map f [] object none = absurd (true≢false (sym none))
among_map f (x ∷ objects) object there = map_case f x object (is_among objects object) (is_among (map f objects) (f object)) (is_object object x) refl (among_map f objects object) there

or_swapped : (a b : Bool) → (a || b) ≡ true → (b || a) ≡ true
or_swapped true true is = refl
or_swapped true false is = refl
or_swapped false true is = refl
or_swapped false false is = is

-- what was noted, or is read now, lies in what is noted then
pub notes_widen : (limit : ℕ) → NotesWiden (noted_with limit)
notes_widen limit noted read object there =
    let all = with_reads noted read in
    let among : is_among all object ≡ true = among_with_reads noted read object ∙ or_swapped (is_among noted object) (is_among read object) there in (
      stands_for limit all object,
      among_footprint (map (stands_for limit all) all) (stands_for limit all object) ∙ among_map (stands_for limit all) all object among,
      lies_in limit all object,
    )
