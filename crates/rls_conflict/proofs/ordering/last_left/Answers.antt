use Rattle.std.specs.Prelude.{◌≡◌, ◌-◌, ◌||◌, ℕ, List, Some, true, length, slice_get, nat_eq}
use Rattle.std.specs.Option.{option_copied}
use Rattle.std.proofs.Common.{ap, sym, ◌∙◌, arith}
use Rattle.std.proofs.lemmas.Option.{slice_get_within}
use Rattle.rls_conflict.specs.Commits.{is_place_in}
use Rattle.rls_conflict.specs.Ordering.{placed_in}
use Rattle.rls_conflict.proofs.OrderingLemmas.{found_among, among_popped, left_among_popped, only_popped}
use Rattle.rls_conflict.proofs.ordering.last_left.Goals as goal

pub bounds-placed-reader : goal.bounds-placed-reader
bounds-placed-reader c =
    let last : slice_get c.deref.result.now (length c.deref.result.now - 1) ≡ Some c.in-Some.reader.now = sym c.last.ensures.value ∙ ap option_copied c.in-Some.is in
    let among : is_place_in c.loop-reader.readers.items c.in-Some.reader.now ≡ true =
    ap (λ (places : List ℕ). is_place_in places c.in-Some.reader.now) (sym c.deref.ensures.value) ∙ found_among c.deref.result.now (length c.deref.result.now - 1) c.in-Some.reader.now last in
    c.requires c.in-Some.reader.now (c.loop-reader.invariant.only c.in-Some.reader.now among)

pub loop-reader-preserved : goal.loop-reader-preserved
loop-reader-preserved c =
    let last : slice_get c.loop-reader.readers.items (length c.loop-reader.readers.items - 1) ≡ Some c.in-Some.reader.now =
    ap (λ (places : List ℕ). slice_get places (length places - 1)) (sym c.deref.ensures.value) ∙ sym c.last.ensures.value ∙ ap option_copied c.in-Some.is in
    let ok = c.loop-reader.readers.ok.0 in
    let less = slice_get_within c.loop-reader.readers.items (length c.loop-reader.readers.items - 1) c.in-Some.reader.now last in
    let are : (r : ℕ) → is_place_in c.loop-reader.readers.items r ≡ (is_place_in c.pop.new.self.items r || nat_eq r c.in-Some.reader.now) = (λ r.
    among_popped c.loop-reader.readers.items c.pop.new.self.items (length c.loop-reader.readers.items - 1) c.in-Some.reader.now r (omega (arith, less)) (rw ok at c.pop.ensures.rest) last) in
    record {
      only = λ r there. c.loop-reader.invariant.only r (only_popped c.loop-reader.readers.items c.pop.new.self.items c.in-Some.reader.now r (are r) there);
      left = λ r there none.
          left_among_popped (placed_in c.args.placed.now) c.loop-reader.readers.items c.pop.new.self.items c.in-Some.reader.now r (are r) c.if-not-placed-reader.false none (c.loop-reader.invariant.left r there none);
    }
