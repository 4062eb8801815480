use Rattle.std.specs.Vec.Iter.{into_iter_items}
use Rattle.std.proofs.Common.{rules, ◌≡◌, [], ◌∷◌, length}
use Rattle.std.proofs.lemmas.List.{nil_from_length}
use Rattle.rlsdb.proofs.ShownAttemptLemmas.{found_all, found_on, written_on}
use Rattle.rlsdb.proofs.shown_attempts.show_each.Goals as goal

-- one attempt more is written, and what its statements come to is compared
pub loop-one-preserved : goal.loop-one-preserved
loop-one-preserved g c =
    let at = c.loop-one in
    let rest = into_iter_items c.next.new.self in
    let next : into_iter_items at.one-iterator ≡ c.in-Some.one ∷ rest = search rules in
    record {
      text = written_on c.args.wanted.now c.in-Some.one (into_iter_items at.one-iterator) rest (g.O.ScriptOut.taken at.output) _ _ next c.in_ok-other.ensures.text at.invariant.text;
      found = found_on c.in-Some.one (into_iter_items at.one-iterator) rest c.args.begun.items at.found c.in_ok-other.other c.first_or-found.result next c.in_ok-other.ensures.found c.first_or-found.ensures at.invariant.found;
    }

-- at the end nothing is left to be found
pub returns-clause-found : goal.returns-clause-found
returns-clause-found g c =
    let at = c.loop-one in
    let none_long : length (into_iter_items at.one-iterator) ≡ 0 = search rules in
    let none : into_iter_items at.one-iterator ≡ [] = nil_from_length _ none_long in
    found_all (into_iter_items at.one-iterator) c.args.begun.items at.found none at.invariant.found
