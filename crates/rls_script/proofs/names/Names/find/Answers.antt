use Rattle.std.proofs.Common.{◌≡◌, ◌≤◌, ℕ, List, Bor, None, not, length, map, ◌∙◌, arith}
use Rattle.std.proofs.lemmas.List.{length-map}
use Rattle.std.proofs.lemmas.List.Sums.{prefix_len-le-length}
use Rattle.std.specs.Str.{bytes_eq}
use Rattle.rls_script.specs.Plans.{found_at, place_in}
use Rattle.rls_script.proofs.NameLemmas.{found_none}
use Rattle.rls_script.proofs.names.Names.find.Goals as goal

pub returns-in-None : goal.returns-in-None
returns-in-None c =
    let items = c.self.inside.list.items in
    let now = λ (n : Bor (List ℕ)). n.now in
    let none : None ≡ found_at (length items) (place_in (map now items) c.args.name.now) = c.in-None.ensures.value ∙ c.self.invariant c.args.name.now in
    let le : place_in (map now items) c.args.name.now ≤ length items = omega (arith, prefix_len-le-length (λ x. not (bytes_eq x c.args.name.now)) (map now items), length-map items now) in
    let e = found_none (length items) (place_in (map now items) c.args.name.now) none le in
    cc (e, c.len.ensures, c.self.view_is)
