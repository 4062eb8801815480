use Rattle.std.proofs.Common.{◌≡◌, ◌≤◌, ◌++◌, ◌∷◌, [], ℕ, List, Bor, Some, length, map, ◌∙◌, sym, ap, arith}
use Rattle.std.proofs.lemmas.List.{length-map, map-append}
use Rattle.std.proofs.lemmas.List.Sums.{prefix_len-le-length}
use Rattle.std.proofs.lemmas.Map.Text.{hash_map_updates_str}
use Rattle.rls_script.specs.Plans.{found_at, place_in}
use Rattle.rls_script.proofs.NameLemmas.{found_put}
use Rattle.rls_script.proofs.names.Names.place.Goals as goal

pub invariant_of-self-in-Ok : goal.invariant_of-self-in-Ok
invariant_of-self-in-Ok c = λ other.
    let items = c.self.inside.list.items in
    let now = λ (n : Bor (List ℕ)). n.now in
    let grown : c.push_reserved.new.self.items ≡ items ++ c.args.name ∷ [] = cc (c.push_reserved.ensures.items, c.in_ok-reserve.ensures.items) in
    let place : c.find-place.result ≡ place_in (map now items) c.args.name.now = cc (c.find-place.ensures, c.self.view_is) in
    let new : length items ≤ c.find-place.result = omega (arith, c.len.ensures) in
    let found = hash_map_updates_str c.args.name.now c.self.inside.index c.insert.new.self (Some c.find-place.result) c.in-Ok.ensures.updates other in
    found_put items c.args.name other c.find-place.result _ _ _ grown place new found (c.self.invariant other)
