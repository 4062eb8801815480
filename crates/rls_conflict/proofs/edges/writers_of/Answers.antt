use Rattle.std.specs.Prelude.{ℕ, List}
use Rattle.std.proofs.Common.{ap, sym, ◌∙◌, arith}
use Rattle.rls_conflict.specs.Commits.{is_place_in}
use Rattle.rls_conflict.proofs.SinceLemmas.{no_writer_since}
use Rattle.rls_conflict.proofs.edges.writers_of.Goals as goal

pub returns-then-committed-snap : goal.returns-then-committed-snap
returns-then-committed-snap c place =
    ap (λ (places : List ℕ). is_place_in places place) c.new.ensures.items
    ∙ sym (no_writer_since c.args.committed.now c.args.writers.now c.args.sireads.now c.args.snap c.requires (omega (arith, c.if-committed-snap.true)) c.args.objects.now place)
