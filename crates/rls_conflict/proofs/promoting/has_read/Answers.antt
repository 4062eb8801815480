use Rattle.std.specs.Prelude.{◌≡◌, List, refl, length}
use Rattle.std.specs.List.{list_any}
use Rattle.std.proofs.Common.{ap, sym, ◌∙◌, arith}
use Rattle.std.proofs.lemmas.List.{get_or_read}
use Rattle.std.proofs.lemmas.Option.{slice_get_read}
use Rattle.rls_value.specs.declared.object.Object.{Object}
use Rattle.rls_source.specs.Footprints.{is_among}
use Rattle.rls_siread.specs.Covering.{covered_of}
use Rattle.rls_conflict.specs.declared.committed.Committed.{Committed}
use Rattle.rls_conflict.specs.Transactions.{Transaction, nobody, at}
use Rattle.rls_conflict.proofs.PromotedLemmas.{read_covered}
use Rattle.rls_conflict.proofs.promoting.has_read.Goals as goal

pub returns : goal.returns
returns c =
    let size = c.requires.told.size in
    let noted : c.behind-transactions.inside.noted ≡ (at c.args.transactions.now c.args.one).noted =
    ap (λ (txn : Transaction). txn.noted) (c.behind-transactions.view_is ∙ c.get.ensures ∙ get_or_read c.args.transactions.now c.args.one c.index-transactions-one.result (omega arith) c.index-transactions-one.is nobody) in
    let covered : c.index-committed-other.result.covered ≡ covered_of (at c.args.transactions.now c.args.other).changes =
    c.requires.told.covered c.args.other c.index-committed-other.result
    (slice_get_read c.args.committed.now (length c.args.committed.now) c.args.other c.index-committed-other.result refl (omega arith) c.index-committed-other.is) in
    c.have_common.ensures
    ∙ ap (λ (it : Committed). list_any (is_among it.covered) c.get-2.result.now) (sym c.index-committed-other.is)
    ∙ ap (λ (objects : List Object). list_any (is_among c.index-committed-other.result.covered) objects) (c.get-2.ensures ∙ noted)
    ∙ read_covered (at c.args.transactions.now c.args.one).noted c.index-committed-other.result.covered (at c.args.transactions.now c.args.other) covered
