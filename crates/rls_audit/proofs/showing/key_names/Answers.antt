use Rattle.std.specs.Prelude.{◌+◌, ◌<◌, length, get_or}
use Rattle.std.specs.List.{All, AllZip}
use Rattle.std.proofs.Common.{subst, sym, take}
use Rattle.std.proofs.lemmas.List.{get_or_default}
use Rattle.rls_audit.specs.Shows.{NamesColumn}
use Rattle.rls_audit.proofs.ShowingLemmas.{one_of, part_fails}
use Rattle.rls_audit.proofs.ZipLemmas.{zip_more, zip_whole}
use Rattle.rls_audit.proofs.showing.key_names.Goals as goal

pub loop-place-preserved : goal.loop-place-preserved
loop-place-preserved c =
    let key = c.args.key.now in
    let i = c.loop-place.place-index in
    subst (λ names. AllZip (NamesColumn c.args.columns.now) names (take (i + 1) key)) (sym c.in_ok-push-in-Ok.ensures.ok)
    (zip_more (NamesColumn c.args.columns.now) c.loop-place.names key i c.in-Ok.name (get_or key i 0) c.loop-place-test.true (get_or_default key i 0 (get_or key i 0) c.loop-place-test.true) c.loop-place.invariant c.in-Ok.ensures)

pub returns-in-Err : goal.returns-in-Err
returns-in-Err c =
    let key = c.args.key.now in
    let i = c.loop-place.place-index in
    part_fails c.in-Err.why (get_or key i 0 < length c.args.columns.now) (All (λ place. place < length c.args.columns.now) key)
    (one_of (λ place. place < length c.args.columns.now) key i (get_or key i 0) c.loop-place-test.true (get_or_default key i 0 (get_or key i 0) c.loop-place-test.true)) c.in-Err.ensures

pub returns : goal.returns
returns c = zip_whole (NamesColumn c.args.columns.now) c.loop-place.names c.args.key.now c.loop-place.place-index c.loop-place-test.false c.loop-place.invariant
