use Rattle.std.proofs.Common.{refl}
use Rattle.rls_check.proofs.PageLemmas.{blank}
use Rattle.rls_check.proofs.page.page_along.Goals as goal

-- nothing of the page is written yet
pub returns-in-Ok : goal.returns-in-Ok
returns-in-Ok g c = blank _ _ _ _ _ c.as_slice.result.now _ refl refl refl refl refl refl c.as_slice.ensures.value c.in-Ok.ensures
