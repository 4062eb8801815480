use Rattle.std.proofs.Common.{sym}
use Rattle.std.proofs.lemmas.List.{take-map}
use Rattle.rls_check.proofs.page_rows.first_rows.Goals as goal

-- the first of them are seen as the first of what is seen
pub returns-then-rows-most : goal.returns-then-rows-most
returns-then-rows-most c = sym (take-map _ _ _)
