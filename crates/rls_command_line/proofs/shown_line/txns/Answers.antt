use Rattle.std.proofs.Common.{ℕ, List, [], IfOk, sym, subst, codes}
use Rattle.std.specs.List.{AllZip}
use Rattle.rls_command_line.specs.CommandLine.{IsNumberOf}
use Rattle.rls_command_line.proofs.ShownLineLemmas.{are_given, none_given}
use Rattle.rls_command_line.proofs.shown_line.txns.Goals as goal

-- they are what the words give
pub returns-in-Some-clause-ok : goal.returns-in-Some-clause-ok
returns-in-Some-clause-ok c = subst (λ (values : List (List ℕ)). IfOk c.numbers_of.result (AllZip IsNumberOf values)) (are_given c.args.words.now (codes "txn") c.in-Some.texts.now c.in-Some.ensures) c.numbers_of.ensures.ok

pub returns-in-None-clause-ok : goal.returns-in-None-clause-ok
returns-in-None-clause-ok c = subst (λ (values : List (List ℕ)). AllZip IsNumberOf values c.new.result) (none_given c.args.words.now (codes "txn") c.in-None.ensures) (subst (AllZip IsNumberOf []) (sym c.new.ensures) tt)
