use Rattle.std.proofs.Common.{ℕ, List, [], IfOk, sym, subst}
use Rattle.std.specs.List.{AllZip}
use Rattle.rls_command_line.specs.CommandLine.{IsNameOf}
use Rattle.rls_command_line.proofs.ShownLineLemmas.{are_given, none_given}
use Rattle.rls_command_line.proofs.shown_line.names.Goals as goal

-- they are what the words give
pub returns-in-Some-clause-ok : goal.returns-in-Some-clause-ok
returns-in-Some-clause-ok c = subst (λ (values : List (List ℕ)). IfOk c.names_of.result (AllZip IsNameOf values)) (are_given c.args.words.now c.args.id.now c.in-Some.texts.now c.in-Some.ensures) c.names_of.ensures.ok

pub returns-in-None-clause-ok : goal.returns-in-None-clause-ok
returns-in-None-clause-ok c = subst (λ (values : List (List ℕ)). AllZip IsNameOf values c.new.result) (none_given c.args.words.now c.args.id.now c.in-None.ensures) (subst (AllZip IsNameOf []) (sym c.new.ensures) tt)
