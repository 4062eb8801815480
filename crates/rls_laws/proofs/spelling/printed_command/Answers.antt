use Rattle.rls_laws.proofs.SpelledAlone.{command_alone, command_spelled}
use Rattle.rls_laws.proofs.spelling.printed_command.Goals as goal

pub returns-clause-spelled : goal.returns-clause-spelled
returns-clause-spelled c = λ x original tokens spelled printed. command_spelled x original tokens spelled printed

pub returns-clause-alone : goal.returns-clause-alone
returns-clause-alone c = λ x y original tokens spelled printed other. command_alone x y original tokens spelled printed other
