use Rattle.rls_laws.proofs.SpelledAlone.{statement_alone, statement_spelled}
use Rattle.rls_laws.proofs.spelling.printed_statement.Goals as goal

pub returns-clause-spelled : goal.returns-clause-spelled
returns-clause-spelled c = λ x original tokens spelled printed. statement_spelled x original tokens spelled printed

pub returns-clause-alone : goal.returns-clause-alone
returns-clause-alone c = λ x y original tokens spelled printed other. statement_alone x y original tokens spelled printed other
