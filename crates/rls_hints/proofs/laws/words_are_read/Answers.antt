use Rattle.rls_hints.proofs.PlacedWords.{read_as_words}
use Rattle.rls_hints.proofs.laws.words_are_read.Goals as goal

pub returns : goal.returns
returns c = read_as_words
