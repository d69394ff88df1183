use Rattle.mini_printable.proofs.Words.{name_is_word}
use Rattle.mini_printable.proofs.names_are_words.Goals as goal

pub returns : goal.returns
returns c = name_is_word
