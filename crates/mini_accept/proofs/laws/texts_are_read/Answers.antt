use Rattle.mini_accept.proofs.Texts.{text_read, text_told}
use Rattle.mini_accept.proofs.laws.texts_are_read.Goals as goal

pub returns-clause-read : goal.returns-clause-read
returns-clause-read c = text_read

pub returns-clause-told : goal.returns-clause-told
returns-clause-told c = text_told
