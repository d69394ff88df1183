use Rattle.mini_print.proofs.Escapes.{escaped_quotable, spelled_escaped}
use Rattle.mini_print.proofs.escapes_are_quotable.Goals as goal

pub returns-clause-lexical : goal.returns-clause-lexical
returns-clause-lexical c = escaped_quotable

pub returns-clause-quotes : goal.returns-clause-quotes
returns-clause-quotes c = spelled_escaped
