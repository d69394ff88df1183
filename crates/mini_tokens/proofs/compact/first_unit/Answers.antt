use Rattle.mini_tokens.proofs.Literals.{literal_first}
use Rattle.mini_tokens.proofs.compact.first_unit.Goals as goal

pub returns-in-Text : goal.returns-in-Text
returns-in-Text c = rw c.in-Text.is (literal_first c.in-Text.field-0.now)
