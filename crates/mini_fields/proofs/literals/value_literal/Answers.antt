use Rattle.std.proofs.Common.{sym}
use Rattle.mini_fields.proofs.Texts.{string_read}
use Rattle.mini_fields.proofs.literals.value_literal.Goals as goal

pub returns-in-String : goal.returns-in-String
returns-in-String c = rw c.in-String.is (sym (string_read c.in-String.text c.as_str.result.now c.as_str.ensures.value c.as_str.utf8))
