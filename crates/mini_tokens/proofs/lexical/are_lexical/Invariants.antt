use Rattle.std.proofs.Common.{◌↔◌, drop}
use Rattle.mini_tokens.proofs.Lasts.{AreLexical}
use Rattle.mini_tokens.proofs.lexical.are_lexical.Given as goal

abbrev pub invariant-loop-token : goal.invariant-loop-token
invariant-loop-token l = AreLexical (drop l.token-index l.items) ↔ AreLexical l.items
