use Rattle.std.proofs.Common.{◌≡◌, ◌++◌, length}
use Rattle.mini_grammar.specs.Views.{token_of}
use Rattle.mini_print.specs.Compact.{compact_text_of}
use Rattle.mini_tokens.proofs.Tight.{tight_rest}
use Rattle.mini_tokens.proofs.compact.compact_text_of.Given as goal

abbrev pub decreases-loop-next : goal.decreases-loop-next
decreases-loop-next l = length l.left

abbrev pub invariant-loop-next : goal.invariant-loop-next
invariant-loop-next l = compact_text_of l.fn.tokens ≡ l.text ++ tight_rest (token_of l.token) l.left
