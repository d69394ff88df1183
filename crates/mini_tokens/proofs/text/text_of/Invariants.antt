use Rattle.std.proofs.Common.{◌≡◌, ◌++◌, length}
use Rattle.mini_print.specs.Text.{text_of}
use Rattle.mini_tokens.proofs.Blanks.{rest_text}
use Rattle.mini_tokens.proofs.text.text_of.Given as goal

abbrev pub decreases-loop-token : goal.decreases-loop-token
decreases-loop-token l = length l.left

abbrev pub invariant-loop-token : goal.invariant-loop-token
invariant-loop-token l = text_of l.fn.tokens ≡ l.text ++ rest_text l.left
