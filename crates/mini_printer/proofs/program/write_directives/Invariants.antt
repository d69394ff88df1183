use Rattle.std.proofs.Common.{◌≡◌, ◌≤◌, drop, length}
use Rattle.mini_print.specs.Grammar.{Leading}
use Rattle.mini_print.specs.Printed.{lay_block, printers, directives}
use Rattle.mini_tokens.specs.Styles.{style_of}
use Rattle.mini_printer.proofs.program.write_directives.Given as goal

abbrev pub decreases-loop-left : goal.decreases-loop-left
decreases-loop-left l = l.left

abbrev pub invariant-loop-left : goal.invariant-loop-left
invariant-loop-left l = (l.left ≤ length l.texts) × (l.tokens ≡ lay_block Leading (printers (style_of l.style) (directives (drop l.left l.texts))) l.initial.tokens)
