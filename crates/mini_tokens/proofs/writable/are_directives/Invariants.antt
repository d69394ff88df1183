use Rattle.std.proofs.Common.{◌≡◌, drop}
use Rattle.mini_print.specs.Unprintable.{are_directives}
use Rattle.mini_tokens.proofs.writable.are_directives.Given as goal

abbrev pub invariant-loop-text : goal.invariant-loop-text
invariant-loop-text l = are_directives (drop l.text-index l.text-items) ≡ are_directives l.text-items
