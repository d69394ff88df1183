use Rattle.std.proofs.Common.{◌≡◌, length, drop}
use Rattle.mini_model.specs.Paths.{append}
use Rattle.mini_print.specs.Printed as printed
use Rattle.mini_printer.proofs.order.directives.Given as goal

abbrev pub invariant-loop-at : goal.invariant-loop-at
invariant-loop-at l = record { same : length l.texts ≡ length l.initial.texts; made : append l.nodes (printed.directives (drop l.at l.texts)) ≡ printed.directives l.initial.texts }
