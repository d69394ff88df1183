use Rattle.std.proofs.Common.{◌-◌}
use Rattle.mini_model.specs.Tree.{count}
use Rattle.mini_printer.proofs.order.+threaded.Given as goal

abbrev pub decreases-threaded : goal.decreases-threaded
decreases-threaded l = count l.quasis.now - l.at
