use Rattle.mini_print.specs.Printed.{styled_program, bare_program, is_module_of}
use Rattle.mini_print.proofs.Complete.{program_alone}
use Rattle.mini_print.proofs.Grouped.{program_grouped}
use Rattle.mini_print.proofs.printed_program_groups.Goals as goal

pub returns-clause-groups : goal.returns-clause-groups
returns-clause-groups c style t s = program_grouped style t s

pub returns-clause-alone : goal.returns-clause-alone
returns-clause-alone c style t u s g = program_alone (is_module_of t) u (bare_program t) (styled_program style t) g (program_grouped style t s)
