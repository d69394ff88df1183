use Rattle.std.proofs.Common.{subst, []}
use Rattle.mini_print.specs.Printed.{styled_program, bare_program, is_module_of}
use Rattle.mini_print.specs.Groups.{GroupsProgram}
use Rattle.mini_print.specs.Text.{text_of}
use Rattle.mini_print.proofs.Split.{splits_alone, text_splits}
use Rattle.mini_print.proofs.Complete.{program_alone}
use Rattle.mini_print.proofs.Grouped.{program_grouped}
use Rattle.mini_print.proofs.Nests.{program_stands, lexical_within}
use Rattle.mini_print.proofs.Follows.{program_follows}
use Rattle.mini_print.proofs.program_text_is_of_one_tree.Goals as goal

pub returns : goal.returns
returns c style t u ts e l d s g =
    program_alone (is_module_of t) u (bare_program t) (styled_program style t)
    (subst (λ vs. GroupsProgram (is_module_of t) u vs) (splits_alone (text_of (styled_program style t)) ts (styled_program style t) s (text_splits (styled_program style t) (lexical_within [] (styled_program style t) l (program_stands (is_module_of t) (bare_program t) (styled_program style t) (program_grouped style t e)))
    (program_follows (is_module_of t) (bare_program t) (styled_program style t) (program_grouped style t e)) d)) g)
    (program_grouped style t e)
