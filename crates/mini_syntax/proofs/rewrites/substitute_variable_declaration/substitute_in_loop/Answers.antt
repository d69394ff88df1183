use Rattle.std.proofs.Common.{◌∙◌, sym}
use Rattle.mini_syntax.proofs.Declarations.{loop_applied, loop_rests}
use Rattle.mini_syntax.proofs.rewrites.substitute_variable_declaration.substitute_in_loop.Goals as goal

pub returns-then-not-loops_undefined : goal.returns-then-not-loops_undefined
returns-then-not-loops_undefined c = loop_rests c.args.node.now (sym c.loops_undefined.ensures.kind ∙ c.if-not-loops_undefined.true)

pub returns : goal.returns
returns c = loop_applied c.args.node.now c.drop_below.new.node (sym c.loops_undefined.ensures.kind ∙ c.if-not-loops_undefined.false) c.drop_below.ensures.row c.drop_below.ensures.rest
