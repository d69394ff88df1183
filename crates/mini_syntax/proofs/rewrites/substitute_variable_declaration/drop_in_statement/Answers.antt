use Rattle.std.proofs.Common.{◌∙◌, sym}
use Rattle.mini_syntax.proofs.Declarations.{export_first, export_bared}
use Rattle.mini_syntax.proofs.rewrites.substitute_variable_declaration.drop_in_statement.Goals as goal

pub drop_below-requires-clause-child : goal.drop_below-requires-clause-child
drop_below-requires-clause-child c = export_first c.args.node.now c.requires (sym c.declares_undefined.ensures.kind ∙ c.if-declares_undefined.false)

pub returns-else-declares_undefined : goal.returns-else-declares_undefined
returns-else-declares_undefined c = export_bared c.args.node.now c.drop_below.new.node c.requires (sym c.declares_undefined.ensures.kind ∙ c.if-declares_undefined.false) c.drop_below.ensures.row c.drop_below.ensures.rest
