use Rattle.std.proofs.Common.{sym, subst}
use Rattle.mini_node.specs.Children.{part}
use Rattle.mini_syntax.specs.SubstituteVariableDeclaration.{Bared}
use Rattle.mini_syntax.proofs.Declarations.{still, put_there, put_back}
use Rattle.mini_syntax.proofs.rewrites.substitute_variable_declaration.drop_in_list.Goals as goal

pub put_child-requires : goal.put_child-requires
put_child-requires c = still c.args.node.now c.take_child-statement.new.node c.args.at c.take_child-statement.ensures.left c.requires.found

pub returns-clause-bared : goal.returns-clause-bared
returns-clause-bared c =
    let there = put_there c.args.node.now c.take_child-statement.new.node c.put_child.new.node c.drop_in_statement.new.node c.args.at c.take_child-statement.ensures.left c.put_child.ensures c.requires.found in
    subst (Bared (part c.args.node.now c.args.at)) (sym there) (subst (λ t. Bared t c.drop_in_statement.new.node) c.take_child-statement.ensures.child c.drop_in_statement.ensures)

pub returns-clause-rest : goal.returns-clause-rest
returns-clause-rest c = put_back c.args.node.now c.take_child-statement.new.node c.put_child.new.node c.drop_in_statement.new.node c.args.at c.take_child-statement.ensures.left c.put_child.ensures c.requires.found
