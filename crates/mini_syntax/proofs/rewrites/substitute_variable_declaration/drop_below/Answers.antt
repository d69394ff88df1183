use Rattle.std.proofs.Common.{sym, subst}
use Rattle.mini_node.specs.Children.{part}
use Rattle.mini_rows.specs.Declarations.{Row61}
use Rattle.mini_syntax.proofs.Declarations.{still, put_there, put_back}
use Rattle.mini_syntax.proofs.rewrites.substitute_variable_declaration.drop_below.Goals as goal

pub put_child-requires : goal.put_child-requires
put_child-requires c = still c.args.node.now c.take_child-declaration.new.node 0 c.take_child-declaration.ensures.left c.requires.child

pub returns-clause-row : goal.returns-clause-row
returns-clause-row c =
    let there = put_there c.args.node.now c.take_child-declaration.new.node c.put_child.new.node c.drop_first.new.node 0 c.take_child-declaration.ensures.left c.put_child.ensures c.requires.child in
    subst (Row61 (part c.args.node.now 0)) (sym there) (subst (λ t. Row61 t c.drop_first.new.node) c.take_child-declaration.ensures.child c.drop_first.ensures)

pub returns-clause-rest : goal.returns-clause-rest
returns-clause-rest c = put_back c.args.node.now c.take_child-declaration.new.node c.put_child.new.node c.drop_first.new.node 0 c.take_child-declaration.ensures.left c.put_child.ensures c.requires.child
