-- The program that the test of the crate begins with.
use Rattle.std.specs.Prelude.{[], pos, false}
use Rattle.mini_model.specs.declared.operator.BinaryOperator.TheVariants.{Equality}
use Rattle.mini_model.specs.declared.operator.UnaryOperator.TheVariants.{LogicalNot}
use Rattle.mini_model.specs.declared.shape.Shape.TheVariants as shape
use Rattle.mini_model.specs.Tree.{Tree, node, none, ◌▸◌, expression_statement, unary}
use Rattle.mini_node.specs.Kinds.{binary, numeric_literal}

-- `!(1 == 2);`
abbrev pub unequal : Tree
unequal = node (shape.Program false []) [] 0 (node shape.Listed [] 0 (expression_statement (unary LogicalNot (binary Equality (numeric_literal (pos 1)) (numeric_literal (pos 2)))) ▸ none) ▸ none)
