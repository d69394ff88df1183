-- Of an operand, whether it declares nothing.
use Rattle.std.proofs.Common.{◌≡◌, ◌<◌, ◌≤◌, false, refl, arith}
use Rattle.mini_model.specs.declared.operator.UnaryOperator.TheVariants.{LogicalNot}
use Rattle.mini_model.specs.declared.shape.Shape.TheVariants as shape
use Rattle.mini_model.specs.Tree.{Tree, node, none, ◌▸◌, shape_of, children, count}
use Rattle.mini_node.specs.Children.{part}
use Rattle.mini_rows.specs.Lists.{declares_nothing}

pub operand_declares : (t : Tree) → shape_of t ≡ shape.UnaryExpression LogicalNot → 0 < count (children t) → declares_nothing t ≡ declares_nothing (part t 0)
operand_declares (node (shape.UnaryExpression LogicalNot) xs n none) s e = absurd (omega (arith, e))
operand_declares (node (shape.UnaryExpression LogicalNot) xs n (a ▸ ts)) s e = refl
operand_declares t s e = absurd (cc s)

pub no_operand : (t : Tree) → shape_of t ≡ shape.UnaryExpression LogicalNot → count (children t) ≤ 0 → declares_nothing t ≡ false
no_operand (node (shape.UnaryExpression LogicalNot) xs n none) s e = refl
no_operand (node (shape.UnaryExpression LogicalNot) xs n (a ▸ ts)) s e = absurd (omega (arith, e))
no_operand t s e = absurd (cc s)
