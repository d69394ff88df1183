use Rattle.std.proofs.Common.{◌≡◌, Some, sym, ap, ◌∙◌}
use Rattle.std.specs.Option.{option_copied}
use Rattle.mini_model.specs.Tree.{children, shape_of}
use Rattle.mini_model.specs.Paths.{child_at}
use Rattle.mini_syntax.specs.SubstituteSwapBinaryExpressions.{is_zero_shape}
use Rattle.mini_syntax.proofs.Parts.{part_some}
use Rattle.mini_syntax.proofs.rewrites.substitute_swap_binary_expressions.is_over_zero.Goals as goal

pub returns-in-Some : goal.returns-in-Some
returns-in-Some c =
    let here : child_at (children c.args.node.now) 0 ≡ Some c.in-Some.operand.now = ap (λ ts. child_at ts 0) (sym c.children.ensures) ∙ sym c.get.ensures.value ∙ ap option_copied c.in-Some.is in
    c.is_zero_shape.ensures ∙ ap is_zero_shape (c.shape.ensures ∙ ap shape_of (sym (part_some (children c.args.node.now) 0 c.in-Some.operand.now here)))
