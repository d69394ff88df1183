use Rattle.std.proofs.Common.{◌<◌, ◌∙◌, sym, ap, arith}
use Rattle.mini_model.specs.Tree.{children, count}
use Rattle.mini_node.specs.Children.{rest_children}
use Rattle.mini_rows.specs.Unused.{any_names, is_first}
use Rattle.mini_unused.proofs.SingleUses.{head_not_read, head_read_by}
use Rattle.mini_unused.proofs.heads.reads_first.Goals as goal

pub returns-then-not-is_first : goal.returns-then-not-is_first
returns-then-not-is_first c =
    let some : 0 < count (children c.args.node.now) = omega (arith, ap count c.children.ensures) in
    sym (head_not_read c.args.name.now c.args.node.now some (sym (c.if-not-is_first.ensures ∙ ap (is_first c.args.name.now _) c.child.ensures.value)))

pub returns : goal.returns
returns c =
    let some : 0 < count (children c.args.node.now) = omega (arith, ap count c.children.ensures) in
    sym (head_read_by c.args.name.now c.args.node.now c.is_mentioned_from.result some (sym c.if-not-is_head.ensures) (sym (c.if-not-is_first.ensures ∙ ap (is_first c.args.name.now _) c.child.ensures.value)) (c.is_mentioned_from.ensures ∙ ap (λ ts. any_names c.args.name.now (rest_children 1 ts)) c.children-2.ensures))
