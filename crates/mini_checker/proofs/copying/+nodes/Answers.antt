use Rattle.std.proofs.Common.{◌∙◌, ap, arith}
use Rattle.mini_model.specs.Tree.{none, ◌▸◌}
use Rattle.mini_model.specs.Paths.{append}
use Rattle.mini_node.specs.Children.{rest_children}
use Rattle.mini_node.specs.Walks.{from_first}
use Rattle.mini_checker.proofs.Copies.{copy_next, copy_ends}
use Rattle.mini_checker.proofs.copying.+nodes.Goals as goal

pub copy_nodes-loop-at-init : goal.copy_nodes-loop-at-init
copy_nodes-loop-at-init t c = ap (λ us. append us (rest_children 0 c.args.nodes.now)) c.in_ok-copy.ensures ∙ from_first c.args.nodes.now

pub copy_nodes-loop-at-preserved : goal.copy_nodes-loop-at-preserved
copy_nodes-loop-at-preserved t c =
    copy_next c.args.nodes.now c.loop-at.copy c.push.new.self c.loop-at.at (omega arith) (c.in_ok-push.ensures.ok ∙ ap (λ x. append c.loop-at.copy (x ▸ none)) (c.in_ok-copy_node.ensures ∙ c.child.ensures.value)) c.loop-at.invariant

pub copy_nodes-returns : goal.copy_nodes-returns
copy_nodes-returns t c = copy_ends c.args.nodes.now c.loop-at.copy c.loop-at.at (omega arith) c.loop-at.invariant
