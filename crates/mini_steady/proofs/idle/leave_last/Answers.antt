use Rattle.std.proofs.Common.{true, sym, ap, subst, ◌∙◌}
use Rattle.mini_model.specs.Tree.{children, child_or_absent}
use Rattle.mini_node.specs.Children.{part}
use Rattle.mini_steady.specs.Idle.{is_left, Loses}
use Rattle.mini_steady.proofs.IdleRows.{last_loses, not_left}
use Rattle.mini_steady.proofs.idle.leave_last.Goals as goal

pub returns-then-not-is_left : goal.returns-then-not-is_left
returns-then-not-is_left c =
    let same = c.is_left.ensures ∙ ap (is_left c.args.seat) (c.children.ensures ∙ ap children c.child.ensures.value) in
    not_left c.args.seat c.args.node.now c.requires.kind c.requires.few (sym same ∙ c.if-not-is_left.true)

pub returns : goal.returns
returns c =
    let same = c.is_left.ensures ∙ ap (is_left c.args.seat) (c.children.ensures ∙ ap children c.child.ensures.value) in
    subst (λ u. Loses c.args.seat c.args.node.now u true) (sym (c.last_of_two.ensures ∙ ap (λ t. child_or_absent (children (part t 0)) 1) c.taken.ensures.value))
    (last_loses c.args.seat c.args.node.now c.requires.kind (sym same ∙ c.if-not-is_left.false))
