use Rattle.std.proofs.Common.{ap, ◌∙◌, sym}
use Rattle.std.specs.Prelude.{is_some, unwrap_or}
use Rattle.mini_model.specs.Tree.{child_or_absent}
use Rattle.mini_node.specs.Children.{with_child}
use Rattle.mini_node.specs.Lends.{with_children}
use Rattle.mini_syntax.specs.ConvertToDottedProperties.{turned}
use Rattle.mini_syntax.proofs.Dotted.{assigned_over, assigned_said, no_assignment}
use Rattle.mini_syntax.proofs.rewrites.convert_to_dotted_properties.turn_assigned.Goals as goal

pub returns-then-not-is_assignment-clause-tree : goal.returns-then-not-is_assignment-clause-tree
returns-then-not-is_assignment-clause-tree c = sym (ap (λ o. unwrap_or o c.args.node.now) (no_assignment c.args.node.now (sym c.is_assignment.ensures.kind ∙ c.if-not-is_assignment.true)))

pub returns-then-not-is_assignment-clause-said : goal.returns-then-not-is_assignment-clause-said
returns-then-not-is_assignment-clause-said c = sym (ap is_some (no_assignment c.args.node.now (sym c.is_assignment.ensures.kind ∙ c.if-not-is_assignment.true)))

pub returns-clause-tree : goal.returns-clause-tree
returns-clause-tree c =
    let t = c.args.node.now in
    let u = c.turn.new.node in
    let below = c.children_mut.ensures.value in
    let here = c.child_mut.ensures.value ∙ ap (λ ts. child_or_absent ts 0) below in
    ap (λ ts. with_children t (with_child ts 0 u)) below ∙ assigned_over t u (sym c.is_assignment.ensures.kind ∙ c.if-not-is_assignment.false) (c.in_ok-changed.ensures.tree ∙ ap (λ x. unwrap_or (turned x) x) here)

pub returns-clause-said : goal.returns-clause-said
returns-clause-said c =
    let here = c.child_mut.ensures.value ∙ ap (λ ts. child_or_absent ts 0) c.children_mut.ensures.value in
    c.in_ok-changed.ensures.said ∙ ap (λ x. is_some (turned x)) here ∙ assigned_said c.args.node.now (sym c.is_assignment.ensures.kind ∙ c.if-not-is_assignment.false)
