use Rattle.std.proofs.Common.{◌∙◌, ap, sym, subst}
use Rattle.std.specs.Prelude.{Some, None}
use Rattle.mini_model.specs.Tree.{children}
use Rattle.mini_node.specs.Children.{part}
use Rattle.mini_unused.specs.RemoveUnusedDeclaration.{allowed, open_in}
use Rattle.mini_inside.specs.Holding.{head_without}
use Rattle.mini_inside.specs.Further.{HeadingFound}
use Rattle.mini_inside.proofs.FurtherSteps.{no_heading_here, heading_gone, heading_read}
use Rattle.mini_inside.proofs.ends.remove_in_heading.Goals as goal

pub returns-then-not-is_var : goal.returns-then-not-is_var
returns-then-not-is_var c = no_heading_here (allowed c.args.context.now) (children c.args.above.now) c.args.node.now (sym c.if-not-is_var.ensures.kind)

pub returns-in-Some : goal.returns-in-Some
returns-in-Some c =
    let W = allowed c.args.context.now in
    let o = c.args.above.now in
    let j = c.in-Some.which in
    let first = ap (λ l. part l 0) c.in_ok-list.ensures in
    let found = subst (λ z. HeadingFound (open_in o W) o z (Some j)) first c.in-Some.ensures in
    heading_gone W o c.args.node.now j c.requires (sym c.if-not-is_var.ensures.kind) found c.drop_from_head.new.head (c.drop_from_head.ensures ∙ ap (λ z. head_without z j) (c.put_first.ensures ∙ first))

pub returns-in-None : goal.returns-in-None
returns-in-None c =
    let W = allowed c.args.context.now in
    let o = c.args.above.now in
    let found = subst (λ z. HeadingFound (open_in o W) o z None) (ap (λ l. part l 0) c.in_ok-list.ensures) c.in-None.ensures in
    heading_read W o c.args.node.now c.in_ok-list.list c.substitute_within-changed.new.list c.substitute_within-changed.result c.requires c.in_ok-list.ensures found c.substitute_within-changed.ensures c.put_first-in-None.new.node c.put_first-in-None.ensures
