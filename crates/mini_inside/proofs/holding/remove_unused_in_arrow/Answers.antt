use Rattle.std.proofs.Common.{◌∙◌, ap, sym, subst₂}
use Rattle.mini_model.specs.declared.place.Position.TheVariants.{Expr}
use Rattle.mini_model.specs.declared.seat.Seat.{Seat}
use Rattle.mini_model.specs.Tree.{absent}
use Rattle.mini_node.specs.Children.{part, with_part}
use Rattle.mini_unused.specs.RemoveUnusedDeclaration.{allowed, open_in}
use Rattle.mini_unused.specs.SubstituteSingleUse.{Removed}
use Rattle.mini_inside.specs.Holding.{Applied, AppliedInFunction}
use Rattle.mini_node.specs.Kinds.{is_listed}
use Rattle.mini_inside.proofs.Lists.{in_arrow}
use Rattle.mini_inside.proofs.Holders.{of_arrow, as_expression, where_ok, put_back}
use Rattle.mini_inside.proofs.holding.remove_unused_in_arrow.Goals as goal

pub remove_in_list-changed-requires : goal.remove_in_list-changed-requires
remove_in_list-changed-requires c = ap is_listed (c.take_child-list.ensures.child ∙ ap (λ b. part b 0) c.take_child-body.ensures.child) ∙ in_arrow c.args.node.now (sym c.if-not-has_statements.ensures.kind)

pub returns : goal.returns
returns c =
    let t = c.args.node.now in
    let m = c.remove_in_list-changed.new.list in
    let body = part t 1 in
    let body_there = c.take_child-body.ensures.child in
    let list_there = c.take_child-list.ensures.child ∙ ap (λ b. part b 0) body_there in
    let emptied = c.take_child-list.ensures.left ∙ ap (λ b. with_part b 0 absent) body_there in
    let whole = put_back body 0 m c.take_child-list.new.node c.put_child.new.node emptied c.put_child.ensures in
    where_ok c.remove_in_list-changed.result (λ changed. Removed (open_in c.take_child-body.new.node (allowed c.args.context.now)) c.take_child-body.new.node c.take_child-list.result m changed) (λ changed. (s : Seat) → Applied (allowed c.args.context.now) (Expr s) t c.put_child-2.new.node changed)
    (λ changed r. of_arrow (allowed c.args.context.now) t m changed (sym c.if-not-has_statements.ensures.kind) (subst₂ (λ o l. Removed (open_in o (allowed c.args.context.now)) o l m changed) c.take_child-body.ensures.left list_there r) c.put_child-2.new.node
    (put_back t 1 c.put_child.new.node c.take_child-body.new.node c.put_child-2.new.node c.take_child-body.ensures.left c.put_child-2.ensures ∙ ap (λ b. with_part t 1 b) whole))
    c.remove_in_list-changed.ensures

pub returns-then-not-has_statements : goal.returns-then-not-has_statements
returns-then-not-has_statements c =
    where_ok c.remove_unused_in_function.result (λ changed. AppliedInFunction (allowed c.args.context.now) c.args.node.now c.remove_unused_in_function.new.node changed) (λ changed. (s : Seat) → Applied (allowed c.args.context.now) (Expr s) c.args.node.now c.remove_unused_in_function.new.node changed)
    (λ changed r. as_expression (allowed c.args.context.now) c.args.node.now c.remove_unused_in_function.new.node changed (sym c.if-not-has_statements.ensures.kind) r) c.remove_unused_in_function.ensures
