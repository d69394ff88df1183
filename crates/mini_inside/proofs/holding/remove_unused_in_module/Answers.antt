use Rattle.std.proofs.Common.{◌∙◌, ap, sym, subst₂}
use Rattle.mini_node.specs.Kinds.{is_listed}
use Rattle.mini_model.specs.declared.place.Position.TheVariants.{Elsewhere}
use Rattle.mini_unused.specs.RemoveUnusedDeclaration.{allowed, open_in}
use Rattle.mini_unused.specs.SubstituteSingleUse.{Removed}
use Rattle.mini_inside.specs.Holding.{Applied, AppliedInFunction}
use Rattle.mini_inside.proofs.Lists.{in_statements}
use Rattle.mini_inside.proofs.Holders.{of_statements, as_exported, where_ok, put_back}
use Rattle.mini_inside.proofs.holding.remove_unused_in_module.Goals as goal

pub remove_in_list-changed-requires : goal.remove_in_list-changed-requires
remove_in_list-changed-requires c = ap is_listed c.take_child-list.ensures.child ∙ in_statements c.args.node.now (sym c.if-not-holds_statements.ensures.kind)

pub returns : goal.returns
returns c =
    let m = c.remove_in_list-changed.new.list in
    where_ok c.remove_in_list-changed.result (λ changed. Removed (open_in c.take_child-list.new.node (allowed c.args.context.now)) c.take_child-list.new.node c.take_child-list.result m changed) (λ changed. Applied (allowed c.args.context.now) Elsewhere c.args.node.now c.put_child.new.node changed)
    (λ changed r. of_statements (allowed c.args.context.now) c.args.node.now m changed (sym c.if-not-holds_statements.ensures.kind) (subst₂ (λ o l. Removed (open_in o (allowed c.args.context.now)) o l m changed) c.take_child-list.ensures.left c.take_child-list.ensures.child r) c.put_child.new.node (put_back c.args.node.now 0 m c.take_child-list.new.node c.put_child.new.node c.take_child-list.ensures.left c.put_child.ensures))
    c.remove_in_list-changed.ensures

pub returns-then-not-holds_statements : goal.returns-then-not-holds_statements
returns-then-not-holds_statements c =
    where_ok c.remove_unused_in_function.result (λ changed. AppliedInFunction (allowed c.args.context.now) c.args.node.now c.remove_unused_in_function.new.node changed) (λ changed. Applied (allowed c.args.context.now) Elsewhere c.args.node.now c.remove_unused_in_function.new.node changed)
    (λ changed r. as_exported (allowed c.args.context.now) c.args.node.now c.remove_unused_in_function.new.node changed (sym c.if-not-holds_statements.ensures.kind) r) c.remove_unused_in_function.ensures
