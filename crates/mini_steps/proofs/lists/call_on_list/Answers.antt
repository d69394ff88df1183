use Rattle.std.proofs.Common.{◌∙◌, ap, arith}
use Rattle.std.proofs.lemmas.Result.{IfOk-weaker}
use Rattle.mini_model.specs.Tree.{count}
use Rattle.mini_stmt.specs.MinimizeStatements.{switches_of}
use Rattle.mini_steps.proofs.Held.{found_list, list_is, none_held, past_list}
use Rattle.mini_steps.proofs.lists.call_on_list.Goals as goal

pub returns-in_default : goal.returns-in_default
returns-in_default c = none_held (switches_of c.args.options) c.args.node.now c.shape.result.now c.list_index.result c.shape.ensures c.list_index.ensures c.in_default.is

pub returns-then-at-count : goal.returns-then-at-count
returns-then-at-count c =
    past_list (switches_of c.args.options) c.args.node.now c.shape.result.now c.list_index.result c.in-Some.at c.len-count.result c.shape.ensures c.list_index.ensures c.in-Some.is (c.len-count.ensures ∙ ap count c.children.ensures) c.if-at-count.true

pub returns : goal.returns
returns c =
    IfOk-weaker c.minimize_statements.result _ _
    (λ b m.
    found_list (switches_of c.args.options) c.args.node.now c.in-Some.at c.shape.result.now c.len-count.result c.children_mut.result.now c.child_mut-list.result.now c.minimize_statements.new.node b c.shape.ensures (list_is c.shape.result.now c.list_index.result c.in-Some.at c.list_index.ensures c.in-Some.is)
    (c.len-count.ensures ∙ ap count c.children.ensures) (omega arith) c.children_mut.ensures.value c.child_mut-list.ensures.value m)
    c.minimize_statements.ensures
