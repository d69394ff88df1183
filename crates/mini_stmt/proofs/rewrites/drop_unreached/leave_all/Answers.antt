use Rattle.std.proofs.Common.{◌∙◌, ap, sym, arith}
use Rattle.std.specs.Prelude.{◌||◌}
use Rattle.mini_model.specs.Tree.{count}
use Rattle.mini_model.specs.Paths.{append}
use Rattle.mini_node.specs.Walks.{append_none}
use Rattle.mini_stmt.specs.MinimizeStatements.{reversed}
use Rattle.mini_stmt.specs.DropUnreached.{all_left, some_go}
use Rattle.mini_stmt.proofs.Quiet.{count_push, reversed_push}
use Rattle.mini_stmt.proofs.Unreached.{left_turn, left_end}
use Rattle.mini_stmt.proofs.rewrites.drop_unreached.leave_all.Goals as goal

pub statements-init : goal.statements-init
statements-init c =
    let empty = c.replace-whole.ensures.after ∙ c.new.ensures in
    let whole = c.in_ok-put_reversed.ensures.list ∙ ap (λ x. append c.replace-whole.result (reversed x)) c.new-rest.ensures ∙ append_none c.replace-whole.result ∙ c.replace-whole.ensures.value in
    record { is = ap (λ x. append x (all_left c.args.going (reversed c.put_reversed.new.rest))) empty ∙ ap (all_left c.args.going) whole; said = ap (some_go c.args.going) whole }

pub statements-smaller : goal.statements-smaller
statements-smaller c =
    let same = ap count c.in-Some.ensures.value ∙ count_push c.pop.new.self c.in-Some.statement in
    omega (arith, same)

pub statements-preserved : goal.statements-preserved
statements-preserved c =
    let rest = ap reversed c.in-Some.ensures.value ∙ reversed_push c.pop.new.self c.in-Some.statement in
    let turn = left_turn c.args.going c.statements.list c.put_left.new.before c.in-Some.statement (reversed c.pop.new.self) c.args.list.now c.statements.changed c.in_ok-went.went
    (sym (ap (λ x. append c.statements.list (all_left c.args.going x)) rest) ∙ c.statements.invariant.is)
    (sym (ap (λ x. c.statements.changed || some_go c.args.going x) rest) ∙ c.statements.invariant.said)
    c.in_ok-went.ensures in
    record { is = turn.0; said = turn.1 }

pub returns : goal.returns
returns c =
    let end = c.in_default.ensures.value.0 in
    left_end c.args.going c.statements.list c.args.list.now c.statements.changed (sym (ap (λ x. append c.statements.list (all_left c.args.going (reversed x))) end) ∙ c.statements.invariant.is) (sym (ap (λ x. c.statements.changed || some_go c.args.going (reversed x)) end) ∙ c.statements.invariant.said)
