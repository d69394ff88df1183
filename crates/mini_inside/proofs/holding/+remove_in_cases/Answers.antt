use Rattle.std.proofs.Common.{◌+◌, ap, arith}
use Rattle.mini_model.specs.Tree.{children, count}
use Rattle.mini_unused.specs.Allowed.{switches_of}
use Rattle.mini_inside.specs.Holding.{AppliedInCases}
use Rattle.mini_inside.proofs.Holders.{where_ok}
use Rattle.mini_inside.proofs.Switches.{no_cases, next_cases}
use Rattle.mini_inside.proofs.holding.+remove_in_cases.Goals as goal

pub returns-then-from-len : goal.returns-then-from-len
returns-then-from-len t c = no_cases (switches_of c.args.context.now.options) c.args.node.now c.args.from (omega (arith, ap count c.children.ensures, ap (λ u. count (children u)) c.child.ensures.value))

pub returns : goal.returns
returns t c =
    let one = c.in_ok-remove_in_case in
    where_ok c.remove_in_cases.result (λ b. AppliedInCases (switches_of c.args.context.now.options) c.remove_in_case.new.node (c.args.from + 1) c.remove_in_cases.new.node b) (λ b. AppliedInCases (switches_of c.args.context.now.options) c.args.node.now c.args.from c.remove_in_cases.new.node b)
    (λ b r. next_cases (switches_of c.args.context.now.options) c.args.node.now c.args.from c.remove_in_case.new.node c.remove_in_cases.new.node one.field-0 b c.if-branch.false one.ensures r) c.remove_in_cases.ensures
