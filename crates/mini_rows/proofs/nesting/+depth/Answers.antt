use Rattle.std.proofs.Common.{◌∙◌, ap, sym, arith}
use Rattle.mini_node.specs.Children.{rest_children}
use Rattle.mini_rows.specs.Nesting.{is_shallow, are_shallow}
use Rattle.mini_rows.proofs.Nests.{shallow_stops, shallow_goes_on, shallow_ends}
use Rattle.mini_rows.proofs.nesting.+depth.Goals as goal

pub are_shallow-returns-then-not-is_shallow : goal.are_shallow-returns-then-not-is_shallow
are_shallow-returns-then-not-is_shallow t c = shallow_stops c.args.levels c.args.nodes.now (are_shallow c.args.levels (rest_children c.args.from c.args.nodes.now)) c.loop-at.at (omega arith) (sym (c.is_shallow.ensures ∙ ap (is_shallow c.args.levels) c.child.ensures.value) ∙ c.if-not-is_shallow.true) c.loop-at.invariant

pub are_shallow-loop-at-preserved : goal.are_shallow-loop-at-preserved
are_shallow-loop-at-preserved t c = shallow_goes_on c.args.levels c.args.nodes.now (are_shallow c.args.levels (rest_children c.args.from c.args.nodes.now)) c.loop-at.at (omega arith) (sym (c.is_shallow.ensures ∙ ap (is_shallow c.args.levels) c.child.ensures.value) ∙ c.if-not-is_shallow.false) c.loop-at.invariant

pub are_shallow-returns : goal.are_shallow-returns
are_shallow-returns t c = shallow_ends c.args.levels c.args.nodes.now (are_shallow c.args.levels (rest_children c.args.from c.args.nodes.now)) c.loop-at.at (omega arith) c.loop-at.invariant
