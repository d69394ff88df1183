use Rattle.std.proofs.Common.{◌<◌, sym, ap, ◌∙◌, arith}
use Rattle.std.proofs.lemmas.Result.{IfOk-weaker}
use Rattle.mini_model.specs.Tree.{absent, count, node_count}
use Rattle.mini_node.specs.Lends.{with_children}
use Rattle.mini_node.specs.Walks.{count_with}
use Rattle.mini_print.specs.Printed.{all_shown}
use Rattle.mini_printer.specs.Ordered.{seen}
use Rattle.mini_printer.proofs.Orders.{shown_none, shown_count, shown_turn, shown_all, shown_seen, next_smaller}
use Rattle.mini_printer.proofs.order.+showing.Goals as goal

pub show_all-loop-at-init : goal.show_all-loop-at-init
show_all-loop-at-init t c = sym (shown_none c.args.nodes.now)

pub show_all-take-requires : goal.show_all-take-requires
show_all-take-requires t c =
    let same = ap count c.loop-at.invariant ∙ shown_count c.args.nodes.now c.loop-at.at in
    omega (arith, same, c.len-at-end.ensures, c.loop-at-test.true)

pub show_all-shown-requires : goal.show_all-shown-requires
show_all-shown-requires t c =
    let within : c.loop-at.at < count c.args.nodes.now = omega (arith, c.len-at-end.ensures, c.loop-at-test.true) in
    let less = next_smaller c.args.nodes.now c.loop-at.nodes c.loop-at.at c.loop-at.invariant within in
    let same = ap node_count c.take.ensures.value in
    omega (arith, less, same, c.decreases)

pub show_all-replace-requires : goal.show_all-replace-requires
show_all-replace-requires t c =
    let left = ap count c.take.ensures.rest ∙ count_with c.loop-at.nodes c.loop-at.at absent in
    let same = ap count c.loop-at.invariant ∙ shown_count c.args.nodes.now c.loop-at.at in
    omega (arith, left, same, c.len-at-end.ensures, c.loop-at-test.true)

pub show_all-loop-at-preserved : goal.show_all-loop-at-preserved
show_all-loop-at-preserved t c =
    shown_turn c.args.nodes.now c.loop-at.nodes c.take.new.self c.replace.new.self c.loop-at.at c.take.result c.in_ok-node.node
    c.loop-at.invariant c.take.ensures.value c.take.ensures.rest c.in_ok-node.ensures c.replace.ensures.rest

pub show_all-returns : goal.show_all-returns
show_all-returns t c = c.loop-at.invariant ∙ shown_all c.args.nodes.now c.loop-at.at (omega (arith, c.len-at-end.ensures, c.loop-at-test.false))

pub shown-returns : goal.shown-returns
shown-returns t c =
    IfOk-weaker c.seen.result _ _ (λ made e. e ∙ ap (λ us. seen (with_children c.args.node us)) (c.in_ok-show_all.ensures ∙ ap all_shown c.children_mut.ensures.value) ∙ shown_seen c.args.node) c.seen.ensures
