use Rattle.std.proofs.Common.{◌+◌, ◌∙◌, sym, ap, arith, add-one}
use Rattle.mini_node.specs.Walks.{count_with}
use Rattle.mini_model.specs.Tree.{absent, count}
use Rattle.mini_log.specs.ListRows.{joined, within}
use Rattle.mini_recorded.proofs.ListEdits.{nothing, no_next, joins, apart, still_within}
use Rattle.mini_recorded.proofs.lists.join_next.Goals as goal

pub returns-then-not-has_next : goal.returns-then-not-has_next
returns-then-not-has_next c =
    nothing (within (joined c.args.sequences) c.args.nodes.now c.args.at) c.args.nodes.now (no_next c.args.sequences c.args.nodes.now c.args.at (omega (arith, c.has_next.ensures.none c.if-not-has_next.true)))

pub joins-requires : goal.joins-requires
joins-requires c = record { first = omega (arith, c.has_next.ensures.some c.if-not-has_next.false); second = c.has_next.ensures.some c.if-not-has_next.false }

pub returns-then-not-joins : goal.returns-then-not-joins
returns-then-not-joins c =
    apart c.args.sequences c.args.nodes.now c.args.at (c.args.at + 1) (add-one c.args.at) (omega (arith, c.has_next.ensures.some c.if-not-has_next.false)) (sym c.joins.ensures ∙ c.if-not-joins.true)

pub remove-second-requires : goal.remove-second-requires
remove-second-requires c = c.has_next.ensures.some c.if-not-has_next.false

pub take-first-requires : goal.take-first-requires
take-first-requires c = still_within c.args.nodes.now c.remove-second.new.self c.args.at (c.has_next.ensures.some c.if-not-has_next.false) c.remove-second.ensures.rest

pub replace-requires : goal.replace-requires
replace-requires c =
    let within_two = still_within c.args.nodes.now c.remove-second.new.self c.args.at (c.has_next.ensures.some c.if-not-has_next.false) c.remove-second.ensures.rest in
    omega (arith, within_two, ap count c.take-first.ensures.rest, count_with c.remove-second.new.self c.args.at absent)

pub returns : goal.returns
returns c =
    joins c.args.sequences c.args.nodes.now c.remove-second.new.self c.take-first.new.self c.replace.new.self c.args.at (c.args.at + 1) c.take-first.result c.remove-second.result c.in_ok-whole.whole (add-one c.args.at)
    (omega (arith, c.has_next.ensures.some c.if-not-has_next.false)) (sym c.joins.ensures ∙ c.if-not-joins.false) c.remove-second.ensures.value c.remove-second.ensures.rest c.take-first.ensures.value c.take-first.ensures.rest c.in_ok-whole.ensures c.replace.ensures.rest
