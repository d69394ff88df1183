use Rattle.std.proofs.Common.{◌∙◌, ap, sym, arith}
use Rattle.mini_model.specs.Tree.{none, ◌▸◌, node_count, node_counts}
use Rattle.mini_model.specs.Paths.{append}
use Rattle.mini_stmt.specs.MinimizeStatements.{switches_of, reversed}
use Rattle.mini_stmt.proofs.Quiet.{counts_push, reversed_push}
use Rattle.mini_stmt.proofs.Stepping.{empty_goes, block_goes, alternate_goes, body_smaller, alternate_smaller}
use Rattle.mini_stmt.proofs.statements.minimize_next.Goals as goal

pub returns-then-is_empty_statement-clause-changes : goal.returns-then-is_empty_statement-clause-changes
returns-then-is_empty_statement-clause-changes c = empty_goes (switches_of c.args.options) c.args.before.now c.args.statement (reversed c.args.rest.now) (sym c.is_empty_statement.ensures ∙ c.if-is_empty_statement.true)

pub returns-then-spreads-clause-changes : goal.returns-then-spreads-clause-changes
returns-then-spreads-clause-changes c = block_goes (switches_of c.args.options) c.args.before.now c.args.statement (reversed c.args.rest.now) (reversed c.put_reversed.new.rest) (sym c.spreads.ensures ∙ c.if-spreads.true) (c.in_ok-put_reversed.ensures.list ∙ ap (λ x. append x (reversed c.args.rest.now)) c.body_of.ensures)

pub returns-then-spreads-clause-smaller : goal.returns-then-spreads-clause-smaller
returns-then-spreads-clause-smaller c =
    let nodes = c.in_ok-put_reversed.ensures.nodes in
    let body = ap node_counts c.body_of.ensures in
    let small = body_smaller c.args.statement in
    omega (arith, nodes, body, small)

pub returns-then-splits-clause-changes : goal.returns-then-splits-clause-changes
returns-then-splits-clause-changes c =
    alternate_goes (switches_of c.args.options) c.args.before.now c.args.statement c.in_ok-first.first c.in_ok-first.alternate (reversed c.args.rest.now) (reversed c.push.new.self) c.put_after.new.before c.in_ok-_joined._joined
    c.if-options.true (sym c.splits.ensures ∙ c.if-splits.true) c.in_ok-first.ensures.first c.in_ok-first.ensures.second
    (ap reversed c.in_ok-push.ensures.ok ∙ reversed_push c.args.rest.now c.in_ok-first.alternate)
    c.in_ok-_joined.ensures

pub returns-then-splits-clause-smaller : goal.returns-then-splits-clause-smaller
returns-then-splits-clause-smaller c =
    let pushed = ap node_counts c.in_ok-push.ensures.ok ∙ counts_push c.args.rest.now (c.in_ok-first.alternate ▸ none) in
    let other = ap node_count c.in_ok-first.ensures.second in
    let small = alternate_smaller c.args.statement (sym c.splits.ensures ∙ c.if-splits.true) in
    omega (arith, pushed, other, small)
