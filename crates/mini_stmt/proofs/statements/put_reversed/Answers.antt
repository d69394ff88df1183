use Rattle.std.proofs.Common.{◌∙◌, ap, sym, refl, arith}
use Rattle.mini_model.specs.Tree.{none, ◌▸◌, count, node_counts}
use Rattle.mini_model.specs.Paths.{append}
use Rattle.mini_node.specs.Walks.{append_one}
use Rattle.mini_stmt.specs.MinimizeStatements.{reversed}
use Rattle.mini_stmt.proofs.Quiet.{count_push, counts_push, reversed_push}
use Rattle.mini_stmt.proofs.statements.put_reversed.Goals as goal

pub moving-init : goal.moving-init
moving-init c = record { list = refl; nodes = refl }

pub moving-smaller : goal.moving-smaller
moving-smaller c =
    let same = ap count c.in-Some.ensures.value ∙ count_push c.pop.new.self c.in-Some.node in
    omega (arith, same)

pub moving-preserved : goal.moving-preserved
moving-preserved c = record {
  list =
      ap (append c.pop.new.self) (ap reversed c.in_ok-push.ensures.ok ∙ reversed_push c.moving.rest c.in-Some.node)
      ∙ sym (append_one c.pop.new.self c.in-Some.node (reversed c.moving.rest))
      ∙ ap (λ x. append x (reversed c.moving.rest)) (sym c.in-Some.ensures.value)
      ∙ c.moving.invariant.list;
  nodes =
      let pushed = ap node_counts c.in_ok-push.ensures.ok ∙ counts_push c.moving.rest (c.in-Some.node ▸ none) in
      let popped = ap node_counts c.in-Some.ensures.value ∙ counts_push c.pop.new.self (c.in-Some.node ▸ none) in
      let before = c.moving.invariant.nodes in
      omega (arith, pushed, popped, before);
}

pub returns-clause-list : goal.returns-clause-list
returns-clause-list c = ap (λ x. append x (reversed c.moving.rest)) (sym c.in_default.ensures.value.0) ∙ c.moving.invariant.list

pub returns-clause-nodes : goal.returns-clause-nodes
returns-clause-nodes c =
    let empty = ap node_counts c.in_default.ensures.value.0 in
    let before = c.moving.invariant.nodes in
    omega (arith, empty, before)
