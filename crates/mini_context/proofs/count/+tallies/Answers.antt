use Rattle.std.proofs.Common.{◌<◌, ◌≤◌, ap, arith}
use Rattle.mini_model.specs.Tree.{Tree, node, children, count, node_count, node_counts}
use Rattle.mini_laws.specs.Scopes.{use_of}
use Rattle.mini_laws.specs.References.{reads, writes}
use Rattle.mini_context.proofs.Counting.{begins, node_tallied, node_steps, turn, reads_end, writes_end, steps_end}
use Rattle.mini_context.proofs.count.+tallies.Goals as goal

child_counts : (n : Tree) → node_counts (children n) < node_count n
child_counts (node h xs k ts) = omega arith

pub tally_node-tally_nodes-requires : goal.tally_node-tally_nodes-requires
tally_node-tally_nodes-requires g t c κs within = (omega (arith, c.decreases, ap node_counts c.children.ensures, child_counts c.args.node.now), within)

pub tally_node-returns-clause-reads : goal.tally_node-returns-clause-reads
tally_node-returns-clause-reads g t c = node_tallied c.args.tally reads c.args.usage c.args.node.now _ _ _ c.shape-shape.ensures c.name.ensures c.children.ensures _ _ _ c.tally_own.ensures.reads c.tally_nodes.ensures.reads

pub tally_node-returns-clause-writes : goal.tally_node-returns-clause-writes
tally_node-returns-clause-writes g t c = node_tallied c.args.tally writes c.args.usage c.args.node.now _ _ _ c.shape-shape.ensures c.name.ensures c.children.ensures _ _ _ c.tally_own.ensures.writes c.tally_nodes.ensures.writes

pub tally_node-returns-clause-steps : goal.tally_node-returns-clause-steps
tally_node-returns-clause-steps g t c = omega (arith, c.tally_own.ensures.steps, c.tally_nodes.ensures.steps, node_steps c.args.usage c.args.node.now _ _ _ c.shape-shape.ensures c.name.ensures c.children.ensures)

pub tally_nodes-loop-at-init : goal.tally_nodes-loop-at-init
tally_nodes-loop-at-init g t c = begins c.args.tally (use_of c.args.shape.now c.args.usage) c.args.nodes.now _ _ _

pub tally_nodes-loop-at-preserved : goal.tally_nodes-loop-at-preserved
tally_nodes-loop-at-preserved g t c =
    let within : c.loop-at.at < count c.args.nodes.now = omega arith in
    turn c.args.tally (use_of c.args.shape.now c.args.usage) c.use_of.result c.args.nodes.now c.loop-at.at c.child-child.result.now _ _ _ _ _ _ _ _ _
    c.loop-at.invariant within c.child-child.ensures.value c.use_of.ensures c.tally_node.ensures.reads c.tally_node.ensures.writes c.tally_node.ensures.steps

pub tally_nodes-returns : goal.tally_nodes-returns
tally_nodes-returns g t c =
    let us = use_of c.args.shape.now c.args.usage in
    let ts = c.args.nodes.now in
    let over : count ts ≤ c.loop-at.at = omega arith in
    record {
      reads = reads_end c.args.tally us ts c.loop-at.at _ _ _ _ _ _ over c.loop-at.invariant;
      writes = writes_end c.args.tally us ts c.loop-at.at _ _ _ _ _ _ over c.loop-at.invariant;
      steps = steps_end c.args.tally us ts c.loop-at.at _ _ _ _ _ _ over c.loop-at.invariant;
    }

pub tally_nodes-tally_node-requires : goal.tally_nodes-tally_node-requires
tally_nodes-tally_node-requires g t c κs within =
    let inside : c.loop-at.at < count c.args.nodes.now = omega arith in
    (omega (arith, c.decreases, c.child-child.ensures.smaller), within)
