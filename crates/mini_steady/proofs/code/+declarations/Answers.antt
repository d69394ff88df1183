use Rattle.std.proofs.Common.{arith}
use Rattle.mini_steady.specs.Declarations.{declared_among}
use Rattle.mini_steady.proofs.Declaring.{gathers, node_there}
use Rattle.mini_steady.proofs.Gathering.{child_falls, before_turns, turn, after_turns}
use Rattle.mini_steady.proofs.code.+declarations.Goals as goal

pub push_all-loop-node-init : goal.push_all-loop-node-init
push_all-loop-node-init t c = (before_turns _ _ gathers _, c.as_slice-node-items.ensures)

pub push_all-push_declared-requires : goal.push_all-push_declared-requires
push_all-push_declared-requires t c = (omega (arith, child_falls _ _ _ _ c.loop-node-test.true c.node-item.is c.as_slice-node-items.ensures), tt)

pub push_all-loop-node-preserved : goal.push_all-loop-node-preserved
push_all-loop-node-preserved t c = (turn _ _ gathers _ _ _ _ _ _ c.loop-node-test.true c.node-item.is c.loop-node.invariant.0 c.in_ok-push_declared.ensures, c.loop-node.invariant.1)

pub push_all-returns : goal.push_all-returns
push_all-returns t c = after_turns declared_among c.as_slice-node-items.result.now c.loop-node.node-index c.args.nodes.now c.args.symbols.now.items c.loop-node.symbols.items (omega arith) c.as_slice-node-items.ensures c.loop-node.invariant.0

pub push_declared-returns : goal.push_declared-returns
push_declared-returns t c = rw (node_there _ _ c.args.node.now _ c.in_ok-push_own.ensures c.children.ensures) c.push_all.ensures
