use Rattle.std.proofs.Common.{refl, arith}
use Rattle.mini_steady.specs.Declarations.{lets_among}
use Rattle.mini_steady.proofs.Letting.{gathers}
use Rattle.mini_steady.proofs.Gathering.{child_falls, before_turns, turn, after_turns}
use Rattle.mini_steady.proofs.lets.+lets.Goals as goal

pub push_all_lets-loop-node-init : goal.push_all_lets-loop-node-init
push_all_lets-loop-node-init t c = before_turns _ _ gathers _

pub push_all_lets-push_lets-requires : goal.push_all_lets-push_lets-requires
push_all_lets-push_lets-requires t c = (omega (arith, c.decreases, child_falls _ _ _ _ c.loop-node-test.true c.node-item.is refl), tt)

pub push_all_lets-loop-node-preserved : goal.push_all_lets-loop-node-preserved
push_all_lets-loop-node-preserved t c = turn _ _ gathers _ _ _ _ _ _ c.loop-node-test.true c.node-item.is c.loop-node.invariant c.in_ok-push_lets.ensures

pub push_all_lets-returns : goal.push_all_lets-returns
push_all_lets-returns t c = after_turns lets_among c.args.nodes.now c.loop-node.node-index _ c.args.symbols.now.items c.loop-node.symbols.items (omega arith) refl c.loop-node.invariant
