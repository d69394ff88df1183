use Rattle.mini_inside.proofs.FurtherBodies.{list_parts, list_walked}
use Rattle.mini_inside.proofs.bodies.remove_in_holder.Goals as goal

pub put_child-requires : goal.put_child-requires
put_child-requires g c = list_parts c.args.node.now c.take_child-list.new.node c.remove_under.new.outside c.take_child-list.ensures.left c.in_ok-changed.ensures.0 c.requires

pub returns : goal.returns
returns g c = list_walked (g.E.EndRewrites.ends c.args.ends.now) c.args.node.now c.take_child-list.result c.take_child-list.new.node c.remove_under.new.outside c.remove_under.new.list c.put_child.new.node _ c.take_child-list.ensures.child c.take_child-list.ensures.left c.in_ok-changed.ensures c.put_child.ensures
