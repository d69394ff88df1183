use Rattle.mini_inside.proofs.FurtherBodies.{body_parts, body_list_parts, body_walked}
use Rattle.mini_inside.proofs.bodies.remove_in_body.Goals as goal

pub put_list-requires-clause-body : goal.put_list-requires-clause-body
put_list-requires-clause-body g c = body_parts c.args.node.now c.take_list-list.new.node c.remove_under.new.outside c.args.which c.take_list-list.ensures.left c.in_ok-changed.ensures.0 c.requires.body

pub put_list-requires-clause-list : goal.put_list-requires-clause-list
put_list-requires-clause-list g c = body_list_parts c.args.node.now c.take_list-list.new.node c.remove_under.new.outside c.args.which c.take_list-list.ensures.left c.in_ok-changed.ensures.0 c.requires.body c.requires.list

pub returns : goal.returns
returns g c = body_walked (g.E.EndRewrites.ends c.args.ends.now) c.args.node.now c.args.which c.take_list-list.result c.take_list-list.new.node c.remove_under.new.outside c.remove_under.new.list c.put_list.new.node _ c.requires.body c.take_list-list.ensures.list c.take_list-list.ensures.left c.in_ok-changed.ensures c.put_list.ensures
