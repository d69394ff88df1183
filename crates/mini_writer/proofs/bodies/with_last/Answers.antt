use Rattle.mini_writer.specs.WithBody.{body_of}
use Rattle.mini_writer.proofs.WithBody.{last_put}
use Rattle.mini_writer.proofs.bodies.with_last.Goals as goal

pub returns : goal.returns
returns c = last_put (body_of c.args.is_program c.args.directives.now) c.args.before.items c.push.new.self.items c.args.last c.in_ok-body.body c.in_ok-body.ensures c.in_ok-push.ensures.items
