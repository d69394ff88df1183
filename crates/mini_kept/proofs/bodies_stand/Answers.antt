use Rattle.mini_laws.specs.Bodies.{bodies_in}
use Rattle.mini_kept.proofs.BodyLists.{kept_stands}
use Rattle.mini_kept.proofs.bodies_stand.Goals as goal

pub returns : goal.returns
returns c t u k b = kept_stands (bodies_in t) (bodies_in u) k b
