use Rattle.std.proofs.Common.{ap, refl}
use Rattle.std.specs.Prelude.{not}
use Rattle.mini_context.proofs.Askings.{extended}
use Rattle.mini_context.proofs.asking.extends.Goals as goal

pub returns-in-Some : goal.returns-in-Some
returns-in-Some c = extended c.args.nodes.now _ c.in-Some.ensures.value _ (ap not c.reads_absent.ensures)

pub returns-in-None : goal.returns-in-None
returns-in-None c = extended c.args.nodes.now _ c.in-None.ensures.value _ refl
