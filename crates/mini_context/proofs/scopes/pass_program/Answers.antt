use Rattle.std.proofs.lemmas.Result.{on_ok_weaker}
use Rattle.mini_context.proofs.Told.{early_by}
use Rattle.mini_context.proofs.scopes.pass_program.Goals as goal

pub returns : goal.returns
returns c = on_ok_weaker c.pass_node.result (early_by c.args.symbols c.first_reading.result c.args.program.now c.open_moments.new.moments c.pass_node.new.moments c.first_reading.ensures c.in_ok-open_moments.ensures.ended c.in_ok-open_moments.ensures.early) c.pass_node.ensures
