use Rattle.std.proofs.Common.{w64}
use Rattle.std.proofs.lemmas.Int.{to_z-of_z}
use Rattle.mini_model.proofs.Decimals.{units_of-ascii}
use Rattle.mini_model.proofs.number.decimal.Goals as goal

pub returns : goal.returns
returns c = rw (units_of-ascii c.format.result.now c.format.ensures.ascii, c.format.ensures.text, to_z-of_z w64 c.args.n c.ranges.n) at c.from_str.ensures
