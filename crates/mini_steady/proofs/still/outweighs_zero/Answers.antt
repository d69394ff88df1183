use Rattle.std.proofs.Common.{◌∙◌, ap}
use Rattle.std.specs.Prelude.{nat_lt}
use Rattle.mini_model.specs.declared.place.Position.TheVariants.{Expr}
use Rattle.mini_model.specs.Weight.{weight}
use Rattle.mini_steady.proofs.StillRows.{capped_more}
use Rattle.mini_steady.proofs.still.outweighs_zero.Goals as goal

pub returns : goal.returns
returns c = ap (nat_lt 3) c.expr_weight.ensures ∙ capped_more (weight (Expr c.args.seat) c.args.node.now)
