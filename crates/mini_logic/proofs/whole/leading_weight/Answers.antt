use Rattle.std.proofs.Common.{◌≡◌, ◌+◌, suc, ap, arith}
use Rattle.mini_model.specs.declared.place.Position.TheVariants.{Expr}
use Rattle.mini_model.specs.Weight.{capped, weight}
use Rattle.mini_model.specs.Position.{passed_part_seat}
use Rattle.mini_logic.specs.MinimizeNegation.{leading}
use Rattle.mini_logic.proofs.WholeForms.{leading_next}
use Rattle.mini_logic.proofs.whole.leading_weight.Goals as goal

pub loop-at-preserved : goal.loop-at-preserved
loop-at-preserved c =
    let us = c.args.parts.now in
    let at = c.loop-at.at in
    let next : suc at ≡ at + 1 = omega arith in
    let more = leading_next at us (omega arith) in
    let seat = ap (λ q. capped (weight (Expr q) c.child.result.now)) c.passed_part.ensures in
    let part = ap (λ u. capped (weight (Expr passed_part_seat) u)) c.child.ensures.value in
    omega (arith, c.loop-at.invariant, more, ap (λ k. leading k us) next, c.weight-part.ensures, seat, part, c.saturating_add.ensures, c.saturating_add-total.ensures)
