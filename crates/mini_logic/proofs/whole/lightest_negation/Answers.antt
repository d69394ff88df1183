use Rattle.std.proofs.Common.{◌≡◌, sym, subst}
use Rattle.std.specs.Prelude.{IfOk}
use Rattle.mini_model.specs.declared.place.Position.TheVariants.{Expr}
use Rattle.mini_model.specs.Weight.{capped, weight}
use Rattle.mini_logic.specs.Negating.{lighter_negation}
use Rattle.mini_logic.specs.MinimizeNegation.{told}
use Rattle.mini_logic.proofs.Weights.{lighter_first, lighter_second}
use Rattle.mini_logic.proofs.whole.lightest_negation.Goals as goal

pub returns-then-lighter_negation_weight-told_weight : goal.returns-then-lighter_negation_weight-told_weight
returns-then-lighter_negation_weight-told_weight c =
    let s = c.args.seat in
    let e = c.args.expression in
    let is = lighter_first (lighter_negation s e) (told s e) c.lighter_negation_weight.result c.told_weight.result (capped (weight (Expr s) (lighter_negation s e))) (capped (weight (Expr s) (told s e))) c.lighter_negation_weight.ensures c.told_weight.ensures c.if-lighter_negation_weight-told_weight.true in
    subst (λ u. IfOk c.lighter_negation.result (λ w. w ≡ u)) (sym is) c.lighter_negation.ensures

pub returns-else-lighter_negation_weight-told_weight : goal.returns-else-lighter_negation_weight-told_weight
returns-else-lighter_negation_weight-told_weight c =
    let s = c.args.seat in
    let e = c.args.expression in
    let is = lighter_second (lighter_negation s e) (told s e) c.lighter_negation_weight.result c.told_weight.result (capped (weight (Expr s) (lighter_negation s e))) (capped (weight (Expr s) (told s e))) c.lighter_negation_weight.ensures c.told_weight.ensures c.if-lighter_negation_weight-told_weight.false in
    subst (λ u. IfOk c.told_negation.result (λ w. w ≡ u)) (sym is) c.told_negation.ensures
