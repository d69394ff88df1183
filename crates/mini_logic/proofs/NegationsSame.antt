-- The lighter negation means what `!` does.
use Rattle.std.proofs.Common.{Bool, true, false, refl}
use Rattle.std.specs.Prelude.{nat_lt, if◌then◌else◌}
use Rattle.mini_model.specs.declared.place.Position.TheVariants.{Expr}
use Rattle.mini_model.specs.Tree.{negation}
use Rattle.mini_model.specs.Terms.{neg}
use Rattle.mini_model.specs.Weight.{weight, capped}
use Rattle.mini_laws.specs.Rows.{SameAt}
use Rattle.mini_laws.proofs.Rows.{by_equality, equal_same, negation_equal}
use Rattle.mini_rows.proofs.NegationMeaning.{Stands, neg_stands, negated_stands}
use Rattle.mini_model.specs.declared.seat.Seat.{Seat}
use Rattle.mini_model.specs.Tree.{Tree}
use Rattle.mini_logic.specs.Negating.{lighter_negation}
use Rattle.mini_logic.specs.MinimizeNegation.{told}
use Rattle.mini_logic.specs.NegationsSame.{LighterSame, LightestSame}

pub lighter_same : LighterSame
lighter_same s a = go (nat_lt (capped (weight (Expr s) (negation a))) (capped (weight (Expr s) (neg s a))))
  where
    go : (b : Bool) → SameAt (Expr s) (negation a) (if b then negation a else neg s a)
    go true = record { by = λ e D X q f. by_equality e D X q (negation a) (negation a) (λ r z. refl) }
    go false = equal_same (Expr s) (negation a) (neg s a) (negation_equal s a)

lighter_stands : (s : Seat) (a : Tree) → Stands (Expr s) (negation a) (lighter_negation s a)
lighter_stands s a = go (nat_lt (capped (weight (Expr s) (negation a))) (capped (weight (Expr s) (neg s a))))
  where
    go : (b : Bool) → Stands (Expr s) (negation a) (if b then negation a else neg s a)
    go true = (record { by = λ e D X q f. by_equality e D X q (negation a) (negation a) (λ r z. refl) }, refl)
    go false = neg_stands s a

pub lightest_same : LightestSame
lightest_same s a = go (nat_lt (capped (weight (Expr s) (lighter_negation s a))) (capped (weight (Expr s) (told s a))))
  where
    go : (b : Bool) → SameAt (Expr s) (negation a) (if b then lighter_negation s a else told s a)
    go true = (lighter_stands s a).0
    go false = (negated_stands lighter_negation lighter_stands a s).0
