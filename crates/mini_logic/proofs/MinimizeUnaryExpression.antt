-- The rewrite is that of row 23, where it is lighter.
use Rattle.std.proofs.Common.{◌≡◌, ◌<◌, ◌^◌, Bool, true, false, refl, sym, ap, subst, ◌∙◌, arith}
use Rattle.std.specs.Prelude.{◌&&◌, ◌||◌, nat_lt, Option, Some, None, is_some, if◌then◌else◌}
use Rattle.std.proofs.lemmas.Bool.{and_parts}
use borrow.Author.Tests.{ltb-true, ltb-false}
use Rattle.mini_model.specs.declared.operator.BinaryOperator.{BinaryOperator}
use Rattle.mini_model.specs.declared.operator.LogicalOperator.{LogicalOperator}
use Rattle.mini_model.specs.declared.place.Position.TheVariants.{Expr}
use Rattle.mini_model.specs.declared.seat.Seat.{Seat}
use Rattle.mini_model.specs.Tree.{Tree, shape_of, negation}
use Rattle.mini_model.specs.Weight.{weight, capped}
use Rattle.mini_model.specs.Terms.{neg}
use Rattle.mini_node.specs.Children.{part}
use Rattle.mini_node.specs.Kinds.{is_negation}
use Rattle.mini_node.specs.Made.{negation_is}
use Rattle.mini_tree.specs.Rule.{Applied}
use Rattle.mini_tree.proofs.Reaching.{moves_once}
use Rattle.mini_logic.specs.Negating.{turned_by, opposite_by, is_unwrapped, has_own_negation}
use Rattle.mini_logic.specs.MinimizeUnaryExpression.{has_lighter_negation, minimizes_unary, minimized_unary, Gives, Rests}
use Rattle.mini_logic.proofs.Negations.{neg_other}

abbrev falls : Seat → Tree → Bool
falls s e = nat_lt (capped (weight (Expr s) (neg s e))) (capped (weight (Expr s) (negation e)))

pub follows : (s : Seat) (t : Tree) → minimizes_unary s t ≡ true → Gives (Expr s) t (neg s (part t 0))
follows s t e =
    let (is, other) = and_parts (is_negation t) (has_lighter_negation s (part t 0)) e in
    let (own, less) = and_parts (has_own_negation s (part t 0)) (falls s (part t 0)) other in
    let shape = negation_is t is in
    (record { e = part t 0; shape = shape; written = refl }, omega (arith, ltb-true _ _ less, ap (weight (Expr s)) shape))

-- another negation than a `!` is one that is told
no_own : (s : Seat) (e : Tree) → has_own_negation s e ≡ false → neg s e ≡ negation e
no_own s e h = go (turned_by (shape_of e)) (opposite_by (shape_of e)) (is_unwrapped s e) refl refl refl h
  where
    go : (o : Option LogicalOperator) (p : Option BinaryOperator) (b : Bool) → turned_by (shape_of e) ≡ o → opposite_by (shape_of e) ≡ p → is_unwrapped s e ≡ b → (is_some o || is_some p) || b ≡ false → neg s e ≡ negation e
    go (Some o) p b f i g k = absurd (cc k)
    go None (Some p) b f i g k = absurd (cc k)
    go None None true f i g k = absurd (cc k)
    go None None false f i g k = neg_other s e f i g

heavy : (s : Seat) (e : Tree) → has_lighter_negation s e ≡ false → weight (Expr s) (negation e) < 2 ^ 64 → weight (Expr s) (neg s e) < weight (Expr s) (negation e) → ⊥
heavy s e h small less = go (has_own_negation s e) refl h
  where
    go : (b : Bool) → has_own_negation s e ≡ b → b && falls s e ≡ false → ⊥
    go true f g = absurd (omega (arith, ltb-false _ _ g, small, less))
    go false f g = absurd (omega (arith, ap (weight (Expr s)) (no_own s e f), less))

pub misses : (s : Seat) (t w : Tree) → minimizes_unary s t ≡ false → weight (Expr s) t < 2 ^ 64 → Gives (Expr s) t w → ⊥
misses s t w h small (r, less) =
    let same = ap (weight (Expr s)) r.shape in
    let made = ap (weight (Expr s)) r.written in
    heavy s r.e (sym (ap (minimizes_unary s) r.shape) ∙ h) (omega (arith, small, same)) (omega (arith, less, same, made))

pub applied : (s : Seat) (t u : Tree) (b : Bool) → u ≡ minimized_unary s t → b ≡ minimizes_unary s t → Applied Gives Rests (Expr s) t u b
applied s t u b e f = subst (λ v. Applied Gives Rests (Expr s) t v b) (sym e) (subst (Applied Gives Rests (Expr s) t (minimized_unary s t)) (sym f) (go (minimizes_unary s t) refl))
  where
    go : (c : Bool) → minimizes_unary s t ≡ c → Applied Gives Rests (Expr s) t (if c then neg s (part t 0) else t) c
    go true h = moves_once Gives (Expr s) t (neg s (part t 0)) (follows s t h)
    go false h = (refl, λ small w r. misses s t w h small r)
