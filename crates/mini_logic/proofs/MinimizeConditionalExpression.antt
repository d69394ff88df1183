-- The rewrite is that of the rows 40, and always lighter.
use Rattle.std.proofs.Common.{◌≡◌, ◌<◌, Bool, true, false, refl, sym, ap, subst, ◌∙◌, inl, inr, arith}
use Rattle.std.specs.Prelude.{Option, Some, None, is_some, unwrap_or, option_map, if◌then◌else◌}
use Rattle.std.proofs.lemmas.Bool.{and_parts}
use Rattle.std.proofs.lemmas.Option.{none-some}
use Rattle.mini_model.specs.declared.operator.BinaryOperator.{BinaryOperator}
use Rattle.mini_model.specs.declared.operator.BinaryOperator.TheVariants as operator
use Rattle.mini_model.specs.declared.place.Position.TheVariants.{Expr}
use Rattle.mini_model.specs.declared.seat.Seat.{Seat}
use Rattle.mini_model.specs.Tree.{Tree, conditional, negation}
use Rattle.mini_model.specs.Weight.{weight}
use Rattle.mini_model.specs.Redex.{Row40}
use Rattle.mini_node.specs.Children.{part}
use Rattle.mini_node.specs.Kinds.{is_conditional, is_negation, binary_operator, binary}
use Rattle.mini_node.specs.Made.{conditional_is, negation_is, binary_is}
use Rattle.mini_rows.specs.Turns.{unequal, equal, Row40Unequal}
use Rattle.mini_rows.proofs.TurnWeights.{turns_lighter}
use Rattle.mini_tree.specs.Rule.{Applied}
use Rattle.mini_tree.proofs.Reaching.{moves_once}
use Rattle.mini_logic.specs.MinimizeConditionalExpression.{has_negated_test, swapped, equal_by, equal_operator, turned, written, IsRow, Gives, Rests}
use Rattle.mini_logic.proofs.Seats.{test_falls}

pub follows : (t : Tree) → has_negated_test t ≡ true → Row40 t (swapped t)
follows t e =
    let (chooses, negated) = and_parts (is_conditional t) (is_negation (part t 0)) e in
    record { a = part (part t 0) 0; b = part t 1; c = part t 2; shape = conditional_is t chooses ∙ ap (λ a. conditional a (part t 1) (part t 2)) (negation_is (part t 0) negated); written = refl }

-- an inequality, and the equality that is written for it
record Unequal (x : Tree) (o : BinaryOperator) : Type 0 where
  is_strict : Bool
  is : x ≡ binary (unequal is_strict) (part x 0) (part x 1)
  to : o ≡ equal is_strict

unequal_is : (x : Tree) (o : BinaryOperator) → equal_by (binary_operator x) ≡ Some o → Unequal x o
unequal_is x o e = go (binary_operator x) refl e
  where
    go : (p : Option BinaryOperator) → binary_operator x ≡ p → equal_by p ≡ Some o → Unequal x o
    go (Some operator.Inequality) i e = record { is_strict = false; is = binary_is x operator.Inequality i; to = sym (cc e) }
    go (Some operator.StrictInequality) i e = record { is_strict = true; is = binary_is x operator.StrictInequality i; to = sym (cc e) }
    go p i e = absurd (none-some o e)

-- the test of a conditional
abbrev tested : Bool → Tree → Option BinaryOperator
tested b t = if b then equal_by (binary_operator (part t 0)) else None

pub follows_turned : (t : Tree) (o : BinaryOperator) → equal_operator t ≡ Some o → Row40Unequal t (turned t o)
follows_turned t o e = go (is_conditional t) refl e
  where
    go : (b : Bool) → is_conditional t ≡ b → tested b t ≡ Some o → Row40Unequal t (turned t o)
    go true h e =
        let x = unequal_is (part t 0) o e in
        record {
          is_strict = x.is_strict;
          a = part (part t 0) 0;
          b = part (part t 0) 1;
          c = part t 1;
          d = part t 2;
          shape = conditional_is t h ∙ ap (λ a. conditional a (part t 1) (part t 2)) x.is;
          written = ap (turned t) x.to;
        }
    go false h e = absurd (cc e)

told : (k : Bool) (a b c d : Tree) → equal_operator (conditional (binary (unequal k) a b) c d) ≡ None → ⊥
told true a b c d e = cc e
told false a b c d e = cc e

pub misses : (t w : Tree) → has_negated_test t ≡ false → equal_operator t ≡ None → IsRow t w → ⊥
misses t w e f (inl r) = absurd (cc (sym (ap has_negated_test r.shape) ∙ e))
misses t w e f (inr r) = told r.is_strict r.a r.b r.c r.d (sym (ap equal_operator r.shape) ∙ f)

lighter : (s : Seat) (a b c : Tree) → weight (Expr s) (conditional a c b) < weight (Expr s) (conditional (negation a) b c)
lighter s a b c = let test = test_falls a in omega (arith, test)

pub row_lighter : (s : Seat) (t w : Tree) → IsRow t w → weight (Expr s) w < weight (Expr s) t
row_lighter s t w (inl r) = omega (arith, lighter s r.a r.b r.c, ap (weight (Expr s)) r.shape, ap (weight (Expr s)) r.written)
row_lighter s t w (inr r) = turns_lighter (Expr s) t w r

abbrev made : Tree → Bool → Option BinaryOperator → Option Tree
made t c o = if c then Some (swapped t) else option_map (turned t) o

pub applied : (s : Seat) (t u : Tree) (b : Bool) → u ≡ unwrap_or (written t) t → b ≡ is_some (written t) → Applied Gives Rests (Expr s) t u b
applied s t u b e f = subst (λ v. Applied Gives Rests (Expr s) t v b) (sym e) (subst (Applied Gives Rests (Expr s) t (unwrap_or (written t) t)) (sym f) (go (has_negated_test t) (equal_operator t) refl refl))
  where
    go : (c : Bool) (o : Option BinaryOperator) → has_negated_test t ≡ c → equal_operator t ≡ o → Applied Gives Rests (Expr s) t (unwrap_or (made t c o) t) (is_some (made t c o))
    go true o h i = let is : IsRow t (swapped t) = inl (follows t h) in moves_once Gives (Expr s) t (swapped t) (is, row_lighter s t (swapped t) is)
    go false (Some o) h i = let is : IsRow t (turned t o) = inr (follows_turned t o i) in moves_once Gives (Expr s) t (turned t o) (is, row_lighter s t (turned t o) is)
    go false None h i = (refl, λ w r. misses t w h i r)
