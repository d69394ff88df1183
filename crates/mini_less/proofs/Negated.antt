-- Whatever holds of an expression by its parts holds of its negation.
use Rattle.std.specs.Prelude.{ℕ, zero, suc, ◌≡◌, ◌==◌, refl, nat_lt, Bool, true, false, ◌&&◌, ◌||◌, List, [], ◌∷◌, if◌then◌else◌}
use Rattle.std.proofs.Common.{sym, true≢false}
use Rattle.std.proofs.lemmas.Bool.{and_parts, eqb-true}
use Rattle.mini_model.specs.declared.operator.BinaryOperator.{BinaryOperator}
use Rattle.mini_model.specs.declared.operator.LogicalOperator.TheVariants.{Or, And}
use Rattle.mini_model.specs.declared.operator.UnaryOperator.TheVariants.{LogicalNot}
use Rattle.mini_model.specs.declared.place.Position.TheVariants.{Expr}
use Rattle.mini_model.specs.declared.seat.Seat.{Seat}
use Rattle.mini_model.specs.declared.shape.Shape.TheVariants as shape
use Rattle.mini_model.specs.Position.{is_equality}
use Rattle.mini_model.specs.Terms.{is_boolean, turned_seat, unwrapped, opposite, turned_equality, neg, neg_each, not_of}
use Rattle.mini_model.specs.Tree.{Tree, Trees, node, none, ◌▸◌, negation}
use Rattle.mini_model.specs.Weight.{weight}
use Rattle.mini_accept.specs.WellShaped.{an_expression, Slot, one, these, is_whole, fill, fits}
use Rattle.mini_kept.proofs.Expressions.{expression}
use Rattle.mini_rows.specs.Sketches.{Unary, Binary, Logical, Asked, AsValue}
use Rattle.mini_rows.proofs.Arranging.{Below}
use Rattle.mini_less.proofs.Made.{ByParts}

abbrev AreExpressions : List Slot → Type 0
AreExpressions [] = Unit {0}
AreExpressions (one an_expression ∷ ss) = AreExpressions ss
AreExpressions (s ∷ ss) = ⊥

abbrev two : List Slot
two = expression ∷ expression ∷ []

pub numbered : (n : ℕ) (b c : Bool) → (((suc n == 0) && b) && c) ≡ true → ⊥
numbered n b c e = let k = (and_parts (suc n == 0) b (and_parts ((suc n == 0) && b) c e).0).0 in absurd (cc (eqb-true (suc n) 0 k))

module _ (Q : Asked → Tree → Type 0) (l : ByParts Q) (strict : Bool) where
  not_up : (t : Tree) → Q AsValue t → Q AsValue (negation t)
  not_up t q = l.up (Unary LogicalNot) refl AsValue (t ▸ none) tt (q, tt)

  pub not_down : (t : Tree) → Q AsValue (negation t) → Q AsValue t
  not_down t q = (l.down (Unary LogicalNot) refl AsValue (t ▸ none) tt q).0

  unwrapped_kept : (b : Bool) (a : Tree) → Q AsValue (negation a) → Q AsValue (unwrapped b a (negation a))
  unwrapped_kept true a q = not_down a q
  unwrapped_kept false a q = not_up (negation a) q

  turned_kept : (b : Bool) (o : BinaryOperator) (ts : Trees) → Q AsValue (node (shape.BinaryExpression o) [] 0 ts) → Q AsValue (turned_equality b o [] 0 ts)
  turned_kept true o ts q = l.up (Binary (opposite o)) refl AsValue ts tt (l.down (Binary o) refl AsValue ts tt q)
  turned_kept false o ts q = not_up (node (shape.BinaryExpression o) [] 0 ts) q

  mutual
    pub neg_kept : (t : Tree) (s : Seat) → fits strict expression t ≡ true → Q AsValue t → Q AsValue (neg s t)
    neg_kept (node (shape.LogicalExpression And) [] zero ts) s e q =
        l.up (Logical Or) refl AsValue (neg_each (turned_seat (shape.LogicalExpression And) s) ts) tt (each_kept ts (turned_seat (shape.LogicalExpression And) s) 0 two tt (and_parts (is_whole an_expression (shape.LogicalExpression And) [] zero ts) (fill strict (these two) ts) e).1 (l.down (Logical And) refl AsValue ts tt q))
    neg_kept (node (shape.LogicalExpression Or) [] zero ts) s e q =
        l.up (Logical And) refl AsValue (neg_each (turned_seat (shape.LogicalExpression Or) s) ts) tt (each_kept ts (turned_seat (shape.LogicalExpression Or) s) 0 two tt (and_parts (is_whole an_expression (shape.LogicalExpression Or) [] zero ts) (fill strict (these two) ts) e).1 (l.down (Logical Or) refl AsValue ts tt q))
    neg_kept (node (shape.LogicalExpression And) (x ∷ xs) n ts) s e q = absurd (true≢false (sym e))
    neg_kept (node (shape.LogicalExpression And) [] (suc n) ts) s e q = absurd (numbered n _ _ e)
    neg_kept (node (shape.LogicalExpression Or) (x ∷ xs) n ts) s e q = absurd (true≢false (sym e))
    neg_kept (node (shape.LogicalExpression Or) [] (suc n) ts) s e q = absurd (numbered n _ _ e)
    neg_kept (node (shape.UnaryExpression LogicalNot) [] zero (a ▸ none)) s e q = unwrapped_kept (s.boolean || is_boolean a) a q
    neg_kept (node (shape.UnaryExpression LogicalNot) (x ∷ xs) n (a ▸ none)) s e q = absurd (true≢false (sym e))
    neg_kept (node (shape.UnaryExpression LogicalNot) [] (suc n) (a ▸ none)) s e q = absurd (numbered n _ _ e)
    neg_kept (node (shape.BinaryExpression o) [] zero ts) s e q = turned_kept (is_equality o) o ts q
    neg_kept (node (shape.BinaryExpression o) (x ∷ xs) n ts) s e q = absurd (true≢false (sym e))
    neg_kept (node (shape.BinaryExpression o) [] (suc n) ts) s e q = absurd (numbered n _ _ e)
    neg_kept (node h xs n ts) s e q = not_up (node h xs n ts) q

    each_kept : (ts : Trees) (σ : ℕ → Seat) (i : ℕ) (ss : List Slot) → AreExpressions ss → fill strict (these ss) ts ≡ true → Below Q (λ j. AsValue) i ts → Below Q (λ j. AsValue) i (neg_each σ ts)
    each_kept none σ i ss k e q = tt
    each_kept (t ▸ ts) σ i [] k e q = absurd (cc e)
    each_kept (t ▸ ts) σ i (one an_expression ∷ ss) k e q =
        let (first, rest) = and_parts (fits strict expression t) (fill strict (these ss) ts) e in
        (neg_kept t (σ zero) first q.0, each_kept ts (λ j. σ (suc j)) (suc i) ss k rest q.1)
    each_kept (t ▸ ts) σ i (s ∷ ss) k e q = absurd k

  pub not_kept : (t : Tree) (s : Seat) → fits strict expression t ≡ true → Q AsValue t → Q AsValue (not_of s t)
  not_kept t s e q = by (nat_lt (weight (Expr s) (negation t)) (weight (Expr s) (neg s t)))
    where
      by : (b : Bool) → Q AsValue (if b then negation t else neg s t)
      by true = not_up t q
      by false = neg_kept t s e q
