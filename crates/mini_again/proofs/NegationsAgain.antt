-- Negations that reach into the operand read a node that is read again.
use Rattle.mini_again.proofs.ModelTermsAgain.{not_of_again}
use Rattle.mini_again.proofs.ModelTreeAgain.{child_or_absent_again, children_again, shape_of_again}
use Rattle.mini_again.proofs.ModelWeightAgain.{weight_again}
use Rattle.mini_again.proofs.Names.{if_again}
use Rattle.mini_again.proofs.NodeChildrenAgain.{is_bare_again}
use Rattle.mini_again.specs.Again.{Renaming, again, all_again}
use Rattle.mini_model.specs.Position.{branch_seat, left_operand_seat, right_operand_seat}
use Rattle.mini_model.specs.Terms.{not_of}
use Rattle.mini_model.specs.Tree.{Tree, Trees, children, node, none, ◌▸◌}
use Rattle.mini_model.specs.Weight.{weight}
use Rattle.mini_model.specs.declared.operator.BinaryOperator.{BinaryOperator}
use Rattle.mini_model.specs.declared.operator.LogicalOperator.TheVariants.{And, Or}
use Rattle.mini_model.specs.declared.place.Position.{Position}
use Rattle.mini_model.specs.declared.place.Position.TheVariants.{Expr}
use Rattle.mini_model.specs.declared.seat.Seat.{Seat}
use Rattle.mini_node.specs.Children.{part}
use Rattle.mini_node.specs.Kinds.{boolean as boolean_value}
use Rattle.mini_rows.specs.Negations.{NegationRow, Row23Whole, is_junction, is_several, last_by, lightest, negated_leaf, reverse_of, whole, whole_by}
use Rattle.std.proofs.Common.{ap, ◌∙◌}
use Rattle.std.specs.Prelude.{Bool, None, Option, Some, [], nat_lt, refl, zero, ◌≡◌}
use Rattle.mini_model.specs.declared.shape.Shape.TheVariants as shape

pub is_junction_again : (ρ : Renaming) (t : Tree) → is_junction (again ρ t) ≡ is_junction t
is_junction_again ρ (node (shape.LogicalExpression And) [] zero (a ▸ b ▸ none)) = refl
is_junction_again ρ (node (shape.LogicalExpression Or) [] zero (a ▸ b ▸ none)) = refl
is_junction_again ρ _ = refl

pub is_several_again : (ρ : Renaming) (t : Tree) → is_several (again ρ t) ≡ is_several t
is_several_again ρ (node shape.SequenceExpression [] zero (node shape.Listed [] zero (a ▸ (b ▸ ts)) ▸ none)) = refl
is_several_again ρ _ = refl

pub negated_leaf_again : (ρ : Renaming) (o : Option BinaryOperator) (b : Option Bool) (t other : Tree) → negated_leaf o b (again ρ t) (again ρ other) ≡ again ρ (negated_leaf o b t other)
negated_leaf_again ρ (Some o) b t other = simp (children_again ρ t, child_or_absent_again ρ (children t) 0, child_or_absent_again ρ (children t) 1)
negated_leaf_again ρ None (Some b) t other = refl
negated_leaf_again ρ None None t other = refl

leaf_again : (ρ : Renaming) (t other : Tree) → negated_leaf (reverse_of (again ρ t)) (boolean_value (again ρ t)) (again ρ t) (again ρ other) ≡ again ρ (negated_leaf (reverse_of t) (boolean_value t) t other)
leaf_again ρ t other = simp (shape_of_again ρ t, is_bare_again ρ t 2, children_again ρ t, child_or_absent_again ρ (children t) 0, shape_of_again ρ (part t 0), is_bare_again ρ (part t 0) 1, child_or_absent_again ρ (children t) 1, shape_of_again ρ (part t 1), is_bare_again ρ (part t 1) 0, is_bare_again ρ t 0) (negated_leaf_again ρ (reverse_of t) (boolean_value t) t other)

mutual
  pub last_by_again : (ρ : Renaming) (f : Seat → Tree → Tree) → ((s : Seat) (t : Tree) → f s (again ρ t) ≡ again ρ (f s t)) → (s : Seat) (ts : Trees) → last_by f s (all_again ρ ts) ≡ all_again ρ (last_by f s ts)
  last_by_again ρ f e s none = refl
  last_by_again ρ f e s (a ▸ none) = simp (whole_by_again ρ f e s a)
  last_by_again ρ f e s (a ▸ (b ▸ ts)) = simp (last_by_again ρ f e s (b ▸ ts))

  pub whole_by_again : (ρ : Renaming) (f : Seat → Tree → Tree) → ((s : Seat) (t : Tree) → f s (again ρ t) ≡ again ρ (f s t)) → (s : Seat) (t : Tree) → whole_by f s (again ρ t) ≡ again ρ (whole_by f s t)
  whole_by_again ρ f e s (node (shape.LogicalExpression And) [] zero (a ▸ b ▸ none)) = simp (whole_by_again ρ f e (left_operand_seat Or s) a, whole_by_again ρ f e (right_operand_seat Or s) b)
  whole_by_again ρ f e s (node (shape.LogicalExpression Or) [] zero (a ▸ b ▸ none)) = simp (whole_by_again ρ f e (left_operand_seat And s) a, whole_by_again ρ f e (right_operand_seat And s) b)
  whole_by_again ρ f e s (node shape.SequenceExpression [] zero (node shape.Listed [] zero (a ▸ (b ▸ ts)) ▸ none)) = simp (last_by_again ρ f e (branch_seat s) (b ▸ ts))
  whole_by_again ρ f e s t = ap (negated_leaf (reverse_of (again ρ t)) (boolean_value (again ρ t)) (again ρ t)) (e s t) ∙ leaf_again ρ t (f s t)

pub whole_again : (ρ : Renaming) (s : Seat) (t : Tree) → whole s (again ρ t) ≡ again ρ (whole s t)
whole_again ρ s t = whole_by_again ρ not_of (not_of_again ρ) s t

pub row23_whole_again : (ρ : Renaming) (s : Seat) (n w : Tree) → Row23Whole s n w → Row23Whole s (again ρ n) (again ρ w)
row23_whole_again ρ s n w r = record {
  e = again ρ r.e;
  inside = simp (is_junction_again ρ r.e, is_several_again ρ r.e, shape_of_again ρ r.e, is_bare_again ρ r.e 2, children_again ρ r.e, child_or_absent_again ρ (children r.e) 0, shape_of_again ρ (part r.e 0), is_bare_again ρ (part r.e 0) 1, child_or_absent_again ρ (children r.e) 1, shape_of_again ρ (part r.e 1), is_bare_again ρ (part r.e 1) 0, is_bare_again ρ r.e 0) r.inside;
  shape = ap (again ρ) r.shape;
  written = simp (← (whole_again ρ s r.e)) at (ap (again ρ) r.written);
}

pub negation_row_again : (ρ : Renaming) (p : Position) (n w : Tree) → NegationRow p n w → NegationRow p (again ρ n) (again ρ w)
negation_row_again ρ (Expr s) n w r = row23_whole_again ρ s n w r
negation_row_again ρ p0 n w r = absurd r

pub lightest_again : (ρ : Renaming) (s : Seat) (a : Tree) → lightest s (again ρ a) ≡ again ρ (lightest s a)
lightest_again ρ s a = simp (if_again ρ (nat_lt (weight (Expr s) (not_of s a)) (weight (Expr s) (whole s a))) (not_of s a) (whole s a), not_of_again ρ s a, weight_again ρ (Expr s) (not_of s a), whole_again ρ s a, weight_again ρ (Expr s) (whole s a))
