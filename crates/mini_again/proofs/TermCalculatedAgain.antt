-- A constant is calculated again as it is calculated.
use Rattle.mini_again.proofs.LawNamingAgain.{kinds_again}
use Rattle.mini_again.proofs.ModelTreeAgain.{child_or_absent_again, children_again, count_again, shape_of_again}
use Rattle.mini_again.proofs.NodeChildrenAgain.{is_bare_again, is_nameless_again}
use Rattle.mini_again.proofs.TermEffectsAgain.{ef_again}
use Rattle.mini_again.proofs.TermTemplatesAgain.{text_between_again}
use Rattle.mini_again.specs.Again.{Renaming, again, all_again}
use Rattle.mini_laws.specs.Value.{Value}
use Rattle.mini_model.specs.Tree.{Tree, Trees, child_or_absent, children, count, node, none, ◌▸◌}
use Rattle.mini_model.specs.declared.operator.BinaryOperator.{BinaryOperator}
use Rattle.mini_model.specs.declared.operator.LogicalOperator.{LogicalOperator}
use Rattle.mini_model.specs.declared.operator.UnaryOperator.{UnaryOperator}
use Rattle.mini_node.specs.Children.{part}
use Rattle.mini_node.specs.Kinds.{binary_operator, is_conditional, is_sequence, logical_operator, unary_operator}
use Rattle.mini_terms.specs.Calculated.{calculated, calculated_by, chosen_by, free_value, last_value, leaf_value, operand_depth, value_within}
use Rattle.mini_terms.specs.Templates.{is_template}
use Rattle.std.specs.Prelude.{Bool, None, Option, Some, false, refl, suc, true, zero, ℕ, ◌&&◌, ◌≡◌}

pub leaf_value_again : (ρ : Renaming) (t : Tree) → leaf_value (again ρ t) ≡ leaf_value t
leaf_value_again ρ (node h xs n ts) = simp (kinds_again ρ xs)

module _ (ρ : Renaming) (f : Tree → Option Value) (e : (t : Tree) → f (again ρ t) ≡ f t) where
  pub calculated_by_again : (b : Bool) (o : Option UnaryOperator) (p : Option BinaryOperator) (t : Tree) → calculated_by b f o p (again ρ t) ≡ calculated_by b f o p t
  calculated_by_again is_free (Some o) p t = simp (children_again ρ t, child_or_absent_again ρ (children t) 0, e (part t 0))
  calculated_by_again is_free None (Some o) t = simp (children_again ρ t, child_or_absent_again ρ (children t) 0, child_or_absent_again ρ (children t) 1, e (part t 0), e (part t 1))
  calculated_by_again is_free None None t = refl

  pub last_value_again : (ts : Trees) → last_value f (all_again ρ ts) ≡ last_value f ts
  last_value_again none = refl
  last_value_again (t ▸ ts) = simp (count_again ρ ts, child_or_absent_again ρ (t ▸ ts) (count ts), e (child_or_absent (t ▸ ts) (count ts)))

  pub chosen_by_again : (o : Option LogicalOperator) (b c d : Bool) (t : Tree) → chosen_by f o b c d (again ρ t) ≡ chosen_by f o b c d t
  chosen_by_again (Some o) b c d t = simp (children_again ρ t, child_or_absent_again ρ (children t) 0, child_or_absent_again ρ (children t) 1, e (part t 0), e (part t 1))
  chosen_by_again None true c d t = simp (children_again ρ t, child_or_absent_again ρ (children t) 0, child_or_absent_again ρ (children t) 1, child_or_absent_again ρ (children t) 2, e (part t 0), e (part t 1), e (part t 2))
  chosen_by_again None false true d t = simp (children_again ρ t, child_or_absent_again ρ (children t) 0, children_again ρ (part t 0), last_value_again (children (part t 0)))
  chosen_by_again None false false true t = simp (children_again ρ t, child_or_absent_again ρ (children t) 0, children_again ρ (part t 0), child_or_absent_again ρ (children t) 1, children_again ρ (part t 1), text_between_again ρ f e (children (part t 0)) (children (part t 1)))
  chosen_by_again None false false false t = refl

pub value_within_again : (ρ : Renaming) (b : Bool) (i : ℕ) (t : Tree) → value_within b i (again ρ t) ≡ value_within b i t
value_within_again ρ is_free zero t = leaf_value_again ρ t
value_within_again ρ is_free (suc k) t = simp (shape_of_again ρ t, is_bare_again ρ t 1, is_bare_again ρ t 2, calculated_by_again ρ (value_within is_free k) (value_within_again ρ is_free k) is_free (unary_operator t) (binary_operator t) t, is_bare_again ρ t 3, children_again ρ t, child_or_absent_again ρ (children t) 0, shape_of_again ρ (part t 0), is_nameless_again ρ (part t 0), child_or_absent_again ρ (children t) 1, shape_of_again ρ (part t 1), is_nameless_again ρ (part t 1), chosen_by_again ρ (value_within is_free k) (value_within_again ρ is_free k) (logical_operator t) (is_conditional t) (is_free && is_sequence t) (is_template t) t, leaf_value_again ρ t)

pub calculated_again : (ρ : Renaming) (t : Tree) → calculated (again ρ t) ≡ calculated t
calculated_again ρ t = simp (ef_again ρ true t, shape_of_again ρ t, is_bare_again ρ t 1, is_bare_again ρ t 2, calculated_by_again ρ free_value (value_within_again ρ true operand_depth) true (unary_operator t) (binary_operator t) t)
