-- Names that are assigned to, and two that are one.
use Rattle.std.specs.Bool.{Decides}
use Rattle.std.proofs.Common.{◌≡◌, Bool, true, false, Option, Some, None, refl, sym, ap, subst, ◌∙◌}
use Rattle.std.proofs.lemmas.Bool.{and_parts, false≢true}
use Rattle.mini_model.specs.declared.name.Name.{Name}
use Rattle.mini_model.specs.declared.operator.AssignmentOperator.{AssignmentOperator}
use Rattle.mini_model.specs.declared.operator.AssignmentOperator.TheVariants.{Assign}
use Rattle.mini_model.specs.declared.shape.Shape.TheVariants as shape
use Rattle.mini_model.specs.Tree.{Tree, leaf, identifier}
use Rattle.mini_node.specs.Children.{part}
use Rattle.mini_node.specs.Equal.{same_tree}
use Rattle.mini_node.specs.Kinds.{assignment, is_identifier, assignment_operator}
use Rattle.mini_node.specs.Made.{assignment_is, identifier_is}
use Rattle.mini_node.proofs.Equality.{tree_same, tree_itself}
use Rattle.mini_choices.specs.Assigning.{is_plain, assigns_name, is_same_operator, is_operator, is_same_name}

pub assigns_is : (t : Tree) → assigns_name t ≡ true → t ≡ assignment Assign (part t 0) (part t 1)
assigns_is t e = go (assignment_operator t) refl (and_parts (is_plain (assignment_operator t)) (is_identifier (part t 0)) e).0
  where
    go : (o : Option AssignmentOperator) → assignment_operator t ≡ o → is_plain o ≡ true → t ≡ assignment Assign (part t 0) (part t 1)
    go (Some Assign) h e = assignment_is t Assign h
    go o h e = absurd (cc e)

-- two operators that are one
same_operators : (o p : AssignmentOperator) → is_same_operator o p ≡ true → o ≡ p
same_operators o p e = cc (tree_same (leaf (shape.AssignmentExpression o)) (leaf (shape.AssignmentExpression p)) e)

told_alike : (r q : Bool) → (r ≡ true → q ≡ true) → (q ≡ true → r ≡ true) → r ≡ q
told_alike true q f g = sym (f refl)
told_alike false true f g = absurd (false≢true (g refl))
told_alike false false f g = refl

pub operators_told : (o p : AssignmentOperator) (r : Bool) → Decides r (o ≡ p) → r ≡ is_same_operator o p
operators_told o p r d = told_alike r (is_same_operator o p) (λ e. subst (λ q. is_same_operator o q ≡ true) (d.0 e) (tree_itself (leaf (shape.AssignmentExpression o)))) (λ e. d.1 (same_operators o p e))

pub operator_is : (o : AssignmentOperator) (t : Tree) → is_operator o (assignment_operator t) ≡ true → t ≡ assignment o (part t 0) (part t 1)
operator_is o t e = go (assignment_operator t) refl e
  where
    go : (p : Option AssignmentOperator) → assignment_operator t ≡ p → is_operator o p ≡ true → t ≡ assignment o (part t 0) (part t 1)
    go (Some p) h e = assignment_is t p h ∙ ap (λ q. assignment q (part t 0) (part t 1)) (sym (same_operators o p e))
    go None h e = absurd (false≢true e)

-- two names that are one
pub record OneName (t u : Tree) : Type 0 where
  pub name : Name
  pub first : t ≡ identifier name
  pub second : u ≡ identifier name

pub one_name : (t u : Tree) → is_same_name t u ≡ true → OneName t u
one_name t u e =
    let (is, same) = and_parts (is_identifier t) (same_tree t u) e in
    let (x, h) = identifier_is t is in
    record { name = x; first = h; second = sym (tree_same t u same) ∙ h }
