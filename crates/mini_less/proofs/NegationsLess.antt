-- The negations that reach into the operand ask less.
use Rattle.std.specs.Prelude.{zero, ◌≡◌, refl, nat_le, nat_lt, Bool, true, false, not, ◌&&◌, ◌||◌, [], Option, Some, None, is_some, if◌then◌else◌}
use Rattle.std.proofs.Common.{ap, ◌∙◌, sym, subst, true≢false}
use Rattle.std.proofs.lemmas.Bool.{and_parts}
use Rattle.mini_model.specs.declared.operator.BinaryOperator.{BinaryOperator}
use Rattle.mini_model.specs.declared.operator.LogicalOperator.{LogicalOperator}
use Rattle.mini_model.specs.declared.operator.LogicalOperator.TheVariants.{Or, And}
use Rattle.mini_model.specs.declared.operator.UnaryOperator.TheVariants.{LogicalNot}
use Rattle.mini_model.specs.declared.place.Position.{Position}
use Rattle.mini_model.specs.declared.place.Position.TheVariants.{Expr}
use Rattle.mini_model.specs.declared.seat.Seat.{Seat}
use Rattle.mini_model.specs.declared.shape.Shape.TheVariants as shape
use Rattle.mini_model.specs.Position.{left_operand_seat, right_operand_seat, branch_seat}
use Rattle.mini_model.specs.Terms.{not_of}
use Rattle.mini_model.specs.Tree.{Tree, Trees, node, none, ◌▸◌, count, shape_of, logical}
use Rattle.mini_model.specs.Weight.{weight}
use Rattle.mini_accept.specs.WellShaped.{each, fits, fill}
use Rattle.mini_node.specs.Children.{part}
use Rattle.mini_laws.specs.ScopeList.{is_eval_callee}
use Rattle.mini_kept.proofs.Bools.{left}
use Rattle.mini_kept.proofs.Expressions.{expression, of_negation}
use Rattle.mini_node.specs.Kinds.{boolean as boolean_value}
use Rattle.mini_rows.specs.Lists.{sequence}
use Rattle.mini_rows.specs.Negations.{reverse_of, negated_leaf, beside_u, last_by, whole, lightest, reaches_in, NegationRow, NegationContracts}
use Rattle.mini_rows.specs.Sketches.{Unary, Asked, AsValue}
use Rattle.mini_rows.specs.Spellings.{binary}
use Rattle.mini_rows.proofs.Arranging.{All}
use Rattle.mini_rows.proofs.ArrangedValues.{is_value}
use Rattle.mini_rows.proofs.NegationMeaning.{reverses}
use Rattle.mini_less.specs.Families.{LessAt, NegationsReadLess}
use Rattle.mini_less.proofs.LessRows.{reads_less_by}
use Rattle.mini_less.proofs.Made.{ByParts, made_less}
use Rattle.mini_less.proofs.Negated.{not_kept, not_down}
use Rattle.mini_less.proofs.Nodes.{binary_parts, a_binary, logical_parts, a_logical, sequence_parts, a_sequence, a_boolean}

module _ (strict : Bool) where
  abbrev Fits : Tree → Type 0
  Fits t = fits strict expression t ≡ true

  pub operands_fit : (o : LogicalOperator) (a b : Tree) → Fits (logical o a b) → Fits a × Fits b
  operands_fit o a b e = let (x, y) = and_parts (fits strict expression a) (fits strict expression b && true) e in (x, left (fits strict expression b) true y)

  pub parts_fit : (ts : Trees) → Fits (sequence ts) → fill strict (each expression) ts ≡ true
  parts_fit ts e = left (fill strict (each expression) ts) true (and_parts (nat_le 2 (count ts)) (fill strict (each expression) ts && true) e).1

  pub one_fits : (t : Tree) (ts : Trees) → fill strict (each expression) (t ▸ ts) ≡ true → Fits t × (fill strict (each expression) ts ≡ true)
  one_fits t ts e = and_parts (fits strict expression t) (fill strict (each expression) ts) e

  module _ (Q : Asked → Tree → Type 0) (l : ByParts Q) where
    leaf_made : (s : Seat) (t : Tree) → Fits t → Q AsValue t → Q AsValue (negated_leaf (reverse_of t) (boolean_value t) t (not_of s t))
    leaf_made s t e y = go (reverse_of t) refl (boolean_value t)
      where
        go : (o : Option BinaryOperator) → reverse_of t ≡ o → (b : Option Bool) → Q AsValue (negated_leaf o b t (not_of s t))
        go (Some o) h b =
            let r = reverses t o h in
            let (x, z) = binary_parts Q l r.from (part (beside_u r.from r.operand) 0) (part (beside_u r.from r.operand) 1) (subst (Q AsValue) r.shape y) in
            subst (λ m. Q AsValue (binary o (part m 0) (part m 1))) (sym r.shape) (a_binary Q l o (part (beside_u r.from r.operand) 0) (part (beside_u r.from r.operand) 1) x z)
        go None h (Some b) = a_boolean Q l (not b)
        go None h None = not_kept Q l strict t s e y

    mutual
      whole_made : (t : Tree) (s : Seat) → Fits t → Q AsValue t → Q AsValue (whole s t)
      whole_made (node (shape.LogicalExpression And) [] zero (a ▸ b ▸ none)) s e y =
          let (x, z) = logical_parts Q l And a b y in
          let (f, g) = operands_fit And a b e in
          a_logical Q l Or (whole (left_operand_seat Or s) a) (whole (right_operand_seat Or s) b) (whole_made a (left_operand_seat Or s) f x) (whole_made b (right_operand_seat Or s) g z)
      whole_made (node (shape.LogicalExpression Or) [] zero (a ▸ b ▸ none)) s e y =
          let (x, z) = logical_parts Q l Or a b y in
          let (f, g) = operands_fit Or a b e in
          a_logical Q l And (whole (left_operand_seat And s) a) (whole (right_operand_seat And s) b) (whole_made a (left_operand_seat And s) f x) (whole_made b (right_operand_seat And s) g z)
      whole_made (node shape.SequenceExpression [] zero (node shape.Listed [] zero (a ▸ (b ▸ ts)) ▸ none)) s e y =
          let all = sequence_parts Q l (a ▸ (b ▸ ts)) y in
          let fit = one_fits a (b ▸ ts) (parts_fit (a ▸ (b ▸ ts)) e) in
          a_sequence Q l (a ▸ last_by not_of (branch_seat s) (b ▸ ts)) (all.0, last_made (b ▸ ts) (branch_seat s) fit.1 all.1)
      whole_made t s e y = leaf_made s t e y

      last_made : (ts : Trees) (s : Seat) → fill strict (each expression) ts ≡ true → All Q AsValue ts → All Q AsValue (last_by not_of s ts)
      last_made none s e y = y
      last_made (a ▸ none) s e y = (whole_made a s (one_fits a none e).0 y.0, tt)
      last_made (a ▸ (b ▸ ts)) s e y = (y.0, last_made (b ▸ ts) s (one_fits a (b ▸ ts) e).1 y.1)

    pub lightest_made : (s : Seat) (t : Tree) → Fits t → Q AsValue t → Q AsValue (lightest s t)
    lightest_made s t e y = go (nat_lt (weight (Expr s) (not_of s t)) (weight (Expr s) (whole s t)))
      where
        go : (b : Bool) → Q AsValue (if b then not_of s t else whole s t)
        go true = not_kept Q l strict t s e y
        go false = whole_made t s e y

-- what is written is an expression, and no name
abbrev IsBuilt : Tree → Type 0
IsBuilt t = (is_value (shape_of t) ≡ true) × (is_eval_callee t ≡ false)

leaf_built : (s : Seat) (t : Tree) → (is_some (reverse_of t) || is_some (boolean_value t)) ≡ true → IsBuilt (negated_leaf (reverse_of t) (boolean_value t) t (not_of s t))
leaf_built s t e = go (reverse_of t) (boolean_value t) e
  where
    go : (o : Option BinaryOperator) (b : Option Bool) → (is_some o || is_some b) ≡ true → IsBuilt (negated_leaf o b t (not_of s t))
    go (Some o) b e = (refl, refl)
    go None (Some b) e = (refl, refl)
    go None None e = absurd (true≢false (sym e))

whole_built : (s : Seat) (t : Tree) → reaches_in t ≡ true → IsBuilt (whole s t)
whole_built s (node (shape.LogicalExpression And) [] zero (a ▸ b ▸ none)) e = (refl, refl)
whole_built s (node (shape.LogicalExpression Or) [] zero (a ▸ b ▸ none)) e = (refl, refl)
whole_built s (node shape.SequenceExpression [] zero (node shape.Listed [] zero (a ▸ (b ▸ ts)) ▸ none)) e = (refl, refl)
whole_built s t e = leaf_built s t e

row_less : (p : Position) (n w : Tree) → NegationRow p n w → LessAt p n w
row_less (Expr q) n w r =
    made_less q n w (Unary LogicalNot) (r.e ▸ none) refl r.shape tt (λ strict x k. ap (λ t. is_value (shape_of t)) r.written ∙ (whole_built q r.e r.inside).0)
    (λ strict x k Q l y. subst (Q AsValue) (sym r.written) (whole_made strict Q l r.e q (of_negation strict x r.e (subst (λ t. fits strict x t ≡ true) r.shape k)).1 (not_down Q l strict r.e (subst (Q AsValue) r.shape y))))
    (λ i. ap is_eval_callee r.written ∙ (whole_built q r.e r.inside).1)
row_less p n w r = absurd r

pub negations_read_less : NegationsReadLess
negations_read_less = reads_less_by NegationContracts (λ p n w c. row_less p n w c.row)
