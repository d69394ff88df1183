-- Rows where only the truth is asked, and of conditionals one of whose branches is a boolean, ask less.
use Rattle.std.specs.Prelude.{◌≡◌, refl, pos, Bool, true, false, not, if◌then◌else◌}
use Rattle.std.proofs.Common.{inl, inr, ap, ◌∙◌, sym, subst}
use Rattle.mini_model.specs.declared.operator.LogicalOperator.TheVariants.{Or, And}
use Rattle.mini_model.specs.declared.operator.UnaryOperator.TheVariants.{LogicalNot, UnaryPlus}
use Rattle.mini_model.specs.declared.place.Position.{Position}
use Rattle.mini_model.specs.declared.place.Position.TheVariants.{Expr}
use Rattle.mini_model.specs.declared.seat.Seat.{Seat}
use Rattle.mini_model.specs.Position.{left_operand_seat}
use Rattle.mini_model.specs.Terms.{not_of}
use Rattle.mini_model.specs.Tree.{Tree, none, ◌▸◌, negation, conditional}
use Rattle.mini_accept.specs.WellShaped.{fits}
use Rattle.mini_laws.specs.ScopeList.{is_eval_callee}
use Rattle.mini_kept.proofs.Expressions.{of_conditional}
use Rattle.mini_terms.specs.Kind.{kind}
use Rattle.mini_terms.specs.Reading.{stands}
use Rattle.mini_rows.specs.Booleans.{digit, is_boolean_kind, chosen, joined, is_truth, truth_of, plus, plus_seat, as_boolean, Row25, KnownBranch, BooleanRow, BooleanContracts}
use Rattle.mini_rows.specs.Sketches.{Number, Unary, Logical, Conditional, AsValue}
use Rattle.mini_rows.specs.Spellings.{numeral, negated_digit}
use Rattle.mini_less.specs.Families.{LessAt, BooleansReadLess}
use Rattle.mini_less.proofs.LessRows.{reads_less_by}
use Rattle.mini_less.proofs.Negated.{not_kept}
use Rattle.mini_less.proofs.Nodes.{a_unary, logical_parts, a_logical, conditional_parts, a_number, made_under, part_of, asked_truth, standing_there, logical_values, conditional_values}
use Rattle.std.proofs.lemmas.Bool.{and_parts}

module _ (q : Seat) (n w : Tree) where
  digit_less : (b : Bool) → n ≡ negated_digit b → w ≡ digit b → LessAt (Expr q) n w
  digit_less true e f = made_under q n w (Unary LogicalNot) (numeral (pos 0) ▸ none) refl e tt (Number (pos 1)) none refl f (λ strict x k Q l y. subst (Q AsValue) (sym f) (a_number Q l (pos 1)))
  digit_less false e f = made_under q n w (Unary LogicalNot) (numeral (pos 1) ▸ none) refl e tt (Number (pos 0)) none refl f (λ strict x k Q l y. subst (Q AsValue) (sym f) (a_number Q l (pos 0)))

  left_less : Row25 q n w → LessAt (Expr q) n w
  left_less r = part_of q n w (Logical r.operator) (r.left ▸ r.right ▸ none) refl r.shape tt r.left r.written (λ strict x k. (logical_values strict x r.operator r.left r.right k).0) (λ Q l y. (logical_parts Q l r.operator r.left r.right y).0) (asked_truth q w r.asked)

  -- of the truth of the known branch, and of its place, whether the test is negated
  form_less : (i c : Bool) (a k b : Tree) → n ≡ chosen i a k b → w ≡ joined q i c a b → LessAt (Expr q) n w
  form_less true true a k b e f =
      made_under q n w Conditional (a ▸ k ▸ b ▸ none) refl e tt (Logical Or) (a ▸ b ▸ none) refl f (λ strict x g Q l y.
      let (test, (known, other)) = conditional_parts Q l a k b (subst (Q AsValue) e y) in subst (Q AsValue) (sym f) (a_logical Q l Or a b test other))
  form_less false false a k b e f =
      made_under q n w Conditional (a ▸ b ▸ k ▸ none) refl e tt (Logical And) (a ▸ b ▸ none) refl f (λ strict x g Q l y.
      let (test, (other, known)) = conditional_parts Q l a b k (subst (Q AsValue) e y) in subst (Q AsValue) (sym f) (a_logical Q l And a b test other))
  form_less true false a k b e f =
      made_under q n w Conditional (a ▸ k ▸ b ▸ none) refl e tt (Logical And) (not_of (left_operand_seat And q) a ▸ b ▸ none) refl f (λ strict x g Q l y.
      let (test, (known, other)) = conditional_parts Q l a k b (subst (Q AsValue) e y) in
      let fit = (of_conditional strict x a k b (subst (λ t. fits strict x t ≡ true) e g)).1.0 in
      subst (Q AsValue) (sym f) (a_logical Q l And (not_of (left_operand_seat And q) a) b (not_kept Q l strict a (left_operand_seat And q) fit test) other))
  form_less false true a k b e f =
      made_under q n w Conditional (a ▸ b ▸ k ▸ none) refl e tt (Logical Or) (not_of (left_operand_seat Or q) a ▸ b ▸ none) refl f (λ strict x g Q l y.
      let (test, (other, known)) = conditional_parts Q l a b k (subst (Q AsValue) e y) in
      let fit = (of_conditional strict x a b k (subst (λ t. fits strict x t ≡ true) e g)).1.0 in
      subst (Q AsValue) (sym f) (a_logical Q l Or (not_of (left_operand_seat Or q) a) b (not_kept Q l strict a (left_operand_seat Or q) fit test) other))

  branch_less : KnownBranch q n w → LessAt (Expr q) n w
  branch_less r = form_less r.is_consequent r.truth r.test r.branch r.other r.shape r.written

  -- the test itself, or its negation twice
  truth_less : (c : Bool) (a k m : Tree) → n ≡ conditional a k m → w ≡ truth_of c a → LessAt (Expr q) n w
  truth_less false a k m e f = made_under q n w Conditional (a ▸ k ▸ m ▸ none) refl e tt (Unary LogicalNot) (a ▸ none) refl f (λ strict x g Q l y. subst (Q AsValue) (sym f) (a_unary Q l LogicalNot a (conditional_parts Q l a k m (subst (Q AsValue) e y)).0))
  truth_less true a k m e f = go (is_truth a) refl f
    where
      go : (b : Bool) → is_truth a ≡ b → w ≡ (if b then a else negation (negation a)) → LessAt (Expr q) n w
      go true h f = part_of q n w Conditional (a ▸ k ▸ m ▸ none) refl e tt a f (λ strict x g. (conditional_values strict x a k m g).0) (λ Q l y. (conditional_parts Q l a k m y).0) (λ i. ap is_eval_callee f ∙ standing_there a (and_parts (is_boolean_kind (kind a)) (stands a) h).1)
      go false h f = made_under q n w Conditional (a ▸ k ▸ m ▸ none) refl e tt (Unary LogicalNot) (negation a ▸ none) refl f (λ strict x g Q l y. subst (Q AsValue) (sym f) (a_unary Q l LogicalNot (negation a) (a_unary Q l LogicalNot a (conditional_parts Q l a k m (subst (Q AsValue) e y)).0)))

  number_less : (c : Bool) (a : Tree) → n ≡ conditional a (digit c) (digit (not c)) → w ≡ plus (as_boolean c a) → LessAt (Expr q) n w
  number_less false a e f =
      made_under q n w Conditional (a ▸ digit false ▸ digit true ▸ none) refl e tt (Unary UnaryPlus) (not_of plus_seat a ▸ none) refl f (λ strict x g Q l y.
      subst (Q AsValue) (sym f) (a_unary Q l UnaryPlus (not_of plus_seat a) (not_kept Q l strict a plus_seat (of_conditional strict x a (digit false) (digit true) (subst (λ t. fits strict x t ≡ true) e g)).1.0 (conditional_parts Q l a (digit false) (digit true) (subst (Q AsValue) e y)).0)))
  number_less true a e f = go (is_truth a) f
    where
      go : (b : Bool) → w ≡ plus (if b then a else negation (negation a)) → LessAt (Expr q) n w
      go true f = made_under q n w Conditional (a ▸ digit true ▸ digit false ▸ none) refl e tt (Unary UnaryPlus) (a ▸ none) refl f (λ strict x g Q l y. subst (Q AsValue) (sym f) (a_unary Q l UnaryPlus a (conditional_parts Q l a (digit true) (digit false) (subst (Q AsValue) e y)).0))
      go false f =
          made_under q n w Conditional (a ▸ digit true ▸ digit false ▸ none) refl e tt (Unary UnaryPlus) (negation (negation a) ▸ none) refl f (λ strict x g Q l y.
          subst (Q AsValue) (sym f) (a_unary Q l UnaryPlus (negation (negation a)) (a_unary Q l LogicalNot (negation a) (a_unary Q l LogicalNot a (conditional_parts Q l a (digit true) (digit false) (subst (Q AsValue) e y)).0))))

row_less : (p : Position) (n w : Tree) → BooleanRow p n w → LessAt p n w
row_less (Expr q) n w (inl (inl r)) = digit_less q n w r.truth r.shape r.written
row_less (Expr q) n w (inl (inr r)) = left_less q n w r
row_less (Expr q) n w (inr (inl (inl r))) = branch_less q n w r.form
row_less (Expr q) n w (inr (inl (inr r))) = branch_less q n w r.form
row_less (Expr q) n w (inr (inr (inl r))) = truth_less q n w r.truth r.test r.consequent r.alternate r.shape r.written
row_less (Expr q) n w (inr (inr (inr r))) = number_less q n w r.truth r.test r.shape r.written
row_less p n w r = absurd r

pub booleans_read_less : BooleansReadLess
booleans_read_less = reads_less_by BooleanContracts (λ p n w c. row_less p n w c.row)
