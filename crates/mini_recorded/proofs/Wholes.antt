-- The whole negation by the kind of its expression.
use Rattle.std.proofs.Common.{◌≡◌, ℕ, zero, suc, ◌+◌, ◌<◌, Bool, true, false, [], Some, None, refl, sym, ap, ◌∙◌, true≢false, arith}
use Rattle.std.specs.Prelude.{not, if◌then◌else◌}
use Rattle.std.proofs.lemmas.Option.{none-some}
use Rattle.mini_model.specs.declared.operator.BinaryOperator.{BinaryOperator}
use Rattle.mini_model.specs.declared.operator.LogicalOperator.{LogicalOperator}
use Rattle.mini_model.specs.declared.operator.LogicalOperator.TheVariants.{Or, And, Coalesce}
use Rattle.mini_model.specs.declared.seat.Seat.{Seat}
use Rattle.mini_model.specs.declared.shape.Shape.TheVariants as shape
use Rattle.mini_model.specs.Tree.{Tree, Trees, node, none, ◌▸◌, children, child_or_absent, count, logical, node_count, node_counts}
use Rattle.mini_model.specs.Position.{left_operand_seat, right_operand_seat, branch_seat}
use Rattle.mini_model.specs.Terms.{not_of}
use Rattle.mini_node.specs.Children.{is_bare, part, with_child}
use Rattle.mini_node.specs.Kinds.{logical_operator, boolean as boolean_value, sequence}
use Rattle.mini_rows.specs.Spellings.{binary, boolean}
use Rattle.mini_rows.specs.Negations.{reverse_of, negated_leaf, is_several, last_by, whole}
use Rattle.mini_recorded.specs.Negating.{junction_of}

no_coalesce : (b : Bool) → junction_of (if b then Some Coalesce else None) ≡ None
no_coalesce true = refl
no_coalesce false = refl

pub of_junction : (s : Seat) (t : Tree) (o : LogicalOperator) → junction_of (logical_operator t) ≡ Some o → whole s t ≡ logical o (whole (left_operand_seat o s) (part t 0)) (whole (right_operand_seat o s) (part t 1))
of_junction s (node (shape.LogicalExpression And) [] zero (a ▸ b ▸ none)) o e = let same : Or ≡ o = cc e in ap (λ p. logical p (whole (left_operand_seat p s) a) (whole (right_operand_seat p s) b)) same
of_junction s (node (shape.LogicalExpression Or) [] zero (a ▸ b ▸ none)) o e = let same : And ≡ o = cc e in ap (λ p. logical p (whole (left_operand_seat p s) a) (whole (right_operand_seat p s) b)) same
of_junction s (node (shape.LogicalExpression Coalesce) xs n ts) o e = absurd (cc (sym (no_coalesce (is_bare (node (shape.LogicalExpression Coalesce) xs n ts) 2)) ∙ e))
of_junction s t o e = absurd (none-some o e)

of_leaf : (s : Seat) (t : Tree) → junction_of (logical_operator t) ≡ None → is_several t ≡ false → whole s t ≡ negated_leaf (reverse_of t) (boolean_value t) t (not_of s t)
of_leaf s (node (shape.LogicalExpression And) [] zero (a ▸ b ▸ none)) e f = absurd (cc e)
of_leaf s (node (shape.LogicalExpression Or) [] zero (a ▸ b ▸ none)) e f = absurd (cc e)
of_leaf s (node shape.SequenceExpression [] zero (node shape.Listed [] zero (a ▸ (b ▸ ts)) ▸ none)) e f = absurd (true≢false f)
of_leaf s t e f = refl

-- a comparison is turned
pub of_reversed : (s : Seat) (t : Tree) (o : BinaryOperator) → junction_of (logical_operator t) ≡ None → is_several t ≡ false → reverse_of t ≡ Some o → whole s t ≡ binary o (part t 0) (part t 1)
of_reversed s t o e f g = of_leaf s t e f ∙ ap (λ x. negated_leaf x (boolean_value t) t (not_of s t)) g

-- and so is a literal
pub of_literal : (s : Seat) (t : Tree) (b : Bool) → junction_of (logical_operator t) ≡ None → is_several t ≡ false → reverse_of t ≡ None → boolean_value t ≡ Some b → whole s t ≡ boolean (not b)
of_literal s t b e f g h = of_leaf s t e f ∙ ap (λ x. negated_leaf x (boolean_value t) t (not_of s t)) g ∙ ap (λ x. negated_leaf None x t (not_of s t)) h

pub of_other : (s : Seat) (t : Tree) → junction_of (logical_operator t) ≡ None → is_several t ≡ false → reverse_of t ≡ None → boolean_value t ≡ None → whole s t ≡ not_of s t
of_other s t e f g h = of_leaf s t e f ∙ ap (λ x. negated_leaf x (boolean_value t) t (not_of s t)) g ∙ ap (λ x. negated_leaf None x t (not_of s t)) h

-- ---- sequences

pub of_several : (s : Seat) (t : Tree) → is_several t ≡ true → whole s t ≡ sequence (last_by not_of (branch_seat s) (children (part t 0)))
of_several s (node shape.SequenceExpression [] zero (node shape.Listed [] zero (a ▸ (b ▸ ts)) ▸ none)) e = refl
of_several s t e = absurd (true≢false (sym e))

last_at : (s : Seat) (us : Trees) (i : ℕ) → i + 1 ≡ count us → last_by not_of s us ≡ with_child us i (whole s (child_or_absent us i))
last_at s none i e = absurd (omega (arith, e))
last_at s (u ▸ none) zero e = refl
last_at s (u ▸ none) (suc i) e = absurd (omega (arith, e))
last_at s (u ▸ (v ▸ us)) zero e = absurd (omega (arith, e))
last_at s (u ▸ (v ▸ us)) (suc i) e = ap (λ x. u ▸ x) (last_at s (v ▸ us) i (omega (arith, e)))

-- the parts with the negation of the last one in that one's place
pub last_whole : (s r : Seat) (ts us vs : Trees) (i : ℕ) (c x : Tree) → i + 1 ≡ count ts → r ≡ branch_seat s → c ≡ child_or_absent ts i → x ≡ whole r c → us ≡ ts → vs ≡ with_child us i x → sequence vs ≡ sequence (last_by not_of (branch_seat s) ts)
last_whole s r ts us vs i c x e d f g h k =
    ap sequence (k ∙ ap (λ w. with_child w i x) h ∙ ap (with_child ts i) (g ∙ ap (λ q. whole q c) d ∙ ap (whole (branch_seat s)) f) ∙ sym (last_at (branch_seat s) ts i e))

children_fewer : (t : Tree) → node_counts (children t) < node_count t
children_fewer (node h xs n ts) = omega arith

-- the parts of a sequence are smaller than it
pub list_within : (t c : Tree) (us : Trees) → c ≡ part t 0 → us ≡ children c → node_count c < node_count t → node_counts us < node_count t
list_within t c us e d h = let fewer = children_fewer c in omega (arith, fewer, h, ap node_counts d)
