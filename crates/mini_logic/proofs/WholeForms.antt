-- The whole negation by the kind of its expression.
use Rattle.std.proofs.Common.{◌≡◌, ℕ, zero, suc, ◌+◌, ◌*◌, ◌<◌, Bool, true, false, List, [], Some, None, refl, sym, ap, ◌∙◌, subst, true≢false, arith}
use Rattle.std.specs.Prelude.{not, ◌||◌, nat_lt, is_some, if◌then◌else◌}
use Rattle.std.proofs.lemmas.Bool.{ltb-true, lt-ltb}
use Rattle.std.proofs.lemmas.Option.{none-some}
use Rattle.mini_model.specs.declared.operator.BinaryOperator.{BinaryOperator}
use Rattle.mini_model.specs.declared.operator.BinaryOperator.TheVariants.{LessThan, GreaterThan}
use Rattle.mini_model.specs.declared.operator.LogicalOperator.{LogicalOperator}
use Rattle.mini_model.specs.declared.operator.LogicalOperator.TheVariants.{Or, And, Coalesce}
use Rattle.mini_model.specs.declared.place.Position.TheVariants.{Expr}
use Rattle.mini_model.specs.declared.seat.Seat.{Seat}
use Rattle.mini_model.specs.declared.shape.Shape.TheVariants as shape
use Rattle.mini_model.specs.Tree.{Tree, Trees, node, none, ◌▸◌, absent, children, child_or_absent, count, logical}
use Rattle.mini_model.specs.Position.{left_operand_seat, right_operand_seat, branch_seat, passed_part_seat}
use Rattle.mini_model.specs.Weight.{Outline, place_weight, weight}
use Rattle.mini_node.specs.Children.{is_bare, part, with_child}
use Rattle.mini_node.specs.Kinds.{logical_operator, boolean as boolean_value, sequence, is_sequence}
use Rattle.mini_node.specs.Made.{boolean_is, sequence_is}
use Rattle.mini_node.specs.Walks.{count_with}
use Rattle.mini_rows.specs.Spellings.{binary, boolean}
use Rattle.mini_rows.specs.Negations.{beside_u, reversed, reverse_of, negated_leaf, is_junction, is_several, reaches_in}
use Rattle.mini_rows.proofs.ListWeights.{parts_total, part_same, sequence_weighs}
use Rattle.mini_rows.proofs.NegationMeaning.{reverses}
use Rattle.mini_logic.specs.Negating.{lighter_negation}
use Rattle.mini_logic.specs.MinimizeNegation.{junction_of, leading, told, last_told}
use Rattle.mini_logic.proofs.Negations.{with_twice}

no_coalesce : (b : Bool) → junction_of (if b then Some Coalesce else None) ≡ None
no_coalesce true = refl
no_coalesce false = refl

pub told_junction : (s : Seat) (t : Tree) (o : LogicalOperator) → junction_of (logical_operator t) ≡ Some o → told s t ≡ logical o (told (left_operand_seat o s) (part t 0)) (told (right_operand_seat o s) (part t 1))
told_junction s (node (shape.LogicalExpression And) [] zero (a ▸ b ▸ none)) o e = let same : Or ≡ o = cc e in ap (λ p. logical p (told (left_operand_seat p s) a) (told (right_operand_seat p s) b)) same
told_junction s (node (shape.LogicalExpression Or) [] zero (a ▸ b ▸ none)) o e = let same : And ≡ o = cc e in ap (λ p. logical p (told (left_operand_seat p s) a) (told (right_operand_seat p s) b)) same
told_junction s (node (shape.LogicalExpression Coalesce) xs n ts) o e = absurd (cc (sym (no_coalesce (is_bare (node (shape.LogicalExpression Coalesce) xs n ts) 2)) ∙ e))
told_junction s t o e = absurd (none-some o e)

junction_is : (t : Tree) → is_some (junction_of (logical_operator t)) ≡ is_junction t
junction_is (node (shape.LogicalExpression And) [] zero (a ▸ b ▸ none)) = refl
junction_is (node (shape.LogicalExpression Or) [] zero (a ▸ b ▸ none)) = refl
junction_is (node (shape.LogicalExpression Coalesce) xs n ts) = ap is_some (no_coalesce (is_bare (node (shape.LogicalExpression Coalesce) xs n ts) 2))
junction_is t = refl

pub reaches_by_kind : (t : Tree) → (is_some (junction_of (logical_operator t)) || (is_several t || (is_some (reverse_of t) || is_some (boolean_value t)))) ≡ reaches_in t
reaches_by_kind t = ap (λ b. b || (is_several t || (is_some (reverse_of t) || is_some (boolean_value t)))) (junction_is t)

told_leaf : (s : Seat) (t : Tree) → junction_of (logical_operator t) ≡ None → is_several t ≡ false → told s t ≡ negated_leaf (reverse_of t) (boolean_value t) t (lighter_negation s t)
told_leaf s (node (shape.LogicalExpression And) [] zero (a ▸ b ▸ none)) e f = absurd (cc e)
told_leaf s (node (shape.LogicalExpression Or) [] zero (a ▸ b ▸ none)) e f = absurd (cc e)
told_leaf s (node shape.SequenceExpression [] zero (node shape.Listed [] zero (a ▸ (b ▸ ts)) ▸ none)) e f = absurd (true≢false f)
told_leaf s t e f = refl

no_junction : (t : Tree) (o : BinaryOperator) → reverse_of t ≡ Some o → junction_of (logical_operator t) ≡ None
no_junction t o e = let r = reverses t o e in ap (λ u. junction_of (logical_operator u)) r.shape

no_several : (t : Tree) (o : BinaryOperator) → reverse_of t ≡ Some o → is_several t ≡ false
no_several t o e = let r = reverses t o e in ap is_several r.shape

same_weight : (s : Seat) (p o : BinaryOperator) (a : Tree) → reversed p ≡ Some o → weight (Expr s) (beside_u p a) ≡ weight (Expr s) (beside_u o a)
same_weight s LessThan o a e = let same : GreaterThan ≡ o = cc e in subst (λ x. weight (Expr s) (beside_u LessThan a) ≡ weight (Expr s) (beside_u x a)) same refl
same_weight s GreaterThan o a e = let same : LessThan ≡ o = cc e in subst (λ x. weight (Expr s) (beside_u GreaterThan a) ≡ weight (Expr s) (beside_u x a)) same refl
same_weight s p o a e = absurd (none-some o e)

literal_weight : (s : Seat) (b : Bool) → weight (Expr s) (boolean b) ≡ weight (Expr s) (boolean (not b))
literal_weight s true = refl
literal_weight s false = refl

-- a comparison is turned, and weighs the same
pub told_reversed : (s : Seat) (t : Tree) (o : BinaryOperator) → reverse_of t ≡ Some o → (told s t ≡ binary o (part t 0) (part t 1)) × (weight (Expr s) (told s t) ≡ weight (Expr s) t)
told_reversed s t o e =
    let r = reverses t o e in
    let is = told_leaf s t (no_junction t o e) (no_several t o e) ∙ ap (λ x. negated_leaf x (boolean_value t) t (lighter_negation s t)) e in
    let made = subst (λ u. weight (Expr s) u ≡ weight (Expr s) (binary o (part u 0) (part u 1))) (sym r.shape) (same_weight s r.from o r.operand r.turns) in
    (is, ap (weight (Expr s)) is ∙ sym made)

no_comparison : (b : Bool) → reverse_of (boolean b) ≡ None
no_comparison b = refl

-- and so is a literal
pub told_literal : (s : Seat) (t : Tree) (b : Bool) → boolean_value t ≡ Some b → (told s t ≡ boolean (not b)) × (weight (Expr s) (told s t) ≡ weight (Expr s) t)
told_literal s t b e = subst (λ u. (told s u ≡ boolean (not b)) × (weight (Expr s) (told s u) ≡ weight (Expr s) u)) (sym (boolean_is t b e)) (refl, sym (literal_weight s b))

pub told_other : (s : Seat) (t : Tree) → junction_of (logical_operator t) ≡ None → is_several t ≡ false → reverse_of t ≡ None → boolean_value t ≡ None → told s t ≡ lighter_negation s t
told_other s t e h f g = told_leaf s t e h ∙ ap (λ x. negated_leaf x (boolean_value t) t (lighter_negation s t)) f ∙ ap (λ x. negated_leaf None x t (lighter_negation s t)) g

-- ---- sequences

several_by_count : (us : Trees) → nat_lt 1 (count us) ≡ is_several (sequence us)
several_by_count none = refl
several_by_count (u ▸ none) = refl
several_by_count (u ▸ (v ▸ us)) = lt-ltb 1 (count (u ▸ (v ▸ us))) (omega arith)

-- a sequence by how many parts it has
pub several_by_parts : (t : Tree) → is_sequence t ≡ true → nat_lt 1 (count (children (part t 0))) ≡ is_several t
several_by_parts t e = several_by_count (children (part t 0)) ∙ sym (ap is_several (sequence_is t e))

pub other_than_several : (t : Tree) → is_sequence t ≡ false → is_several t ≡ false
other_than_several (node shape.SequenceExpression [] zero (node shape.Listed [] zero (a ▸ (b ▸ ts)) ▸ none)) e = absurd (true≢false e)
other_than_several t e = refl

pub several_sequence : (t : Tree) → is_several t ≡ true → is_sequence t ≡ true
several_sequence t e = go (is_sequence t) refl
  where
    go : (b : Bool) → is_sequence t ≡ b → b ≡ true
    go true h = refl
    go false h = absurd (true≢false (sym e ∙ other_than_several t h))

-- a list of two at least
pub several_parts : (t : Tree) (us : Trees) → is_several t ≡ true → us ≡ children (part t 0) → 1 < count us
several_parts t us e f = let many = ltb-true 1 (count (children (part t 0))) (several_by_parts t (several_sequence t e) ∙ e) in omega (arith, many, ap count f)

told_parts : (s : Seat) (us : Trees) → is_several (sequence us) ≡ true → told s (sequence us) ≡ sequence (last_told (branch_seat s) us)
told_parts s none e = absurd (true≢false (sym e))
told_parts s (u ▸ none) e = absurd (true≢false (sym e))
told_parts s (u ▸ (v ▸ us)) e = refl

told_several : (s : Seat) (t : Tree) → is_several t ≡ true → told s t ≡ sequence (last_told (branch_seat s) (children (part t 0)))
told_several s t e =
    let is = sequence_is t (several_sequence t e) in
    ap (told s) is ∙ told_parts s (children (part t 0)) (sym (ap is_several is) ∙ e)

last_at : (s : Seat) (us : Trees) (i : ℕ) → i + 1 ≡ count us → last_told s us ≡ with_child us i (told s (child_or_absent us i))
last_at s none i e = absurd (omega (arith, e))
last_at s (u ▸ none) zero e = refl
last_at s (u ▸ none) (suc i) e = absurd (omega (arith, e))
last_at s (u ▸ (v ▸ us)) zero e = absurd (omega (arith, e))
last_at s (u ▸ (v ▸ us)) (suc i) e = ap (λ x. u ▸ x) (last_at s (v ▸ us) i (omega (arith, e)))

-- the sequence with the negation of its last part in that one's place
pub told_last : (s : Seat) (t : Tree) (us : Trees) (i : ℕ) → is_several t ≡ true → us ≡ children (part t 0) → i + 1 ≡ count us → sequence (with_child (with_child us i absent) i (told (branch_seat s) (child_or_absent us i))) ≡ told s t
told_last s t us i e f g =
    ap sequence (with_twice us i absent (told (branch_seat s) (child_or_absent us i)) ∙ sym (last_at (branch_seat s) us i g))
    ∙ ap (λ x. sequence (last_told (branch_seat s) x)) f
    ∙ sym (told_several s t e)

-- ---- and what it weighs

pub leading_next : (k : ℕ) (ts : Trees) → k < count ts → leading (suc k) ts ≡ leading k ts + weight (Expr passed_part_seat) (child_or_absent ts k) + 2
leading_next k none h = absurd (omega (arith, h))
leading_next zero (t ▸ ts) h = omega arith
leading_next (suc k) (t ▸ ts) h = let rest = leading_next k ts (omega (arith, h)) in omega (arith, rest)

parts_with : (us : Trees) (i : ℕ) (x : Tree) → i + 1 ≡ count us → parts_total (with_child us i x) + 2 * count us ≡ leading i us + weight (Expr passed_part_seat) x + 2
parts_with none i x e = absurd (omega (arith, e))
parts_with (u ▸ none) zero x e = omega arith
parts_with (u ▸ none) (suc i) x e = absurd (omega (arith, e))
parts_with (u ▸ (v ▸ us)) zero x e = absurd (omega (arith, e))
parts_with (u ▸ (v ▸ us)) (suc i) x e = let rest = parts_with (v ▸ us) i x (omega (arith, e)) in omega (arith, rest)

same_place : (s : Seat) (os : List Outline) → place_weight (Expr s) shape.SequenceExpression os ≡ place_weight (Expr s) shape.SequenceExpression []
same_place s os = refl

by_parts : (s : Seat) (us : Trees) → 0 < count us → weight (Expr s) (sequence us) + 2 ≡ place_weight (Expr s) shape.SequenceExpression [] + parts_total us + 2 * count us
by_parts s none h = absurd (omega (arith, h))
by_parts s (u ▸ us) h = let whole = sequence_weighs s u us in omega (arith, whole)

pub told_weighs : (s : Seat) (t : Tree) (i : ℕ) → is_several t ≡ true → i + 1 ≡ count (children (part t 0)) → weight (Expr s) (told s t) ≡ place_weight (Expr s) shape.SequenceExpression [] + leading i (children (part t 0)) + weight (Expr (branch_seat s)) (told (branch_seat s) (child_or_absent (children (part t 0)) i))
told_weighs s t i e h =
    let us = children (part t 0) in
    let x = told (branch_seat s) (child_or_absent us i) in
    let is = ap (weight (Expr s)) (told_several s t e ∙ ap sequence (last_at (branch_seat s) us i h)) in
    let same : weight (Expr (branch_seat s)) x ≡ weight (Expr passed_part_seat) x = part_same s true x in
    omega (arith, is, parts_with us i x h, by_parts s (with_child us i x) (omega (arith, h, count_with us i x)), same, count_with us i x)
