-- Each form of `if` over expressions writes what a row of the rewrites says.
use Rattle.std.proofs.Common.{◌≡◌, ◌≤◌, ◌⊎◌, ℕ, zero, refl, sym, ap, ◌∙◌, inl, inr, arith}
use Rattle.std.specs.Prelude.{◌+◌, pos, negsuc, nat_lt, Bool, true, false, not, ◌&&◌, List, [], Some, if◌then◌else◌}
use Rattle.std.proofs.lemmas.Bool.{and_parts, ltb-true, false≢true}
use Rattle.std.proofs.lemmas.Option.{none-some, same_Some, option_and_then_some}
use Rattle.mini_model.specs.declared.operator.BinaryOperator.TheVariants as binary
use Rattle.mini_model.specs.declared.operator.LogicalOperator.TheVariants.{Or, And, Coalesce}
use Rattle.mini_model.specs.declared.operator.UnaryOperator.TheVariants.{LogicalNot}
use Rattle.mini_model.specs.declared.place.Position.TheVariants.{Expr}
use Rattle.mini_model.specs.declared.shape.Shape.{Shape}
use Rattle.mini_model.specs.declared.shape.Shape.TheVariants as shape
use Rattle.mini_model.specs.Paths.{append}
use Rattle.mini_model.specs.Position.{left_operand_seat, statement_expression_seat, not_operand_seat}
use Rattle.mini_model.specs.Redex.{Row82Else, Row82And, Row82Or}
use Rattle.mini_model.specs.Terms.{not_of, has_negated_result}
use Rattle.mini_model.specs.Tree.{Tree, Trees, node, none, ◌▸◌, children, negation, conditional, expression_statement, if_else, if_alone}
use Rattle.mini_model.specs.Weight.{Outline, place_weight, weight}
use Rattle.mini_laws.proofs.Seats.{placed}
use Rattle.mini_node.specs.Children.{part}
use Rattle.mini_node.specs.Kinds.{sequence, block, is_expression_statement, is_empty_statement, is_block, is_if_statement, is_if_alone}
use Rattle.mini_node.specs.Made.{expression_statement_is, if_statement_is, if_alone_is, empty_statement_is, block_is}
use Rattle.mini_rows.specs.Branches.{IsEmpty, conjunct_seat, Ending, not_of_all, after, with_not, without_not, Row82EmptyOr, Row82EmptyAnd, Row82EndsOr, Row82EndsAnd}
use Rattle.mini_log.specs.ChoiceRows.{unnegated, unnegated_last, holds_nothing, is_empty, is_two_branched, is_one_branched, is_else_branched, chosen, joined_by, disjoined, conjoined, else_conjoined, else_disjoined}
use Rattle.mini_log.specs.Terms.{when}
use Rattle.mini_log.proofs.Tests.{whenever, mapped, not_true, either_true}

-- ---- the operand of a `!` is no heavier as the left side of a statement's `||` or `&&`

or_marks : (h : Shape) (os : List Outline) → place_weight (Expr (left_operand_seat Or statement_expression_seat)) h os ≤ place_weight (Expr not_operand_seat) h os + 0
or_marks (shape.LogicalExpression Or) os = omega arith
or_marks (shape.LogicalExpression And) os = omega arith
or_marks (shape.LogicalExpression Coalesce) os = omega arith
or_marks (shape.BinaryExpression binary.BitwiseOr) os = omega arith
or_marks (shape.BinaryExpression binary.BitwiseXor) os = omega arith
or_marks (shape.BinaryExpression binary.BitwiseAnd) os = omega arith
or_marks (shape.BinaryExpression o) os = omega arith
or_marks (shape.NumericLiteral (pos n)) os = omega arith
or_marks (shape.NumericLiteral (negsuc n)) os = omega arith
or_marks h os = omega arith

and_marks : (h : Shape) (os : List Outline) → place_weight (Expr conjunct_seat) h os ≤ place_weight (Expr not_operand_seat) h os + 0
and_marks (shape.LogicalExpression Or) os = omega arith
and_marks (shape.LogicalExpression And) os = omega arith
and_marks (shape.LogicalExpression Coalesce) os = omega arith
and_marks (shape.BinaryExpression binary.BitwiseOr) os = omega arith
and_marks (shape.BinaryExpression binary.BitwiseXor) os = omega arith
and_marks (shape.BinaryExpression binary.BitwiseAnd) os = omega arith
and_marks (shape.BinaryExpression o) os = omega arith
and_marks (shape.NumericLiteral (pos n)) os = omega arith
and_marks (shape.NumericLiteral (negsuc n)) os = omega arith
and_marks h os = omega arith

lighter_one : (m n : Tree) (a b : ℕ) → b ≤ a → (if nat_lt a b then m else n) ≡ n
lighter_one m n a b h = go (nat_lt a b) refl
  where
    go : (c : Bool) → nat_lt a b ≡ c → (if c then m else n) ≡ n
    go true e = absurd (omega (arith, h, ltb-true a b e))
    go false e = refl

or_operand : (a : Tree) → not_of (left_operand_seat Or statement_expression_seat) (negation a) ≡ a
or_operand a =
    let falls = placed 0 (left_operand_seat Or statement_expression_seat) not_operand_seat refl or_marks a in
    lighter_one (negation (negation a)) a (weight (Expr (left_operand_seat Or statement_expression_seat)) (negation (negation a))) (weight (Expr (left_operand_seat Or statement_expression_seat)) a) (omega (arith, falls))

and_operand : (a : Tree) → not_of conjunct_seat (negation a) ≡ a
and_operand a =
    let falls = placed 0 conjunct_seat not_operand_seat refl and_marks a in
    lighter_one (negation (negation a)) a (weight (Expr conjunct_seat) (negation (negation a))) (weight (Expr conjunct_seat) a) (omega (arith, falls))

-- ---- where the result is a `!`

record Ends (a w : Tree) : Type 0 where
  end : Ending
  is : a ≡ with_not end
  without : w ≡ without_not end

record LastEnds (ts us : Trees) : Type 0 where
  before : Trees
  end : Ending
  is : ts ≡ append before (with_not end ▸ none)
  without : us ≡ append before (without_not end ▸ none)

mutual
  ends : (a w : Tree) → unnegated a ≡ Some w → Ends a w
  ends (node (shape.UnaryExpression LogicalNot) [] zero (a ▸ none)) w e = record { end = not_of_all a; is = refl; without = sym (same_Some a w e) }
  ends (node shape.SequenceExpression [] zero (node shape.Listed [] zero (a ▸ (b ▸ ts)) ▸ none)) w e =
      let (us, (told, made)) = mapped (λ us. sequence (a ▸ us)) (unnegated_last (b ▸ ts)) w e in
      let x = last_ends (b ▸ ts) us told in
      record { end = after a x.before x.end; is = ap (λ vs. sequence (a ▸ vs)) x.is; without = sym made ∙ ap (λ vs. sequence (a ▸ vs)) x.without }
  ends a w e = absurd (none-some w e)

  last_ends : (ts us : Trees) → unnegated_last ts ≡ Some us → LastEnds ts us
  last_ends none us e = absurd (none-some us e)
  last_ends (a ▸ none) us e =
      let (w, (told, made)) = mapped (λ w. w ▸ none) (unnegated a) us e in
      let x = ends a w told in
      record { before = none; end = x.end; is = ap (λ v. v ▸ none) x.is; without = sym made ∙ ap (λ v. v ▸ none) x.without }
  last_ends (a ▸ (b ▸ ts)) us e =
      let (vs, (told, made)) = mapped (λ us. a ▸ us) (unnegated_last (b ▸ ts)) us e in
      let x = last_ends (b ▸ ts) vs told in
      record { before = a ▸ x.before; end = x.end; is = ap (λ v. a ▸ v) x.is; without = sym made ∙ ap (λ v. a ▸ v) x.without }

-- ---- the forms

empty_is : (t : Tree) → is_empty t ≡ true → IsEmpty t
empty_is t e = go (either_true (is_empty_statement t) (is_block t && holds_nothing (children (part t 0))) e)
  where
    nothing_is : (ts : Trees) → holds_nothing ts ≡ true → ts ≡ none
    nothing_is none e = refl
    nothing_is (t ▸ ts) e = absurd (false≢true e)

    go : (is_empty_statement t ≡ true) ⊎ (is_block t && holds_nothing (children (part t 0)) ≡ true) → IsEmpty t
    go (inl h) = inl (empty_statement_is t h)
    go (inr h) =
        let (is, nothing) = and_parts (is_block t) (holds_nothing (children (part t 0))) h in
        inr (block_is t is ∙ ap block (nothing_is (children (part t 0)) nothing))

one_is : (t : Tree) → is_one_branched t ≡ true → t ≡ if_alone (part t 0) (expression_statement (part (part t 1) 0))
one_is t e =
    let (alone, one) = and_parts (is_if_alone t) (is_expression_statement (part t 1)) e in
    if_alone_is t alone ∙ ap (λ c. if_alone (part t 0) c) (expression_statement_is (part t 1) one)

record Skips (t : Tree) : Type 0 where
  empty : IsEmpty (part t 1)
  is : t ≡ if_else (part t 0) (part t 1) (expression_statement (part (part t 2) 0))

else_is : (t : Tree) → is_else_branched t ≡ true → Skips t
else_is t e =
    let (chooses, r) = and_parts (is_if_statement t) (is_empty (part t 1) && is_expression_statement (part t 2)) e in
    let (empty, other) = and_parts (is_empty (part t 1)) (is_expression_statement (part t 2)) r in
    record { empty = empty_is (part t 1) empty; is = if_statement_is t chooses ∙ ap (λ c. if_else (part t 0) (part t 1) c) (expression_statement_is (part t 2) other) }

pub chooses_between : (t w : Tree) → chosen t ≡ Some w → Row82Else t w
chooses_between t w e =
    let (test, made) = whenever (is_two_branched t) (expression_statement (conditional (part t 0) (part (part t 1) 0) (part (part t 2) 0))) w e in
    let (chooses, r) = and_parts (is_if_statement t) (is_expression_statement (part t 1) && is_expression_statement (part t 2)) test in
    let (one, other) = and_parts (is_expression_statement (part t 1)) (is_expression_statement (part t 2)) r in
    record {
      a = part t 0;
      b = part (part t 1) 0;
      c = part (part t 2) 0;
      shape = if_statement_is t chooses ∙ (ap (λ c. if_else (part t 0) c (part t 2)) (expression_statement_is (part t 1) one) ∙ ap (λ c. if_else (part t 0) (expression_statement (part (part t 1) 0)) c) (expression_statement_is (part t 2) other));
      written = made;
    }

pub disjoins : (t w : Tree) → disjoined t ≡ Some w → Row82Or t w ⊎ Row82EndsOr t w
disjoins t w e =
    option_and_then_some (λ a. when (is_one_branched t) (joined_by Or a (part t 1))) (unnegated (part t 0)) w e (λ a told done.
    let (test, made) = whenever (is_one_branched t) (joined_by Or a (part t 1)) w done in
    let x = ends (part t 0) a told in
    by a x.end x.is x.without (one_is t test) made)
  where
    by : (a : Tree) (c : Ending) → part t 0 ≡ with_not c → a ≡ without_not c → t ≡ if_alone (part t 0) (expression_statement (part (part t 1) 0)) → w ≡ joined_by Or a (part t 1) → Row82Or t w ⊎ Row82EndsOr t w
    by a (not_of_all d) is without shape made =
        inl
        (record {
          a = negation d;
          b = part (part t 1) 0;
          shape = shape ∙ ap (λ v. if_alone v (expression_statement (part (part t 1) 0))) is;
          negated = refl;
          written = made ∙ ap (λ v. joined_by Or v (part t 1)) (without ∙ sym (or_operand d));
        })
    by a (after p ps c) is without shape made =
        inr (record { first = p; others = ps; last = c; b = part (part t 1) 0; shape = shape ∙ ap (λ v. if_alone v (expression_statement (part (part t 1) 0))) is; written = made ∙ ap (λ v. joined_by Or v (part t 1)) without })

pub conjoins : (t w : Tree) → conjoined t ≡ Some w → Row82And t w
conjoins t w e =
    let (test, made) = whenever (is_one_branched t && not (has_negated_result (part t 0))) (joined_by And (part t 0) (part t 1)) w e in
    let (one, plain) = and_parts (is_one_branched t) (not (has_negated_result (part t 0))) test in
    record { a = part t 0; b = part (part t 1) 0; shape = one_is t one; plain = not_true (has_negated_result (part t 0)) plain; written = made }

pub else_conjoins : (t w : Tree) → else_conjoined t ≡ Some w → Row82EmptyAnd t w ⊎ Row82EndsAnd t w
else_conjoins t w e =
    option_and_then_some (λ a. when (is_else_branched t) (joined_by And a (part t 2))) (unnegated (part t 0)) w e (λ a told done.
    let (test, made) = whenever (is_else_branched t) (joined_by And a (part t 2)) w done in
    let x = ends (part t 0) a told in
    by a x.end x.is x.without (else_is t test) made)
  where
    by : (a : Tree) (c : Ending) → part t 0 ≡ with_not c → a ≡ without_not c → Skips t → w ≡ joined_by And a (part t 2) → Row82EmptyAnd t w ⊎ Row82EndsAnd t w
    by a (not_of_all d) is without skips made =
        inl
        (record {
          a = negation d;
          empty = part t 1;
          b = part (part t 2) 0;
          is_empty = skips.empty;
          negated = refl;
          shape = skips.is ∙ ap (λ v. if_else v (part t 1) (expression_statement (part (part t 2) 0))) is;
          written = made ∙ ap (λ v. joined_by And v (part t 2)) (without ∙ sym (and_operand d));
        })
    by a (after p ps c) is without skips made =
        inr
        (record {
          first = p;
          others = ps;
          last = c;
          empty = part t 1;
          b = part (part t 2) 0;
          is_empty = skips.empty;
          shape = skips.is ∙ ap (λ v. if_else v (part t 1) (expression_statement (part (part t 2) 0))) is;
          written = made ∙ ap (λ v. joined_by And v (part t 2)) without;
        })

pub else_disjoins : (t w : Tree) → else_disjoined t ≡ Some w → Row82EmptyOr t w
else_disjoins t w e =
    let (test, made) = whenever (is_else_branched t && not (has_negated_result (part t 0))) (joined_by Or (part t 0) (part t 2)) w e in
    let (one, plain) = and_parts (is_else_branched t) (not (has_negated_result (part t 0))) test in
    let skips = else_is t one in
    record { a = part t 0; empty = part t 1; b = part (part t 2) 0; is_empty = skips.empty; plain = not_true (has_negated_result (part t 0)) plain; shape = skips.is; written = made }
