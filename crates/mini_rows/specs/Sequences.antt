-- Rows on sequences, as equations: each is a shape and what is written in its place, with the
-- JavaScript before and after. No order of rewriting is meant.
use Rattle.std.specs.Prelude.{◌≡◌, ◌<◌, ◌⊎◌, ◌&&◌, ◌||◌, Bool, true, false, not, nat_eq, nat_le, nat_lt, List, [], ◌∷◌, codes}
use Rattle.mini_model.specs.declared.operator.BinaryOperator.{BinaryOperator}
use Rattle.mini_model.specs.declared.operator.LogicalOperator.{LogicalOperator}
use Rattle.mini_model.specs.declared.operator.UnaryOperator.{UnaryOperator}
use Rattle.mini_model.specs.declared.operator.UnaryOperator.TheVariants.{LogicalNot, UnaryPlus, UnaryNegation, BitwiseNot}
use Rattle.mini_model.specs.declared.place.Position.{Position}
use Rattle.mini_model.specs.declared.place.Position.TheVariants.{Expr}
use Rattle.mini_model.specs.declared.seat.Guard.{Guard}
use Rattle.mini_model.specs.declared.seat.Guard.TheVariants as guard
use Rattle.mini_model.specs.declared.seat.Seat.{Seat}
use Rattle.mini_model.specs.declared.seat.Mix.{Mix}
use Rattle.mini_model.specs.declared.seat.Mix.TheVariants as mix
use Rattle.mini_model.specs.declared.shape.Shape.{Shape}
use Rattle.mini_model.specs.declared.shape.Shape.TheVariants as shape
use Rattle.mini_model.specs.Tree.{Tree, Trees, node, none, ◌▸◌, count, children, shape_of, unary, negation, logical, conditional}
use Rattle.mini_model.specs.Paths.{append}
use Rattle.mini_model.specs.Position.{unary_operand_seat, binary_operand_seat, left_operand_seat, conditional_test_seat, passed_part_seat, not_operand_seat, yield_argument_seat}
use Rattle.mini_model.specs.Weight.{outlines, weight, place_weight, is_parenthesized}
use Rattle.mini_node.specs.Children.{names_of}
use Rattle.mini_terms.specs.Folds.{is_effect_free}
use Rattle.mini_terms.specs.Parts.{is_number, suits, leaves_nothing, weighs}
use Rattle.mini_terms.specs.Reading.{is_plain_part, is_typed_by_value}
use Rattle.mini_rows.specs.Folding.{is_spelled}
use Rattle.mini_rows.specs.Lists.{sequence}
use Rattle.mini_rows.specs.Spellings.{binary}

-- ---- terms

-- the operators that make a number of their operand: `+a`, `-a` and `~a`
pub data Conversion : Type 0 where
  Plus : Conversion
  Minus : Conversion
  Complement : Conversion

abbrev pub conversion_operator : Conversion → UnaryOperator
conversion_operator Plus = UnaryPlus
conversion_operator Minus = UnaryNegation
conversion_operator Complement = BitwiseNot

-- `yield a`, and `yield* a`
abbrev pub yielded : Bool → Tree → Tree
yielded is_delegate a = node (shape.YieldExpression is_delegate) [] 0 (a ▸ none)

-- a node that evaluates its first operand before all else of it, over that operand: `a && b`,
-- `a ? b : c`, `!a`, `a + b`, `-a`, `yield a`
pub data Operation : Type 0 where
  Decides : LogicalOperator → Tree → Operation
  Chooses : Tree → Tree → Operation
  Negates : Operation
  Operates : BinaryOperator → Tree → Operation
  Converts : Conversion → Operation
  Yields : Bool → Operation

abbrev pub over : Operation → Tree → Tree
over (Decides o b) a = logical o a b
over (Chooses b c) a = conditional a b c
over Negates a = negation a
over (Operates o b) a = binary o a b
over (Converts c) a = unary (conversion_operator c) a
over (Yields is_delegate) a = yielded is_delegate a

-- such nodes one in the first operand of the other, from the outside in, and this in the first
-- operand of the last: `a + b < c` over a
abbrev pub along : List Operation → Tree → Tree
along [] a = a
along (r ∷ rs) a = over r (along rs a)

-- no number comes to stand behind a `-`, which would be one with it
abbrev pub takes_last : Operation → Tree → Bool
takes_last (Converts Minus) q = not (is_number q)
takes_last r q = true

-- so it is asked of the innermost of them
abbrev pub takes_along : Operation → List Operation → Tree → Bool
takes_along r [] q = takes_last r q
takes_along r (o ∷ rs) q = takes_along o rs q

-- the innermost of them
abbrev pub innermost : Operation → List Operation → Operation
innermost r [] = r
innermost r (o ∷ rs) = innermost o rs

abbrev pub operation_shape : Operation → Shape
operation_shape (Decides o b) = shape.LogicalExpression o
operation_shape (Chooses b c) = shape.ConditionalExpression
operation_shape Negates = shape.UnaryExpression LogicalNot
operation_shape (Operates o b) = shape.BinaryExpression o
operation_shape (Converts c) = shape.UnaryExpression (conversion_operator c)
operation_shape (Yields is_delegate) = shape.YieldExpression is_delegate

-- where its first operand stands
abbrev pub operand_seat : Operation → Seat → Seat
operand_seat (Decides o b) s = left_operand_seat o s
operand_seat (Chooses b c) s = conditional_test_seat
operand_seat Negates s = not_operand_seat
operand_seat (Operates o b) s = binary_operand_seat o 0
operand_seat (Converts c) s = unary_operand_seat (conversion_operator c)
operand_seat (Yields is_delegate) s = yield_argument_seat

-- a sequence stands there without parentheses, as the expression of a statement, a `return` or a
-- test does, and is not to be lifted out of it again
abbrev pub is_open_seat : Seat → Bool
is_open_seat s = nat_eq s.level 0 && not s.lifted

abbrev pub is_inner_shape : Shape → Bool
is_inner_shape shape.InnerExpression = true
is_inner_shape _ = false

-- it has neither parentheses there nor a form that a lighter one is wanted for
abbrev pub is_bare_at : Position → Tree → Bool
is_bare_at p t = not (is_inner_shape (shape_of t)) && nat_eq (place_weight p (shape_of t) (outlines (children t))) 0

-- there a sequence is lifted out: it has no parentheses there, or the node has had some, or the
-- last part has none in the place of the sequence
abbrev pub lifts_out : Seat → Operation → List Operation → Tree → Bool
lifts_out s r rs q = not s.lifted && (nat_eq s.level 0 || (is_parenthesized (operation_shape r) s || is_bare_at (Expr (operand_seat (innermost r rs) passed_part_seat)) q))

abbrev pub is_unmixed : Mix → Bool
is_unmixed mix.None = true
is_unmixed m = false

-- an expression has parentheses there only where a sequence has them too
abbrev pub takes_alone : Seat → Bool
takes_alone s = nat_lt 0 s.level || (not s.access && (not s.new_callee && is_unmixed s.mix))

abbrev pub is_callee : Guard → Bool
is_callee guard.Callee = true
is_callee g = false

-- an identifier
abbrev pub is_name : Shape → Bool
is_name shape.Identifier = true
is_name h = false

-- a name that is called is given no `this` (ECMA-262, "Function Calls"), as what stands in
-- parentheses; but a call of the name `eval` may be a direct eval
abbrev pub is_called_plainly : Seat → Tree → Bool
is_called_plainly s t = is_callee s.guard && (is_name (shape_of t) && not (is_spelled (names_of t) (codes "eval")))

abbrev pub is_typeof : Guard → Bool
is_typeof guard.Typeof = true
is_typeof g = false

-- `typeof` reads by its value what is no name, and a name that a scope declares (ECMA-262, "The
-- typeof Operator"); a name that nobody declares is `undefined` there, where the sequence would
-- raise
abbrev pub is_typed_plainly : Seat → Tree → Bool
is_typed_plainly s t = is_typeof s.guard && (is_typed_by_value t && (is_plain_part t && not (is_number t)))

-- what is left of a sequence means there what the sequence did
abbrev pub stays_alone : Seat → Tree → Bool
stays_alone s t = suits s t || (is_called_plainly s t || is_typed_plainly s t)

-- ---- rows

-- 20: `(a, b) && c` becomes `a, b && c`, `(a, b) ? c : d` becomes `a, b ? c : d`, `!(a, b)` becomes
-- `a, !b`, `(a, b) + c` becomes `a, b + c`, `-(a, b)` becomes `a, -b`, and `yield (a, b)` becomes
-- `a, yield b`; so does a node over others over the sequence, whose first operands each is
-- evaluated before all else: `(a, b) + c < d` becomes `a, b + c < d`, and `!((a, b) == c)` becomes
-- `a, !(b == c)`. Where the sequence has parentheses again `f((a, b) + c)` becomes `f((a, b + c))`,
-- and `d * ((a, b) + c)` `d * (a, b + c)`
pub record Row20 (s : Seat) (n w : Tree) : Type 0 where
  pub operation : Operation
  pub operations : List Operation
  pub first : Tree
  pub others : Trees
  pub last : Tree
  pub seated : lifts_out s operation operations last ≡ true
  pub takes : takes_along operation operations last ≡ true
  pub shape : n ≡ over operation (along operations (sequence (first ▸ append others (last ▸ none))))
  pub written : w ≡ sequence (first ▸ append others (over operation (along operations last) ▸ none))

-- 21: `a, (b, c), d` becomes `a, b, c, d`
pub record Row21 (n w : Tree) : Type 0 where
  pub before : Trees
  pub first : Tree
  pub second : Tree
  pub others : Trees
  pub after : Trees
  pub shape : n ≡ sequence (append before (sequence (first ▸ (second ▸ others)) ▸ after))
  pub written : w ≡ sequence (append before (first ▸ (second ▸ append others after)))

-- 21, of a part that has no effect: `a(), 1, b()` becomes `a(), b()`
pub record Row21Idle (n w : Tree) : Type 0 where
  pub before : Trees
  pub idle : Tree
  pub next : Tree
  pub after : Trees
  pub effect_free : is_effect_free idle ≡ true
  pub dropped : leaves_nothing idle ≡ true
  pub heavy : weighs idle ≡ true
  pub several : nat_le 2 (count (append before (next ▸ after))) ≡ true
  pub shape : n ≡ sequence (append before (idle ▸ (next ▸ after)))
  pub written : w ≡ sequence (append before (next ▸ after))

-- and where one part is left: `1, a()` becomes `a()`, `(0, a)()` becomes `a()`, and
-- `typeof (0, a.b)` becomes `typeof a.b`
pub record Row21Alone (s : Seat) (n w : Tree) : Type 0 where
  pub idle : Tree
  pub last : Tree
  pub effect_free : is_effect_free idle ≡ true
  pub dropped : leaves_nothing idle ≡ true
  pub heavy : weighs idle ≡ true
  pub seated : takes_alone s ≡ true
  pub stays : stays_alone s last ≡ true
  pub shape : n ≡ sequence (idle ▸ (last ▸ none))
  pub written : w ≡ last

-- a row on sequences reads n as w at this place
abbrev pub SequenceRow : Position → Tree → Tree → Type 0
SequenceRow (Expr s) n w = Row20 s n w ⊎ (Row21 n w ⊎ (Row21Idle n w ⊎ Row21Alone s n w))
SequenceRow _ n w = ⊥

-- what it writes, where it weighs less
pub record SequenceContracts (p : Position) (n w : Tree) : Type 0 where
  pub row : SequenceRow p n w
  pub lighter : weight p w < weight p n

-- which is everywhere
abbrev pub SequencesLighter : Type 0
SequencesLighter = (p : Position) (n w : Tree) → SequenceRow p n w → weight p w < weight p n
