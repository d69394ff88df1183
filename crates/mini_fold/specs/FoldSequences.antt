-- The rewrites 20 and 21: `(a, b) && c` becomes `a, b && c`, `-(a, b)` becomes `a, -b`,
-- `(a, b) + c < d` becomes `a, b + c < d`, `a, (b, c)` becomes `a, b, c`, and `a(), 1, b()` becomes
-- `a(), b()`.
use Rattle.std.specs.Prelude.{ℕ, Bool, true, false, not, ◌&&◌, ◌||◌, nat_eq, nat_le, Option, Some, is_some, if◌then◌else◌}
use Rattle.mini_model.specs.declared.operator.UnaryOperator.{UnaryOperator}
use Rattle.mini_model.specs.declared.operator.UnaryOperator.TheVariants.{UnaryPlus, UnaryNegation, BitwiseNot}
use Rattle.mini_model.specs.declared.place.Position.{Position}
use Rattle.mini_model.specs.declared.place.Position.TheVariants.{Expr}
use Rattle.mini_model.specs.declared.seat.Seat.{Seat}
use Rattle.mini_model.specs.declared.shape.Shape.{Shape}
use Rattle.mini_model.specs.declared.shape.Shape.TheVariants as shape
use Rattle.mini_model.specs.Tree.{Tree, Trees, node, none, ◌▸◌, absent, shape_of, children, count, child_or_absent, first_or_absent}
use Rattle.mini_model.specs.Paths.{append}
use Rattle.mini_model.specs.Position.{passed_part_seat, child_position}
use Rattle.mini_model.specs.Weight.{outlines, place_weight}
use Rattle.mini_node.specs.Children.{part, is_bare, first_children, rest_children, without}
use Rattle.mini_node.specs.Kinds.{logical_operator, binary_operator, unary_operator, is_conditional, is_negation, is_sequence_shape, is_sequence, sequence}
use Rattle.mini_terms.specs.Folds.{is_effect_free}
use Rattle.mini_terms.specs.Parts.{is_number, leaves_nothing, weighs}
use Rattle.mini_held.specs.Parts.{idle_before_last}
use Rattle.mini_rows.specs.Sequences.{is_bare_at, takes_alone, stays_alone, SequenceRow, SequenceContracts}

-- two or more
abbrev pub has_several : Trees → Bool
has_several (a ▸ (b ▸ ts)) = true
has_several ts = false

-- a sequence
abbrev pub is_several : Tree → Bool
is_several t = is_sequence t && has_several (children (part t 0))

-- ---- 20

-- the last one, and those before it
abbrev pub last_of : Trees → Tree
last_of none = absent
last_of (t ▸ none) = t
last_of (t ▸ (u ▸ us)) = last_of (u ▸ us)

abbrev pub but_last : Trees → Trees
but_last none = none
but_last (t ▸ none) = none
but_last (t ▸ (u ▸ us)) = t ▸ but_last (u ▸ us)

-- the operators that make a number of their operand
abbrev pub converts : Option UnaryOperator → Bool
converts (Some UnaryPlus) = true
converts (Some UnaryNegation) = true
converts (Some BitwiseNot) = true
converts o = false

abbrev pub is_minus : Option UnaryOperator → Bool
is_minus (Some UnaryNegation) = true
is_minus o = false

abbrev pub is_yield_shape : Shape → Bool
is_yield_shape (shape.YieldExpression is_delegate) = true
is_yield_shape h = false

-- `yield a`, and `yield* a`
abbrev pub is_yield : Tree → Bool
is_yield t = is_yield_shape (shape_of t) && is_bare t 1

-- a node that evaluates its first operand before all else of it
abbrev pub is_operation : Tree → Bool
is_operation t = is_some (logical_operator t) || (is_conditional t || (is_negation t || (is_some (binary_operator t) || (converts (unary_operator t) || is_yield t))))

-- the last of these may stand behind the operator of the node: no number behind a `-`
abbrev pub takes_last_of : Tree → Trees → Bool
takes_last_of t ts = not (is_minus (unary_operator t)) || not (is_number (last_of ts))

-- the operand is a sequence whose last part may stand there
abbrev pub gives_parts : Tree → Tree → Bool
gives_parts t operand = is_sequence operand && (has_several (children (part operand 0)) && takes_last_of t (children (part operand 0)))

-- such nodes one in the first operand of the other, and a sequence in that of the last, whose last
-- part may stand there
abbrev pub reaches_sequence : Tree → Bool
reaches_sequence (node h xs n none) = false
reaches_sequence (node h xs n (a ▸ ts)) = is_operation (node h xs n (a ▸ ts)) && (gives_parts (node h xs n (a ▸ ts)) a || reaches_sequence a)

-- where the first operand of a node stands
abbrev pub first_place : Tree → Position
first_place t = child_position (shape_of t) (Expr passed_part_seat) (count (children t)) 0

-- the last of these has neither parentheses there nor a form that a lighter one is wanted for
abbrev pub ends_bare : Position → Trees → Bool
ends_bare p none = false
ends_bare p (t ▸ ts) = is_bare_at p (last_of (t ▸ ts))

-- so is the last part of the sequence that is reached, in place of it
abbrev pub leaves_bare : Tree → Bool
leaves_bare (node h xs n none) = false
leaves_bare (node h xs n (a ▸ ts)) = if is_sequence_shape (shape_of a) then ends_bare (first_place (node h xs n (a ▸ ts))) (children (part a 0)) else leaves_bare a

-- what is lifted out here has no parentheses, or the node has had some, or the last part has none
abbrev pub has_room : Seat → Tree → Bool
has_room s t = nat_eq s.level 0 || (nat_le 4 (place_weight (Expr s) (shape_of t) (outlines (children t))) || leaves_bare t)

-- it is to be lifted out here
abbrev pub is_lifted : Seat → Tree → Bool
is_lifted s t = not s.lifted && (reaches_sequence t && has_room s t)

-- the parts but the last of the sequence that it is, or of the one that it reaches
abbrev pub parts_before : Tree → Trees
parts_before (node h xs n none) = none
parts_before (node h xs n (a ▸ ts)) = if is_sequence_shape h then but_last (children a) else parts_before a

-- and what is left without them
abbrev pub left_of : Tree → Tree
left_of (node h xs n none) = node h xs n none
left_of (node h xs n (a ▸ ts)) = if is_sequence_shape h then last_of (children a) else node h xs n (left_of a ▸ ts)

-- `a, b && c` of `(a, b) && c`
abbrev pub lifted : Tree → Tree
lifted t = sequence (append (parts_before t) (left_of t ▸ none))

-- ---- 21

-- one of them does
abbrev pub any_of : (Tree → Bool) → Trees → Bool
any_of f none = false
any_of f (t ▸ ts) = f t || any_of f ts

-- a sequence that stands in a sequence
abbrev pub is_nested : Tree → Bool
is_nested t = is_sequence t && any_of is_several (children (part t 0))

-- the parts with those of the sequence at this place in its stead
abbrev pub spread_at : ℕ → Trees → Trees
spread_at i ts = append (append (first_children i ts) (children (part (first_or_absent (rest_children i ts)) 0))) (without (rest_children i ts) 0)

-- ---- 21, of parts that have no effect

abbrev pub is_idle : Tree → Bool
is_idle t = is_effect_free t && (leaves_nothing t && weighs t)

-- of two the last one may stand alone
abbrev pub is_left : Seat → Trees → Bool
is_left s ts = nat_eq (count ts) 2 && (takes_alone s && (is_idle (child_or_absent ts 0) && stays_alone s (child_or_absent ts 1)))

-- a part of a sequence goes, and is not the last, where there are three or more
abbrev pub loses_part : Seat → Tree → Bool
loses_part s t = is_sequence t && (if nat_le 3 (count (children (part t 0))) then idle_before_last is_idle (children (part t 0)) else is_left s (children (part t 0)))

-- ---- all

-- what the rule makes
abbrev pub Gives : Position → Tree → Tree → Type 0
Gives = SequenceContracts

-- no row reads it as anything
abbrev pub Rests : Position → Tree → Type 0
Rests p n = (w : Tree) → SequenceRow p n w → ⊥
