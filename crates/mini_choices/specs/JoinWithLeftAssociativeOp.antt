-- `join_with_left_associative_op`: `a || b` of an a and a b that may be of `||` itself, with
-- nothing of `||` on the right of one, and so of `&&` and `??`.
use Rattle.std.specs.Prelude.{◌≡◌, refl, true, false, if◌then◌else◌}
use Rattle.mini_model.specs.declared.operator.LogicalOperator.{LogicalOperator}
use Rattle.mini_model.specs.declared.operator.LogicalOperator.TheVariants.{Or, And}
use Rattle.mini_model.specs.declared.place.Position.TheVariants.{Expr}
use Rattle.mini_model.specs.declared.seat.Seat.{Seat}
use Rattle.mini_model.specs.Tree.{Tree, Trees, node, none, ◌▸◌, absent, empty_statement, logical}
use Rattle.mini_node.specs.Children.{part}
use Rattle.mini_node.specs.Kinds.{is_logical}
use Rattle.mini_laws.specs.Rows.{SameAt}

-- the operands that the operator joins in the second, after the first, one at a time
abbrev mutual
  pub joined_left : LogicalOperator → Tree → Tree → Tree
  joined_left o a (node h xs n ts) = if is_logical o (node h xs n ts) then each_joined_left o a ts else logical o a (node h xs n ts)

  pub each_joined_left : LogicalOperator → Tree → Trees → Tree
  each_joined_left o a none = a
  each_joined_left o a (t ▸ ts) = each_joined_left o (joined_left o a t) ts

-- it means what the operator over the two does, in every seat
abbrev pub JoinedSame : Type 0
JoinedSame = (s : Seat) (o : LogicalOperator) (a b : Tree) → SameAt (Expr s) (logical o a b) (joined_left o a b)

-- it is of the operator, and its right operand is not
abbrev pub JoinedToTheLeft : Type 0
JoinedToTheLeft = (o : LogicalOperator) (a b : Tree) → (is_logical o (joined_left o a b) ≡ true) × (is_logical o (part (joined_left o a b) 1) ≡ false)

-- ---- examples

abbrev x : Tree
x = absent

abbrev y : Tree
y = empty_statement

-- of a and `b || (c || d)` it is `((a || b) || c) || d`
or_or : joined_left Or x (logical Or y (logical Or x y)) ≡ logical Or (logical Or (logical Or x y) x) y
or_or = refl

-- of a and `b && c` it is `a || (b && c)`
or_and : joined_left Or x (logical And y x) ≡ logical Or x (logical And y x)
or_and = refl
