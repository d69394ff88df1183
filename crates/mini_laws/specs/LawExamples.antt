-- The two exceptions of the weight's law on parts, worked out: each grows by as much as the law
-- allows.
use Rattle.std.specs.Prelude.{◌≡◌, refl, ◌+◌, false, [], codes, pos}
use Rattle.mini_model.specs.declared.operator.BinaryOperator.TheVariants.{StrictEquality}
use Rattle.mini_model.specs.declared.operator.UnaryOperator.TheVariants.{Void}
use Rattle.mini_model.specs.declared.seat.StmtSeat.TheVariants as stmt_seat
use Rattle.mini_model.specs.declared.shape.Shape.TheVariants as shape
use Rattle.mini_model.specs.Tree.{Tree, none, ◌▸◌, unresolved, leaf, absent, identifier, call, expression_statement, if_else, if_alone}
use Rattle.mini_model.specs.declared.place.Position.{Position}
use Rattle.mini_model.specs.declared.place.Position.TheVariants.{Expr, Stmt}
use Rattle.mini_model.specs.Position.{whole_seat}
use Rattle.mini_model.specs.Weight.{weight}
use Rattle.mini_laws.specs.Path.{Path, here, inside, plug, position_at}
use Rattle.mini_laws.specs.Weights.{own_above, growth}

abbrev a : Tree
a = identifier (unresolved (codes "a"))

abbrev b : Tree
b = identifier (unresolved (codes "b"))

abbrev c : Tree
c = identifier (unresolved (codes "c"))

abbrev d : Tree
d = identifier (unresolved (codes "d"))

-- `x();`
abbrev called : Tree → Tree
called x = expression_statement (call false x none)

-- in `if (a) { .. }`
abbrev item : Position
item = Stmt stmt_seat.List

abbrev in_block : Path
in_block = inside shape.IfStatement [] 0 (a ▸ none) (inside shape.BlockStatement [] 0 none (inside shape.Listed [] 0 none here none) none) (absent ▸ none)

-- `if (b) c(); else d();` there, and `c();`: the braces count after
abbrev choice : Tree
choice = if_else b (called c) (called d)

weight_of_choice : own_above in_block choice item ≡ 14
weight_of_choice = refl

weight_of_no_choice : own_above in_block (called c) item ≡ 18
weight_of_no_choice = refl

growth_of_braces : growth in_block choice (called c) item ≡ 4
growth_of_braces = refl

-- so the whole falls by 4 less than the part does
part_falls : weight (position_at in_block item) choice ≡ weight (position_at in_block item) (called c) + 36
part_falls = refl

whole_falls : weight item (plug in_block choice) ≡ weight item (plug in_block (called c)) + 32
whole_falls = refl

-- an `if` without `else` has its braces counted before
growth_without_else : growth in_block (if_alone b (called c)) (called c) item ≡ 0
growth_without_else = refl

-- in `void .. === b`
abbrev value : Position
value = Expr whole_seat

abbrev in_void : Path
in_void = inside (shape.BinaryExpression StrictEquality) [] 0 none (inside (shape.UnaryExpression Void) [] 0 none here none) (b ▸ none)

abbrev zero_literal : Tree
zero_literal = leaf (shape.NumericLiteral (pos 0))

-- a there, and 0: `void 0` would rather stand on the right
weight_of_operand : own_above in_void a value ≡ 16
weight_of_operand = refl

weight_of_plain_operand : own_above in_void zero_literal value ≡ 17
weight_of_plain_operand = refl

growth_of_operand : growth in_void a zero_literal value ≡ 1
growth_of_operand = refl

-- another operand grows by nothing
growth_of_other : growth in_void zero_literal a value ≡ 0
growth_of_other = refl
