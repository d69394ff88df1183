-- The rewrites of spellings as one.
use Rattle.std.specs.Prelude.{◌≡◌, Option, Some, None}
use Rattle.mini_model.specs.declared.place.Position.{Position}
use Rattle.mini_model.specs.declared.place.Position.TheVariants.{Expr}
use Rattle.mini_model.specs.declared.seat.Seat.{Seat}
use Rattle.mini_model.specs.declared.shape.Shape.{Shape}
use Rattle.mini_model.specs.declared.shape.Shape.TheVariants as shape
use Rattle.mini_model.specs.Tree.{Tree, shape_of}
use Rattle.mini_rows.specs.Spellings.{SpellingRow, SpellingContracts}
use Rattle.mini_syntax.specs.Forms.{first_of}
use Rattle.mini_syntax.specs.SubstituteBoolean as boolean
use Rattle.mini_syntax.specs.ConvertToDottedProperties as dotted
use Rattle.mini_syntax.specs.MinimizeAssignmentToUpdateExpression as stepping
use Rattle.mini_syntax.specs.SubstituteLooseEqualsUndefined as loose
use Rattle.mini_syntax.specs.SubstituteSwapBinaryExpressions as swap
use Rattle.mini_syntax.specs.SubstituteTemplateLiteral as templates
use Rattle.mini_syntax.specs.SubstituteTypeofUndefined as typeof
use Rattle.mini_syntax.specs.SubstituteYieldExpression as yielding

-- of an assignment
abbrev pub assignment_written : Tree → Option Tree
assignment_written t = first_of (stepping.written t) (dotted.written t)

-- of an equality
abbrev pub equality_written : Tree → Option Tree
equality_written t = first_of (loose.written t) (swap.written t)

-- of binary expressions
abbrev pub binary_written : Tree → Option Tree
binary_written t = first_of (typeof.written t) (equality_written t)

abbrev pub written_by : Shape → Tree → Option Tree
written_by (shape.BooleanLiteral b) t = boolean.written t
written_by (shape.ComputedMemberExpression is_optional) t = dotted.written t
written_by (shape.AssignmentExpression o) t = assignment_written t
written_by (shape.UpdateExpression o is_prefix) t = dotted.written t
written_by (shape.BinaryExpression o) t = binary_written t
written_by (shape.YieldExpression is_delegate) t = yielding.written t
written_by shape.TemplateLiteral t = templates.written t
written_by _ t = None

-- what is written for an expression, where a row reads it
abbrev pub written : Tree → Option Tree
written t = written_by (shape_of t) t

-- what the rule makes
abbrev pub Gives : Position → Tree → Tree → Type 0
Gives = SpellingContracts

-- no row reads it as anything
abbrev pub Rests : Position → Tree → Type 0
Rests p n = (w : Tree) → SpellingRow p n w → ⊥

-- what is written is what a row says
abbrev pub WrittenIsRow : Type 0
WrittenIsRow = (s : Seat) (n w : Tree) → written n ≡ Some w → SpellingRow (Expr s) n w

-- and where nothing is written no row reads the expression
abbrev pub UnwrittenRests : Type 0
UnwrittenRests = (s : Seat) (n : Tree) → written n ≡ None → Rests (Expr s) n

-- where the rule rests no row contracts
abbrev pub RestsSettle : Type 0
RestsSettle = (p : Position) (n w : Tree) → Rests p n → SpellingContracts p n w → ⊥
