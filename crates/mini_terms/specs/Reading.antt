-- Expressions that are read by their value alone, whatever is asked of them.
use Rattle.std.specs.Prelude.{◌≡◌, Bool, true, false, not, ◌&&◌, ◌||◌, List, [], ◌∷◌, is_none}
use Rattle.mini_model.specs.declared.name.Name.{Name}
use Rattle.mini_model.specs.declared.operator.UnaryOperator.TheVariants.{LogicalNot}
use Rattle.mini_model.specs.declared.place.Position.TheVariants.{Expr}
use Rattle.mini_model.specs.declared.seat.Guard.{Guard}
use Rattle.mini_model.specs.declared.seat.Guard.TheVariants as guard
use Rattle.mini_model.specs.declared.seat.Seat.{Seat}
use Rattle.mini_model.specs.declared.shape.Shape.{Shape}
use Rattle.mini_model.specs.declared.shape.Shape.TheVariants as shape
use Rattle.mini_model.specs.Tree.{Tree, Trees, node, none, ◌▸◌, shape_of}
use Rattle.mini_node.specs.Children.{names_of}
use Rattle.mini_laws.specs.Value.{Value, VariableSet}
use Rattle.mini_laws.specs.State.{Item, State, Completion, ok, stop, out, either, Environment}
use Rattle.mini_laws.specs.Demand.{Want, Val, Demand, As, Callee, OfType, Deleted, AnEntry, AValue, Request, Reply, plain_call}
use Rattle.mini_laws.specs.Step.{means}
use Rattle.mini_laws.specs.Same.{Same}
use Rattle.mini_laws.specs.Rows.{SameAt}
use Rattle.mini_laws.specs.Truth.{told}

-- no name, member or chain, which a callee, `delete` and `typeof` read by reference, and no item of
-- a list alone
abbrev pub stands_by : Shape → Bool
stands_by (shape.NumericLiteral n) = true
stands_by (shape.StringLiteral s) = true
stands_by (shape.BooleanLiteral b) = true
stands_by shape.NullLiteral = true
stands_by (shape.RegExpLiteral pattern flags) = true
stands_by shape.ThisExpression = true
stands_by shape.ArrayExpression = true
stands_by shape.ObjectExpression = true
stands_by (shape.UnaryExpression o) = true
stands_by (shape.UpdateExpression o is_prefix) = true
stands_by (shape.BinaryExpression o) = true
stands_by shape.PrivateInExpression = true
stands_by (shape.LogicalExpression o) = true
stands_by (shape.AssignmentExpression o) = true
stands_by shape.ConditionalExpression = true
stands_by shape.SequenceExpression = true
stands_by (shape.CallExpression is_optional) = true
stands_by shape.SuperCallExpression = true
stands_by shape.NewExpression = true
stands_by (shape.YieldExpression is_delegate) = true
stands_by shape.TemplateLiteral = true
stands_by shape.TaggedTemplateExpression = true
stands_by (shape.MetaProperty k) = true
stands_by shape.ImportExpression = true
stands_by (shape.ArrowFunctionExpression directives) = true
stands_by _ = false

abbrev pub stands : Tree → Bool
stands (node h xs n ts) = stands_by h

-- what is replied where the value is this
unfoldable pub by_value : (q : Demand) (r : Request q) → Completion Value → Completion (Reply q r)
by_value (As w) r x = told w x
by_value Callee r x = either x (λ v z. ok (plain_call v) z) (λ y z. stop y z)
by_value OfType r x = x
by_value Deleted r x = either x (λ v z. ok (AValue v) z) (λ y z. stop y z)
by_value AnEntry r x = either x (λ v z. ok (Item v) z) (λ y z. stop y z)
by_value q r x = out

abbrev pub ReadByValue : Type 0
ReadByValue = (n : Tree) → stands n ≡ true → (e : Environment) (q : Demand) (r : Request q) (s : State) → means e n q r s ≡ by_value q r (means e n (As Val) tt s)

-- so what is the same by its value is the same in any demand
abbrev pub SameByValue : Type 0
SameByValue = (e : Environment) (D X : VariableSet) (n w : Tree) → stands n ≡ true → stands w ≡ true → Same e D X (As Val) n w → (q : Demand) → Same e D X q n w

-- an expression that may be an item of a list, as an argument
abbrev pub is_item_by : Shape → Bool
is_item_by shape.Identifier = true
is_item_by (shape.StaticMemberExpression is_optional) = true
is_item_by (shape.ComputedMemberExpression is_optional) = true
is_item_by (shape.PrivateFieldExpression is_optional) = true
is_item_by shape.SuperStaticMemberExpression = true
is_item_by shape.SuperComputedMemberExpression = true
is_item_by (shape.Function false is_generator directives) = true
is_item_by (shape.Class false) = true
is_item_by (shape.BigIntLiteral n) = true
is_item_by shape.ChainExpression = true
is_item_by h = stands_by h

abbrev pub is_item : Tree → Bool
is_item (node h xs n ts) = is_item_by h

-- what is the same by its value is the same as an item
abbrev pub SameItem : Type 0
SameItem = (e : Environment) (D X : VariableSet) (n w : Tree) → is_item n ≡ true → is_item w ≡ true → Same e D X (As Val) n w → Same e D X AnEntry n w

-- a name that a scope declares
abbrev pub is_declared : List Name → Bool
is_declared (x ∷ []) = not (is_none x.symbol)
is_declared _ = false

-- an expression that `typeof` reads by its value: of names those that a scope declares, since
-- another may be absent
abbrev pub is_typed_by : Shape → List Name → Bool
is_typed_by shape.Identifier xs = is_declared xs
is_typed_by h xs = is_item_by h

abbrev pub is_typed_by_value : Tree → Bool
is_typed_by_value t = is_typed_by (shape_of t) (names_of t)

abbrev pub TypedByValue : Type 0
TypedByValue = (n : Tree) → is_typed_by_value n ≡ true → (e : Environment) (s : State) → means e n OfType tt s ≡ means e n (As Val) tt s

-- Expressions of which a parent reads no more than that they are there

-- by whether the first child is one: a link of a chain is read through, and so is the operand of a
-- `!`
abbrev pub is_plain_part_by : Shape → Bool → Bool
is_plain_part_by (shape.CallExpression is_optional) b = not is_optional && b
is_plain_part_by (shape.StaticMemberExpression is_optional) b = not is_optional && b
is_plain_part_by (shape.ComputedMemberExpression is_optional) b = not is_optional && b
is_plain_part_by (shape.PrivateFieldExpression is_optional) b = false
is_plain_part_by (shape.UnaryExpression LogicalNot) b = b
is_plain_part_by h b = is_item_by h

abbrev pub first_of : List Bool → Bool
first_of [] = false
first_of (b ∷ bs) = b

abbrev mutual
  pub is_plain_part : Tree → Bool
  is_plain_part (node h xs n ts) = is_plain_part_by h (first_of (are_plain_parts ts))

  pub are_plain_parts : Trees → List Bool
  are_plain_parts none = []
  are_plain_parts (t ▸ ts) = is_plain_part t ∷ are_plain_parts ts

-- what is asked for the reference that it is: as a callee, or under `typeof` or `delete`
abbrev pub is_unguarded : Guard → Bool
is_unguarded guard.None = true
is_unguarded g = false

-- in this seat no reference is asked, or the expression is none
abbrev pub is_read_by_value : Seat → Tree → Bool
is_read_by_value s t = is_unguarded s.guard && is_item t || stands t

-- the same as a value, a truth or nothing
abbrev pub SameWanted : Tree → Tree → Type 0
SameWanted n w = (e : Environment) (D X : VariableSet) (u : Want) → Same e D X (As u) n w

-- so it is the same in the seat
abbrev pub SameInSeat : Type 0
SameInSeat = (s : Seat) (n w : Tree) → stands n ≡ true → is_read_by_value s w ≡ true → SameWanted n w → SameAt (Expr s) n w
