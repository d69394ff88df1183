-- Rows of members of what keeps its value while a body runs, `this` or a name that is steady, as
-- equations: each is a shape and what is written in its place, with the JavaScript before and
-- after. V says what is known of the body in which the expression stands.
use Rattle.std.specs.Prelude.{◌≡◌, ◌⊎◌, ◌&&◌, ◌||◌, not, ℕ, List, Bool, true, false, nat_eq, Some}
use Rattle.mini_model.specs.declared.operator.AssignmentOperator.{AssignmentOperator}
use Rattle.mini_model.specs.declared.operator.AssignmentOperator.TheVariants.{Assign}
use Rattle.mini_model.specs.declared.operator.BinaryOperator.{BinaryOperator}
use Rattle.mini_model.specs.declared.operator.LogicalOperator.{LogicalOperator}
use Rattle.mini_model.specs.declared.operator.UnaryOperator.TheVariants.{LogicalNot, UnaryPlus, UnaryNegation, BitwiseNot, Void}
use Rattle.mini_model.specs.declared.seat.Seat.{Seat}
use Rattle.mini_model.specs.declared.shape.Shape.{Shape}
use Rattle.mini_model.specs.declared.shape.Shape.TheVariants as shape
use Rattle.mini_model.specs.Tree.{Tree, Trees, node, leaf, none, ◌▸◌, identifier, logical, conditional}
use Rattle.mini_model.specs.Paths.{append}
use Rattle.mini_model.specs.Position.{conditional_level}
use Rattle.mini_laws.specs.Value.{Declared}
use Rattle.mini_kept.specs.Without.{Assured}
use Rattle.mini_node.specs.Equal.{same_tree}
use Rattle.mini_node.specs.Kinds.{computed_member}
use Rattle.mini_rows.specs.Choices.{Key, member_on, computing, deciding, keeps_parentheses}
use Rattle.mini_rows.specs.Lists.{sequence}
use Rattle.mini_rows.specs.Past.{leaves}
use Rattle.mini_rows.specs.Spellings.{binary, assignment}
use Rattle.mini_rows.specs.Unused.{resolved, is_childless}

-- `this`
abbrev pub this : Tree
this = leaf shape.ThisExpression

-- what has members: `this`, or a name with a symbol
pub data Object : Type 0 where
  OfThis : Object
  OfName : List ℕ → ℕ → Object

abbrev pub object : Object → Tree
object OfThis = this
object (OfName spelling symbol) = identifier (resolved spelling symbol)

-- its value stays as it is, whatever the world does: the body has a `this` for which it doesn't ask
-- (ECMA-262, "ResolveThisBinding"), or no answer changes the name
abbrev pub is_kept : Assured → Object → Bool
is_kept V OfThis = V.has_this
is_kept V (OfName spelling symbol) = V.steady (Declared symbol)

-- and whatever this does: nothing writes `this`, and what neither declares nor writes a name leaves
-- it as it is (ECMA-262, "PutValue")
abbrev pub is_left : Object → Tree → Bool
is_left OfThis t = true
is_left (OfName spelling symbol) t = leaves t (resolved spelling symbol) symbol

abbrev pub are_left : Object → Trees → Bool
are_left of none = true
are_left of (t ▸ ts) = is_left of t && are_left of ts

-- 38: `x.k || (x.k = b)` becomes `x.k ||= b`, and so of `&&` and `??`, and of `this.k`: the object
-- is evaluated again after the property, whose getter may run any code
pub record Row38Member (V : Assured) (n w : Tree) : Type 0 where
  pub operator : LogicalOperator
  pub of : Object
  pub key : Key
  pub b : Tree
  pub kept : is_kept V of ≡ true
  pub shape : n ≡ logical operator (member_on (object of) key) (assignment Assign (member_on (object of) key) b)
  pub written : w ≡ assignment (deciding operator) (member_on (object of) key) b

-- 38: `x.k || (a, x.k = b)` becomes `x.k ||= (a, b)`, and so of `this.k`
pub record Row38MemberLast (V : Assured) (s : Seat) (n w : Tree) : Type 0 where
  pub operator : LogicalOperator
  pub of : Object
  pub key : Key
  pub first : Tree
  pub others : Trees
  pub b : Tree
  pub kept : is_kept V of ≡ true
  pub left : are_left of (first ▸ others) ≡ true
  pub seated : keeps_parentheses operator s ≡ true
  pub shape : n ≡ logical operator (member_on (object of) key) (sequence (first ▸ append others (assignment Assign (member_on (object of) key) b ▸ none)))
  pub written : w ≡ assignment (deciding operator) (member_on (object of) key) (sequence (first ▸ append others (b ▸ none)))

-- 35: `this.k = this.k + b` becomes `this.k += b`, and so of the other operators of numbers
pub record Row35This (V : Assured) (n w : Tree) : Type 0 where
  pub operator : BinaryOperator
  pub combined : AssignmentOperator
  pub key : Key
  pub b : Tree
  pub computes : computing operator ≡ Some combined
  pub kept : V.has_this ≡ true
  pub shape : n ≡ assignment Assign (member_on this key) (binary operator (member_on this key) b)
  pub written : w ≡ assignment combined (member_on this key) b

-- what evaluates its first part before all else, and leaves the model where that does; of a name
-- that is called by itself it isn't said
abbrev pub opens : Shape → Bool → Bool
opens (shape.UnaryExpression LogicalNot) is_leaf = true
opens (shape.UnaryExpression UnaryPlus) is_leaf = true
opens (shape.UnaryExpression UnaryNegation) is_leaf = true
opens (shape.UnaryExpression BitwiseNot) is_leaf = true
opens (shape.UnaryExpression Void) is_leaf = true
opens (shape.BinaryExpression o) is_leaf = true
opens (shape.LogicalExpression o) is_leaf = true
opens shape.ConditionalExpression is_leaf = true
opens (shape.CallExpression is_optional) is_leaf = not is_leaf
opens shape.NewExpression is_leaf = true
opens (shape.StaticMemberExpression is_optional) is_leaf = true
opens (shape.ComputedMemberExpression is_optional) is_leaf = true
opens shape.ChainExpression is_leaf = not is_leaf
opens h is_leaf = false

-- what is evaluated before all else in a tree is this leaf
abbrev mutual
  pub begins_at : Tree → Tree → Bool
  begins_at o (node h ys n none) = same_tree o (node h ys n none)
  begins_at o (node h ys n (t ▸ ts)) = begins_in o h (t ▸ ts)

  pub begins_in : Tree → Shape → Trees → Bool
  begins_in o h none = false
  begins_in o h (t ▸ ts) = opens h (is_childless t) && begins_at o t

-- the object may be evaluated before this, whatever it does: it is `this`, or a name that is left,
-- and that has a value there, or is read first in it, so that it has one if anything is done
abbrev pub is_ready : Assured → Object → Tree → Bool
is_ready V OfThis t = true
is_ready V (OfName spelling symbol) t = (V.initial (Declared symbol) || begins_at (identifier (resolved spelling symbol)) t) && leaves t (resolved spelling symbol) symbol

-- a key that is written out, or in brackets what keeps its value, too
pub data Index : Type 0 where
  Written : Key → Index
  Held : Object → Index

-- `t.k`, or `t[i]`
abbrev pub member_at : Tree → Index → Tree
member_at t (Written key) = member_on t key
member_at t (Held of) = computed_member t (object of)

abbrev pub is_kept_index : Assured → Index → Bool
is_kept_index V (Written key) = true
is_kept_index V (Held of) = is_kept V of

-- it is evaluated right after the object, and is made a property key where the member is written
-- (ECMA-262, "PutValue")
abbrev pub is_ready_index : Assured → Index → Tree → Bool
is_ready_index V (Written key) t = true
is_ready_index V (Held of) t = is_ready V of t

-- 45: `a ? this.k = b : this.k = c` becomes `this.k = a ? b : c`, whatever a does; and so of x.k,
-- where x has a value: in a function with the parameter x `a() ? x.k = b : x.k = c` becomes
-- `x.k = a() ? b : c`; or where a reads x first: `x.a ? x.k = b : x.k = c` becomes
-- `x.k = x.a ? b : c`. And so of x[i] and this[i]
pub record Row45Kept (V : Assured) (s : Seat) (n w : Tree) : Type 0 where
  pub a : Tree
  pub of : Object
  pub index : Index
  pub b : Tree
  pub c : Tree
  pub kept : is_kept V of ≡ true
  pub held : is_kept_index V index ≡ true
  pub ready : is_ready V of a ≡ true
  pub soon : is_ready_index V index a ≡ true
  pub seated : nat_eq s.level conditional_level ≡ false
  pub shape : n ≡ conditional a (assignment Assign (member_at (object of) index) b) (assignment Assign (member_at (object of) index) c)
  pub written : w ≡ assignment Assign (member_at (object of) index) (conditional a b c)

-- a row reads n as w in this seat
abbrev pub MemberRow : Assured → Seat → Tree → Tree → Type 0
MemberRow V s n w = Row38Member V n w ⊎ (Row38MemberLast V s n w ⊎ (Row35This V n w ⊎ Row45Kept V s n w))
