-- Terms that tell what an expression is, or what has to be written in its place.
use Rattle.std.specs.Prelude.{ℤ, pos, negsuc, nat_le, nat_lt, Bool, true, false, ◌&&◌, ◌||◌, List, [], ◌∷◌, is_some, not, if◌then◌else◌}
use Rattle.mini_model.specs.declared.name.Name.{Name}
use Rattle.mini_model.specs.declared.operator.BinaryOperator.{BinaryOperator}
use Rattle.mini_model.specs.declared.operator.BinaryOperator.TheVariants as binary
use Rattle.mini_model.specs.declared.operator.UnaryOperator.TheVariants.{Void, BitwiseNot}
use Rattle.mini_model.specs.declared.seat.Guard.{Guard}
use Rattle.mini_model.specs.declared.seat.Guard.TheVariants as guard
use Rattle.mini_model.specs.declared.shape.Shape.{Shape}
use Rattle.mini_model.specs.declared.shape.Shape.TheVariants as shape
use Rattle.mini_model.specs.Tree.{Tree, Trees, node, none, ◌▸◌, leaf}
use Rattle.mini_node.specs.Kinds.{sequence}
use Rattle.mini_laws.specs.Expressions.{first_kind}
use Rattle.mini_laws.specs.Naming.{NameKind, kinds}
use Rattle.mini_laws.specs.ScopeList.{is_eval}
use Rattle.mini_terms.specs.Kind.{Kind, is_number, is_undefined_name, each_kind, nth_kind}
use Rattle.mini_terms.specs.Plain.{is_zero, has_no_items}

-- ---- Int32: a whole number of 32 bits, with a sign or without

-- from -2^31 to 2^32 - 1
abbrev pub is_32 : ℤ → Bool
is_32 (pos n) = nat_le n 4_294_967_295
is_32 (negsuc n) = nat_lt n 2_147_483_648

-- the operators that make one of numbers (ECMA-262, "ToInt32" and "ToUint32")
abbrev pub makes_32 : BinaryOperator → Bool
makes_32 binary.BitwiseAnd = true
makes_32 binary.BitwiseXor = true
makes_32 binary.BitwiseOr = true
makes_32 binary.ShiftLeft = true
makes_32 binary.ShiftRight = true
makes_32 binary.ShiftRightZeroFill = true
makes_32 o = false

-- by the Kinds of the operands: beside a number a BigInt raises
abbrev pub int32_by : Shape → List Kind → Bool
int32_by (shape.NumericLiteral n) ks = is_32 n
int32_by (shape.UnaryExpression BitwiseNot) ks = is_number (nth_kind ks 0)
int32_by (shape.BinaryExpression o) ks = makes_32 o && (is_number (nth_kind ks 0) || is_number (nth_kind ks 1))
int32_by h ks = false

-- `~`, a bitwise or a shift operator with an operand that is a number, and whole literals in that
-- range
abbrev pub is_int32_or_uint32 : Tree → Bool
is_int32_or_uint32 (node h xs n ts) = int32_by h (each_kind ts)

-- ---- undefined, as it is written

-- `void` of these children, where it is `void 0`, and a template of these, where it has no
-- expressions
abbrev pub is_over_zero : Trees → Bool
is_over_zero (a ▸ none) = is_zero a
is_over_zero ts = false

abbrev pub is_text_alone : Trees → Bool
is_text_alone (quasis ▸ (expressions ▸ none)) = has_no_items expressions
is_text_alone ts = false

abbrev pub undefined_by : Shape → List NameKind → Trees → Bool
undefined_by (shape.UnaryExpression Void) xs ts = is_over_zero ts
undefined_by shape.Identifier xs ts = is_undefined_name (first_kind xs)
undefined_by h xs ts = false

-- `void 0`, or the name `undefined`, which no scope declares
abbrev pub is_expression_undefined : Tree → Bool
is_expression_undefined (node h xs n ts) = undefined_by h (kinds xs) ts

-- ---- what is read as a reference

-- a member, of `super` too, or a chain
abbrev pub is_access : Shape → Bool
is_access (shape.StaticMemberExpression is_optional) = true
is_access (shape.ComputedMemberExpression is_optional) = true
is_access (shape.PrivateFieldExpression is_optional) = true
is_access shape.SuperStaticMemberExpression = true
is_access shape.SuperComputedMemberExpression = true
is_access shape.ChainExpression = true
is_access h = false

abbrev pub is_unresolved : List Name → Bool
is_unresolved [] = false
is_unresolved (x ∷ xs) = not (is_some x.symbol)

abbrev pub is_name_by : Bool → Shape → Bool
is_name_by b shape.Identifier = b
is_name_by b h = false

-- a call of a member has its object as `this`, and a call of `eval` is a direct one; `delete`
-- deletes a member, and of a name it is false, or no program at all in strict code, where of a
-- value it is true; `typeof` of a name that no scope declares raises nothing (ECMA-262,
-- "EvaluateCall", "The delete Operator", "The typeof Operator")
abbrev pub asks_guard : Guard → Shape → List Name → Bool
asks_guard guard.None h xs = false
asks_guard guard.Callee h xs = is_access h || is_name_by (is_eval xs) h
asks_guard guard.Delete h xs = is_access h || is_name_by true h
asks_guard guard.Typeof h xs = is_name_by (is_unresolved xs) h

-- what comes in the place of what is read by its value would be read as a reference there
abbrev pub is_guarded : Guard → Tree → Bool
is_guarded g (node h xs n ts) = asks_guard g h xs

-- `0, a`
abbrev pub by_value : Tree → Tree
by_value a = sequence (leaf (shape.NumericLiteral (pos 0)) ▸ (a ▸ none))

-- what is written for a in the place of what is no member, no chain and no such name
abbrev pub kept_by_value : Guard → Tree → Tree
kept_by_value g a = if is_guarded g a then by_value a else a
