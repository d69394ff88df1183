-- What the program's literals are as the definitions have them.
use Rattle.std.specs.Prelude.{ℕ, ◌-◌, nat_le, Option, Some, None, option_map, unwrap_or, if◌then◌else◌, ℤ, pos, negsuc}
use Rattle.serde_json.specs.Data.{Data}
use Rattle.mini_model.specs.Texts.{units_of}
use Rattle.mini_model.specs.declared.shape.Shape.{Shape}
use Rattle.mini_model.specs.declared.shape.Shape.TheVariants as shape
use Rattle.mini_accept.specs.WellShaped.{max_big_int}
use Rattle.mini_accept.specs.Literals.{digits_value, big_int}
use Rattle.mini_fields.specs.declared.literals.LiteralValue.{LiteralValue}
use Rattle.mini_fields.specs.declared.literals.LiteralValue.TheVariants as literal

-- a number that has 128 bits
abbrev pub capped : ℕ → Option ℕ
capped n = if nat_le n max_big_int then Some n else None

abbrev pub shape_of : LiteralValue → Shape
shape_of (literal.RegExp pattern flags) = shape.RegExpLiteral (units_of pattern.now) (units_of flags.now)
shape_of (literal.BigInt digits) = shape.BigIntLiteral (unwrap_or (digits_value digits.now) 0)
shape_of literal.Null = shape.NullLiteral
shape_of (literal.Boolean b) = shape.BooleanLiteral b
shape_of (literal.Numeric n) = shape.NumericLiteral (pos n)
shape_of (literal.String s) = shape.StringLiteral (units_of s.now)

abbrev pub big_int_shape : Data → Option Shape
big_int_shape d = option_map shape.BigIntLiteral (big_int d)

-- the number below 0 that stands so far from it
abbrev pub negative_literal : ℕ → ℤ
negative_literal n = negsuc (n - 1)
