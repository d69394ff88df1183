-- Tests of what stands for undefined and null, which several rewrites ask.
use Rattle.std.specs.Prelude.{Bool, true, false, ◌&&◌, ◌||◌, List, [], ◌∷◌, Option, Some, None, is_none, codes, ℤ}
use Rattle.mini_model.specs.declared.name.Name.{Name}
use Rattle.mini_model.specs.declared.operator.UnaryOperator.{UnaryOperator}
use Rattle.mini_model.specs.declared.operator.UnaryOperator.TheVariants.{Void}
use Rattle.mini_model.specs.Tree.{Tree}
use Rattle.mini_model.specs.Weight.{same_text, is_zero_number}
use Rattle.mini_node.specs.Children.{part, names_of}
use Rattle.mini_node.specs.Kinds.{number, unary_operator, is_identifier, is_null}

abbrev pub is_zero_value : Option ℤ → Bool
is_zero_value (Some n) = is_zero_number n
is_zero_value None = false

abbrev pub is_zero : Tree → Bool
is_zero t = is_zero_value (number t)

abbrev pub is_void : Option UnaryOperator → Bool
is_void (Some Void) = true
is_void _ = false

-- `void 0`
abbrev pub is_void_zero : Tree → Bool
is_void_zero t = is_void (unary_operator t) && is_zero (part t 0)

-- the name `undefined`, which no scope declares
abbrev pub is_undefined_name : List Name → Bool
is_undefined_name (x ∷ []) = is_none x.symbol && same_text x.spelling (codes "undefined")
is_undefined_name _ = false

abbrev pub is_global_undefined : Tree → Bool
is_global_undefined t = is_identifier t && is_undefined_name (names_of t)

-- `undefined` or `void 0`
abbrev pub is_undefined : Tree → Bool
is_undefined t = is_void_zero t || is_global_undefined t

-- null and undefined, in one order or the other
abbrev pub are_nullish : Tree → Tree → Bool
are_nullish a b = (is_null a && is_undefined b) || (is_undefined a && is_null b)
