-- The values that are calculated.
use Rattle.std.specs.Prelude.{ℤ, Bool, true, false, Option, Some, None}
use Rattle.mini_laws.specs.Value.{Value, Undefined, Null, Boolean, Number, String}
use Rattle.mini_terms.specs.declared.values.ConstantValue.{ConstantValue}
use Rattle.mini_terms.specs.declared.values.ConstantValue.TheVariants as constant

abbrev pub value : ConstantValue → Value
value constant.Undefined = Undefined
value constant.Null = Null
value (constant.Boolean b) = Boolean b
value (constant.Number n) = Number n
value (constant.String s) = String s

abbrev pub value_in : Option ConstantValue → Option Value
value_in (Some c) = Some (value c)
value_in None = None

abbrev pub number_in : Option ℤ → Option Value
number_in (Some n) = Some (Number n)
number_in None = None

abbrev pub is_text_value : Value → Bool
is_text_value (String s) = true
is_text_value v = false
