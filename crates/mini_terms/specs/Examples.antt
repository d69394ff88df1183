-- Terms of small expressions, computed: each was worked out by hand from the table.
use Rattle.std.specs.Prelude.{◌≡◌, refl, true, false, [], Some, None, codes, pos, negsuc}
use Rattle.std.specs.Fmt.{digits}
use Rattle.mini_model.specs.declared.operator.AssignmentOperator.TheVariants as assignment
use Rattle.mini_model.specs.declared.operator.BinaryOperator.TheVariants as binary
use Rattle.mini_model.specs.declared.operator.LogicalOperator.TheVariants.{Or, And}
use Rattle.mini_model.specs.declared.operator.UnaryOperator.TheVariants as unary
use Rattle.mini_model.specs.declared.shape.Shape.TheVariants as shape
use Rattle.mini_model.specs.Tree.{none, ◌▸◌, leaf, absent, listed, logical, conditional, negation}
use Rattle.mini_model.specs.Tree as tree
use Rattle.mini_laws.specs.Value.{Undefined, Null, Boolean, Number, String}
use Rattle.mini_laws.specs.Samples.{one, two, global, local, number, text, null, binary, assign, called, member, sequence, template, function}
use Rattle.mini_terms.specs.Kind.{kind, IsUndefined, IsNull, IsNumber, IsString, IsObject, Undetermined}
use Rattle.mini_terms.specs.Effects.{ef}
use Rattle.mini_terms.specs.Const.{const}
use Rattle.mini_terms.specs.Truth.{truth_of}
use Rattle.mini_terms.specs.Evident.{evident_truth}
use Rattle.mini_terms.specs.Calculated.{calculated}
use Rattle.mini_terms.specs.Plain.{lit, plain, void_zero}

-- Kind

-- `typeof f()`
kind_typeof : kind (tree.unary unary.Typeof (called (local 0))) ≡ IsString
kind_typeof = refl

-- `x + ""`
kind_joined : kind (binary binary.Addition (local 0) (text [])) ≡ IsString
kind_joined = refl

-- `1 + !x`, and `1 + x`
kind_sum : kind (binary binary.Addition (number 1) (negation (local 0))) ≡ IsNumber
kind_sum = refl

kind_open_sum : kind (binary binary.Addition (number 1) (local 0)) ≡ Undetermined
kind_open_sum = refl

-- `x - 1`, and `x - y`, which may be BigInts
kind_difference : kind (binary binary.Subtraction (local 0) (number 1)) ≡ IsNumber
kind_difference = refl

kind_open_difference : kind (binary binary.Subtraction (local 0) (local 1)) ≡ Undetermined
kind_open_difference = refl

-- `-x`, `+x`
kind_minus : kind (tree.unary unary.UnaryNegation (local 0)) ≡ Undetermined
kind_minus = refl

kind_plus : kind (tree.unary unary.UnaryPlus (local 0)) ≡ IsNumber
kind_plus = refl

-- `x ? 1 : 2`, `x ? 1 : ""`
kind_common : kind (conditional (local 0) (number 1) (number 2)) ≡ IsNumber
kind_common = refl

kind_uncommon : kind (conditional (local 0) (number 1) (text [])) ≡ Undetermined
kind_uncommon = refl

-- `x = (y, null)`
kind_assigned : kind (assign assignment.Assign (local 0) (sequence (local 1 ▸ null ▸ none))) ≡ IsNull
kind_assigned = refl

-- `undefined`, of no scope and of one
kind_undefined : kind (global (codes "undefined")) ≡ IsUndefined
kind_undefined = refl

kind_function : kind (function false 1 absent) ≡ IsObject
kind_function = refl

-- EF

-- `x`, of a scope and of none
ef_resolved : ef false (local 0) ≡ true
ef_resolved = refl

ef_global : ef false (global (codes "g")) ≡ false
ef_global = refl

ef_nan : ef false (global (codes "NaN")) ≡ true
ef_nan = refl

-- `typeof g`
ef_typeof : ef false (tree.unary unary.Typeof (global (codes "g"))) ≡ true
ef_typeof = refl

-- `x + 1`, and `!x + 1`
ef_sum : ef false (binary binary.Addition (local 0) (number 1)) ≡ false
ef_sum = refl

ef_truth_sum : ef false (binary binary.Addition (negation (local 0)) (number 1)) ≡ true
ef_truth_sum = refl

-- `x == null`, `x == 1`, `x === y`
ef_null : ef false (binary binary.Equality (local 0) null) ≡ true
ef_null = refl

ef_loose : ef false (binary binary.Equality (local 0) (number 1)) ≡ false
ef_loose = refl

ef_strict : ef false (binary binary.StrictEquality (local 0) (local 1)) ≡ true
ef_strict = refl

-- `f()`, `x.y`, a function
ef_call : ef false (called (local 0)) ≡ false
ef_call = refl

ef_member : ef false (member (local 0) (codes "y")) ≡ false
ef_member = refl

ef_function : ef false (function false 1 absent) ≡ false
ef_function = refl

-- `this`, and in a constructor of a class with `superClass`
ef_this : ef false (leaf shape.ThisExpression) ≡ true
ef_this = refl

ef_asked_this : ef true (leaf shape.ThisExpression) ≡ false
ef_asked_this = refl

-- a template over `!x`, and over `x`
ef_template : ef false (template (codes "a") (negation (local 0)) (codes "b")) ≡ true
ef_template = refl

ef_open_template : ef false (template (codes "a") (local 0) (codes "b")) ≡ false
ef_open_template = refl

-- `(x, y)`, `(f(), y)`
ef_sequence : ef false (sequence (local 0 ▸ local 1 ▸ none)) ≡ true
ef_sequence = refl

ef_call_sequence : ef false (sequence (called (local 0) ▸ local 1 ▸ none)) ≡ false
ef_call_sequence = refl

-- Const

-- `1 + 2`
const_sum : const (binary binary.Addition (number 1) (number 2)) ≡ Some (Number (pos 3))
const_sum = refl

-- `"a" + 1`
const_joined : const (binary binary.Addition (text (codes "a")) (number 1)) ≡ Some (String (codes "a1"))
unfolding digits
const_joined = refl

-- `1 / 2` is not whole
const_half : const (binary binary.Division (number 1) (number 2)) ≡ None
const_half = refl

-- `-0`
const_minus_zero : const (tree.unary unary.UnaryNegation (number 0)) ≡ None
const_minus_zero = refl

-- `void f()`: it says nothing of effects
const_void : const (tree.unary unary.Void (called (local 0))) ≡ Some Undefined
const_void = refl

-- `(f(), 1)`
const_sequence : const (sequence (called (local 0) ▸ number 1 ▸ none)) ≡ Some (Number (pos 1))
const_sequence = refl

-- `"abc".length`
const_length : const (member (text (codes "abc")) (codes "length")) ≡ Some (Number (pos 3))
const_length = refl

-- `typeof 1`, `typeof x`
const_typeof : const (tree.unary unary.Typeof (number 1)) ≡ Some (String (codes "number"))
const_typeof = refl

const_open_typeof : const (tree.unary unary.Typeof (local 0)) ≡ None
const_open_typeof = refl

-- a template over 1
const_template : const (template (codes "a") (number 1) (codes "b")) ≡ Some (String (codes "a1b"))
unfolding digits
const_template = refl

-- `null == undefined`, `1 ? "a" : "b"`, `0 || null`
const_equal : const (binary binary.Equality null (global (codes "undefined"))) ≡ Some (Boolean true)
const_equal = refl

const_conditional : const (conditional (number 1) (text (codes "a")) (text (codes "b"))) ≡ Some (String (codes "a"))
const_conditional = refl

const_or : const (logical Or (number 0) null) ≡ Some Null
const_or = refl

-- `0 && x` is no Const: not all its parts are
const_half_known : const (logical And (number 0) (local 0)) ≡ None
const_half_known = refl

-- Truth

truth_zero : truth_of (number 0) ≡ Some false
truth_zero = refl

truth_text : truth_of (text (codes "0")) ≡ Some true
truth_text = refl

truth_function : truth_of (function false 1 absent) ≡ Some true
truth_function = refl

truth_array : truth_of (one shape.ArrayExpression (listed none)) ≡ Some true
truth_array = refl

truth_void : truth_of (tree.unary unary.Void (called (local 0))) ≡ Some false
truth_void = refl

truth_name : truth_of (local 0) ≡ None
truth_name = refl

-- what is evident

-- `!0`, `!!""`, `void f()`, `undefined`
evident_not : evident_truth (negation (number 0)) ≡ Some true
evident_not = refl

evident_twice : evident_truth (negation (negation (text []))) ≡ Some false
evident_twice = refl

evident_void : evident_truth (tree.unary unary.Void (called (local 0))) ≡ Some false
evident_void = refl

evident_undefined : evident_truth (global (codes "undefined")) ≡ Some false
evident_undefined = refl

-- `!1 || "a"`, `0 && x`, which is no Const either, `1 << 30` and `1 - 1`, which are calculated, and
-- `typeof 1`
evident_or : evident_truth (logical Or (negation (number 1)) (text (codes "a"))) ≡ Some true
evident_or = refl

evident_half_known : evident_truth (logical And (number 0) (local 0)) ≡ None
evident_half_known = refl

evident_shift : evident_truth (binary binary.ShiftLeft (number 1) (number 30)) ≡ Some true
evident_shift = refl

evident_difference : evident_truth (binary binary.Subtraction (number 1) (number 1)) ≡ Some false
evident_difference = refl

evident_type : evident_truth (tree.unary unary.Typeof (number 0)) ≡ Some true
evident_type = refl

-- `"" + 1`, `"" + ""`, `"1" << 30`, and `"1" < "2"`, whose units aren't looked at
evident_text : evident_truth (binary binary.Addition (text []) (number 1)) ≡ Some true
evident_text = refl

evident_empty : evident_truth (binary binary.Addition (text []) (text [])) ≡ Some false
evident_empty = refl

evident_number : evident_truth (binary binary.ShiftLeft (text (codes "1")) (number 30)) ≡ Some true
evident_number = refl

evident_order : evident_truth (binary binary.LessThan (text (codes "1")) (text (codes "2"))) ≡ None
evident_order = refl

-- `` `${1}` ``, `` `${""}` ``, and `` `${x}` ``
evident_template : evident_truth (template [] (number 1) []) ≡ Some true
evident_template = refl

evident_empty_template : evident_truth (template [] (text []) []) ≡ Some false
evident_empty_template = refl

evident_open_template : evident_truth (template (codes "a") (local 0) []) ≡ None
evident_open_template = refl

-- an array, and `![]`, whose operand is no primitive value
evident_array : evident_truth (one shape.ArrayExpression (listed none)) ≡ Some true
evident_array = refl

evident_not_array : evident_truth (negation (one shape.ArrayExpression (listed none))) ≡ None
evident_not_array = refl

-- Lit

lit_true : lit (Boolean true) ≡ Some (negation (number 0))
lit_true = refl

lit_false : lit (Boolean false) ≡ Some (negation (number 1))
lit_false = refl

lit_undefined : lit Undefined ≡ Some (tree.unary unary.Void (number 0))
lit_undefined = refl

lit_minus : lit (Number (negsuc 0)) ≡ Some (leaf (shape.NumericLiteral (negsuc 0)))
lit_minus = refl

lit_text : lit (String (codes "a")) ≡ Some (text (codes "a"))
lit_text = refl

-- What is calculated

-- `(1 << 20) - 1`, `!(1 << 20)`, `typeof -(1 << 20)`
calculated_mask : calculated (binary binary.Subtraction (binary binary.ShiftLeft (number 1) (number 20)) (number 1)) ≡ Some (Number (pos 1_048_575))
calculated_mask = refl

calculated_not : calculated (negation (binary binary.ShiftLeft (number 1) (number 20))) ≡ Some (Boolean false)
calculated_not = refl

calculated_type : calculated (tree.unary unary.Typeof (tree.unary unary.UnaryNegation (binary binary.ShiftLeft (number 1) (number 20)))) ≡ Some (String (codes "number"))
calculated_type = refl

-- `(1 / 3) - 1`, `(1 << x) - 1`, and a literal, which is no operator's
calculated_third : calculated (binary binary.Subtraction (binary binary.Division (number 1) (number 3)) (number 1)) ≡ None
calculated_third = refl

calculated_open : calculated (binary binary.Subtraction (binary binary.ShiftLeft (number 1) (local 0)) (number 1)) ≡ None
calculated_open = refl

calculated_literal : calculated (number 1) ≡ None
calculated_literal = refl

-- Plain

plain_minus : plain (leaf (shape.NumericLiteral (negsuc 0))) ≡ true
plain_minus = refl

plain_big : plain (leaf (shape.BigIntLiteral 1)) ≡ true
plain_big = refl

plain_regular : plain (leaf (shape.RegExpLiteral (codes "a") [])) ≡ false
plain_regular = refl

plain_void : plain void_zero ≡ true
plain_void = refl

-- `void 1`, `!0`
plain_void_one : plain (tree.unary unary.Void (number 1)) ≡ false
plain_void_one = refl

plain_not : plain (negation (number 0)) ≡ false
plain_not = refl

plain_template : plain (two shape.TemplateLiteral (listed (leaf (shape.TemplateElement true (codes "a") (Some (codes "a"))) ▸ none)) (listed none)) ≡ true
plain_template = refl

plain_open_template : plain (template (codes "a") (number 1) (codes "b")) ≡ false
plain_open_template = refl
