-- Terms of small expressions, computed: each was worked out by hand.
use Rattle.std.specs.Prelude.{◌≡◌, refl, true, false, [], Some, None, codes, pos}
use Rattle.mini_model.specs.declared.operator.BinaryOperator.TheVariants as binary
use Rattle.mini_model.specs.declared.operator.UnaryOperator.TheVariants as unary
use Rattle.mini_model.specs.declared.seat.Guard.TheVariants as guard
use Rattle.mini_model.specs.declared.shape.Shape.TheVariants as shape
use Rattle.mini_model.specs.Tree.{none, ◌▸◌, leaf, listed, negation}
use Rattle.mini_model.specs.Tree as tree
use Rattle.mini_laws.specs.Value.{Undefined, Number}
use Rattle.mini_laws.specs.Samples.{global, local, number, text, binary, called, sequence}
use Rattle.mini_terms.specs.Constant.{constant, constant_truth}
use Rattle.mini_terms.specs.Exact.{is_int32_or_uint32, is_expression_undefined, is_guarded, by_value, kept_by_value}
use Rattle.mini_terms.specs.Plain.{void_zero}

-- Int32

-- `x | 0`, and `x | y`, which may be BigInts
bits : is_int32_or_uint32 (binary binary.BitwiseOr (local 0) (number 0)) ≡ true
bits = refl

open_bits : is_int32_or_uint32 (binary binary.BitwiseOr (local 0) (local 1)) ≡ false
open_bits = refl

-- `~+x`, `~x`
whole : is_int32_or_uint32 (tree.unary unary.BitwiseNot (tree.unary unary.UnaryPlus (local 0))) ≡ true
whole = refl

open_whole : is_int32_or_uint32 (tree.unary unary.BitwiseNot (local 0)) ≡ false
open_whole = refl

-- `x >>> 1`, and a sum
unsigned : is_int32_or_uint32 (binary binary.ShiftRightZeroFill (local 0) (number 1)) ≡ true
unsigned = refl

sum : is_int32_or_uint32 (binary binary.Addition (number 1) (number 2)) ≡ false
sum = refl

-- 4294967295, and the number after it
last : is_int32_or_uint32 (number 4_294_967_295) ≡ true
last = refl

past : is_int32_or_uint32 (number 4_294_967_296) ≡ false
past = refl

-- Constants

-- `1 + 2`, `1 + x`
constant_sum : constant (binary binary.Addition (number 1) (number 2)) ≡ Some (Number (pos 3))
constant_sum = refl

open_sum : constant (binary binary.Addition (number 1) (local 0)) ≡ None
open_sum = refl

-- `f(), 1`: what it does besides is not asked
last_part : constant (sequence (called (local 0) ▸ number 1 ▸ none)) ≡ Some (Number (pos 1))
last_part = refl

-- `void f()`
void_call : constant (tree.unary unary.Void (called (local 0))) ≡ Some Undefined
void_call = refl

-- whether `"a"`, `[]`, `x` count as true
text_truth : constant_truth (text (codes "a")) ≡ Some true
text_truth = refl

empty_truth : constant_truth (text []) ≡ Some false
empty_truth = refl

list_truth : constant_truth (tree.node shape.ArrayExpression [] 0 (listed none ▸ none)) ≡ Some true
list_truth = refl

open_truth : constant_truth (local 0) ≡ None
open_truth = refl

-- undefined, as it is written

zero_undefined : is_expression_undefined void_zero ≡ true
zero_undefined = refl

name_undefined : is_expression_undefined (global (codes "undefined")) ≡ true
name_undefined = refl

-- `void 1`, and another name
one_undefined : is_expression_undefined (tree.unary unary.Void (number 1)) ≡ false
one_undefined = refl

other_undefined : is_expression_undefined (global (codes "a")) ≡ false
other_undefined = refl

-- References

-- `x` as a callee, and `eval`
callee_name : kept_by_value guard.Callee (local 0) ≡ local 0
callee_name = refl

callee_eval : kept_by_value guard.Callee (global (codes "eval")) ≡ by_value (global (codes "eval"))
callee_eval = refl

-- of `typeof` a name that no scope declares, and one that a scope does
typeof_name : is_guarded guard.Typeof (global (codes "a")) ≡ true
typeof_name = refl

typeof_local : is_guarded guard.Typeof (local 0) ≡ false
typeof_local = refl

-- a name under `delete`, as in `delete (p, q)`, and what is no reference there
delete_name : kept_by_value guard.Delete (local 0) ≡ by_value (local 0)
delete_name = refl

delete_number : is_guarded guard.Delete (number 1) ≡ false
delete_number = refl

-- `eval` in a statement
no_guard : is_guarded guard.None (global (codes "eval")) ≡ false
no_guard = refl
