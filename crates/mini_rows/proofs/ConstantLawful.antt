-- What a row on a constant writes keeps all that a program has to keep.
use Rattle.std.proofs.Common.{◌≡◌, ℕ, suc, Bool, true, false, List, [], ◌∷◌, Option, Some, None, refl, sym, ap, subst, ◌∙◌, zero, true≢false, ltb-true, arith}
use Rattle.std.specs.Prelude.{not, ◌&&◌, ◌||◌, ◌++◌, ℤ, pos, negsuc, nat_abs, nat_eq, nat_le, nat_lt, ◌-◌, ◌*◌, ◌/◌, ◌%◌, ◌^◌, ◌≤◌, ◌+ℤ◌, ◌-ℤ◌}
use Rattle.std.specs.Char.Utf16.{utf16_chars}
use Rattle.std.proofs.Math.Nat.{div-le_self}
use Rattle.std.proofs.lemmas.Bool.{and_parts, le-leb}
use Rattle.mini_model.specs.Numerals.{max_safe_integer}
use Rattle.mini_model.specs.declared.name.Name.{Name}
use Rattle.mini_model.specs.declared.operator.BinaryOperator.{BinaryOperator}
use Rattle.mini_model.specs.declared.operator.BinaryOperator.TheVariants as binary_operator
use Rattle.mini_model.specs.declared.operator.LogicalOperator.{LogicalOperator}
use Rattle.mini_model.specs.declared.operator.LogicalOperator.TheVariants.{Or, And, Coalesce}
use Rattle.mini_model.specs.declared.operator.UnaryOperator.{UnaryOperator}
use Rattle.mini_model.specs.declared.operator.UnaryOperator.TheVariants as unary_operator
use Rattle.mini_model.specs.declared.place.Position.TheVariants.{Expr}
use Rattle.mini_model.specs.declared.seat.Seat.{Seat}
use Rattle.mini_model.specs.declared.shape.Shape.{Shape}
use Rattle.mini_model.specs.declared.shape.Shape.TheVariants as shape
use Rattle.mini_model.specs.Tree.{Tree, Trees, node, none, ◌▸◌, count, children, leaf, is_absent, shape_of, unary, logical}
use Rattle.mini_accept.specs.WellShaped.{Depth, in_module, in_body, nested, refused, Class, a_statement, a_key, a_private_or_key, an_inner_key, an_init, an_arrow_body, an_expression, a_link, an_argument, a_default_export, Slot, one, one_or_absent, is_safe, is_paired, has_names, has_its_number, has_plain_fields, has_its_parts, is_whole, class_of, is_function_body, spelling, has_optional, filling, is_strict_in, fits, fill, each}
use Rattle.mini_node.specs.Children.{part}
use Rattle.mini_node.specs.Kinds.{binary, sequence}
use Rattle.mini_laws.specs.Value.{Value, Undefined, Null, Boolean, Number, String, Symbol, Object, choose, truth, is_nullish}
use Rattle.mini_laws.specs.Conversion.{Made, makes, raises, outside, both, text_of_boolean, to_text, to_number, signed}
use Rattle.mini_laws.specs.Conversion as conversion
use Rattle.mini_laws.specs.Expressions.{first_kind}
use Rattle.mini_laws.specs.Naming.{kinds}
use Rattle.mini_laws.specs.Operators.{number, of_numbers, by_numbers, of_primitives, loosely_equal, strictly_equal, is_text_less, safe_number, differ, is_negative, is_odd, small_exponent, quotient, remainder, power, modulo_32, two_to, signed_32, shifted_right, joined, of_number, type_text}
use Rattle.mini_kept.specs.KeepsShapes.{AskedAlike, is_default}
use Rattle.mini_kept.proofs.Bools.{left}
use Rattle.mini_kept.proofs.Expressions.{refused_here, expression, TakesExpressionIn, TakesExpression, expression_taken}
use Rattle.mini_kept.proofs.Expressions as kept_expressions
use Rattle.mini_terms.specs.Const.{text_of, made, mapped, decided, binary_value, binary_const, logical_const, conditional_const}
use Rattle.mini_terms.specs.Calculated.{undefined_if, leaf_value, as_number, over_number, calculated_unary, calculated_numbers, unary_value, last_value, value_within, operand_depth, operand_value, free_value, calculated}
use Rattle.mini_terms.specs.Parts.{leaves_nothing}
use Rattle.mini_terms.specs.Plain.{lit, void_zero}
use Rattle.mini_terms.specs.Kind.{is_undefined_name}
use Rattle.mini_terms.specs.Templates.{template, text_between, text_value}
use Rattle.mini_terms.proofs.Calculated.{Form, of_unary, of_binary, Choice, of_logical, of_conditional, of_sequence, of_template, within, calculated_is}
use Rattle.mini_terms.proofs.Joined.{text_is}
use Rattle.mini_rows.specs.Arranged.{KeptAt, Vanishes}
use Rattle.mini_rows.specs.Sketches.{Null as NullHead, Number as NumberHead, String as StringHead, Unary, Binary, part as hole, under, end, ◌▹◌, Free}
use Rattle.mini_rows.specs.Constants.{RowConstant}
use Rattle.mini_rows.proofs.ArrangedExpressions.{expressions_arranged_freely}
use Rattle.mini_rows.proofs.ConstantMeaning.{nothing}
use Rattle.mini_rows.proofs.FoldLawful.{vanishes, first_dropped, no_number}
use Rattle.mini_rows.proofs.FoldWeights.{not_a_number}
use Rattle.mini_rows.proofs.ListShapes.{AllFit, first_fits}
use Rattle.mini_rows.proofs.Surrogates.{is_paired_joined, numeral_paired}
use Rattle.mini_rows.proofs.TemplateFits.{template_made, text_paired as pieces_paired}

-- ---- all of it goes, and a literal is made

abbrev pub both_dropped : Free
both_dropped = record { moved = []; lists_moved = []; dropped = 0 ∷ 1 ∷ [] }

module _ (q : Seat) (n w : Tree) (o : UnaryOperator) (a : Tree) (is : n ≡ unary o a) (goes : Vanishes a) where
  unary_kept : (v : Value) → lit v ≡ Some w → KeptAt (Expr q) n w
  unary_kept Undefined e = expressions_arranged_freely first_dropped (record { trees = a ▸ none; lists = [] }) (tt, tt, (goes, tt)) (under (Unary o) (hole 0 ▹ end)) (under (Unary unary_operator.Void) (under (NumberHead (pos 0)) end ▹ end)) refl q n w is (cc e)
  unary_kept Null e = expressions_arranged_freely first_dropped (record { trees = a ▸ none; lists = [] }) (tt, tt, (goes, tt)) (under (Unary o) (hole 0 ▹ end)) (under NullHead end) refl q n w is (cc e)
  unary_kept (Boolean true) e = expressions_arranged_freely first_dropped (record { trees = a ▸ none; lists = [] }) (tt, tt, (goes, tt)) (under (Unary o) (hole 0 ▹ end)) (under (Unary unary_operator.LogicalNot) (under (NumberHead (pos 0)) end ▹ end)) refl q n w is (cc e)
  unary_kept (Boolean false) e = expressions_arranged_freely first_dropped (record { trees = a ▸ none; lists = [] }) (tt, tt, (goes, tt)) (under (Unary o) (hole 0 ▹ end)) (under (Unary unary_operator.LogicalNot) (under (NumberHead (pos 1)) end ▹ end)) refl q n w is (cc e)
  unary_kept (Number m) e = expressions_arranged_freely first_dropped (record { trees = a ▸ none; lists = [] }) (tt, tt, (goes, tt)) (under (Unary o) (hole 0 ▹ end)) (under (NumberHead m) end) refl q n w is (cc e)
  unary_kept (String s) e = expressions_arranged_freely first_dropped (record { trees = a ▸ none; lists = [] }) (tt, tt, (goes, tt)) (under (Unary o) (hole 0 ▹ end)) (under (StringHead s) end) refl q n w is (cc e)
  unary_kept v e = nothing e

module _ (q : Seat) (n w : Tree) (o : BinaryOperator) (a b : Tree) (is : n ≡ binary o a b) (goes : Vanishes a) (rest : Vanishes b) where
  binary_kept : (v : Value) → lit v ≡ Some w → KeptAt (Expr q) n w
  binary_kept Undefined e = expressions_arranged_freely both_dropped (record { trees = a ▸ b ▸ none; lists = [] }) (tt, tt, (goes, (rest, tt))) (under (Binary o) (hole 0 ▹ hole 1 ▹ end)) (under (Unary unary_operator.Void) (under (NumberHead (pos 0)) end ▹ end)) refl q n w is (cc e)
  binary_kept Null e = expressions_arranged_freely both_dropped (record { trees = a ▸ b ▸ none; lists = [] }) (tt, tt, (goes, (rest, tt))) (under (Binary o) (hole 0 ▹ hole 1 ▹ end)) (under NullHead end) refl q n w is (cc e)
  binary_kept (Boolean true) e = expressions_arranged_freely both_dropped (record { trees = a ▸ b ▸ none; lists = [] }) (tt, tt, (goes, (rest, tt))) (under (Binary o) (hole 0 ▹ hole 1 ▹ end)) (under (Unary unary_operator.LogicalNot) (under (NumberHead (pos 0)) end ▹ end)) refl q n w is (cc e)
  binary_kept (Boolean false) e = expressions_arranged_freely both_dropped (record { trees = a ▸ b ▸ none; lists = [] }) (tt, tt, (goes, (rest, tt))) (under (Binary o) (hole 0 ▹ hole 1 ▹ end)) (under (Unary unary_operator.LogicalNot) (under (NumberHead (pos 1)) end ▹ end)) refl q n w is (cc e)
  binary_kept (Number m) e = expressions_arranged_freely both_dropped (record { trees = a ▸ b ▸ none; lists = [] }) (tt, tt, (goes, (rest, tt))) (under (Binary o) (hole 0 ▹ hole 1 ▹ end)) (under (NumberHead m) end) refl q n w is (cc e)
  binary_kept (String s) e = expressions_arranged_freely both_dropped (record { trees = a ▸ b ▸ none; lists = [] }) (tt, tt, (goes, (rest, tt))) (under (Binary o) (hole 0 ▹ hole 1 ▹ end)) (under (StringHead s) end) refl q n w is (cc e)
  binary_kept v e = nothing e

operand_goes : (o : UnaryOperator) (a : Tree) → leaves_nothing (unary o a) ≡ true → Vanishes a
operand_goes o a e = vanishes a (and_parts (leaves_nothing a) true e).0

operands_go : (o : BinaryOperator) (a b : Tree) → leaves_nothing (binary o a b) ≡ true → Vanishes a × Vanishes b
operands_go o a b e = let (first, rest) = and_parts (leaves_nothing a) (leaves_nothing b && true) e in (vanishes a first, vanishes b (and_parts (leaves_nothing b) true rest).0)

pub constant_kept : (q : Seat) (n w : Tree) → RowConstant q n w → KeptAt (Expr q) n w
constant_kept q n w r = go (calculated_is n r.value r.known).made_of
  where
    go : Form true free_value n r.value → KeptAt (Expr q) n w
    go (of_unary o is e) = unary_kept q n w o (part n 0) is (operand_goes o (part n 0) (subst (λ x. leaves_nothing x ≡ true) is r.dropped)) r.value r.literal
    go (of_binary o is e) =
        let (first, second) = operands_go o (part n 0) (part n 1) (subst (λ x. leaves_nothing x ≡ true) is r.dropped) in
        binary_kept q n w o (part n 0) (part n 1) is first second r.value r.literal

-- ---- what can be written

-- a value whose literal may stand in a program
abbrev is_written : Value → Bool
is_written (Number n) = is_safe n
is_written (String s) = is_paired s
is_written v = true

whole : (c : Class) (h : Shape) (xs : List Name) (n : ℕ) (ts : Trees) → is_whole c h xs n ts ≡ true → has_plain_fields h ≡ true
whole c h xs n ts e =
    let (names, rest) = and_parts (has_names h xs) (has_its_number c h n && (has_plain_fields h && has_its_parts c h ts)) e in
    let (number, others) = and_parts (has_its_number c h n) (has_plain_fields h && has_its_parts c h ts) rest in
    (and_parts (has_plain_fields h) (has_its_parts c h ts) others).0

pub plain_fields : (strict : Bool) (s : Slot) (h : Shape) (xs : List Name) (n : ℕ) (ts : Trees) → fits strict s (node h xs n ts) ≡ true → has_plain_fields h ≡ true
plain_fields strict s h xs n ts e = whole (class_of s) h xs n ts (and_parts (is_whole (class_of s) h xs n ts) (fill (is_strict_in strict h) (filling strict s h) ts) e).0

undefined_written : (b : Bool) (v : Value) → undefined_if b ≡ Some v → is_written v ≡ true
undefined_written true v e = subst (λ x. is_written x ≡ true) {x = Undefined} {y = v} (cc e) refl
undefined_written false v e = nothing e

leaf_written : (strict : Bool) (t : Tree) (v : Value) → leaf_value t ≡ Some v → fits strict expression t ≡ true → is_written v ≡ true
leaf_written strict (node shape.Identifier xs n ts) v e f = undefined_written (is_undefined_name (first_kind (kinds xs))) v e
leaf_written strict (node (shape.NumericLiteral m) xs n ts) v e f = subst (λ x. is_written x ≡ true) {x = Number m} {y = v} (cc e) (plain_fields strict expression (shape.NumericLiteral m) xs n ts f)
leaf_written strict (node (shape.StringLiteral s) xs n ts) v e f = subst (λ x. is_written x ≡ true) {x = String s} {y = v} (cc e) (plain_fields strict expression (shape.StringLiteral s) xs n ts f)
leaf_written strict (node (shape.BooleanLiteral b) xs n ts) v e f = subst (λ x. is_written x ≡ true) {x = Boolean b} {y = v} (cc e) refl
leaf_written strict (node shape.NullLiteral xs n ts) v e f = subst (λ x. is_written x ≡ true) {x = Null} {y = v} (cc e) refl
leaf_written strict t v e f = nothing e

-- numbers

safe_is : (n : ℤ) → conversion.is_safe n ≡ true → is_safe n ≡ true
safe_is (pos n) e = le-leb n max_safe_integer (omega (arith, ltb-true n 9_007_199_254_740_992 e))
safe_is (negsuc n) e = le-leb (suc n) max_safe_integer (omega (arith, ltb-true (suc n) 9_007_199_254_740_992 e))

abbrev pub Written : Value → Type 0
Written v = is_written v ≡ true

written_by : (u v : Value) → Some u ≡ Some v → Written u → Written v
written_by u v e h = subst Written {x = u} {y = v} (cc e) h

safe_written : (n : ℤ) (v : Value) → made (safe_number n) ≡ Some v → Written v
safe_written n v e = go (conversion.is_safe n) refl e
  where
    go : (b : Bool) → conversion.is_safe n ≡ b → made (choose b (makes (Number n)) outside) ≡ Some v → Written v
    go true h e = written_by (Number n) v e (safe_is n h)
    go false h e = nothing e

from_safe : (n : ℤ) (v : Value) → made (number (conversion.safe n)) ≡ Some v → Written v
from_safe n v e = go (conversion.is_safe n) refl e
  where
    go : (b : Bool) → conversion.is_safe n ≡ b → made (number (choose b (makes n) outside)) ≡ Some v → Written v
    go true h e = written_by (Number n) v e (safe_is n h)
    go false h e = nothing e

signed_written : (minus : Bool) (n : ℕ) (v : Value) → made (number (signed minus n)) ≡ Some v → Written v
signed_written true zero v e = nothing e
signed_written true (suc n) v e = from_safe (negsuc n) v e
signed_written false n v e = from_safe (pos n) v e

chosen_written : (b minus : Bool) (n : ℕ) (v : Value) → made (choose b (number (signed minus n)) outside) ≡ Some v → Written v
chosen_written true minus n v e = signed_written minus n v e
chosen_written false minus n v e = nothing e

quotient_written : (x y : ℤ) (v : Value) → made (quotient x y) ≡ Some v → Written v
quotient_written x (pos zero) v e = nothing e
quotient_written x (pos (suc n)) v e = chosen_written (nat_eq (nat_abs x % suc n) 0) (differ (is_negative x) false) (nat_abs x / suc n) v e
quotient_written x (negsuc n) v e = chosen_written (nat_eq (nat_abs x % suc n) 0) (differ (is_negative x) true) (nat_abs x / suc n) v e

remainder_written : (x y : ℤ) (v : Value) → made (remainder x y) ≡ Some v → Written v
remainder_written x (pos zero) v e = nothing e
remainder_written x (pos (suc n)) v e = signed_written (is_negative x) (nat_abs x % suc n) v e
remainder_written x (negsuc n) v e = signed_written (is_negative x) (nat_abs x % suc n) v e

power_written : (x y : ℤ) (v : Value) → made (power x y) ≡ Some v → Written v
power_written x (pos n) v e = chosen_written (nat_le (nat_abs x) 1 || nat_lt n 54) (is_negative x && is_odd n) (nat_abs x ^ small_exponent n) v e
power_written x (negsuc n) v e = chosen_written (nat_eq (nat_abs x) 1) (is_negative x && is_odd (suc n)) 1 v e

safe_to : (n : ℕ) → n ≤ 4_294_967_296 → nat_le n max_safe_integer ≡ true
safe_to n h = le-leb n max_safe_integer (omega (arith, h))

signed_32_written : (n : ℕ) (v : Value) → made (signed_32 n) ≡ Some v → Written v
signed_32_written n v e = go (nat_lt n 2_147_483_648) refl e
  where
    go : (b : Bool) → nat_lt n 2_147_483_648 ≡ b → made (choose b (makes (Number (pos n))) (makes (Number (negsuc (4_294_967_295 - n))))) ≡ Some v → Written v
    go true h e = written_by (Number (pos n)) v e (safe_to n (omega (arith, ltb-true n 2_147_483_648 h)))
    go false h e = written_by (Number (negsuc (4_294_967_295 - n))) v e (safe_to (suc (4_294_967_295 - n)) (omega arith))

modulo_small : (x : ℤ) → modulo_32 x ≤ 4_294_967_295
modulo_small (pos n) = omega arith
modulo_small (negsuc n) = omega arith

shifted_written : (n k : ℕ) (v : Value) → made (shifted_right n k) ≡ Some v → Written v
shifted_written n k v e = go (nat_lt n 2_147_483_648) refl e
  where
    go : (b : Bool) → nat_lt n 2_147_483_648 ≡ b → made (choose b (makes (Number (pos (n / k)))) (makes (Number (negsuc ((4_294_967_295 - n) / k))))) ≡ Some v → Written v
    go true h e = written_by (Number (pos (n / k))) v e (safe_to (n / k) (omega (arith, ltb-true n 2_147_483_648 h, div-le_self n k)))
    go false h e = written_by (Number (negsuc ((4_294_967_295 - n) / k))) v e (safe_to (suc ((4_294_967_295 - n) / k)) (omega (arith, div-le_self (4_294_967_295 - n) k)))

filled_written : (x y : ℤ) (v : Value) → Some (Number (pos (modulo_32 x / two_to y))) ≡ Some v → Written v
filled_written x y v e = written_by (Number (pos (modulo_32 x / two_to y))) v e (safe_to (modulo_32 x / two_to y) (omega (arith, modulo_small x, div-le_self (modulo_32 x) (two_to y))))

pub numbers_written : (o : BinaryOperator) (x y : ℤ) (v : Value) → calculated_numbers o x y ≡ Some v → Written v
numbers_written binary_operator.Addition x y v e = safe_written (x +ℤ y) v e
numbers_written binary_operator.Subtraction x y v e = safe_written (x -ℤ y) v e
numbers_written binary_operator.Multiplication x y v e = signed_written (differ (is_negative x) (is_negative y)) (nat_abs x * nat_abs y) v e
numbers_written binary_operator.Division x y v e = quotient_written x y v e
numbers_written binary_operator.Remainder x y v e = remainder_written x y v e
numbers_written binary_operator.Exponential x y v e = power_written x y v e
numbers_written binary_operator.BitwiseAnd x y v e = signed_32_written _ v e
numbers_written binary_operator.BitwiseOr x y v e = signed_32_written _ v e
numbers_written binary_operator.BitwiseXor x y v e = signed_32_written _ v e
numbers_written binary_operator.ShiftLeft x y v e = signed_32_written (modulo_32 x * two_to y % 4_294_967_296) v e
numbers_written binary_operator.ShiftRight x y v e = shifted_written (modulo_32 x) (two_to y) v e
numbers_written binary_operator.ShiftRightZeroFill x y v e = filled_written x y v e
numbers_written binary_operator.LessThan x y v e = written_by _ v e refl
numbers_written binary_operator.GreaterThan x y v e = written_by _ v e refl
numbers_written binary_operator.LessEqualThan x y v e = written_by _ v e refl
numbers_written binary_operator.GreaterEqualThan x y v e = written_by _ v e refl
numbers_written binary_operator.Equality x y v e = written_by _ v e refl
numbers_written binary_operator.Inequality x y v e = written_by _ v e refl
numbers_written binary_operator.StrictEquality x y v e = written_by _ v e refl
numbers_written binary_operator.StrictInequality x y v e = written_by _ v e refl
numbers_written o x y v e = nothing e

boolean_paired : (b : Bool) → is_paired (text_of_boolean b) ≡ true
unfolding utf16_chars
boolean_paired true = refl
boolean_paired false = refl

abbrev pub Paired : Made (List ℕ) → Type 0
Paired (makes s) = is_paired s ≡ true
Paired r = Unit {0}

pub text_paired : (u : Value) → Written u → Paired (to_text u)
unfolding utf16_chars
text_paired Undefined h = refl
text_paired Null h = refl
text_paired (Boolean b) h = boolean_paired b
text_paired (Number n) h = numeral_paired n
text_paired (String s) h = h
text_paired (Symbol n) h = tt
text_paired (Object n f) h = tt

joined_written : (c d : Made (List ℕ)) (v : Value) → made (joined c d) ≡ Some v → Paired c → Paired d → Written v
joined_written (makes s) (makes t) v e h k = written_by (String (s ++ t)) v e (is_paired_joined s t h k)
joined_written (makes s) raises v e h k = nothing e
joined_written (makes s) outside v e h k = nothing e
joined_written raises d v e h k = nothing e
joined_written outside d v e h k = nothing e

-- but for equality
of_numbers_written : (o : BinaryOperator) (x y : ℤ) (v : Value) → made (of_numbers o x y) ≡ Some v → Written v
of_numbers_written binary_operator.Equality x y v e = nothing e
of_numbers_written binary_operator.Inequality x y v e = nothing e
of_numbers_written binary_operator.StrictEquality x y v e = nothing e
of_numbers_written binary_operator.StrictInequality x y v e = nothing e
of_numbers_written o x y v e = numbers_written o x y v e

both_written : (o : BinaryOperator) (m n : Made ℤ) (v : Value) → made (both m n (of_numbers o)) ≡ Some v → Written v
both_written o (makes x) (makes y) v e = of_numbers_written o x y v e
both_written o (makes x) raises v e = nothing e
both_written o (makes x) outside v e = nothing e
both_written o raises n v e = nothing e
both_written o outside n v e = nothing e

by_numbers_written : (o : BinaryOperator) (x y v : Value) → made (by_numbers o x y) ≡ Some v → Written v
by_numbers_written o x y v e = both_written o (to_number x) (to_number y) v e

mapped_written : (f : Bool → Bool) (m : Option Bool) (v : Value) → mapped f m ≡ Some v → Written v
mapped_written f (Some b) v e = written_by (Boolean (f b)) v e refl
mapped_written f None v e = nothing e

added_written : (x y v : Value) → made (of_primitives binary_operator.Addition x y) ≡ Some v → Written x → Written y → Written v
added_written (String s) y v e h k = joined_written (makes s) (to_text y) v e h (text_paired y k)
added_written x (String t) v e h k = joined_written (to_text x) (makes t) v e (text_paired x h) k
added_written x y v e h k = by_numbers_written binary_operator.Addition x y v e

ordered_written : (o : BinaryOperator) (x y v : Value) → made (of_primitives o x y) ≡ Some v → (o ≡ binary_operator.Addition → ⊥) → Written v
ordered_written binary_operator.Addition x y v e h = absurd (h refl)
ordered_written binary_operator.LessThan (String s) (String t) v e h = written_by (Boolean (is_text_less s t)) v e refl
ordered_written binary_operator.GreaterThan (String s) (String t) v e h = written_by (Boolean (is_text_less t s)) v e refl
ordered_written binary_operator.LessEqualThan (String s) (String t) v e h = written_by (Boolean (not (is_text_less t s))) v e refl
ordered_written binary_operator.GreaterEqualThan (String s) (String t) v e h = written_by (Boolean (not (is_text_less s t))) v e refl
ordered_written o x y v e h = by_numbers_written o x y v e

pub binary_written : (o : BinaryOperator) (x y v : Value) → binary_value o x y ≡ Some v → Written x → Written y → Written v
binary_written binary_operator.Equality x y v e h k = mapped_written (λ c. c) (loosely_equal x y) v e
binary_written binary_operator.Inequality x y v e h k = mapped_written not (loosely_equal x y) v e
binary_written binary_operator.StrictEquality x y v e h k = written_by (Boolean (strictly_equal x y)) v e refl
binary_written binary_operator.StrictInequality x y v e h k = written_by (Boolean (not (strictly_equal x y))) v e refl
binary_written binary_operator.In x y v e h k = nothing e
binary_written binary_operator.Instanceof x y v e h k = nothing e
binary_written binary_operator.Addition x y v e h k = added_written x y v e h k
binary_written o x y v e h k = ordered_written o x y v e (λ q. cc)

type_written : (u v : Value) → Some (String (type_text u)) ≡ Some v → Written v
unfolding utf16_chars
type_written Undefined v e = written_by (String (type_text Undefined)) v e refl
type_written Null v e = written_by (String (type_text Null)) v e refl
type_written (Boolean b) v e = written_by (String (type_text (Boolean b))) v e refl
type_written (Number n) v e = written_by (String (type_text (Number n))) v e refl
type_written (String s) v e = written_by (String (type_text (String s))) v e refl
type_written (Symbol n) v e = written_by (String (type_text (Symbol n))) v e refl
type_written (Object n true) v e = written_by (String (type_text (Object n true))) v e refl
type_written (Object n false) v e = written_by (String (type_text (Object n false))) v e refl

of_number_written : (o : UnaryOperator) (n : ℤ) (v : Value) → conversion.is_safe n ≡ true → made (of_number o n) ≡ Some v → Written v
of_number_written unary_operator.UnaryPlus n v h e = written_by (Number n) v e (safe_is n h)
of_number_written unary_operator.UnaryNegation (pos zero) v h e = nothing e
of_number_written unary_operator.UnaryNegation (pos (suc n)) v h e = written_by (Number (negsuc n)) v e (safe_is (negsuc n) h)
of_number_written unary_operator.UnaryNegation (negsuc n) v h e = written_by (Number (pos (suc n))) v e (safe_is (pos (suc n)) h)
of_number_written unary_operator.BitwiseNot n v h e = signed_32_written (4_294_967_295 - modulo_32 n) v e
of_number_written o n v h e = nothing e

over_number_written : (o : UnaryOperator) (c : Option ℤ) (v : Value) → over_number o c ≡ Some v → Written v
over_number_written o (Some n) v e = go (conversion.is_safe n) refl e
  where
    go : (b : Bool) → conversion.is_safe n ≡ b → choose b (made (of_number o n)) None ≡ Some v → Written v
    go true h e = of_number_written o n v h e
    go false h e = nothing e
over_number_written o None v e = nothing e

unary_written : (o : UnaryOperator) (u v : Value) → calculated_unary o u ≡ Some v → Written v
unary_written unary_operator.Void u v e = written_by Undefined v e refl
unary_written unary_operator.LogicalNot u v e = written_by _ v e refl
unary_written unary_operator.Typeof u v e = type_written u v e
unary_written o u v e = over_number_written o (as_number u) v e

-- ---- where they stand

one_part : (w b : Bool) → w && (b && true) ≡ true → b ≡ true
one_part w b e = (and_parts b true (and_parts w (b && true) e).1).0

two_parts : (w b c : Bool) → w && (b && (c && true)) ≡ true → (b ≡ true) × (c ≡ true)
two_parts w b c e = let (first, rest) = and_parts b (c && true) (and_parts w (b && (c && true)) e).1 in (first, (and_parts c true rest).0)

module _ (strict : Bool) (o : UnaryOperator) (a : Tree) where
  abbrev over_one : Shape
  over_one = shape.UnaryExpression o

  unary_nowhere : (s : Bool) (d : Depth) → filling s (one (a_statement d)) over_one ≡ refused
  unary_nowhere true in_module = refl
  unary_nowhere true in_body = refl
  unary_nowhere true nested = refl
  unary_nowhere false in_module = refl
  unary_nowhere false in_body = refl
  unary_nowhere false nested = refl

  abbrev OneTaken : Class → Type 0
  OneTaken k = TakesExpressionIn k × (fits strict expression a ≡ true)

  unary_in : (k : Class) → fits strict (one k) (unary o a) ≡ true → OneTaken k
  unary_in an_expression e = (tt, one_part (is_whole an_expression over_one [] 0 (a ▸ none)) (fits strict expression a) e)
  unary_in a_link e = (tt, one_part (is_whole a_link over_one [] 0 (a ▸ none)) (fits strict expression a) e)
  unary_in an_argument e = (tt, one_part (is_whole an_argument over_one [] 0 (a ▸ none)) (fits strict expression a) e)
  unary_in an_init e = (tt, one_part (is_whole an_init over_one [] 0 (a ▸ none)) (fits strict expression a) e)
  unary_in (a_key true) e = (tt, one_part (is_whole (a_key true) over_one [] 0 (a ▸ none)) (fits strict expression a) e)
  unary_in an_arrow_body e = (tt, one_part (is_whole an_arrow_body over_one [] 0 (a ▸ none)) (fits strict expression a) e)
  unary_in a_default_export e = (tt, one_part (is_whole a_default_export over_one [] 0 (a ▸ none)) (fits strict expression a) e)
  unary_in (a_statement d) e = absurd (refused_here strict (one (a_statement d)) over_one [] 0 (a ▸ none) (unary_nowhere strict d) e)
  unary_in (a_private_or_key true) e = absurd (refused_here strict (one (a_private_or_key true)) over_one [] 0 (a ▸ none) refl e)
  unary_in (a_private_or_key false) e = absurd (refused_here strict (one (a_private_or_key false)) over_one [] 0 (a ▸ none) refl e)
  unary_in (an_inner_key true) e = absurd (refused_here strict (one (an_inner_key true)) over_one [] 0 (a ▸ none) refl e)
  unary_in (an_inner_key false) e = absurd (refused_here strict (one (an_inner_key false)) over_one [] 0 (a ▸ none) refl e)
  unary_in k e = absurd (refused_here strict (one k) over_one [] 0 (a ▸ none) refl e)

  pub unary_at : (s : Slot) → fits strict s (unary o a) ≡ true → TakesExpression s × (fits strict expression a ≡ true)
  unary_at (one k) e = unary_in k e
  unary_at (one_or_absent k) e = unary_in k e
  unary_at s e = absurd (refused_here strict s over_one [] 0 (a ▸ none) refl e)

module _ (strict : Bool) (o : BinaryOperator) (a b : Tree) where
  abbrev over_two : Shape
  over_two = shape.BinaryExpression o

  binary_nowhere : (s : Bool) (d : Depth) → filling s (one (a_statement d)) over_two ≡ refused
  binary_nowhere true in_module = refl
  binary_nowhere true in_body = refl
  binary_nowhere true nested = refl
  binary_nowhere false in_module = refl
  binary_nowhere false in_body = refl
  binary_nowhere false nested = refl

  abbrev BothFit : Type 0
  BothFit = (fits strict expression a ≡ true) × (fits strict expression b ≡ true)

  binary_in : (k : Class) → fits strict (one k) (binary o a b) ≡ true → TakesExpressionIn k × BothFit
  binary_in an_expression e = (tt, two_parts (is_whole an_expression over_two [] 0 (a ▸ b ▸ none)) (fits strict expression a) (fits strict expression b) e)
  binary_in a_link e = (tt, two_parts (is_whole a_link over_two [] 0 (a ▸ b ▸ none)) (fits strict expression a) (fits strict expression b) e)
  binary_in an_argument e = (tt, two_parts (is_whole an_argument over_two [] 0 (a ▸ b ▸ none)) (fits strict expression a) (fits strict expression b) e)
  binary_in an_init e = (tt, two_parts (is_whole an_init over_two [] 0 (a ▸ b ▸ none)) (fits strict expression a) (fits strict expression b) e)
  binary_in (a_key true) e = (tt, two_parts (is_whole (a_key true) over_two [] 0 (a ▸ b ▸ none)) (fits strict expression a) (fits strict expression b) e)
  binary_in an_arrow_body e = (tt, two_parts (is_whole an_arrow_body over_two [] 0 (a ▸ b ▸ none)) (fits strict expression a) (fits strict expression b) e)
  binary_in a_default_export e = (tt, two_parts (is_whole a_default_export over_two [] 0 (a ▸ b ▸ none)) (fits strict expression a) (fits strict expression b) e)
  binary_in (a_statement d) e = absurd (refused_here strict (one (a_statement d)) over_two [] 0 (a ▸ b ▸ none) (binary_nowhere strict d) e)
  binary_in (a_private_or_key true) e = absurd (refused_here strict (one (a_private_or_key true)) over_two [] 0 (a ▸ b ▸ none) refl e)
  binary_in (a_private_or_key false) e = absurd (refused_here strict (one (a_private_or_key false)) over_two [] 0 (a ▸ b ▸ none) refl e)
  binary_in (an_inner_key true) e = absurd (refused_here strict (one (an_inner_key true)) over_two [] 0 (a ▸ b ▸ none) refl e)
  binary_in (an_inner_key false) e = absurd (refused_here strict (one (an_inner_key false)) over_two [] 0 (a ▸ b ▸ none) refl e)
  binary_in k e = absurd (refused_here strict (one k) over_two [] 0 (a ▸ b ▸ none) refl e)

  pub binary_at : (s : Slot) → fits strict s (binary o a b) ≡ true → TakesExpression s × BothFit
  binary_at (one k) e = binary_in k e
  binary_at (one_or_absent k) e = binary_in k e
  binary_at s e = absurd (refused_here strict s over_two [] 0 (a ▸ b ▸ none) refl e)

-- ---- what is written for them

module _ (strict : Bool) where
  -- the literal of its value may stand in a program, where the expression does
  abbrev WrittenOf : Tree → Value → Type 0
  WrittenOf t v = fits strict expression t ≡ true → Written v

  by_operand : (is_free : Bool) (o : UnaryOperator) (v : Value) (c : Option Value) → unary_value is_free o c ≡ Some v → Written v
  by_operand true unary_operator.Void v c e = written_by Undefined v e refl
  by_operand true o v (Some u) e = unary_written o u v e
  by_operand true o v None e = nothing e
  by_operand false o v (Some u) e = unary_written o u v e
  by_operand false o v None e = nothing e

  abbrev WrittenIn : Option Value → Type 0
  WrittenIn c = (u : Value) → c ≡ Some u → Written u

  by_operands : (o : BinaryOperator) (v : Value) (c d : Option Value) → WrittenIn c → WrittenIn d → binary_const o c d ≡ Some v → Written v
  by_operands o v (Some x) (Some y) h k e = binary_written o x y v e (h x refl) (k y refl)
  by_operands o v (Some x) None h k e = nothing e
  by_operands o v None d h k e = nothing e

  chosen_of : (b : Bool) (x y : Value) → Written x → Written y → Written (choose b x y)
  chosen_of true x y h k = h
  chosen_of false x y h k = k

  decided_of : (o : LogicalOperator) (x y : Value) → Written x → Written y → Written (decided o x y)
  decided_of And x y h k = chosen_of (truth x) y x k h
  decided_of Or x y h k = chosen_of (truth x) x y h k
  decided_of Coalesce x y h k = chosen_of (is_nullish x) y x k h

  by_sides : (o : LogicalOperator) (v : Value) (c d : Option Value) → WrittenIn c → WrittenIn d → logical_const o c d ≡ Some v → Written v
  by_sides o v (Some x) (Some y) h k e = written_by (decided o x y) v e (decided_of o x y (h x refl) (k y refl))
  by_sides o v (Some x) None h k e = nothing e
  by_sides o v None d h k e = nothing e

  by_branches : (v : Value) (a c d : Option Value) → WrittenIn c → WrittenIn d → conditional_const a c d ≡ Some v → Written v
  by_branches v (Some u) (Some x) (Some y) h k e = written_by (choose (truth u) x y) v e (chosen_of (truth u) x y (h x refl) (k y refl))
  by_branches v (Some u) (Some x) None h k e = nothing e
  by_branches v (Some u) None d h k e = nothing e
  by_branches v None c d h k e = nothing e

  -- where an operator stands, and what is written for it
  module _ (f : Tree → Option Value) (h : (a : Tree) (u : Value) → f a ≡ Some u → WrittenOf a u) (t : Tree) (v : Value) where
    operated_at : (s : Slot) (is_free : Bool) → Form is_free f t v → fits strict s t ≡ true → TakesExpression s × Written v
    operated_at s is_free (of_unary o is e) k =
        let (takes, fit) = unary_at strict o (part t 0) s (subst (λ x. fits strict s x ≡ true) is k) in
        (takes, by_operand is_free o v (f (part t 0)) e)
    operated_at s is_free (of_binary o is e) k =
        let (takes, (first, second)) = binary_at strict o (part t 0) (part t 1) s (subst (λ x. fits strict s x ≡ true) is k) in
        (takes, by_operands o v (f (part t 0)) (f (part t 1)) (λ u g. h (part t 0) u g first) (λ u g. h (part t 1) u g second) e)

    logical_fit : (o : LogicalOperator) (a b : Tree) → fits strict expression (logical o a b) ≡ true → (fits strict expression a ≡ true) × (fits strict expression b ≡ true)
    logical_fit o a b e = two_parts (is_whole an_expression (shape.LogicalExpression o) [] 0 (a ▸ b ▸ none)) (fits strict expression a) (fits strict expression b) e

    -- the parts of a sequence are expressions
    items_fit : (ts : Trees) → fits strict expression (sequence ts) ≡ true → AllFit strict expression ts
    items_fit ts e = left (fill strict (each expression) ts) true (and_parts (nat_le 2 (count ts)) (fill strict (each expression) ts && true) e).1

    last_at : (ts : Trees) → last_value f ts ≡ Some v → AllFit strict expression ts → Written v
    last_at none e k = nothing e
    last_at (a ▸ none) e k = h a v e (first_fits strict expression a none k).0
    last_at (a ▸ (b ▸ ts)) e k = last_at (b ▸ ts) e (first_fits strict expression a (b ▸ ts) k).1

    -- the text of a part
    part_paired : (a : Tree) → fits strict expression a ≡ true → (s : List ℕ) → text_of (f a) ≡ Some s → is_paired s ≡ true
    part_paired a fit s e = go (f a) refl e
      where
        of_text : (m : Made (List ℕ)) → Paired m → made m ≡ Some s → is_paired s ≡ true
        of_text (makes r) p e = subst (λ x. is_paired x ≡ true) {x = r} {y = s} (cc e) p
        of_text raises p e = nothing e
        of_text outside p e = nothing e

        go : (c : Option Value) → f a ≡ c → text_of c ≡ Some s → is_paired s ≡ true
        go (Some u) g e = of_text (to_text u) (text_paired u (h a u g fit)) e
        go None g e = nothing e

    template_at : (ps ts : Trees) → text_value (text_between f ps ts) ≡ Some v → fits strict expression (template ps ts) ≡ true → Written v
    template_at ps ts e k =
        let fit = template_made strict ps ts k in
        let (text, (known, same)) = text_is (text_between f ps ts) v e in
        subst Written same (pieces_paired strict f part_paired ps ts fit.texts fit.parts text known)

    chosen_at : (is_free : Bool) → Choice is_free f t v → fits strict expression t ≡ true → Written v
    chosen_at is_free (of_logical o is e) k =
        let (first, second) = logical_fit o (part t 0) (part t 1) (subst (λ x. fits strict expression x ≡ true) is k) in
        by_sides o v (f (part t 0)) (f (part t 1)) (λ u g. h (part t 0) u g first) (λ u g. h (part t 1) u g second) e
    chosen_at is_free (of_sequence free is e) k = last_at (children (part t 0)) e (items_fit (children (part t 0)) (subst (λ x. fits strict expression x ≡ true) is k))
    chosen_at is_free (of_template is e) k = template_at (children (part t 0)) (children (part t 1)) e (subst (λ x. fits strict expression x ≡ true) is k)
    chosen_at is_free (of_conditional is e) k =
        let (takes, (first, second, third)) = kept_expressions.of_conditional strict expression (part t 0) (part t 1) (part t 2) (subst (λ x. fits strict expression x ≡ true) is k) in
        by_branches v (f (part t 0)) (f (part t 1)) (f (part t 2)) (λ u g. h (part t 1) u g second) (λ u g. h (part t 2) u g third) e

  value_written : (is_free : Bool) (k : ℕ) (t : Tree) (v : Value) → value_within is_free k t ≡ Some v → WrittenOf t v
  value_written is_free k t v e = within WrittenOf is_free (leaf_written strict) (λ f h t v r fit. (operated_at f h t v expression is_free r fit).1) (λ f h t v r fit. chosen_at f h t v is_free r fit) k t v e

  pub operand_written : (t : Tree) (v : Value) → operand_value t ≡ Some v → WrittenOf t v
  operand_written t v e = value_written false operand_depth t v e

  value_at : (s : Slot) (n : Tree) (v : Value) → calculated n ≡ Some v → fits strict s n ≡ true → TakesExpression s × Written v
  value_at s n v e = operated_at free_value (λ a u g. value_written true operand_depth a u g) n v s true (calculated_is n v e).made_of

abbrev Fits : Bool → Tree → Type 0
Fits strict t = fits strict expression t ≡ true

pub lit_fits : (strict : Bool) (v : Value) (w : Tree) → lit v ≡ Some w → Written v → Fits strict w
lit_fits strict Undefined w e h = subst (Fits strict) {x = void_zero} {y = w} (cc e) refl
lit_fits strict Null w e h = subst (Fits strict) {x = leaf shape.NullLiteral} {y = w} (cc e) refl
lit_fits strict (Boolean true) w e h = subst (Fits strict) {x = unary unary_operator.LogicalNot (leaf (shape.NumericLiteral (pos 0)))} {y = w} (cc e) refl
lit_fits strict (Boolean false) w e h = subst (Fits strict) {x = unary unary_operator.LogicalNot (leaf (shape.NumericLiteral (pos 1)))} {y = w} (cc e) refl
lit_fits strict (Number n) w e h = subst (Fits strict) {x = leaf (shape.NumericLiteral n)} {y = w} (cc e) (ap (λ a. (a && true) && true) h)
lit_fits strict (String s) w e h = subst (Fits strict) {x = leaf (shape.StringLiteral s)} {y = w} (cc e) (ap (λ a. (a && true) && true) h)
lit_fits strict v w e h = nothing e

pub constant_fits : (q : Seat) (n w : Tree) → RowConstant q n w → (strict : Bool) (s : Slot) → fits strict s n ≡ true → fits strict s w ≡ true
constant_fits q n w r strict s e = let (takes, written) = value_at strict s n r.value r.known e in expression_taken strict s w takes (lit_fits strict r.value w r.literal written)

pub constant_takes : (q : Seat) (n w : Tree) → RowConstant q n w → (strict : Bool) (s : Slot) → fits strict s n ≡ true → TakesExpression s
constant_takes q n w r strict s e = (value_at strict s n r.value r.known e).0

-- ---- what a parent asks of them

pub constant_asked : (q : Seat) (n w : Tree) → RowConstant q n w → AskedAlike (Expr q) n w
constant_asked q n w r = go (calculated_is n r.value r.known).made_of
  where
    go : Form true free_value n r.value → AskedAlike (Expr q) n w
    go (of_unary o is e) = record {
      absent = λ e. absurd (true≢false (sym e ∙ ap is_absent is));
      body = λ e. absurd (true≢false (sym e ∙ ap is_function_body is));
      optional = λ e. absurd (true≢false (sym e ∙ ap has_optional is));
      number = λ asks k. no_number w (not_a_number q w asks r.stays);
      spelled = λ s e. absurd (cc (sym e ∙ ap spelling is));
      plain = ap (λ x. is_default (shape_of x)) is;
    }
    go (of_binary o is e) = record {
      absent = λ e. absurd (true≢false (sym e ∙ ap is_absent is));
      body = λ e. absurd (true≢false (sym e ∙ ap is_function_body is));
      optional = λ e. absurd (true≢false (sym e ∙ ap has_optional is));
      number = λ asks k. no_number w (not_a_number q w asks r.stays);
      spelled = λ s e. absurd (cc (sym e ∙ ap spelling is));
      plain = ap (λ x. is_default (shape_of x)) is;
    }
