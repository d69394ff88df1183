-- The plans of names and literals weigh little: numbers have few digits, and texts stand in the literal's fields.
use Rattle.std.proofs.Common.{◌≡◌, ℕ, suc, ◌+◌, ◌≤◌, List, [], ◌∷◌, length, refl, ap, sym, ◌∙◌, subst, codes, Bool, true, false, arith}
use Rattle.std.specs.Prelude.{Option, Some, None, option_and_then, option_map, unwrap_or, if◌then◌else◌, nat_le, not, ◌&&◌, ◌||◌, ℤ, pos, negsuc}
use Rattle.std.specs.Fmt.{decimal, signed_decimal}
use Rattle.std.proofs.lemmas.Fmt.{length-decimal-le_wide, length_signed_le}
use Rattle.std.proofs.lemmas.Bool.{or_parts, not-false, leb-true}
use Rattle.serde_json.specs.Data.{Data, unsigned, negative, float, null, boolean, number, string, array, object}
use Rattle.serde_json.specs.Find.{get}
use Rattle.mini_model.specs.Texts.{units_of}
use Rattle.mini_model.specs.Numerals.{max_safe_integer}
use Rattle.mini_model.specs.declared.shape.Shape.{Shape}
use Rattle.mini_model.specs.declared.shape.Shape.TheVariants as shape
use Rattle.mini_model.specs.declared.place.Position.{Position}
use Rattle.mini_model.specs.Weight.{Outline, text_weight}
use Rattle.mini_accept.specs.WellShaped as shaped
use Rattle.mini_accept.specs.WellShaped.{is_paired, is_safe, max_big_int}
use Rattle.mini_accept.specs.Places.{Place, at, a_directive, a_directive_text, a_quasi, an_exported, a_local_name}
use Rattle.mini_accept.specs.Fields.{◌>>=◌, require, is_given, text_at, units_at, is_bare, has_type}
use Rattle.mini_accept.specs.Literals.{reg_exp, big_int, value_shape, literal, is_unread_value, is_unread_literal, negative_of, with_minus}
use Rattle.mini_accept.specs.Standing.{has_unread_type, has_unread_field, is_unread_form, is_unread}
use Rattle.mini_accept.specs.Plans.{node_of}
use Rattle.mini_accept.specs.Expressions as expression
use Rattle.mini_accept.proofs.Types.{some_same}
use Rattle.mini_accept.proofs.Literals.{literal_sound, literal_read}
use Rattle.mini_writer.proofs.Amounts.{amount, found, amounts_below, text_length, text_within}
use Rattle.mini_writer.proofs.Plans.{LightIf, leaf_light, bind_light}
use Rattle.mini_writer.proofs.SizedBodies.{units_within}

-- ---- numbers

big_light : (n : ℕ) → nat_le n max_big_int ≡ true → length (decimal n) ≤ 39
big_light n small = let h : n ≤ max_big_int = leb-true n max_big_int small in length-decimal-le_wide 39 n (omega arith) (omega arith) (omega arith)

pub safe_light : (z : ℤ) → is_safe z ≡ true → length (signed_decimal z) ≤ 17
safe_light (pos n) small = let h : n ≤ max_safe_integer = leb-true n max_safe_integer small in length_signed_le 16 (pos n) (omega arith) (omega arith)
safe_light (negsuc n) small = let h : suc n ≤ max_safe_integer = leb-true (suc n) max_safe_integer small in length_signed_le 16 (negsuc n) (omega arith) (omega arith)

-- ---- literals

-- the text of a node of this shape
abbrev Writes : Shape → ℕ → Type 0
Writes h n = (π : Position) (os : List Outline) → text_weight h [] π os ≤ 90 + n

written : (h k : Shape) (n : ℕ) → Some h ≡ Some k → Writes h n → Writes k n
written h k n e small = subst (λ (x : Shape). Writes x n) (some_same h k e) small

reg_exp_by : (d : Data) (a b : Option (List ℕ)) (h : Shape) → units_at (codes "pattern") d ≡ a → units_at (codes "flags") d ≡ b → (a >>= λ x. b >>= λ y. Some (shape.RegExpLiteral x y)) ≡ Some h → Writes h (amount d)
reg_exp_by d None b h p q e = absurd (cc e)
reg_exp_by d (Some x) None h p q e = absurd (cc e)
reg_exp_by d (Some x) (Some y) h p q e = written (shape.RegExpLiteral x y) h (amount d) e
    (λ π os. omega (arith, units_within (codes "pattern") d x p, units_within (codes "flags") d y q, amounts_below (codes "pattern" ∷ codes "flags" ∷ []) d ((refl, tt), (tt, tt))))

reg_exp_light : (o : Option Data) (h : Shape) → option_and_then reg_exp o ≡ Some h → Writes h (found o)
reg_exp_light None h e = absurd (cc e)
reg_exp_light (Some d) h e = reg_exp_by d (units_at (codes "pattern") d) (units_at (codes "flags") d) h refl refl e

big_int_light : (o : Option ℕ) (h : Shape) → option_map shape.BigIntLiteral o ≡ Some h → unwrap_or (option_map (λ n. not (nat_le n max_big_int)) o) false ≡ false → Writes h 0
big_int_light None h e r = absurd (cc e)
big_int_light (Some n) h e r = written (shape.BigIntLiteral n) h 0 e (λ π os. omega (arith, big_light n (not-false (nat_le n max_big_int) r)))

string_light : (b : Bool) (s u : List ℕ) (h : Shape) → length u ≤ length (units_of s) → option_map shape.StringLiteral (require b (Some u)) ≡ Some h → Writes h (found (Some (string s)))
string_light true s u h small e = written (shape.StringLiteral u) h (found (Some (string s))) e (λ π os. omega (arith, small))
string_light false s u h small e = absurd (cc e)

value_light : (o raw : Option Data) (h : Shape) → value_shape o ≡ Some h → is_unread_value o raw ≡ false → Writes h (found o)
value_light None raw h e r = absurd (cc e)
value_light (Some null) raw h e r = written shape.NullLiteral h (found (Some null)) e (λ π os. omega arith)
value_light (Some (boolean b)) raw h e r = written (shape.BooleanLiteral b) h (found (Some (boolean b))) e (λ π os. omega arith)
value_light (Some (number (unsigned n))) raw h e r = written (shape.NumericLiteral (pos n)) h (found (Some (number (unsigned n)))) e (λ π os. omega (arith, safe_light (pos n) (not-false (nat_le n max_safe_integer) r)))
value_light (Some (number (negative z))) raw h e r = absurd (cc e)
value_light (Some (number (float x))) raw h e r = absurd (cc e)
value_light (Some (string s)) raw h e r = string_light (is_paired (units_of s)) s (units_of s) h (omega arith) e
value_light (Some (array ds)) raw h e r = absurd (cc e)
value_light (Some (object ms)) raw h e r = absurd (cc e)

literal_by : (a b : Bool) (o : Option Data) (i : Option ℕ) (v raw : Option Data) (h : Shape) → (if a then option_and_then reg_exp o else (if b then option_map shape.BigIntLiteral i else value_shape v)) ≡ Some h
    → (if a then false else (if b then unwrap_or (option_map (λ n. not (nat_le n max_big_int)) i) false else is_unread_value v raw)) ≡ false → Writes h (found o + found v)
literal_by true b o i v raw h e r π os = omega (arith, reg_exp_light o h e π os)
literal_by false true o i v raw h e r π os = omega (arith, big_int_light i h e r π os)
literal_by false false o i v raw h e r π os = omega (arith, value_light v raw h e r π os)

literal_light : (d : Data) (h : Shape) → literal d ≡ Some h → is_unread_literal d ≡ false → Writes h (found (get (codes "regex") d) + found (get (codes "value") d))
literal_light d h e r = literal_by (is_given (codes "regex") d) (is_given (codes "bigint") d) (get (codes "regex") d) (big_int d) (get (codes "value") d) (get (codes "raw") d) h e r

-- ---- plans

form_read : (d : Data) → has_type (codes "Literal") d ≡ true → (has_unread_type d || (has_unread_field d || (not (is_bare (codes "decorators") d) || (has_type (codes "Literal") d && is_unread_literal d)))) ≡ false → is_unread_literal d ≡ false
form_read d typed form =
    let (type, r1) = or_parts (has_unread_type d) _ form in
    let (fields, r2) = or_parts (has_unread_field d) _ r1 in
    let (decorators, r3) = or_parts _ (has_type (codes "Literal") d && is_unread_literal d) r2 in
    sym (ap (λ b. b && is_unread_literal d) typed) ∙ r3

by_literal : (d : Data) → is_unread_literal d ≡ false → LightIf d 0 (literal d >>= λ h. node_of h [])
by_literal d read = bind_light d 0 (literal d) _ (λ h is. leaf_light d (codes "regex" ∷ codes "value" ∷ []) h [] refl (λ π os. omega (arith, literal_light d h is read π os)))

directive_literal : (d : Data) → LightIf d 0 (expression.literal_plan a_directive_text d)
directive_literal d = bind_light d 0 (text_at (codes "value") d) _ (λ s is.
    leaf_light d (codes "value" ∷ []) (shape.StringLiteral (units_of s)) [] refl (λ π os. omega (arith, ap text_length is, text_within (get (codes "value") d))))

pub literal_plan : (strict : Bool) (p : Place) (d : Data) → has_type (codes "Literal") d ≡ true → is_unread strict p d ≡ false → LightIf d 0 (expression.literal_plan p d)
literal_plan strict (at c) d typed read = by_literal d (literal_read strict c d typed read)
literal_plan strict a_directive_text d typed read = directive_literal d
literal_plan strict a_directive d typed read = by_literal d (form_read d typed (or_parts (is_unread_form a_directive d) false read).0)
literal_plan strict (a_quasi g last) d typed read = by_literal d (form_read d typed (or_parts (is_unread_form (a_quasi g last) d) false read).0)
literal_plan strict (an_exported own) d typed read = by_literal d (form_read d typed (or_parts (is_unread_form (an_exported own) d) false read).0)
literal_plan strict a_local_name d typed read = by_literal d (form_read d typed (or_parts (is_unread_form a_local_name d) false read).0)

-- ---- a number with a minus before it

none_some : (z : ℤ) → None ≡ Some z → ⊥
none_some z e = cc e

negative_by : (d : Data) (o : Option Shape) (z : ℤ) → literal d ≡ o → is_unread_literal d ≡ false → negative_of o ≡ Some z → is_safe z ≡ true
negative_by d None z is read e = absurd (cc e)
negative_by d (Some (shape.NumericLiteral (pos (suc n)))) z is read e = subst (λ x. is_safe x ≡ true) (some_same (negsuc n) z e) (literal_sound d (shape.NumericLiteral (pos (suc n))) is read)
negative_by d (Some h) z is read e = absurd (none_some z e)

minus_by : (strict : Bool) (d : Data) (b : Bool) (z : ℤ) → has_type (codes "Literal") d ≡ b → is_unread strict (at shaped.an_expression) d ≡ false → (if b then negative_of (literal d) else None) ≡ Some z → is_safe z ≡ true
minus_by strict d true z typed read e = negative_by d (literal d) z refl (literal_read strict shaped.an_expression d typed read) e
minus_by strict d false z typed read e = absurd (cc e)

pub minus_safe : (strict : Bool) (d : Data) (z : ℤ) → is_unread strict (at shaped.an_expression) d ≡ false → with_minus d ≡ Some z → is_safe z ≡ true
minus_safe strict d z read e = minus_by strict d (has_type (codes "Literal") d) z refl read e
