-- What a row on a spelling writes may stand wherever what it reads may, and a parent may ask the same of both.
use Rattle.std.proofs.Common.{◌≡◌, ℕ, suc, Bool, true, false, List, [], Option, None, refl, sym, ap, subst, ◌∙◌, inl, inr}
use Rattle.std.specs.Prelude.{◌⊎◌, ◌&&◌, not, codes, ℤ, pos, negsuc}
use Rattle.std.specs.Fmt.{signed_decimal}
use Rattle.std.proofs.lemmas.Bool.{le-leb}
use Rattle.std.specs.Char.Utf16.{has_unpaired_surrogate, utf16_chars}
use Rattle.mini_model.specs.Texts.{are_units, is_identifier_name}
use Rattle.mini_model.specs.Numerals.{IsSafe, max_safe_integer}
use Rattle.mini_model.specs.declared.operator.AssignmentOperator.{AssignmentOperator}
use Rattle.mini_model.specs.declared.operator.AssignmentOperator.TheVariants.{Assign, Subtraction}
use Rattle.mini_model.specs.declared.operator.BinaryOperator.{BinaryOperator}
use Rattle.mini_model.specs.declared.operator.LogicalOperator.{LogicalOperator}
use Rattle.mini_model.specs.declared.operator.UpdateOperator.{UpdateOperator}
use Rattle.mini_model.specs.declared.operator.UnaryOperator.TheVariants.{LogicalNot, Typeof}
use Rattle.mini_model.specs.declared.place.Position.{Position}
use Rattle.mini_model.specs.declared.place.Position.TheVariants.{Expr}
use Rattle.mini_model.specs.declared.seat.Seat.{Seat}
use Rattle.mini_model.specs.declared.shape.Shape.{Shape}
use Rattle.mini_model.specs.declared.shape.Shape.TheVariants as shape
use Rattle.mini_model.specs.Tree.{Tree, Trees, node, none, ◌▸◌, absent, null_literal, unary, is_absent, shape_of}
use Rattle.mini_accept.specs.WellShaped.{Depth, in_module, in_body, nested, Class, a_statement, an_init, a_loop_left, an_arrow_body, an_expression, a_link, a_chain, an_argument, a_key, a_private_or_key, an_inner_key, a_target, a_simple_target, a_member_target, a_default_export, a_label, Slot, one, one_or_absent, is_safe, is_function_body, spelling, has_optional, is_not_positive_number, expression_slots, unchained_slots, member_slots, none_if, in_depth, is_chained, is_sloppy_function, slots_of, is_whole, is_strict_in, filling, filling_by, class_of, fits, fill}
use Rattle.mini_kept.specs.KeepsFrames.{is_in_body, is_body_slot}
use Rattle.mini_kept.specs.KeepsShapes.{is_default, AskedAlike}
use Rattle.mini_kept.specs.Placed.{fits_place}
use Rattle.mini_kept.proofs.FrameRows.{expression_slot}
use Rattle.mini_rows.proofs.TemplateTexts.{template_at, text_fits, text_asked}
use Rattle.mini_rows.specs.Spellings.{numeral, text, key, boolean, binary, assignment, update, computed_member, static_member, yields, void_zero, negated_digit, plain, Row33, ordered, strict_operator, typeof_name, template, Row19, SpellingRow, ShortBoolean, DottedMember, DottedTarget, DottedUpdate, LooseLeft, LooseRight, SwappedEquality, BareYield, OrderedTypeof, PlainTemplate, ComparedWithVoid, Stepped, subtracts, steps, amount}

-- ---- the nodes that rows on spellings read and write

pub data Form : Type 0 where
  a_boolean : Bool → Form
  a_negation : Form
  a_binary : BinaryOperator → Form
  a_computed : Bool → Form
  a_static : Bool → Form
  an_assignment : AssignmentOperator → Form
  an_update : UpdateOperator → Bool → Form
  a_yield : Form
  an_object : Form
  a_logical : LogicalOperator → Form
  a_conditional : Form

abbrev pub shaped : Form → Shape
shaped (a_boolean b) = shape.BooleanLiteral b
shaped a_negation = shape.UnaryExpression LogicalNot
shaped (a_binary o) = shape.BinaryExpression o
shaped (a_computed b) = shape.ComputedMemberExpression b
shaped (a_static b) = shape.StaticMemberExpression b
shaped (an_assignment o) = shape.AssignmentExpression o
shaped (an_update o b) = shape.UpdateExpression o b
shaped a_yield = shape.YieldExpression false
shaped an_object = shape.ObjectExpression
shaped (a_logical o) = shape.LogicalExpression o
shaped a_conditional = shape.ConditionalExpression

-- ---- where they stand: as an expression, as a link or the end of a chain, as what is assigned to, or nowhere

pub data Kind : Type 0 where
  Alone : Kind
  Linked : Kind
  Ending : Kind
  Assigned : Kind
  Nowhere : Kind

abbrev pub kind_of : Class → Kind
kind_of an_expression = Alone
kind_of an_argument = Alone
kind_of an_init = Alone
kind_of an_arrow_body = Alone
kind_of a_default_export = Alone
kind_of (a_key true) = Alone
kind_of a_link = Linked
kind_of a_chain = Ending
kind_of (a_loop_left enumerates) = Assigned
kind_of a_target = Assigned
kind_of a_simple_target = Assigned
kind_of a_member_target = Assigned
kind_of c = Nowhere

abbrev pub kind_in : Slot → Kind
kind_in (one c) = kind_of c
kind_in (one_or_absent c) = kind_of c
kind_in s = Nowhere

abbrev pub slots_by : Kind → Shape → Option (List Slot)
slots_by Alone h = unchained_slots h
slots_by Linked h = expression_slots a_link h
slots_by Ending h = none_if (not (is_chained h)) (expression_slots a_link h)
slots_by Assigned h = member_slots h
slots_by Nowhere h = None

nowhere : (b : Bool) (d : Depth) → none_if b (in_depth d None) ≡ None
nowhere true d = refl
nowhere false in_module = refl
nowhere false in_body = refl
nowhere false nested = refl

slots_are : (strict : Bool) (f : Form) (c : Class) → slots_of strict c (shaped f) ≡ slots_by (kind_of c) (shaped f)
slots_are strict (a_boolean b) an_expression = refl
slots_are strict f (a_statement d) = nowhere (is_sloppy_function strict d (shaped f)) d
slots_are strict f (a_key true) = refl
slots_are strict f (a_key false) = refl
slots_are strict f (a_private_or_key true) = refl
slots_are strict f (a_private_or_key false) = refl
slots_are strict f (an_inner_key true) = refl
slots_are strict f (an_inner_key false) = refl
slots_are strict f c = refl

filling_is : (strict : Bool) (f : Form) (s : Slot) → filling strict s (shaped f) ≡ filling_by (slots_by (kind_in s) (shaped f))
filling_is strict (a_boolean b) (one c) = ap filling_by (slots_are strict (a_boolean b) c)
filling_is strict f (one c) = ap filling_by (slots_are strict f c)
filling_is strict f (one_or_absent c) = ap filling_by (slots_are strict f c)
filling_is strict f s = refl

whole_is : (f : Form) (c : Class) (ts : Trees) → is_whole c (shaped f) [] 0 ts ≡ true
whole_is (a_boolean b) an_expression ts = refl
whole_is a_negation an_expression ts = refl
whole_is (a_binary o) an_expression ts = refl
whole_is (a_computed b) an_expression ts = refl
whole_is (a_static b) an_expression ts = refl
whole_is (an_assignment o) an_expression ts = refl
whole_is (an_update o b) an_expression ts = refl
whole_is a_yield an_expression ts = refl
whole_is an_object an_expression ts = refl
whole_is (a_logical o) an_expression ts = refl
whole_is a_conditional an_expression ts = refl
whole_is f c ts = refl

strict_is : (strict : Bool) (f : Form) → is_strict_in strict (shaped f) ≡ strict
strict_is strict (a_boolean b) = refl
strict_is strict f = refl

abbrev pub filled : Bool → Kind → Form → Trees → Bool
filled strict k f ts = fill strict (filling_by (slots_by k (shaped f))) ts

pub fits_is : (strict : Bool) (s : Slot) (f : Form) (ts : Trees) → fits strict s (node (shaped f) [] 0 ts) ≡ filled strict (kind_in s) f ts
fits_is strict s f ts =
    ap (λ w. w && fill (is_strict_in strict (shaped f)) (filling strict s (shaped f)) ts) (whole_is f (class_of s) ts)
    ∙ ap (λ b. fill b (filling strict s (shaped f)) ts) (strict_is strict f)
    ∙ ap (λ g. fill strict g ts) (filling_is strict f s)

-- ---- what one of them may be written for

-- it stands wherever the other does
abbrev pub Stands : Bool → Form → Trees → Form → Trees → Type 0
Stands strict f ts g us = (k : Kind) → filled strict k f ts ≡ true → filled strict k g us ≡ true

pub stands : (strict : Bool) (f g : Form) (ts us : Trees) → Stands strict f ts g us → (s : Slot) → fits strict s (node (shaped f) [] 0 ts) ≡ true → fits strict s (node (shaped g) [] 0 us) ≡ true
stands strict f g ts us h s e = fits_is strict s g us ∙ h (kind_in s) (sym (fits_is strict s f ts) ∙ e)

abbrev expression : Slot
expression = one an_expression

-- 65
boolean_stands : (strict : Bool) (b : Bool) (n : ℕ) → fits strict expression (numeral (pos n)) ≡ true → Stands strict (a_boolean b) none a_negation (numeral (pos n) ▸ none)
boolean_stands strict b n l Alone e = ap (λ c. c && true) l
boolean_stands strict b n l Linked e = ap (λ c. c && true) l
boolean_stands strict b n l Ending e = absurd (cc e)
boolean_stands strict b n l Assigned e = absurd (cc e)
boolean_stands strict b n l Nowhere e = absurd (cc e)

boolean_fits : (b strict : Bool) (s : Slot) → fits strict s (boolean b) ≡ true → fits strict s (negated_digit b) ≡ true
boolean_fits true strict s = stands strict (a_boolean true) a_negation none (numeral (pos 0) ▸ none) (boolean_stands strict true 0 refl) s
boolean_fits false strict s = stands strict (a_boolean false) a_negation none (numeral (pos 1) ▸ none) (boolean_stands strict false 1 refl) s

-- two operands
sides : (a b : Bool) → (a && (b && true)) ≡ true → (a ≡ true) × (b ≡ true)
sides true true e = (refl, refl)
sides true false e = absurd (cc e)
sides false b e = absurd (cc e)

both_sides : (a b : Bool) → a ≡ true → b ≡ true → (a && (b && true)) ≡ true
both_sides true true e f = refl
both_sides true false e f = absurd (cc f)
both_sides false b e f = absurd (cc e)

operators_stand : (strict : Bool) (o p : BinaryOperator) (a b c d : Tree) → (fits strict expression a ≡ true → fits strict expression b ≡ true → (fits strict expression c ≡ true) × (fits strict expression d ≡ true)) → Stands strict (a_binary o) (a ▸ b ▸ none) (a_binary p) (c ▸ d ▸ none)
operators_stand strict o p a b c d f Alone e =
    let (x, y) = sides (fits strict expression a) (fits strict expression b) e in
    both_sides (fits strict expression c) (fits strict expression d) (f x y).0 (f x y).1
operators_stand strict o p a b c d f Linked e =
    let (x, y) = sides (fits strict expression a) (fits strict expression b) e in
    both_sides (fits strict expression c) (fits strict expression d) (f x y).0 (f x y).1
operators_stand strict o p a b c d f Ending e = absurd (cc e)
operators_stand strict o p a b c d f Assigned e = absurd (cc e)
operators_stand strict o p a b c d f Nowhere e = absurd (cc e)

binary_stands : (strict : Bool) (o : BinaryOperator) (a b c d : Tree) → (fits strict expression a ≡ true → fits strict expression b ≡ true → (fits strict expression c ≡ true) × (fits strict expression d ≡ true)) → Stands strict (a_binary o) (a ▸ b ▸ none) (a_binary o) (c ▸ d ▸ none)
binary_stands strict o a b c d f = operators_stand strict o o a b c d f

-- 55
u_fits : (strict : Bool) → fits strict expression (text (codes "u")) ≡ true
unfolding utf16_chars
u_fits strict = refl

typeof_stands : (strict : Bool) (o p : BinaryOperator) (a : Tree) (s r : List ℕ) → fits strict expression (text r) ≡ true → Stands strict (a_binary o) (a ▸ text s ▸ none) (a_binary p) (a ▸ text r ▸ none)
typeof_stands strict o p a s r f Alone e = both_sides (fits strict expression a) (fits strict expression (text r)) (sides (fits strict expression a) (fits strict expression (text s)) e).0 f
typeof_stands strict o p a s r f Linked e = both_sides (fits strict expression a) (fits strict expression (text r)) (sides (fits strict expression a) (fits strict expression (text s)) e).0 f
typeof_stands strict o p a s r f Ending e = absurd (cc e)
typeof_stands strict o p a s r f Assigned e = absurd (cc e)
typeof_stands strict o p a s r f Nowhere e = absurd (cc e)

typed_fits : (strict : Bool) (a : Tree) → fits strict expression (unary Typeof a) ≡ true → fits strict expression a ≡ true
typed_fits strict a e = by (fits strict expression a) e
  where
    by : (b : Bool) → (b && true) ≡ true → b ≡ true
    by true e = refl
    by false e = e

-- 33

-- a text that may stand in a program is of units, so that a name that it spells may too
text_units : (strict : Bool) (s : List ℕ) → fits strict expression (text s) ≡ true → are_units s ≡ true
text_units strict s e = by (are_units s) (not (has_unpaired_surrogate s)) e
  where
    by : (a b : Bool) → (((a && b) && true) && true) ≡ true → a ≡ true
    by true b e = refl
    by false b e = e

name_fits : (strict : Bool) (s : List ℕ) → is_identifier_name s ≡ true → are_units s ≡ true → fits strict (one a_label) (key s) ≡ true
name_fits strict s n u = ap (λ a. ((a && is_identifier_name s) && true) && true) u ∙ ap (λ a. (a && true) && true) n

name_stands : (strict : Bool) (b : Bool) (o : Tree) (s : List ℕ) → is_identifier_name s ≡ true → Stands strict (a_computed b) (o ▸ text s ▸ none) (a_static b) (o ▸ key s ▸ none)
name_stands strict b o s n k e = by b k e
  where
    by' : (c : Class) → (fits strict (one c) o && (fits strict expression (text s) && true)) ≡ true → (fits strict (one c) o && (fits strict (one a_label) (key s) && true)) ≡ true
    by' c e =
        let (x, y) = sides (fits strict (one c) o) (fits strict expression (text s)) e in
        both_sides (fits strict (one c) o) (fits strict (one a_label) (key s)) x (name_fits strict s n (text_units strict s y))

    by : (b : Bool) (k : Kind) → filled strict k (a_computed b) (o ▸ text s ▸ none) ≡ true → filled strict k (a_static b) (o ▸ key s ▸ none) ≡ true
    by false Alone e = by' an_expression e
    by false Linked e = by' a_link e
    by false Ending e = by' a_link e
    by false Assigned e = by' an_expression e
    by true Linked e = by' a_link e
    by true Ending e = by' a_link e
    by true Alone e = absurd (cc e)
    by true Assigned e = absurd (cc e)
    by b Nowhere e = absurd (cc e)

pub safe_is : (n : ℤ) → IsSafe n → is_safe n ≡ true
safe_is (pos n) h = le-leb n max_safe_integer h
safe_is (negsuc n) h = le-leb (suc n) max_safe_integer h

number_fits : (strict : Bool) (n : ℤ) → IsSafe n → fits strict expression (numeral n) ≡ true
number_fits strict n h = ap (λ a. (a && true) && true) (safe_is n h)

number_stands : (strict : Bool) (o : Tree) (t : Tree) (n : ℤ) → IsSafe n → Stands strict (a_computed false) (o ▸ t ▸ none) (a_computed false) (o ▸ numeral n ▸ none)
number_stands strict o t n h k e = by k e
  where
    by' : (c : Class) → (fits strict (one c) o && (fits strict expression t && true)) ≡ true → (fits strict (one c) o && (fits strict expression (numeral n) && true)) ≡ true
    by' c e = both_sides (fits strict (one c) o) (fits strict expression (numeral n)) (sides (fits strict (one c) o) (fits strict expression t) e).0 (number_fits strict n h)

    by : (k : Kind) → filled strict k (a_computed false) (o ▸ t ▸ none) ≡ true → filled strict k (a_computed false) (o ▸ numeral n ▸ none) ≡ true
    by Alone e = by' an_expression e
    by Linked e = by' a_link e
    by Ending e = by' a_link e
    by Assigned e = by' an_expression e
    by Nowhere e = absurd (cc e)

abbrev pub FitsToo : Tree → Tree → Type 0
FitsToo n w = (strict : Bool) (s : Slot) → fits strict s n ≡ true → fits strict s w ≡ true

pub by_shape : (n w a b : Tree) → n ≡ a → w ≡ b → FitsToo a b → FitsToo n w
by_shape n w a b e f h strict s g = subst (λ x. fits strict s x ≡ true) (sym f) (h strict s (subst (λ x. fits strict s x ≡ true) e g))

member_fits : (n w : Tree) → Row33 n w → FitsToo n w
member_fits n w (inl r) = by_shape n w (computed_member r.is_optional r.object (text r.name)) (static_member r.is_optional r.object (key r.name)) r.shape r.written (λ strict s. stands strict (a_computed r.is_optional) (a_static r.is_optional) (r.object ▸ text r.name ▸ none) (r.object ▸ key r.name ▸ none) (name_stands strict r.is_optional r.object r.name r.is_name) s)
member_fits n w (inr r) = by_shape n w (computed_member false r.object (text (signed_decimal r.number))) (computed_member false r.object (numeral r.number)) r.shape r.written (λ strict s. stands strict (a_computed false) (a_computed false) (r.object ▸ text (signed_decimal r.number) ▸ none) (r.object ▸ numeral r.number ▸ none) (number_stands strict r.object (text (signed_decimal r.number)) r.number r.is_safe) s)

assigned_stands : (strict : Bool) (o : AssignmentOperator) (t u v : Tree) → FitsToo t u → Stands strict (an_assignment o) (t ▸ v ▸ none) (an_assignment o) (u ▸ v ▸ none)
assigned_stands strict o t u v f k e = by o k e
  where
    by' : (c : Class) → (fits strict (one c) t && (fits strict expression v && true)) ≡ true → (fits strict (one c) u && (fits strict expression v && true)) ≡ true
    by' c e =
        let (x, y) = sides (fits strict (one c) t) (fits strict expression v) e in
        both_sides (fits strict (one c) u) (fits strict expression v) (f strict (one c) x) y

    by : (o : AssignmentOperator) (k : Kind) → filled strict k (an_assignment o) (t ▸ v ▸ none) ≡ true → filled strict k (an_assignment o) (u ▸ v ▸ none) ≡ true
    by Assign Alone e = by' a_target e
    by Assign Linked e = by' a_target e
    by o Alone e = by' a_simple_target e
    by o Linked e = by' a_simple_target e
    by o Ending e = absurd (cc e)
    by o Assigned e = absurd (cc e)
    by o Nowhere e = absurd (cc e)

updated_stands : (strict : Bool) (o : UpdateOperator) (l : Bool) (t u : Tree) → FitsToo t u → Stands strict (an_update o l) (t ▸ none) (an_update o l) (u ▸ none)
updated_stands strict o l t u f k e = by k e
  where
    by' : (a b : Bool) → (a ≡ true → b ≡ true) → (a && true) ≡ true → (b && true) ≡ true
    by' true b h e = ap (λ c. c && true) (h refl)
    by' false b h e = absurd (cc e)

    by : (k : Kind) → filled strict k (an_update o l) (t ▸ none) ≡ true → filled strict k (an_update o l) (u ▸ none) ≡ true
    by Alone e = by' (fits strict (one a_simple_target) t) (fits strict (one a_simple_target) u) (f strict (one a_simple_target)) e
    by Linked e = by' (fits strict (one a_simple_target) t) (fits strict (one a_simple_target) u) (f strict (one a_simple_target)) e
    by Ending e = absurd (cc e)
    by Assigned e = absurd (cc e)
    by Nowhere e = absurd (cc e)

-- 36
step_stands : (strict : Bool) (o : UpdateOperator) (t : Tree) → Stands strict (an_assignment Subtraction) (t ▸ amount o ▸ none) (an_update o true) (t ▸ none)
step_stands strict o t k e = by k e
  where
    by' : (fits strict (one a_simple_target) t && (fits strict expression (amount o) && true)) ≡ true → (fits strict (one a_simple_target) t && true) ≡ true
    by' e = ap (λ b. b && true) (sides (fits strict (one a_simple_target) t) (fits strict expression (amount o)) e).0

    by : (k : Kind) → filled strict k (an_assignment Subtraction) (t ▸ amount o ▸ none) ≡ true → filled strict k (an_update o true) (t ▸ none) ≡ true
    by Alone e = by' e
    by Linked e = by' e
    by Ending e = absurd (cc e)
    by Assigned e = absurd (cc e)
    by Nowhere e = absurd (cc e)

-- 60
yield_stands : (strict : Bool) → Stands strict a_yield (void_zero ▸ none) a_yield (absent ▸ none)
yield_stands strict Alone e = refl
yield_stands strict Linked e = refl
yield_stands strict Ending e = absurd (cc e)
yield_stands strict Assigned e = absurd (cc e)
yield_stands strict Nowhere e = absurd (cc e)

-- ---- all

-- where an expression may stand
abbrev FitsThere : Seat → Tree → Tree → Type 0
FitsThere q n w = (strict : Bool) (s : Slot) → fits_place (Expr q) s ≡ true → fits strict s n ≡ true → fits strict s w ≡ true

anywhere : (q : Seat) (n w : Tree) → FitsToo n w → FitsThere q n w
anywhere q n w f strict s v e = f strict s e

expression_fits : (q : Seat) (n w : Tree) → SpellingRow (Expr q) n w → FitsThere q n w
expression_fits q n w (ShortBoolean r) = anywhere q n w (by_shape n w (boolean r.value) (negated_digit r.value) r.shape r.written (boolean_fits r.value))
expression_fits q n w (DottedMember r) = anywhere q n w (member_fits n w r)
expression_fits q n w (DottedTarget r) = anywhere q n w (by_shape n w (assignment r.operator r.target r.value) (assignment r.operator r.turned r.value) r.shape r.written (λ strict s. stands strict (an_assignment r.operator) (an_assignment r.operator) (r.target ▸ r.value ▸ none) (r.turned ▸ r.value ▸ none) (assigned_stands strict r.operator r.target r.turned r.value (member_fits r.target r.turned r.member)) s))
expression_fits q n w (DottedUpdate r) = anywhere q n w (by_shape n w (update r.operator r.is_prefix r.target) (update r.operator r.is_prefix r.turned) r.shape r.written (λ strict s. stands strict (an_update r.operator r.is_prefix) (an_update r.operator r.is_prefix) (r.target ▸ none) (r.turned ▸ none) (updated_stands strict r.operator r.is_prefix r.target r.turned (member_fits r.target r.turned r.member)) s))
expression_fits q n w (LooseLeft r) = anywhere q n w (by_shape n w (binary r.operator r.left r.right) (binary r.operator null_literal r.right) r.shape r.written (λ strict s. stands strict (a_binary r.operator) (a_binary r.operator) (r.left ▸ r.right ▸ none) (null_literal ▸ r.right ▸ none) (binary_stands strict r.operator r.left r.right null_literal r.right (λ x y. (refl, y))) s))
expression_fits q n w (LooseRight r) = anywhere q n w (by_shape n w (binary r.operator r.left r.right) (binary r.operator r.left null_literal) r.shape r.written (λ strict s. stands strict (a_binary r.operator) (a_binary r.operator) (r.left ▸ r.right ▸ none) (r.left ▸ null_literal ▸ none) (binary_stands strict r.operator r.left r.right r.left null_literal (λ x y. (x, refl))) s))
expression_fits q n w (SwappedEquality r) = anywhere q n w (by_shape n w (binary r.operator (plain r.left) r.right) (binary r.operator r.right (plain r.left)) r.shape r.written (λ strict s. stands strict (a_binary r.operator) (a_binary r.operator) (plain r.left ▸ r.right ▸ none) (r.right ▸ plain r.left ▸ none) (binary_stands strict r.operator (plain r.left) r.right r.right (plain r.left) (λ x y. (y, x))) s))
expression_fits q n w (BareYield r) = anywhere q n w (by_shape n w (yields void_zero) (yields absent) r.shape r.written (λ strict s. stands strict a_yield a_yield (void_zero ▸ none) (absent ▸ none) (yield_stands strict) s))
expression_fits q n w (OrderedTypeof r) = anywhere q n w (by_shape n w (binary r.operator (typeof_name r.name) (text (codes "undefined"))) (binary (ordered r.operator) (typeof_name r.name) (text (codes "u"))) r.shape r.written (λ strict s. stands strict (a_binary r.operator) (a_binary (ordered r.operator)) (typeof_name r.name ▸ text (codes "undefined") ▸ none) (typeof_name r.name ▸ text (codes "u") ▸ none) (typeof_stands strict r.operator (ordered r.operator) (typeof_name r.name) (codes "undefined") (codes "u") (u_fits strict)) s))
expression_fits q n w (PlainTemplate r) = λ strict s v e. subst (λ t. fits strict s t ≡ true) (sym r.written) (text_fits r.is_tail r.raw r.content strict q s v (subst (λ t. fits strict s t ≡ true) r.shape e))
expression_fits q n w (ComparedWithVoid r) = anywhere q n w (by_shape n w (binary r.operator (unary Typeof r.operand) (text (codes "undefined"))) (binary (strict_operator r.operator) r.operand void_zero) r.shape r.written (λ strict s. stands strict (a_binary r.operator) (a_binary (strict_operator r.operator)) (unary Typeof r.operand ▸ text (codes "undefined") ▸ none) (r.operand ▸ void_zero ▸ none) (operators_stand strict r.operator (strict_operator r.operator) (unary Typeof r.operand) (text (codes "undefined")) r.operand void_zero (λ x y. (typed_fits strict r.operand x, refl))) s))
expression_fits q n w (Stepped r) = anywhere q n w (by_shape n w (subtracts r.operator r.target) (steps r.operator r.target) r.shape r.written (λ strict s. stands strict (an_assignment Subtraction) (an_update r.operator true) (r.target ▸ amount r.operator ▸ none) (r.target ▸ none) (step_stands strict r.operator r.target) s))

-- ---- what a parent asks

-- the node that a row reads, and the one that it writes
pub record Formed (n w : Tree) : Type 0 where
  pub first : Form
  pub second : Form
  pub parts : Trees
  pub others : Trees
  pub read : n ≡ node (shaped first) [] 0 parts
  pub made : w ≡ node (shaped second) [] 0 others
  pub optional : has_optional (node (shaped first) [] 0 parts) ≡ true → has_optional (node (shaped second) [] 0 others) ≡ true

there : (f : Form) (ts : Trees) → is_absent (node (shaped f) [] 0 ts) ≡ false
there (a_boolean b) ts = refl
there f ts = refl

no_body : (f : Form) (ts : Trees) → is_function_body (node (shaped f) [] 0 ts) ≡ false
no_body (a_boolean b) ts = refl
no_body f ts = refl

no_number : (f : Form) (ts : Trees) → is_not_positive_number (node (shaped f) [] 0 ts) ≡ true
no_number (a_boolean b) ts = refl
no_number f ts = refl

unspelled : (f : Form) (ts : Trees) → spelling (node (shaped f) [] 0 ts) ≡ None
unspelled (a_boolean b) ts = refl
unspelled f ts = refl

no_default : (f : Form) → is_default (shaped f) ≡ false
no_default (a_boolean b) = refl
no_default f = refl

pub formed_asked : (p : Position) (n w : Tree) → Formed n w → AskedAlike p n w
formed_asked p n w r = record {
  absent = λ e. absurd (cc (sym e ∙ ap is_absent r.read ∙ there r.first r.parts));
  body = λ e. absurd (cc (sym e ∙ ap is_function_body r.read ∙ no_body r.first r.parts));
  optional = λ e. ap has_optional r.made ∙ r.optional (sym (ap has_optional r.read) ∙ e);
  number = λ e k. ap is_not_positive_number r.made ∙ no_number r.second r.others;
  spelled = λ s e. absurd (cc (sym e ∙ ap spelling r.read ∙ unspelled r.first r.parts));
  plain = ap (λ t. is_default (shape_of t)) r.read ∙ no_default r.first;
}

member_formed : (n w : Tree) → Row33 n w → Formed n w
member_formed n w (inl r) = record { first = a_computed r.is_optional; second = a_static r.is_optional; parts = r.object ▸ text r.name ▸ none; others = r.object ▸ key r.name ▸ none; read = r.shape; made = r.written; optional = λ e. e }
member_formed n w (inr r) = record { first = a_computed false; second = a_computed false; parts = r.object ▸ text (signed_decimal r.number) ▸ none; others = r.object ▸ numeral r.number ▸ none; read = r.shape; made = r.written; optional = λ e. e }

boolean_formed : (n w : Tree) (b : Bool) → n ≡ boolean b → w ≡ negated_digit b → Formed n w
boolean_formed n w true e f = record { first = a_boolean true; second = a_negation; parts = none; others = numeral (pos 0) ▸ none; read = e; made = f; optional = λ x. absurd (cc x) }
boolean_formed n w false e f = record { first = a_boolean false; second = a_negation; parts = none; others = numeral (pos 1) ▸ none; read = e; made = f; optional = λ x. absurd (cc x) }

row_formed : (q : Seat) (n w : Tree) → SpellingRow (Expr q) n w → Formed n w ⊎ Row19 n w
row_formed q n w (ShortBoolean r) = inl (boolean_formed n w r.value r.shape r.written)
row_formed q n w (DottedMember r) = inl (member_formed n w r)
row_formed q n w (DottedTarget r) = inl (record { first = an_assignment r.operator; second = an_assignment r.operator; parts = r.target ▸ r.value ▸ none; others = r.turned ▸ r.value ▸ none; read = r.shape; made = r.written; optional = λ x. absurd (cc x) })
row_formed q n w (DottedUpdate r) = inl (record { first = an_update r.operator r.is_prefix; second = an_update r.operator r.is_prefix; parts = r.target ▸ none; others = r.turned ▸ none; read = r.shape; made = r.written; optional = λ x. absurd (cc x) })
row_formed q n w (LooseLeft r) = inl (record { first = a_binary r.operator; second = a_binary r.operator; parts = r.left ▸ r.right ▸ none; others = null_literal ▸ r.right ▸ none; read = r.shape; made = r.written; optional = λ x. absurd (cc x) })
row_formed q n w (LooseRight r) = inl (record { first = a_binary r.operator; second = a_binary r.operator; parts = r.left ▸ r.right ▸ none; others = r.left ▸ null_literal ▸ none; read = r.shape; made = r.written; optional = λ x. absurd (cc x) })
row_formed q n w (SwappedEquality r) = inl (record { first = a_binary r.operator; second = a_binary r.operator; parts = plain r.left ▸ r.right ▸ none; others = r.right ▸ plain r.left ▸ none; read = r.shape; made = r.written; optional = λ x. absurd (cc x) })
row_formed q n w (BareYield r) = inl (record { first = a_yield; second = a_yield; parts = void_zero ▸ none; others = absent ▸ none; read = r.shape; made = r.written; optional = λ x. absurd (cc x) })
row_formed q n w (OrderedTypeof r) = inl (record { first = a_binary r.operator; second = a_binary (ordered r.operator); parts = typeof_name r.name ▸ text (codes "undefined") ▸ none; others = typeof_name r.name ▸ text (codes "u") ▸ none; read = r.shape; made = r.written; optional = λ x. absurd (cc x) })
row_formed q n w (PlainTemplate r) = inr r
row_formed q n w (ComparedWithVoid r) = inl (record { first = a_binary r.operator; second = a_binary (strict_operator r.operator); parts = unary Typeof r.operand ▸ text (codes "undefined") ▸ none; others = r.operand ▸ void_zero ▸ none; read = r.shape; made = r.written; optional = λ x. absurd (cc x) })
row_formed q n w (Stepped r) = inl (record { first = an_assignment Subtraction; second = an_update r.operator true; parts = r.target ▸ amount r.operator ▸ none; others = r.target ▸ none; read = r.shape; made = r.written; optional = λ x. absurd (cc x) })

-- ---- where they stand is in a body

abbrev is_somewhere : Kind → Bool
is_somewhere Nowhere = false
is_somewhere k = true

in_body_class : (c : Class) → is_somewhere (kind_of c) ≡ true → is_in_body c ≡ true
in_body_class an_expression e = refl
in_body_class an_argument e = refl
in_body_class an_init e = refl
in_body_class an_arrow_body e = refl
in_body_class a_default_export e = refl
in_body_class (a_key true) e = refl
in_body_class (a_key false) e = absurd (cc e)
in_body_class a_link e = refl
in_body_class a_chain e = refl
in_body_class (a_loop_left b) e = refl
in_body_class a_target e = refl
in_body_class a_simple_target e = refl
in_body_class a_member_target e = refl
in_body_class c e = absurd (cc e)

body_slot : (p : Position) (s : Slot) → is_somewhere (kind_in s) ≡ true → is_body_slot p s ≡ true
body_slot p (one c) e = in_body_class c e
body_slot p (one_or_absent c) e = in_body_class c e
body_slot p s e = absurd (cc e)

somewhere : (strict : Bool) (k : Kind) (f : Form) (ts : Trees) → filled strict k f ts ≡ true → is_somewhere k ≡ true
somewhere strict Nowhere f ts e = absurd (cc e)
somewhere strict k f ts e = refl

pub formed_slot : (p : Position) (n w : Tree) → Formed n w → (strict : Bool) (s : Slot) → fits strict s n ≡ true → is_body_slot p s ≡ true
formed_slot p n w r strict s e = body_slot p s (somewhere strict (kind_in s) r.first r.parts (sym (fits_is strict s r.first r.parts) ∙ sym (ap (fits strict s) r.read) ∙ e))

-- ---- wherever rows are made

expression_asked : (q : Seat) (n w : Tree) → Formed n w ⊎ Row19 n w → AskedAlike (Expr q) n w
expression_asked q n w (inl f) = formed_asked (Expr q) n w f
expression_asked q n w (inr r) = subst (λ t. AskedAlike (Expr q) t w) (sym r.shape) (subst (AskedAlike (Expr q) (template r.is_tail r.raw r.content)) (sym r.written) (text_asked r.is_tail r.raw r.content q))

in_body_slot : (q : Seat) (n w : Tree) → Formed n w ⊎ Row19 n w → (strict : Bool) (s : Slot) → fits_place (Expr q) s ≡ true → fits strict s n ≡ true → is_body_slot (Expr q) s ≡ true
in_body_slot q n w (inl f) strict s v e = formed_slot (Expr q) n w f strict s e
in_body_slot q n w (inr r) strict s v e = expression_slot (Expr q) s (template_at r.is_tail r.raw r.content strict q s v (subst (λ t. fits strict s t ≡ true) r.shape e)).0

pub row_fits : (p : Position) (n w : Tree) → SpellingRow p n w → (strict : Bool) (s : Slot) → fits_place p s ≡ true → fits strict s n ≡ true → fits strict s w ≡ true
row_fits (Expr q) n w r = expression_fits q n w r
row_fits p n w r = absurd r

pub row_asked : (p : Position) (n w : Tree) → SpellingRow p n w → AskedAlike p n w
row_asked (Expr q) n w r = expression_asked q n w (row_formed q n w r)
row_asked p n w r = absurd r

pub row_slot : (p : Position) (n w : Tree) → SpellingRow p n w → (strict : Bool) (s : Slot) → fits_place p s ≡ true → fits strict s n ≡ true → is_body_slot p s ≡ true
row_slot (Expr q) n w r = in_body_slot q n w (row_formed q n w r)
row_slot p n w r = absurd r
