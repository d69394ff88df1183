-- What each row on a spelling writes weighs less wherever the expression stands.
use Rattle.std.proofs.Common.{◌≡◌, ℕ, ◌+◌, ◌<◌, ◌≤◌, ◌*◌, Bool, true, false, List, [], refl, sym, ap, subst, ◌∙◌, inl, inr, true≢false, arith}
use Rattle.std.specs.Prelude.{if◌then◌else◌, ◌&&◌, ◌||◌, nat_lt, codes, ℤ, pos, negsuc, length}
use Rattle.std.specs.Fmt.{signed_decimal}
use Rattle.std.proofs.lemmas.Fmt.{decimal_digit}
use borrow.Author.Tests.{ltb-true, ltb-false}
use Rattle.mini_model.specs.declared.operator.BinaryOperator.{BinaryOperator}
use Rattle.mini_model.specs.declared.operator.BinaryOperator.TheVariants.{Equality, Inequality, StrictEquality, StrictInequality}
use Rattle.mini_model.specs.declared.operator.BinaryOperator.TheVariants as binary_operator
use Rattle.mini_model.specs.declared.operator.AssignmentOperator.{AssignmentOperator}
use Rattle.mini_model.specs.declared.operator.UpdateOperator.{UpdateOperator}
use Rattle.mini_model.specs.declared.operator.UnaryOperator.TheVariants.{LogicalNot, Typeof}
use Rattle.mini_model.specs.declared.operator.LogicalOperator.TheVariants.{Or, And, Coalesce}
use Rattle.mini_model.specs.declared.seat.Seat.{Seat}
use Rattle.mini_model.specs.declared.shape.Shape.{Shape}
use Rattle.mini_model.specs.declared.shape.Shape.TheVariants as shape
use Rattle.mini_model.specs.Tree.{Tree, node, none, ◌▸◌, absent, null_literal, unary}
use Rattle.mini_model.specs.declared.place.Position.{Position}
use Rattle.mini_model.specs.declared.place.Position.TheVariants.{Expr, Target}
use Rattle.mini_model.specs.Position.{is_equality, seat_of_level, binary_operand_seat, unary_operand_seat, whole_seat}
use Rattle.mini_model.specs.Weight.{Outline, outline, outlines, weight, place_weight, parentheses, is_parenthesized, awkward_weight, is_awkward, binary_operator_weight, mixes, is_chain, is_call, level_of}
use Rattle.mini_laws.specs.Weights.{Lightens, counts_items}
use Rattle.mini_laws.proofs.Seats.{placed}
use Rattle.mini_rows.specs.Spellings.{numeral, text, key, binary, assignment, update, computed_member, static_member, yields, void_zero, IsUndefined, IsLoose, PlainForm, a_number, a_text, a_boolean, a_null, a_big_int, a_template, a_void, plain, boolean, negated_digit, is_awkward_left, is_inner, Row33, ordered, strict_operator, typeof_name, SpellingRow, SpellingContracts, SpellingsLighter, ShortBoolean, DottedMember, DottedTarget, DottedUpdate, LooseLeft, LooseRight, SwappedEquality, BareYield, OrderedTypeof, PlainTemplate, ComparedWithVoid, Stepped, subtracts, steps, amount}
use Rattle.mini_rows.proofs.TemplateTexts.{text_falls}
use Rattle.mini_model.specs.declared.operator.UpdateOperator.TheVariants.{Increment, Decrement}
use Rattle.mini_model.specs.declared.operator.AssignmentOperator.TheVariants.{Subtraction}

-- what a place adds is a pair of parentheses at most, and 1 where a form is awkward there

at_most : (b c : Bool) → (if b then 4 else 0) + (if c then 1 else 0) ≤ 5
at_most true true = omega arith
at_most true false = omega arith
at_most false true = omega arith
at_most false false = omega arith

marks : (s : Seat) (h : Shape) (os : List Outline) → parentheses h s + awkward_weight s h os ≤ 5
marks s h os = at_most (is_parenthesized h s) (is_awkward s h os)

-- 65

boolean_falls : (s : Seat) (b : Bool) → weight (Expr s) (negated_digit b) < weight (Expr s) (boolean b)
boolean_falls s true =
    let digit : length (signed_decimal (pos 0)) ≡ 1 = ap length (decimal_digit 0 (omega arith)) in
    omega (arith, digit, marks s (shape.UnaryExpression LogicalNot) (outlines (numeral (pos 0) ▸ none)))
boolean_falls s false =
    let digit : length (signed_decimal (pos 1)) ≡ 1 = ap length (decimal_digit 1 (omega arith)) in
    omega (arith, digit, marks s (shape.UnaryExpression LogicalNot) (outlines (numeral (pos 1) ▸ none)))

-- 33: the member loses two characters at least, wherever it stands

static_marks : (s : Seat) (b : Bool) (o k l : Tree) → place_weight (Expr s) (shape.StaticMemberExpression b) (outlines (o ▸ k ▸ none)) ≡ place_weight (Expr s) (shape.ComputedMemberExpression b) (outlines (o ▸ l ▸ none))
static_marks s b o k l = refl

name_falls : (s : Seat) (b : Bool) (o : Tree) (x : List ℕ) → weight (Expr s) (static_member b o (key x)) < weight (Expr s) (computed_member b o (text x))
name_falls s true o x = let same = static_marks s true o (key x) (text x) in omega (arith, same)
name_falls s false o x = let same = static_marks s false o (key x) (text x) in omega (arith, same)

name_falls_as_target : (b : Bool) (o : Tree) (x : List ℕ) → weight Target (static_member b o (key x)) < weight Target (computed_member b o (text x))
name_falls_as_target true o x = omega arith
name_falls_as_target false o x = omega arith

numeral_weighs : (n : ℤ) → weight (Expr whole_seat) (numeral n) ≡ 2 * length (signed_decimal n)
numeral_weighs (pos n) = omega arith
numeral_weighs (negsuc n) = omega arith

computed_marks : (s : Seat) (b : Bool) (o k l : Tree) → place_weight (Expr s) (shape.ComputedMemberExpression b) (outlines (o ▸ k ▸ none)) ≡ place_weight (Expr s) (shape.ComputedMemberExpression b) (outlines (o ▸ l ▸ none))
computed_marks s b o k l = refl

number_falls : (s : Seat) (o : Tree) (n : ℤ) → weight (Expr s) (computed_member false o (numeral n)) < weight (Expr s) (computed_member false o (text (signed_decimal n)))
number_falls s o n = let same = computed_marks s false o (numeral n) (text (signed_decimal n)) in omega (arith, same, numeral_weighs n)

number_falls_as_target : (o : Tree) (n : ℤ) → weight Target (computed_member false o (numeral n)) < weight Target (computed_member false o (text (signed_decimal n)))
number_falls_as_target o n = omega (arith, numeral_weighs n)

pub falls_by : (p : Position) (n w a b : Tree) → n ≡ a → w ≡ b → weight p b < weight p a → weight p w < weight p n
falls_by p n w a b e f l = subst (λ x. weight p w < weight p x) (sym e) (subst (λ x. weight p x < weight p a) (sym f) l)

member_falls : (s : Seat) (n w : Tree) → Row33 n w → weight (Expr s) w < weight (Expr s) n
member_falls s n w (inl r) = falls_by (Expr s) n w _ _ r.shape r.written (name_falls s r.is_optional r.object r.name)
member_falls s n w (inr r) = falls_by (Expr s) n w _ _ r.shape r.written (number_falls s r.object r.number)

target_falls : (n w : Tree) → Row33 n w → weight Target w < weight Target n
target_falls n w (inl r) = falls_by Target n w _ _ r.shape r.written (name_falls_as_target r.is_optional r.object r.name)
target_falls n w (inr r) = falls_by Target n w _ _ r.shape r.written (number_falls_as_target r.object r.number)

assigned_marks : (s : Seat) (o : AssignmentOperator) (a b c : Tree) → place_weight (Expr s) (shape.AssignmentExpression o) (outlines (a ▸ c ▸ none)) ≡ place_weight (Expr s) (shape.AssignmentExpression o) (outlines (b ▸ c ▸ none))
assigned_marks s o a b c = refl

assigned_falls : (s : Seat) (o : AssignmentOperator) (a b c : Tree) → weight Target b < weight Target a → weight (Expr s) (assignment o b c) < weight (Expr s) (assignment o a c)
assigned_falls s o a b c l = let same = assigned_marks s o a b c in omega (arith, same, l)

updated_marks : (s : Seat) (o : UpdateOperator) (l : Bool) (a b : Tree) → place_weight (Expr s) (shape.UpdateExpression o l) (outlines (a ▸ none)) ≡ place_weight (Expr s) (shape.UpdateExpression o l) (outlines (b ▸ none))
updated_marks s o l a b = refl

updated_falls : (s : Seat) (o : UpdateOperator) (l : Bool) (a b : Tree) → weight Target b < weight Target a → weight (Expr s) (update o l b) < weight (Expr s) (update o l a)
updated_falls s o l a b h = let same = updated_marks s o l a b in omega (arith, same, h)

-- Equalities

-- the seats of the two sides
abbrev left : Seat
left = binary_operand_seat Equality 0

abbrev right : Seat
right = binary_operand_seat Equality 1

side_seats : (o : BinaryOperator) → is_equality o ≡ true → (Expr (binary_operand_seat o 0) ≡ Expr left) × (Expr (binary_operand_seat o 1) ≡ Expr right)
side_seats Equality e = (refl, refl)
side_seats Inequality e = (refl, refl)
side_seats StrictEquality e = (refl, refl)
side_seats StrictInequality e = (refl, refl)
side_seats o e = absurd (true≢false (sym e))

abbrev binary_own : BinaryOperator → Seat → ℕ
binary_own o s = binary_operator_weight o + place_weight (Expr s) (shape.BinaryExpression o) []

binary_marks : (s : Seat) (o : BinaryOperator) (a b : Tree) → place_weight (Expr s) (shape.BinaryExpression o) (outlines (a ▸ b ▸ none)) ≡ place_weight (Expr s) (shape.BinaryExpression o) []
binary_marks s o a b = refl

-- an equality weighs what its sides weigh in their seats, and what is its own
equality_weighs : (o : BinaryOperator) → is_equality o ≡ true → (s : Seat) (a b : Tree) → weight (Expr s) (binary o a b) ≡ binary_own o s + (weight (Expr left) a + weight (Expr right) b)
equality_weighs o e s a b =
    let seats = side_seats o e in
    omega (arith, binary_marks s o a b, ap (λ p. weight p a) seats.0, ap (λ p. weight p b) seats.1)

loose_equality : (o : BinaryOperator) → IsLoose o → is_equality o ≡ true
loose_equality o (inl h) = ap is_equality h
loose_equality o (inr h) = ap is_equality h

-- 58

left_undefined : (u : Tree) → IsUndefined u → weight (Expr left) null_literal < weight (Expr left) u
left_undefined u (inl h) = let same = ap (weight (Expr left)) h in omega (arith, same)
left_undefined u (inr h) = let same = ap (weight (Expr left)) h in omega (arith, same)

right_undefined : (u : Tree) → IsUndefined u → weight (Expr right) null_literal < weight (Expr right) u
right_undefined u (inl h) = let same = ap (weight (Expr right)) h in omega (arith, same)
right_undefined u (inr h) = let same = ap (weight (Expr right)) h in omega (arith, same)

left_falls : (o : BinaryOperator) → IsLoose o → (s : Seat) (u b : Tree) → IsUndefined u → weight (Expr s) (binary o null_literal b) < weight (Expr s) (binary o u b)
left_falls o l s u b h =
    let e = loose_equality o l in
    omega (arith, equality_weighs o e s u b, equality_weighs o e s null_literal b, left_undefined u h)

right_falls : (o : BinaryOperator) → IsLoose o → (s : Seat) (a u : Tree) → IsUndefined u → weight (Expr s) (binary o a null_literal) < weight (Expr s) (binary o a u)
right_falls o l s a u h =
    let e = loose_equality o l in
    omega (arith, equality_weighs o e s a u, equality_weighs o e s a null_literal, right_undefined u h)

-- 54

-- a plain form is awkward on the left
plain_moves : (f : PlainForm) → weight (Expr left) (plain f) ≡ weight (Expr right) (plain f) + 1
plain_moves (a_number (pos n)) = omega arith
plain_moves (a_number (negsuc n)) = omega arith
plain_moves (a_text s) = omega arith
plain_moves (a_boolean b) = omega arith
plain_moves a_null = omega arith
plain_moves (a_big_int n) = omega arith
plain_moves (a_template l raw s) = omega arith
plain_moves a_void = omega arith

-- the seat of the left side without its marks
abbrev middle : Seat
middle = seat_of_level 8

middle_marks : (h : Shape) (os : List Outline) → place_weight (Expr middle) h os ≤ place_weight (Expr right) h os + 0
middle_marks (shape.LogicalExpression Or) os = omega arith
middle_marks (shape.LogicalExpression And) os = omega arith
middle_marks (shape.LogicalExpression Coalesce) os = omega arith
middle_marks (shape.BinaryExpression binary_operator.BitwiseOr) os = omega arith
middle_marks (shape.BinaryExpression binary_operator.BitwiseXor) os = omega arith
middle_marks (shape.BinaryExpression binary_operator.BitwiseAnd) os = omega arith
middle_marks (shape.BinaryExpression o) os = omega arith
middle_marks (shape.NumericLiteral (pos n)) os = omega arith
middle_marks (shape.NumericLiteral (negsuc n)) os = omega arith
middle_marks h os = omega arith

middle_falls : (b : Tree) → weight (Expr middle) b ≤ weight (Expr right) b
middle_falls b = let falls = placed 0 middle right refl middle_marks b in omega (arith, falls)

abbrev mark : Bool → ℕ
mark c = if c then 1 else 0

no_mark : (c : Bool) → c ≡ false → mark c ≡ 0
no_mark false h = refl
no_mark true h = absurd (true≢false h)

-- what is not awkward there weighs no more for the marks
left_is_middle : (b : Tree) → is_awkward_left b ≡ false → is_inner b ≡ false → weight (Expr left) b ≡ weight (Expr middle) b
left_is_middle (node shape.InnerExpression xs n ts) e f = absurd (true≢false f)
left_is_middle (node shape.SequenceExpression xs n ts) e f = absurd (true≢false e)
left_is_middle (node h xs n ts) e f = let none = no_mark (is_awkward left h (outlines ts)) e in omega (arith, none)

swap_falls : (o : BinaryOperator) → is_equality o ≡ true → (s : Seat) (f : PlainForm) (b : Tree) → is_awkward_left b ≡ false → is_inner b ≡ false → weight (Expr s) (binary o b (plain f)) < weight (Expr s) (binary o (plain f) b)
swap_falls o e s f b ready outer =
    omega (arith, equality_weighs o e s (plain f) b, equality_weighs o e s b (plain f), plain_moves f, left_is_middle b ready outer, middle_falls b)

-- 55

typeof_falls : (o : BinaryOperator) → is_equality o ≡ true → (s : Seat) (x : List ℕ) → weight (Expr s) (binary (ordered o) (typeof_name x) (text (codes "u"))) < weight (Expr s) (binary o (typeof_name x) (text (codes "undefined")))
typeof_falls Equality e s x = omega (arith, marks s (shape.BinaryExpression binary_operator.GreaterThan) (outlines (typeof_name x ▸ text (codes "u") ▸ none)))
typeof_falls Inequality e s x = omega (arith, marks s (shape.BinaryExpression binary_operator.LessThan) (outlines (typeof_name x ▸ text (codes "u") ▸ none)))
typeof_falls StrictEquality e s x = omega (arith, marks s (shape.BinaryExpression binary_operator.GreaterThan) (outlines (typeof_name x ▸ text (codes "u") ▸ none)))
typeof_falls StrictInequality e s x = omega (arith, marks s (shape.BinaryExpression binary_operator.LessThan) (outlines (typeof_name x ▸ text (codes "u") ▸ none)))
typeof_falls o e s x = absurd (true≢false (sym e))

-- an operand in the seat of an operator that binds no tighter
pub inside : (l m : ℕ) → l ≤ m → (h : Shape) (r : Bool) → (if nat_lt (level_of h) l || r then 4 else 0) ≤ (if nat_lt (level_of h) m || r then 4 else 0)
inside l m k h r = go (nat_lt (level_of h) l) (nat_lt (level_of h) m) r refl refl
  where
    go : (b c r : Bool) → nat_lt (level_of h) l ≡ b → nat_lt (level_of h) m ≡ c → (if b || r then 4 else 0) ≤ (if c || r then 4 else 0)
    go true true r p q = omega arith
    go false true true p q = omega arith
    go false true false p q = omega arith
    go false false r p q = omega arith
    go true false r p q = absurd (omega (arith, k, ltb-true _ _ p, ltb-false _ _ q))

pub mark_at_most : (b : Bool) → (if b then 1 else 0) ≤ 1
mark_at_most true = omega arith
mark_at_most false = omega arith

-- the operand of `typeof` weighs less on the left of an equality but for a mark
typed_marks : (h : Shape) (os : List Outline) → place_weight (Expr left) h os ≤ place_weight (Expr (unary_operand_seat Typeof)) h os + 1
typed_marks h os = omega (arith, inside 8 14 (omega arith) h (mixes h left.mix || ((left.access && is_chain h) || (left.new_callee && is_call h))), mark_at_most (is_awkward left h os))

operand_falls : (a : Tree) → weight (Expr left) a ≤ weight (Expr (unary_operand_seat Typeof)) a + 1
operand_falls a = placed 1 left (unary_operand_seat Typeof) refl typed_marks a

strict_equality : (o : BinaryOperator) → is_equality o ≡ true → is_equality (strict_operator o) ≡ true
strict_equality Equality e = refl
strict_equality Inequality e = refl
strict_equality StrictEquality e = refl
strict_equality StrictInequality e = refl
strict_equality o e = absurd (true≢false (sym e))

strict_own : (o : BinaryOperator) → is_equality o ≡ true → (s : Seat) → binary_own (strict_operator o) s ≤ binary_own o s + 2
strict_own Equality e s = omega arith
strict_own Inequality e s = omega arith
strict_own StrictEquality e s = omega arith
strict_own StrictInequality e s = omega arith
strict_own o e s = absurd (true≢false (sym e))

void_weighs : weight (Expr right) void_zero ≡ 12
void_weighs =
    let digit : length (signed_decimal (pos 0)) ≡ 1 = ap length (decimal_digit 0 (omega arith)) in
    omega (arith, digit)

value_falls : (o : BinaryOperator) → is_equality o ≡ true → (s : Seat) (a : Tree) → weight (Expr s) (binary (strict_operator o) a void_zero) < weight (Expr s) (binary o (unary Typeof a) (text (codes "undefined")))
value_falls o e s a =
    let before = equality_weighs o e s (unary Typeof a) (text (codes "undefined")) in
    let after = equality_weighs (strict_operator o) (strict_equality o e) s a void_zero in
    omega (arith, before, after, strict_own o e s, operand_falls a, void_weighs)

-- 60

yield_marks : (s : Seat) (a b : Tree) → place_weight (Expr s) (shape.YieldExpression false) (outlines (a ▸ none)) ≡ place_weight (Expr s) (shape.YieldExpression false) (outlines (b ▸ none))
yield_marks s a b = refl

yield_falls : (s : Seat) → weight (Expr s) (yields absent) < weight (Expr s) (yields void_zero)
yield_falls s = let same = yield_marks s absent void_zero in omega (arith, same)

-- parentheses that an operator needs one that binds no tighter needs, too
closer : (a b l : ℕ) → b ≤ a → (r : Bool) → (if nat_lt a l || r then 4 else 0) ≤ (if nat_lt b l || r then 4 else 0)
closer a b l k r = go (nat_lt a l) (nat_lt b l) r refl refl
  where
    go : (c d r : Bool) → nat_lt a l ≡ c → nat_lt b l ≡ d → (if c || r then 4 else 0) ≤ (if d || r then 4 else 0)
    go true true r p q = omega arith
    go false true true p q = omega arith
    go false true false p q = omega arith
    go false false r p q = omega arith
    go true false r p q = absurd (omega (arith, k, ltb-true _ _ p, ltb-false _ _ q))

step_marks : (s : Seat) (o : UpdateOperator) (os ps : List Outline) → place_weight (Expr s) (shape.UpdateExpression o true) os ≤ place_weight (Expr s) (shape.AssignmentExpression Subtraction) ps
step_marks s o os ps = let h = closer (level_of (shape.UpdateExpression o true)) (level_of (shape.AssignmentExpression Subtraction)) s.level (omega arith) (mixes (shape.UpdateExpression o true) s.mix || ((s.access && is_chain (shape.UpdateExpression o true)) || (s.new_callee && is_call (shape.UpdateExpression o true)))) in omega (arith, h)

-- 36: an operator and a number go for another operator
step_falls : (s : Seat) (o : UpdateOperator) (t : Tree) → weight (Expr s) (steps o t) < weight (Expr s) (subtracts o t)
step_falls s Decrement t = omega (arith, ap length (decimal_digit 1 (omega arith)), step_marks s Decrement (outlines (t ▸ none)) (outlines (t ▸ amount Decrement ▸ none)))
step_falls s Increment t = omega (arith, step_marks s Increment (outlines (t ▸ none)) (outlines (t ▸ amount Increment ▸ none)))

-- all

expression_falls : (s : Seat) (n w : Tree) → SpellingRow (Expr s) n w → weight (Expr s) w < weight (Expr s) n
expression_falls s n w (ShortBoolean r) = falls_by (Expr s) n w _ _ r.shape r.written (boolean_falls s r.value)
expression_falls s n w (DottedMember r) = member_falls s n w r
expression_falls s n w (DottedTarget r) = falls_by (Expr s) n w _ _ r.shape r.written (assigned_falls s r.operator r.target r.turned r.value (target_falls r.target r.turned r.member))
expression_falls s n w (DottedUpdate r) = falls_by (Expr s) n w _ _ r.shape r.written (updated_falls s r.operator r.is_prefix r.target r.turned (target_falls r.target r.turned r.member))
expression_falls s n w (LooseLeft r) = falls_by (Expr s) n w _ _ r.shape r.written (left_falls r.operator r.loose s r.left r.right r.undefined)
expression_falls s n w (LooseRight r) = falls_by (Expr s) n w _ _ r.shape r.written (right_falls r.operator r.loose s r.left r.right r.undefined)
expression_falls s n w (SwappedEquality r) = falls_by (Expr s) n w _ _ r.shape r.written (swap_falls r.operator r.equality s r.left r.right r.ready r.outer)
expression_falls s n w (BareYield r) = falls_by (Expr s) n w _ _ r.shape r.written (yield_falls s)
expression_falls s n w (OrderedTypeof r) = falls_by (Expr s) n w _ _ r.shape r.written (typeof_falls r.operator r.equality s r.name)
expression_falls s n w (PlainTemplate r) = falls_by (Expr s) n w _ _ r.shape r.written (text_falls s r.is_tail r.raw r.content r.shorter)
expression_falls s n w (ComparedWithVoid r) = falls_by (Expr s) n w _ _ r.shape r.written (value_falls r.operator r.equality s r.operand)
expression_falls s n w (Stepped r) = falls_by (Expr s) n w _ _ r.shape r.written (step_falls s r.operator r.target)

pub lighter : SpellingsLighter
lighter (Expr s) n w r = expression_falls s n w r
lighter p n w r = absurd r

-- of none of these nodes a parent's weight reads more than that it is there
outline_by_row : (f : Outline → Bool) (p : Position) (n w : Tree) → SpellingRow p n w → f (outline n) ≡ f (outline w)
outline_by_row f p n w r = ap f (kept p n w r)
  where
    member : (n w : Tree) → Row33 n w → outline n ≡ outline w
    member n w (inl r) = ap outline r.shape ∙ sym (ap outline r.written)
    member n w (inr r) = ap outline r.shape ∙ sym (ap outline r.written)

    digit : (b : Bool) → outline (boolean b) ≡ outline (negated_digit b)
    digit true = refl
    digit false = refl

    kept : (p : Position) (n w : Tree) → SpellingRow p n w → outline n ≡ outline w
    kept (Expr s) n w (ShortBoolean r) = ap outline r.shape ∙ digit r.value ∙ sym (ap outline r.written)
    kept (Expr s) n w (DottedMember r) = member n w r
    kept (Expr s) n w (DottedTarget r) = ap outline r.shape ∙ sym (ap outline r.written)
    kept (Expr s) n w (DottedUpdate r) = ap outline r.shape ∙ sym (ap outline r.written)
    kept (Expr s) n w (LooseLeft r) = ap outline r.shape ∙ sym (ap outline r.written)
    kept (Expr s) n w (LooseRight r) = ap outline r.shape ∙ sym (ap outline r.written)
    kept (Expr s) n w (SwappedEquality r) = ap outline r.shape ∙ sym (ap outline r.written)
    kept (Expr s) n w (BareYield r) = ap outline r.shape ∙ sym (ap outline r.written)
    kept (Expr s) n w (OrderedTypeof r) = ap outline r.shape ∙ sym (ap outline r.written)
    kept (Expr s) n w (PlainTemplate r) = ap outline r.shape ∙ sym (ap outline r.written)
    kept (Expr s) n w (ComparedWithVoid r) = ap outline r.shape ∙ sym (ap outline r.written)
    kept (Expr s) n w (Stepped r) = ap outline r.shape ∙ sym (ap outline r.written)
    kept p n w r = absurd r

no_items : (p : Position) (n w : Tree) → SpellingRow p n w → counts_items p ≡ true → (outline n).items ≡ (outline w).items
no_items (Expr s) n w r e = absurd (true≢false (sym e))
no_items p n w r e = absurd r

pub lightens : Lightens SpellingContracts
lightens = record {
  lighter = λ p n w c. c.lighter;
  absent = λ p n w c a. outline_by_row (λ o. o.absent) p n w c.row;
  items = λ p n w c a. no_items p n w c.row a;
  is_zero = λ p n w c a. inl (outline_by_row (λ o. o.is_zero) p n w c.row);
  chooses = λ p n w c a. inl (λ h. sym (outline_by_row (λ o. o.chooses) p n w c.row) ∙ h);
}
