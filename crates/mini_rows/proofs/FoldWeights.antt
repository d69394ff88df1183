-- What a row on what is known writes weighs less wherever the node stands.
use Rattle.std.proofs.Common.{◌≡◌, ℕ, zero, suc, ◌+◌, ◌<◌, ◌≤◌, Bool, true, false, List, [], ◌∷◌, length, Some, refl, sym, ap, subst, ◌∙◌, ◌⊎◌, inl, inr, true≢false, arith, ltb-true, ltb-false}
use Rattle.std.specs.Prelude.{◌||◌, ◌&&◌, ◌/◌, ◌%◌, ◌==◌, nat_lt, not, ℤ, pos, negsuc, if◌then◌else◌}
use Rattle.std.specs.Fmt.{decimal, signed_decimal, digits, digits_onto, digit_glyph}
use Rattle.mini_model.specs.declared.name.Name.{Name}
use Rattle.mini_model.specs.declared.operator.AssignmentOperator.{AssignmentOperator}
use Rattle.mini_model.specs.declared.operator.AssignmentOperator.TheVariants as assigning
use Rattle.mini_model.specs.declared.operator.BinaryOperator.{BinaryOperator}
use Rattle.mini_model.specs.declared.operator.BinaryOperator.TheVariants as binary_operator
use Rattle.mini_model.specs.declared.operator.LogicalOperator.{LogicalOperator}
use Rattle.mini_model.specs.declared.operator.LogicalOperator.TheVariants.{Or, And, Coalesce}
use Rattle.mini_model.specs.declared.operator.UnaryOperator.{UnaryOperator}
use Rattle.mini_model.specs.declared.operator.UnaryOperator.TheVariants as unary_operator
use Rattle.mini_model.specs.declared.place.Position.{Position}
use Rattle.mini_model.specs.declared.place.Position.TheVariants.{Expr, Stmt}
use Rattle.mini_model.specs.declared.seat.Seat.{Seat}
use Rattle.mini_model.specs.declared.seat.StmtSeat.{StmtSeat}
use Rattle.mini_model.specs.declared.shape.Shape.{Shape}
use Rattle.mini_model.specs.declared.shape.Shape.TheVariants as shape
use Rattle.mini_model.specs.Tree.{Tree, Trees, node, ◌▸◌, logical, conditional, expression_statement, empty_statement}
use Rattle.mini_model.specs.Position.{statement_expression_seat, left_operand_seat, right_operand_seat, conditional_test_seat, branch_seat}
use Rattle.mini_model.specs.Weight.{outline, outlines, weight, is_parenthesized, is_awkward, mixes, unary_operator_weight, binary_operator_weight, assignment_operator_weight}
use Rattle.mini_laws.specs.Weights.{Lightens, counts_items}
use Rattle.mini_laws.proofs.Seats.{is_inner, placed_node}
use Rattle.mini_terms.specs.Reading.{is_plain_part_by, first_of, is_plain_part, are_plain_parts}
use Rattle.mini_terms.specs.Parts.{is_number, takes_numbers, suits, weighs}
use Rattle.mini_rows.specs.Folding.{loosened, FoldingRow, FoldingContracts, FoldingsLighter}
use Rattle.mini_rows.specs.Spellings.{binary}
use Rattle.mini_rows.proofs.ChoiceWeights.{name_heavy}
use Rattle.mini_model.specs.declared.operator.UpdateOperator.{UpdateOperator}
use Rattle.mini_model.specs.declared.operator.UpdateOperator.TheVariants.{Increment, Decrement}
use Rattle.mini_rows.specs.Lists.{for_loop}
use Rattle.mini_rows.specs.ForParts.{ForPartRow}
use Rattle.mini_rows.proofs.ForPartMeaning.{idle_is}
use Rattle.mini_rows.proofs.FoldMeaning.{plain_of, number_of}
use Rattle.mini_rows.proofs.SpellWeights.{falls_by}
use Rattle.mini_rows.proofs.TextLength.{length_falls}

-- a text of digits is never empty

picked : (b : Bool) (s t : List ℕ) (n : ℕ) → n ≤ length s → n ≤ length t → n ≤ length (if b then s else t)
picked true s t n h k = h
picked false s t n h k = k

grows : (k base : ℕ) (upper : Bool) (n : ℕ) (acc : List ℕ) → length acc ≤ length (digits_onto k base upper n acc)
grows zero base upper n acc = omega arith
grows (suc k) base upper n acc =
    let rest = grows k base upper (n / base) (digit_glyph upper (n % base) ∷ acc) in
    picked (n / base == 0) (digit_glyph upper (n % base) ∷ acc) (digits_onto k base upper (n / base) (digit_glyph upper (n % base) ∷ acc)) (length acc) (omega arith) (omega (arith, rest))

some_digit : (k base : ℕ) (upper : Bool) (n : ℕ) → 1 ≤ length (digits_onto (suc k) base upper n [])
some_digit k base upper n =
    let rest = grows k base upper (n / base) (digit_glyph upper (n % base) ∷ []) in
    picked (n / base == 0) (digit_glyph upper (n % base) ∷ []) (digits_onto k base upper (n / base) (digit_glyph upper (n % base) ∷ [])) 1 (omega arith) (omega (arith, rest))

decimal_there : (n : ℕ) → 1 ≤ length (decimal n)
unfolding digits
decimal_there n = some_digit 63 10 false n

numeral_there : (n : ℤ) → 1 ≤ length (signed_decimal n)
numeral_there (pos n) = decimal_there n
numeral_there (negsuc n) = omega arith

-- what weighs 2 at least

pub unary_two : (o : UnaryOperator) → 2 ≤ unary_operator_weight o
unary_two unary_operator.Typeof = omega arith
unary_two unary_operator.Void = omega arith
unary_two unary_operator.Delete = omega arith
unary_two o = omega arith

pub binary_two : (o : BinaryOperator) → 2 ≤ binary_operator_weight o
binary_two binary_operator.Equality = omega arith
binary_two binary_operator.Inequality = omega arith
binary_two binary_operator.StrictEquality = omega arith
binary_two binary_operator.StrictInequality = omega arith
binary_two binary_operator.LessEqualThan = omega arith
binary_two binary_operator.GreaterEqualThan = omega arith
binary_two binary_operator.ShiftLeft = omega arith
binary_two binary_operator.ShiftRight = omega arith
binary_two binary_operator.ShiftRightZeroFill = omega arith
binary_two binary_operator.Exponential = omega arith
binary_two binary_operator.BitwiseXor = omega arith
binary_two binary_operator.In = omega arith
binary_two binary_operator.Instanceof = omega arith
binary_two o = omega arith

assignment_two : (o : AssignmentOperator) → 2 ≤ assignment_operator_weight o
assignment_two assigning.Assign = omega arith
assignment_two assigning.Exponential = omega arith
assignment_two assigning.ShiftLeft = omega arith
assignment_two assigning.ShiftRight = omega arith
assignment_two assigning.ShiftRightZeroFill = omega arith
assignment_two assigning.BitwiseXor = omega arith
assignment_two assigning.LogicalOr = omega arith
assignment_two assigning.LogicalAnd = omega arith
assignment_two assigning.LogicalNullish = omega arith
assignment_two o = omega arith

pub two : (s : Seat) (t : Tree) → weighs t ≡ true → 2 ≤ weight (Expr s) t
two s (node shape.Identifier [] n ts) e = absurd (true≢false (sym e))
two s (node shape.Identifier (x ∷ xs) n ts) e = let heavy = name_heavy x in omega (arith, heavy)
two s (node (shape.NumericLiteral m) xs n ts) e = let there = numeral_there m in omega (arith, there)
two s (node (shape.StringLiteral t) xs n ts) e = omega arith
two s (node (shape.BooleanLiteral b) xs n ts) e = omega arith
two s (node shape.NullLiteral xs n ts) e = omega arith
two s (node (shape.BigIntLiteral m) xs n ts) e = omega arith
two s (node (shape.RegExpLiteral pattern flags) xs n ts) e = omega arith
two s (node shape.ThisExpression xs n ts) e = omega arith
two s (node shape.ArrayExpression xs n ts) e = omega arith
two s (node shape.ObjectExpression xs n ts) e = omega arith
two s (node (shape.Function false g ds) xs n ts) e = omega arith
two s (node (shape.ArrowFunctionExpression ds) xs n ts) e = omega arith
two s (node (shape.Class false) xs n ts) e = omega arith
two s (node (shape.UnaryExpression o) xs n ts) e = let heavy = unary_two o in omega (arith, heavy)
two s (node (shape.UpdateExpression o b) xs n ts) e = omega arith
two s (node (shape.BinaryExpression o) xs n ts) e = let heavy = binary_two o in omega (arith, heavy)
two s (node (shape.LogicalExpression o) xs n ts) e = omega arith
two s (node (shape.AssignmentExpression o) xs n ts) e = let heavy = assignment_two o in omega (arith, heavy)
two s (node shape.ConditionalExpression xs n ts) e = omega arith
two s (node (shape.CallExpression b) xs n ts) e = omega arith
two s (node shape.NewExpression xs n ts) e = omega arith
two s (node (shape.StaticMemberExpression b) xs n ts) e = omega arith
two s (node (shape.ComputedMemberExpression b) xs n ts) e = omega arith
two s (node (shape.PrivateFieldExpression b) xs n ts) e = omega arith
two s (node (shape.YieldExpression b) xs n ts) e = omega arith
two s (node shape.TemplateLiteral xs n ts) e = omega arith
two s (node shape.PrivateInExpression xs n ts) e = omega arith
two s (node shape.SuperCallExpression xs n ts) e = omega arith
two s (node shape.SuperStaticMemberExpression xs n ts) e = omega arith
two s (node shape.SuperComputedMemberExpression xs n ts) e = omega arith
two s (node shape.ImportExpression xs n ts) e = omega arith
two s (node (shape.MetaProperty k) xs n ts) e = omega arith
two s (node shape.TaggedTemplateExpression xs n (a ▸ (node shape.TemplateLiteral ys m us ▸ ts))) e = omega arith
two s (node shape.SequenceExpression xs n (node shape.Listed ys m (a ▸ (b ▸ cs)) ▸ ts)) e = omega arith
two s (node shape.ChainExpression xs n (node (shape.CallExpression b) ys m us ▸ ts)) e = omega arith
two s (node shape.ChainExpression xs n (node (shape.StaticMemberExpression b) ys m us ▸ ts)) e = omega arith
two s (node shape.ChainExpression xs n (node (shape.ComputedMemberExpression b) ys m us ▸ ts)) e = omega arith
two s (node shape.ChainExpression xs n (node (shape.PrivateFieldExpression b) ys m us ▸ ts)) e = omega arith
two s t e = absurd (true≢false (sym e))

-- a part in another seat

marks_at_most : (b c : Bool) → (if b then 4 else 0) + (if c then 1 else 0) ≤ 5
marks_at_most true true = omega arith
marks_at_most true false = omega arith
marks_at_most false true = omega arith
marks_at_most false false = omega arith

pub no_inner : (h : Shape) (b : Bool) → is_plain_part_by h b ≡ true → is_inner h ≡ false
no_inner shape.InnerExpression b e = absurd (true≢false (sym e))
no_inner h b e = refl

pub moved : (s s' : Seat) (t : Tree) → is_plain_part t ≡ true → weight (Expr s) t ≤ weight (Expr s') t + 5
moved s s' (node h xs n ts) e = placed_node 5 s s' h (no_inner h (first_of (are_plain_parts ts)) e) xs n ts (let marks = marks_at_most (is_parenthesized h s) (is_awkward s h (outlines ts)) in omega (arith, marks))

right_falls : (o : LogicalOperator) (s : Seat) (a b : Tree) → weighs a ≡ true → is_plain_part b ≡ true → weight (Expr s) b < weight (Expr s) (logical o a b)
right_falls Or s a b h e = let heavy = two (left_operand_seat Or s) a h in let here = moved s (right_operand_seat Or s) b e in omega (arith, heavy, here)
right_falls And s a b h e = let heavy = two (left_operand_seat And s) a h in let here = moved s (right_operand_seat And s) b e in omega (arith, heavy, here)
right_falls Coalesce s a b h e = let heavy = two (left_operand_seat Coalesce s) a h in let here = moved s (right_operand_seat Coalesce s) b e in omega (arith, heavy, here)

left_falls : (o : LogicalOperator) (s : Seat) (a b : Tree) → weighs b ≡ true → is_plain_part a ≡ true → weight (Expr s) a < weight (Expr s) (logical o a b)
left_falls Or s a b h e = let heavy = two (right_operand_seat Or s) b h in let here = moved s (left_operand_seat Or s) a e in omega (arith, heavy, here)
left_falls And s a b h e = let heavy = two (right_operand_seat And s) b h in let here = moved s (left_operand_seat And s) a e in omega (arith, heavy, here)
left_falls Coalesce s a b h e = let heavy = two (right_operand_seat Coalesce s) b h in let here = moved s (left_operand_seat Coalesce s) a e in omega (arith, heavy, here)

-- 49: the test goes, and a branch
branch_falls : (s : Seat) (a b : Tree) → weighs a ≡ true → is_plain_part b ≡ true → weight (Expr s) b < weight (Expr s) (conditional a b b)
branch_falls s a b h e = let heavy = two conditional_test_seat a h in let here = moved s (branch_seat s) b e in omega (arith, heavy, here)

-- 28: a `=` goes

loosened_falls : (o p : BinaryOperator) → loosened o ≡ Some p → (s : Seat) (a b : Tree) → weight (Expr s) (binary p a b) < weight (Expr s) (binary o a b)
loosened_falls binary_operator.StrictEquality p l s a b = subst (λ o. weight (Expr s) (binary o a b) < weight (Expr s) (binary binary_operator.StrictEquality a b)) {x = binary_operator.Equality} {y = p} (cc l) (omega arith)
loosened_falls binary_operator.StrictInequality p l s a b = subst (λ o. weight (Expr s) (binary o a b) < weight (Expr s) (binary binary_operator.StrictInequality a b)) {x = binary_operator.Inequality} {y = p} (cc l) (omega arith)
loosened_falls o p l s a b = absurd (cc l)

-- a number that is 0

-- it has parentheses where any looser expression has
pub zero_marks : (s : Seat) (k : ℕ) → k ≤ 16 → (r : Bool) → (if nat_lt 16 s.level || (false || ((s.access && false) || (s.new_callee && false))) then 4 else 0) ≤ (if nat_lt k s.level || r then 4 else 0)
zero_marks s k h r = go s.access s.new_callee (nat_lt 16 s.level) (nat_lt k s.level) refl refl
  where
    go : (x y b c : Bool) → nat_lt 16 s.level ≡ b → nat_lt k s.level ≡ c → (if b || (false || ((x && false) || (y && false))) then 4 else 0) ≤ (if c || r then 4 else 0)
    go x y true true f g = omega arith
    go x y true false f g = absurd (omega (arith, h, ltb-true 16 s.level f, ltb-false k s.level g))
    go true true false c f g = omega arith
    go true false false c f g = omega arith
    go false true false c f g = omega arith
    go false false false c f g = omega arith

pub mark_at_most : (b : Bool) → (if b then 1 else 0) ≤ 1
mark_at_most true = omega arith
mark_at_most false = omega arith

abbrev zero_literal : List Name → ℕ → Trees → Tree
zero_literal xs n ts = node (shape.NumericLiteral (pos zero)) xs n ts

zero_moved : (s s' : Seat) (k : ℕ) → k ≤ 16 → (r : Bool) (xs : List Name) (n : ℕ) (ts : Trees) → weight (Expr s) (zero_literal xs n ts) ≤ weight (Expr s') (zero_literal xs n ts) + ((if nat_lt k s.level || r then 4 else 0) + 1)
zero_moved s s' k h r xs n ts =
    placed_node ((if nat_lt k s.level || r then 4 else 0) + 1) s s' (shape.NumericLiteral (pos zero)) refl xs n ts
    (let marks = zero_marks s k h r in let awkward = mark_at_most (is_awkward s (shape.NumericLiteral (pos zero)) (outlines ts)) in omega (arith, marks, awkward))

abbrev rest_of : Seat → LogicalOperator → Bool
rest_of s o = mixes (shape.LogicalExpression o) s.mix || ((s.access && false) || (s.new_callee && false))

right_zero_falls : (o : LogicalOperator) (s : Seat) (a : Tree) (xs : List Name) (n : ℕ) (ts : Trees) → weighs a ≡ true → weight (Expr s) (zero_literal xs n ts) + 2 ≤ weight (Expr s) (logical o a (zero_literal xs n ts))
right_zero_falls Or s a xs n ts h = let heavy = two (left_operand_seat Or s) a h in let here = zero_moved s (right_operand_seat Or s) 3 (omega arith) (rest_of s Or) xs n ts in omega (arith, heavy, here)
right_zero_falls And s a xs n ts h = let heavy = two (left_operand_seat And s) a h in let here = zero_moved s (right_operand_seat And s) 4 (omega arith) (rest_of s And) xs n ts in omega (arith, heavy, here)
right_zero_falls Coalesce s a xs n ts h = let heavy = two (left_operand_seat Coalesce s) a h in let here = zero_moved s (right_operand_seat Coalesce s) 3 (omega arith) (rest_of s Coalesce) xs n ts in omega (arith, heavy, here)

left_zero_falls : (o : LogicalOperator) (s : Seat) (b : Tree) (xs : List Name) (n : ℕ) (ts : Trees) → weighs b ≡ true → weight (Expr s) (zero_literal xs n ts) + 2 ≤ weight (Expr s) (logical o (zero_literal xs n ts) b)
left_zero_falls Or s b xs n ts h = let heavy = two (right_operand_seat Or s) b h in let here = zero_moved s (left_operand_seat Or s) 3 (omega arith) (rest_of s Or) xs n ts in omega (arith, heavy, here)
left_zero_falls And s b xs n ts h = let heavy = two (right_operand_seat And s) b h in let here = zero_moved s (left_operand_seat And s) 4 (omega arith) (rest_of s And) xs n ts in omega (arith, heavy, here)
left_zero_falls Coalesce s b xs n ts h = let heavy = two (right_operand_seat Coalesce s) b h in let here = zero_moved s (left_operand_seat Coalesce s) 3 (omega arith) (rest_of s Coalesce) xs n ts in omega (arith, heavy, here)

-- a part that stays is no 0, or it is lighter by enough
abbrev ZeroOr : Position → Tree → Tree → Type 0
ZeroOr p n w = ((outline n).is_zero ≡ (outline w).is_zero) ⊎ (weight p w + 2 ≤ weight p n)

right_zero : (o : LogicalOperator) (s : Seat) (a b : Tree) → weighs a ≡ true → ZeroOr (Expr s) (logical o a b) b
right_zero o s a (node (shape.NumericLiteral (pos zero)) xs n ts) h = inr (right_zero_falls o s a xs n ts h)
right_zero o s a (node h xs n ts) k = inl refl

left_zero : (o : LogicalOperator) (s : Seat) (a b : Tree) → weighs b ≡ true → ZeroOr (Expr s) (logical o a b) a
left_zero o s (node (shape.NumericLiteral (pos zero)) xs n ts) b h = inr (left_zero_falls o s b xs n ts h)
left_zero o s (node h xs n ts) b k = inl refl

branch_zero_falls : (s : Seat) (a : Tree) (xs : List Name) (n : ℕ) (ts : Trees) → weighs a ≡ true → weight (Expr s) (zero_literal xs n ts) + 2 ≤ weight (Expr s) (conditional a (zero_literal xs n ts) (zero_literal xs n ts))
branch_zero_falls s a xs n ts h =
    let heavy = two conditional_test_seat a h in
    let branch = two (branch_seat s) (zero_literal xs n ts) refl in
    let here = moved s (branch_seat s) (zero_literal xs n ts) refl in
    omega (arith, heavy, branch, here)

branch_zero : (s : Seat) (a b : Tree) → weighs a ≡ true → ZeroOr (Expr s) (conditional a b b) b
branch_zero s a (node (shape.NumericLiteral (pos zero)) xs n ts) h = inr (branch_zero_falls s a xs n ts h)
branch_zero s a (node h xs n ts) k = inl refl

statement_falls : (q : StmtSeat) (a : Tree) → weight (Stmt q) empty_statement < weight (Stmt q) (expression_statement a)
statement_falls q a = omega arith

-- 22: a part of the head of a `for` goes
part_falls : (q : StmtSeat) (n w : Tree) → ForPartRow n w → weight (Stmt q) w < weight (Stmt q) n
part_falls q n w (inl r) = let heavy = two statement_expression_seat r.init (idle_is r.init r.idle).heavy in omega (arith, heavy, ap (weight (Stmt q)) r.shape, ap (weight (Stmt q)) r.written)
part_falls q n w (inr r) = let heavy = two statement_expression_seat r.update (idle_is r.update r.idle).heavy in omega (arith, heavy, ap (weight (Stmt q)) r.shape, ap (weight (Stmt q)) r.written)

part_outline : (n w : Tree) → ForPartRow n w → outline n ≡ outline w
part_outline n w (inl r) = ap outline r.shape ∙ sym (ap outline r.written)
part_outline n w (inr r) = ap outline r.shape ∙ sym (ap outline r.written)

pub lighter : FoldingsLighter
lighter (Expr s) n w (inl r) = falls_by (Expr s) n w _ _ r.shape r.written (right_falls r.operator s r.left r.right r.heavy (plain_of s r.right r.stays))
lighter (Expr s) n w (inr (inl r)) = falls_by (Expr s) n w _ _ r.shape r.written (left_falls r.operator s r.left r.right r.heavy (plain_of s r.left r.stays))
lighter (Expr s) n w (inr (inr (inl r))) = falls_by (Expr s) n w _ _ r.shape r.written (loosened_falls r.operator r.loose r.loosens s r.left r.right)
lighter (Expr s) n w (inr (inr (inr (inl r)))) = falls_by (Expr s) n w _ _ r.shape r.written (branch_falls s r.test r.branch r.heavy (plain_of s r.branch r.stays))
lighter (Expr s) n w (inr (inr (inr (inr r)))) = falls_by (Expr s) n w _ _ r.shape r.written (let falls = length_falls s r.units r.small in omega (arith, falls))
lighter (Stmt q) n w (inr r) = part_falls q n w r
lighter (Stmt q) n w (inl r) = falls_by (Stmt q) n w _ _ r.shape r.written (statement_falls q r.expression)
lighter p n w r = absurd r

-- what a parent's weight reads of them

pub there : (t : Tree) → is_plain_part t ≡ true → (outline t).absent ≡ false
there (node shape.Absent xs n ts) e = absurd (true≢false (sym e))
there (node h xs n ts) e = refl

pub no_choice : (t : Tree) → is_plain_part t ≡ true → (outline t).chooses ≡ false
no_choice (node shape.Listed xs n ts) e = absurd (true≢false (sym e))
no_choice (node shape.IfStatement xs n ts) e = absurd (true≢false (sym e))
no_choice (node h xs n ts) e = refl

pub not_a_number : (s : Seat) (t : Tree) → takes_numbers s ≡ false → suits s t ≡ true → is_number t ≡ false
not_a_number s t b h = go (takes_numbers s) (is_number t) b (number_of s t h)
  where
    go : (c d : Bool) → c ≡ false → c || not d ≡ true → d ≡ false
    go c false e f = refl
    go false true e f = absurd (true≢false (sym f))
    go true true e f = absurd (true≢false e)

kept_absent : (p : Position) (n w : Tree) → FoldingRow p n w → (outline n).absent ≡ (outline w).absent
kept_absent (Expr s) n w (inl r) = ap (λ t. (outline t).absent) r.shape ∙ sym (ap (λ t. (outline t).absent) r.written ∙ there r.right (plain_of s r.right r.stays))
kept_absent (Expr s) n w (inr (inl r)) = ap (λ t. (outline t).absent) r.shape ∙ sym (ap (λ t. (outline t).absent) r.written ∙ there r.left (plain_of s r.left r.stays))
kept_absent (Expr s) n w (inr (inr (inl r))) = ap (λ t. (outline t).absent) r.shape ∙ sym (ap (λ t. (outline t).absent) r.written)
kept_absent (Expr s) n w (inr (inr (inr (inr r)))) = ap (λ t. (outline t).absent) r.shape ∙ sym (ap (λ t. (outline t).absent) r.written)
kept_absent (Expr s) n w (inr (inr (inr (inl r)))) = ap (λ t. (outline t).absent) r.shape ∙ sym (ap (λ t. (outline t).absent) r.written ∙ there r.branch (plain_of s r.branch r.stays))
kept_absent (Stmt q) n w (inr r) = ap (λ o. o.absent) (part_outline n w r)
kept_absent (Stmt q) n w (inl r) = ap (λ t. (outline t).absent) r.shape ∙ sym (ap (λ t. (outline t).absent) r.written)
kept_absent p n w r = absurd r

kept_choice : (p : Position) (n w : Tree) → FoldingRow p n w → (outline n).chooses ≡ (outline w).chooses
kept_choice (Expr s) n w (inl r) = ap (λ t. (outline t).chooses) r.shape ∙ sym (ap (λ t. (outline t).chooses) r.written ∙ no_choice r.right (plain_of s r.right r.stays))
kept_choice (Expr s) n w (inr (inl r)) = ap (λ t. (outline t).chooses) r.shape ∙ sym (ap (λ t. (outline t).chooses) r.written ∙ no_choice r.left (plain_of s r.left r.stays))
kept_choice (Expr s) n w (inr (inr (inl r))) = ap (λ t. (outline t).chooses) r.shape ∙ sym (ap (λ t. (outline t).chooses) r.written)
kept_choice (Expr s) n w (inr (inr (inr (inr r)))) = ap (λ t. (outline t).chooses) r.shape ∙ sym (ap (λ t. (outline t).chooses) r.written)
kept_choice (Expr s) n w (inr (inr (inr (inl r)))) = ap (λ t. (outline t).chooses) r.shape ∙ sym (ap (λ t. (outline t).chooses) r.written ∙ no_choice r.branch (plain_of s r.branch r.stays))
kept_choice (Stmt q) n w (inr r) = ap (λ o. o.chooses) (part_outline n w r)
kept_choice (Stmt q) n w (inl r) = ap (λ t. (outline t).chooses) r.shape ∙ sym (ap (λ t. (outline t).chooses) r.written)
kept_choice p n w r = absurd r

zero_by : (p : Position) (n w a b : Tree) → n ≡ a → w ≡ b → ZeroOr p a b → ZeroOr p n w
zero_by p n w a b e f h = subst (λ t. ZeroOr p t w) (sym e) (subst (ZeroOr p a) (sym f) h)

kept_zero : (p : Position) (n w : Tree) → FoldingRow p n w → ZeroOr p n w
kept_zero (Expr s) n w (inl r) = zero_by (Expr s) n w _ _ r.shape r.written (right_zero r.operator s r.left r.right r.heavy)
kept_zero (Expr s) n w (inr (inl r)) = zero_by (Expr s) n w _ _ r.shape r.written (left_zero r.operator s r.left r.right r.heavy)
kept_zero (Expr s) n w (inr (inr (inr (inl r)))) = zero_by (Expr s) n w _ _ r.shape r.written (branch_zero s r.test r.branch r.heavy)
kept_zero (Expr s) n w (inr (inr (inr (inr r)))) = zero_by (Expr s) n w _ _ r.shape r.written (inr (length_falls s r.units r.small))
kept_zero (Expr s) n w (inr (inr (inl r))) = inl (ap (λ t. (outline t).is_zero) r.shape ∙ sym (ap (λ t. (outline t).is_zero) r.written))
kept_zero (Stmt q) n w (inr r) = inl (ap (λ o. o.is_zero) (part_outline n w r))
kept_zero (Stmt q) n w (inl r) = inl (ap (λ t. (outline t).is_zero) r.shape ∙ sym (ap (λ t. (outline t).is_zero) r.written))
kept_zero p n w r = absurd r

no_items : (p : Position) (n w : Tree) → FoldingRow p n w → counts_items p ≡ true → (outline n).items ≡ (outline w).items
no_items (Expr s) n w r e = absurd (true≢false (sym e))
no_items (Stmt q) n w r e = absurd (true≢false (sym e))
no_items p n w r e = absurd r

pub lightens : Lightens FoldingContracts
lightens = record {
  lighter = λ p n w c. c.lighter;
  absent = λ p n w c a. kept_absent p n w c.row;
  items = λ p n w c a. no_items p n w c.row a;
  is_zero = λ p n w c a. kept_zero p n w c.row;
  chooses = λ p n w c a. inl (λ h. sym (kept_choice p n w c.row) ∙ h);
}
