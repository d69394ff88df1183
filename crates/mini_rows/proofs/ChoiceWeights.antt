-- What each row of choices writes weighs less wherever the expression stands.
use Rattle.std.proofs.Common.{◌≡◌, ℕ, ◌+◌, ◌<◌, ◌≤◌, Bool, true, false, Option, None, List, refl, sym, ap, subst, ◌∙◌, inl, inr, true≢false, arith}
use Rattle.std.specs.Prelude.{◌&&◌, ◌||◌, not, nat_eq, nat_lt, if◌then◌else◌, Some, is_none, codes, pos, negsuc}
use borrow.Author.Tests.{ltb-true, ltb-false}
use Rattle.mini_model.specs.declared.name.Name.{Name}
use Rattle.mini_model.specs.declared.operator.AssignmentOperator.{AssignmentOperator}
use Rattle.mini_model.specs.declared.operator.AssignmentOperator.TheVariants as assigning
use Rattle.mini_model.specs.declared.operator.BinaryOperator.{BinaryOperator}
use Rattle.mini_model.specs.declared.operator.BinaryOperator.TheVariants as binary_operator
use Rattle.mini_model.specs.declared.operator.LogicalOperator.{LogicalOperator}
use Rattle.mini_model.specs.declared.operator.LogicalOperator.TheVariants.{Or, And, Coalesce}
use Rattle.mini_model.specs.declared.seat.Seat.{Seat}
use Rattle.mini_model.specs.declared.shape.Shape.{Shape}
use Rattle.mini_model.specs.declared.shape.Shape.TheVariants as shape
use Rattle.mini_model.specs.Tree.{Tree, Trees, node, none, ◌▸◌, identifier, logical, conditional, null_literal}
use Rattle.mini_model.specs.declared.place.Position.{Position}
use Rattle.mini_model.specs.declared.place.Position.TheVariants.{Expr, Target}
use Rattle.mini_model.specs.Position.{passed_part_seat, left_operand_seat, right_operand_seat, argument_seat, branch_seat, binary_operand_seat, conditional_level}
use Rattle.mini_model.specs.Weight.{Outline, outline, outlines, weight, place_weight, is_parenthesized, is_awkward, name_weight, spelled_weight, same_text}
use Rattle.mini_laws.specs.Weights.{Lightens}
use Rattle.mini_laws.proofs.Seats.{placed, placed_node}
use Rattle.mini_rows.specs.Spellings.{binary, assignment}
use Rattle.mini_rows.specs.Choices.{Key, Named, Spelled, Numbered, member_on, keeps_parentheses, asks_object, null_compared, held, ended, assign, is_same_operator, is_grouped, joined, strictly, loosely, joining, AreNullish, deciding, computing, LighterRow, OwnRow, HeldRow, ChoiceRow, ChoiceContracts, ChoicesLighter, Shorter, TestedBranch, SharedBranch, OptionalChain, JoinedCall, ChainLink, ChainEnd, BothSides, ChosenIndexed, ZeroFirst, Rotated, Decided, Combined, NullishIfEqual, NullishIfUnequal, Chosen, LooseNull, LooseNullAfter, ObjectTest, ObjectTestAfter, CombinedMember, ChosenMember, DecidedLast, OrTest, AndTest, AndBoth, OrEither, LastAfterOr, LastAfterAnd, AndThenOr, OrThenAnd, Alike}
use Rattle.mini_rows.specs.Chains.{spine, chain, if_nullish}
use Rattle.mini_terms.specs.Exact.{kept_by_value}
use Rattle.mini_rows.proofs.ChainGuards.{kept_outline}
use Rattle.mini_rows.proofs.ChainLinkLawful.{chains_outline}
use Rattle.mini_rows.proofs.ChainEnds.{end_outline}
use Rattle.mini_rows.specs.Lists.{sequence}
use Rattle.mini_model.specs.Paths.{append}
use Rattle.mini_rows.proofs.ListWeights.{parts_append, sequence_weighs}
use Rattle.mini_rows.proofs.SpellWeights.{falls_by}

-- what a place adds to a node that is neither awkward nor mixed

pub no_awkward : (e t f : Bool) → ◌≡◌ {A = ℕ} (if (e && false) || ((t && false) || (f && false)) then 1 else 0) 0
no_awkward true true true = refl
no_awkward true true false = refl
no_awkward true false true = refl
no_awkward true false false = refl
no_awkward false true true = refl
no_awkward false true false = refl
no_awkward false false true = refl
no_awkward false false false = refl

pub pair_of : (b : Bool) → (if b then 4 else 0) ≤ 4
pair_of true = omega arith
pair_of false = omega arith

pub assignment_marks : (s : Seat) (c : AssignmentOperator) (os : List Outline) → place_weight (Expr s) (shape.AssignmentExpression c) os ≤ 4
assignment_marks s c os = let plain = no_awkward s.eq_left s.cond_test s.lifted in omega (arith, plain, pair_of (is_parenthesized (shape.AssignmentExpression c) s))

pub same_marks : (s : Seat) (c d : AssignmentOperator) (os ps : List Outline) → place_weight (Expr s) (shape.AssignmentExpression c) os ≡ place_weight (Expr s) (shape.AssignmentExpression d) ps
same_marks s c d os ps = refl

pub name_heavy : (x : Name) → 2 ≤ name_weight x
name_heavy x = named (is_none x.symbol)
  where
    spelled' : (b c d : Bool) → 2 ≤ (if b then 18 else (if c then 16 else (if d then 6 else 2)))
    spelled' true c d = omega arith
    spelled' false true d = omega arith
    spelled' false false true = omega arith
    spelled' false false false = omega arith

    named : (b : Bool) → 2 ≤ (if b then spelled_weight x.spelling else 2)
    named true = spelled' (same_text x.spelling (codes "undefined")) (same_text x.spelling (codes "Infinity")) (same_text x.spelling (codes "NaN"))
    named false = omega arith

name_heavy_there : (x : Name) (s : Seat) → 1 ≤ weight (Expr s) (identifier x)
name_heavy_there x s = omega (arith, name_heavy x)

-- 39: what is no expression of the operator weighs no more on the right of it than on the left

abbrev is_grouped_by : LogicalOperator → Shape → Bool
is_grouped_by o (shape.LogicalExpression p) = is_same_operator p o
is_grouped_by o shape.InnerExpression = true
is_grouped_by o _ = false

or_marks : (s s' : Seat) (h : Shape) (os : List Outline) → is_grouped_by Or h ≡ false → place_weight (Expr (right_operand_seat Or s')) h os ≤ place_weight (Expr (left_operand_seat Or s)) h os + 0
or_marks s s' (shape.LogicalExpression Or) os e = absurd (true≢false e)
or_marks s s' (shape.LogicalExpression And) os e = omega arith
or_marks s s' (shape.LogicalExpression Coalesce) os e = omega arith
or_marks s s' (shape.BinaryExpression binary_operator.BitwiseOr) os e = omega arith
or_marks s s' (shape.BinaryExpression p) os e = omega arith
or_marks s s' (shape.NumericLiteral (pos n)) os e = omega arith
or_marks s s' (shape.NumericLiteral (negsuc n)) os e = omega arith
or_marks s s' h os e = omega arith

and_marks : (s s' : Seat) (h : Shape) (os : List Outline) → is_grouped_by And h ≡ false → place_weight (Expr (right_operand_seat And s')) h os ≤ place_weight (Expr (left_operand_seat And s)) h os + 0
and_marks s s' (shape.LogicalExpression Or) os e = omega arith
and_marks s s' (shape.LogicalExpression And) os e = absurd (true≢false e)
and_marks s s' (shape.LogicalExpression Coalesce) os e = omega arith
and_marks s s' (shape.BinaryExpression binary_operator.BitwiseOr) os e = omega arith
and_marks s s' (shape.BinaryExpression p) os e = omega arith
and_marks s s' (shape.NumericLiteral (pos n)) os e = omega arith
and_marks s s' (shape.NumericLiteral (negsuc n)) os e = omega arith
and_marks s s' h os e = omega arith

coalesce_marks : (s s' : Seat) (h : Shape) (os : List Outline) → is_grouped_by Coalesce h ≡ false → place_weight (Expr (right_operand_seat Coalesce s')) h os ≤ place_weight (Expr (left_operand_seat Coalesce s)) h os + 0
coalesce_marks s s' (shape.LogicalExpression Or) os e = omega arith
coalesce_marks s s' (shape.LogicalExpression And) os e = omega arith
coalesce_marks s s' (shape.LogicalExpression Coalesce) os e = absurd (true≢false e)
coalesce_marks s s' (shape.BinaryExpression binary_operator.BitwiseOr) os e = omega arith
coalesce_marks s s' (shape.BinaryExpression p) os e = omega arith
coalesce_marks s s' (shape.NumericLiteral (pos n)) os e = omega arith
coalesce_marks s s' (shape.NumericLiteral (negsuc n)) os e = omega arith
coalesce_marks s s' h os e = omega arith

middle_falls : (o : LogicalOperator) (s s' : Seat) (b : Tree) → is_grouped o b ≡ false → weight (Expr (right_operand_seat o s')) b ≤ weight (Expr (left_operand_seat o s)) b + 0
middle_falls o s s' (node shape.InnerExpression xs n ts) e = absurd (true≢false e)
middle_falls Or s s' (node h xs n ts) e = placed_node 0 (right_operand_seat Or s') (left_operand_seat Or s) h refl xs n ts (or_marks s s' h (outlines ts) e)
middle_falls And s s' (node h xs n ts) e = placed_node 0 (right_operand_seat And s') (left_operand_seat And s) h refl xs n ts (and_marks s s' h (outlines ts) e)
middle_falls Coalesce s s' (node h xs n ts) e = placed_node 0 (right_operand_seat Coalesce s') (left_operand_seat Coalesce s) h refl xs n ts (coalesce_marks s s' h (outlines ts) e)

rotated_falls : (o : LogicalOperator) (s : Seat) (a b c : Tree) → is_grouped o b ≡ false → weight (Expr s) (logical o (logical o a b) c) < weight (Expr s) (logical o a (logical o b c))
rotated_falls Or s a b c e =
    let first = placed 0 (left_operand_seat Or (left_operand_seat Or s)) (left_operand_seat Or s) refl (λ h os. omega arith) a in
    let middle = middle_falls Or (right_operand_seat Or s) (left_operand_seat Or s) b e in
    let last = placed 0 (right_operand_seat Or s) (right_operand_seat Or (right_operand_seat Or s)) refl (λ h os. omega arith) c in
    omega (arith, first, middle, last)
rotated_falls And s a b c e =
    let first = placed 0 (left_operand_seat And (left_operand_seat And s)) (left_operand_seat And s) refl (λ h os. omega arith) a in
    let middle = middle_falls And (right_operand_seat And s) (left_operand_seat And s) b e in
    let last = placed 0 (right_operand_seat And s) (right_operand_seat And (right_operand_seat And s)) refl (λ h os. omega arith) c in
    omega (arith, first, middle, last)
rotated_falls Coalesce s a b c e =
    let first = placed 0 (left_operand_seat Coalesce (left_operand_seat Coalesce s)) (left_operand_seat Coalesce s) refl (λ h os. omega arith) a in
    let middle = middle_falls Coalesce (right_operand_seat Coalesce s) (left_operand_seat Coalesce s) b e in
    let last = placed 0 (right_operand_seat Coalesce s) (right_operand_seat Coalesce (right_operand_seat Coalesce s)) refl (λ h os. omega arith) c in
    omega (arith, first, middle, last)

-- 38: the name, the `=`, and a pair of parentheses go

deciding_falls : (o : LogicalOperator) (s : Seat) (x : Name) (b : Tree) → weight (Expr s) (assignment (deciding o) (identifier x) b) < weight (Expr s) (logical o (identifier x) (assign x b))
deciding_falls Or s x b = omega (arith, assignment_marks s assigning.LogicalOr (outlines (identifier x ▸ b ▸ none)), name_heavy x)
deciding_falls And s x b = omega (arith, assignment_marks s assigning.LogicalAnd (outlines (identifier x ▸ b ▸ none)), name_heavy x)
deciding_falls Coalesce s x b = omega (arith, assignment_marks s assigning.LogicalNullish (outlines (identifier x ▸ b ▸ none)), name_heavy x)

-- 35: the name goes

-- only a sequence has parentheses as an argument, and so it has in every tighter seat
argument_marks : (r : Seat) → nat_lt 0 r.level ≡ true → (h : Shape) (os : List Outline) → place_weight (Expr argument_seat) h os ≤ place_weight (Expr r) h os + 0
argument_marks r e shape.SequenceExpression os = let there = ap {B = ℕ} (λ b. if b || (false || ((r.access && false) || (r.new_callee && false))) then 4 else 0) e in omega (arith, there)
argument_marks r e (shape.LogicalExpression Or) os = omega arith
argument_marks r e (shape.LogicalExpression o) os = omega arith
argument_marks r e (shape.BinaryExpression binary_operator.BitwiseOr) os = omega arith
argument_marks r e (shape.BinaryExpression o) os = omega arith
argument_marks r e (shape.NumericLiteral (pos n)) os = omega arith
argument_marks r e (shape.NumericLiteral (negsuc n)) os = omega arith
argument_marks r e h os = omega arith

abbrev Falls : Seat → BinaryOperator → Name → Tree → AssignmentOperator → Type 0
Falls s o x b c = weight (Expr s) (assignment c (identifier x) b) < weight (Expr s) (assign x (binary o (identifier x) b))

pub right_falls : (r : Seat) → nat_lt 0 r.level ≡ true → (b : Tree) → weight (Expr argument_seat) b ≤ weight (Expr r) b + 0
right_falls r e b = placed 0 argument_seat r refl (argument_marks r e) b

computing_falls : (o : BinaryOperator) (c : AssignmentOperator) → computing o ≡ Some c → (s : Seat) (x : Name) (b : Tree) → Falls s o x b c
computing_falls binary_operator.Addition c h s x b = subst (Falls s binary_operator.Addition x b) {x = assigning.Addition} {y = c} (cc h) (omega (arith, right_falls (binary_operand_seat binary_operator.Addition 1) refl b, name_heavy x, same_marks s assigning.Addition assigning.Assign (outlines (identifier x ▸ b ▸ none)) (outlines (identifier x ▸ binary binary_operator.Addition (identifier x) b ▸ none))))
computing_falls binary_operator.Subtraction c h s x b = subst (Falls s binary_operator.Subtraction x b) {x = assigning.Subtraction} {y = c} (cc h) (omega (arith, right_falls (binary_operand_seat binary_operator.Subtraction 1) refl b, name_heavy x, same_marks s assigning.Subtraction assigning.Assign (outlines (identifier x ▸ b ▸ none)) (outlines (identifier x ▸ binary binary_operator.Subtraction (identifier x) b ▸ none))))
computing_falls binary_operator.Multiplication c h s x b = subst (Falls s binary_operator.Multiplication x b) {x = assigning.Multiplication} {y = c} (cc h) (omega (arith, right_falls (binary_operand_seat binary_operator.Multiplication 1) refl b, name_heavy x, same_marks s assigning.Multiplication assigning.Assign (outlines (identifier x ▸ b ▸ none)) (outlines (identifier x ▸ binary binary_operator.Multiplication (identifier x) b ▸ none))))
computing_falls binary_operator.Division c h s x b = subst (Falls s binary_operator.Division x b) {x = assigning.Division} {y = c} (cc h) (omega (arith, right_falls (binary_operand_seat binary_operator.Division 1) refl b, name_heavy x, same_marks s assigning.Division assigning.Assign (outlines (identifier x ▸ b ▸ none)) (outlines (identifier x ▸ binary binary_operator.Division (identifier x) b ▸ none))))
computing_falls binary_operator.Remainder c h s x b = subst (Falls s binary_operator.Remainder x b) {x = assigning.Remainder} {y = c} (cc h) (omega (arith, right_falls (binary_operand_seat binary_operator.Remainder 1) refl b, name_heavy x, same_marks s assigning.Remainder assigning.Assign (outlines (identifier x ▸ b ▸ none)) (outlines (identifier x ▸ binary binary_operator.Remainder (identifier x) b ▸ none))))
computing_falls binary_operator.Exponential c h s x b = subst (Falls s binary_operator.Exponential x b) {x = assigning.Exponential} {y = c} (cc h) (omega (arith, right_falls (binary_operand_seat binary_operator.Exponential 1) refl b, name_heavy x, same_marks s assigning.Exponential assigning.Assign (outlines (identifier x ▸ b ▸ none)) (outlines (identifier x ▸ binary binary_operator.Exponential (identifier x) b ▸ none))))
computing_falls binary_operator.ShiftLeft c h s x b = subst (Falls s binary_operator.ShiftLeft x b) {x = assigning.ShiftLeft} {y = c} (cc h) (omega (arith, right_falls (binary_operand_seat binary_operator.ShiftLeft 1) refl b, name_heavy x, same_marks s assigning.ShiftLeft assigning.Assign (outlines (identifier x ▸ b ▸ none)) (outlines (identifier x ▸ binary binary_operator.ShiftLeft (identifier x) b ▸ none))))
computing_falls binary_operator.ShiftRight c h s x b = subst (Falls s binary_operator.ShiftRight x b) {x = assigning.ShiftRight} {y = c} (cc h) (omega (arith, right_falls (binary_operand_seat binary_operator.ShiftRight 1) refl b, name_heavy x, same_marks s assigning.ShiftRight assigning.Assign (outlines (identifier x ▸ b ▸ none)) (outlines (identifier x ▸ binary binary_operator.ShiftRight (identifier x) b ▸ none))))
computing_falls binary_operator.ShiftRightZeroFill c h s x b = subst (Falls s binary_operator.ShiftRightZeroFill x b) {x = assigning.ShiftRightZeroFill} {y = c} (cc h) (omega (arith, right_falls (binary_operand_seat binary_operator.ShiftRightZeroFill 1) refl b, name_heavy x, same_marks s assigning.ShiftRightZeroFill assigning.Assign (outlines (identifier x ▸ b ▸ none)) (outlines (identifier x ▸ binary binary_operator.ShiftRightZeroFill (identifier x) b ▸ none))))
computing_falls binary_operator.BitwiseAnd c h s x b = subst (Falls s binary_operator.BitwiseAnd x b) {x = assigning.BitwiseAnd} {y = c} (cc h) (omega (arith, right_falls (binary_operand_seat binary_operator.BitwiseAnd 1) refl b, name_heavy x, same_marks s assigning.BitwiseAnd assigning.Assign (outlines (identifier x ▸ b ▸ none)) (outlines (identifier x ▸ binary binary_operator.BitwiseAnd (identifier x) b ▸ none))))
computing_falls binary_operator.BitwiseXor c h s x b = subst (Falls s binary_operator.BitwiseXor x b) {x = assigning.BitwiseXor} {y = c} (cc h) (omega (arith, right_falls (binary_operand_seat binary_operator.BitwiseXor 1) refl b, name_heavy x, same_marks s assigning.BitwiseXor assigning.Assign (outlines (identifier x ▸ b ▸ none)) (outlines (identifier x ▸ binary binary_operator.BitwiseXor (identifier x) b ▸ none))))
computing_falls binary_operator.BitwiseOr c h s x b = subst (Falls s binary_operator.BitwiseOr x b) {x = assigning.BitwiseOr} {y = c} (cc h) (omega (arith, right_falls (binary_operand_seat binary_operator.BitwiseOr 1) refl b, name_heavy x, same_marks s assigning.BitwiseOr assigning.Assign (outlines (identifier x ▸ b ▸ none)) (outlines (identifier x ▸ binary binary_operator.BitwiseOr (identifier x) b ▸ none))))
computing_falls o c h s x b = absurd (cc h)

-- 35: a member goes

pub member_heavy : (s : Seat) (t : Tree) (k : Key) → 1 ≤ weight (Expr s) (member_on t k)
member_heavy s t (Named i) = omega arith
member_heavy s t (Spelled i) = omega arith
member_heavy s t (Numbered n) = omega arith

abbrev MemberFalls : Seat → BinaryOperator → Tree → Key → Tree → AssignmentOperator → Type 0
MemberFalls s o t k b c = weight (Expr s) (assignment c (member_on t k) b) < weight (Expr s) (assignment assigning.Assign (member_on t k) (binary o (member_on t k) b))

pub computing_member_falls : (o : BinaryOperator) (c : AssignmentOperator) → computing o ≡ Some c → (s : Seat) (t : Tree) (k : Key) (b : Tree) → MemberFalls s o t k b c
computing_member_falls binary_operator.Addition c h s t k b = subst (MemberFalls s binary_operator.Addition t k b) {x = assigning.Addition} {y = c} (cc h) (omega (arith, right_falls (binary_operand_seat binary_operator.Addition 1) refl b, member_heavy (binary_operand_seat binary_operator.Addition 0) t k, same_marks s assigning.Addition assigning.Assign (outlines (member_on t k ▸ b ▸ none)) (outlines (member_on t k ▸ binary binary_operator.Addition (member_on t k) b ▸ none))))
computing_member_falls binary_operator.Subtraction c h s t k b = subst (MemberFalls s binary_operator.Subtraction t k b) {x = assigning.Subtraction} {y = c} (cc h) (omega (arith, right_falls (binary_operand_seat binary_operator.Subtraction 1) refl b, member_heavy (binary_operand_seat binary_operator.Subtraction 0) t k, same_marks s assigning.Subtraction assigning.Assign (outlines (member_on t k ▸ b ▸ none)) (outlines (member_on t k ▸ binary binary_operator.Subtraction (member_on t k) b ▸ none))))
computing_member_falls binary_operator.Multiplication c h s t k b = subst (MemberFalls s binary_operator.Multiplication t k b) {x = assigning.Multiplication} {y = c} (cc h) (omega (arith, right_falls (binary_operand_seat binary_operator.Multiplication 1) refl b, member_heavy (binary_operand_seat binary_operator.Multiplication 0) t k, same_marks s assigning.Multiplication assigning.Assign (outlines (member_on t k ▸ b ▸ none)) (outlines (member_on t k ▸ binary binary_operator.Multiplication (member_on t k) b ▸ none))))
computing_member_falls binary_operator.Division c h s t k b = subst (MemberFalls s binary_operator.Division t k b) {x = assigning.Division} {y = c} (cc h) (omega (arith, right_falls (binary_operand_seat binary_operator.Division 1) refl b, member_heavy (binary_operand_seat binary_operator.Division 0) t k, same_marks s assigning.Division assigning.Assign (outlines (member_on t k ▸ b ▸ none)) (outlines (member_on t k ▸ binary binary_operator.Division (member_on t k) b ▸ none))))
computing_member_falls binary_operator.Remainder c h s t k b = subst (MemberFalls s binary_operator.Remainder t k b) {x = assigning.Remainder} {y = c} (cc h) (omega (arith, right_falls (binary_operand_seat binary_operator.Remainder 1) refl b, member_heavy (binary_operand_seat binary_operator.Remainder 0) t k, same_marks s assigning.Remainder assigning.Assign (outlines (member_on t k ▸ b ▸ none)) (outlines (member_on t k ▸ binary binary_operator.Remainder (member_on t k) b ▸ none))))
computing_member_falls binary_operator.Exponential c h s t k b = subst (MemberFalls s binary_operator.Exponential t k b) {x = assigning.Exponential} {y = c} (cc h) (omega (arith, right_falls (binary_operand_seat binary_operator.Exponential 1) refl b, member_heavy (binary_operand_seat binary_operator.Exponential 0) t k, same_marks s assigning.Exponential assigning.Assign (outlines (member_on t k ▸ b ▸ none)) (outlines (member_on t k ▸ binary binary_operator.Exponential (member_on t k) b ▸ none))))
computing_member_falls binary_operator.ShiftLeft c h s t k b = subst (MemberFalls s binary_operator.ShiftLeft t k b) {x = assigning.ShiftLeft} {y = c} (cc h) (omega (arith, right_falls (binary_operand_seat binary_operator.ShiftLeft 1) refl b, member_heavy (binary_operand_seat binary_operator.ShiftLeft 0) t k, same_marks s assigning.ShiftLeft assigning.Assign (outlines (member_on t k ▸ b ▸ none)) (outlines (member_on t k ▸ binary binary_operator.ShiftLeft (member_on t k) b ▸ none))))
computing_member_falls binary_operator.ShiftRight c h s t k b = subst (MemberFalls s binary_operator.ShiftRight t k b) {x = assigning.ShiftRight} {y = c} (cc h) (omega (arith, right_falls (binary_operand_seat binary_operator.ShiftRight 1) refl b, member_heavy (binary_operand_seat binary_operator.ShiftRight 0) t k, same_marks s assigning.ShiftRight assigning.Assign (outlines (member_on t k ▸ b ▸ none)) (outlines (member_on t k ▸ binary binary_operator.ShiftRight (member_on t k) b ▸ none))))
computing_member_falls binary_operator.ShiftRightZeroFill c h s t k b = subst (MemberFalls s binary_operator.ShiftRightZeroFill t k b) {x = assigning.ShiftRightZeroFill} {y = c} (cc h) (omega (arith, right_falls (binary_operand_seat binary_operator.ShiftRightZeroFill 1) refl b, member_heavy (binary_operand_seat binary_operator.ShiftRightZeroFill 0) t k, same_marks s assigning.ShiftRightZeroFill assigning.Assign (outlines (member_on t k ▸ b ▸ none)) (outlines (member_on t k ▸ binary binary_operator.ShiftRightZeroFill (member_on t k) b ▸ none))))
computing_member_falls binary_operator.BitwiseAnd c h s t k b = subst (MemberFalls s binary_operator.BitwiseAnd t k b) {x = assigning.BitwiseAnd} {y = c} (cc h) (omega (arith, right_falls (binary_operand_seat binary_operator.BitwiseAnd 1) refl b, member_heavy (binary_operand_seat binary_operator.BitwiseAnd 0) t k, same_marks s assigning.BitwiseAnd assigning.Assign (outlines (member_on t k ▸ b ▸ none)) (outlines (member_on t k ▸ binary binary_operator.BitwiseAnd (member_on t k) b ▸ none))))
computing_member_falls binary_operator.BitwiseXor c h s t k b = subst (MemberFalls s binary_operator.BitwiseXor t k b) {x = assigning.BitwiseXor} {y = c} (cc h) (omega (arith, right_falls (binary_operand_seat binary_operator.BitwiseXor 1) refl b, member_heavy (binary_operand_seat binary_operator.BitwiseXor 0) t k, same_marks s assigning.BitwiseXor assigning.Assign (outlines (member_on t k ▸ b ▸ none)) (outlines (member_on t k ▸ binary binary_operator.BitwiseXor (member_on t k) b ▸ none))))
computing_member_falls binary_operator.BitwiseOr c h s t k b = subst (MemberFalls s binary_operator.BitwiseOr t k b) {x = assigning.BitwiseOr} {y = c} (cc h) (omega (arith, right_falls (binary_operand_seat binary_operator.BitwiseOr 1) refl b, member_heavy (binary_operand_seat binary_operator.BitwiseOr 0) t k, same_marks s assigning.BitwiseOr assigning.Assign (outlines (member_on t k ▸ b ▸ none)) (outlines (member_on t k ▸ binary binary_operator.BitwiseOr (member_on t k) b ▸ none))))
computing_member_falls o c h s t k b = absurd (cc h)

-- 45: a name and its `=` go

pub loose_marks : (s : Seat) (o : AssignmentOperator) (os ps : List Outline) → nat_eq s.level conditional_level ≡ false → place_weight (Expr s) (shape.AssignmentExpression o) os ≤ place_weight (Expr s) shape.ConditionalExpression ps
loose_marks s o os ps e = let plain = no_awkward s.eq_left s.cond_test s.lifted in let less = parens (nat_lt 1 s.level) (nat_lt 2 s.level) refl refl in omega (arith, plain, less)
  where
    parens : (b c : Bool) → nat_lt 1 s.level ≡ b → nat_lt 2 s.level ≡ c → (if b || (false || ((s.access && false) || (s.new_callee && false))) then 4 else 0) ≤ (if c || (false || ((s.access && false) || (s.new_callee && false))) then 4 else 0)
    parens true true f g = omega arith
    parens false true f g = pair_of (false || ((s.access && false) || (s.new_callee && false)))
    parens false false f g = omega arith
    parens true false f g =
        let level : s.level ≡ 2 = omega (arith, ltb-true _ _ f, ltb-false _ _ g) in
        absurd (true≢false (sym (ap (λ l. nat_eq l 2) level) ∙ e))

pub chosen_falls : (s : Seat) → nat_eq s.level conditional_level ≡ false → (o : AssignmentOperator) (a : Tree) (x : Name) (b c : Tree) → weight (Expr s) (assignment o (identifier x) (conditional a b c)) < weight (Expr s) (conditional a (assignment o (identifier x) b) (assignment o (identifier x) c))
chosen_falls s e o a x b c =
    let marks = loose_marks s o (outlines (identifier x ▸ conditional a b c ▸ none)) (outlines (a ▸ assignment o (identifier x) b ▸ assignment o (identifier x) c ▸ none)) e in
    let first = placed 0 (branch_seat argument_seat) argument_seat refl (λ h os. omega arith) b in
    let second = placed 0 (branch_seat argument_seat) argument_seat refl (λ h os. omega arith) c in
    omega (arith, marks, first, second, name_heavy x)

target_heavy : (t : Tree) (k : Key) → 1 ≤ weight Target (member_on t k)
target_heavy t (Named i) = omega arith
target_heavy t (Spelled i) = omega arith
target_heavy t (Numbered n) = omega arith

pub chosen_member_falls : (s : Seat) → nat_eq s.level conditional_level ≡ false → (a : Tree) (t : Tree) (k : Key) (b c : Tree) → weight (Expr s) (assignment assigning.Assign (member_on t k) (conditional a b c)) < weight (Expr s) (conditional a (assignment assigning.Assign (member_on t k) b) (assignment assigning.Assign (member_on t k) c))
chosen_member_falls s e a t k b c =
    let marks = loose_marks s assigning.Assign (outlines (member_on t k ▸ conditional a b c ▸ none)) (outlines (a ▸ assignment assigning.Assign (member_on t k) b ▸ assignment assigning.Assign (member_on t k) c ▸ none)) e in
    let first = placed 0 (branch_seat argument_seat) argument_seat refl (λ h os. omega arith) b in
    let second = placed 0 (branch_seat argument_seat) argument_seat refl (λ h os. omega arith) c in
    omega (arith, marks, first, second, target_heavy t k)

-- 38, of what is assigned last: the name and the `=` go

pairs_at_most : (a b : Bool) → (not a || b) ≡ true → (if a then 4 else 0) ≤ (if b then 4 else 0)
pairs_at_most true true e = omega arith
pairs_at_most true false e = absurd (cc e)
pairs_at_most false b e = at_least b
  where
    at_least : (b : Bool) → 0 ≤ (if b then 4 else 0)
    at_least true = omega arith
    at_least false = omega arith

abbrev pub LastFalls : LogicalOperator → Seat → Tree → Tree → Trees → Tree → Type 0
LastFalls o s t p ps b = weight (Expr s) (assignment (deciding o) t (sequence (p ▸ append ps (b ▸ none)))) < weight (Expr s) (logical o t (sequence (p ▸ append ps (assignment assigning.Assign t b ▸ none))))

pub last_falls : (o : LogicalOperator) (s : Seat) (t : Tree) (p : Tree) (ps : Trees) (b : Tree) → keeps_parentheses o s ≡ true → ((s : Seat) → 1 ≤ weight (Expr s) t) → LastFalls o s t p ps b
last_falls Or s t p ps b e h =
    let before = sequence_weighs (right_operand_seat Or s) p (append ps (assignment assigning.Assign t b ▸ none)) in
    let after = sequence_weighs argument_seat p (append ps (b ▸ none)) in
    let one = parts_append ps (assignment assigning.Assign t b) none in
    let other = parts_append ps b none in
    let moved = placed 0 passed_part_seat argument_seat refl (λ h os. omega arith) b in
    let less = pairs_at_most (is_parenthesized (shape.AssignmentExpression assigning.LogicalOr) s) (is_parenthesized (shape.LogicalExpression Or) s) e in
    omega (arith, before, after, one, other, moved, less, h (left_operand_seat Or s), no_awkward s.eq_left s.cond_test s.lifted)
last_falls And s t p ps b e h =
    let before = sequence_weighs (right_operand_seat And s) p (append ps (assignment assigning.Assign t b ▸ none)) in
    let after = sequence_weighs argument_seat p (append ps (b ▸ none)) in
    let one = parts_append ps (assignment assigning.Assign t b) none in
    let other = parts_append ps b none in
    let moved = placed 0 passed_part_seat argument_seat refl (λ h os. omega arith) b in
    let less = pairs_at_most (is_parenthesized (shape.AssignmentExpression assigning.LogicalAnd) s) (is_parenthesized (shape.LogicalExpression And) s) e in
    omega (arith, before, after, one, other, moved, less, h (left_operand_seat And s), no_awkward s.eq_left s.cond_test s.lifted)
last_falls Coalesce s t p ps b e h =
    let before = sequence_weighs (right_operand_seat Coalesce s) p (append ps (assignment assigning.Assign t b ▸ none)) in
    let after = sequence_weighs argument_seat p (append ps (b ▸ none)) in
    let one = parts_append ps (assignment assigning.Assign t b) none in
    let other = parts_append ps b none in
    let moved = placed 0 passed_part_seat argument_seat refl (λ h os. omega arith) b in
    let less = pairs_at_most (is_parenthesized (shape.AssignmentExpression assigning.LogicalNullish) s) (is_parenthesized (shape.LogicalExpression Coalesce) s) e in
    omega (arith, before, after, one, other, moved, less, h (left_operand_seat Coalesce s), no_awkward s.eq_left s.cond_test s.lifted)

-- 46: the comparison and the second name weigh more than a pair of parentheses round each

right_marks : (b : Bool) → (if b then 4 else 0) + (if false || (false || false) then 1 else 0) ≤ 4
right_marks true = omega arith
right_marks false = omega arith

pub coalesced_falls : (s : Seat) (b : Tree) → weight (Expr (right_operand_seat Coalesce s)) b ≤ weight (Expr (branch_seat s)) b + 4
coalesced_falls s b = placed 4 (right_operand_seat Coalesce s) (branch_seat s) refl (λ h os. omega (arith, right_marks (is_parenthesized h (right_operand_seat Coalesce s)))) b

pub coalesce_at_most : (s : Seat) (os : List Outline) → place_weight (Expr s) (shape.LogicalExpression Coalesce) os ≤ 4
coalesce_at_most s os = let plain = no_awkward s.eq_left s.cond_test s.lifted in omega (arith, plain, pair_of (is_parenthesized (shape.LogicalExpression Coalesce) s))

equal_falls : (s : Seat) (x : Name) (b : Tree) → weight (Expr s) (logical Coalesce (identifier x) b) < weight (Expr s) (conditional (binary binary_operator.Equality (identifier x) null_literal) b (identifier x))
equal_falls s x b = omega (arith, coalesced_falls s b, coalesce_at_most s (outlines (identifier x ▸ b ▸ none)), name_heavy x)

unequal_falls : (s : Seat) (x : Name) (b : Tree) → weight (Expr s) (logical Coalesce (identifier x) b) < weight (Expr s) (conditional (binary binary_operator.Inequality (identifier x) null_literal) (identifier x) b)
unequal_falls s x b = omega (arith, coalesced_falls s b, coalesce_at_most s (outlines (identifier x ▸ b ▸ none)), name_heavy x)

-- 39: the operands that follow the first on the right stand with it on the left, and the parentheses round all go

regrouped_falls : (o : LogicalOperator) (s : Seat) (a b c : Tree) → weight (Expr s) (logical o (logical o a b) c) ≤ weight (Expr s) (logical o a (logical o b c))
regrouped_falls Or s a b c =
    let first = placed 0 (left_operand_seat Or (left_operand_seat Or s)) (left_operand_seat Or s) refl (λ h os. omega arith) a in
    let middle = placed 4 (right_operand_seat Or (left_operand_seat Or s)) (left_operand_seat Or (right_operand_seat Or s)) refl (λ h os. omega (arith, right_marks (is_parenthesized h (right_operand_seat Or (left_operand_seat Or s))))) b in
    let last = placed 0 (right_operand_seat Or s) (right_operand_seat Or (right_operand_seat Or s)) refl (λ h os. omega arith) c in
    omega (arith, first, middle, last)
regrouped_falls And s a b c =
    let first = placed 0 (left_operand_seat And (left_operand_seat And s)) (left_operand_seat And s) refl (λ h os. omega arith) a in
    let middle = placed 4 (right_operand_seat And (left_operand_seat And s)) (left_operand_seat And (right_operand_seat And s)) refl (λ h os. omega (arith, right_marks (is_parenthesized h (right_operand_seat And (left_operand_seat And s))))) b in
    let last = placed 0 (right_operand_seat And s) (right_operand_seat And (right_operand_seat And s)) refl (λ h os. omega arith) c in
    omega (arith, first, middle, last)
regrouped_falls Coalesce s a b c =
    let first = placed 0 (left_operand_seat Coalesce (left_operand_seat Coalesce s)) (left_operand_seat Coalesce s) refl (λ h os. omega arith) a in
    let middle = placed 4 (right_operand_seat Coalesce (left_operand_seat Coalesce s)) (left_operand_seat Coalesce (right_operand_seat Coalesce s)) refl (λ h os. omega (arith, right_marks (is_parenthesized h (right_operand_seat Coalesce (left_operand_seat Coalesce s))))) b in
    let last = placed 0 (right_operand_seat Coalesce s) (right_operand_seat Coalesce (right_operand_seat Coalesce s)) refl (λ h os. omega arith) c in
    omega (arith, first, middle, last)

left_falls : (o : LogicalOperator) (s : Seat) (a b c : Tree) → weight (Expr (left_operand_seat o s)) a < weight (Expr (left_operand_seat o s)) b → weight (Expr s) (logical o a c) < weight (Expr s) (logical o b c)
left_falls o s a b c less = omega (arith, less)

less_at_most : (x y z : ℕ) → x < y → y ≤ z → x < z
less_at_most x y z h k = omega arith

joined_falls : (o : LogicalOperator) (s : Seat) (a b c : Tree) (cs : Trees) → is_grouped o b ≡ false → weight (Expr s) (joined o (logical o a b) (c ▸ cs)) < weight (Expr s) (logical o a (joined o b (c ▸ cs)))
joined_falls o s a b c none e = rotated_falls o s a b c e
joined_falls o s a b c (d ▸ cs) e =
    less_at_most _ _ _
    (left_falls o s (joined o (logical o a b) (d ▸ cs)) (logical o a (joined o b (d ▸ cs))) c (joined_falls o (left_operand_seat o s) a b d cs e))
    (regrouped_falls o s a (joined o b (d ▸ cs)) c)

-- 37: a comparison and what joins the two go

mark_of : (b : Bool) → (if b then 1 else 0) ≤ 1
mark_of true = omega arith
mark_of false = omega arith

loose_light : (s : Seat) (equal : Bool) (x : Name) → weight (Expr s) (binary (loosely equal) (identifier x) null_literal) ≤ 17 + name_weight x
loose_light s true x = omega (arith, pair_of (is_parenthesized (shape.BinaryExpression binary_operator.Equality) s), mark_of (is_awkward s (shape.BinaryExpression binary_operator.Equality) (outlines (identifier x ▸ null_literal ▸ none))))
loose_light s false x = omega (arith, pair_of (is_parenthesized (shape.BinaryExpression binary_operator.Inequality) s), mark_of (is_awkward s (shape.BinaryExpression binary_operator.Inequality) (outlines (identifier x ▸ null_literal ▸ none))))

strict_heavy : (s : Seat) (equal : Bool) (x : Name) (f : Tree) → 6 + name_weight x ≤ weight (Expr s) (binary (strictly equal) (identifier x) f)
strict_heavy s true x f = omega arith
strict_heavy s false x f = omega arith

null_heavy : (s : Seat) (equal : Bool) (x : Name) (f : Tree) → f ≡ null_literal → 14 + name_weight x ≤ weight (Expr s) (binary (strictly equal) (identifier x) f)
null_heavy s true x f e = subst (λ (f : Tree). 14 + name_weight x ≤ weight (Expr s) (binary (strictly true) (identifier x) f)) (sym e) (omega arith)
null_heavy s false x f e = subst (λ (f : Tree). 14 + name_weight x ≤ weight (Expr s) (binary (strictly false) (identifier x) f)) (sym e) (omega arith)

added : (n u v : ℕ) → 14 + n ≤ u → 6 + n ≤ v → 20 + n + n ≤ u + v
added n u v h k = omega arith

added' : (n u v : ℕ) → 6 + n ≤ u → 14 + n ≤ v → 20 + n + n ≤ u + v
added' n u v h k = omega arith

-- both comparisons
both_heavy : (s t : Seat) (equal : Bool) (x : Name) (f g : Tree) → AreNullish f g → 20 + name_weight x + name_weight x ≤ weight (Expr s) (binary (strictly equal) (identifier x) f) + weight (Expr t) (binary (strictly equal) (identifier x) g)
both_heavy s t equal x f g (inl h) = added _ _ _ (null_heavy s equal x f h.0) (strict_heavy t equal x g)
both_heavy s t equal x f g (inr h) = added' _ _ _ (strict_heavy s equal x f) (null_heavy t equal x g h.1)

compared_falls : (s : Seat) (equal : Bool) (x : Name) (f g : Tree) → AreNullish f g → weight (Expr s) (binary (loosely equal) (identifier x) null_literal) < weight (Expr s) (logical (joining equal) (binary (strictly equal) (identifier x) f) (binary (strictly equal) (identifier x) g))
compared_falls s true x f g h = omega (arith, loose_light s true x, both_heavy (left_operand_seat Or s) (right_operand_seat Or s) true x f g h)
compared_falls s false x f g h = omega (arith, loose_light s false x, both_heavy (left_operand_seat And s) (right_operand_seat And s) false x f g h)

compared_after_falls : (s : Seat) (equal : Bool) (a : Tree) (x : Name) (f g : Tree) → AreNullish f g → weight (Expr s) (logical (joining equal) a (binary (loosely equal) (identifier x) null_literal)) < weight (Expr s) (logical (joining equal) (logical (joining equal) a (binary (strictly equal) (identifier x) f)) (binary (strictly equal) (identifier x) g))
compared_after_falls s true a x f g h =
    let first = placed 0 (left_operand_seat Or s) (left_operand_seat Or (left_operand_seat Or s)) refl (λ h os. omega arith) a in
    omega (arith, first, loose_light (right_operand_seat Or s) true x, both_heavy (right_operand_seat Or (left_operand_seat Or s)) (right_operand_seat Or s) true x f g h)
compared_after_falls s false a x f g h =
    let first = placed 0 (left_operand_seat And s) (left_operand_seat And (left_operand_seat And s)) refl (λ h os. omega arith) a in
    omega (arith, first, loose_light (right_operand_seat And s) false x, both_heavy (right_operand_seat And (left_operand_seat And s)) (right_operand_seat And s) false x f g h)

-- 57: a comparison with null goes

type_falls : (s : Seat) (there strict : Bool) (before : Option Tree) (x : Name) → weight (Expr s) (logical (joining (not there)) (ended (joining (not there)) before (asks_object there x)) (held there x)) < weight (Expr s) (logical (joining (not there)) (ended (joining (not there)) before (asks_object there x)) (null_compared strict (not there) x))
type_falls s true true None x = omega arith
type_falls s true true (Some b) x = omega arith
type_falls s true false None x = omega arith
type_falls s true false (Some b) x = omega arith
type_falls s false true None x = omega arith
type_falls s false true (Some b) x = omega arith
type_falls s false false None x = omega arith
type_falls s false false (Some b) x = omega arith

null_type_falls : (s : Seat) (there strict : Bool) (before : Option Tree) (x : Name) → weight (Expr s) (logical (joining (not there)) (ended (joining (not there)) before (held there x)) (asks_object there x)) < weight (Expr s) (logical (joining (not there)) (ended (joining (not there)) before (null_compared strict (not there) x)) (asks_object there x))
null_type_falls s true true None x = omega arith
null_type_falls s true true (Some b) x = omega arith
null_type_falls s true false None x = omega arith
null_type_falls s true false (Some b) x = omega arith
null_type_falls s false true None x = omega arith
null_type_falls s false true (Some b) x = omega arith
null_type_falls s false false None x = omega arith
null_type_falls s false false (Some b) x = omega arith

-- all

pub lighter : ChoicesLighter
lighter s n w (Rotated r) = falls_by (Expr s) n w _ _ r.shape r.written (joined_falls r.operator s r.a r.b r.last r.others r.ungrouped)
lighter s n w (Decided r) = falls_by (Expr s) n w _ _ r.shape r.written (deciding_falls r.operator s r.name r.b)
lighter s n w (Combined r) = falls_by (Expr s) n w _ _ r.shape r.written (computing_falls r.operator r.combined r.computes s r.name r.b)
lighter s n w (NullishIfEqual r) = falls_by (Expr s) n w _ _ r.shape r.written (equal_falls s r.name r.b)
lighter s n w (NullishIfUnequal r) = falls_by (Expr s) n w _ _ r.shape r.written (unequal_falls s r.name r.b)
lighter s n w (LooseNull r) = falls_by (Expr s) n w _ _ r.shape r.written (compared_falls s r.equal r.name r.first r.second r.nullish)
lighter s n w (LooseNullAfter r) = falls_by (Expr s) n w _ _ r.shape r.written (compared_after_falls s r.equal r.before r.name r.first r.second r.nullish)
lighter s n w (ObjectTest r) = falls_by (Expr s) n w _ _ r.shape r.written (type_falls s r.there r.strict r.before r.name)
lighter s n w (ObjectTestAfter r) = falls_by (Expr s) n w _ _ r.shape r.written (null_type_falls s r.there r.strict r.before r.name)
lighter s n w (DecidedLast r) = falls_by (Expr s) n w _ _ r.shape r.written (last_falls r.operator s (identifier r.name) r.first r.others r.b r.seated (name_heavy_there r.name))
lighter s n w (ChosenMember r) = falls_by (Expr s) n w _ _ r.shape r.written (chosen_member_falls s r.seated r.a (identifier r.name) r.key r.b r.c)
lighter s n w (CombinedMember r) = falls_by (Expr s) n w _ _ r.shape r.written (computing_member_falls r.operator r.combined r.computes s (identifier r.name) r.key r.b)
lighter s n w (Chosen r) = falls_by (Expr s) n w _ _ r.shape r.written (chosen_falls s r.seated r.operator r.a r.name r.b r.c)

-- of none of these nodes a parent's weight reads more than that it is there
lighter_outline : (s : Seat) (n w : Tree) → LighterRow s n w → outline n ≡ outline w
lighter_outline s n w (Rotated r) = ap outline r.shape ∙ sym (ap outline r.written)
lighter_outline s n w (Decided r) = ap outline r.shape ∙ sym (ap outline r.written)
lighter_outline s n w (Combined r) = ap outline r.shape ∙ sym (ap outline r.written)
lighter_outline s n w (NullishIfEqual r) = ap outline r.shape ∙ sym (ap outline r.written)
lighter_outline s n w (NullishIfUnequal r) = ap outline r.shape ∙ sym (ap outline r.written)
lighter_outline s n w (LooseNull r) = ap outline r.shape ∙ sym (ap outline r.written)
lighter_outline s n w (LooseNullAfter r) = ap outline r.shape ∙ sym (ap outline r.written)
lighter_outline s n w (ObjectTest r) = ap outline r.shape ∙ sym (ap outline r.written)
lighter_outline s n w (ObjectTestAfter r) = ap outline r.shape ∙ sym (ap outline r.written)
lighter_outline s n w (CombinedMember r) = ap outline r.shape ∙ sym (ap outline r.written)
lighter_outline s n w (ChosenMember r) = ap outline r.shape ∙ sym (ap outline r.written)
lighter_outline s n w (DecidedLast r) = ap outline r.shape ∙ sym (ap outline r.written)
lighter_outline s n w (Chosen r) = ap outline r.shape ∙ sym (ap outline r.written)

own_outline : (n w : Tree) → OwnRow n w → outline n ≡ outline w
own_outline n w (OrTest r) = ap outline r.shape ∙ sym (ap outline r.written)
own_outline n w (AndTest r) = ap outline r.shape ∙ sym (ap outline r.written)

held_outline : (n w : Tree) → HeldRow n w → outline n ≡ outline w
held_outline n w (AndBoth r) = ap outline r.shape ∙ sym (ap outline r.written)
held_outline n w (OrEither r) = ap outline r.shape ∙ sym (ap outline r.written)
held_outline n w (LastAfterOr r) = ap outline r.shape ∙ sym (ap outline r.written)
held_outline n w (LastAfterAnd r) = ap outline r.shape ∙ sym (ap outline r.written)
held_outline n w (AndThenOr r) = ap outline r.shape ∙ sym (ap outline r.written)
held_outline n w (OrThenAnd r) = ap outline r.shape ∙ sym (ap outline r.written)
held_outline n w (Alike r) = ap outline r.shape ∙ sym (ap outline r.written)

-- of the conditional, and of the chain, also behind a `0`
chain_outline : (s : Seat) (equal : Bool) (x : Name) (a t u n w : Tree) → n ≡ if_nullish equal x a t → w ≡ kept_by_value s.guard (chain u) → outline n ≡ outline w
chain_outline s true x a t u n w e f = ap outline e ∙ kept_outline s.guard u ∙ sym (ap outline f)
chain_outline s false x a t u n w e f = ap outline e ∙ kept_outline s.guard u ∙ sym (ap outline f)

outline_by_row : (p : Position) (n w : Tree) → ChoiceRow p n w → outline n ≡ outline w
outline_by_row (Expr s) n w (Shorter r) = lighter_outline s n w r
outline_by_row (Expr s) n w (TestedBranch r) = own_outline n w r
outline_by_row (Expr s) n w (SharedBranch r) = held_outline n w r
outline_by_row (Expr s) n w (JoinedCall r) = ap outline r.shape ∙ sym (ap outline r.written)
outline_by_row (Expr s) n w (ChainLink r) = chains_outline s n w r
outline_by_row (Expr s) n w (ChainEnd r) = end_outline s n w r
outline_by_row (Expr s) n w (BothSides r) = ap outline r.shape ∙ sym (ap outline r.written)
outline_by_row (Expr s) n w (ChosenIndexed r) = ap outline r.shape ∙ sym (ap outline r.written)
outline_by_row (Expr s) n w (ZeroFirst r) = ap outline r.shape ∙ sym (ap outline r.written)
outline_by_row (Expr s) n w (OptionalChain r) = chain_outline s r.equal r.name r.missing (spine false (identifier r.name) r.last r.others) (spine true (identifier r.name) r.last r.others) n w r.shape r.written
outline_by_row p n w r = absurd r

pub lightens : Lightens ChoiceContracts
lightens = record {
  lighter = λ p n w c. c.lighter;
  absent = λ p n w c a. ap (λ o. o.absent) (outline_by_row p n w c.row);
  items = λ p n w c a. ap (λ o. o.items) (outline_by_row p n w c.row);
  is_zero = λ p n w c a. inl (ap (λ o. o.is_zero) (outline_by_row p n w c.row));
  chooses = λ p n w c a. inl (λ h. sym (ap (λ o. o.chooses) (outline_by_row p n w c.row)) ∙ h);
}
