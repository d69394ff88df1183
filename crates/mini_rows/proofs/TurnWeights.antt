-- What a row that turns a test writes is lighter in every place.
use Rattle.std.proofs.Common.{◌≡◌, ℕ, ◌+◌, ◌<◌, ◌≤◌, Bool, true, false, List, refl, sym, ap, ◌∙◌, inl, inr, true≢false, arith}
use Rattle.std.specs.Prelude.{not, pos, negsuc, if◌then◌else◌}
use Rattle.mini_model.specs.declared.operator.BinaryOperator.TheVariants as binary_operator
use Rattle.mini_model.specs.declared.operator.LogicalOperator.TheVariants.{Or, And, Coalesce}
use Rattle.mini_model.specs.declared.place.Position.{Position}
use Rattle.mini_model.specs.declared.place.Position.TheVariants.{Expr, Stmt}
use Rattle.mini_model.specs.declared.seat.Seat.{Seat}
use Rattle.mini_model.specs.declared.seat.StmtSeat.{StmtSeat}
use Rattle.mini_model.specs.declared.seat.StmtSeat.TheVariants as stmt_seat
use Rattle.mini_model.specs.declared.shape.Shape.{Shape}
use Rattle.mini_model.specs.declared.shape.Shape.TheVariants as shape
use Rattle.mini_model.specs.Tree.{Tree, Trees, node, none, ◌▸◌, shape_of, is_absent, negation, conditional, if_else}
use Rattle.mini_model.specs.Position.{if_test_seat, not_operand_seat}
use Rattle.mini_model.specs.Weight.{Outline, outline, outlines, nth_is_absent, first_chooses, bare_weight, place_weight, weight}
use Rattle.mini_laws.specs.Weights.{Lightens}
use Rattle.mini_laws.proofs.Seats.{placed}
use Rattle.mini_rows.specs.Lists.{block}
use Rattle.mini_rows.specs.Spellings.{binary}
use Rattle.mini_rows.specs.Branches.{is_other_branch}
use Rattle.mini_rows.specs.Turns.{unequal, equal, is_unchained, is_block_shape, may_choose, one_chooses, KeepsBraces, TurnRow, TurnContracts, TurnsLighter}
use Rattle.mini_rows.proofs.BranchWeights.{absent_is, chooses_is, other_present}

abbrev unless : Bool → ℕ → ℕ
unless b n = if b then 0 else n

-- ---- 40

unequal_falls : (s : Seat) (k : Bool) (a b c d : Tree) → weight (Expr s) (conditional (binary (equal k) a b) d c) < weight (Expr s) (conditional (binary (unequal k) a b) c d)
unequal_falls s true a b c d = omega arith
unequal_falls s false a b c d = omega arith

-- ---- 83

-- a test is never heavier than the operand of a `!`

marks : (h : Shape) (os : List Outline) → place_weight (Expr if_test_seat) h os ≤ place_weight (Expr not_operand_seat) h os + 0
marks (shape.LogicalExpression Or) os = omega arith
marks (shape.LogicalExpression And) os = omega arith
marks (shape.LogicalExpression Coalesce) os = omega arith
marks (shape.BinaryExpression binary_operator.BitwiseOr) os = omega arith
marks (shape.BinaryExpression binary_operator.BitwiseXor) os = omega arith
marks (shape.BinaryExpression binary_operator.BitwiseAnd) os = omega arith
marks (shape.BinaryExpression o) os = omega arith
marks (shape.NumericLiteral (pos n)) os = omega arith
marks (shape.NumericLiteral (negsuc n)) os = omega arith
marks h os = omega arith

test_falls : (a : Tree) → weight (Expr if_test_seat) a ≤ weight (Expr not_operand_seat) a
test_falls a = let falls = placed 0 if_test_seat not_operand_seat refl marks a in omega (arith, falls)

never_heavier : (b : Bool) → (if b then 0 else 4) ≤ 4
never_heavier true = omega arith
never_heavier false = omega arith

-- an alternate that becomes a consequent

consequent_falls : (u : Tree) → is_unchained u ≡ true → weight (Stmt stmt_seat.Consequent) u ≤ weight (Stmt stmt_seat.Body) u
consequent_falls (node shape.InnerExpression xs n ts) h = absurd (true≢false (sym h))
consequent_falls (node shape.IfStatement xs n ts) h = absurd (true≢false (sym h))
consequent_falls (node shape.BlockStatement xs n ts) h = let least = never_heavier (first_chooses (outlines ts)) in omega (arith, least)
consequent_falls (node g xs n ts) h = omega arith

unchained_present : (u : Tree) → is_unchained u ≡ true → is_absent u ≡ false
unchained_present (node shape.Absent xs n ts) h = absurd (true≢false (sym h))
unchained_present (node g xs n ts) h = refl

-- and a consequent that becomes an alternate

choice_is : (c : Tree) → may_choose c ≡ false → (outline c).chooses ≡ false
choice_is (node shape.Listed xs n ts) h = absurd (true≢false h)
choice_is (node shape.IfStatement xs n ts) h = chooses_is (node shape.IfStatement xs n ts) refl ∙ h
choice_is (node shape.Absent xs n ts) h = refl
choice_is (node (shape.NumericLiteral k) xs n ts) h = refl
choice_is (node g xs n ts) h = refl

braces_stay : (ts : Trees) → one_chooses ts ≡ false → weight (Stmt stmt_seat.Body) (block ts) ≡ weight (Stmt stmt_seat.Consequent) (block ts)
braces_stay none h = omega arith
braces_stay (c ▸ none) h = let four = ap (λ b. unless b 4) (choice_is c h) in omega (arith, four)
braces_stay (c ▸ (d ▸ ts)) h = omega arith

bare_falls : (ts : Trees) → unless (nth_is_absent (outlines ts) 2) 0 ≤ unless (nth_is_absent (outlines ts) 2) 1
bare_falls ts = go (nth_is_absent (outlines ts) 2)
  where
    go : (b : Bool) → unless b 0 ≤ unless b 1
    go true = omega arith
    go false = omega arith

alternate_falls : (s : Tree) → is_other_branch s ≡ true → is_block_shape (shape_of s) ≡ false → weight (Stmt stmt_seat.Body) s ≤ weight (Stmt stmt_seat.Consequent) s
alternate_falls (node shape.InnerExpression xs n ts) h e = absurd (true≢false (sym h))
alternate_falls (node shape.BlockStatement xs n ts) h e = absurd (true≢false e)
alternate_falls (node shape.IfStatement xs n ts) h e = let bare = bare_falls ts in omega (arith, bare)
alternate_falls (node g xs n ts) h e = omega arith

branch_falls : (s : Tree) → is_other_branch s ≡ true → KeepsBraces s → weight (Stmt stmt_seat.Body) s ≤ weight (Stmt stmt_seat.Consequent) s
branch_falls s h (inl e) = alternate_falls s h e
branch_falls s h (inr r) = let stay = braces_stay r.statements r.other in omega (arith, stay, ap (weight (Stmt stmt_seat.Body)) r.is, ap (weight (Stmt stmt_seat.Consequent)) r.is)

swapped_falls : (q : StmtSeat) (a s u : Tree) → is_other_branch s ≡ true → KeepsBraces s → is_unchained u ≡ true → weight (Stmt q) (if_else a u s) < weight (Stmt q) (if_else (negation a) s u)
swapped_falls q a s u h k e =
    let test = test_falls a in
    let first = consequent_falls u e in
    let second = branch_falls s h k in
    let there = absent_is u ∙ unchained_present u e in
    let here = absent_is s ∙ other_present s h in
    omega (arith, test, first, second, ap (λ b. unless b 10) there, ap (λ b. unless b 10) here, ap (λ b. unless b (bare_weight q)) there, ap (λ b. unless b (bare_weight q)) here)

-- ---- all

row_lighter : (p : Position) (n w : Tree) → TurnRow p n w → weight p w < weight p n
row_lighter (Expr s) n w r = omega (arith, unequal_falls s r.is_strict r.a r.b r.c r.d, ap (weight (Expr s)) r.shape, ap (weight (Expr s)) r.written)
row_lighter (Stmt q) n w r = omega (arith, swapped_falls q r.a r.s r.u r.other r.braces r.unchained, ap (weight (Stmt q)) r.shape, ap (weight (Stmt q)) r.written)
row_lighter p n w r = absurd r

pub turns_lighter : TurnsLighter
turns_lighter = row_lighter

-- what a parent reads

swapped_outline : (a s u : Tree) → is_other_branch s ≡ true → is_unchained u ≡ true → outline (if_else (negation a) s u) ≡ outline (if_else a u s)
swapped_outline a s u h e = λ i. record (outline (if_else a u s)) { chooses = not ((absent_is u ∙ unchained_present u e ∙ sym (absent_is s ∙ other_present s h)) i) }

row_outline : (p : Position) (n w : Tree) → TurnRow p n w → outline n ≡ outline w
row_outline (Expr s) n w r = ap outline r.shape ∙ sym (ap outline r.written)
row_outline (Stmt q) n w r = ap outline r.shape ∙ swapped_outline r.a r.s r.u r.other r.unchained ∙ sym (ap outline r.written)
row_outline p n w r = absurd r

pub turns_lighten : Lightens TurnContracts
turns_lighten = record {
  lighter = λ p n w c. c.lighter;
  absent = λ p n w c e. ap (λ o. o.absent) (row_outline p n w c.row);
  items = λ p n w c e. ap (λ o. o.items) (row_outline p n w c.row);
  is_zero = λ p n w c e. inl (ap (λ o. o.is_zero) (row_outline p n w c.row));
  chooses = λ p n w c e. inl (λ h. sym (ap (λ o. o.chooses) (row_outline p n w c.row)) ∙ h);
}
