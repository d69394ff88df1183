-- A `for` whose body begins by leaving the loop is heavier than with that in its test.
use Rattle.std.proofs.Common.{◌≡◌, ℕ, ◌+◌, ◌<◌, ◌≤◌, Bool, true, false, refl, sym, ap, arith, true≢false}
use Rattle.std.specs.Prelude.{if◌then◌else◌}
use Rattle.mini_model.specs.declared.operator.LogicalOperator.TheVariants.{And}
use Rattle.mini_model.specs.declared.place.Position.TheVariants.{Expr, Stmt}
use Rattle.mini_model.specs.declared.seat.StmtSeat.{StmtSeat}
use Rattle.mini_model.specs.declared.seat.StmtSeat.TheVariants as stmt_seat
use Rattle.mini_model.specs.declared.shape.Shape.TheVariants as shape
use Rattle.mini_model.specs.Tree.{Tree, node, ◌▸◌}
use Rattle.mini_model.specs.Position.{if_test_seat, left_operand_seat, right_operand_seat, not_operand_seat}
use Rattle.mini_model.specs.Weight.{outline, outlines, nth_is_absent, first_chooses, weight}
use Rattle.mini_laws.proofs.Seats.{moved}
use Rattle.mini_rows.specs.Lists.{for_loop, is_unscoped}
use Rattle.mini_rows.specs.Loops.{Tested, always, while_true, test_of, also, Leaving, alone, or_else, unless, leaves_by, goes_by, runs_on, is_loose, Leading, whole, before, led}
use Rattle.mini_rows.proofs.ListWeights.{list_is}

-- ---- tests

abbrev tests : Tree → ℕ
tests t = weight (Expr if_test_seat) t

goes_falls : (l : Leaving) (x : Tree) → tests (goes_by l x) ≤ tests x + 7
goes_falls alone x = let operand = moved not_operand_seat if_test_seat refl x in omega (arith, operand)
goes_falls (or_else s) x = let operand = moved not_operand_seat if_test_seat refl x in omega (arith, operand)
goes_falls (unless s) x = omega arith

also_falls : (t : Tested) (y : Tree) → tests (also t y) ≤ tests (test_of t) + tests y + 14
also_falls always y = omega arith
also_falls (while_true t) y =
    let left = moved (left_operand_seat And if_test_seat) if_test_seat refl t in
    let right = moved (right_operand_seat And if_test_seat) if_test_seat refl y in
    omega (arith, left, right)

-- ---- bodies

present : (s : Tree) → is_unscoped s ≡ true → (outline s).absent ≡ false
present (node shape.Absent xs n ts) h = absurd (true≢false (sym h))
present (node shape.Listed xs n ts) h = absurd (true≢false (sym h))
present (node (shape.NumericLiteral k) xs n ts) h = absurd (true≢false (sym h))
present (node shape.IfStatement xs n ts) h = refl
present (node g xs n ts) h = refl

-- this much, where it is not so
abbrev where_not : Bool → ℕ → ℕ
where_not b n = if b then 0 else n

bare : (b : Bool) → where_not b 0 ≤ where_not b 1 + 4
bare true = omega arith
bare false = omega arith

braces : (b : Bool) → 4 ≤ where_not b 4 + 4
braces true = omega arith
braces false = omega arith

-- a statement weighs at most 4 more than as a consequent
near : (s : Tree) → is_unscoped s ≡ true → weight (Stmt stmt_seat.List) s ≤ weight (Stmt stmt_seat.Consequent) s + 4
near (node shape.InnerExpression xs n ts) h = absurd (true≢false (sym h))
near (node shape.BlockStatement xs n ts) h = let least = braces (first_chooses (outlines ts)) in omega (arith, least)
near (node shape.IfStatement xs n ts) h = let least = bare (nth_is_absent (outlines ts) 2) in omega (arith, least)
near (node g xs n ts) h = omega arith

body_is_list : (c : Tree) → is_unscoped c ≡ true → weight (Stmt stmt_seat.Body) c ≡ weight (Stmt stmt_seat.List) c
body_is_list (node shape.InnerExpression xs n ts) h = absurd (true≢false (sym h))
body_is_list (node g xs n ts) h = refl

leaves_heavy : (l : Leaving) (x : Tree) → is_loose l ≡ true → weight (Stmt stmt_seat.List) (runs_on l) + tests x + 28 ≤ weight (Stmt stmt_seat.List) (leaves_by l x)
leaves_heavy alone x h = omega arith
leaves_heavy (or_else s) x h =
    let there = ap (λ b. where_not b 10) (present s h) in
    let same = body_is_list s h in
    omega (arith, there, same)
leaves_heavy (unless s) x h = let most = near s h in omega (arith, most)

leaves_unscoped : (l : Leaving) (x : Tree) → is_unscoped (leaves_by l x) ≡ true
leaves_unscoped alone x = refl
leaves_unscoped (or_else s) x = refl
leaves_unscoped (unless s) x = refl

body_falls : (d : Leading) (l : Leaving) (x : Tree) → is_loose l ≡ true → weight (Stmt stmt_seat.Body) (led d (runs_on l)) + tests x + 28 ≤ weight (Stmt stmt_seat.Body) (led d (leaves_by l x))
body_falls whole l x h =
    let heavy = leaves_heavy l x h in
    let old = body_is_list (leaves_by l x) (leaves_unscoped l x) in
    let new = body_is_list (runs_on l) h in
    omega (arith, heavy, old, new)
body_falls (before ts) l x h =
    let heavy = leaves_heavy l x h in
    let old = list_is (leaves_by l x ▸ ts) in
    let new = list_is (runs_on l ▸ ts) in
    omega (arith, heavy, old, new)

-- ---- the loop

pub row_84 : (q : StmtSeat) (init update x : Tree) (t : Tested) (d : Leading) (l : Leaving) → is_loose l ≡ true → weight (Stmt q) (for_loop init (also t (goes_by l x)) update (led d (runs_on l))) < weight (Stmt q) (for_loop init (test_of t) update (led d (leaves_by l x)))
row_84 q init update x t d l h =
    let body = body_falls d l x h in
    let test = also_falls t (goes_by l x) in
    let goes = goes_falls l x in
    omega (arith, body, test, goes)
