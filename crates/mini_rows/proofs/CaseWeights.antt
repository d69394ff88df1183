-- What is written for a `switch` of one case is lighter in every place.
use Rattle.std.proofs.Common.{◌≡◌, ℕ, ◌<◌, ◌≤◌, Bool, true, false, refl, ap, inl, inr, arith}
use Rattle.std.specs.Prelude.{pos, negsuc, if◌then◌else◌}
use Rattle.mini_model.specs.declared.operator.BinaryOperator.TheVariants.{StrictEquality}
use Rattle.mini_model.specs.declared.place.Position.TheVariants.{Expr, Stmt}
use Rattle.mini_model.specs.declared.seat.StmtSeat.{StmtSeat}
use Rattle.mini_model.specs.declared.seat.StmtSeat.TheVariants as stmt_seat
use Rattle.mini_model.specs.Tree.{Tree, Trees, none, ◌▸◌, absent, listed, expression_statement, if_alone}
use Rattle.mini_model.specs.Position.{whole_seat, statement_expression_seat, binary_operand_seat}
use Rattle.mini_model.specs.Weight.{outline, outlines, first_chooses, braces_weight, weight, weights}
use Rattle.mini_laws.proofs.Seats.{moved}
use Rattle.mini_rows.specs.Lists.{block}
use Rattle.mini_rows.specs.Spellings.{PlainForm, a_number, a_text, a_boolean, a_null, a_big_int, a_template, a_void, plain, binary}
use Rattle.mini_rows.specs.Cases.{one_case, ended, OneCaseRow}

-- the statements of a list
abbrev total : Trees → ℕ
total ts = weights (λ i. Stmt stmt_seat.List) ts

total_ended : (b : Bool) (ss : Trees) → total ss ≤ total (ended b ss)
total_ended false ss = omega arith
total_ended true none = omega arith
total_ended true (t ▸ ss) = let rest = total_ended true ss in omega (arith, rest)

-- a value that is written out has no parentheses on the right of `===`
value_same : (f : PlainForm) → weight (Expr (binary_operand_seat StrictEquality 1)) (plain f) ≡ weight (Expr whole_seat) (plain f)
value_same (a_number (pos n)) = omega arith
value_same (a_number (negsuc n)) = omega arith
value_same (a_text s) = omega arith
value_same (a_boolean b) = omega arith
value_same a_null = omega arith
value_same (a_big_int n) = omega arith
value_same (a_template l raw s) = omega arith
value_same a_void = omega arith

case_heavy : (b : Bool) → 12 ≤ (if b then 16 else 12)
case_heavy true = omega arith
case_heavy false = omega arith

braces_light : (q : StmtSeat) (b : Bool) → braces_weight q b ≤ 4
braces_light stmt_seat.Consequent true = omega arith
braces_light stmt_seat.Consequent false = omega arith
braces_light q b = omega arith

pub case_lighter : (q : StmtSeat) (d : Tree) (f : PlainForm) (b : Bool) (ss : Trees) → weight (Stmt q) (if_alone (binary StrictEquality d (plain f)) (block ss)) < weight (Stmt q) (one_case d (plain f) (ended b ss))
case_lighter q d f b ss =
    let left = moved (binary_operand_seat StrictEquality 0) whole_seat refl d in
    let right = value_same f in
    let all = total_ended b ss in
    let braces = braces_light stmt_seat.Consequent (first_chooses (outlines (listed ss ▸ none))) in
    let case = case_heavy (outline (plain f)).absent in
    omega (arith, left, right, all, braces, case)

default_lighter : (q : StmtSeat) (d : Tree) (b : Bool) (ss : Trees) → weight (Stmt q) (block (expression_statement d ▸ ss)) < weight (Stmt q) (one_case d absent (ended b ss))
default_lighter q d b ss =
    let expression = moved statement_expression_seat whole_seat refl d in
    let all = total_ended b ss in
    let braces = braces_light q (first_chooses (outlines (listed (expression_statement d ▸ ss) ▸ none))) in
    omega (arith, expression, all, braces)

scoped_lighter : (q : StmtSeat) (d : Tree) (b : Bool) (ss : Trees) → weight (Stmt q) (block (expression_statement d ▸ (block ss ▸ none))) < weight (Stmt q) (one_case d absent (ended b ss))
scoped_lighter q d b ss =
    let expression = moved statement_expression_seat whole_seat refl d in
    let all = total_ended b ss in
    let braces = braces_light q (first_chooses (outlines (listed (expression_statement d ▸ (block ss ▸ none)) ▸ none))) in
    let inner = braces_light stmt_seat.List (first_chooses (outlines (listed ss ▸ none))) in
    omega (arith, expression, all, braces, inner)

pub one_case_lighter : (q : StmtSeat) (n w : Tree) → OneCaseRow n w → weight (Stmt q) w < weight (Stmt q) n
one_case_lighter q n w (inl r) = omega (arith, case_lighter q r.discriminant r.test r.is_ended r.statements, ap (weight (Stmt q)) r.shape, ap (weight (Stmt q)) r.written)
one_case_lighter q n w (inr (inl r)) = omega (arith, default_lighter q r.discriminant r.is_ended r.statements, ap (weight (Stmt q)) r.shape, ap (weight (Stmt q)) r.written)
one_case_lighter q n w (inr (inr r)) = omega (arith, scoped_lighter q r.discriminant r.is_ended r.statements, ap (weight (Stmt q)) r.shape, ap (weight (Stmt q)) r.written)
