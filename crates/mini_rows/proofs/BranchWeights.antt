-- What each row writes is lighter in every place.
use Rattle.std.proofs.Common.{◌≡◌, ℕ, ◌+◌, ◌<◌, ◌≤◌, Bool, true, false, [], refl, sym, ap, ◌∙◌, subst, inl, inr, true≢false, arith}
use borrow.Author.Tests.{ltb-false}
use Rattle.std.specs.Prelude.{◌⊎◌, ◌||◌, not, nat_lt, if◌then◌else◌}
use Rattle.mini_model.specs.declared.operator.LogicalOperator.TheVariants.{Or, And}
use Rattle.mini_model.specs.declared.operator.UnaryOperator.TheVariants.{Void}
use Rattle.mini_model.specs.declared.place.Position.{Position}
use Rattle.mini_model.specs.declared.place.Position.TheVariants.{Expr, Stmt}
use Rattle.mini_model.specs.declared.seat.Seat.{Seat}
use Rattle.mini_model.specs.declared.seat.StmtSeat.{StmtSeat}
use Rattle.mini_model.specs.declared.seat.StmtSeat.TheVariants as stmt_seat
use Rattle.mini_model.specs.declared.shape.Shape.TheVariants as shape
use Rattle.mini_model.specs.Tree.{Tree, Trees, node, none, ◌▸◌, is_absent, absent, empty_statement, expression_statement, if_else, if_alone, negation, logical, unary}
use Rattle.mini_model.specs.Paths.{append}
use Rattle.mini_model.specs.Position.{whole_seat, if_test_seat, statement_expression_seat, left_operand_seat, right_operand_seat, not_operand_seat}
use Rattle.mini_model.specs.Weight.{outline, outlines, nth_is_absent, first_chooses, bare_weight, is_parenthesized, weight}
use Rattle.mini_model.specs.Terms.{neg, not_of}
use Rattle.mini_laws.specs.Weights.{Lightens}
use Rattle.mini_laws.proofs.Seats.{placed, moved}
use Rattle.mini_rows.specs.Lists.{block, return_statement, is_unscoped}
use Rattle.mini_rows.specs.Spellings.{IsUndefined}
use Rattle.mini_rows.specs.Branches.{IsEmpty, IsIdleVoid, has_else, is_other_branch, as_consequent, Surrounding, Consequent, Alternate, WhileBody, DoBody, ForBody, InBody, OfBody, around, keeps_block, conjunct_seat, Row82Empty, Row82Ends, Row83, is_loop, bare_continue, BodyRow, SwitchRow, BranchRow, BranchContracts, BranchLighter}
use Rattle.mini_rows.specs.Loops.{bare_break}
use Rattle.mini_rows.proofs.BranchEnds.{ends_lighter, ends_fall}
use Rattle.mini_rows.proofs.ListWeights.{total, total_append, list_is}
use Rattle.mini_rows.proofs.LoopWeights.{row_84}
use Rattle.mini_rows.proofs.CaseWeights.{one_case_lighter}
use Rattle.mini_rows.proofs.DeadCaseWeights.{dead_case_lighter}

-- this much, where it is not so
abbrev unless : Bool → ℕ → ℕ
unless b n = if b then 0 else n

-- ---- outlines

pub absent_is : (c : Tree) → (outline c).absent ≡ is_absent c
absent_is (node shape.Absent xs n ts) = refl
absent_is (node shape.Listed xs n ts) = refl
absent_is (node shape.IfStatement xs n ts) = refl
absent_is (node (shape.NumericLiteral k) xs n ts) = refl
absent_is (node h xs n ts) = refl

pub chooses_is : (c : Tree) → is_unscoped c ≡ true → (outline c).chooses ≡ has_else c
chooses_is (node shape.Listed xs n ts) h = absurd (cc h)
chooses_is (node shape.IfStatement xs n none) h = refl
chooses_is (node shape.IfStatement xs n (a ▸ none)) h = refl
chooses_is (node shape.IfStatement xs n (a ▸ (b ▸ none))) h = refl
chooses_is (node shape.IfStatement xs n (a ▸ (b ▸ (c ▸ ts)))) h = ap not (absent_is c)
chooses_is (node shape.Absent xs n ts) h = refl
chooses_is (node (shape.NumericLiteral k) xs n ts) h = refl
chooses_is (node g xs n ts) h = refl

scoped_present : (c : Tree) → is_unscoped c ≡ true → is_absent c ≡ false
scoped_present (node shape.Absent xs n ts) h = absurd (cc h)
scoped_present (node g xs n ts) h = refl

pub other_present : (u : Tree) → is_other_branch u ≡ true → is_absent u ≡ false
other_present (node shape.Absent xs n ts) h = absurd (true≢false (sym h))
other_present (node g xs n ts) h = refl

-- ---- a statement in another place

has_else_alternates : (xs : Trees) → has_else (node shape.IfStatement [] 0 xs) ≡ false → nth_is_absent (outlines xs) 2 ≡ true
has_else_alternates none h = refl
has_else_alternates (a ▸ none) h = refl
has_else_alternates (a ▸ (b ▸ none)) h = refl
has_else_alternates (a ▸ (b ▸ (c ▸ ts))) h = absent_is c ∙ negated (is_absent c) h
  where
    negated : (b : Bool) → not b ≡ false → b ≡ true
    negated true e = refl
    negated false e = absurd (true≢false e)

never_heavier : (b : Bool) → (if b then 0 else 4) ≤ 4
never_heavier true = omega arith
never_heavier false = omega arith

pub body_is_list : (c : Tree) → is_unscoped c ≡ true → weight (Stmt stmt_seat.Body) c ≡ weight (Stmt stmt_seat.List) c
body_is_list (node shape.InnerExpression xs n ts) h = absurd (cc h)
body_is_list (node g xs n ts) h = refl

-- an `if` with `else` aside, a consequent weighs at most what a statement of a list does
consequent_falls : (c : Tree) → is_unscoped c ≡ true → has_else c ≡ false → weight (Stmt stmt_seat.Consequent) c ≤ weight (Stmt stmt_seat.List) c
consequent_falls (node shape.InnerExpression xs n ts) h e = absurd (cc h)
consequent_falls (node shape.BlockStatement xs n ts) h e = let least = never_heavier (first_chooses (outlines ts)) in omega (arith, least)
consequent_falls (node shape.IfStatement xs n ts) h e = let alone = ap (λ b. unless b 1) (has_else_alternates ts e) in omega (arith, alone)
consequent_falls (node g xs n ts) h e = omega arith

-- the block that an `if` with `else` has round it as a consequent weighs nothing

else_unscoped : (c : Tree) → has_else c ≡ true → is_unscoped c ≡ true
else_unscoped (node shape.IfStatement xs n ts) h = refl
else_unscoped c h = absurd (cc h)

braces : (b : Bool) → b ≡ true → unless b 4 ≡ 0
braces true e = refl
braces false e = absurd (true≢false (sym e))

braced : (c : Tree) → has_else c ≡ true → weight (Stmt stmt_seat.Consequent) (block (c ▸ none)) ≡ weight (Stmt stmt_seat.List) c
braced c h = let none = braces (outline c).chooses (chooses_is c (else_unscoped c h) ∙ h) in omega (arith, none)

bare_heavier : (c : Tree) → has_else c ≡ true → weight (Stmt stmt_seat.Consequent) c ≡ weight (Stmt stmt_seat.List) c + 1
bare_heavier (node shape.IfStatement xs n (a ▸ (b ▸ (c ▸ ts)))) h =
    let present = absent_is c ∙ negated (is_absent c) h in
    omega (arith, ap (λ b. unless b 1) present, ap (λ b. unless b 0) present)
  where
    negated : (b : Bool) → not b ≡ true → b ≡ false
    negated true e = absurd (true≢false (sym e))
    negated false e = refl
bare_heavier c h = absurd (cc h)

-- and round any other it weighs 4
kept_braces : (c : Tree) → is_unscoped c ≡ true → has_else c ≡ false → weight (Stmt stmt_seat.Consequent) (block (c ▸ none)) ≡ weight (Stmt stmt_seat.List) c + 4
kept_braces c h e = let four = ap (λ b. unless b 4) (chooses_is c h ∙ e) in omega (arith, four)

-- an `else` branch as a consequent
branch_falls : (u : Tree) → is_other_branch u ≡ true → weight (Stmt stmt_seat.Consequent) (as_consequent u) ≤ weight (Stmt stmt_seat.Body) u
branch_falls u h = go (has_else u) refl
  where
    bare : (u : Tree) → is_other_branch u ≡ true → has_else u ≡ false → weight (Stmt stmt_seat.Consequent) u ≤ weight (Stmt stmt_seat.Body) u
    bare (node shape.InnerExpression xs n ts) h e = absurd (true≢false (sym h))
    bare (node shape.BlockStatement xs n ts) h e = let least = never_heavier (first_chooses (outlines ts)) in omega (arith, least)
    bare (node shape.IfStatement xs n ts) h e = let alone = ap (λ b. unless b 1) (has_else_alternates ts e) in omega (arith, alone)
    bare (node g xs n ts) h e = omega arith

    go : (b : Bool) → has_else u ≡ b → weight (Stmt stmt_seat.Consequent) (if b then block (u ▸ none) else u) ≤ weight (Stmt stmt_seat.Body) u
    go true e = let braces = braced u e in let same = body_is_list u (else_unscoped u e) in omega (arith, braces, same)
    go false e = bare u h e

-- ---- negations

not_falls : (s : Seat) (a : Tree) → weight (Expr s) (not_of s a) ≤ weight (Expr s) (negation a)
not_falls s a = go (nat_lt (weight (Expr s) (negation a)) (weight (Expr s) (neg s a))) refl
  where
    go : (b : Bool) → nat_lt (weight (Expr s) (negation a)) (weight (Expr s) (neg s a)) ≡ b → weight (Expr s) (if b then negation a else neg s a) ≤ weight (Expr s) (negation a)
    go true e = omega arith
    go false e = let most = ltb-false _ _ e in omega (arith, most)

not_conjunct : (a : Tree) → weight (Expr conjunct_seat) (not_of conjunct_seat a) ≤ weight (Expr if_test_seat) a + 7
not_conjunct a = let least = not_falls conjunct_seat a in let operand = moved not_operand_seat if_test_seat refl a in omega (arith, least, operand)

not_test : (a : Tree) → weight (Expr if_test_seat) (not_of if_test_seat a) ≤ weight (Expr if_test_seat) a + 7
not_test a = let least = not_falls if_test_seat a in let operand = moved not_operand_seat if_test_seat refl a in omega (arith, least, operand)

right_marks : (b : Bool) → (if b then 4 else 0) + (if false || (false || false) then 1 else 0) ≤ 4
right_marks true = omega arith
right_marks false = omega arith

right_falls : (b : Tree) → weight (Expr (right_operand_seat And if_test_seat)) b ≤ weight (Expr if_test_seat) b + 4
right_falls b = placed 4 (right_operand_seat And if_test_seat) if_test_seat refl (λ h os. omega (arith, right_marks (is_parenthesized h (right_operand_seat And if_test_seat)))) b

-- ---- 60

undefined_heavy : (v : Tree) → IsUndefined v ⊎ IsIdleVoid v → 2 ≤ weight (Expr whole_seat) v
undefined_heavy v (inl (inl e)) = let same = ap (weight (Expr whole_seat)) e in omega (arith, same)
undefined_heavy v (inl (inr e)) = let same = ap (weight (Expr whole_seat)) e in omega (arith, same)
undefined_heavy v (inr i) = let same : weight (Expr whole_seat) v ≡ weight (Expr whole_seat) (unary Void i.operand) = ap (weight (Expr whole_seat)) i.is in omega (arith, same)

row_60 : (q : StmtSeat) (v : Tree) → IsUndefined v ⊎ IsIdleVoid v → weight (Stmt q) (return_statement absent) < weight (Stmt q) (return_statement v)
row_60 q v u = let heavy = undefined_heavy v u in omega (arith, heavy)

-- ---- 79

row_79 : (q : StmtSeat) (k : Surrounding) (c : Tree) → is_unscoped c ≡ true → keeps_block k c ≡ false → weight (Stmt q) (around k c) < weight (Stmt q) (around k (block (c ▸ none)))
row_79 q (Consequent a u) c h e = let before = kept_braces c h e in let after = consequent_falls c h e in omega (arith, before, after)
row_79 q (Alternate a s) c h e =
    let after = body_is_list c h in
    let there = ap (λ b. unless b 10) (absent_is c ∙ scoped_present c h) in
    let bare = ap (λ b. unless b (bare_weight q)) (absent_is c ∙ scoped_present c h) in
    omega (arith, after, there, bare)
row_79 q (WhileBody a) c h e = let after = body_is_list c h in omega (arith, after)
row_79 q (DoBody a) c h e = let after = body_is_list c h in omega (arith, after)
row_79 q (ForBody init test update) c h e = let after = body_is_list c h in omega (arith, after)
row_79 q (InBody left right) c h e = let after = body_is_list c h in omega (arith, after)
row_79 q (OfBody left right) c h e = let after = body_is_list c h in omega (arith, after)

-- ---- 78

pub block_is : (ts : Trees) → weight (Stmt stmt_seat.Body) (block ts) ≡ total ts + 4
block_is ts = let list = list_is ts in omega (arith, list)

shorter : (ts : Trees) → weight (Stmt stmt_seat.Body) (block ts) + 16 ≡ weight (Stmt stmt_seat.Body) (block (append ts (bare_continue ▸ none)))
shorter ts = let before = block_is (append ts (bare_continue ▸ none)) in let after = block_is ts in let sum = total_append ts (bare_continue ▸ none) in omega (arith, before, after, sum)

-- a lighter body makes the loop lighter
pub body_falls : (q : StmtSeat) (k : Surrounding) (c d : Tree) → is_loop k ≡ true → weight (Stmt stmt_seat.Body) d < weight (Stmt stmt_seat.Body) c → weight (Stmt q) (around k d) < weight (Stmt q) (around k c)
body_falls q (Consequent a u) c d h less = absurd (true≢false (sym h))
body_falls q (Alternate a s) c d h less = absurd (true≢false (sym h))
body_falls q (WhileBody a) c d h less = omega (arith, less)
body_falls q (DoBody a) c d h less = omega (arith, less)
body_falls q (ForBody init test update) c d h less = omega (arith, less)
body_falls q (InBody left right) c d h less = omega (arith, less)
body_falls q (OfBody left right) c d h less = omega (arith, less)

row_78_block : (q : StmtSeat) (k : Surrounding) (ts : Trees) → is_loop k ≡ true → weight (Stmt q) (around k (block ts)) < weight (Stmt q) (around k (block (append ts (bare_continue ▸ none))))
row_78_block q k ts h = let less = shorter ts in body_falls q k (block (append ts (bare_continue ▸ none))) (block ts) h (omega (arith, less))

row_78_whole : (q : StmtSeat) (k : Surrounding) → is_loop k ≡ true → weight (Stmt q) (around k empty_statement) < weight (Stmt q) (around k bare_continue)
row_78_whole q k h = body_falls q k bare_continue empty_statement h (omega arith)

row_78_once : (q : StmtSeat) (test : Tree) (ts : Trees) → weight (Stmt q) (around (DoBody test) (block ts)) < weight (Stmt q) (around (DoBody test) (block (append ts (bare_break ▸ none))))
row_78_once q test ts =
    let before = block_is (append ts (bare_break ▸ none)) in
    let after = block_is ts in
    let sum = total_append ts (bare_break ▸ none) in
    body_falls q (DoBody test) (block (append ts (bare_break ▸ none))) (block ts) refl (omega (arith, before, after, sum))

row_78_never : (q : StmtSeat) (test : Tree) → weight (Stmt q) (around (DoBody test) empty_statement) < weight (Stmt q) (around (DoBody test) bare_break)
row_78_never q test = body_falls q (DoBody test) bare_break empty_statement refl (omega arith)

-- ---- 82 and 83

empty_heavy : (c : Tree) → IsEmpty c → 2 ≤ weight (Stmt stmt_seat.Consequent) c
empty_heavy c (inl e) = let same = ap (weight (Stmt stmt_seat.Consequent)) e in omega (arith, same)
empty_heavy c (inr e) = let same = ap (weight (Stmt stmt_seat.Consequent)) e in omega (arith, same)

row_82_or : (q : StmtSeat) (a c b : Tree) → IsEmpty c → weight (Stmt q) (expression_statement (logical Or a b)) + 5 ≤ weight (Stmt q) (if_else a c (expression_statement b))
row_82_or q a c b h =
    let empty = empty_heavy c h in
    let left = moved (left_operand_seat Or statement_expression_seat) if_test_seat refl a in
    let right = moved (right_operand_seat Or statement_expression_seat) statement_expression_seat refl b in
    omega (arith, empty, left, right)

row_82_and : (q : StmtSeat) (a c b : Tree) → IsEmpty c → weight (Stmt q) (expression_statement (logical And (not_of conjunct_seat a) b)) + 5 ≤ weight (Stmt q) (if_else a c (expression_statement b))
row_82_and q a c b h =
    let empty = empty_heavy c h in
    let left = not_conjunct a in
    let right = moved (right_operand_seat And statement_expression_seat) statement_expression_seat refl b in
    omega (arith, empty, left, right)

row_83_alone : (q : StmtSeat) (a c : Tree) → IsEmpty c → weight (Stmt q) (expression_statement a) < weight (Stmt q) (if_alone a c)
row_83_alone q a c h = let empty = empty_heavy c h in let test = moved statement_expression_seat if_test_seat refl a in omega (arith, empty, test)

row_83_else : (q : StmtSeat) (a c u : Tree) → IsEmpty c → is_other_branch u ≡ true → weight (Stmt q) (if_alone (not_of if_test_seat a) (as_consequent u)) + 5 ≤ weight (Stmt q) (if_else a c u)
row_83_else q a c u h o =
    let empty = empty_heavy c h in
    let test = not_test a in
    let branch = branch_falls u o in
    let there = ap (λ b. unless b 10) (absent_is u ∙ other_present u o) in
    omega (arith, empty, test, branch, there)

row_83_nested : (q : StmtSeat) (a b s : Tree) → weight (Stmt q) (if_alone (logical And a b) s) < weight (Stmt q) (if_alone a (if_alone b s))
row_83_nested q a b s =
    let left = moved (left_operand_seat And if_test_seat) if_test_seat refl a in
    let right = right_falls b in
    omega (arith, left, right)

row_83_block : (q : StmtSeat) (a c u : Tree) → has_else c ≡ true → weight (Stmt q) (if_else a (block (c ▸ none)) u) < weight (Stmt q) (if_else a c u)
row_83_block q a c u h = let before = bare_heavier c h in let after = braced c h in omega (arith, before, after)

-- ---- all

empty_row : (q : StmtSeat) (n w : Tree) → Row82Empty n w → weight (Stmt q) w + 5 ≤ weight (Stmt q) n
empty_row q n w (inl r) = omega (arith, row_82_or q r.a r.empty r.b r.is_empty, ap (weight (Stmt q)) r.shape, ap (weight (Stmt q)) r.written)
empty_row q n w (inr r) = omega (arith, row_82_and q r.a r.empty r.b r.is_empty, ap (weight (Stmt q)) r.shape, ap (weight (Stmt q)) r.written)

row_83 : (q : StmtSeat) (n w : Tree) → Row83 n w → weight (Stmt q) w < weight (Stmt q) n
row_83 q n w (inl r) = omega (arith, row_83_alone q r.a r.empty r.is_empty, ap (weight (Stmt q)) r.shape, ap (weight (Stmt q)) r.written)
row_83 q n w (inr (inl r)) = omega (arith, row_83_else q r.a r.empty r.u r.is_empty r.other, ap (weight (Stmt q)) r.shape, ap (weight (Stmt q)) r.written)
row_83 q n w (inr (inr (inl r))) = omega (arith, row_83_nested q r.a r.b r.s, ap (weight (Stmt q)) r.shape, ap (weight (Stmt q)) r.written)
row_83 q n w (inr (inr (inr r))) = omega (arith, row_83_block q r.a r.c r.u r.chooses, ap (weight (Stmt q)) r.shape, ap (weight (Stmt q)) r.written)

body_row : (q : StmtSeat) (n w : Tree) → BodyRow n w → weight (Stmt q) w < weight (Stmt q) n
body_row q n w (inl r) = omega (arith, row_79 q r.place r.statement r.unscoped r.bare, ap (weight (Stmt q)) r.shape, ap (weight (Stmt q)) r.written)
body_row q n w (inr (inl (inl r))) = omega (arith, row_78_block q r.place r.before r.loop, ap (weight (Stmt q)) r.shape, ap (weight (Stmt q)) r.written)
body_row q n w (inr (inl (inr r))) = omega (arith, row_78_whole q r.place r.loop, ap (weight (Stmt q)) r.shape, ap (weight (Stmt q)) r.written)
body_row q n w (inr (inr (inl (inl r)))) = omega (arith, row_78_once q r.test r.before, ap (weight (Stmt q)) r.shape, ap (weight (Stmt q)) r.written)
body_row q n w (inr (inr (inl (inr r)))) = omega (arith, row_78_never q r.test, ap (weight (Stmt q)) r.shape, ap (weight (Stmt q)) r.written)
body_row q n w (inr (inr (inr r))) = omega (arith, row_84 q r.init r.update r.x r.test r.leading r.leaving r.loose, ap (weight (Stmt q)) r.shape, ap (weight (Stmt q)) r.written)

switch_lighter : (q : StmtSeat) (n w : Tree) → SwitchRow n w → weight (Stmt q) w < weight (Stmt q) n
switch_lighter q n w (inl r) = one_case_lighter q n w r
switch_lighter q n w (inr r) = dead_case_lighter q n w r

row_lighter : (q : StmtSeat) (n w : Tree) → BranchRow (Stmt q) n w → weight (Stmt q) w < weight (Stmt q) n
row_lighter q n w (inl (inr r)) = switch_lighter q n w r
row_lighter q n w (inl (inl r)) = omega (arith, row_60 q r.argument r.undefined, ap (weight (Stmt q)) r.shape, ap (weight (Stmt q)) r.written)
row_lighter q n w (inr (inl r)) = body_row q n w r
row_lighter q n w (inr (inr (inl r))) = let falls = empty_row q n w r in omega (arith, falls)
row_lighter q n w (inr (inr (inr (inl r)))) = row_83 q n w r
row_lighter q n w (inr (inr (inr (inr r)))) = let falls = ends_lighter q n w r in omega (arith, falls)

pub branch_lighter : BranchLighter
branch_lighter (Stmt q) n w r = row_lighter q n w r
branch_lighter p n w r = absurd r

-- what a parent reads: a row leaves an `if` with `else` one, or is lighter by more than the braces of a block

pub record Outlined (p : Position) (n w : Tree) : Type 0 where
  pub absent : (outline n).absent ≡ (outline w).absent
  pub items : (outline n).items ≡ (outline w).items
  pub is_zero : (outline n).is_zero ≡ (outline w).is_zero
  pub chooses : ((outline n).chooses ≡ true → (outline w).chooses ≡ true) ⊎ (weight p w + 5 ≤ weight p n)

pub outlined : (p : Position) (n n' w w' : Tree) → n ≡ n' → w ≡ w' → Outlined p n' w' → Outlined p n w
outlined p n n' w w' e f o = subst (λ x. Outlined p x w) (sym e) (subst (λ y. Outlined p n' y) (sym f) o)

-- a loop is read alike whatever its body is
pub loop_outlined : (q : StmtSeat) (k : Surrounding) (c d : Tree) → is_loop k ≡ true → Outlined (Stmt q) (around k c) (around k d)
loop_outlined q (Consequent a u) c d h = absurd (true≢false (sym h))
loop_outlined q (Alternate a s) c d h = absurd (true≢false (sym h))
loop_outlined q (WhileBody a) c d h = record { absent = refl; items = refl; is_zero = refl; chooses = inl (λ e. e) }
loop_outlined q (DoBody a) c d h = record { absent = refl; items = refl; is_zero = refl; chooses = inl (λ e. e) }
loop_outlined q (ForBody init test update) c d h = record { absent = refl; items = refl; is_zero = refl; chooses = inl (λ e. e) }
loop_outlined q (InBody left right) c d h = record { absent = refl; items = refl; is_zero = refl; chooses = inl (λ e. e) }
loop_outlined q (OfBody left right) c d h = record { absent = refl; items = refl; is_zero = refl; chooses = inl (λ e. e) }

row_79_outlined : (q : StmtSeat) (k : Surrounding) (c : Tree) → is_unscoped c ≡ true → Outlined (Stmt q) (around k (block (c ▸ none))) (around k c)
row_79_outlined q (Consequent a u) c h = record { absent = refl; items = refl; is_zero = refl; chooses = inl (λ e. e) }
row_79_outlined q (Alternate a s) c h = record { absent = refl; items = refl; is_zero = refl; chooses = inl (λ e. ap not (absent_is c ∙ scoped_present c h)) }
row_79_outlined q k c h = loop_outlined q k (block (c ▸ none)) c refl

body_outlined : (q : StmtSeat) (n w : Tree) → BodyRow n w → Outlined (Stmt q) n w
body_outlined q n w (inl r) = outlined (Stmt q) n _ w _ r.shape r.written (row_79_outlined q r.place r.statement r.unscoped)
body_outlined q n w (inr (inl (inl r))) = outlined (Stmt q) n _ w _ r.shape r.written (loop_outlined q r.place (block (append r.before (bare_continue ▸ none))) (block r.before) r.loop)
body_outlined q n w (inr (inl (inr r))) = outlined (Stmt q) n _ w _ r.shape r.written (loop_outlined q r.place bare_continue empty_statement r.loop)
body_outlined q n w (inr (inr (inl (inl r)))) = outlined (Stmt q) n _ w _ r.shape r.written (loop_outlined q (DoBody r.test) (block (append r.before (bare_break ▸ none))) (block r.before) refl)
body_outlined q n w (inr (inr (inl (inr r)))) = outlined (Stmt q) n _ w _ r.shape r.written (loop_outlined q (DoBody r.test) bare_break empty_statement refl)
body_outlined q n w (inr (inr (inr r))) = outlined (Stmt q) n _ w _ r.shape r.written (record { absent = refl; items = refl; is_zero = refl; chooses = inl (λ e. e) })

row_83_outlined : (q : StmtSeat) (n w : Tree) → Row83 n w → Outlined (Stmt q) n w
row_83_outlined q n w (inl r) = outlined (Stmt q) n _ w _ r.shape r.written (record { absent = refl; items = refl; is_zero = refl; chooses = inl (λ e. e) })
row_83_outlined q n w (inr (inl r)) = outlined (Stmt q) n _ w _ r.shape r.written (record { absent = refl; items = refl; is_zero = refl; chooses = inr (row_83_else q r.a r.empty r.u r.is_empty r.other) })
row_83_outlined q n w (inr (inr (inl r))) = outlined (Stmt q) n _ w _ r.shape r.written (record { absent = refl; items = refl; is_zero = refl; chooses = inl (λ e. e) })
row_83_outlined q n w (inr (inr (inr r))) = outlined (Stmt q) n _ w _ r.shape r.written (record { absent = refl; items = refl; is_zero = refl; chooses = inl (λ e. e) })

empty_outlined : (q : StmtSeat) (n w : Tree) → Row82Empty n w → Outlined (Stmt q) n w
empty_outlined q n w (inl r) = outlined (Stmt q) n _ w _ r.shape r.written (record { absent = refl; items = refl; is_zero = refl; chooses = inr (row_82_or q r.a r.empty r.b r.is_empty) })
empty_outlined q n w (inr r) = outlined (Stmt q) n _ w _ r.shape r.written (record { absent = refl; items = refl; is_zero = refl; chooses = inr (row_82_and q r.a r.empty r.b r.is_empty) })

ends_outlined : (q : StmtSeat) (n w : Tree) → Row82Ends n w → Outlined (Stmt q) n w
ends_outlined q n w (inl r) = outlined (Stmt q) n _ w _ r.shape r.written (record { absent = refl; items = refl; is_zero = refl; chooses = inl (λ e. e) })
ends_outlined q n w (inr r) = outlined (Stmt q) n _ w _ r.shape r.written (record { absent = refl; items = refl; is_zero = refl; chooses = inr (ends_fall q n w r) })

switch_outlined : (q : StmtSeat) (n w : Tree) → SwitchRow n w → Outlined (Stmt q) n w
switch_outlined q n w (inl (inl r)) = outlined (Stmt q) n _ w _ r.shape r.written (record { absent = refl; items = refl; is_zero = refl; chooses = inl (λ e. e) })
switch_outlined q n w (inl (inr (inl r))) = outlined (Stmt q) n _ w _ r.shape r.written (record { absent = refl; items = refl; is_zero = refl; chooses = inl (λ e. e) })
switch_outlined q n w (inl (inr (inr r))) = outlined (Stmt q) n _ w _ r.shape r.written (record { absent = refl; items = refl; is_zero = refl; chooses = inl (λ e. e) })
switch_outlined q n w (inr (inl r)) = outlined (Stmt q) n _ w _ r.shape r.written (record { absent = refl; items = refl; is_zero = refl; chooses = inl (λ e. e) })
switch_outlined q n w (inr (inr r)) = outlined (Stmt q) n _ w _ r.shape r.written (record { absent = refl; items = refl; is_zero = refl; chooses = inl (λ e. e) })

row_outlined : (q : StmtSeat) (n w : Tree) → BranchRow (Stmt q) n w → Outlined (Stmt q) n w
row_outlined q n w (inl (inr r)) = switch_outlined q n w r
row_outlined q n w (inl (inl r)) = outlined (Stmt q) n _ w _ r.shape r.written (record { absent = refl; items = refl; is_zero = refl; chooses = inl (λ e. e) })
row_outlined q n w (inr (inl r)) = body_outlined q n w r
row_outlined q n w (inr (inr (inl r))) = empty_outlined q n w r
row_outlined q n w (inr (inr (inr (inl r)))) = row_83_outlined q n w r
row_outlined q n w (inr (inr (inr (inr r)))) = ends_outlined q n w r

row_kept : (p : Position) (n w : Tree) → BranchRow p n w → Outlined p n w
row_kept (Stmt q) n w r = row_outlined q n w r
row_kept p n w r = absurd r

pub branches_lighten : Lightens BranchContracts
branches_lighten = record {
  lighter = λ p n w c. c.lighter;
  absent = λ p n w c e. (row_kept p n w c.row).absent;
  items = λ p n w c e. (row_kept p n w c.row).items;
  is_zero = λ p n w c e. inl (row_kept p n w c.row).is_zero;
  chooses = λ p n w c e. (row_kept p n w c.row).chooses;
}
