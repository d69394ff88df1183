-- What the rows of lists write is lighter.
use Rattle.std.proofs.Common.{◌≡◌, ℕ, suc, ◌+◌, ◌*◌, ◌<◌, ◌≤◌, Bool, true, false, List, refl, sym, ap, ◌∙◌, subst, inl, inr, true≢false, ltb-true, length, arith}
use Rattle.std.specs.Prelude.{◌⊎◌, ◌||◌, nat_eq, nat_lt, pos, negsuc, if◌then◌else◌}
use Rattle.std.proofs.lemmas.Bool.{and_parts}
use Rattle.std.specs.Fmt.{signed_decimal}
use Rattle.std.proofs.lemmas.Fmt.{decimal_digit}
use Rattle.mini_model.specs.declared.kind.VariableDeclarationKind.{VariableDeclarationKind}
use Rattle.mini_model.specs.declared.kind.VariableDeclarationKind.TheVariants.{Var, Let, Const}
use Rattle.mini_model.specs.declared.name.Name.{Name}
use Rattle.mini_model.specs.declared.operator.BinaryOperator.TheVariants as binary
use Rattle.mini_model.specs.declared.operator.LogicalOperator.TheVariants.{Or, And, Coalesce}
use Rattle.mini_model.specs.declared.place.Position.{Position}
use Rattle.mini_model.specs.declared.place.Position.TheVariants.{Expr, Stmt, StatementList, BodyList, CommaList, Elsewhere}
use Rattle.mini_model.specs.declared.seat.Seat.{Seat}
use Rattle.mini_model.specs.declared.seat.StmtSeat.TheVariants as stmt_seat
use Rattle.mini_model.specs.declared.shape.Shape.{Shape}
use Rattle.mini_model.specs.declared.shape.Shape.TheVariants as shape
use Rattle.mini_model.specs.Tree.{Tree, Trees, node, none, ◌▸◌, count, shape_of, absent, listed, identifier, expression_statement, if_else, if_alone}
use Rattle.mini_model.specs.Paths.{append}
use Rattle.mini_model.specs.Position.{seat_of_level, argument_seat, statement_expression_seat, if_test_seat, conditional_test_seat, whole_seat, not_operand_seat, left_operand_seat, right_operand_seat, branch_seat, passed_part_seat, part_seat, item_position}
use Rattle.mini_model.specs.Weight.{Outline, outline, outlines, one_chooses, is_parenthesized, commas_weight, declaring_weight, place_weight, weight, weights, capped}
use Rattle.mini_laws.specs.Weights.{counts_items}
use Rattle.mini_laws.proofs.Seats.{is_inner, placed, placed_node, moved}
use Rattle.mini_node.specs.Walks.{append_none}
use Rattle.mini_rows.specs.Switches.{Switches}
use Rattle.mini_rows.specs.Lists.{of_parts, is_one_part_shape, declares_nothing, are_parts, sequence, or_void, return_statement, throw_statement, is_unscoped, Head, Return, Throw, If, Switch, For, with_head, Row66Empty, Row66Joined, Row67, Row67Absent, Row67In, Row68, Row68Free, Row68Init, Row73, Row73Bare, Row76, Row79, SequencesRow, LoopRow, JoinRow, StretchRow, InList, ListRow, ListsLighter, Row74, Row75, Row78, block, alternate_of, bare_return, AtEnd, EndRow, NeighbourRow, Saying, AsStatement, AsReturn, AsThrow, says, Row77, Leap, Breaks, Continues, leap, Row77Leap, left_behind, Row77Unreached, declaration, resolved, binding, declarator, assigned, Holder, Statement, Heading, holding, Beginning, Alone, Init, Before, begun, begun_without, Row70, Each, EachIn, EachOf, each_loop, bare_var, Row69, Going, Declaring, Looping}
use Rattle.mini_rows.specs.ListLaws.{ListsLighten}

-- the statements of a list, wherever in it they stand
abbrev pub total : Trees → ℕ
total none = 0
total (t ▸ ts) = weight (Stmt stmt_seat.List) t + total ts

total_is : (n : ℕ) (ts : Trees) → weights (item_position StatementList n) ts ≡ total ts
total_is n none = refl
total_is n (t ▸ ts) = let rest = total_is n ts in omega (arith, rest)

pub list_is : (ts : Trees) → weight StatementList (listed ts) ≡ total ts
list_is ts = let items = total_is (count ts) ts in omega (arith, items)

total_body : (n : ℕ) (ts : Trees) → weights (item_position BodyList n) ts ≡ total ts
total_body n none = refl
total_body n (t ▸ ts) = let rest = total_body n ts in omega (arith, rest)

-- and so as the list of a function's body
pub body_is : (ts : Trees) → weight BodyList (listed ts) ≡ total ts
body_is ts = let items = total_body (count ts) ts in omega (arith, items)

pub body_weighs : (ts : Trees) → weight BodyList (listed ts) ≡ weight StatementList (listed ts)
body_weighs ts = let one = body_is ts in let other = list_is ts in omega (arith, one, other)

pub total_append : (a b : Trees) → total (append a b) ≡ total a + total b
total_append none b = omega arith
total_append (t ▸ a) b = let rest = total_append a b in omega (arith, rest)

-- ---- what a sequence weighs as the expression of a statement, by its parts

-- the seats of the expressions of statements, but for marks that no weight reads
abbrev flat : Bool → Bool → Seat
flat b u = record (seat_of_level 0) { boolean = b; unused = u }

abbrev pub parts_total : Trees → ℕ
parts_total none = 0
parts_total (t ▸ ts) = weight (Expr passed_part_seat) t + parts_total ts

abbrev pub parts_weight : Tree → Trees → ℕ
parts_weight p ps = weight (Expr passed_part_seat) p + parts_total ps + 2 * count ps

part_falls : (s : Seat) (t : Tree) → weight (Expr passed_part_seat) t ≤ weight (Expr (branch_seat s)) t
part_falls s t = let falls = placed 0 passed_part_seat (branch_seat s) refl (λ h os. omega arith) t in omega (arith, falls)

part_rises : (s : Seat) (t : Tree) → weight (Expr (branch_seat s)) t ≤ weight (Expr passed_part_seat) t
part_rises s t = let falls = placed 0 (branch_seat s) passed_part_seat refl (λ h os. omega arith) t in omega (arith, falls)

pub part_same : (s : Seat) (b : Bool) (t : Tree) → weight (Expr (if b then branch_seat s else passed_part_seat)) t ≡ weight (Expr passed_part_seat) t
part_same s true t = let falls = part_falls s t in let rises = part_rises s t in omega (arith, falls, rises)
part_same s false t = refl

parts_by : (σ : ℕ → Seat) → ((i : ℕ) (t : Tree) → weight (Expr (σ i)) t ≡ weight (Expr passed_part_seat) t) → (ts : Trees) → weights (λ i. Expr (σ i)) ts ≡ parts_total ts
parts_by σ e none = refl
parts_by σ e (t ▸ ts) =
    let one = e 0 t in
    let rest = parts_by (λ i. σ (suc i)) (λ i. e (suc i)) ts in
    omega (arith, one, rest)

commas_by : (p : Tree) (ps : Trees) → commas_weight (outlines (p ▸ ps)) ≡ 2 * count ps
commas_by p none = refl
commas_by p (q ▸ qs) = let rest = commas_by q qs in omega (arith, rest)

sequence_is : (b u : Bool) (p : Tree) (ps : Trees) → weight (Expr (flat b u)) (sequence (p ▸ ps)) ≡ parts_weight p ps
sequence_is b u p ps =
    let items = parts_by (part_seat (flat b u) (count (p ▸ ps))) (λ i t. part_same (flat b u) (nat_eq (suc i) (count (p ▸ ps))) t) (p ▸ ps) in
    let commas = commas_by p ps in
    omega (arith, items, commas)

-- in any seat its place adds what it does of a sequence
pub sequence_weighs : (s : Seat) (p : Tree) (ps : Trees) → weight (Expr s) (sequence (p ▸ ps)) ≡ place_weight (Expr s) shape.SequenceExpression (outlines (listed (p ▸ ps) ▸ none)) + parts_weight p ps
sequence_weighs s p ps =
    let items = parts_by (part_seat s (count (p ▸ ps))) (λ i t. part_same s (nat_eq (suc i) (count (p ▸ ps))) t) (p ▸ ps) in
    let commas = commas_by p ps in
    omega (arith, items, commas)

one_marks : (b u : Bool) (h : Shape) (os : List Outline) → is_one_part_shape h ≡ true → place_weight (Expr passed_part_seat) h os ≤ place_weight (Expr (flat b u)) h os + 0
one_marks b u shape.SequenceExpression os e = absurd (true≢false (sym e))
one_marks b u (shape.LogicalExpression Or) os e = omega arith
one_marks b u (shape.LogicalExpression And) os e = omega arith
one_marks b u (shape.LogicalExpression Coalesce) os e = omega arith
one_marks b u (shape.BinaryExpression binary.BitwiseOr) os e = omega arith
one_marks b u (shape.BinaryExpression o) os e = omega arith
one_marks b u (shape.NumericLiteral (pos n)) os e = omega arith
one_marks b u (shape.NumericLiteral (negsuc n)) os e = omega arith
one_marks b u h os e = omega arith

not_inner : (h : Shape) → is_one_part_shape h ≡ true → is_inner h ≡ false
not_inner shape.InnerExpression e = absurd (true≢false (sym e))
not_inner h e = refl

one_falls : (b u : Bool) (t : Tree) → is_one_part_shape (shape_of t) ≡ true → weight (Expr passed_part_seat) t ≤ weight (Expr (flat b u)) t
one_falls b u (node h xs n ts) e = let falls = placed_node 0 passed_part_seat (flat b u) h (not_inner h e) xs n ts (one_marks b u h (outlines ts) e) in omega (arith, falls)

parts_fall : (b u : Bool) (p : Tree) (ps : Trees) → are_parts p ps ≡ true → parts_weight p ps ≤ weight (Expr (flat b u)) (of_parts p ps)
parts_fall b u p none e = let (part, declares) = and_parts (is_one_part_shape (shape_of p)) (declares_nothing p) e in let falls = one_falls b u p part in omega (arith, falls)
parts_fall b u p (q ▸ qs) e = let same = sequence_is b u p (q ▸ qs) in omega (arith, same)

pub parts_append : (ps : Trees) (q : Tree) (qs : Trees) → parts_total (append ps (q ▸ qs)) + 2 * count (append ps (q ▸ qs)) ≡ parts_total ps + 2 * count ps + parts_weight q qs + 2
parts_append none q qs = omega arith
parts_append (p ▸ ps) q qs = let rest = parts_append ps q qs in omega (arith, rest)

of_more : (b u : Bool) (p : Tree) (ps : Trees) (q : Tree) (qs : Trees) → weight (Expr (flat b u)) (of_parts p (append ps (q ▸ qs))) ≡ parts_weight p (append ps (q ▸ qs))
of_more b u p none q qs = sequence_is b u p (q ▸ qs)
of_more b u p (c ▸ ps) q qs = sequence_is b u p (c ▸ append ps (q ▸ qs))

-- an expression goes before another one for a comma
pub joined_falls : (b u c v : Bool) (p : Tree) (ps : Trees) (q : Tree) (qs : Trees) → are_parts p ps ≡ true → are_parts q qs ≡ true → weight (Expr (flat b u)) (of_parts p (append ps (q ▸ qs))) ≤ weight (Expr (flat c v)) (of_parts p ps) + weight (Expr (flat b u)) (of_parts q qs) + 2
joined_falls b u c v p ps q qs e f =
    let whole = of_more b u p ps q qs in
    let sum = parts_append ps q qs in
    let left = parts_fall c v p ps e in
    let right = parts_fall b u q qs f in
    omega (arith, whole, sum, left, right)

-- ---- rows

-- what the stretch falls by, and that no `if` with `else` stands alone in it, or it falls by more
abbrev pub chooses : Trees → Bool
chooses ts = one_chooses (outlines ts)

pub record Falls (a b : Trees) : Type 0 where
  pub lighter : total b < total a
  pub chosen : (chooses a ≡ false) ⊎ (total b + 5 ≤ total a)
  pub some : count a ≡ 0 → ⊥

pub replaced : (a a' b b' : Trees) → a ≡ a' → b ≡ b' → Falls a' b' → Falls a b
replaced a a' b b' u v h = subst (λ x. Falls x b) (sym u) (subst (λ y. Falls a' y) (sym v) h)

row_66_empty : (a b : Trees) → Row66Empty a b → Falls a b
row_66_empty a b r = replaced a _ b _ r.shape r.written (record { lighter = omega arith; chosen = inl refl; some = λ e. omega (arith, e) })

row_66_joined : (a b : Trees) → Row66Joined a b → Falls a b
row_66_joined a b r =
    let falls = joined_falls false true false true r.p r.ps r.q r.qs r.first r.second in
    replaced a _ b _ r.shape r.written (record { lighter = omega (arith, falls); chosen = inl refl; some = λ e. omega (arith, e) })

row_79 : (a b : Trees) → Row79 a b → Falls a b
row_79 a b r =
    let items = list_is r.statements in
    replaced a _ b _ r.shape r.written (record { lighter = omega (arith, items); chosen = inl refl; some = λ e. omega (arith, e) })

-- `if (a) return b; return c;`

void_falls : (t : Tree) → weight (Expr (branch_seat whole_seat)) (or_void t) ≤ weight (Expr whole_seat) t + 12
void_falls (node shape.Absent xs n ts) = let digit : length (signed_decimal (pos 0)) ≡ 1 = ap length (decimal_digit 0 (omega arith)) in omega (arith, digit)
void_falls (node h xs n ts) = let falls = moved (branch_seat whole_seat) whole_seat refl (node h xs n ts) in omega (arith, falls)

row_73_return : (a b : Trees) → Row73 return_statement a b → Falls a b
row_73_return a b r =
    let test = moved conditional_test_seat if_test_seat refl r.test in
    let left = void_falls r.left in
    let right = moved (branch_seat whole_seat) whole_seat refl r.right in
    replaced a _ b _ r.shape r.written (record { lighter = omega (arith, test, left, right); chosen = inl refl; some = λ e. omega (arith, e) })

row_73_throw : (a b : Trees) → Row73 throw_statement a b → Falls a b
row_73_throw a b r =
    let test = moved conditional_test_seat if_test_seat refl r.test in
    let left = void_falls r.left in
    let right = moved (branch_seat whole_seat) whole_seat refl r.right in
    replaced a _ b _ r.shape r.written (record { lighter = omega (arith, test, left, right); chosen = inl refl; some = λ e. omega (arith, e) })

row_73_bare : (a b : Trees) → Row73Bare a b → Falls a b
row_73_bare a b r =
    let test = moved statement_expression_seat if_test_seat refl r.test in
    replaced a _ b _ r.shape r.written (record { lighter = omega (arith, test); chosen = inl refl; some = λ e. omega (arith, e) })

-- `a; return b;`

enters : (p : Tree) (ps : Trees) (q : Tree) (qs : Trees) → are_parts p ps ≡ true → are_parts q qs ≡ true → (head : Head) → total (with_head head (of_parts p (append ps (q ▸ qs))) ▸ none) < total (expression_statement (of_parts p ps) ▸ (with_head head (of_parts q qs) ▸ none))
enters p ps q qs e f Return = let falls = joined_falls false false false true p ps q qs e f in omega (arith, falls)
enters p ps q qs e f Throw = let falls = joined_falls false false false true p ps q qs e f in omega (arith, falls)
enters p ps q qs e f (If u v) = let falls = joined_falls true false false true p ps q qs e f in omega (arith, falls)
enters p ps q qs e f (Switch cases) = let falls = joined_falls false false false true p ps q qs e f in omega (arith, falls)
enters p ps q qs e f (For u v w) = let falls = joined_falls false true false true p ps q qs e f in omega (arith, falls)

row_67 : (a b : Trees) → Row67 a b → Falls a b
row_67 a b r = replaced a _ b _ r.shape r.written (record { lighter = enters r.p r.ps r.q r.qs r.first r.second r.head; chosen = inl refl; some = λ e. omega (arith, e) })

row_67_absent : (a b : Trees) → Row67Absent a b → Falls a b
row_67_absent a b r = replaced a _ b _ r.shape r.written (record { lighter = omega arith; chosen = inl refl; some = λ e. omega (arith, e) })

-- `a; for (x in b) c`

row_67_in : (a b : Trees) → Row67In a b → Falls a b
row_67_in a b r =
    let falls = joined_falls false false false true r.p r.ps r.q r.qs r.first r.second in
    replaced a _ b _ r.shape r.written (record { lighter = omega (arith, falls); chosen = inl refl; some = λ e. omega (arith, e) })

-- `var a; var b;`

abbrev pub declarators : Trees → ℕ
declarators none = 0
declarators (t ▸ ts) = weight Elsewhere t + declarators ts

declarators_are : (n : ℕ) (ts : Trees) → weights (item_position CommaList n) ts ≡ declarators ts
declarators_are n none = refl
declarators_are n (t ▸ ts) = let rest = declarators_are n ts in omega (arith, rest)

pub comma_list : (ts : Trees) → weight CommaList (listed ts) ≡ commas_weight (outlines ts) + declarators ts
comma_list ts = let items = declarators_are (count ts) ts in omega (arith, items)

pub declarators_append : (a b : Trees) → declarators (append a b) ≡ declarators a + declarators b
declarators_append none b = omega arith
declarators_append (t ▸ a) b = let rest = declarators_append a b in omega (arith, rest)

commas_append : (a b : Trees) → commas_weight (outlines (append a b)) ≤ commas_weight (outlines a) + commas_weight (outlines b) + 2
commas_append none b = omega arith
commas_append (t ▸ none) none = omega arith
commas_append (t ▸ none) (u ▸ b) = omega arith
commas_append (t ▸ (c ▸ a)) b = let rest = commas_append (c ▸ a) b in omega (arith, rest)

word_counts : (k : VariableDeclarationKind) → 8 ≤ declaring_weight k
word_counts Var = omega arith
word_counts Let = omega arith
word_counts Const = omega arith

row_68 : (a b : Trees) → Row68 a b → Falls a b
row_68 a b r =
    let word = word_counts r.kind in
    let commas = commas_append r.ds r.es in
    let sum = declarators_append r.ds r.es in
    let first = comma_list r.ds in
    let second = comma_list r.es in
    let whole = comma_list (append r.ds r.es) in
    replaced a _ b _ r.shape r.written (record { lighter = omega (arith, word, commas, sum, first, second, whole); chosen = inl refl; some = λ e. omega (arith, e) })

-- `var a; for (; b; c) d` and `var a; for (var b; c; d) e`

row_68_free : (a b : Trees) → Row68Free a b → Falls a b
row_68_free a b r = replaced a _ b _ r.shape r.written (record { lighter = omega arith; chosen = inl refl; some = λ e. omega (arith, e) })

row_68_init : (a b : Trees) → Row68Init a b → Falls a b
row_68_init a b r =
    let commas = commas_append r.ds r.es in
    let sum = declarators_append r.ds r.es in
    let first = comma_list r.ds in
    let second = comma_list r.es in
    let whole = comma_list (append r.ds r.es) in
    replaced a _ b _ r.shape r.written (record { lighter = omega (arith, commas, sum, first, second, whole); chosen = inl refl; some = λ e. omega (arith, e) })

-- `if (a) s; else u`

-- a statement weighs in a list what it does as a branch
unscoped_seat : (t : Tree) → is_unscoped t ≡ true → weight (Stmt stmt_seat.List) t ≡ weight (Stmt stmt_seat.Body) t
unscoped_seat (node shape.Listed xs n ts) e = absurd (true≢false (sym e))
unscoped_seat (node shape.InnerExpression xs n ts) e = absurd (true≢false (sym e))
unscoped_seat (node h xs n ts) e = refl

unscoped_present : (t : Tree) → is_unscoped t ≡ true → (outline t).absent ≡ false
unscoped_present (node shape.Absent xs n ts) e = absurd (true≢false (sym e))
unscoped_present (node h xs n ts) e = refl

row_76_falls : (test s u : Tree) → is_unscoped u ≡ true → total (if_alone test s ▸ (u ▸ none)) + 10 ≤ total (if_else test s u ▸ none)
row_76_falls test s u e =
    let seat = unscoped_seat u e in
    let word = ap {B = ℕ} (λ b. if b then 0 else 10) (unscoped_present u e) in
    omega (arith, seat, word)

row_76 : (a b : Trees) → Row76 a b → Falls a b
row_76 a b r =
    let falls = row_76_falls r.test r.s r.u r.unscoped in
    replaced a _ b _ r.shape r.written (record { lighter = omega (arith, falls); chosen = inr (omega (arith, falls)); some = λ e. omega (arith, e) })

-- an `if` and the next one, that has its branch

right_marks : (b : Bool) → (if b then 4 else 0) + (if false || (false || false) then 1 else 0) ≤ 4
right_marks true = omega arith
right_marks false = omega arith

right_falls : (b : Tree) → weight (Expr (right_operand_seat Or if_test_seat)) b ≤ weight (Expr if_test_seat) b + 4
right_falls b = placed 4 (right_operand_seat Or if_test_seat) if_test_seat refl (λ h os. omega (arith, right_marks (is_parenthesized h (right_operand_seat Or if_test_seat)))) b

row_74 : (a b : Trees) → Row74 a b → Falls a b
row_74 a b r =
    let left = moved (left_operand_seat Or if_test_seat) if_test_seat refl r.left in
    let right = right_falls r.right in
    replaced a _ b _ r.shape r.written (record { lighter = omega (arith, left, right); chosen = inl refl; some = λ e. omega (arith, e) })

says_weighs : (k : Saying) (e : Tree) → 0 < weight (Stmt stmt_seat.List) (says k e)
says_weighs AsStatement e = omega arith
says_weighs AsReturn e = omega arith
says_weighs AsThrow e = omega arith

row_77 : (a b : Trees) → Row77 a b → Falls a b
row_77 a b r = let more = says_weighs r.saying r.e in replaced a _ b _ r.shape r.written (record { lighter = omega (arith, more); chosen = inl refl; some = λ e. omega (arith, e) })

leap_weighs : (l : Leap) → 0 < weight (Stmt stmt_seat.List) (leap l)
leap_weighs Breaks = omega arith
leap_weighs Continues = omega arith

row_77_leap : (a b : Trees) → Row77Leap a b → Falls a b
row_77_leap a b r = let more = leap_weighs r.leaping in replaced a _ b _ r.shape r.written (record { lighter = omega (arith, more); chosen = inl refl; some = λ e. omega (arith, e) })

several_choose : (t : Tree) (between : Trees) (u : Tree) → chooses (t ▸ append between (u ▸ none)) ≡ false
several_choose t none u = refl
several_choose t (c ▸ between) u = refl

pub capped_lighter : (a b : ℕ) → nat_lt (capped a) (capped b) ≡ true → a < b
capped_lighter a b e = omega (arith, ltb-true (capped a) (capped b) e)

row_77_unreached : (a b : Trees) → Row77Unreached a b → Falls a b
row_77_unreached a b r =
    let left = left_behind r.gone in
    let less = capped_lighter (weight StatementList (listed left)) (weight (Stmt stmt_seat.List) r.gone) r.lighter in
    let made = list_is left in
    let old = total_append r.between (r.gone ▸ none) in
    let new = total_append r.between left in
    replaced a _ b _ r.shape r.written (record { lighter = omega (arith, less, made, old, new); chosen = inl (several_choose r.first r.between r.gone); some = λ e. omega (arith, e) })

-- `var a; a = b;`

-- what is left of a sequence weighs no more alone
flat_marks : (b u : Bool) (h : Shape) (os : List Outline) → place_weight (Expr (flat b u)) h os ≤ place_weight (Expr passed_part_seat) h os + 0
flat_marks b u shape.SequenceExpression os = omega arith
flat_marks b u (shape.LogicalExpression Or) os = omega arith
flat_marks b u (shape.LogicalExpression And) os = omega arith
flat_marks b u (shape.LogicalExpression Coalesce) os = omega arith
flat_marks b u (shape.BinaryExpression binary.BitwiseOr) os = omega arith
flat_marks b u (shape.BinaryExpression o) os = omega arith
flat_marks b u (shape.NumericLiteral (pos n)) os = omega arith
flat_marks b u (shape.NumericLiteral (negsuc n)) os = omega arith
flat_marks b u h os = omega arith

left_falls : (b u : Bool) (q : Tree) (qs : Trees) → weight (Expr (flat b u)) (of_parts q qs) ≤ parts_weight q qs
left_falls b u q none = let falls = placed 0 (flat b u) passed_part_seat refl (flat_marks b u) q in omega (arith, falls)
left_falls b u q (c ▸ qs) = let same = sequence_is b u q (c ▸ qs) in omega (arith, same)

first_falls : (b u : Bool) (p q : Tree) (qs : Trees) → weight (Expr (flat b u)) (of_parts q qs) + weight (Expr passed_part_seat) p + 2 ≤ weight (Expr (flat b u)) (sequence (p ▸ (q ▸ qs)))
first_falls b u p q qs =
    let left = left_falls b u q qs in
    let whole = sequence_is b u p (q ▸ qs) in
    omega (arith, left, whole)

commas_there : (ds : Trees) (d c : Tree) (es : Trees) → commas_weight (outlines (append ds (d ▸ es))) ≡ commas_weight (outlines (append ds (c ▸ es)))
commas_there none d c none = refl
commas_there none d c (e ▸ es) = refl
commas_there (t ▸ none) d c es = let rest = commas_there none d c es in omega (arith, rest)
commas_there (t ▸ (u ▸ ds)) d c es = let rest = commas_there (u ▸ ds) d c es in omega (arith, rest)

at_most : (b : Bool) → (if b then 0 else 2) ≤ 2
at_most true = omega arith
at_most false = omega arith

-- and so in the seat of what a `for..of` goes over, or of an initializer, where a sequence has parentheses
argument_falls : (p q : Tree) (qs : Trees) → weight (Expr argument_seat) (of_parts q qs) + weight (Expr passed_part_seat) p + 2 ≤ weight (Expr argument_seat) (sequence (p ▸ (q ▸ qs)))
argument_falls p q none =
    let alone = moved argument_seat passed_part_seat refl q in
    let whole = sequence_weighs argument_seat p (q ▸ none) in
    omega (arith, alone, whole)
argument_falls p q (c ▸ qs) =
    let left = sequence_weighs argument_seat q (c ▸ qs) in
    let whole = sequence_weighs argument_seat p (q ▸ (c ▸ qs)) in
    omega (arith, left, whole)

parts_present : (q : Tree) (qs : Trees) → (if (outline (of_parts q qs)).absent then 0 else 2) ≤ 2
parts_present q qs = at_most (outline (of_parts q qs)).absent

held_falls : (h : Holder) (p q : Tree) (qs : Trees) → total (holding h (of_parts q qs) ▸ none) + weight (Expr passed_part_seat) p + 2 ≤ total (holding h (sequence (p ▸ (q ▸ qs))) ▸ none)
held_falls Statement p q qs = let falls = first_falls false true p q qs in omega (arith, falls)
held_falls (Heading Return) p q qs = let falls = first_falls false false p q qs in omega (arith, falls)
held_falls (Heading Throw) p q qs = let falls = first_falls false false p q qs in omega (arith, falls)
held_falls (Heading (If u v)) p q qs = let falls = first_falls true false p q qs in omega (arith, falls)
held_falls (Heading (Switch cases)) p q qs = let falls = first_falls false false p q qs in omega (arith, falls)
held_falls (Heading (For u v w)) p q qs = let falls = first_falls false true p q qs in omega (arith, falls)
held_falls (Going EachIn left body) p q qs = let falls = first_falls false false p q qs in omega (arith, falls)
held_falls (Going EachOf left body) p q qs = let falls = argument_falls p q qs in omega (arith, falls)
held_falls (Declaring kind id ds) p q qs =
    let falls = argument_falls p q qs in
    let sign = parts_present q qs in
    omega (arith, falls, sign, commas_there none (declarator id (of_parts q qs)) (declarator id (sequence (p ▸ (q ▸ qs)))) ds, comma_list (declarator id (of_parts q qs) ▸ ds), comma_list (declarator id (sequence (p ▸ (q ▸ qs))) ▸ ds))
held_falls (Looping id ds u v w) p q qs =
    let falls = argument_falls p q qs in
    let sign = parts_present q qs in
    omega (arith, falls, sign, commas_there none (declarator id (of_parts q qs)) (declarator id (sequence (p ▸ (q ▸ qs)))) ds, comma_list (declarator id (of_parts q qs) ▸ ds), comma_list (declarator id (sequence (p ▸ (q ▸ qs))) ▸ ds))

-- an assignment weighs its value, its name and its sign
assigned_weighs : (x : List ℕ) (k : ℕ) (value : Tree) → weight (Expr passed_part_seat) (assigned (resolved x k) value) ≡ weight (Expr argument_seat) value + 4
assigned_weighs x k value = omega arith

begun_falls : (b : Beginning) (x : List ℕ) (k : ℕ) (value : Tree) → total (begun_without b) + weight (Expr argument_seat) value + 3 ≤ total (begun b (assigned (resolved x k) value) ▸ none)
begun_falls Alone x k value = omega arith
begun_falls (Init u v w) x k value = omega arith
begun_falls (Before h q qs) x k value =
    let falls = held_falls h (assigned (resolved x k) value) q qs in
    let weighs = assigned_weighs x k value in
    omega (arith, falls, weighs)

value_rises : (x : List ℕ) (k : ℕ) (value : Tree) → weight Elsewhere (declarator (binding (resolved x k)) value) ≤ weight Elsewhere (declarator (binding (resolved x k)) absent) + weight (Expr argument_seat) value + 2
value_rises x k value = let sign = at_most (outline value).absent in omega (arith, sign)

declared_rises : (kind : VariableDeclarationKind) (ds : Trees) (x : List ℕ) (k : ℕ) (es : Trees) (value : Tree) → total (declaration kind (append ds (declarator (binding (resolved x k)) value ▸ es)) ▸ none) ≤ total (declaration kind (append ds (declarator (binding (resolved x k)) absent ▸ es)) ▸ none) + weight (Expr argument_seat) value + 2
declared_rises kind ds x k es value =
    let old = declarator (binding (resolved x k)) absent in
    let new = declarator (binding (resolved x k)) value in
    omega (
      arith,
      value_rises x k value,
      commas_there ds new old es,
      comma_list (append ds (new ▸ es)),
      comma_list (append ds (old ▸ es)),
      declarators_append ds (new ▸ es),
      declarators_append ds (old ▸ es),
    )

-- a declaration that takes the value of an assignment falls by the assignment's name
pub value_falls : (kind : VariableDeclarationKind) (ds : Trees) (x y : List ℕ) (k : ℕ) (es : Trees) (value : Tree) (b : Beginning) → Falls (declaration kind (append ds (declarator (binding (resolved x k)) absent ▸ es)) ▸ (begun b (assigned (resolved y k) value) ▸ none)) (declaration kind (append ds (declarator (binding (resolved x k)) value ▸ es)) ▸ begun_without b)
value_falls kind ds x y k es value b =
    let begins = begun_falls b y k value in
    let rises = declared_rises kind ds x k es value in
    record { lighter = omega (arith, begins, rises); chosen = inl refl; some = λ e. omega (arith, e) }

row_70 : (a b : Trees) → Row70 a b → Falls a b
row_70 a b r = replaced a _ b _ r.shape r.written (value_falls Var r.ds r.spelling r.spelling r.symbol r.es r.value r.beginning)

-- `var a; for (a of b) c`

each_falls : (k : Each) (x y : Name) (right body : Tree) → total (each_loop k (bare_var x) right body ▸ none) < total (bare_var x ▸ (each_loop k (identifier y) right body ▸ none))
each_falls EachIn x y right body = omega arith
each_falls EachOf x y right body = omega arith

row_69 : (k : Each) (a b : Trees) → Row69 k a b → Falls a b
row_69 k a b r = replaced a _ b _ r.shape r.written (record { lighter = each_falls k (resolved r.spelling r.symbol) (resolved r.spelling r.symbol) r.right r.body; chosen = inl refl; some = λ e. omega (arith, e) })

sequences_fall : (a b : Trees) → SequencesRow a b → Falls a b
sequences_fall a b (inl r) = row_66_joined a b r
sequences_fall a b (inr (inl r)) = row_73_return a b r
sequences_fall a b (inr (inr (inl r))) = row_73_throw a b r
sequences_fall a b (inr (inr (inr (inl r)))) = row_73_bare a b r
sequences_fall a b (inr (inr (inr (inr (inl r))))) = row_67 a b r
sequences_fall a b (inr (inr (inr (inr (inr (inl r)))))) = row_67_absent a b r
sequences_fall a b (inr (inr (inr (inr (inr (inr r)))))) = row_76 a b r

loops_fall : (a b : Trees) → LoopRow a b → Falls a b
loops_fall a b (inl r) = row_67_in a b r
loops_fall a b (inr (inl r)) = row_68_free a b r
loops_fall a b (inr (inr r)) = row_68_init a b r

joins_fall : (o : Switches) (a b : Trees) → JoinRow o a b → Falls a b
joins_fall o a b (inl r) = row_68 a b r.1
joins_fall o a b (inr r) = loops_fall a b r.1

stretch_falls : (o : Switches) (a b : Trees) → StretchRow o a b → Falls a b
stretch_falls o a b (inl r) = row_66_empty a b r
stretch_falls o a b (inr (inl r)) = row_79 a b r
stretch_falls o a b (inr (inr (inl r))) = joins_fall o a b r
stretch_falls o a b (inr (inr (inr r))) = sequences_fall a b r.1

neighbours_fall : (o : Switches) (a b : Trees) → NeighbourRow o a b → Falls a b
neighbours_fall o a b (inl r) = stretch_falls o a b r
neighbours_fall o a b (inr (inl (s, inl r))) = row_74 a b r
neighbours_fall o a b (inr (inl (s, inr (inl r)))) = row_77 a b r
neighbours_fall o a b (inr (inl (s, inr (inr (inl r))))) = row_77_leap a b r
neighbours_fall o a b (inr (inl (s, inr (inr (inr r))))) = row_77_unreached a b r
neighbours_fall o a b (inr (inr (inl r))) = row_70 a b r
neighbours_fall o a b (inr (inr (inr (inl r)))) = row_69 EachOf a b r
neighbours_fall o a b (inr (inr (inr (inr r)))) = row_69 EachIn a b r.1

-- in a list

pub in_list : (pre a b post : Trees) (k : ℕ) → total b + k ≤ total a → weight StatementList (listed (append pre (append b post))) + k ≤ weight StatementList (listed (append pre (append a post)))
in_list pre a b post k e =
    let new = list_is (append pre (append b post)) in
    let old = list_is (append pre (append a post)) in
    let new_outer = total_append pre (append b post) in
    let new_inner = total_append b post in
    let old_outer = total_append pre (append a post) in
    let old_inner = total_append a post in
    omega (arith, e, new, old, new_outer, new_inner, old_outer, old_inner)

pub list_lighter : (R : Trees → Trees → Type 0) (n w : Tree) (r : InList R n w) → Falls r.read r.put → weight StatementList w < weight StatementList n
list_lighter R n w r falls =
    let whole = in_list r.before r.read r.put r.after 1 (omega (arith, falls.lighter)) in
    omega (arith, whole, ap (weight StatementList) r.shape, ap (weight StatementList) r.written)

-- a list weighs as much as that of a function's body
pub weighs_there : (t : Tree) (ts : Trees) → t ≡ listed ts → weight BodyList t ≡ weight StatementList t
weighs_there t ts e = ap (weight BodyList) e ∙ body_weighs ts ∙ sym (ap (weight StatementList) e)

pub body_lighter : (R : Trees → Trees → Type 0) (n w : Tree) (r : InList R n w) → Falls r.read r.put → weight BodyList w < weight BodyList n
body_lighter R n w r falls =
    let old = weighs_there n (append r.before (append r.read r.after)) r.shape in
    let new = weighs_there w (append r.before (append r.put r.after)) r.written in
    omega (arith, list_lighter R n w r falls, old, new)

-- ---- at the end of a list

abbrev pub end_in_list : (R : Trees → Trees → Type 0) (n w : Tree) → AtEnd R n w → InList R n w
end_in_list R n w r = record {
  before = r.before;
  read = r.read;
  put = r.put;
  after = none;
  row = r.row;
  shape = r.shape ∙ ap (λ ts. listed (append r.before ts)) (sym (append_none r.read));
  written = r.written ∙ ap (λ ts. listed (append r.before ts)) (sym (append_none r.put));
}

row_78 : (a b : Trees) → Row78 bare_return a b → Falls a b
row_78 a b r = replaced a _ b _ r.shape r.written (record { lighter = omega arith; chosen = inl refl; some = λ e. omega (arith, e) })

pub block_falls : (ts : Trees) → weight (Stmt stmt_seat.Consequent) (block ts) ≤ total ts + 4
block_falls ts = let items = list_is ts in let least = braces_weigh (one_chooses (outlines ts)) in omega (arith, items, least)
  where
    braces_weigh : (b : Bool) → (if b then 0 else 4) ≤ 4
    braces_weigh true = omega arith
    braces_weigh false = omega arith

guard_chooses : (test : Tree) (rest : Trees) → chooses (if_alone test bare_return ▸ rest) ≡ false
guard_chooses test none = refl
guard_chooses test (t ▸ ts) = refl

row_75 : (a b : Trees) → Row75 bare_return a b → Falls a b
row_75 a b r =
    let test = moved not_operand_seat if_test_seat refl r.test in
    let branch = block_falls r.rest in
    replaced a _ b _ r.shape r.written (record { lighter = omega (arith, test, branch); chosen = inl (guard_chooses r.test r.rest); some = λ e. omega (arith, e) })

abbrev braces_weight : Bool → ℕ
braces_weight b = if b then 0 else 4

-- a block that ends with a jump has braces
ends_plain : (ts : Trees) → one_chooses (outlines (append ts (bare_return ▸ none))) ≡ false
ends_plain none = refl
ends_plain (t ▸ none) = refl
ends_plain (t ▸ (u ▸ ts)) = refl

leaving_weighs : (ts : Trees) → weight (Stmt stmt_seat.Consequent) (block (append ts (bare_return ▸ none))) ≡ total ts + 20
leaving_weighs ts =
    let items = list_is (append ts (bare_return ▸ none)) in
    let both = total_append ts (bare_return ▸ none) in
    let braces = ap braces_weight (ends_plain ts) in
    omega (arith, items, both, braces)

pub alternate_weighs : (ts : Trees) → weight (Stmt stmt_seat.Body) (alternate_of ts) ≤ total ts + 4
alternate_weighs none = omega arith
alternate_weighs (t ▸ ts) = let items = list_is (t ▸ ts) in omega (arith, items)

leaving_chooses : (test : Tree) (body rest : Trees) → chooses (if_alone test (block (append body (bare_return ▸ none))) ▸ rest) ≡ false
leaving_chooses test body none = refl
leaving_chooses test body (t ▸ ts) = refl

row_75_block : (test : Tree) (body rest : Trees) → Falls (if_alone test (block (append body (bare_return ▸ none))) ▸ rest) (if_else test (block body) (alternate_of rest) ▸ none)
row_75_block test body none =
    let old = leaving_weighs body in
    let new = block_falls body in
    record { lighter = omega (arith, old, new); chosen = inl (leaving_chooses test body none); some = λ e. omega (arith, e) }
row_75_block test body (t ▸ ts) =
    let old = leaving_weighs body in
    let new = block_falls body in
    let other = alternate_weighs (t ▸ ts) in
    record { lighter = omega (arith, old, new, other); chosen = inl (leaving_chooses test body (t ▸ ts)); some = λ e. omega (arith, e) }

end_falls : (o : Switches) (a b : Trees) → EndRow o bare_return a b → Falls a b
end_falls o a b (inl r) = row_78 a b r
end_falls o a b (inr (s, inl r)) = row_75 a b r
end_falls o a b (inr (s, inr r)) = replaced a _ b _ r.shape r.written (row_75_block r.test r.body r.rest)

pub lists_lighter : ListsLighter
lists_lighter o StatementList n w r = list_lighter (NeighbourRow o) n w r (neighbours_fall o r.read r.put r.row)
lists_lighter o BodyList n w (inl r) = body_lighter (NeighbourRow o) n w r (neighbours_fall o r.read r.put r.row)
lists_lighter o BodyList n w (inr r) = body_lighter (EndRow o bare_return) n w (end_in_list (EndRow o bare_return) n w r) (end_falls o r.read r.put r.row)
lists_lighter o p n w r = absurd r

-- a list in which an `if` with `else` stands alone is the stretch
pub alone_after : (a post : Trees) → (count a ≡ 0 → ⊥) → chooses (append a post) ≡ true → chooses a ≡ true
alone_after none post s e = absurd (s refl)
alone_after (c ▸ none) none s e = e
alone_after (c ▸ none) (d ▸ post) s e = absurd (true≢false (sym e))
alone_after (c ▸ (d ▸ a)) post s e = absurd (true≢false (sym e))

pub some_after : (a post : Trees) → (count a ≡ 0 → ⊥) → count (append a post) ≡ 0 → ⊥
some_after none post s e = absurd (s refl)
some_after (c ▸ a) post s e = omega (arith, e)

pub alone : (pre a : Trees) → (count a ≡ 0 → ⊥) → chooses (append pre a) ≡ true → chooses a ≡ true
alone none a s e = e
alone (c ▸ none) none s e = absurd (s refl)
alone (c ▸ none) (d ▸ a) s e = absurd (true≢false (sym e))
alone (c ▸ (d ▸ pre)) a s e = absurd (true≢false (sym e))

pub list_chosen : (R : Trees → Trees → Type 0) (n w : Tree) (r : InList R n w) → Falls r.read r.put → ((outline n).chooses ≡ true → (outline w).chooses ≡ true) ⊎ (weight StatementList w + 5 ≤ weight StatementList n)
list_chosen R n w r falls = go falls.chosen
  where
    go : (chooses r.read ≡ false) ⊎ (total r.put + 5 ≤ total r.read) → ((outline n).chooses ≡ true → (outline w).chooses ≡ true) ⊎ (weight StatementList w + 5 ≤ weight StatementList n)
    go (inl e) = inl (λ h. absurd (true≢false (sym (alone_after r.read r.after falls.some (alone r.before (append r.read r.after) (some_after r.read r.after falls.some) (sym (ap (λ t. (outline t).chooses) r.shape) ∙ h))) ∙ e)))
    go (inr e) = let whole = in_list r.before r.read r.put r.after 5 e in inr (omega (arith, whole, ap (weight StatementList) r.shape, ap (weight StatementList) r.written))

pub body_chosen : (R : Trees → Trees → Type 0) (n w : Tree) (r : InList R n w) → Falls r.read r.put → ((outline n).chooses ≡ true → (outline w).chooses ≡ true) ⊎ (weight BodyList w + 5 ≤ weight BodyList n)
body_chosen R n w r falls =
    let old = weighs_there n (append r.before (append r.read r.after)) r.shape in
    let new = weighs_there w (append r.before (append r.put r.after)) r.written in
    go old new (list_chosen R n w r falls)
  where
    go : weight BodyList n ≡ weight StatementList n → weight BodyList w ≡ weight StatementList w → ((outline n).chooses ≡ true → (outline w).chooses ≡ true) ⊎ (weight StatementList w + 5 ≤ weight StatementList n) → ((outline n).chooses ≡ true → (outline w).chooses ≡ true) ⊎ (weight BodyList w + 5 ≤ weight BodyList n)
    go old new (inl f) = inl f
    go old new (inr f) = inr (omega (arith, f, old, new))

pub same_outline : {A : Type 0} (f : Outline → A) (R : Trees → Trees → Type 0) (n w : Tree) (r : InList R n w) → f (outline (listed (append r.before (append r.read r.after)))) ≡ f (outline (listed (append r.before (append r.put r.after)))) → f (outline n) ≡ f (outline w)
same_outline f R n w r e = ap (λ t. f (outline t)) r.shape ∙ e ∙ sym (ap (λ t. f (outline t)) r.written)

list_absent : (o : Switches) (p : Position) (n w : Tree) → ListRow o p n w → (outline n).absent ≡ (outline w).absent
list_absent o StatementList n w r = same_outline (λ l. l.absent) (NeighbourRow o) n w r refl
list_absent o BodyList n w (inl r) = same_outline (λ l. l.absent) (NeighbourRow o) n w r refl
list_absent o BodyList n w (inr r) = same_outline (λ l. l.absent) (EndRow o bare_return) n w (end_in_list (EndRow o bare_return) n w r) refl
list_absent o p n w r = absurd r

list_zero : (o : Switches) (p : Position) (n w : Tree) → ListRow o p n w → (outline n).is_zero ≡ (outline w).is_zero
list_zero o StatementList n w r = same_outline (λ l. l.is_zero) (NeighbourRow o) n w r refl
list_zero o BodyList n w (inl r) = same_outline (λ l. l.is_zero) (NeighbourRow o) n w r refl
list_zero o BodyList n w (inr r) = same_outline (λ l. l.is_zero) (EndRow o bare_return) n w (end_in_list (EndRow o bare_return) n w r) refl
list_zero o p n w r = absurd r

list_items : (o : Switches) (p : Position) (n w : Tree) → ListRow o p n w → counts_items p ≡ true → (outline n).items ≡ (outline w).items
list_items o StatementList n w r e = absurd (true≢false (sym e))
list_items o BodyList n w r e = absurd (true≢false (sym e))
list_items o p n w r e = absurd r

list_chooses : (o : Switches) (p : Position) (n w : Tree) → ListRow o p n w → ((outline n).chooses ≡ true → (outline w).chooses ≡ true) ⊎ (weight p w + 5 ≤ weight p n)
list_chooses o StatementList n w r = list_chosen (NeighbourRow o) n w r (neighbours_fall o r.read r.put r.row)
list_chooses o BodyList n w (inl r) = body_chosen (NeighbourRow o) n w r (neighbours_fall o r.read r.put r.row)
list_chooses o BodyList n w (inr r) = body_chosen (EndRow o bare_return) n w (end_in_list (EndRow o bare_return) n w r) (end_falls o r.read r.put r.row)
list_chooses o p n w r = absurd r

pub lists_lighten : ListsLighten
lists_lighten o = record {
  lighter = λ p n w c. c.lighter;
  absent = λ p n w c e. list_absent o p n w c.row;
  items = λ p n w c e. list_items o p n w c.row e;
  is_zero = λ p n w c e. inl (list_zero o p n w c.row);
  chooses = λ p n w c e. list_chooses o p n w c.row;
}
