-- What each row on what is known writes keeps what a program has to keep.
use Rattle.std.proofs.Common.{◌≡◌, Bool, true, false, [], refl, sym, ap, inr, true≢false}
use Rattle.std.specs.Prelude.{◌&&◌}
use Rattle.std.proofs.lemmas.Bool.{and_parts}
use Rattle.mini_model.specs.declared.operator.BinaryOperator.{BinaryOperator}
use Rattle.mini_model.specs.declared.operator.LogicalOperator.{LogicalOperator}
use Rattle.mini_model.specs.declared.place.Position.{Position}
use Rattle.mini_model.specs.declared.place.Position.TheVariants.{Expr, Stmt}
use Rattle.mini_model.specs.declared.seat.Seat.{Seat}
use Rattle.mini_model.specs.declared.seat.StmtSeat.{StmtSeat}
use Rattle.mini_model.specs.declared.shape.Shape.TheVariants as shape
use Rattle.mini_model.specs.Tree.{Tree, node, none, ◌▸◌, logical, conditional, expression_statement, empty_statement}
use Rattle.mini_accept.specs.WellShaped.{Class, a_statement, an_init, an_arrow_body, an_expression, a_link, an_argument, a_key, a_private_or_key, an_inner_key, a_default_export, Slot, one, one_or_absent, fits, is_not_positive_number}
use Rattle.mini_kept.specs.KeepsShapes.{AskedAlike}
use Rattle.mini_kept.specs.KeepsFrames.{is_in_body, is_body_slot}
use Rattle.mini_kept.specs.KeepsLoosely.{has_member}
use Rattle.mini_kept.proofs.Bools.{left}
use Rattle.mini_kept.proofs.Expressions.{refused_here, expression, TakesExpressionIn, TakesExpression}
use Rattle.mini_kept.proofs.Rows.{TakesStatementIn, TakesStatement}
use Rattle.mini_terms.specs.Parts.{is_number, suits}
use Rattle.mini_rows.specs.Arranged.{KeptAt, KeptLoosely}
use Rattle.mini_rows.specs.Sketches.{Empty, OfExpression, Logical, Binary, Conditional, part, under, end, ◌▹◌}
use Rattle.mini_rows.specs.Folding.{Row12, Row13, Row22, Row28, Row49Idle}
use Rattle.mini_rows.specs.Spellings.{binary}
use Rattle.mini_rows.proofs.ArrangedExpressions.{expressions_arranged, expressions_arranged_freely, expressions_arranged_loosely}
use Rattle.mini_rows.proofs.ArrangedStatements.{statements_arranged}
use Rattle.mini_rows.proofs.ChoiceShapes.{choice_taken}
pub use Rattle.mini_rows.proofs.Vanishing.{vanishes, first_dropped}
use Rattle.mini_rows.proofs.FoldWeights.{not_a_number}
use Rattle.mini_rows.proofs.SideGone.{side_fixed}
use Rattle.mini_rows.proofs.SpellShapes.{a_logical, a_binary, Alone, Linked, Ending, Assigned, Nowhere, Stands, stands, FitsToo, by_shape, Formed}

-- ---- the same parts

pub passed_kept : (q : Seat) (n w : Tree) → Row13 q n w → KeptAt (Expr q) n w
passed_kept q n w r = expressions_arranged_freely first_dropped (record { trees = r.left ▸ r.right ▸ none; lists = [] }) (tt, tt, (vanishes r.left r.dropped, tt)) (under (Logical r.operator) (part 0 ▹ part 1 ▹ end)) (part 1) refl q n w r.shape r.written

-- what goes may be anything, and declare what can't be written
pub stopped_kept : (q : Seat) (n w : Tree) → Row12 q n w → KeptLoosely (Expr q) n w
stopped_kept q n w r =
    expressions_arranged_loosely first_dropped (record { trees = r.right ▸ r.left ▸ none; lists = [] }) (tt, tt) (under (Logical r.operator) (part 1 ▹ part 0 ▹ end)) (part 1) refl q n w r.shape r.written
    (inr (ap has_member r.shape)) (side_fixed q n w r.operator r.left r.right r.dropped r.shape r.written)

pub loosened_kept : (q : Seat) (n w : Tree) → Row28 n w → KeptAt (Expr q) n w
loosened_kept q n w r = expressions_arranged (record { trees = r.left ▸ r.right ▸ none; lists = [] }) (under (Binary r.operator) (part 0 ▹ part 1 ▹ end)) (under (Binary r.loose) (part 0 ▹ part 1 ▹ end)) refl q n w r.shape r.written

pub branch_kept : (q : Seat) (n w : Tree) → Row49Idle q n w → KeptAt (Expr q) n w
branch_kept q n w r = expressions_arranged_freely first_dropped (record { trees = r.test ▸ r.branch ▸ none; lists = [] }) (tt, tt, (vanishes r.test r.dropped, tt)) (under Conditional (part 0 ▹ part 1 ▹ part 1 ▹ end)) (part 1) refl q n w r.shape r.written

pub statement_kept : (q : StmtSeat) (n w : Tree) → Row22 n w → KeptAt (Stmt q) n w
statement_kept q n w r = statements_arranged first_dropped (record { trees = r.expression ▸ none; lists = [] }) (tt, tt, (vanishes r.expression r.dropped, tt)) (under OfExpression (part 0 ▹ end)) (under Empty end) refl q n w r.shape r.written

-- ---- where they stand

-- an expression statement stands where a statement may
statement_in : (strict : Bool) (k : Class) (a : Tree) → fits strict (one k) (expression_statement a) ≡ true → TakesStatementIn k
statement_in strict (a_statement d) a e = tt
statement_in strict (a_key true) a e = absurd (refused_here strict (one (a_key true)) shape.ExpressionStatement [] 0 (a ▸ none) refl e)
statement_in strict (a_private_or_key true) a e = absurd (refused_here strict (one (a_private_or_key true)) shape.ExpressionStatement [] 0 (a ▸ none) refl e)
statement_in strict (an_inner_key true) a e = absurd (refused_here strict (one (an_inner_key true)) shape.ExpressionStatement [] 0 (a ▸ none) refl e)
statement_in strict k a e = absurd (refused_here strict (one k) shape.ExpressionStatement [] 0 (a ▸ none) refl e)

pub statement_taken : (strict : Bool) (s : Slot) (a : Tree) → fits strict s (expression_statement a) ≡ true → TakesStatement s
statement_taken strict (one k) a e = statement_in strict k a e
statement_taken strict (one_or_absent k) a e = statement_in strict k a e
statement_taken strict s a e = absurd (refused_here strict s shape.ExpressionStatement [] 0 (a ▸ none) refl e)

empty_in : (strict : Bool) (k : Class) → TakesStatementIn k → fits strict (one k) empty_statement ≡ true
empty_in strict (a_statement d) t = refl
empty_in strict k t = absurd t

pub empty_taken : (strict : Bool) (s : Slot) → TakesStatement s → fits strict s empty_statement ≡ true
empty_taken strict (one k) t = empty_in strict k t
empty_taken strict (one_or_absent k) t = empty_in strict k t
empty_taken strict s t = absurd t

pub operands : (strict : Bool) (s : Slot) (o : LogicalOperator) (a b : Tree) → fits strict s (logical o a b) ≡ true → TakesExpression s × (fits strict expression a ≡ true) × (fits strict expression b ≡ true)
operands strict s o a b e =
    let (takes, whole) = choice_taken strict s (a_logical o) (a ▸ b ▸ none) refl e in
    let (first, rest) = and_parts (fits strict expression a) (fits strict expression b && true) whole in
    (takes, first, left (fits strict expression b) true rest)

-- `==` may stand wherever `===` does
loosened_stands : (strict : Bool) (o p : BinaryOperator) (a b : Tree) → Stands strict (a_binary o) (a ▸ b ▸ none) (a_binary p) (a ▸ b ▸ none)
loosened_stands strict o p a b Alone e = e
loosened_stands strict o p a b Linked e = e
loosened_stands strict o p a b Ending e = absurd (cc e)
loosened_stands strict o p a b Assigned e = absurd (cc e)
loosened_stands strict o p a b Nowhere e = absurd (cc e)

pub loosened_fits : (n w : Tree) → Row28 n w → FitsToo n w
loosened_fits n w r = by_shape n w (binary r.operator r.left r.right) (binary r.loose r.left r.right) r.shape r.written (λ strict s. stands strict (a_binary r.operator) (a_binary r.loose) (r.left ▸ r.right ▸ none) (r.left ▸ r.right ▸ none) (loosened_stands strict r.operator r.loose r.left r.right) s)

pub loosened_formed : (n w : Tree) → Row28 n w → Formed n w
loosened_formed n w r = record { first = a_binary r.operator; second = a_binary r.loose; parts = r.left ▸ r.right ▸ none; others = r.left ▸ r.right ▸ none; read = r.shape; made = r.written; optional = λ e. e }

expression_in_body : (k : Class) → TakesExpressionIn k → is_in_body k ≡ true
expression_in_body an_expression t = refl
expression_in_body a_link t = refl
expression_in_body an_argument t = refl
expression_in_body an_init t = refl
expression_in_body (a_key true) t = refl
expression_in_body an_arrow_body t = refl
expression_in_body a_default_export t = refl
expression_in_body k t = absurd t

pub expression_slot : (p : Position) (s : Slot) → TakesExpression s → is_body_slot p s ≡ true
expression_slot p (one k) t = expression_in_body k t
expression_slot p (one_or_absent k) t = expression_in_body k t
expression_slot p s t = absurd t

statement_in_body : (k : Class) → TakesStatementIn k → is_in_body k ≡ true
statement_in_body (a_statement d) t = refl
statement_in_body k t = absurd t

pub statement_slot : (p : Position) (s : Slot) → TakesStatement s → is_body_slot p s ≡ true
statement_slot p (one k) t = statement_in_body k t
statement_slot p (one_or_absent k) t = statement_in_body k t
statement_slot p s t = absurd t

-- ---- what a parent asks of them

pub no_number : (t : Tree) → is_number t ≡ false → is_not_positive_number t ≡ true
no_number (node (shape.NumericLiteral m) xs n ts) e = absurd (true≢false e)
no_number (node h xs n ts) e = refl

pub logical_asked : (q : Seat) (o : LogicalOperator) (a b t : Tree) → suits q t ≡ true → AskedAlike (Expr q) (logical o a b) t
logical_asked q o a b t h = record {
  absent = λ e. absurd (true≢false (sym e));
  body = λ e. absurd (true≢false (sym e));
  optional = λ e. absurd (true≢false (sym e));
  number = λ asks e. no_number t (not_a_number q t asks h);
  spelled = λ s e. absurd (cc e);
  plain = refl;
}

pub conditional_asked : (q : Seat) (a b : Tree) → suits q b ≡ true → AskedAlike (Expr q) (conditional a b b) b
conditional_asked q a b h = record {
  absent = λ e. absurd (true≢false (sym e));
  body = λ e. absurd (true≢false (sym e));
  optional = λ e. absurd (true≢false (sym e));
  number = λ asks e. no_number b (not_a_number q b asks h);
  spelled = λ s e. absurd (cc e);
  plain = refl;
}

pub statement_asked : (q : StmtSeat) (a : Tree) → AskedAlike (Stmt q) (expression_statement a) empty_statement
statement_asked q a = record {
  absent = λ e. absurd (true≢false (sym e));
  body = λ e. absurd (true≢false (sym e));
  optional = λ e. absurd (true≢false (sym e));
  number = λ asks e. refl;
  spelled = λ s e. absurd (cc e);
  plain = refl;
}
