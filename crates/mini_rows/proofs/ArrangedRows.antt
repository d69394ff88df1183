-- Rows that build anew.
use Rattle.std.specs.Prelude.{◌≡◌, refl, true, []}
use Rattle.std.proofs.Common.{subst}
use Rattle.mini_model.specs.declared.operator.LogicalOperator.TheVariants.{Or, And}
use Rattle.mini_model.specs.declared.operator.UnaryOperator.TheVariants.{LogicalNot}
use Rattle.mini_model.specs.Tree.{none, ◌▸◌, absent, expression_statement}
use Rattle.mini_model.specs.Position.{statement_expression_seat, left_operand_seat}
use Rattle.mini_model.specs.Terms.{not_of}
use Rattle.mini_accept.specs.WellShaped.{fits}
use Rattle.mini_kept.proofs.Rows.{of_if, of_statement}
use Rattle.mini_rows.specs.Sketches.{AbsentPart, Unary, Logical, Conditional, OfExpression, If, Sketch, Parts, part, under, end, ◌▹◌, still}
use Rattle.mini_rows.specs.Arranged.{Row40Kept, Row82ElseKept, Row82AndKept, Row82OrKept}
use Rattle.mini_rows.proofs.ArrangedExpressions.{expressions_arranged}
use Rattle.mini_rows.proofs.ArrangedNegations.{negation_written}
use Rattle.mini_rows.proofs.ArrangedRewritten.{statements_rewritten, unchanged}
use Rattle.mini_rows.proofs.ArrangedStatements.{statements_arranged}

abbrev does : Sketch → Sketch
does s = under OfExpression (s ▹ end)

-- 40
abbrev negated_test : Sketch
negated_test = under Conditional (under (Unary LogicalNot) (part 0 ▹ end) ▹ part 1 ▹ part 2 ▹ end)

abbrev turned : Sketch
turned = under Conditional (part 0 ▹ part 2 ▹ part 1 ▹ end)

pub row_40_kept : Row40Kept
row_40_kept q n w r = expressions_arranged (record { trees = r.a ▸ r.b ▸ r.c ▸ none; lists = [] }) negated_test turned refl q n w r.shape r.written

-- 82
abbrev chosen : Sketch
chosen = under If (part 0 ▹ does (part 1) ▹ does (part 2) ▹ end)

abbrev choice : Sketch
choice = does (under Conditional (part 0 ▹ part 1 ▹ part 2 ▹ end))

pub row_82_else_kept : Row82ElseKept
row_82_else_kept q n w r = statements_arranged still (record { trees = r.a ▸ r.b ▸ r.c ▸ none; lists = [] }) (tt, tt, tt) chosen choice refl q n w r.shape r.written

abbrev guarded : Sketch
guarded = under If (part 0 ▹ does (part 1) ▹ under AbsentPart end ▹ end)

abbrev joined : Sketch
joined = does (under (Logical And) (part 0 ▹ part 1 ▹ end))

pub row_82_and_kept : Row82AndKept
row_82_and_kept q n w r = statements_arranged still (record { trees = r.a ▸ r.b ▸ none; lists = [] }) (tt, tt, tt) guarded joined refl q n w r.shape r.written

abbrev joined_or : Sketch
joined_or = does (under (Logical Or) (part 0 ▹ part 1 ▹ end))

pub row_82_or_kept : Row82OrKept
row_82_or_kept q n w r =
    let ps : Parts = record { trees = r.a ▸ r.b ▸ none; lists = [] } in
    let qs : Parts = record { trees = not_of (left_operand_seat Or statement_expression_seat) r.a ▸ r.b ▸ none; lists = [] } in
    statements_rewritten still ps qs (tt, tt, tt) (tt, tt, tt) guarded joined_or refl (negation_written (left_operand_seat Or statement_expression_seat) r.a, (unchanged r.b, tt)) q n w r.shape r.written (λ strict s e.
    let (takes, (test, body, last)) = of_if strict s r.a (expression_statement r.b) absent (subst (λ t. fits strict s t ≡ true) r.shape e) in
    (test, (of_statement strict r.b body, tt)))
