use Rattle.std.proofs.Common.{◌-◌, ◌∙◌, sym, ap, arith}
use Rattle.mini_model.specs.declared.place.Position.TheVariants.{Expr}
use Rattle.mini_model.specs.Tree.{children, child_or_absent, count, node_counts}
use Rattle.mini_model.specs.Position.{left_operand_seat, right_operand_seat, branch_seat}
use Rattle.mini_model.specs.Weight.{capped, weight}
use Rattle.mini_node.specs.Children.{part}
use Rattle.mini_logic.specs.MinimizeNegation.{leading, told}
use Rattle.mini_logic.proofs.SequenceEnds.{children_fewer}
use Rattle.mini_logic.proofs.Weights.{weight_logical}
use Rattle.mini_logic.proofs.WholeForms.{several_parts, told_weighs, told_junction, told_reversed, told_literal, told_other}
use Rattle.mini_logic.proofs.whole.+told_weight.Goals as goal

pub returns-in-Some : goal.returns-in-Some
returns-in-Some t c =
    let o = c.in-Some.operator in
    let s = c.args.seat in
    let e = c.args.expression.now in
    let ls = left_operand_seat o s in
    let rs = right_operand_seat o s in
    let left = c.told_weight-left.ensures ∙ ap (λ q. capped (weight (Expr q) (told q c.child.result.now))) c.left_operand.ensures ∙ ap (λ u. capped (weight (Expr ls) (told ls u))) c.child.ensures.value in
    let right = c.told_weight-right.ensures ∙ ap (λ q. capped (weight (Expr q) (told q c.child-in-Some.result.now))) c.right_operand.ensures ∙ ap (λ u. capped (weight (Expr rs) (told rs u))) c.child-in-Some.ensures.value in
    let whole = ap (weight (Expr s)) (told_junction s e o (sym c.turned_junction.ensures.kind ∙ c.in-Some.is)) ∙ weight_logical o s (told ls (part e 0)) (told rs (part e 1)) in
    omega (arith, left, right, whole, c.own_weight.ensures, c.saturating_add.ensures, c.saturating_add-in-Some.ensures)

pub told_weight-last-requires : goal.told_weight-last-requires
told_weight-last-requires t c =
    let list = children_fewer c.child-then-is_several.result.now in
    (omega (arith, c.decreases, c.child-then-is_several.ensures.smaller, c.child-then-is_several-2.ensures.smaller, ap node_counts c.children-parts.ensures, list), tt)

pub returns-then-is_several : goal.returns-then-is_several
returns-then-is_several t c =
    let s = c.args.seat in
    let e = c.args.expression.now in
    let b = branch_seat s in
    let is = sym c.is_several.ensures.kind ∙ c.if-is_several.true in
    let parts = c.children-parts.ensures ∙ ap children c.child-then-is_several.ensures.value in
    let some = several_parts e c.children-parts.result.now is parts in
    let last = c.told_weight-last.ensures ∙ ap (λ q. capped (weight (Expr q) (told q c.child-then-is_several-2.result.now))) c.branch-seat.ensures ∙ ap (λ u. capped (weight (Expr b) (told b u))) (c.child-then-is_several-2.ensures.value ∙ ap (λ us. child_or_absent us (c.len.result - 1)) parts) in
    let before = ap (λ us. capped (leading (count us - 1) us)) parts in
    let whole = told_weighs s e (c.len.result - 1) is (omega (arith, some, c.len.ensures, ap count parts)) in
    let many = c.len.ensures ∙ ap count parts in
    let through = ap (λ n. leading (n - 1) (children (part e 0))) many in
    omega (arith, last, before, through, whole, c.leading_weight.ensures, c.sequence_weight.ensures, many, c.saturating_add-then-is_several.ensures, c.saturating_add-then-is_several-2.ensures)

pub returns-in-Some-reverse_operator : goal.returns-in-Some-reverse_operator
returns-in-Some-reverse_operator t c =
    let is = sym c.reverse_operator.ensures.kind ∙ c.in-Some-reverse_operator.is in
    c.weight.ensures ∙ ap capped (sym (told_reversed c.args.seat c.args.expression.now c.in-Some-reverse_operator.field-0 is).1)

pub returns-in-Some-boolean : goal.returns-in-Some-boolean
returns-in-Some-boolean t c =
    let is = sym c.boolean.ensures ∙ c.in-Some-boolean.is in
    c.weight-in-Some-boolean.ensures ∙ ap capped (sym (told_literal c.args.seat c.args.expression.now c.in-Some-boolean.field-0 is).1)

pub returns : goal.returns
returns t c =
    let is = told_other c.args.seat c.args.expression.now (sym c.turned_junction.ensures.kind ∙ c.in_default.is) (sym c.is_several.ensures.kind ∙ c.if-is_several.false) (sym c.reverse_operator.ensures.kind ∙ c.in_default-reverse_operator.is) (sym c.boolean.ensures ∙ c.in_default-boolean.is) in
    c.lighter_negation_weight.ensures ∙ ap (λ u. capped (weight (Expr c.args.seat) u)) (sym is)
