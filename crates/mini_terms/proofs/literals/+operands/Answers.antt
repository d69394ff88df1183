use Rattle.std.proofs.Common.{◌∙◌, sym, ap, eqb-true, arith}
use Rattle.std.specs.Prelude.{◌+◌}
use Rattle.mini_model.specs.Tree.{count, shape_of, child_or_absent}
use Rattle.mini_terms.specs.Calculated.{value_within}
use Rattle.mini_terms.specs.Const.{text_of}
use Rattle.mini_terms.specs.Templates.{cooked_in, joined_text}
use Rattle.mini_terms.specs.Values.{value, value_in}
use Rattle.mini_terms.proofs.Deep.{calculated_first}
use Rattle.mini_terms.proofs.Joined.{one_more}
use Rattle.mini_terms.proofs.literals.+operands.Goals as goal

pub value_within-returns-in-Some : goal.value_within-returns-in-Some
value_within-returns-in-Some t c = calculated_first c.args.is_free c.args.node.now c.args.depth (value c.in-Some.value) c.if-depth-eq0.false (sym (ap value_in c.in-Some.is) ∙ c.in_ok-value.ensures)

pub text_between-loop-at-preserved : goal.text_between-loop-at-preserved
text_between-loop-at-preserved t c =
    let f = value_within c.args.is_free c.args.depth in
    one_more f c.args.pieces.now c.args.parts.now c.loop-at.at c.loop-at.text c.in_ok-text.text
    (eqb-true (count c.args.pieces.now) (count c.args.parts.now + 1) (sym c.are_round.ensures ∙ c.if-not-are_round.false)) (omega arith)
    (c.in_ok-text.ensures
    ∙ ap (λ p. joined_text (joined_text c.loop-at.text (cooked_in (shape_of p))) (text_of (f c.child-in-loop-at.result.now))) c.child.ensures.value
    ∙ ap (λ a. joined_text (joined_text c.loop-at.text (cooked_in (shape_of (child_or_absent c.args.pieces.now c.loop-at.at)))) (text_of (f a))) c.child-in-loop-at.ensures.value)
    c.loop-at.invariant
