use Rattle.std.proofs.Common.{◌∙◌, sym, ap, eqb-true, arith}
use Rattle.std.specs.Prelude.{◌+◌}
use Rattle.mini_model.specs.Tree.{count, shape_of, child_or_absent}
use Rattle.mini_terms.specs.Const.{text_of}
use Rattle.mini_terms.specs.Constant.{constant}
use Rattle.mini_terms.specs.Templates.{cooked_in, joined_text}
use Rattle.mini_terms.proofs.Joined.{one_more}
use Rattle.mini_terms.proofs.constants.+constants.Goals as goal

pub text_between-loop-at-preserved : goal.text_between-loop-at-preserved
text_between-loop-at-preserved t c =
    one_more constant c.args.pieces.now c.args.parts.now c.loop-at.at c.loop-at.text c.in_ok-text.text
    (eqb-true (count c.args.pieces.now) (count c.args.parts.now + 1) (sym c.are_round.ensures ∙ c.if-not-are_round.false)) (omega arith)
    (c.in_ok-text.ensures
    ∙ ap (λ p. joined_text (joined_text c.loop-at.text (cooked_in (shape_of p))) (text_of (constant c.child-in-loop-at.result.now))) c.child.ensures.value
    ∙ ap (λ a. joined_text (joined_text c.loop-at.text (cooked_in (shape_of (child_or_absent c.args.pieces.now c.loop-at.at)))) (text_of (constant a))) c.child-in-loop-at.ensures.value)
    c.loop-at.invariant
