use Rattle.std.proofs.Common.{◌+◌, ◌*◌}
use Rattle.mini_terms.specs.Calculated.{value_within}
use Rattle.mini_terms.proofs.Joined.{Between}
use Rattle.mini_terms.proofs.literals.+operands.Given as goal

abbrev pub decreases-value_within : goal.decreases-value_within
decreases-value_within l = 8 * l.depth

abbrev pub decreases-other_value : goal.decreases-other_value
decreases-other_value l = 8 * l.depth + 7

abbrev pub decreases-calculated_over : goal.decreases-calculated_over
decreases-calculated_over l = 8 * l.depth + 6

abbrev pub decreases-chosen_over : goal.decreases-chosen_over
decreases-chosen_over l = 8 * l.depth + 6

abbrev pub decreases-unary_value : goal.decreases-unary_value
decreases-unary_value l = 8 * l.depth + 1

abbrev pub decreases-binary_value : goal.decreases-binary_value
decreases-binary_value l = 8 * l.depth + 2

abbrev pub decreases-binary_with : goal.decreases-binary_with
decreases-binary_with l = 8 * l.depth + 1

abbrev pub decreases-logical_value : goal.decreases-logical_value
decreases-logical_value l = 8 * l.depth + 2

abbrev pub decreases-logical_with : goal.decreases-logical_with
decreases-logical_with l = 8 * l.depth + 1

abbrev pub decreases-conditional_value : goal.decreases-conditional_value
decreases-conditional_value l = 8 * l.depth + 2

abbrev pub decreases-branches_value : goal.decreases-branches_value
decreases-branches_value l = 8 * l.depth + 1

abbrev pub decreases-last_value : goal.decreases-last_value
decreases-last_value l = 8 * l.depth + 1

abbrev pub decreases-template_value : goal.decreases-template_value
decreases-template_value l = 8 * l.depth + 3

abbrev pub decreases-text_between : goal.decreases-text_between
decreases-text_between l = 8 * l.depth + 2

abbrev pub decreases-with_part : goal.decreases-with_part
decreases-with_part l = 8 * l.depth + 1

abbrev pub invariant-text_between-loop-at : goal.invariant-text_between-loop-at
invariant-text_between-loop-at l = Between (value_within l.is_free l.depth) l.pieces l.parts l.at l.text
