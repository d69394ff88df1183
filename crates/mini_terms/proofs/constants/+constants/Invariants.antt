use Rattle.std.proofs.Common.{◌+◌, ◌*◌}
use Rattle.mini_model.specs.Tree.{node_count, node_counts}
use Rattle.mini_terms.specs.Constant.{constant}
use Rattle.mini_terms.proofs.Joined.{Between}
use Rattle.mini_terms.proofs.constants.+constants.Given as goal

abbrev pub decreases-constant_value : goal.decreases-constant_value
decreases-constant_value l = 4 * node_count l.node.now + 2

abbrev pub decreases-operator_constant : goal.decreases-operator_constant
decreases-operator_constant l = 4 * node_count l.node.now + 1

abbrev pub decreases-choice_constant : goal.decreases-choice_constant
decreases-choice_constant l = 4 * node_count l.node.now + 1

abbrev pub decreases-branch_constant : goal.decreases-branch_constant
decreases-branch_constant l = 4 * node_count l.node.now + 1

abbrev pub decreases-key_constant : goal.decreases-key_constant
decreases-key_constant l = 4 * node_count l.node.now + 1

abbrev pub decreases-template_constant : goal.decreases-template_constant
decreases-template_constant l = 4 * node_count l.node.now + 1

abbrev pub decreases-child_constant : goal.decreases-child_constant
decreases-child_constant l = 4 * node_count l.node.now

abbrev pub decreases-last_constant : goal.decreases-last_constant
decreases-last_constant l = 4 * node_count l.node.now

abbrev pub decreases-text_between : goal.decreases-text_between
decreases-text_between l = 4 * node_counts l.parts.now + 4

abbrev pub decreases-with_part : goal.decreases-with_part
decreases-with_part l = 4 * node_count l.part.now + 3

abbrev pub invariant-text_between-loop-at : goal.invariant-text_between-loop-at
invariant-text_between-loop-at l = Between constant l.pieces l.parts l.at l.text
