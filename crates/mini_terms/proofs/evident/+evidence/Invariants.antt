use Rattle.std.proofs.Common.{◌+◌, ◌*◌}
use Rattle.mini_model.specs.Tree.{node_count, node_counts}
use Rattle.mini_terms.proofs.Pieces.{Between}
use Rattle.mini_terms.proofs.evident.+evidence.Given as goal

abbrev pub decreases-evidence_of : goal.decreases-evidence_of
decreases-evidence_of l = 4 * node_count l.node.now + 2

abbrev pub decreases-operator_evidence : goal.decreases-operator_evidence
decreases-operator_evidence l = 4 * node_count l.node.now + 1

abbrev pub decreases-logical_evidence : goal.decreases-logical_evidence
decreases-logical_evidence l = 4 * node_count l.node.now + 1

abbrev pub decreases-conditional_evidence : goal.decreases-conditional_evidence
decreases-conditional_evidence l = 4 * node_count l.node.now + 1

abbrev pub decreases-template_evidence : goal.decreases-template_evidence
decreases-template_evidence l = 4 * node_count l.node.now + 1

abbrev pub decreases-child_evidence : goal.decreases-child_evidence
decreases-child_evidence l = 4 * node_count l.node.now

abbrev pub decreases-last_evidence : goal.decreases-last_evidence
decreases-last_evidence l = 4 * node_count l.node.now

abbrev pub decreases-units_between : goal.decreases-units_between
decreases-units_between l = 4 * node_counts l.parts.now + 4

abbrev pub decreases-with_part : goal.decreases-with_part
decreases-with_part l = 4 * node_count l.part.now + 3

abbrev pub invariant-units_between-loop-at : goal.invariant-units_between-loop-at
invariant-units_between-loop-at l = Between l.pieces l.parts l.at l.units
