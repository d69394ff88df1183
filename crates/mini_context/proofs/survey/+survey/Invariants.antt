use Rattle.std.proofs.Common.{◌+◌, ◌*◌}
use Rattle.mini_model.specs.Tree.{node_count}
use Rattle.mini_context.specs.Visits.{below, visits_from, Surveyed}
use Rattle.mini_context.proofs.Gathering.{Until}
use Rattle.mini_context.proofs.survey.+survey.Given as goal

abbrev pub decreases-survey_node : goal.decreases-survey_node
decreases-survey_node l = 2 * node_count l.node.now + 1

abbrev pub decreases-survey_children : goal.decreases-survey_children
decreases-survey_children l = 2 * node_count l.node.now

abbrev pub invariant-survey_children-loop-at : goal.invariant-survey_children-loop-at
invariant-survey_children-loop-at l = Until Surveyed (visits_from (below l.standing l.node)) l.nodes l.at l.initial.tables l.tables
