use Rattle.std.proofs.Common.{◌<◌, ◌≤◌, subst, arith}
use Rattle.std.proofs.lemmas.Result.{on_ok_weaker}
use Rattle.mini_model.specs.Tree.{count, first_or_absent}
use Rattle.mini_context.specs.Visits.{below, visits, visits_from, Surveyed}
use Rattle.mini_context.proofs.Gathering.{begins, turn, finished}
use Rattle.mini_context.proofs.Surveys.{surveys_add, visits_gather, surveyed_both, child_falls}
use Rattle.mini_context.proofs.survey.+survey.Goals as goal

pub survey_node-returns : goal.survey_node-returns
survey_node-returns t c = on_ok_weaker _ (surveyed_both c.args.standing c.args.node.now _ _ _ c.in_ok-visit.ensures) c.survey_children.ensures

pub survey_children-loop-at-init : goal.survey_children-loop-at-init
survey_children-loop-at-init t c = begins Surveyed (visits_from (below c.args.standing c.args.node.now)) c.children-nodes.result.now _

pub survey_children-survey_node-requires : goal.survey_children-survey_node-requires
survey_children-survey_node-requires t c =
    let inside : c.loop-at.at < count c.children-nodes.result.now = omega arith in
    (omega (arith, c.decreases, child_falls c.args.node.now c.children-nodes.result.now c.loop-at.at c.child.result.now c.children-nodes.ensures inside c.child.ensures.value), tt)

pub survey_children-loop-at-preserved : goal.survey_children-loop-at-preserved
survey_children-loop-at-preserved t c =
    let inside : c.loop-at.at < count c.children-nodes.result.now = omega arith in
    let stands = below c.args.standing c.args.node.now in
    turn Surveyed (λ i us. visits (stands i) (first_or_absent us)) (visits_from stands) surveys_add (visits_gather stands) c.children-nodes.result.now c.loop-at.at c.child.result.now _ _ _ inside c.child.ensures.value
    (subst (λ a. Surveyed (visits a c.child.result.now) c.loop-at.tables c.survey_node.new.tables) c.standing_below.ensures c.in_ok-survey_node.ensures) c.loop-at.invariant

pub survey_children-returns : goal.survey_children-returns
survey_children-returns t c =
    let over : count c.children-nodes.result.now ≤ c.loop-at.at = omega arith in
    let stands = below c.args.standing c.args.node.now in
    subst (λ us. Surveyed (visits_from stands 0 us) c.args.tables.now c.loop-at.tables) c.children-nodes.ensures
    (finished Surveyed (λ i us. visits (stands i) (first_or_absent us)) (visits_from stands) surveys_add (visits_gather stands) c.children-nodes.result.now c.loop-at.at _ _ over c.loop-at.invariant)
