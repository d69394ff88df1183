use Rattle.std.proofs.Common.{◌∙◌, ap}
use Rattle.std.proofs.lemmas.Result.{on_ok_weaker}
use Rattle.mini_laws.specs.NameBodies.{frame_of_body}
use Rattle.mini_context.specs.Visits.{frame_in}
use Rattle.mini_context.proofs.Surveys.{bodied, unbodied}
use Rattle.mini_context.proofs.survey.mark_body.Goals as goal

pub returns-in_default : goal.returns-in_default
returns-in_default c = record {
  this_events = unbodied (λ f. f.binds_this) c.args.standing c.args.node.now c.shape.result.now c.number.result c.numbering_of.result c.args.this_events.now.items c.shape.ensures c.number.ensures c.numbering_of.ensures c.in_default.not-Body;
  arguments = unbodied (λ f. f.has_arguments) c.args.standing c.args.node.now c.shape.result.now c.number.result c.numbering_of.result c.args.arguments.now.items c.shape.ensures c.number.ensures c.numbering_of.ensures c.in_default.not-Body;
}

pub returns-in_ok-mark_number-clause-this_events : goal.returns-in_ok-mark_number-clause-this_events
returns-in_ok-mark_number-clause-this_events c =
    let marked = bodied (λ f. f.binds_this) c.args.standing c.args.node.now c.shape.result.now c.number.result c.numbering_of.result c.number-in-Body.result c.frame_in_body-inside.result.binds_this c.args.this_events.now.items c.mark_number.new.marks.items
    c.shape.ensures c.number.ensures c.numbering_of.ensures c.in-Body.is c.number-in-Body.ensures (ap (λ f. f.binds_this) c.frame_in_body-inside.ensures ∙ ap (λ h. (frame_of_body h (frame_in c.args.standing.frame)).binds_this) c.shape-in-Body.ensures) c.in_ok-mark_number.ensures in
    on_ok_weaker c.mark_number-in-Body.result (λ e. marked) c.mark_number-in-Body.ensures

pub returns-in_ok-mark_number-clause-arguments : goal.returns-in_ok-mark_number-clause-arguments
returns-in_ok-mark_number-clause-arguments c =
    on_ok_weaker c.mark_number-in-Body.result (bodied (λ f. f.has_arguments) c.args.standing c.args.node.now c.shape.result.now c.number.result c.numbering_of.result c.number-in-Body-2.result c.frame_in_body-inside.result.has_arguments c.args.arguments.now.items c.mark_number-in-Body.new.marks.items
    c.shape.ensures c.number.ensures c.numbering_of.ensures c.in-Body.is c.number-in-Body-2.ensures (ap (λ f. f.has_arguments) c.frame_in_body-inside.ensures ∙ ap (λ h. (frame_of_body h (frame_in c.args.standing.frame)).has_arguments) c.shape-in-Body.ensures)) c.mark_number-in-Body.ensures
