use Rattle.mini_calls.proofs.OwnKeys.{held_own, target_own, doubled_own, declared_own}
use Rattle.mini_model.specs.declared.place.Position.TheVariants.{Elsewhere}
use Rattle.mini_steps.proofs.Called.{changing_if_ok, left, catches_called}
use Rattle.mini_steps.proofs.Held.{held_part}
use Rattle.std.proofs.lemmas.Result.{IfOk-weaker}
use Rattle.mini_steps.proofs.Families as falls
use Rattle.mini_steps.proofs.Families.{any}
use Rattle.mini_steps.proofs.Others.{no_part}
use Rattle.mini_stmt.specs.MinimizeStatements.{switches_of}
use Rattle.mini_steps.specs.declared.names.RuleName.TheVariants as name
use Rattle.mini_steps.proofs.calling.call_on_part.Goals as goal

pub returns-in-SubstituteAssignmentTargetPropertyProperty : goal.returns-in-SubstituteAssignmentTargetPropertyProperty
returns-in-SubstituteAssignmentTargetPropertyProperty c W = changing_if_ok (switches_of c.args.options) W c.args.rule name.SubstituteAssignmentTargetPropertyProperty Elsewhere _ _ c.args.node.now c.substitute_assignment_target_property_property.new.node c.in-SubstituteAssignmentTargetPropertyProperty.is held_own (λ n w r. (falls.held_key any W n w r).lighter) c.substitute_assignment_target_property_property.result c.substitute_assignment_target_property_property.ensures.tree c.substitute_assignment_target_property_property.ensures.said

pub returns-in-SubstituteAssignmentTargetProperty : goal.returns-in-SubstituteAssignmentTargetProperty
returns-in-SubstituteAssignmentTargetProperty c W = changing_if_ok (switches_of c.args.options) W c.args.rule name.SubstituteAssignmentTargetProperty Elsewhere _ _ c.args.node.now c.substitute_assignment_target_property.new.node c.in-SubstituteAssignmentTargetProperty.is target_own (λ n w r. (falls.target_key any W n w r).lighter) c.substitute_assignment_target_property.result c.substitute_assignment_target_property.ensures.tree c.substitute_assignment_target_property.ensures.said

pub returns-in-TryCompressAssignmentTargetProperty : goal.returns-in-TryCompressAssignmentTargetProperty
returns-in-TryCompressAssignmentTargetProperty c W = changing_if_ok (switches_of c.args.options) W c.args.rule name.TryCompressAssignmentTargetProperty Elsewhere _ _ c.args.node.now c.try_compress_assignment_target_property.new.node c.in-TryCompressAssignmentTargetProperty.is doubled_own (λ n w r. (falls.doubled any W n w r).lighter) c.try_compress_assignment_target_property.result c.try_compress_assignment_target_property.ensures.tree c.try_compress_assignment_target_property.ensures.said

pub returns-in-SubstituteBindingProperty : goal.returns-in-SubstituteBindingProperty
returns-in-SubstituteBindingProperty c W = changing_if_ok (switches_of c.args.options) W c.args.rule name.SubstituteBindingProperty Elsewhere _ _ c.args.node.now c.substitute_binding_property.new.node c.in-SubstituteBindingProperty.is declared_own (λ n w r. (falls.declared_key any W n w r).lighter) c.substitute_binding_property.result c.substitute_binding_property.ensures.tree c.substitute_binding_property.ensures.said

pub returns-in-SubstituteMethodDefinition : goal.returns-in-SubstituteMethodDefinition
returns-in-SubstituteMethodDefinition c W = changing_if_ok (switches_of c.args.options) W c.args.rule name.SubstituteMethodDefinition Elsewhere _ _ c.args.node.now c.substitute_method_definition.new.node c.in-SubstituteMethodDefinition.is held_own (λ n w r. (falls.held_key any W n w r).lighter) c.substitute_method_definition.result c.substitute_method_definition.ensures.tree c.substitute_method_definition.ensures.said

pub returns-in-SubstitutePropertyDefinition : goal.returns-in-SubstitutePropertyDefinition
returns-in-SubstitutePropertyDefinition c W = changing_if_ok (switches_of c.args.options) W c.args.rule name.SubstitutePropertyDefinition Elsewhere _ _ c.args.node.now c.substitute_property_definition.new.node c.in-SubstitutePropertyDefinition.is held_own (λ n w r. (falls.held_key any W n w r).lighter) c.substitute_property_definition.result c.substitute_property_definition.ensures.tree c.substitute_property_definition.ensures.said

pub returns-in_default : goal.returns-in_default
returns-in_default c W = left (switches_of c.args.options) W c.args.rule Elsewhere c.args.node.now (λ small w r l. no_part (switches_of c.args.options) c.args.rule c.args.node.now w c.in_default.not-SubstituteAssignmentTargetPropertyProperty c.in_default.not-SubstituteAssignmentTargetProperty c.in_default.not-TryCompressAssignmentTargetProperty c.in_default.not-SubstituteBindingProperty c.in_default.not-SubstituteMethodDefinition c.in_default.not-SubstitutePropertyDefinition c.in_default.not-SubstituteCatchClause c.in_default.not-MinimizeStatements r)

pub returns-in-SubstituteCatchClause : goal.returns-in-SubstituteCatchClause
returns-in-SubstituteCatchClause c W = catches_called (switches_of c.args.options) W c.args.rule c.args.node.now c.substitute_catch_clause.new.node c.in-SubstituteCatchClause.is c.substitute_catch_clause.result c.substitute_catch_clause.ensures

pub returns-in-MinimizeStatements : goal.returns-in-MinimizeStatements
returns-in-MinimizeStatements c W = IfOk-weaker c.call_on_list.result _ _ (held_part (switches_of c.args.options) W c.args.rule c.args.node.now c.call_on_list.new.node c.in-MinimizeStatements.is) c.call_on_list.ensures
