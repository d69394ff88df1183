use Rattle.std.proofs.Common.{◌∙◌, ap, sym, arith}
use Rattle.mini_node.specs.Walks.{from_first}
use Rattle.mini_terms.specs.Kind.{is_primitive, kind, each_kind}
use Rattle.mini_terms.specs.Effects.{all_primitive}
use Rattle.mini_terms.proofs.Children.{primitive_stops, primitive_goes_on, primitive_ends}
use Rattle.mini_terms.proofs.effects.are_primitive.Goals as goal

pub loop-at-init : goal.loop-at-init
loop-at-init c = ap (λ us. all_primitive (each_kind us)) (from_first c.args.nodes.now)

pub returns-then-not-is_primitive : goal.returns-then-not-is_primitive
returns-then-not-is_primitive c = primitive_stops c.args.nodes.now c.loop-at.at (omega arith) (sym (c.is_primitive.ensures ∙ ap is_primitive (c.kind_of.ensures ∙ ap kind c.child.ensures.value)) ∙ c.if-not-is_primitive.true) c.loop-at.invariant

pub loop-at-preserved : goal.loop-at-preserved
loop-at-preserved c = primitive_goes_on c.args.nodes.now c.loop-at.at (omega arith) (sym (c.is_primitive.ensures ∙ ap is_primitive (c.kind_of.ensures ∙ ap kind c.child.ensures.value)) ∙ c.if-not-is_primitive.false) c.loop-at.invariant

pub returns : goal.returns
returns c = primitive_ends c.args.nodes.now c.loop-at.at (omega arith) c.loop-at.invariant
