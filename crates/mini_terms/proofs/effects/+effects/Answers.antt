use Rattle.std.proofs.Common.{◌∙◌, ap, sym, arith}
use Rattle.mini_node.specs.Walks.{from_first}
use Rattle.mini_terms.specs.Effects.{all_true, each_ef, ef}
use Rattle.mini_terms.proofs.Children.{effect_free_stops, effect_free_goes_on, effect_free_ends}
use Rattle.mini_terms.proofs.effects.+effects.Goals as goal

pub are_effect_free-loop-at-init : goal.are_effect_free-loop-at-init
are_effect_free-loop-at-init t c = ap (λ us. all_true (each_ef c.args.asked us)) (from_first c.args.nodes.now)

pub are_effect_free-returns-then-not-is_effect_free : goal.are_effect_free-returns-then-not-is_effect_free
are_effect_free-returns-then-not-is_effect_free t c = effect_free_stops c.args.asked c.args.nodes.now c.loop-at.at (omega arith) (sym (c.is_effect_free.ensures ∙ ap (ef c.args.asked) c.child.ensures.value) ∙ c.if-not-is_effect_free.true) c.loop-at.invariant

pub are_effect_free-loop-at-preserved : goal.are_effect_free-loop-at-preserved
are_effect_free-loop-at-preserved t c = effect_free_goes_on c.args.asked c.args.nodes.now c.loop-at.at (omega arith) (sym (c.is_effect_free.ensures ∙ ap (ef c.args.asked) c.child.ensures.value) ∙ c.if-not-is_effect_free.false) c.loop-at.invariant

pub are_effect_free-returns : goal.are_effect_free-returns
are_effect_free-returns t c = effect_free_ends c.args.asked c.args.nodes.now c.loop-at.at (omega arith) c.loop-at.invariant
