use Rattle.std.proofs.Common.{ap, ◌∙◌, sym, subst, inl, ◌<◌}
use Rattle.mini_model.specs.Tree.{children, count}
use Rattle.mini_unused.specs.Allowed.{switches_of}
use Rattle.mini_inside.specs.Holding.{has_head}
use Rattle.mini_inside.proofs.Heads.{of_both}
use Rattle.mini_inside.proofs.holding.remove_in_head.Goals as goal

pub returns-then-remove_idle_in_head : goal.returns-then-remove_idle_in_head
returns-then-remove_idle_in_head c = inl c.if-remove_idle_in_head.ensures

pub substitute_next_in_head-requires-clause-head : goal.substitute_next_in_head-requires-clause-head
substitute_next_in_head-requires-clause-head c = ap has_head c.if-remove_idle_in_head.ensures.0 ∙ c.requires.head

pub substitute_next_in_head-requires-clause-parts : goal.substitute_next_in_head-requires-clause-parts
substitute_next_in_head-requires-clause-parts c = subst (λ t. 0 < count (children t)) (sym c.if-remove_idle_in_head.ensures.0) c.requires.parts

pub returns : goal.returns
returns c = of_both (switches_of c.args.context.now.options) c.args.node.now c.remove_idle_in_head.new.node c.substitute_next_in_head.new.node c.substitute_next_in_head.result c.if-remove_idle_in_head.ensures c.substitute_next_in_head.ensures
