use Rattle.std.proofs.Common.{◌∙◌, sym}
use Rattle.mini_inside.proofs.FurtherStack.{popped_node, left_of_pushed, none_popped}
use Rattle.mini_inside.proofs.stack.pop_above.Goals as goal

pub returns-in-Some-clause-list : goal.returns-in-Some-clause-list
returns-in-Some-clause-list c = λ a t e. left_of_pushed c.pop.new.self c.in-Some.last c.args.above.now a t (sym c.children_mut.ensures.value ∙ c.in-Some.ensures.value) e

pub returns-in-Some-clause-node : goal.returns-in-Some-clause-node
returns-in-Some-clause-node c = λ a t e. c.replace.ensures.after ∙ popped_node c.pop.new.self c.in-Some.last c.args.above.now a t (sym c.children_mut.ensures.value ∙ c.in-Some.ensures.value) e

pub returns-in_default-clause-list : goal.returns-in_default-clause-list
returns-in_default-clause-list c = λ a t e. absurd (none_popped c.args.above.now a t (sym c.children_mut.ensures.value ∙ c.in_default.ensures.value.0) e)

pub returns-in_default-clause-node : goal.returns-in_default-clause-node
returns-in_default-clause-node c = λ a t e. absurd (none_popped c.args.above.now a t (sym c.children_mut.ensures.value ∙ c.in_default.ensures.value.0) e)
