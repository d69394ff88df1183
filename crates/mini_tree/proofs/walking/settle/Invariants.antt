use Rattle.mini_model.specs.Weight.{weight}
use Rattle.mini_tree.specs.Context.{KnowsAsBefore, ByKnown}
use Rattle.mini_tree.proofs.Walks.{HereTo}
use Rattle.mini_tree.proofs.walking.settle.Given as goal

abbrev pub invariant-again : goal.invariant-again
invariant-again g l = record {
  known : KnowsAsBefore g.C.Context.knows l.fn.context l.context;
  here : ByKnown g.C.Context.knows l.fn.context (λ o q. HereTo (g.R.Rule.gives o q) (g.R.Rule.rests o q) l.place l.fn.node l.node l.changed);
}

abbrev pub decreases-again : goal.decreases-again
decreases-again g l = weight l.place l.node
