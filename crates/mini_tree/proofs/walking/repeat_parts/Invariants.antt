use Rattle.mini_tree.specs.Context.{KnowsAsBefore, ByKnown}
use Rattle.mini_tree.proofs.Walks.{TriedTo}
use Rattle.mini_tree.proofs.walking.repeat_parts.Given as goal

abbrev pub invariant-loop-at : goal.invariant-loop-at
invariant-loop-at g l = record {
  known : KnowsAsBefore g.C.Context.knows l.fn.context l.context;
  tried : ByKnown g.C.Context.knows l.fn.context (λ o q. TriedTo (g.R.Rule.gives o q) (g.R.Rule.rests o q) l.place l.fn.node l.node);
}
