use Rattle.std.proofs.Common.{◌∙◌, ap, sym, arith}
use Rattle.mini_node.specs.Walks.{from_first}
use Rattle.mini_fold.specs.FoldSequences.{is_several, any_of}
use Rattle.mini_fold.proofs.Sequences.{stops, goes_on, ends}
use Rattle.mini_fold.proofs.rewrites.fold_sequences.sequence_at.Goals as goal

pub loop-at-init : goal.loop-at-init
loop-at-init c = ap (any_of is_several) (from_first c.args.nodes.now)

pub returns-then-is_several-clause-any : goal.returns-then-is_several-clause-any
returns-then-is_several-clause-any c = stops c.args.nodes.now c.loop-at.at (omega arith) (sym (c.is_several.ensures ∙ ap is_several c.child.ensures.value) ∙ c.if-is_several.true) c.loop-at.invariant

pub loop-at-preserved : goal.loop-at-preserved
loop-at-preserved c = goes_on c.args.nodes.now c.loop-at.at (omega arith) (sym (c.is_several.ensures ∙ ap is_several c.child.ensures.value) ∙ c.if-is_several.false) c.loop-at.invariant

pub returns-clause-any : goal.returns-clause-any
returns-clause-any c = ends c.args.nodes.now c.loop-at.at (omega arith) c.loop-at.invariant
