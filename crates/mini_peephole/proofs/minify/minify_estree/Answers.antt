use Rattle.mini_peephole.proofs.Answered.{minified_is_faithful, minified_is_bounded, minified_comes_back}
use Rattle.mini_peephole.proofs.minify.minify_estree.Goals as goal

pub returns-clause-faithful : goal.returns-clause-faithful
returns-clause-faithful c = minified_is_faithful _ _ _ c.requires c.minify_with.ensures.rewritten

pub returns-clause-passes : goal.returns-clause-passes
returns-clause-passes c = minified_is_bounded _ _ _ c.minify_with.ensures.rewritten

pub returns-clause-again : goal.returns-clause-again
returns-clause-again c = minified_comes_back _ _ _ c.requires c.minify_with.ensures.rewritten
