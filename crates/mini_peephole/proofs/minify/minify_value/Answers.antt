use Rattle.mini_writer.proofs.Few.{fitting_is_countable}
use Rattle.mini_peephole.specs.Rules.{AllGives, AllRests}
use Rattle.mini_peephole.proofs.Answered.{answer_is_minified, minified_is_faithful, minified_is_bounded, minified_comes_back}
use Rattle.mini_peephole.proofs.minify.minify_value.Goals as goal

pub minify_read-requires-clause-symbols : goal.minify_read-requires-clause-symbols
minify_read-requires-clause-symbols c = (fitting_is_countable _ _ _ _ c.requires c.in_ok-read.ensures.tree).symbols

pub minify_read-requires-clause-references : goal.minify_read-requires-clause-references
minify_read-requires-clause-references c = (fitting_is_countable _ _ _ _ c.requires c.in_ok-read.ensures.tree).references

pub returns-clause-rewritten : goal.returns-clause-rewritten
returns-clause-rewritten c = answer_is_minified AllGives AllRests _ _ _ _ _ c.in_ok-read.ensures.tree c.minify_read.ensures.ok

pub returns-clause-faithful : goal.returns-clause-faithful
returns-clause-faithful c = minified_is_faithful _ _ _ c.requires (returns-clause-rewritten c)

pub returns-clause-passes : goal.returns-clause-passes
returns-clause-passes c = minified_is_bounded _ _ _ (returns-clause-rewritten c)

pub returns-clause-again : goal.returns-clause-again
returns-clause-again c = minified_comes_back _ _ _ c.requires (returns-clause-rewritten c)
