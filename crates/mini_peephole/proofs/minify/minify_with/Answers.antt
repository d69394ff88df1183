use Rattle.mini_writer.proofs.Few.{fitting_is_countable}
use Rattle.mini_peephole.proofs.Answered.{answer_is_minified}
use Rattle.mini_peephole.proofs.minify.minify_with.Goals as goal

pub minify_read-requires-clause-symbols : goal.minify_read-requires-clause-symbols
minify_read-requires-clause-symbols g c = (fitting_is_countable _ _ _ _ c.requires c.in_ok-read.ensures.tree).symbols

pub minify_read-requires-clause-references : goal.minify_read-requires-clause-references
minify_read-requires-clause-references g c = (fitting_is_countable _ _ _ _ c.requires c.in_ok-read.ensures.tree).references

pub returns-clause-rewritten : goal.returns-clause-rewritten
returns-clause-rewritten g c = answer_is_minified _ _ _ _ _ _ _ c.in_ok-read.ensures.tree c.minify_read.ensures.ok
