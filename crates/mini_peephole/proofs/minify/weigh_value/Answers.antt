use Rattle.mini_writer.proofs.Few.{fitting_is_countable}
use Rattle.mini_peephole.proofs.Answered.{answer_is_weighed}
use Rattle.mini_peephole.proofs.minify.weigh_value.Goals as goal

pub weigh_read-requires-clause-symbols : goal.weigh_read-requires-clause-symbols
weigh_read-requires-clause-symbols c = (fitting_is_countable _ _ _ _ c.requires c.in_ok-read.ensures.tree).symbols

pub weigh_read-requires-clause-references : goal.weigh_read-requires-clause-references
weigh_read-requires-clause-references c = (fitting_is_countable _ _ _ _ c.requires c.in_ok-read.ensures.tree).references

pub returns-clause-weighed : goal.returns-clause-weighed
returns-clause-weighed c = answer_is_weighed _ _ _ _ _ c.requires c.in_ok-read.ensures.tree c.weigh_read.ensures.ok
