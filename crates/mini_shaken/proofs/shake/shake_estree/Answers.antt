use Rattle.mini_writer.proofs.Few.{fitting_is_countable}
use Rattle.mini_peephole.proofs.Written.{is_read}
use Rattle.mini_shaken.proofs.Answered.{answer_is_shaken}
use Rattle.mini_shaken.proofs.shake.shake_estree.Goals as goal

pub shake_read-requires-clause-shaped : goal.shake_read-requires-clause-shaped
shake_read-requires-clause-shaped c = (is_read _ _ _ _ c.in_ok-read.ensures.tree).shaped

pub shake_read-requires-clause-symbols : goal.shake_read-requires-clause-symbols
shake_read-requires-clause-symbols c = (fitting_is_countable _ _ _ _ c.requires c.in_ok-read.ensures.tree).symbols

pub shake_read-requires-clause-references : goal.shake_read-requires-clause-references
shake_read-requires-clause-references c = (fitting_is_countable _ _ _ _ c.requires c.in_ok-read.ensures.tree).references

pub returns-clause-shaken : goal.returns-clause-shaken
returns-clause-shaken c = answer_is_shaken _ _ _ _ _ c.requires c.in_ok-read.ensures.tree c.shake_read.ensures.ok
