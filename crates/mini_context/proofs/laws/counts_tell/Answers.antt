use Rattle.mini_laws.specs.References.{reads, writes}
use Rattle.mini_context.proofs.Numbers.{counts_are_times}
use Rattle.mini_context.proofs.laws.counts_tell.Goals as goal

pub returns : goal.returns
returns c n t s h = (counts_are_times reads n t s h, counts_are_times writes n t s h)
