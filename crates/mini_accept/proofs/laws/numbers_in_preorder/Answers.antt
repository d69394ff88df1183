use Rattle.mini_accept.proofs.Numbers.{program_numbered}
use Rattle.mini_accept.proofs.laws.numbers_in_preorder.Goals as goal

pub returns : goal.returns
returns c = program_numbered
