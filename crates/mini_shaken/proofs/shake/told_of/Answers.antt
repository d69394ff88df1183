use Rattle.std.proofs.Common.{◌∙◌, ap}
use Rattle.serde_json.specs.Written.{has_float}
use Rattle.mini_peephole.proofs.Floats.{program_plain}
use Rattle.mini_shaken.proofs.shake.told_of.Goals as goal

pub returns-clause-plain : goal.returns-clause-plain
returns-clause-plain c = ap has_float c.in_ok-program.ensures ∙ program_plain _
