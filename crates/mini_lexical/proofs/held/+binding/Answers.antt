use Rattle.std.proofs.Common.{◌-◌, arith, length}
use Rattle.mini_lexical.proofs.HeldNames.{rest_smaller}
use Rattle.mini_lexical.proofs.held.+binding.Goals as goal

pub all_bind_only-all_bind_only-requires : goal.all_bind_only-all_bind_only-requires
all_bind_only-all_bind_only-requires g t c κs within = (omega (arith, c.decreases, rest_smaller (length c.args.nodes.now - 1) c.args.nodes.now c.in-len1-up.len_at_least), within)
