use Rattle.std.proofs.Common.{arith}
use Rattle.mini_run.proofs.Spelled.{depth_one}
use Rattle.mini_run.proofs.choice.read_depth.Goals as goal

pub returns-in_err-depth : goal.returns-in_err-depth
returns-in_err-depth c = rw c.from_residual.ensures (λ n some small. c.in_err-depth.ensures n (omega arith))

pub returns-in_default : goal.returns-in_default
returns-in_default c n some small is = omega (arith, depth_one c.args.word.now c.in_ok-depth.depth n c.in_ok-depth.ensures (omega arith) is small)

pub returns-in_default-2 : goal.returns-in_default-2
returns-in_default-2 c n some small is = omega (arith, depth_one c.args.word.now c.in_ok-depth.depth n c.in_ok-depth.ensures (omega arith) is small)
