use Rattle.std.proofs.Common.{arith}
use Rattle.mini_run.proofs.Spelled.{count_one}
use Rattle.mini_run.proofs.choice.read_count.Goals as goal

pub returns-in_err-count : goal.returns-in_err-count
returns-in_err-count c = rw c.from_residual.ensures (λ n small. c.in_err-count.ensures n (omega arith))

pub returns-in_default : goal.returns-in_default
returns-in_default c n small is = omega (arith, count_one c.args.word.now c.in_ok-count.count n c.in_ok-count.ensures (omega arith) is small)
