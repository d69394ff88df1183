use Rattle.std.proofs.Common.{arith}
use Rattle.mini_run.proofs.Spelled.{edition_one}
use Rattle.mini_run.proofs.choice.read_edition.Goals as goal

pub returns-in_err-edition : goal.returns-in_err-edition
returns-in_err-edition c = rw c.from_residual.ensures (λ n some small. c.in_err-edition.ensures n (omega arith))

pub returns-in_default : goal.returns-in_default
returns-in_default c n some small is = omega (arith, edition_one c.args.word.now c.in_ok-edition.edition n c.in_ok-edition.ensures (omega arith) is small)

pub returns-in_default-2 : goal.returns-in_default-2
returns-in_default-2 c n some small is = omega (arith, edition_one c.args.word.now c.in_ok-edition.edition n c.in_ok-edition.ensures (omega arith) is small)
