use Rattle.mini_certificate.proofs.Plain.{last_plain}
use Rattle.mini_certificate.proofs.written.last_line.Goals as goal

pub line-requires : goal.line-requires
line-requires c = rw c.in_ok-value.ensures (last_plain c.args.program.now)
