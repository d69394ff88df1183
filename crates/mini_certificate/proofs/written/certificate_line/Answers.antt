use Rattle.serde_json.specs.View.{view}
use Rattle.mini_certificate.proofs.Plain.{certificate_plain}
use Rattle.mini_certificate.proofs.written.certificate_line.Goals as goal

pub line-requires : goal.line-requires
line-requires c = rw c.in_ok-value.ensures.is (certificate_plain (view c.args.program) c.args.log.now c.requires)
